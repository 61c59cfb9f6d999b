-- What is written reads back.
use Rattle.std.specs.Prelude.{map}
use Rattle.std.proofs.Common.{◌≡◌, ◌+◌, ◌-◌, ◌<◌, ◌≤◌, ◌++◌, ◌∷◌, ◌∙◌, [], ℕ, List, None, refl, sym, ap, false, append_assoc, suc, zero, length, arith, zero-add, take, get_or}
use Rattle.std.proofs.lemmas.List.{append-nil, map-append, take_more}
use Rattle.csv.specs.Machine.{next_record, ends_at_end}
use Rattle.csv.specs.Reading.{default_config, records, records_from, Reached, AreRecords, strip_bom}
use Rattle.csv.specs.Writing.{read_back, row_text, default_writer}
use Rattle.csv.specs.declared.parser.Config.{Config}
use Rattle.csv.specs.declared.parser.State.{State}
use Rattle.csv.specs.declared.parser.State.TheVariants as st
use Rattle.csv.proofs.RoundTrip.{read-write}
use Rattle.csv_rows.specs.Rows.{rows_of, rows_text}
use Rattle.csv_rows.proofs.Ends.{next-leaves}

-- records reached take a byte each at least
record Took (rows : List (List (List ℕ))) (xs ys : List ℕ) (s2 : State) : Type 0 where
  bytes : length rows + length ys ≤ length xs
  between : ends_at_end s2 ≡ false

reached-took : (cfg : Config) (s : State) (xs : List ℕ) (rows : List (List (List ℕ))) (s2 : State) (ys : List ℕ) → ends_at_end s ≡ false → Reached cfg s xs rows s2 ys → Took rows xs ys s2
unfolding Reached
reached-took cfg s xs [] s2 ys n h = rw (← h.0, ← h.1) record { bytes = omega arith; between = n }
reached-took cfg s xs (r ∷ rs) s2 ys n h =
    let l = next-leaves cfg s [] [] xs h.0 h.1 in
    let t = reached-took cfg h.0.1 h.0.2 rs s2 ys l.between h.3 in
    record { bytes = omega (arith, l.fewer_from_start n, t.bytes); between = t.between }

-- the records of a text begin with those reached
reached-from : (cfg : Config) (s : State) (xs : List ℕ) (rows : List (List (List ℕ))) (s2 : State) (ys : List ℕ) → Reached cfg s xs rows s2 ys
    → (n : ℕ) → records_from cfg (length rows + n) s xs ≡ rows ++ records_from cfg n s2 ys
unfolding Reached records_from
reached-from cfg s xs [] s2 ys h n = rw (h.0, h.1, zero-add n) refl
reached-from cfg s xs (r ∷ rs) s2 ys h n =
    let e : length (r ∷ rs) + n ≡ suc (length rs + n) = omega arith in
    rw (e, h.1, h.2) (ap (λ (t : List (List (List ℕ))). h.0.0 ∷ t) (reached-from cfg h.0.1 h.0.2 rs s2 ys h.3 n))

records-none : (cfg : Config) (n : ℕ) (s : State) (ys : List ℕ) → next_record cfg s [] [] ys ≡ None → records_from cfg n s ys ≡ []
unfolding records_from
records-none cfg zero s ys e = refl
records-none cfg (suc n) s ys e = rw e refl

-- the list of all records is one
pub are-records : (cfg : Config) (xs : List ℕ) (rows : List (List (List ℕ))) → AreRecords cfg st.StartRecord xs rows → rows ≡ records cfg xs
are-records cfg xs rows h =
    let t = reached-took cfg st.StartRecord xs rows h.0 h.1 refl h.2 in
    let n = length xs + 1 - length rows in
    let e : length xs + 1 ≡ length rows + n = omega (arith, t.bytes) in
    sym (ap (λ (k : ℕ). records_from cfg k st.StartRecord xs) e ∙ (reached-from cfg st.StartRecord xs rows h.0 h.1 h.2 n ∙ (ap (λ (t : List (List (List ℕ))). rows ++ t) (records-none cfg n h.0 h.1 h.3) ∙ append-nil rows)))

-- the text of records, read record by record
text-reached : (rows : List (List (List ℕ))) → Reached default_config st.StartRecord (rows_text rows) (map read_back rows) st.StartRecord []
unfolding Reached rows_text
text-reached [] = (refl, refl)
text-reached (row ∷ rows) = ((read_back row, st.StartRecord, rows_text rows), read-write row (rows_text rows), refl, text-reached rows)

pub read-rows_text : (rows : List (List (List ℕ))) → strip_bom (rows_text rows) ≡ rows_text rows → rows_of (rows_text rows) ≡ map read_back rows
unfolding next_record
read-rows_text rows keeps = rw keeps (sym (are-records default_config (rows_text rows) (map read_back rows) (st.StartRecord, [], text-reached rows, refl)))

pub rows_text-append : (a b : List (List (List ℕ))) → rows_text (a ++ b) ≡ rows_text a ++ rows_text b
unfolding rows_text
rows_text-append [] b = refl
rows_text-append (r ∷ a) b = rw (rows_text-append a b) (sym (append_assoc (row_text default_writer r) (rows_text a) (rows_text b)))

pub rows_text-one : (row : List (List ℕ)) → rows_text (row ∷ []) ≡ row_text default_writer row
unfolding rows_text
rows_text-one row = append-nil (row_text default_writer row)

-- one row more
pub rows_text-more : {X : Type 0} (f : X → List (List ℕ)) (xs : List X) (i : ℕ) (x : X) → i < length xs → x ≡ get_or xs i x
    → rows_text (map f (take (i + 1) xs)) ≡ rows_text (map f (take i xs)) ++ row_text default_writer (f x)
rows_text-more f xs i x lt e =
    ap (λ t. rows_text (map f t)) (take_more xs i x lt ∙ ap (λ y. take i xs ++ (y ∷ [])) (sym e))
    ∙ (ap rows_text (map-append f (take i xs) (x ∷ []))
    ∙ (rows_text-append (map f (take i xs)) (f x ∷ []) ∙ ap (λ t. rows_text (map f (take i xs)) ++ t) (rows_text-one (f x))))
