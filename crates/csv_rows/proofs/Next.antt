-- One record more.
use Rattle.std.proofs.Common.{◌≡◌, ◌+◌, ◌<◌, ◌≤◌, ◌++◌, ◌∷◌, [], ℕ, List, Some, None, Option, refl, ap, true, false, inl, inr, suc, zero, length, arith, Bor, take, drop}
use Rattle.csv.specs.Machine.{next_record, ends_at_end, Read}
use Rattle.csv.specs.Reading.{default_config, records_from, ReadsNext, NextIs, ReadRecord, source_of, pending_of, strip_bom, is_bom}
use Rattle.csv.specs.declared.reader.Reader.{Reader}
use Rattle.std.specs.Prelude.{not, ◌&&◌, ◌==◌}
use Rattle.std.proofs.lemmas.Bool.{cases_Bool}
use Rattle.csv_rows.specs.Left.{rows_from, rows_left, IsBetween}
use Rattle.csv_rows.specs.Rows.{rows_of}
use Rattle.csv.specs.declared.parser.State.{State}
use Rattle.csv.specs.declared.parser.State.TheVariants as st
use Rattle.csv_rows.proofs.Ends.{next-leaves}

-- turns past the last byte change nothing
turn : (n m : ℕ) (s : State) (xs : List ℕ) (o : Option Read) → next_record default_config s [] [] xs ≡ o
    → ((p : Read) → o ≡ Some p → records_from default_config n p.1 p.2 ≡ records_from default_config m p.1 p.2)
    → records_from default_config (suc n) s xs ≡ records_from default_config (suc m) s xs
unfolding records_from
turn n m s xs None h same = rw h refl
turn n m s xs (Some p) h same = rw h (ap (λ (t : List (List (List ℕ))). p.0 ∷ t) (same p refl))

pub enough : (n m : ℕ) (s : State) (xs : List ℕ) → ends_at_end s ≡ false → length xs < n → length xs < m → records_from default_config n s xs ≡ records_from default_config m s xs
enough zero m s xs e a b = absurd (omega arith)
enough (suc n) zero s xs e a b = absurd (omega arith)
enough (suc n) (suc m) s xs e a b =
    turn n m s xs (next_record default_config s [] [] xs) refl (λ p h.
    let l = next-leaves default_config s [] [] xs p h in
    let fewer = l.fewer_from_start e in
    enough n m p.1 p.2 l.between (omega (arith, fewer)) (omega (arith, fewer)))

-- a record that is there is the first of those left
next_first : (s s2 : State) (xs ys : List ℕ) (fields : List (List ℕ)) (o : Option Read) → next_record default_config s [] [] xs ≡ o → ends_at_end s ≡ false → NextIs o true fields s2 ys
    → (rows_from s (Some xs) ≡ fields ∷ rows_from s2 (Some ys)) × (ends_at_end s2 ≡ false)
unfolding records_from
next_first s s2 xs ys fields None h e n = cc n
next_first s s2 xs ys fields (Some p) h e n =
    let l = next-leaves default_config s [] [] xs p h in
    let fewer = l.fewer_from_start e in
    let one : length xs + 1 ≡ suc (length xs) = omega arith in
    let same : records_from default_config (length xs) p.1 p.2 ≡ records_from default_config (length p.2 + 1) p.1 p.2 = enough (length xs) (length p.2 + 1) p.1 p.2 l.between fewer (omega arith) in
    (rw (n.1, n.2, n.3, one, h, same) refl, rw n.2 l.between)

-- where there is none, nothing is left
next_none : (s s2 : State) (xs ys : List ℕ) (fields : List (List ℕ)) (o : Option Read) → next_record default_config s [] [] xs ≡ o → NextIs o false fields s2 ys → rows_from s (Some xs) ≡ []
unfolding records_from
next_none s s2 xs ys fields None h n =
    let one : length xs + 1 ≡ suc (length xs) = omega arith in
    rw (one, h) refl
next_none s s2 xs ys fields (Some p) h n = cc n.0

-- what a read shows of the records left, where the bytes are known
pub read_first : (s s2 : State) (xs : List ℕ) (after : Option (List ℕ)) (fields : List (List ℕ)) → ends_at_end s ≡ false → ReadsNext default_config s (Some xs) after true fields s2
    → (rows_from s (Some xs) ≡ fields ∷ rows_from s2 after) × (ends_at_end s2 ≡ false)
read_first s s2 xs None fields e r = absurd r
read_first s s2 xs (Some ys) fields e r = next_first s s2 xs ys fields (next_record default_config s [] [] xs) refl e r

pub read_none : (s s2 : State) (before after : Option (List ℕ)) (fields : List (List ℕ)) → ReadsNext default_config s before after false fields s2 → rows_from s before ≡ []
read_none s s2 None after fields r = refl
read_none s s2 (Some xs) None fields r = absurd r
read_none s s2 (Some xs) (Some ys) fields r = next_none s s2 xs ys fields (next_record default_config s [] [] xs) refl r

-- a slice's bytes are known, as long as the reader works
known : (r : Reader (Bor (List ℕ))) → r.failed ≡ false → (y : List ℕ) × (source_of (λ s. Some s.now) r ≡ Some y)
known r works = elim (cases_Bool (not r.bom_checked && (r.at == 0) && (r.filled == 0))) [
  | inl t ↦ (strip_bom r.rdr.now, rw (works, t) refl)
  | inr f ↦ (drop r.at (take r.filled r.buffer) ++ r.rdr.now, rw (works, f) refl)
]

pub first_row : (old new : Reader (Bor (List ℕ))) (fields : List (List ℕ)) → IsBetween old → ReadRecord (λ s. Some s.now) old new true fields
    → (rows_left (λ s. Some s.now) old ≡ fields ∷ rows_left (λ s. Some s.now) new) × (ends_at_end new.state ≡ false)
first_row old new fields b r =
    let k = known old b.works in
    let h = read_first old.state new.state k.0 (pending_of (Some new.rdr.now) new) fields b.between (rw (b.config, k.1) at r.0) in
    (rw (k.1, r.1) h.0, h.1)

pub no_row : (old new : Reader (Bor (List ℕ))) (fields : List (List ℕ)) → IsBetween old → ReadRecord (λ s. Some s.now) old new false fields → rows_left (λ s. Some s.now) old ≡ []
no_row old new fields b r = read_none old.state new.state _ (pending_of (Some new.rdr.now) new) fields (rw b.config at r.0)

-- each row takes a byte at least
few_from : (n : ℕ) (s : State) (xs : List ℕ) (o : Option Read) → next_record default_config s [] [] xs ≡ o → ends_at_end s ≡ false → length (records_from default_config n s xs) ≤ length xs
unfolding records_from
few_from zero s xs o h e = omega arith
few_from (suc n) s xs None h e = rw h (omega arith)
few_from (suc n) s xs (Some p) h e =
    let l = next-leaves default_config s [] [] xs p h in
    let fewer = l.fewer_from_start e in
    let rest = few_from n p.1 p.2 (next_record default_config p.1 [] [] p.2) refl l.between in
    rw h (omega (arith, fewer, rest))

shorter : (text : List ℕ) → length (strip_bom text) ≤ length text
unfolding strip_bom
shorter [] = omega arith
shorter (a ∷ []) = omega arith
shorter (a ∷ b ∷ []) = omega arith
shorter (a ∷ b ∷ c ∷ rest) = elim (cases_Bool (is_bom a b c)) [ inl t ↦ rw t (omega arith) | inr f ↦ rw f (omega arith) ]

pub few_text : (text : List ℕ) → length (rows_of text) ≤ length text
few_text text =
    let all = few_from (length (strip_bom text) + 1) st.StartRecord (strip_bom text) (next_record default_config st.StartRecord [] [] (strip_bom text)) refl refl in
    omega (arith, all, shorter text)
