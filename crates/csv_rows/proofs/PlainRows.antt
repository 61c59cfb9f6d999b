-- How rows without quotes and CRs read.
use Rattle.std.specs.Prelude.{◌==◌}
use Rattle.std.proofs.Common.{◌≡◌, ◌≢◌, ◌⊎◌, ◌∙◌, ◌+◌, ◌<◌, ◌≤◌, ◌++◌, ◌∷◌, [], ℕ, zero, suc, List, true, false, Some, refl, sym, ap, inl, inr, length, take, drop, get_or, arith}
use Rattle.std.proofs.lemmas.Bool.{cases_Bool, eqb-true}
use Rattle.std.proofs.lemmas.List.{nil_from_length, take-append-drop}
use Rattle.csv.specs.Machine.{Runs, next_record, step}
use Rattle.csv.specs.Reading.{default_config, records_from, strip_bom, is_bom}
use Rattle.csv.specs.declared.parser.Action.TheVariants as act
use Rattle.csv.specs.declared.parser.State.{State}
use Rattle.csv.specs.declared.parser.State.TheVariants as st
use Rattle.csv.proofs.ReadFacts.{run-copies}
use Rattle.csv_rows.specs.Left.{rows_from}
use Rattle.csv_rows.specs.Plain.{Begins, IsPlainFront, is_special}
use Rattle.csv_rows.specs.Rows.{rows_of}
use Rattle.csv_rows.proofs.Next.{enough, read_first}

-- a plain byte is none of the special ones
record IsPlain (c : ℕ) : Type 0 where
  comma : (c == 44) ≡ false
  quote : (c == 34) ≡ false
  cr : (c == 13) ≡ false
  lf : (c == 10) ≡ false

none_of : (c : ℕ) → is_special c ≡ false → IsPlain c
none_of c h = elim (cases_Bool (c == 44)) [
  | inl t ↦ cc (rw t at h)
  | inr a ↦ elim (cases_Bool (c == 34)) [
    | inl t ↦ cc (rw (a, t) at h)
    | inr b ↦ elim (cases_Bool (c == 13)) [
      | inl t ↦ cc (rw (a, b, t) at h)
      | inr d ↦ record { comma = a; quote = b; cr = d; lf = rw (a, b, d) at h }
    ]
  ]
]

-- plain bytes join the field at hand
plain_step : (c : ℕ) → is_special c ≡ false → step default_config st.InField c ≡ (st.InField, act.Copy)
plain_step c h =
    let p = none_of c h in
    rw (p.comma, p.cr, p.lf) refl

plain_first : (s : State) (c : ℕ) → (s ≡ st.StartField) ⊎ (s ≡ st.StartRecord) → is_special c ≡ false → step default_config s c ≡ (st.InField, act.Copy)
plain_first s c (inl e) h =
    let p = none_of c h in
    rw (e, p.quote, p.comma, p.cr, p.lf) refl
plain_first s c (inr e) h =
    let p = none_of c h in
    rw (e, p.cr, p.lf, p.quote, p.comma) refl

plain_runs : (xs : List ℕ) (n : ℕ) → n ≤ length xs → ((k : ℕ) → k < n → is_special (get_or xs k 0) ≡ false) → Runs default_config st.InField (take n xs)
unfolding Runs
plain_runs xs zero within plain = tt
plain_runs [] (suc n) within plain = absurd (omega arith)
plain_runs (x ∷ xs) (suc n) within plain = (plain_step x (plain 0 (omega arith)), plain_runs xs n (omega arith) (λ k lt. plain (suc k) (omega arith)))

-- where a field stands: before any of its bytes, or within
state_in : State → ℕ → State
state_in s zero = s
state_in s (suc n) = st.InField

first_byte : (s : State) (fields : List (List ℕ)) (x : ℕ) (xs : List ℕ) → step default_config s x ≡ (st.InField, act.Copy)
    → next_record default_config s fields [] (x ∷ xs) ≡ next_record default_config st.InField fields (x ∷ []) xs
unfolding next_record
first_byte s fields x xs copies = rw copies refl

-- the plain bytes at the start of a field
field_front : (s : State) (fields : List (List ℕ)) (xs : List ℕ) (n : ℕ) → (s ≡ st.StartField) ⊎ (s ≡ st.StartRecord) → n ≤ length xs → IsPlainFront xs n
    → next_record default_config s fields [] xs ≡ next_record default_config (state_in s n) fields (take n xs) (drop n xs)
unfolding state_in
field_front s fields xs zero start within front = refl
field_front s fields [] (suc n) start within front = absurd (omega arith)
field_front s fields (x ∷ xs) (suc n) start within front =
    let plain = front.plain in
    let runs = plain_runs xs n (omega arith) (λ k lt. plain (suc k) (omega arith)) in
    first_byte s fields x xs (plain_first s x start (plain 0 (omega arith)))
    ∙ (ap (λ (t : List ℕ). next_record default_config st.InField fields (x ∷ []) t) (sym (take-append-drop n xs))
    ∙ run-copies default_config st.InField fields (x ∷ []) (take n xs) (drop n xs) runs)

begun : (s : State) (xs : List ℕ) → Begins s xs → (s ≡ st.StartField) ⊎ (s ≡ st.StartRecord)
begun s xs (inl e) = inl e
begun s xs (inr e) = inr e.0

-- the state before a byte that ends a field
abbrev MayEnd : State → Type 0
MayEnd s = (s ≡ st.StartField) ⊎ (s ≡ st.InField)

comma_ends : (s : State) (fields : List (List ℕ)) (field rest : List ℕ) → (s ≡ st.StartField) ⊎ (s ≡ st.StartRecord) ⊎ (s ≡ st.InField)
    → next_record default_config s fields field (44 ∷ rest) ≡ next_record default_config st.StartField (fields ++ field ∷ []) [] rest
unfolding next_record
comma_ends s fields field rest (inl e) = rw e refl
comma_ends s fields field rest (inr (inl e)) = rw e refl
comma_ends s fields field rest (inr (inr e)) = rw e refl

feed_ends : (s : State) (fields : List (List ℕ)) (field rest : List ℕ) → MayEnd s → next_record default_config s fields field (10 ∷ rest) ≡ Some (fields ++ field ∷ [], st.StartRecord, rest)
unfolding next_record
feed_ends s fields field rest (inl e) = rw e refl
feed_ends s fields field rest (inr e) = rw e refl

text_ends : (s : State) (fields : List (List ℕ)) (field : List ℕ) → MayEnd s → next_record default_config s fields field [] ≡ Some (fields ++ field ∷ [], st.StartRecord, [])
unfolding next_record
text_ends s fields field (inl e) = rw e refl
text_ends s fields field (inr e) = rw e refl

any_state : (s : State) (n : ℕ) → (s ≡ st.StartField) ⊎ (s ≡ st.StartRecord) → (state_in s n ≡ st.StartField) ⊎ (state_in s n ≡ st.StartRecord) ⊎ (state_in s n ≡ st.InField)
unfolding state_in
any_state s zero (inl e) = inl e
any_state s zero (inr e) = inr (inl e)
any_state s (suc n) start = inr (inr refl)

-- a field that a comma ends
field_comma : (s : State) (fields : List (List ℕ)) (xs rest : List ℕ) (n : ℕ) → Begins s xs → n ≤ length xs → IsPlainFront xs n → drop n xs ≡ 44 ∷ rest
    → next_record default_config s fields [] xs ≡ next_record default_config st.StartField (fields ++ take n xs ∷ []) [] rest
field_comma s fields xs rest n begins within front comma =
    let start = begun s xs begins in
    field_front s fields xs n start within front
    ∙ (ap (λ (t : List ℕ). next_record default_config (state_in s n) fields (take n xs) t) comma
    ∙ comma_ends (state_in s n) fields (take n xs) rest (any_state s n start))

may_end : (s : State) (xs : List ℕ) (n : ℕ) → Begins s xs → (s ≡ st.StartRecord → n ≡ 0 → ⊥) → MayEnd (state_in s n)
unfolding state_in
may_end s xs zero (inl e) refused = inl e
may_end s xs zero (inr e) refused = absurd (refused e.0 refl)
may_end s xs (suc n) begins refused = inr refl

-- a row does not begin with the byte that ends it
feed_not_first : (s : State) (xs rest : List ℕ) (n : ℕ) → Begins s xs → drop n xs ≡ 10 ∷ rest → s ≡ st.StartRecord → n ≡ 0 → ⊥
feed_not_first s xs rest n (inl e) feed first none = cc (e, first)
feed_not_first s xs rest n (inr e) feed first none = e.2 (ap (λ (t : List ℕ). get_or t 0 0) (rw none at feed))

end_not_first : (s : State) (xs : List ℕ) (n : ℕ) → Begins s xs → drop n xs ≡ [] → s ≡ st.StartRecord → n ≡ 0 → ⊥
end_not_first s xs n (inl e) ended first none = cc (e, first)
end_not_first s xs n (inr e) ended first none =
    let empty : length xs ≡ 0 = ap length (rw none at ended) in
    let some = e.1 in
    omega (arith, some)

-- the last field of a row, which an LF ends
field_feed : (s : State) (fields : List (List ℕ)) (xs rest : List ℕ) (n : ℕ) → Begins s xs → n ≤ length xs → IsPlainFront xs n → drop n xs ≡ 10 ∷ rest
    → next_record default_config s fields [] xs ≡ Some (fields ++ take n xs ∷ [], st.StartRecord, rest)
field_feed s fields xs rest n begins within front feed =
    field_front s fields xs n (begun s xs begins) within front
    ∙ (ap (λ (t : List ℕ). next_record default_config (state_in s n) fields (take n xs) t) feed
    ∙ feed_ends (state_in s n) fields (take n xs) rest (may_end s xs n begins (feed_not_first s xs rest n begins feed)))

-- the last field of a row, which the text's end ends
field_last : (s : State) (fields : List (List ℕ)) (xs : List ℕ) (n : ℕ) → Begins s xs → n ≤ length xs → IsPlainFront xs n → drop n xs ≡ []
    → next_record default_config s fields [] xs ≡ Some (fields ++ take n xs ∷ [], st.StartRecord, [])
field_last s fields xs n begins within front ended =
    field_front s fields xs n (begun s xs begins) within front
    ∙ (ap (λ (t : List ℕ). next_record default_config (state_in s n) fields (take n xs) t) ended
    ∙ text_ends (state_in s n) fields (take n xs) (may_end s xs n begins (end_not_first s xs n begins ended)))

-- a row that was read is the first of those left
row_first : (xs ys : List ℕ) (fields : List (List ℕ)) → next_record default_config st.StartRecord [] [] xs ≡ Some (fields, st.StartRecord, ys)
    → rows_from st.StartRecord (Some xs) ≡ fields ∷ rows_from st.StartRecord (Some ys)
row_first xs ys fields e = (read_first st.StartRecord st.StartRecord xs (Some ys) fields refl (rw e (refl, refl, refl, refl))).0

-- an LF at the start of a row is passed over
feed_turn : (n : ℕ) (ys : List ℕ) → records_from default_config (suc n) st.StartRecord (10 ∷ ys) ≡ records_from default_config (suc n) st.StartRecord ys
unfolding records_from next_record
feed_turn n ys = refl

pub feed_passed : (ys : List ℕ) → rows_from st.StartRecord (Some (10 ∷ ys)) ≡ rows_from st.StartRecord (Some ys)
feed_passed ys =
    let more : length (10 ∷ ys) + 1 ≡ suc (length ys + 1) = omega arith in
    rw more (feed_turn (length ys + 1) ys ∙ enough (suc (length ys + 1)) (length ys + 1) st.StartRecord ys refl (omega arith) (omega arith))

feed_unmarked : (ys : List ℕ) → strip_bom (10 ∷ ys) ≡ 10 ∷ ys
unfolding strip_bom
feed_unmarked [] = refl
feed_unmarked (a ∷ []) = refl
feed_unmarked (a ∷ b ∷ more) = refl

-- the rows of what an LF begins
rows_behind_feed : (ys : List ℕ) → rows_of (10 ∷ ys) ≡ rows_from st.StartRecord (Some ys)
rows_behind_feed ys = ap (λ (t : List ℕ). rows_from st.StartRecord (Some t)) (feed_unmarked ys) ∙ feed_passed ys

pub no_rows : (ys : List ℕ) → ys ≡ [] → rows_from st.StartRecord (Some ys) ≡ []
unfolding records_from next_record
no_rows ys none = rw none refl

-- nothing stands behind the last row
rows_behind_all : rows_of [] ≡ rows_from st.StartRecord (Some [])
unfolding strip_bom
rows_behind_all = refl

-- how far a row is read: from some state on, the rest of the text reads as the row does
pub record IsAt (text : List ℕ) (fields : List (List ℕ)) (left : List ℕ) : Type 0 where
  pub state : State
  pub begins : Begins state left
  pub same : next_record default_config st.StartRecord [] [] text ≡ next_record default_config state fields [] left

pub at_start : (text : List ℕ) → 0 < length text → get_or text 0 0 ≢ 10 → IsAt text [] text
at_start text some begun = record { state = st.StartRecord; begins = inr (refl, some, begun); same = refl }

-- what a list begins with
pub begins_with : (ys : List ℕ) (c : ℕ) → 0 < length ys → get_or ys 0 0 ≡ c → ys ≡ c ∷ drop 1 ys
begins_with [] c some e = absurd (omega arith)
begins_with (y ∷ ys) c some e = rw e refl

-- one field more, which a comma ends
pub at_comma : (text left : List ℕ) (before after : List (List ℕ)) (n : ℕ) → IsAt text before left → n ≤ length left → IsPlainFront left n → 0 < length (drop n left)
    → get_or (drop n left) 0 0 ≡ 44 → after ≡ before ++ take n left ∷ [] → IsAt text after (drop 1 (drop n left))
at_comma text left before after n at within front some comma more =
    let rest = drop 1 (drop n left) in
    record {
      state = st.StartField;
      begins = inl refl;
      same = rw more (at.same ∙ field_comma at.state before left rest n at.begins within front (begins_with (drop n left) 44 some comma));
    }

-- the last field, which an LF ends
pub row_feed : (text left : List ℕ) (before after : List (List ℕ)) (n : ℕ) → IsAt text before left → n ≤ length left → IsPlainFront left n → 0 < length (drop n left)
    → get_or (drop n left) 0 0 ≡ 10 → after ≡ before ++ take n left ∷ [] → rows_from st.StartRecord (Some text) ≡ after ∷ rows_of (drop n left)
row_feed text left before after n at within front some feed more =
    let rest = drop 1 (drop n left) in
    let is = begins_with (drop n left) 10 some feed in
    let read = at.same ∙ field_feed at.state before left rest n at.begins within front is in
    let behind = ap rows_of is ∙ rows_behind_feed rest in
    rw (more, behind) (row_first text rest (before ++ take n left ∷ []) read)

-- the last field, which the text's end ends
pub row_last : (text left : List ℕ) (before after : List (List ℕ)) (n : ℕ) → IsAt text before left → n ≤ length left → IsPlainFront left n → length (drop n left) ≡ 0
    → after ≡ before ++ take n left ∷ [] → rows_from st.StartRecord (Some text) ≡ after ∷ rows_of (drop n left)
row_last text left before after n at within front none more =
    let ended = nil_from_length (drop n left) none in
    let read = at.same ∙ field_last at.state before left n at.begins within front ended in
    let behind = ap rows_of ended ∙ rows_behind_all in
    rw (more, behind) (row_first text [] (before ++ take n left ∷ []) read)

-- a byte order mark at the start
pub marked : (xs : List ℕ) → 3 ≤ length xs → get_or xs 0 0 ≡ 0xEF → get_or xs 1 0 ≡ 0xBB → get_or xs 2 0 ≡ 0xBF → strip_bom xs ≡ drop 3 xs
unfolding strip_bom
marked [] long a b c = absurd (omega arith)
marked (x ∷ []) long a b c = absurd (omega arith)
marked (x ∷ y ∷ []) long a b c = absurd (omega arith)
marked (x ∷ y ∷ z ∷ rest) long a b c = rw (a, b, c) refl

mark_bytes : (x y z : ℕ) → is_bom x y z ≡ true → (x ≡ 0xEF) × (y ≡ 0xBB) × (z ≡ 0xBF)
mark_bytes x y z h =
    elim (cases_Bool (x == 0xEF)) [
      | inr f ↦ cc (rw f at h)
      | inl a ↦ elim (cases_Bool (y == 0xBB)) [
        | inr f ↦ cc (rw (a, f) at h)
        | inl b ↦ (eqb-true x 0xEF a, eqb-true y 0xBB b, eqb-true z 0xBF (rw (a, b) at h))
      ]
    ]

pub unmarked : (xs : List ℕ) → (3 ≤ length xs → get_or xs 0 0 ≡ 0xEF → get_or xs 1 0 ≡ 0xBB → get_or xs 2 0 ≡ 0xBF → ⊥) → strip_bom xs ≡ xs
unfolding strip_bom
unmarked [] none = refl
unmarked (x ∷ []) none = refl
unmarked (x ∷ y ∷ []) none = refl
unmarked (x ∷ y ∷ z ∷ rest) none = elim (cases_Bool (is_bom x y z)) [
  | inl t ↦ let m = mark_bytes x y z t in absurd (none (omega arith) m.0 m.1 m.2)
  | inr f ↦ rw f refl
]
