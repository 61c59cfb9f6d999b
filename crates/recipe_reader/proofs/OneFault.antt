-- Rows have one first fault.
use Rattle.std.specs.Prelude.{◌⊎◌, Option}
use Rattle.std.specs.List.{IsDistinct}
use Rattle.std.proofs.Common.{◌≡◌, ◌∙◌, ◌∷◌, ◌++◌, ◌+◌, ◌≤◌, [], ℕ, List, Some, None, refl, sym, ap, subst, length, arith, inl, inr}
use Rattle.std.proofs.lemmas.Bool.{cases_order}
use Rattle.file_names.specs.FileNames.{IsFileName}
use Rattle.recipe_reader.specs.Limits.{KeepsSize, PassesFirst}
use Rattle.recipe_reader.specs.Reading.{HasChunkName, IsFault, IsFirstFault, Leads}
use Rattle.recipe_reader.specs.Recipes.{NamedChunk, RecipeValue, empty_recipe, is_chunk}
use Rattle.recipe_reader.specs.RecipeRows.{Row, SpellsRow, with_row}
use Rattle.recipe_reader.specs.declared.error.RecipeError.{RecipeError}
use Rattle.recipe_reader.specs.declared.error.RecipeError.TheVariants.{BadRow, BadName, BadChunkName, BadSize, SizeClash, TooMany, Memory}
use Rattle.recipe_reader.specs.declared.error.What.{What}
use Rattle.recipe_reader.specs.declared.error.What.TheVariants.{Files, Chunks, Bytes, Pairs}
use Rattle.recipe_reader.proofs.Keeping.{chunk_equiv, empty_keeps}
use Rattle.recipe_reader.proofs.Replaying.{distinct_with_new}
use Rattle.recipe_reader.proofs.Sizes.{one_of_name}
use Rattle.recipe_reader.proofs.OneMeaning.{one_row, one_recipe, no_fault, well_named, well_sized}

-- three fields, the first a file name, the second a chunk name, the third a size: how far a row is well spelled
record HasThree (fields : List (List ℕ)) : Type 0 where
  file : List ℕ
  name : List ℕ
  size : List ℕ
  three : fields ≡ file ∷ name ∷ size ∷ []

record HasFile (fields : List (List ℕ)) : Type 0 where
  parts : HasThree fields
  named : IsFileName parts.file

record HasChunk (fields : List (List ℕ)) : Type 0 where
  begun : HasFile fields
  named : HasChunkName begun.parts.name

-- a row that keeps sizes
record IsKept (before : RecipeValue) (fields : List (List ℕ)) : Type 0 where
  row : Row
  spelled : SpellsRow fields row
  keeps : KeepsSize before row.chunk

-- how many of the judgements of a row come before its fault
stage : RecipeError → ℕ
stage (BadRow at) = 0
stage (BadName at) = 1
stage (BadChunkName at) = 2
stage (BadSize at) = 3
stage (SizeClash at first now) = 4
stage (TooMany at what) = 5
stage Memory = 6

-- what the first judgements found good
record Passes (n : ℕ) (before : RecipeValue) (fields : List (List ℕ)) : Type 0 where
  three : 1 ≤ n → HasThree fields
  file : 2 ≤ n → HasFile fields
  chunk : 3 ≤ n → HasChunk fields
  row : 4 ≤ n → (row : Row) × SpellsRow fields row
  kept : 5 ≤ n → IsKept before fields
  last : n ≤ 5

passes_less : (m n : ℕ) (before : RecipeValue) (fields : List (List ℕ)) → m ≤ n → Passes n before fields → Passes m before fields
passes_less m n before fields less p =
    let last = p.last in
    record {
      three = λ h. p.three (omega (arith, h, less));
      file = λ h. p.file (omega (arith, h, less));
      chunk = λ h. p.chunk (omega (arith, h, less));
      row = λ h. p.row (omega (arith, h, less));
      kept = λ h. p.kept (omega (arith, h, less));
      last = omega (arith, last, less);
    }

three_of : (fields : List (List ℕ)) (row : Row) → SpellsRow fields row → HasThree fields
three_of fields row s = record { file = row.file; name = s.name; size = s.size; three = s.three }

file_of : (fields : List (List ℕ)) (row : Row) → SpellsRow fields row → HasFile fields
unfolding three_of
file_of fields row s = record { parts = three_of fields row s; named = s.file }

chunk_of_row : (fields : List (List ℕ)) (row : Row) → SpellsRow fields row → HasChunk fields
unfolding file_of three_of
chunk_of_row fields row s = record { begun = file_of fields row s; named = well_named s.name s.size row.chunk s.chunk }

-- a fault has passed the judgements before its own
fault_passes : (before : RecipeValue) (number : ℕ) (fields : List (List ℕ)) (e : RecipeError) → IsFault before number fields e → Passes (stage e) before fields
unfolding stage
fault_passes before number fields (BadRow at) f = record {
  three = λ h. absurd (omega (arith, h));
  file = λ h. absurd (omega (arith, h));
  chunk = λ h. absurd (omega (arith, h));
  row = λ h. absurd (omega (arith, h));
  kept = λ h. absurd (omega (arith, h));
  last = omega arith;
}
fault_passes before number fields (BadName at) f = let g = f.1 in record {
  three = λ h. record { file = g.0; name = g.1; size = g.2; three = g.3 };
  file = λ h. absurd (omega (arith, h));
  chunk = λ h. absurd (omega (arith, h));
  row = λ h. absurd (omega (arith, h));
  kept = λ h. absurd (omega (arith, h));
  last = omega arith;
}
fault_passes before number fields (BadChunkName at) f = let g = f.1 in record {
  three = λ h. record { file = g.0; name = g.1; size = g.2; three = g.3 };
  file = λ h. record { parts = record { file = g.0; name = g.1; size = g.2; three = g.3 }; named = g.4 };
  chunk = λ h. absurd (omega (arith, h));
  row = λ h. absurd (omega (arith, h));
  kept = λ h. absurd (omega (arith, h));
  last = omega arith;
}
fault_passes before number fields (BadSize at) f = let g = f.1 in record {
  three = λ h. record { file = g.0; name = g.1; size = g.2; three = g.3 };
  file = λ h. record { parts = record { file = g.0; name = g.1; size = g.2; three = g.3 }; named = g.4 };
  chunk = λ h. record { begun = record { parts = record { file = g.0; name = g.1; size = g.2; three = g.3 }; named = g.4 }; named = g.5 };
  row = λ h. absurd (omega (arith, h));
  kept = λ h. absurd (omega (arith, h));
  last = omega arith;
}
fault_passes before number fields (SizeClash at first now) f = let g = f.1 in record {
  three = λ h. three_of fields g.0 g.3;
  file = λ h. file_of fields g.0 g.3;
  chunk = λ h. chunk_of_row fields g.0 g.3;
  row = λ h. (g.0, g.3);
  kept = λ h. absurd (omega (arith, h));
  last = omega arith;
}
fault_passes before number fields (TooMany at what) f = let g = f.1 in record {
  three = λ h. three_of fields g.0 g.1;
  file = λ h. file_of fields g.0 g.1;
  chunk = λ h. chunk_of_row fields g.0 g.1;
  row = λ h. (g.0, g.1);
  kept = λ h. record { row = g.0; spelled = g.1; keeps = g.2 };
  last = omega arith;
}
fault_passes before number fields Memory f = absurd f

-- and fails its own
fault_stops : (before : RecipeValue) (number : ℕ) (fields : List (List ℕ)) (e : RecipeError) → IsFault before number fields e → Passes (stage e + 1) before fields → ⊥
unfolding stage
fault_stops before number fields (BadRow at) f p = f.1 (ap length (p.three (omega arith)).three)
fault_stops before number fields (BadName at) f p =
    let g = f.1 in
    let found = p.file (omega arith) in
    let same : found.parts.file ∷ found.parts.name ∷ found.parts.size ∷ [] ≡ g.0 ∷ g.1 ∷ g.2 ∷ [] = sym found.parts.three ∙ g.3 in
    let files : found.parts.file ≡ g.0 = cc same in
    g.4 (subst IsFileName files found.named)
fault_stops before number fields (BadChunkName at) f p =
    let g = f.1 in
    let found = p.chunk (omega arith) in
    let parts = found.begun.parts in
    let same : parts.file ∷ parts.name ∷ parts.size ∷ [] ≡ g.0 ∷ g.1 ∷ g.2 ∷ [] = sym parts.three ∙ g.3 in
    let names : parts.name ≡ g.1 = cc same in
    g.5 (subst HasChunkName names found.named)
fault_stops before number fields (BadSize at) f p =
    let g = f.1 in
    let found = p.row (omega arith) in
    let s = found.1 in
    let same : found.0.file ∷ s.name ∷ s.size ∷ [] ≡ g.0 ∷ g.1 ∷ g.2 ∷ [] = sym s.three ∙ g.3 in
    let names : s.name ≡ g.1 = cc same in
    let sizes : s.size ≡ g.2 = cc same in
    well_sized g.1 g.2 found.0.chunk (rw (names, sizes) at s.chunk) g.6
fault_stops before number fields (SizeClash at first now) f p =
    let g = f.1 in
    let found = p.kept (omega arith) in
    let same : found.row ≡ g.0 = one_row fields found.row g.0 found.spelled g.3 in
    let is : found.row.chunk ≡ Some g.1 = ap (λ (row : Row). row.chunk) same ∙ g.4 in
    let Keeps : Option NamedChunk → Type 0 = λ o. KeepsSize before o in
    let keeps = subst Keeps is found.keeps in
    g.9 (sym g.8 ∙ (keeps g.2 g.6 g.7 ∙ g.5))
fault_stops before number fields (TooMany at what) f p = let last = p.last in omega (arith, last)
fault_stops before number fields Memory f p = f

-- a recipe passes one limit first
one_limit : (r : RecipeValue) (a b : What) → PassesFirst r a → PassesFirst r b → a ≡ b
one_limit r Files Files p q = refl
one_limit r Files Chunks p q = let within = q.0 in let over = p in absurd (omega (arith, within, over))
one_limit r Files Bytes p q = let within = q.0 in let over = p in absurd (omega (arith, within, over))
one_limit r Files Pairs p q = let within = q.0 in let over = p in absurd (omega (arith, within, over))
one_limit r Chunks Files p q = let within = p.0 in let over = q in absurd (omega (arith, within, over))
one_limit r Chunks Chunks p q = refl
one_limit r Chunks Bytes p q = let within = q.1 in let over = p.1 in absurd (omega (arith, within, over))
one_limit r Chunks Pairs p q = let within = q.1 in let over = p.1 in absurd (omega (arith, within, over))
one_limit r Bytes Files p q = let within = p.0 in let over = q in absurd (omega (arith, within, over))
one_limit r Bytes Chunks p q = let within = p.1 in let over = q.1 in absurd (omega (arith, within, over))
one_limit r Bytes Bytes p q = refl
one_limit r Bytes Pairs p q = let within = q.2 in let over = p.2 in absurd (omega (arith, within, over))
one_limit r Pairs Files p q = let within = p.0 in let over = q in absurd (omega (arith, within, over))
one_limit r Pairs Chunks p q = let within = p.1 in let over = q.1 in absurd (omega (arith, within, over))
one_limit r Pairs Bytes p q = let within = p.2 in let over = q.2 in absurd (omega (arith, within, over))
one_limit r Pairs Pairs p q = refl

-- chunks of rows that were led to differ in their names
names_differ : (rows : List (List (List ℕ))) (start r : RecipeValue) → Leads start rows r → IsDistinct (λ (c : NamedChunk). is_chunk c.name) start.chunks
    → IsDistinct (λ (c : NamedChunk). is_chunk c.name) r.chunks
names_differ [] start r led differ = subst (λ (t : RecipeValue). IsDistinct (λ (c : NamedChunk). is_chunk c.name) t.chunks) led differ
names_differ (fields ∷ rows) start r led differ =
    names_differ rows led.0 r led.2 (subst (λ (t : RecipeValue). IsDistinct (λ (c : NamedChunk). is_chunk c.name) t.chunks) (sym led.1.taken) (taken led.1.row.file led.1.row.chunk))
  where
    taken : (file : List ℕ) (chunk : Option NamedChunk) → IsDistinct (λ (c : NamedChunk). is_chunk c.name) (with_row start (record { file = file; chunk = chunk })).chunks
    taken file None = differ
    taken file (Some c) = distinct_with_new (λ (c : NamedChunk). is_chunk c.name) chunk_equiv start.chunks c differ

-- two faults of one judgement are one
same_stage : (before : RecipeValue) (number : ℕ) (fields : List (List ℕ)) (a b : RecipeError) → IsDistinct (λ (c : NamedChunk). is_chunk c.name) before.chunks → stage a ≡ stage b
    → IsFault before number fields a → IsFault before number fields b → a ≡ b
unfolding stage
same_stage before number fields (BadRow x) (BadRow y) differ same f g = ap BadRow (f.0 ∙ sym g.0)
same_stage before number fields (BadRow x) (BadName y) differ same f g = absurd (omega (arith, same))
same_stage before number fields (BadRow x) (BadChunkName y) differ same f g = absurd (omega (arith, same))
same_stage before number fields (BadRow x) (BadSize y) differ same f g = absurd (omega (arith, same))
same_stage before number fields (BadRow x) (SizeClash y first2 now2) differ same f g = absurd (omega (arith, same))
same_stage before number fields (BadRow x) (TooMany y what2) differ same f g = absurd (omega (arith, same))
same_stage before number fields (BadRow x) Memory differ same f g = absurd (omega (arith, same))
same_stage before number fields (BadName x) (BadRow y) differ same f g = absurd (omega (arith, same))
same_stage before number fields (BadName x) (BadName y) differ same f g = ap BadName (f.0 ∙ sym g.0)
same_stage before number fields (BadName x) (BadChunkName y) differ same f g = absurd (omega (arith, same))
same_stage before number fields (BadName x) (BadSize y) differ same f g = absurd (omega (arith, same))
same_stage before number fields (BadName x) (SizeClash y first2 now2) differ same f g = absurd (omega (arith, same))
same_stage before number fields (BadName x) (TooMany y what2) differ same f g = absurd (omega (arith, same))
same_stage before number fields (BadName x) Memory differ same f g = absurd (omega (arith, same))
same_stage before number fields (BadChunkName x) (BadRow y) differ same f g = absurd (omega (arith, same))
same_stage before number fields (BadChunkName x) (BadName y) differ same f g = absurd (omega (arith, same))
same_stage before number fields (BadChunkName x) (BadChunkName y) differ same f g = ap BadChunkName (f.0 ∙ sym g.0)
same_stage before number fields (BadChunkName x) (BadSize y) differ same f g = absurd (omega (arith, same))
same_stage before number fields (BadChunkName x) (SizeClash y first2 now2) differ same f g = absurd (omega (arith, same))
same_stage before number fields (BadChunkName x) (TooMany y what2) differ same f g = absurd (omega (arith, same))
same_stage before number fields (BadChunkName x) Memory differ same f g = absurd (omega (arith, same))
same_stage before number fields (BadSize x) (BadRow y) differ same f g = absurd (omega (arith, same))
same_stage before number fields (BadSize x) (BadName y) differ same f g = absurd (omega (arith, same))
same_stage before number fields (BadSize x) (BadChunkName y) differ same f g = absurd (omega (arith, same))
same_stage before number fields (BadSize x) (BadSize y) differ same f g = ap BadSize (f.0 ∙ sym g.0)
same_stage before number fields (BadSize x) (SizeClash y first2 now2) differ same f g = absurd (omega (arith, same))
same_stage before number fields (BadSize x) (TooMany y what2) differ same f g = absurd (omega (arith, same))
same_stage before number fields (BadSize x) Memory differ same f g = absurd (omega (arith, same))
same_stage before number fields (SizeClash x first now) (BadRow y) differ same f g = absurd (omega (arith, same))
same_stage before number fields (SizeClash x first now) (BadName y) differ same f g = absurd (omega (arith, same))
same_stage before number fields (SizeClash x first now) (BadChunkName y) differ same f g = absurd (omega (arith, same))
same_stage before number fields (SizeClash x first now) (BadSize y) differ same f g = absurd (omega (arith, same))
same_stage before number fields (SizeClash x first now) (SizeClash y first2 now2) differ same f g =
    let p = f.1 in
    let q = g.1 in
    let rows : p.0 ≡ q.0 = one_row fields p.0 q.0 p.3 q.3 in
    let chunks : p.1 ≡ q.1 = cc (sym p.4 ∙ (ap (λ (row : Row). row.chunk) rows ∙ q.4)) in
    let names : p.2.name ≡ q.2.name = p.7 ∙ (ap (λ (c : NamedChunk). c.name) chunks ∙ sym q.7) in
    let known : p.2 ≡ q.2 = one_of_name before.chunks p.2 q.2 differ p.6 q.6 names in
    let firsts : first ≡ first2 = sym p.8 ∙ (ap (λ (c : NamedChunk). c.size) known ∙ q.8) in
    let nows : now ≡ now2 = sym p.5 ∙ (ap (λ (c : NamedChunk). c.size) chunks ∙ q.5) in
    let numbers : x ≡ y = f.0 ∙ sym g.0 in
    λ i. SizeClash (numbers i) (firsts i) (nows i)
same_stage before number fields (SizeClash x first now) (TooMany y what2) differ same f g = absurd (omega (arith, same))
same_stage before number fields (SizeClash x first now) Memory differ same f g = absurd (omega (arith, same))
same_stage before number fields (TooMany x what) (BadRow y) differ same f g = absurd (omega (arith, same))
same_stage before number fields (TooMany x what) (BadName y) differ same f g = absurd (omega (arith, same))
same_stage before number fields (TooMany x what) (BadChunkName y) differ same f g = absurd (omega (arith, same))
same_stage before number fields (TooMany x what) (BadSize y) differ same f g = absurd (omega (arith, same))
same_stage before number fields (TooMany x what) (SizeClash y first2 now2) differ same f g = absurd (omega (arith, same))
same_stage before number fields (TooMany x what) (TooMany y what2) differ same f g =
    let p = f.1 in
    let q = g.1 in
    let rows : p.0 ≡ q.0 = one_row fields p.0 q.0 p.1 q.1 in
    let passes = subst (λ (row : Row). PassesFirst (with_row before row) what) rows p.3 in
    let limits : what ≡ what2 = one_limit (with_row before q.0) what what2 passes q.3 in
    let numbers : x ≡ y = f.0 ∙ sym g.0 in
    λ i. TooMany (numbers i) (limits i)
same_stage before number fields (TooMany x what) Memory differ same f g = absurd (omega (arith, same))
same_stage before number fields Memory (BadRow y) differ same f g = absurd (omega (arith, same))
same_stage before number fields Memory (BadName y) differ same f g = absurd (omega (arith, same))
same_stage before number fields Memory (BadChunkName y) differ same f g = absurd (omega (arith, same))
same_stage before number fields Memory (BadSize y) differ same f g = absurd (omega (arith, same))
same_stage before number fields Memory (SizeClash y first2 now2) differ same f g = absurd (omega (arith, same))
same_stage before number fields Memory (TooMany y what2) differ same f g = absurd (omega (arith, same))
same_stage before number fields Memory Memory differ same f g = refl

-- a row has one fault
one_fault_of_row : (before : RecipeValue) (number : ℕ) (fields : List (List ℕ)) (a b : RecipeError) → IsDistinct (λ (c : NamedChunk). is_chunk c.name) before.chunks
    → IsFault before number fields a → IsFault before number fields b → a ≡ b
one_fault_of_row before number fields a b differ f g = elim (cases_order (stage a) (stage b)) [
  | inl same ↦ same_stage before number fields a b differ same f g
  | inr (inl less) ↦ absurd (fault_stops before number fields a f (passes_less (stage a + 1) (stage b) before fields (omega (arith, less)) (fault_passes before number fields b g)))
  | inr (inr more) ↦ absurd (fault_stops before number fields b g (passes_less (stage b + 1) (stage a) before fields (omega (arith, more)) (fault_passes before number fields a f)))
]

-- two places in one list: the same, or one behind the other
record IsBehind {X : Type 0} (front : List X) (x : X) (later : List X) : Type 0 where
  between : List X
  split : later ≡ front ++ x ∷ between

places : {X : Type 0} (one other : List X) (x y : X) (after later : List X) → one ++ x ∷ after ≡ other ++ y ∷ later
    → ((one ≡ other) × (x ≡ y)) ⊎ (IsBehind one x other ⊎ IsBehind other y one)
places [] [] x y after later e = inl (refl, cc e)
places [] (z ∷ other) x y after later e = inr (inl (record { between = other; split = cc e }))
places (z ∷ one) [] x y after later e = inr (inr (record { between = one; split = cc e }))
places (z ∷ one) (w ∷ other) x y after later e =
    let heads : z ≡ w = cc e in
    let tails : one ++ x ∷ after ≡ other ++ y ∷ later = cc e in
    elim (places one other x y after later tails) [
      | inl same ↦ inl (cc (heads, same.0), same.1)
      | inr (inl behind) ↦ inr (inl (record { between = behind.between; split = cc (heads, behind.split) }))
      | inr (inr behind) ↦ inr (inr (record { between = behind.between; split = cc (heads, behind.split) }))
    ]

behind : (start : RecipeValue) (rows : List (List (List ℕ))) (a b : RecipeError) (f : IsFirstFault start rows a) (g : IsFirstFault start rows b) → IsBehind f.front f.fields g.front → ⊥
behind start rows a b f g back =
    no_fault g.front start g.before a g.lawful (record { front = f.front; fields = f.fields; rest = back.between; before = f.before; split = back.split; lawful = f.lawful; fault = f.fault })

-- rows have one first fault
pub one_fault : (rows : List (List (List ℕ))) (a b : RecipeError) → IsFirstFault empty_recipe rows a → IsFirstFault empty_recipe rows b → a ≡ b
one_fault rows a b f g = elim (places f.front g.front f.fields g.fields f.rest g.rest (sym f.split ∙ g.split)) [
  | inl same ↦
      let led = subst (λ (front : List (List (List ℕ))). Leads empty_recipe front f.before) same.0 f.lawful in
      let befores : f.before ≡ g.before = one_recipe g.front empty_recipe f.before g.before led g.lawful in
      let At : RecipeValue → List (List (List ℕ)) → List (List ℕ) → Type 0 = λ before front fields. IsFault before (length front + 1) fields a in
      let moved : At g.before g.front g.fields = subst (λ (t : List (List ℕ)). At g.before g.front t) same.1 (subst (λ (t : List (List (List ℕ))). At g.before t f.fields) same.0 (subst (λ (t : RecipeValue). At t f.front f.fields) befores f.fault)) in
      one_fault_of_row g.before (length g.front + 1) g.fields a b (names_differ g.front empty_recipe g.before g.lawful empty_keeps.chunks_differ) moved g.fault
  | inr (inl back) ↦ absurd (behind empty_recipe rows a b f g back)
  | inr (inr back) ↦ absurd (behind empty_recipe rows b a g f back)
]
