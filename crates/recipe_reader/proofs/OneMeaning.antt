-- Rows lead to one recipe.
use Rattle.std.specs.Prelude.{Option, codes}
use Rattle.std.proofs.Common.{◌≡◌, ◌∙◌, ◌∷◌, ◌++◌, ◌+◌, [], ℕ, List, Some, None, refl, sym, ap, subst, length, arith, inl, inr}
use Rattle.std.proofs.lemmas.Fmt.{decimal_injective}
use Rattle.std.specs.Fmt.{decimal, digits}
use Rattle.hex.proofs.HexLemmas.{decode_of-ok}
use Rattle.recipe_reader.specs.Limits.{IsWithinLimits, KeepsSize, PassesFirst}
use Rattle.recipe_reader.specs.Reading.{HasBadSize, HasChunkName, IsFault, IsFirstFault, Leads, TakesRow}
use Rattle.recipe_reader.specs.Recipes.{NamedChunk, RecipeValue}
use Rattle.recipe_reader.specs.RecipeRows.{Row, SpellsRow, SpellsChunk, SpellsChunkName, with_row}
use Rattle.recipe_reader.specs.declared.error.RecipeError.{RecipeError}
use Rattle.recipe_reader.specs.declared.error.RecipeError.TheVariants.{BadRow, BadName, BadChunkName, BadSize, SizeClash, TooMany, Memory}
use Rattle.recipe_reader.specs.declared.error.What.{What}
use Rattle.recipe_reader.specs.declared.error.What.TheVariants.{Files, Chunks, Bytes, Pairs}

-- an empty text names no chunk
unnamed : (text name : List ℕ) → text ≡ [] → SpellsChunkName text name → ⊥
unnamed text name empty spelled =
    let twice = (decode_of-ok text name spelled.digits).2 in
    let none = ap length empty in
    let some = spelled.some in
    omega (arith, twice, none, some)

one_chunk : (text size : List ℕ) (a b : Option NamedChunk) → SpellsChunk text size a → SpellsChunk text size b → a ≡ b
one_chunk text size None None p q = refl
one_chunk text size None (Some b) p q = absurd (unnamed text b.name p.0 q.0)
one_chunk text size (Some a) None p q = absurd (unnamed text a.name q.0 p.0)
one_chunk text size (Some a) (Some b) p q =
    let names : a.name ≡ b.name = cc (sym p.0.digits ∙ q.0.digits) in
    let small_a = p.1.small in
    let small_b = q.1.small in
    let sizes : a.size ≡ b.size = decimal_injective a.size b.size (omega (arith, small_a)) (omega (arith, small_b)) (sym p.1.digits ∙ q.1.digits) in
    ap Some (λ i. record { name = names i; size = sizes i })

-- fields spell one row
pub one_row : (fields : List (List ℕ)) (a b : Row) → SpellsRow fields a → SpellsRow fields b → a ≡ b
one_row fields a b p q =
    let same : a.file ∷ p.name ∷ p.size ∷ [] ≡ b.file ∷ q.name ∷ q.size ∷ [] = sym p.three ∙ q.three in
    let files : a.file ≡ b.file = cc same in
    let names : p.name ≡ q.name = cc same in
    let sizes : p.size ≡ q.size = cc same in
    let chunks : a.chunk ≡ b.chunk = one_chunk q.name q.size a.chunk b.chunk (rw (names, sizes) at p.chunk) q.chunk in
    λ i. record { file = files i; chunk = chunks i }

-- rows lead to one recipe
pub one_recipe : (rows : List (List (List ℕ))) (start a b : RecipeValue) → Leads start rows a → Leads start rows b → a ≡ b
one_recipe [] start a b p q = sym p ∙ q
one_recipe (fields ∷ rows) start a b p q =
    let row = one_row fields p.1.row q.1.row p.1.spelled q.1.spelled in
    let next : p.0 ≡ q.0 = p.1.taken ∙ (ap (with_row start) row ∙ sym q.1.taken) in
    let From : RecipeValue → Type 0 = λ t. Leads t rows a in
    one_recipe rows q.0 a b (subst From next p.2) q.2

-- the recipe before a row on the way
record Before (start : RecipeValue) (front : List (List (List ℕ))) (fields : List (List ℕ)) : Type 0 where
  before : RecipeValue
  led : Leads start front before
  after : RecipeValue
  taken : TakesRow before fields after

before_row : (front : List (List (List ℕ))) (fields : List (List ℕ)) (rest : List (List (List ℕ))) (start a : RecipeValue) → Leads start (front ++ fields ∷ rest) a → Before start front fields
before_row [] fields rest start a p = record { before = start; led = refl; after = p.0; taken = p.1 }
before_row (row ∷ front) fields rest start a p =
    let b = before_row front fields rest p.0 a p.2 in
    record { before = b.before; led = (p.0, p.1, b.led); after = b.after; taken = b.taken }

pub well_named : (text size : List ℕ) (o : Option NamedChunk) → SpellsChunk text size o → HasChunkName text
well_named text size None p = inl p.0
well_named text size (Some c) p = inr (c.name, p.0)

zero_spelled : codes "0" ≡ decimal 0
unfolding digits
zero_spelled = refl

pub well_sized : (text size : List ℕ) (o : Option NamedChunk) → SpellsChunk text size o → HasBadSize text size → ⊥
well_sized text size None p (inl none) = none 0 (record { digits = p.1 ∙ zero_spelled; small = omega arith })
well_sized text size None p (inr bad) = bad.1 p.1
well_sized text size (Some c) p (inl none) = none c.size p.1
well_sized text size (Some c) p (inr bad) = unnamed text c.name bad.0 p.0

within_limits : (r : RecipeValue) (what : What) → IsWithinLimits r → PassesFirst r what → ⊥
within_limits r Files h over = let limit = h.files in omega (arith, limit, over)
within_limits r Chunks h over = let limit = h.chunks in let past = over.1 in omega (arith, limit, past)
within_limits r Bytes h over = let limit = h.bytes in let past = over.2 in omega (arith, limit, past)
within_limits r Pairs h over = let limit = h.pairs in let past = over.3 in omega (arith, limit, past)

-- a row that is taken has no fault
not_both : (r after : RecipeValue) (number : ℕ) (fields : List (List ℕ)) (e : RecipeError) → TakesRow r fields after → IsFault r number fields e → ⊥
not_both r after number fields (BadRow at) t f = f.1 (ap length t.spelled.three)
not_both r after number fields (BadName at) t f =
    let s = t.spelled in
    let same : t.row.file ∷ s.name ∷ s.size ∷ [] ≡ f.1.0 ∷ f.1.1 ∷ f.1.2 ∷ [] = sym s.three ∙ f.1.3 in
    let files : t.row.file ≡ f.1.0 = cc same in
    f.1.4 (rw files at s.file)
not_both r after number fields (BadChunkName at) t f =
    let s = t.spelled in
    let same : t.row.file ∷ s.name ∷ s.size ∷ [] ≡ f.1.0 ∷ f.1.1 ∷ f.1.2 ∷ [] = sym s.three ∙ f.1.3 in
    let names : s.name ≡ f.1.1 = cc same in
    f.1.5 (subst HasChunkName names (well_named s.name s.size t.row.chunk s.chunk))
not_both r after number fields (BadSize at) t f =
    let s = t.spelled in
    let same : t.row.file ∷ s.name ∷ s.size ∷ [] ≡ f.1.0 ∷ f.1.1 ∷ f.1.2 ∷ [] = sym s.three ∙ f.1.3 in
    let names : s.name ≡ f.1.1 = cc same in
    let sizes : s.size ≡ f.1.2 = cc same in
    well_sized f.1.1 f.1.2 t.row.chunk (rw (names, sizes) at s.chunk) f.1.6
not_both r after number fields (SizeClash at first now) t f =
    let g = f.1 in
    let same : t.row ≡ g.0 = one_row fields t.row g.0 t.spelled g.3 in
    let is : t.row.chunk ≡ Some g.1 = ap (λ (row : Row). row.chunk) same ∙ g.4 in
    let Keeps : Option NamedChunk → Type 0 = λ o. KeepsSize r o in
    let keeps = subst Keeps is t.follows.size in
    g.9 (sym g.8 ∙ (keeps g.2 g.6 g.7 ∙ g.5))
not_both r after number fields (TooMany at what) t f =
    let g = f.1 in
    let same : t.row ≡ g.0 = one_row fields t.row g.0 t.spelled g.1 in
    let Within : Row → Type 0 = λ row. IsWithinLimits (with_row r row) in
    within_limits (with_row r g.0) what (subst Within same t.follows.limits) g.3
not_both r after number fields Memory t f = f

pub no_fault : (rows : List (List (List ℕ))) (start a : RecipeValue) (e : RecipeError) → Leads start rows a → ¬ IsFirstFault start rows e
no_fault rows start a e p f =
    let From : List (List (List ℕ)) → Type 0 = λ t. Leads start t a in
    let b = before_row f.front f.fields f.rest start a (subst From f.split p) in
    let same : b.before ≡ f.before = one_recipe f.front start b.before f.before b.led f.lawful in
    let Takes : RecipeValue → Type 0 = λ t. TakesRow t f.fields b.after in
    not_both f.before b.after (length f.front + 1) f.fields e (subst Takes same b.taken) f.fault
