-- A recipe that is copied from another one, file by file and chunk by chunk.
use Rattle.std.specs.Prelude.{◌⊎◌, Contains, map, option_map}
use Rattle.std.proofs.Common.{◌≡◌, ◌∙◌, ◌<◌, ◌≤◌, ◌∷◌, ◌++◌, [], ℕ, zero, suc, List, Bool, Some, true, refl, sym, ap, subst, length, slice_get, arith, inl, inr}
use Rattle.std.specs.Cmp.Lexicographic.{same_text}
use Rattle.std.specs.List.{list_any}
use Rattle.std.proofs.lemmas.Bool.{cases_Bool}
use Rattle.std.proofs.lemmas.List.{length-map, length_push}
use Rattle.std.proofs.lemmas.List.Elements.{All-contains, All-push, Contains-append_left, Contains-get_or}
use Rattle.std.proofs.lemmas.Option.{same_Some, slice_get-map, slice_get_within}
use Rattle.list_facts.specs.Firsts.{with_new}
use Rattle.list_facts.proofs.FirstAppearance.{any_new, contains_with_new}
use Rattle.list_facts.proofs.Numbering.{place}
use Rattle.recipe_reader.specs.AddFaults.{IsLimitFault, IsPairFault}
use Rattle.recipe_reader.specs.Lawful.{IsRecipe, IsPairBelow}
use Rattle.recipe_reader.specs.Limits.{IsWithinLimits, KeepsSize, PassesFirst}
use Rattle.recipe_reader.specs.Recipes.{NamedChunk, RecipeValue, is_named, is_chunk, is_pair, file_number, chunk_number, with_file, with_pair}
use Rattle.recipe_reader.specs.Same.{UsesByName}
use Rattle.recipe_reader.specs.declared.error.AddError.{AddError}
use Rattle.recipe_reader.specs.declared.error.AddError.TheVariants.{Clash, TooMany, Memory}
use Rattle.recipe_reader.specs.declared.error.What.{What}
use Rattle.recipe_reader.specs.declared.error.What.TheVariants.{Files, Chunks, Bytes, Pairs}
use Rattle.recipe_reader.proofs.Keeping.{below_wider, named_equiv, chunk_equiv, pair_equiv}
use Rattle.recipe_reader.proofs.Replaying.{distinct_with_new}
use Rattle.recipe_reader.proofs.Sizes.{one_of_name}
use Rattle.recipe_reader.proofs.Subsets.{sum_within, length_within}
use Rattle.recipe_order.specs.Parts.{IsPartOf}
use Rattle.recipe_order.specs.Sorted.{chunk_at}
use Rattle.recipe_order.proofs.Names.{IsKeyed, keyed, no_chunk, name_is, size_is}
use Rattle.recipe_order.proofs.Within.{contains_pair, pairs_within}

abbrev pub names : List NamedChunk → List (List ℕ)
names chunks = map (λ (c : NamedChunk). c.name) chunks

-- ---- items put last

front_get : {X : Type 0} (xs ys : List X) (k : ℕ) → k < length xs → slice_get (xs ++ ys) k ≡ slice_get xs k
front_get [] ys k lt = absurd (omega arith)
front_get (x ∷ xs) ys zero lt = refl
front_get (x ∷ xs) ys (suc k) lt = front_get xs ys k (omega arith)

old_get : {X : Type 0} (p : X → Bool) (xs : List X) (y : X) (k : ℕ) → k < length xs → slice_get (with_new p xs y) k ≡ slice_get xs k
old_get p xs y k lt = elim (cases_Bool (list_any p xs)) [ inl t ↦ rw t refl | inr f ↦ rw f (front_get xs (y ∷ []) k lt) ]

old_name : (p : NamedChunk → Bool) (xs : List NamedChunk) (y : NamedChunk) (k : ℕ) → k < length xs → slice_get (names (with_new p xs y)) k ≡ slice_get (names xs) k
old_name p xs y k lt =
    let name : NamedChunk → List ℕ = λ c. c.name in
    slice_get-map name (with_new p xs y) k ∙ (ap (option_map name) (old_get p xs y k lt) ∙ sym (slice_get-map name xs k))

old_there : {X : Type 0} (p : X → Bool) (xs : List X) (y x : X) → Contains xs x → Contains (with_new p xs y) x
old_there p xs y x there = elim (cases_Bool (list_any p xs)) [ inl t ↦ rw t there | inr f ↦ rw f (Contains-append_left xs (y ∷ []) x there) ]

no_shorter : {X : Type 0} (p : X → Bool) (xs : List X) (y : X) → length xs ≤ length (with_new p xs y)
no_shorter p xs y = elim (cases_Bool (list_any p xs)) [ inl t ↦ rw t (omega arith) | inr f ↦ rw f (omega (arith, length_push xs y)) ]

-- the number of a name that is there
pub file_named : (files : List (List ℕ)) (name : List ℕ) → list_any (is_named name) files ≡ true → slice_get files (file_number files name) ≡ Some name
file_named files name any = let p = place (is_named name) files any in p.at ∙ ap Some (sym (same_text name p.item (sym p.passes)))

chunk_named : (chunks : List NamedChunk) (name : List ℕ) → list_any (is_chunk name) chunks ≡ true → slice_get (names chunks) (chunk_number chunks name) ≡ Some name
chunk_named chunks name any =
    let p = place (is_chunk name) chunks any in
    slice_get-map (λ (c : NamedChunk). c.name) chunks (chunk_number chunks name)
    ∙ (ap (option_map (λ (c : NamedChunk). c.name)) p.at ∙ ap Some (sym (same_text name p.item.name (sym p.passes))))

new_chunk_named : (r : RecipeValue) (c : NamedChunk) → let chunks = with_new (is_chunk c.name) r.chunks c in slice_get (names chunks) (chunk_number chunks c.name) ≡ Some c.name
new_chunk_named r c = chunk_named (with_new (is_chunk c.name) r.chunks c) c.name (any_new (is_chunk c.name) r.chunks c (chunk_equiv.refl c))

-- ---- the uses by name of a recipe with a file or a pair more

pub kept_file : (r : RecipeValue) (name file chunk : List ℕ) → UsesByName r file chunk → UsesByName (with_file r name) file chunk
kept_file r name file chunk u = record {
  pair = u.pair;
  stands = u.stands;
  file_named = old_get (is_named name) r.files name u.pair.0 (slice_get_within r.files u.pair.0 file u.file_named) ∙ u.file_named;
  chunk_named = u.chunk_named;
}

pub kept_pair : (r : RecipeValue) (number : ℕ) (c : NamedChunk) (file chunk : List ℕ) → UsesByName r file chunk → UsesByName (with_pair r number c) file chunk
kept_pair r number c file chunk u =
    let long = length-map r.chunks (λ (c : NamedChunk). c.name) in
    let within = slice_get_within (names r.chunks) u.pair.1 chunk u.chunk_named in
    record {
      pair = u.pair;
      stands = old_there (is_pair number (chunk_number (with_new (is_chunk c.name) r.chunks c) c.name)) r.pairs (number, chunk_number (with_new (is_chunk c.name) r.chunks c) c.name) u.pair u.stands;
      file_named = u.file_named;
      chunk_named = old_name (is_chunk c.name) r.chunks c u.pair.1 (omega (arith, long, within)) ∙ u.chunk_named;
    }

pub new_pair : (r : RecipeValue) (number : ℕ) (c : NamedChunk) (file : List ℕ) → slice_get r.files number ≡ Some file → UsesByName (with_pair r number c) file c.name
new_pair r number c file at =
    let chunk = chunk_number (with_new (is_chunk c.name) r.chunks c) c.name in
    let pairs = with_new (is_pair number chunk) r.pairs (number, chunk) in
    record {
      pair = (number, chunk);
      stands = contains_pair pairs number chunk (any_new (is_pair number chunk) r.pairs (number, chunk) (pair_equiv.refl (number, chunk)));
      file_named = at;
      chunk_named = new_chunk_named r c;
    }

file_from : (r : RecipeValue) (name file chunk : List ℕ) → IsRecipe r → UsesByName (with_file r name) file chunk → UsesByName r file chunk
file_from r name file chunk h u =
    let below = All-contains (IsPairBelow (length r.files) (length r.chunks)) r.pairs u.pair h.pairs u.stands in
    record {
      pair = u.pair;
      stands = u.stands;
      file_named = sym (old_get (is_named name) r.files name u.pair.0 below.file) ∙ u.file_named;
      chunk_named = u.chunk_named;
    }

pair_from : (r : RecipeValue) (number : ℕ) (c : NamedChunk) (file chunk : List ℕ) → IsRecipe r → UsesByName (with_pair r number c) file chunk
    → UsesByName r file chunk ⊎ ((slice_get r.files number ≡ Some file) × (c.name ≡ chunk))
pair_from r number c file chunk h u =
    let chunks = with_new (is_chunk c.name) r.chunks c in
    let n = chunk_number chunks c.name in
    elim (contains_with_new (is_pair number n) r.pairs (number, n) u.pair u.stands) [
      | inl old ↦
          let below = All-contains (IsPairBelow (length r.files) (length r.chunks)) r.pairs u.pair h.pairs old in
          inl record {
            pair = u.pair;
            stands = old;
            file_named = u.file_named;
            chunk_named = sym (old_name (is_chunk c.name) r.chunks c u.pair.1 below.chunk) ∙ u.chunk_named;
          }
      | inr new ↦
          let one : number ≡ u.pair.0 = ap (λ (p : ℕ × ℕ). p.0) new.1 in
          let two : n ≡ u.pair.1 = ap (λ (p : ℕ × ℕ). p.1) new.1 in
          inr (ap (slice_get r.files) one ∙ u.file_named, same_Some c.name chunk (sym (new_chunk_named r c) ∙ (ap (slice_get (names chunks)) two ∙ u.chunk_named)))
    ]

-- ---- a part of a recipe stays one

-- the chunk with a number is one of the chunks
pub chunk_there : (r : RecipeValue) (chunk : ℕ) → chunk < length r.chunks → Contains r.chunks (chunk_at r chunk)
chunk_there r chunk lt =
    let Within : NamedChunk → Type 0 = λ c. Contains r.chunks c in
    subst Within (λ i. record { name = sym (name_is r chunk lt) i; size = sym (size_is r chunk lt) i }) (Contains-get_or r.chunks chunk no_chunk lt)

pub part_file : (r part : RecipeValue) (name : List ℕ) → IsPartOf r part → Contains r.files name → IsRecipe (with_file part name) → IsPartOf r (with_file part name)
part_file r part name p there after = record {
  recipe = after;
  files = λ other in_part. elim (contains_with_new (is_named name) part.files name other in_part) [ inl old ↦ p.files other old | inr new ↦ rw (sym new.1) there ];
  chunks = p.chunks;
  pairs = λ file chunk u. p.pairs file chunk (file_from part name file chunk p.recipe u);
}

part_chunks : (r part : RecipeValue) (number : ℕ) (c : NamedChunk) → IsPartOf r part → Contains r.chunks c → (k : NamedChunk) → Contains (with_pair part number c).chunks k → Contains r.chunks k
part_chunks r part number c p there k in_part = elim (contains_with_new (is_chunk c.name) part.chunks c k in_part) [ inl old ↦ p.chunks k old | inr new ↦ rw (sym new.1) there ]

part_uses : (r part : RecipeValue) (number : ℕ) (c : NamedChunk) (name : List ℕ) → IsPartOf r part → slice_get part.files number ≡ Some name → UsesByName r name c.name
    → (file chunk : List ℕ) → UsesByName (with_pair part number c) file chunk → UsesByName r file chunk
part_uses r part number c name p at used file chunk u = elim (pair_from part number c file chunk p.recipe u) [
  | inl old ↦ p.pairs file chunk old
  | inr new ↦
      let is : name ≡ file = same_Some name file (sym at ∙ new.0) in
      let Uses : List ℕ → List ℕ → Type 0 = λ f k. UsesByName r f k in
      subst (λ (f : List ℕ). Uses f chunk) is (subst (λ (k : List ℕ). Uses name k) new.1 used)
]

pub part_pair : (r part : RecipeValue) (number : ℕ) (c : NamedChunk) (name : List ℕ) → IsPartOf r part → Contains r.chunks c → slice_get part.files number ≡ Some name → UsesByName r name c.name
    → IsRecipe (with_pair part number c) → IsPartOf r (with_pair part number c)
part_pair r part number c name p there at used after =
    record { recipe = after; files = p.files; chunks = part_chunks r part number c p there; pairs = part_uses r part number c name p at used }

-- ---- and it is never refused but for want of memory

file_limits : (r part : RecipeValue) (name : List ℕ) → IsRecipe r → IsPartOf r part → Contains r.files name → IsWithinLimits (with_file part name)
file_limits r part name h p there =
    let within : (other : List ℕ) → Contains (with_file part name).files other → Contains r.files other = λ other in_part.
    elim (contains_with_new (is_named name) part.files name other in_part) [ inl old ↦ p.files other old | inr new ↦ rw (sym new.1) there ] in
    let files = length_within is_named named_equiv (with_file part name).files r.files (distinct_with_new is_named named_equiv part.files name p.recipe.files_differ) within in
    let whole = h.limits in
    let limits = p.recipe.limits in
    record { files = omega (arith, files, whole.files); chunks = limits.chunks; bytes = limits.bytes; pairs = limits.pairs }

pair_keyed : (part : RecipeValue) (number : ℕ) (c : NamedChunk) → IsRecipe part → number < length part.files → IsKeyed (with_pair part number c)
pair_keyed part number c h lt =
    let chunks = with_new (is_chunk c.name) part.chunks c in
    let n = chunk_number chunks c.name in
    let p = place (is_chunk c.name) chunks (any_new (is_chunk c.name) part.chunks c (chunk_equiv.refl c)) in
    let Below : ℕ × ℕ → Type 0 = λ t. IsPairBelow (length part.files) (length chunks) t in
    let old = below_wider (length part.files) (length part.chunks) (length part.files) (length chunks) part.pairs (omega arith) (no_shorter (is_chunk c.name) part.chunks c) h.pairs in
    record {
      files_differ = h.files_differ;
      chunks_differ = distinct_with_new (λ (c : NamedChunk). is_chunk c.name) chunk_equiv part.chunks c h.chunks_differ;
      pairs = elim (cases_Bool (list_any (is_pair number n) part.pairs)) [
        | inl t ↦ rw t old
        | inr f ↦ rw f (All-push Below part.pairs (number, n) old (record { file = lt; chunk = p.within }))
      ];
    }

pair_limits : (r part : RecipeValue) (number : ℕ) (c : NamedChunk) (name : List ℕ) → IsRecipe r → IsPartOf r part → Contains r.chunks c → slice_get part.files number ≡ Some name
    → UsesByName r name c.name → IsWithinLimits (with_pair part number c)
pair_limits r part number c name h p there at used =
    let k = pair_keyed part number c p.recipe (slice_get_within part.files number name at) in
    let n = chunk_number (with_new (is_chunk c.name) part.chunks c) c.name in
    let after = with_pair part number c in
    let within = part_chunks r part number c p there in
    let chunks = length_within (λ (c : NamedChunk). is_chunk c.name) chunk_equiv after.chunks r.chunks k.chunks_differ within in
    let bytes = sum_within (λ (c : NamedChunk). is_chunk c.name) chunk_equiv (λ (c : NamedChunk). c.size) after.chunks r.chunks k.chunks_differ within in
    let differ = distinct_with_new (λ (p : ℕ × ℕ). is_pair p.0 p.1) pair_equiv part.pairs (number, n) p.recipe.pairs_differ in
    let pairs = pairs_within after r k (keyed r h) differ (part_uses r part number c name p at used) in
    let whole = h.limits in
    record { files = p.recipe.limits.files; chunks = omega (arith, chunks, whole.chunks); bytes = omega (arith, bytes, whole.bytes); pairs = omega (arith, pairs, whole.pairs) }

no_limit : (after : RecipeValue) (what : What) → IsWithinLimits after → PassesFirst after what → ⊥
no_limit after Files h past = omega (arith, h.files, past)
no_limit after Chunks h past = omega (arith, h.chunks, past.1)
no_limit after Bytes h past = omega (arith, h.bytes, past.2)
no_limit after Pairs h past = omega (arith, h.pairs, past.3)

pub file_memory : (r part : RecipeValue) (name : List ℕ) (e : AddError) → IsRecipe r → IsPartOf r part → Contains r.files name → IsLimitFault (with_file part name) e → e ≡ Memory
file_memory r part name (Clash first now) h p there fault = absurd fault
file_memory r part name (TooMany what) h p there fault = absurd (no_limit (with_file part name) what (file_limits r part name h p there) fault)
file_memory r part name Memory h p there fault = refl

keeps_size : (r part : RecipeValue) (c : NamedChunk) → IsRecipe r → IsPartOf r part → Contains r.chunks c → KeepsSize part (Some c)
keeps_size r part c h p there known in_part same = ap (λ (k : NamedChunk). k.size) (one_of_name r.chunks known c h.chunks_differ (p.chunks known in_part) there same)

pub pair_memory : (r part : RecipeValue) (number : ℕ) (c : NamedChunk) (name : List ℕ) (e : AddError) → IsRecipe r → IsPartOf r part → Contains r.chunks c → slice_get part.files number ≡ Some name
    → UsesByName r name c.name → IsPairFault part number c e → e ≡ Memory
pair_memory r part number c name (Clash first now) h p there at used fault =
    absurd (fault.1 (keeps_size r part c h p there (record { name = c.name; size = first }) fault.2 refl ∙ fault.0))
pair_memory r part number c name (TooMany what) h p there at used fault = absurd (no_limit (with_pair part number c) what (pair_limits r part number c name h p there at used) fault.1)
pair_memory r part number c name Memory h p there at used fault = refl
