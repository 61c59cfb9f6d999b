use Rattle.std.proofs.Common.{◌≡◌, ℕ, List, true, false, Option, Some, None, IsSome, Result, Ok, Err, refl, sym, ◌∙◌, ap, subst}
use Rattle.std.specs.Prelude.{is_some, is_err, OnOk}
use Rattle.std.specs.List.{fold}
use Rattle.std.proofs.lemmas.Bool.{true≢false}
use Rattle.std.proofs.lemmas.List.{take_all}
use Rattle.recipe_reader.specs.Recipes.{with_file}
use Rattle.chunk_volume.specs.ReadingVolumes.{with_chunk_of}
use Rattle.chunk_volume.proofs.Files.{file_list, chunk_held}
use Rattle.chunk_volume.proofs.Recipes.{ChunksAdded, file_added, chunk_added}
use Rattle.chunk_volume.proofs.recipe.add_list.Goals as goal

some_same : {X : Type 0} (x y : X) → Some x ≡ Some y → x ≡ y
some_same x y is = cc

is_there : {X : Type 0} (o : Option X) → is_some o ≡ true → IsSome o
is_there None is = absurd (true≢false (sym is))
is_there (Some x) is = refl

when_ok : {T E : Type 0} (r : Result T E) (P : Type 0) → is_err r ≡ false → OnOk r P → P
when_ok (Ok x) P is holds = holds
when_ok (Err e) P is holds = absurd (true≢false is)

pub chunks-init : goal.chunks-init
chunks-init c = λ name key.
    let shape = c.args.holding.now.shape in
    let own = c.file_name-name.result.now in
    let list = c.file_chunks-list.result.now in
    subst (λ (n : List ℕ). ChunksAdded shape c.args.recipe.now c.add_file.new.self c.in-Ok.file n list 0) (some_same own name (sym c.file_name-name.ensures.name ∙ key))
    (file_added shape c.args.recipe.now c.add_file.new.self c.in-Ok.file own list c.in-Ok.ensures.ok c.in-Ok.ensures.number)

pub unwrap-size-requires : goal.unwrap-size-requires
unwrap-size-requires c =
    let shape = c.args.holding.now.shape in
    let own = c.file_name-name.result.now in
    let list = c.file_chunks-list.result.now in
    let is = file_list shape.files c.args.place own list c.file_name-name.ensures.name c.file_chunks-list.ensures.list in
    is_there c.chunk_len.result (ap is_some c.chunk_len.ensures ∙ chunk_held shape own list c.chunks.chunk-index c.file_count-files.ensures.keeps is c.chunks-test.true)

pub add_pair-requires-clause-file : goal.add_pair-requires-clause-file
add_pair-requires-clause-file c = (c.chunks.invariant c.file_name-name.result.now c.file_name-name.ensures.name).inside

pub chunks-preserved : goal.chunks-preserved
chunks-preserved c = λ name key.
    let shape = c.args.holding.now.shape in
    let list = c.file_chunks-list.result.now in
    let is = when_ok c.add_pair.result _ (sym c.is_err.ensures.value ∙ c.if-is_err.false) c.add_pair.ensures.ok in
    chunk_added shape c.args.recipe.now c.chunks.recipe c.add_pair.new.self c.in-Ok.file name list c.chunks.chunk-index c.from.result c.chunks-test.true
    (sym c.chunk_len.ensures ∙ c.unwrap-size.ensures ∙ ap (λ (n : ℕ). Some n) (sym c.from.ensures)) is (c.chunks.invariant name key)

pub returns : goal.returns
returns c = λ name list key value.
    let shape = c.args.holding.now.shape in
    let own = c.file_chunks-list.result.now in
    let same : own ≡ list = some_same own list (sym c.file_chunks-list.ensures.list ∙ value) in
    (c.chunks.invariant name key).is ∙ ap (fold (with_chunk_of shape name) (with_file c.args.recipe.now name)) (take_all c.chunks.chunk-index own c.chunks-test.false ∙ same)
