use Rattle.std.proofs.Common.{◌∙◌, ap, arith}
use Rattle.std.specs.List.{fold}
use Rattle.std.specs.FinMap as map
use Rattle.std.proofs.lemmas.List.{take_all}
use Rattle.recipe_reader.specs.Recipes.{empty_recipe}
use Rattle.chunk_volume.specs.ReadingVolumes.{with_list}
use Rattle.chunk_volume.proofs.Recipes.{next_entry, list_added}
use Rattle.chunk_volume.proofs.recipe.recipe_from.Goals as goal

pub files-preserved : goal.files-preserved
files-preserved c =
    let shape = c.args.holding.now.shape in
    let entry = next_entry shape.files c.files.place (omega (arith, c.files-test.true, c.file_count-place-end.ensures.count)) in
    list_added shape c.files.recipe c.add_list.new.recipe c.files.place entry c.files.invariant (c.in_ok-add_list.ensures entry.name entry.list entry.key entry.value)

pub returns : goal.returns
returns c =
    let shape = c.args.holding.now.shape in
    c.files.invariant ∙ ap (fold (with_list shape) empty_recipe) (take_all c.files.place (map.entries shape.files) (omega (arith, c.files-test.false, c.file_count-place-end.ensures.count, map.len-entries shape.files)))
