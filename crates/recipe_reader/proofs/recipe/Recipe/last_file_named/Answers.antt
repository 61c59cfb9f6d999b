use Rattle.std.proofs.Common.{◌≡◌, ◌∙◌, arith, get_or, subst, sym}
use Rattle.std.proofs.lemmas.List.Elements.{All-get_or}
use Rattle.std.proofs.lemmas.Option.{get_or_from_slice_get}
use Rattle.std.specs.Cmp.Lexicographic.{same_text}
use Rattle.std.specs.List.{position_or_len}
use Rattle.file_names.specs.FileNames.{IsFileName}
use Rattle.recipe_reader.specs.Recipes.{is_named}
use Rattle.list_facts.proofs.Numbering.{place}
use Rattle.recipe_reader.proofs.recipe.Recipe.last_file_named.Goals as goal

pub overflow_cast-result : goal.overflow_cast-result
overflow_cast-result c =
    let found = place (is_named c.args.name.now) c.self.inside.files c.in-Some.ensures.0 in
    let within = found.within in
    let limit = c.self.invariant.recipe.limits.files in
    omega (arith, within, c.in-Some.ensures.1, limit)

pub returns-in-Some-clause-lawful : goal.returns-in-Some-clause-lawful
returns-in-Some-clause-lawful c =
    let name = c.args.name.now in
    let files = c.self.inside.files in
    let number = position_or_len (is_named name) files in
    let found = place (is_named name) files c.in-Some.ensures.0 in
    let same : name ≡ found.item = same_text name found.item (sym found.passes) in
    let at : get_or files number found.item ≡ found.item = get_or_from_slice_get files number found.item found.item found.at in
    subst IsFileName (at ∙ sym same) (All-get_or IsFileName files number found.item found.within c.self.invariant.recipe.files)
