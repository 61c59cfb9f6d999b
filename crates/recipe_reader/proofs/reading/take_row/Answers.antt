use Rattle.std.proofs.Common.{◌≡◌, ◌≢◌, [], refl, length, get_or, rules}
use Rattle.std.proofs.lemmas.Result.{IfErr-weaker}
use Rattle.csv.specs.Records.{fields_of}
use Rattle.recipe_reader.specs.Parts.{IsRowFault, row_of}
use Rattle.recipe_reader.specs.Reading.{IsFault}
use Rattle.recipe_reader.specs.RecipeRows.{SpellsRow}
use Rattle.recipe_reader.specs.declared.error.RecipeError.TheVariants.{Memory}
use Rattle.recipe_reader.proofs.Fields.{named_lawful, three_fields}
use Rattle.recipe_reader.proofs.RowsTaken.{row_fault, row_taken, spells_fields}
use Rattle.recipe_reader.proofs.reading.take_row.Goals as goal

pub returns-in_default-name-clause-fault : goal.returns-in_default-name-clause-fault
returns-in_default-name-clause-fault c = λ other.
    let fields = fields_of c.args.row.now in
    let three : length fields ≡ 3 = search rules in (
      refl,
      (
        get_or fields 0 [],
        get_or fields 1 [],
        get_or fields 2 [],
        three_fields fields three,
        rw (← c.field-2.ensures) c.in-Some.ensures.same.1,
        rw (← c.field-text.ensures) c.in_default-name.ensures.none,
      ),
    )

pub returns-clause-ok : goal.returns-clause-ok
returns-clause-ok c =
    let row = row_of c.in-Some.file.name.now c.in-Some-name.name.now c.in-Some-size.size in
    let spelled : SpellsRow (fields_of c.args.row.now) row =
    spells_fields (fields_of c.args.row.now) c.field-2.result.now c.field-text.result.now c.field.result.now c.in-Some.file.name.now c.in-Some-name.name.now c.in-Some-name.name.now
    c.in-Some-size.size (search rules) c.field-2.ensures c.field-text.ensures c.field.ensures c.in-Some.ensures.same.0 c.in-Some.ensures.same.1 refl
    c.in-Some-name.ensures.found c.in-Some-size.ensures.found c.in-Some-size.ensures.unnamed in
    row_taken c.add_row.result c.args.recipe.now c.add_row.new.recipe (fields_of c.args.row.now) row spelled c.add_row.ensures.ok c.add_row.ensures.follows

pub returns-clause-fault : goal.returns-clause-fault
returns-clause-fault c =
    let row = row_of c.in-Some.file.name.now c.in-Some-name.name.now c.in-Some-size.size in
    let spelled : SpellsRow (fields_of c.args.row.now) row =
    spells_fields (fields_of c.args.row.now) c.field-2.result.now c.field-text.result.now c.field.result.now c.in-Some.file.name.now c.in-Some-name.name.now c.in-Some-name.name.now
    c.in-Some-size.size (search rules) c.field-2.ensures c.field-text.ensures c.field.ensures c.in-Some.ensures.same.0 c.in-Some.ensures.same.1 refl
    c.in-Some-name.ensures.found c.in-Some-size.ensures.found c.in-Some-size.ensures.unnamed in
    IfErr-weaker c.add_row.result (λ e. e ≢ Memory → IsRowFault c.args.recipe.now c.args.number row e) (λ e. e ≢ Memory → IsFault c.args.recipe.now c.args.number (fields_of c.args.row.now) e)
    (λ e h other. row_fault c.args.recipe.now c.args.number (fields_of c.args.row.now) row e spelled (h other)) c.add_row.ensures.fault

pub add_row-requires-clause-name : goal.add_row-requires-clause-name
add_row-requires-clause-name c = named_lawful c.field-text.result.now c.in-Some-name.name.now c.in-Some-name.ensures.found
