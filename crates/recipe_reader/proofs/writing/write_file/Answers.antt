use Rattle.std.specs.Prelude.{map, codes, OnOk}
use Rattle.std.proofs.Common.{◌≡◌, ◌∙◌, ◌∷◌, [], ap, sym, subst, refl, List, ℕ, Option, length, take, get_or}
use Rattle.std.proofs.lemmas.Bool.{eqb-true, eqb-false}
use Rattle.std.proofs.lemmas.List.{get_or_default, nil_from_length, take_all}
use Rattle.csv.specs.Writing.{default_writer, row_text}
use Rattle.csv_rows.specs.Rows.{rows_text}
use Rattle.csv_rows.specs.Written.{with_more}
use Rattle.csv_rows.proofs.Written.{rows_text-one, rows_text-more}
use Rattle.recipe_reader.specs.WrittenRows.{file_at, file_rows, pair_row}
use Rattle.recipe_reader.proofs.WrittenText.{file_rows-some, more_nothing, more_twice}
use Rattle.recipe_reader.proofs.writing.write_file.Goals as goal

pub returns-then-is_empty : goal.returns-then-is_empty
returns-then-is_empty c =
    let none : c.args.chunks.now ≡ [] = nil_from_length c.args.chunks.now (eqb-true (length c.args.chunks.now) 0 (sym c.if-is_empty.ensures)) in
    let fields = file_at c.args.recipe.now c.args.file ∷ [] ∷ codes "0" ∷ [] in
    let name = c.as_bytes-name.ensures.value ∙ c.file_name.ensures.name in
    let same : c.as_bytes-name.result.now ∷ c.as_slice.result.now ∷ c.as_slice-then-is_empty.result.now ∷ [] ≡ fields = rw (name, c.as_slice.ensures, c.as_slice-then-is_empty.ensures) refl in
    let one : rows_text (file_rows c.args.recipe.now c.args.file c.args.chunks.now) ≡ row_text default_writer fields =
    ap (λ (t : List ℕ). rows_text (file_rows c.args.recipe.now c.args.file t)) none ∙ rows_text-one fields in
    let Written : List ℕ → Type 0 = λ t. OnOk c.row.result (c.row.new.self ≡ with_more c.args.writer.now t) in
    subst Written (ap (row_text default_writer) same ∙ sym one) c.row.ensures.ok

pub loop-chunk-init : goal.loop-chunk-init
loop-chunk-init c = sym (more_nothing c.args.writer.now)

pub loop-chunk-preserved : goal.loop-chunk-preserved
loop-chunk-preserved c =
    let i = c.loop-chunk.chunk-index in
    let chunk = get_or c.args.chunks.now i 0 in
    let row = pair_row c.args.recipe.now c.args.file in
    let before = rows_text (map row (take i c.args.chunks.now)) in
    c.in_ok-write_pair.ensures ∙ (ap (λ (o : Option (List ℕ)). with_more o (row_text default_writer (row chunk))) c.loop-chunk.invariant
    ∙ (more_twice c.args.writer.now before (row_text default_writer (row chunk))
    ∙ ap (λ (t : List ℕ). with_more c.args.writer.now t) (sym (rows_text-more row c.args.chunks.now i chunk c.loop-chunk-test.true (get_or_default c.args.chunks.now i 0 chunk c.loop-chunk-test.true)))))

pub returns : goal.returns
returns c =
    let row = pair_row c.args.recipe.now c.args.file in
    let chunks = c.args.chunks.now in
    let some = eqb-false (length chunks) 0 (sym c.if-is_empty.ensures) in
    c.loop-chunk.invariant ∙ ap (λ (t : List ℕ). with_more c.args.writer.now t) (ap (λ (t : List ℕ). rows_text (map row t)) (take_all c.loop-chunk.chunk-index chunks c.loop-chunk-test.false)
    ∙ ap rows_text (sym (file_rows-some c.args.recipe.now c.args.file chunks some)))
