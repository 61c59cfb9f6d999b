use Rattle.std.specs.Prelude.{All}
use Rattle.std.proofs.Common.{◌≡◌, ◌<◌, ◌∙◌, [], ap, sym, subst, List, ℕ, Option, Some, length, get_or, arith}
use Rattle.std.specs.List.{flat_map, range_with_len}
use Rattle.list_facts.specs.Keyed.{lists_by_key, values_of}
use Rattle.list_facts.proofs.ByKey.{length-table, read-table}
use Rattle.csv_rows.specs.Rows.{rows_text}
use Rattle.csv_rows.specs.Written.{with_more}
use Rattle.recipe_reader.specs.WrittenRows.{chunks_used, file_rows, rows_of_recipe}
use Rattle.recipe_reader.proofs.Again.{text_again, text_is}
use Rattle.recipe_reader.proofs.WrittenText.{chunks_below, nothing, rows-more, values-used}
use Rattle.recipe_reader.proofs.writing.write_recipe.Goals as goal

pub loop-file-init : goal.loop-file-init
loop-file-init c = c.new-writer.ensures ∙ ap Some (sym nothing)

-- the list of a file among those of all
list_at : (pairs known : List (ℕ × ℕ)) (files file : ℕ) (lists : List (List ℕ)) (list : List ℕ) → lists ≡ lists_by_key known files → known ≡ pairs
    → file < files → list ≡ get_or lists file [] → list ≡ chunks_used pairs file
list_at pairs known files file lists list grouped same below at =
    at ∙ (read-table (λ (key : ℕ). values_of key known) lists files file [] grouped below ∙ (values-used known file ∙ ap (λ (t : List (ℕ × ℕ)). chunks_used t file) same))

pub list-requires : goal.list-requires
list-requires c =
    let long = ap length c.in_ok-by_file.ensures ∙ length-table (λ (key : ℕ). values_of key c.pairs.result.now) c.files-files.result in
    omega (arith, long)

pub write_file-requires-clause-chunks : goal.write_file-requires-clause-chunks
write_file-requires-clause-chunks c =
    let r = c.args.recipe.now in
    let list = list_at r.pairs c.pairs.result.now c.files-files.result c.loop-file.file c.in_ok-by_file.by_file c.list.result.now c.in_ok-by_file.ensures c.pairs.ensures.pairs c.loop-file-test.true c.list.ensures in
    let Below : List ℕ → Type 0 = λ t. All (λ chunk. chunk < length r.chunks) t in
    subst Below (sym list) (chunks_below (length r.files) (length r.chunks) c.loop-file.file r.pairs c.pairs.ensures.recipe.pairs)

pub loop-file-preserved : goal.loop-file-preserved
loop-file-preserved c =
    let r = c.args.recipe.now in
    let list = list_at r.pairs c.pairs.result.now c.files-files.result c.loop-file.file c.in_ok-by_file.by_file c.list.result.now c.in_ok-by_file.ensures c.pairs.ensures.pairs c.loop-file-test.true c.list.ensures in
    let rows : ℕ → List (List (List ℕ)) = λ file. file_rows r file (chunks_used r.pairs file) in
    c.in_ok-write_file.ensures ∙ (ap (λ (t : List ℕ). with_more c.loop-file.writer (rows_text (file_rows r c.loop-file.file t))) list
    ∙ (ap (λ (o : Option (List ℕ)). with_more o (rows_text (rows c.loop-file.file))) c.loop-file.invariant ∙ ap Some (sym (rows-more rows c.loop-file.file))))

pub returns-clause-text : goal.returns-clause-text
returns-clause-text c =
    let r = c.args.recipe.now in
    let all : c.loop-file.file ≡ length r.files = omega (arith, c.files-files.ensures.files) in
    let rows : ℕ → List (List (List ℕ)) = λ file. file_rows r file (chunks_used r.pairs file) in
    text_is c.loop-file.writer (rows_text (rows_of_recipe r)) c.finish.result (c.loop-file.invariant ∙ ap (λ (n : ℕ). Some (rows_text (flat_map rows (range_with_len 0 n)))) all) c.finish.ensures.ok

pub returns-clause-reads_back : goal.returns-clause-reads_back
returns-clause-reads_back c = text_again c.args.recipe.now c.finish.result c.pairs.ensures.recipe (returns-clause-text c)
