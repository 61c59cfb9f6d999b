use Rattle.std.proofs.Common.{◌<◌, length, sym, ◌∙◌, ap, arith, Some}
use Rattle.std.specs.Prelude.{slice_get}
use Rattle.std.specs.FinMap as map
use Rattle.volume_index.specs.FileTables.{FileTableValue}
use Rattle.volume_index.proofs.FileReads.{file_count, list_there}
use Rattle.volume_index.proofs.file_table.FileTable.chunks_at.Goals as goal

pub index-requires : goal.index-requires
index-requires c = omega (arith, c.requires, c.self.inside.files.ok.0, file_count c.self.inside.files.items c.self.invariant, ap (λ (v : FileTableValue). map.len v.files) c.self.view_is)

pub returns : goal.returns
returns c =
    let items = c.self.inside.files.items in
    let inside : c.args.place < length items = omega (arith, c.requires, file_count items c.self.invariant, ap (λ (v : FileTableValue). map.len v.files) c.self.view_is) in
    ap (λ (v : FileTableValue). slice_get (map.values v.files) c.args.place) (sym c.self.view_is)
    ∙ list_there items c.args.place c.index.result.now c.self.invariant inside c.index.ensures
    ∙ ap Some (sym c.as_slice.ensures.value)
