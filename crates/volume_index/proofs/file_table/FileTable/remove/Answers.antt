use Rattle.std.proofs.Common.{◌<◌, List, length, sym, ◌∙◌, ap, arith}
use Rattle.std.specs.Prelude.{map as each, slice_get}
use Rattle.std.specs.String.{string_bytes}
use Rattle.std.specs.FinMap as map
use Rattle.std.specs.FinMap.Entries.{is_sorted}
use Rattle.site_forms.specs.Volumes.{bytes_cmp}
use Rattle.volume_index.specs.declared.file_table.FileEntry.{FileEntry}
use Rattle.volume_index.specs.FileTables.{FileTableValue, file_pair}
use Rattle.volume_index.proofs.FileReads.{files_of, file_count, name_there, list_there, take_sorted, take_view}
use Rattle.volume_index.proofs.file_table.FileTable.remove.Goals as goal

pub remove-chunks-requires : goal.remove-chunks-requires
remove-chunks-requires c = omega (arith, c.requires, c.self.inside.files.ok.0, file_count c.self.inside.files.items c.self.invariant, ap (λ (v : FileTableValue). map.len v.files) c.self.view_is)

pub invariant_of-self : goal.invariant_of-self
invariant_of-self c =
    let items = c.self.inside.files.items in
    let file = c.remove-chunks.result in
    let inside : c.args.place < length items = omega (arith, c.requires, file_count items c.self.invariant, ap (λ (v : FileTableValue). map.len v.files) c.self.view_is) in
    ap (λ (l : List FileEntry). is_sorted bytes_cmp (each file_pair l)) c.remove-chunks.ensures.items
    ∙ take_sorted items c.args.place (string_bytes file.name) c.self.invariant (name_there items c.args.place file c.self.invariant inside c.remove-chunks.ensures.value)

pub returns-clause-files : goal.returns-clause-files
returns-clause-files c = λ name at.
    let items = c.self.inside.files.items in
    ap (λ (l : List FileEntry). files_of l) c.remove-chunks.ensures.items
    ∙ take_view items c.args.place name c.self.invariant (ap (λ (v : FileTableValue). slice_get (map.keys v.files) c.args.place) c.self.view_is ∙ at)
    ∙ ap (λ (v : FileTableValue). map.remove v.files name) c.self.view_is

pub returns-clause-list : goal.returns-clause-list
returns-clause-list c =
    let items = c.self.inside.files.items in
    let inside : c.args.place < length items = omega (arith, c.requires, file_count items c.self.invariant, ap (λ (v : FileTableValue). map.len v.files) c.self.view_is) in
    ap (λ (v : FileTableValue). slice_get (map.values v.files) c.args.place) (sym c.self.view_is)
    ∙ list_there items c.args.place c.remove-chunks.result c.self.invariant inside c.remove-chunks.ensures.value
