use Rattle.std.proofs.Common.{◌∙◌, ap, List, length}
use Rattle.std.specs.Prelude.{map as each}
use Rattle.std.specs.FinMap as map
use Rattle.std.specs.FinMap.Entries.{is_sorted}
use Rattle.site_forms.specs.Volumes.{bytes_cmp}
use Rattle.volume_index.specs.declared.file_table.FileEntry.{FileEntry}
use Rattle.volume_index.specs.FileTables.{file_pair}
use Rattle.volume_index.proofs.FileReads.{files_of, file_count}
use Rattle.volume_index.proofs.file_table.FileTable.new.Goals as goal

pub returns : goal.returns
returns c =
    let none = c.new.ensures.items in
    map.empty_of_len (files_of c.new.result.items) (file_count c.new.result.items (ap (λ (l : List FileEntry). is_sorted bytes_cmp (each file_pair l)) none) ∙ ap (λ (l : List FileEntry). length l) none)
