use Rattle.std.proofs.Common.{ap, arith}
use Rattle.std.specs.FinMap as map
use Rattle.volume_index.specs.FileTables.{FileTableValue}
use Rattle.volume_index.proofs.FileReads.{file_count}
use Rattle.volume_index.proofs.file_table.FileTable.len.Goals as goal

pub returns : goal.returns
returns c =
    omega (arith, c.len.ensures, c.self.inside.files.ok.0, file_count c.self.inside.files.items c.self.invariant, ap (λ (v : FileTableValue). map.len v.files) c.self.view_is)
