-- A rack over files.
use Rattle.std.specs.Prelude.{ℕ}
use Rattle.volume_disk.specs.declared.folder_rack.FolderRack.{FolderRack}

-- how many of its calls have failed
abbrev pub rack_faults : FolderRack → ℕ
rack_faults rack = rack.tally
