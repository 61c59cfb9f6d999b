-- What shelves and sinks in memory hold, and which of their calls fail; and the faults of those of the machine.
use Rattle.std.specs.Prelude.{ℕ, List}
use Rattle.fault_count.specs.Plans.{Plan}
use Rattle.seed_io.specs.Sure.{sure_map, sure_taken as sure_bytes}
use Rattle.seed_io.specs.Shelf.{Told}
use Rattle.seed_io.specs.declared.folder_shelf.FolderShelf.{FolderShelf}
use Rattle.seed_io.specs.declared.mem_shelf.MemShelf.{MemShelf}
use Rattle.seed_io.specs.declared.mem_sink.MemSink.{MemSink}
use Rattle.seed_io.specs.declared.std_sink.StdSink.{StdSink}

abbrev pub shelf_map : MemShelf → Told
shelf_map shelf = sure_map shelf.files

abbrev pub shelf_plan : MemShelf → Plan
shelf_plan shelf = shelf.plan

abbrev pub sink_taken : MemSink → List ℕ
sink_taken sink = sure_bytes sink.bytes

abbrev pub sink_plan : MemSink → Plan
sink_plan sink = sink.plan

-- how many calls of the machine's files have failed
abbrev pub folder_faults : {R File Dir : Type 0} → FolderShelf R File Dir → ℕ
folder_faults shelf = shelf.tally

-- how many pushes to standard output have failed
abbrev pub output_faults : {R : Type 0} → StdSink R → ℕ
output_faults sink = sink.tally
