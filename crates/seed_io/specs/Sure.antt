-- What shelves and sinks hold that never fail.
use Rattle.std.specs.Prelude.{ℕ, List}
use Rattle.seed_io.specs.Memory.{files_told}
use Rattle.seed_io.specs.Shelf.{Told}
use Rattle.seed_io.specs.declared.sure.SureShelf.{SureShelf}
use Rattle.seed_io.specs.declared.sure.SureSink.{SureSink}

abbrev pub sure_map : SureShelf → Told
sure_map shelf = files_told shelf.files

abbrev pub sure_taken : SureSink → List ℕ
sure_taken sink = sink.bytes.items
