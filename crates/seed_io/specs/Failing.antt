-- Whether a call failed.
use Rattle.std.specs.Prelude.{Bool, true, false, Result, Ok, Err}
use Rattle.seed_io.specs.declared.shelf.ShelfError.{ShelfError}
use Rattle.seed_io.specs.declared.shelf.ShelfError.TheVariants as shelf
use Rattle.seed_io.specs.declared.sink.SinkError.{SinkError}
use Rattle.seed_io.specs.declared.sink.SinkError.TheVariants as sink

abbrev pub is_shelf_fault : {T : Type 0} → Result T ShelfError → Bool
is_shelf_fault (Ok value) = false
is_shelf_fault (Err shelf.Fault) = true
is_shelf_fault (Err shelf.NotThere) = false
is_shelf_fault (Err shelf.Memory) = false

abbrev pub is_sink_fault : {T : Type 0} → Result T SinkError → Bool
is_sink_fault (Ok value) = false
is_sink_fault (Err sink.Fault) = true
is_sink_fault (Err sink.Memory) = false
