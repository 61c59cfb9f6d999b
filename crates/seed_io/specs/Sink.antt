-- What the calls of a sink do.
use Rattle.std.specs.Prelude.{◌≡◌, ℕ, List, ◌++◌, take, Result, IsErrOf, OnOk}
use Rattle.seed_io.specs.declared.sink.SinkError.{SinkError}
use Rattle.seed_io.specs.declared.sink.SinkError.TheVariants.{Fault, Memory}

-- what a push does to the bytes taken: all of its bytes come behind them, after a fault a prefix of its bytes, and after
-- want of memory none
pub record Pushes (old new bytes : List ℕ) (result : Result (Unit {0}) SinkError) : Type 0 where
  pub ok : OnOk result (new ≡ old ++ bytes)
  pub fault : IsErrOf result Fault → (k : ℕ) × (new ≡ old ++ take k bytes)
  pub memory : IsErrOf result Memory → new ≡ old
