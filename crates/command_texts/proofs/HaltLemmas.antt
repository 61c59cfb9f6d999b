-- What was made, behind a halt for want of memory.
use Rattle.std.proofs.Common.{◌≡◌, subst}
use Rattle.std.specs.Prelude.{Result, Ok, Err, IfOk}
use Rattle.seed_model.specs.declared.memory.NoMemory.{NoMemory}
use Rattle.command_texts.specs.declared.report.Halt.{Halt}

-- what holds of a value that was made holds of it behind the halt
pub through_halt : {T : Type 0} (P Q : T → Type 0) (made : Result T NoMemory) (halted : Result T Halt) → IfOk halted (λ value. made ≡ Ok value) → IfOk made P
    → ((value : T) → P value → Q value) → IfOk halted Q
through_halt {T} P Q made (Ok value) same p weaker =
    let Holds : Result T NoMemory → Type 0 = λ m. IfOk m P in
    weaker value (subst Holds same p)
through_halt P Q made (Err halt) same p weaker = tt
