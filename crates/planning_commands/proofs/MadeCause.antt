-- Faults of a shelf, where what is made of a recipe has none of its own.
use Rattle.std.proofs.Common.{rules, ◌≡◌, ℕ}
use Rattle.std.specs.Prelude.{Result, Ok, Err, IfErr}
use Rattle.fault_count.specs.Counts.{HasCause}
use Rattle.command_texts.specs.declared.report.Halt.{Halt}
use Rattle.command_texts.specs.declared.report.Halt.TheVariants.{Outside, Memory}

no_fault : {U : Type 0} (made : Result U Halt) → IfErr made (λ halt. halt ≡ Memory) → made ≡ Err Outside → ⊥
no_fault (Ok value) memory fault = search rules
no_fault (Err halt) memory fault = search rules

not_read : {T : Type 0} (read : Result T Halt) (value : T) → read ≡ Ok value → read ≡ Err Outside → ⊥
not_read (Ok other) value is fault = search rules
not_read (Err halt) value is fault = search rules

-- the count of faults is that of reading
pub made_cause : {T U : Type 0} (before now : ℕ) (read : Result T Halt) (value : T) (made : Result U Halt) → read ≡ Ok value → HasCause Outside before now read → IfErr made (λ halt. halt ≡ Memory) → HasCause Outside before now made
made_cause before now read value made is cause memory = record {
  later = cause.later;
  failed = λ fault. absurd (no_fault made memory fault);
  kept = λ none. cause.kept (not_read read value is);
  ended = λ over. absurd (not_read read value is (cause.ended over));
}
