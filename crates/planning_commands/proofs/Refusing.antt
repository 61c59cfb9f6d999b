-- Refusals and their causes.
use Rattle.std.proofs.Common.{ℕ, List, sym, subst}
use Rattle.command_texts.specs.declared.status.Status.{Status}
use Rattle.command_texts.specs.Refusals.{Refuses, Refusal}
use Rattle.command_endings.specs.Worlds.{World}
use Rattle.planning_commands.specs.Causes.{PlanningCause, RefusalCause}

-- a refusal with its cause
pub by_refusal : (found : World) (words : List (List ℕ)) (refusal : Refusal) (status : Status) (text : List ℕ) → Refuses refusal status text → RefusalCause found.files words refusal.number
    → PlanningCause found words status
by_refusal found words refusal status text refuses cause = subst (PlanningCause found words) (sym refuses.answers) cause
