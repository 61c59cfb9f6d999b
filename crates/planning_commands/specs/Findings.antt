-- What a search found, as clauses see it.
use Rattle.std.specs.Prelude.{List, Bool, Option, option_map}
use Rattle.planning_commands.specs.declared.answer_text.Findings.{Findings}

-- the plan's set
abbrev pub plan_of : Findings → Option (List Bool)
plan_of findings = option_map (λ plan. plan.now) findings.plan
