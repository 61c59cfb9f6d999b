use Rattle.std.proofs.Common.{◌∙◌, inl, inr, refl}
use Rattle.seed_model.specs.Files.{holds}
use Rattle.planning_commands.proofs.best.best_in_range.Goals as goal

pub returns-in-Some : goal.returns-in-Some
returns-in-Some c =
    let found = rw c.in-Some.is at c.in_ok-plan.ensures.found in
    record {
      few = c.requires.few;
      answer = inl
          (record {
            plan = c.in-Some.plan;
            width = found.0 ∙ c.in_ok-table.ensures.files;
            best = c.in_ok-table.ensures.best c.args.range.now (holds c.in-Some.plan) found.1;
            answers = refl;
            prints = c.in_ok-text_of_best-in-Some.ensures;
          });
    }

pub returns : goal.returns
returns c = record {
  few = c.requires.few;
  answer = inr (record { none = c.in_ok-table.ensures.none c.args.range.now (rw c.in-None.is at c.in_ok-plan.ensures.none); answers = refl; prints = c.in_ok-text_of_none-in-None.ensures });
}
