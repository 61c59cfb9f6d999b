-- How a run goes on.
use Rattle.std.proofs.Common.{◌≡◌, ℕ, ◌+◌, ◌≤◌, length, refl, sym, ◌∙◌, ap, subst, arith}
use Rattle.flow_net.specs.declared.problem.Problem.{Problem}
use Rattle.flow_net.specs.declared.run.Run.{Run}
use Rattle.flow_net.specs.Nets.{FillingValue}
use Rattle.flow_net.specs.Pushes.{IsCarried, Augments}
use Rattle.flow_net.specs.Runs.{IsRun, GoesOn}
use Rattle.flow_net.proofs.Carrying.{augments_none, augments_on}
use Rattle.flow_net.proofs.Powering.{augments_one}

-- a run that only found its levels again has gone on as far as before
pub goes_as_far :
    (problem : Problem) (power : ℕ) (one two three : Run) (steps_one steps_two : ℕ) →
    GoesOn problem power one two steps_one steps_two → IsRun problem three → three.filling ≡ two.filling →
    GoesOn problem power one three steps_one steps_two
goes_as_far problem power one two three steps_one steps_two first is same =
    record {
      run = is;
      augments =
          subst (λ (f : FillingValue). Augments problem.net.now.pipes problem.source problem.sink power one.filling f) (sym same)
          first.augments;
      steps = first.steps ∙ ap (λ (f : FillingValue). steps_one + f.pushes) (sym same);
    }

-- pushes on a run whose lists kept their lengths
pub goes_on_lists :
    (problem : Problem) (power : ℕ) (old new : Run) (steps_old steps_new : ℕ) → IsRun problem old →
    IsCarried problem.net.now.pipes problem.source problem.sink new.filling.amounts →
    Augments problem.net.now.pipes problem.source problem.sink power old.filling new.filling →
    steps_new + old.filling.pushes ≡ steps_old + new.filling.pushes →
    length new.scratch.levels.items ≡ length old.scratch.levels.items →
    length new.scratch.queue.items ≡ length old.scratch.queue.items →
    length new.scratch.next.items ≡ length old.scratch.next.items →
    length new.scratch.path.items ≡ length old.scratch.path.items → GoesOn problem power old new steps_old steps_new
goes_on_lists problem power old new steps_old steps_new was carried augments steps levels queue next path =
    record {
      run =
          record {
            lawful = was.lawful;
            places =
                record {
                  levels = levels ∙ was.places.levels;
                  queue = queue ∙ was.places.queue;
                  next = next ∙ was.places.next;
                  path = path ∙ was.places.path;
                };
            carried = carried;
          };
      augments = augments;
      steps = steps;
    }

-- no push so far
pub goes_nowhere : (problem : Problem) (power : ℕ) (run : Run) (steps : ℕ) → IsRun problem run → GoesOn problem power run run steps steps
goes_nowhere problem power run steps is =
    record {
      run = is;
      augments = augments_none problem.net.now.pipes problem.source problem.sink power run.filling;
      steps = refl;
    }

-- a push that carries much carries one
pub goes_lower :
    (problem : Problem) (power : ℕ) (old new : Run) (steps_old steps_new : ℕ) → 1 ≤ power →
    GoesOn problem power old new steps_old steps_new → GoesOn problem 1 old new steps_old steps_new
goes_lower problem power old new steps_old steps_new some on =
    record {
      run = on.run;
      augments = augments_one problem.net.now.pipes problem.source problem.sink power old.filling new.filling some on.augments;
      steps = on.steps;
    }

-- pushes behind one another
pub goes_further :
    (problem : Problem) (power : ℕ) (one two three : Run) (steps_one steps_two steps_three : ℕ) →
    GoesOn problem power one two steps_one steps_two → GoesOn problem power two three steps_two steps_three →
    GoesOn problem power one three steps_one steps_three
goes_further problem power one two three steps_one steps_two steps_three first second =
    record {
      run = second.run;
      augments =
          augments_on problem.net.now.pipes problem.source problem.sink power one.filling two.filling three.filling
          first.augments second.augments;
      steps = omega (arith, first.steps, second.steps);
    }
