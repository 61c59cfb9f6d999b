use Rattle.std.proofs.Common.{◌≡◌, ◌∙◌, ℕ, List, false, ap, sym, subst, length}
use Rattle.std.specs.Vec.{with_items}
use Rattle.std.proofs.lemmas.List.{with_items_is}
use Rattle.flow_net.specs.Levels.{IsSearched}
use Rattle.flow_net.proofs.phases.find_levels.Goals as goal
use Rattle.flow_net.proofs.phases.find_levels.Goals.{After-search}

levels_is : (c : After-search) → (with_items c.args.run.now.scratch.levels c.search.new.levels).items ≡ c.search.new.levels
levels_is c = with_items_is c.args.run.now.scratch.levels c.search.new.levels (c.search.auto.levels ∙ c.deref_mut.ensures.len)

queue_is : (c : After-search) → (with_items c.args.run.now.scratch.queue c.search.new.queue).items ≡ c.search.new.queue
queue_is c = with_items_is c.args.run.now.scratch.queue c.search.new.queue (c.search.auto.queue ∙ c.deref_mut-2.ensures.len)

pub returns-clause-run : goal.returns-clause-run
returns-clause-run c =
    let a = (goal.at.returns-clause-run c).After-search in
    let was = c.requires.run in
    record {
      lawful = was.lawful;
      places =
          record {
            levels =
                ap (λ (l : List ℕ). length l) (levels_is a) ∙
                (c.search.auto.levels ∙ (ap (λ (l : List ℕ). length l) c.deref_mut.ensures.value ∙ was.places.levels));
            queue =
                ap (λ (l : List ℕ). length l) (queue_is a) ∙
                (c.search.auto.queue ∙ (ap (λ (l : List ℕ). length l) c.deref_mut-2.ensures.value ∙ was.places.queue));
            next = was.places.next;
            path = was.places.path;
          };
      carried = was.carried;
    }

pub returns-clause-levels : goal.returns-clause-levels
returns-clause-levels c =
    let a = (goal.at.returns-clause-levels c).After-search in
    subst (λ (l : List ℕ). IsSearched c.args.problem.now.net.now.pipes c.args.run.now.filling.amounts c.args.power false c.args.problem.now.source c.args.problem.now.sink l c.search.result) (sym (levels_is a))
    c.search.ensures
