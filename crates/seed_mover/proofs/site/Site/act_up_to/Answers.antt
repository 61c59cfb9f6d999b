use Rattle.std.proofs.Common.{◌≡◌, inr, [], refl, sym, ◌∙◌, ap, subst, arith}
use Rattle.std.proofs.lemmas.Bool.{true≢false}
use Rattle.site_core.specs.Lasting.{IsKept}
use Rattle.site_core.specs.Plans.{AreActions, after_plan}
use Rattle.site_runs.specs.SiteValues.{SiteValue, shapes_in}
use Rattle.site_runs.proofs.Runs.{run_begins}
use Rattle.seed_mover.specs.declared.errors.SiteError.TheVariants.{Spent}
use Rattle.seed_mover.specs.Moving.{IsOnTheWay}
use Rattle.seed_mover.proofs.ManyActed.{so_far_all, so_far_done, so_far_more, so_far_none, so_far_site, so_far_stops, turned_more, turned_none, turned_stops}
use Rattle.seed_mover.proofs.site.Site.act_up_to.Goals as goal

pub returns-then-self-clause-runs : goal.returns-then-self-clause-runs
returns-then-self-clause-runs g c = λ s honest stands is.
    so_far_none g.R.Rack.disk g.R.Rack.moment g.R.Rack.left_since c.args.rack.now c.args.self.now s c.args.count Spent (λ y left. g.met.R.Rack.only_now _ y honest left) stands

pub actions-init : goal.actions-init
actions-init g c =
    let rack = g.R.Rack in
    let v = c.args.self.now in
    record {
      count = refl;
      honest = refl;
      turned = turned_none v (sym (ap (λ (x : SiteValue). x.spent) c.self.view_is) ∙ c.if-self.false) (subst (λ (x : SiteValue). IsKept (shapes_in x)) c.self.view_is c.self.invariant.kept);
      so_far = λ s honest stands is.
          record { plan = []; long = refl; so_far = run_begins rack.disk rack.moment rack.left_since (AreActions s) s c.args.rack.now v tt (λ y left. g.met.R.Rack.only_now _ y honest left) stands };
    }

pub actions-preserved : goal.actions-preserved
actions-preserved g c =
    let rack = g.R.Rack in
    let inv = c.actions.invariant in
    record {
      count = c.in-Ok.ensures.cause.kept (λ same. cc) ∙ inv.count;
      honest = c.in-Ok.ensures.honest ∙ inv.honest;
      turned = turned_more c.args.self.now c.actions.self c.act.new.self c.actions.done c.in-Ok.field-0 inv.turned c.in-Ok.ensures.acts;
      so_far = λ s honest stands is.
          let so_far = inv.so_far s honest stands is in
          so_far_more rack.disk rack.moment rack.left_since c.args.rack.now c.actions.rack c.act.new.rack c.actions.self c.act.new.self s c.actions.done c.in-Ok.field-0 so_far
          (c.in-Ok.ensures.runs (after_plan s so_far.plan) (inv.honest ∙ honest) so_far.so_far.stands (so_far_site rack.disk rack.moment rack.left_since c.args.rack.now c.actions.rack c.actions.self s c.actions.done so_far is));
    }

pub returns-in-Err-clause-acts : goal.returns-in-Err-clause-acts
returns-in-Err-clause-acts g c =
    let fresh = sym (ap (λ (x : SiteValue). x.spent) c.self.view_is) ∙ c.if-self.false in
    record {
      spent = λ is. absurd (true≢false (sym is ∙ fresh));
      acts = λ _.
          turned_stops c.args.self.now c.actions.self c.act.new.self c.args.count c.actions.done c.in-Err.error c.actions.invariant.turned c.actions-test.true (subst IsOnTheWay c.phase.ensures (c.if-not-is_on_the_way.ensures.yes refl)) c.in-Err.ensures.acts;
    }

pub returns-in-Err-clause-runs : goal.returns-in-Err-clause-runs
returns-in-Err-clause-runs g c = λ s honest stands is.
    let rack = g.R.Rack in
    let inv = c.actions.invariant in
    let so_far = inv.so_far s honest stands is in
    so_far_stops rack.disk rack.moment rack.left_since c.args.rack.now c.actions.rack c.act.new.rack c.args.self.now c.actions.self c.act.new.self s c.args.count c.actions.done c.in-Err.error so_far
    (c.in-Err.ensures.runs (after_plan s so_far.plan) (inv.honest ∙ honest) so_far.so_far.stands (so_far_site rack.disk rack.moment rack.left_since c.args.rack.now c.actions.rack c.actions.self s c.actions.done so_far is))

pub returns-in-Err-clause-finds : goal.returns-in-Err-clause-finds
returns-in-Err-clause-finds g c = λ s honest stands is.
    let rack = g.R.Rack in
    let inv = c.actions.invariant in
    let so_far = inv.so_far s honest stands is in
    (c.in-Err.ensures.runs (after_plan s so_far.plan) (inv.honest ∙ honest) so_far.so_far.stands (so_far_site rack.disk rack.moment rack.left_since c.args.rack.now c.actions.rack c.actions.self s c.actions.done so_far is)).finds

pub returns-then-not-is_on_the_way-clause-runs : goal.returns-then-not-is_on_the_way-clause-runs
returns-then-not-is_on_the_way-clause-runs g c = λ s honest stands is.
    let rack = g.R.Rack in
    so_far_done rack.disk rack.moment rack.left_since c.args.rack.now c.actions.rack c.args.self.now c.actions.self s c.args.count c.actions.done (c.actions.invariant.so_far s honest stands is)
    (inr (λ way. c.if-not-is_on_the_way.ensures.other refl (subst IsOnTheWay (sym c.phase.ensures) way)))

pub returns-clause-runs : goal.returns-clause-runs
returns-clause-runs g c = λ s honest stands is.
    let rack = g.R.Rack in
    let all : c.actions.done ≡ c.args.count = omega (arith, c.actions-test.false, c.actions.auto.done-end) in
    so_far_all rack.disk rack.moment rack.left_since c.args.rack.now c.actions.rack c.args.self.now c.actions.self s c.args.count c.actions.done all (c.actions.invariant.so_far s honest stands is)
