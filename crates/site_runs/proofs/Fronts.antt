-- Fronts of plans, and where plans lead.
use Rattle.std.proofs.Common.{◌≡◌, ℕ, List, [], ◌∷◌, ◌++◌, Some, refl, sym, ◌∙◌, ap, subst, append_assoc, append-nil}
use Rattle.volume_disk.specs.Disk.{Images}
use Rattle.site_forms.specs.Sites.{IsSiteAt, state_of}
use Rattle.site_forms.specs.Views.{State, view}
use Rattle.site_core.specs.Events.{Append, AreAllowed, MayAppend, after}
use Rattle.site_core.specs.Events.Event.{Appends}
use Rattle.site_core.specs.Lasting.{IsFoldedSite}
use Rattle.site_core.specs.Plans.{AreActions, IsFrontOf, Led, after_plan, events_of}
use Rattle.site_core.proofs.EventRuns.{actions_allowed}
use Rattle.site_core.proofs.Lasting.{all_keep}
use Rattle.site_core.proofs.Stillness.{open_still, still_view}

-- FRONTS

pub front_none : (whole : List Append) → IsFrontOf whole []
front_none whole = (whole, refl)

pub front_whole : (whole : List Append) → IsFrontOf whole whole
front_whole whole = ([], append-nil whole)

pub front_next : (whole done rest : List Append) (x : Append) → done ++ x ∷ rest ≡ whole → IsFrontOf whole (done ++ x ∷ [])
front_next whole done rest x is = (rest, append_assoc done (x ∷ []) rest ∙ is)

pub front_of_none : (whole plan : List Append) → IsFrontOf [] plan → IsFrontOf whole plan
front_of_none whole [] front = (whole, refl)
front_of_none whole (x ∷ plan) front = let no : x ∷ (plan ++ front.0) ≡ [] = front.1 in let never : ⊥ = cc in absurd never

pub front_of_front : (whole plan more : List Append) → IsFrontOf whole plan → IsFrontOf plan more → IsFrontOf whole more
front_of_front whole plan more first second = (second.0 ++ first.0, sym (append_assoc more second.0 first.0) ∙ ap (λ (l : List Append). l ++ first.0) second.1 ∙ first.1)

allowed_part : (s : State) (plan rest : List Append) → AreAllowed s (events_of (plan ++ rest)) → AreAllowed s (events_of plan)
allowed_part s [] rest allowed = tt
allowed_part s (x ∷ plan) rest allowed = (allowed.0, allowed_part (after s (Appends x)) plan rest allowed.1)

-- a front of what is allowed is allowed
pub front_allowed : (s : State) (whole plan : List Append) → AreAllowed s (events_of whole) → IsFrontOf whole plan → AreAllowed s (events_of plan)
front_allowed s whole plan allowed front = allowed_part s plan front.0 (subst (λ (l : List Append). AreAllowed s (events_of l)) (sym front.1) allowed)

-- each append of what is allowed may come in its turn
may_come : (s : State) (done rest : List Append) (x : Append) → AreAllowed s (events_of (done ++ x ∷ rest)) → MayAppend (after_plan s done) x
may_come s [] rest x allowed = allowed.0
may_come s (y ∷ done) rest x allowed = may_come (after s (Appends y)) done rest x allowed.1

pub allowed_at : (s : State) (whole done rest : List Append) (x : Append) → done ++ x ∷ rest ≡ whole → AreAllowed s (events_of whole) → MayAppend (after_plan s done) x
allowed_at s whole done rest x here allowed = may_come s done rest x (subst (λ (l : List Append). AreAllowed s (events_of l)) (sym here) allowed)

-- WHERE PLANS LEAD

pub plan_joined : (s : State) (plan more : List Append) → after_plan s (plan ++ more) ≡ after_plan (after_plan s plan) more
plan_joined s [] more = refl
plan_joined s (x ∷ plan) more = plan_joined (after s (Appends x)) plan more

module _ (Q R : List Append → Type 0) (s : State) (c : Images) where
  pub led_widens : ((plan : List Append) → Q plan → R plan) → Led Q s c → Led R s c
  led_widens wider led = record { plan = led.plan; within = wider led.plan led.within; now = led.now }

  -- behind a plan that is done
  pub led_behind : (done : List Append) → ((more : List Append) → R more → Q (done ++ more)) → Led R (after_plan s done) c → Led Q s c
  led_behind done goes_on led = record { plan = done ++ led.plan; within = goes_on led.plan led.within; now = led.now ∙ ap (λ (x : State). Some x) (sym (plan_joined s done led.plan)) }

-- images to which a plan of what is allowed leads are a site
pub led_site : (Q : List Append → Type 0) (s : State) (c : Images) → IsFoldedSite s → ((plan : List Append) → Q plan → AreAllowed s (events_of plan)) → Led Q s c → IsSiteAt c
led_site Q s c is allowed led = (after_plan s led.plan, led.now, (all_keep s (events_of led.plan) is (allowed led.plan led.within)).site)

pub front_site : (s : State) (whole : List Append) (c : Images) → IsFoldedSite s → AreAllowed s (events_of whole) → Led (IsFrontOf whole) s c → IsSiteAt c
front_site s whole c is allowed = led_site (IsFrontOf whole) s c is (λ plan front. front_allowed s whole plan allowed front)

pub acts_site : (s : State) (c : Images) → IsFoldedSite s → Led (AreActions s) s c → IsSiteAt c
acts_site s c is = led_site (AreActions s) s c is (λ plan actions. (actions_allowed s plan actions).0)

some_same : (s t : State) → Some s ≡ Some t → s ≡ t
some_same s t is = cc

-- and next actions leave the view
pub acts_view : (s now : State) (c : Images) (name : List ℕ) → IsFoldedSite s → Led (AreActions s) s c → state_of c ≡ Some now → view now name ≡ view s name
acts_view s now c name is led told =
    let may = actions_allowed s led.plan led.within in
    ap (λ (t : State). view t name) (some_same now (after_plan s led.plan) (sym told ∙ led.now))
    ∙ still_view s (events_of led.plan) name is may.0 (open_still s (events_of led.plan) may.1)
