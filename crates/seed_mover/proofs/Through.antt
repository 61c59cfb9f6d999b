-- Calls that run plans in which nothing is refused, one behind the other.
use Rattle.std.proofs.Common.{ℕ, List, [], ◌∷◌, ◌++◌, sym, ◌∙◌, ap, subst, append_assoc}
use Rattle.std.specs.Prelude.{Result, Ok, Err}
use Rattle.volume_disk.specs.Disk.{Disk, Images, Crash}
use Rattle.volume_disk.specs.Time.{Passes}
use Rattle.volume_disk.proofs.Moments.{follows_on, weaker}
use Rattle.device_pieces.specs.Quiet.{Quiet}
use Rattle.site_forms.specs.Views.{State}
use Rattle.site_core.specs.Events.{Append, MayAppend}
use Rattle.site_core.specs.Lasting.{IsFoldedSite}
use Rattle.site_core.specs.Plans.{IsFrontOf, Led, after_plan}
use Rattle.site_runs.specs.Runs.{AddsTo, SoFar}
use Rattle.site_runs.specs.SiteValues.{AllAtRest, SiteStands, SiteValue}
use Rattle.site_runs.proofs.Fronts.{front_none, front_whole}
use Rattle.site_runs.proofs.Runs.{run_begins, run_next, run_ok, run_widens}
use Rattle.site_runs.proofs.Settled.{site_same, state_settled}
use Rattle.seed_mover.specs.declared.errors.SiteError.{SiteError}
use Rattle.seed_mover.specs.Errors.{refuses}
use Rattle.seed_mover.specs.Running.{IsSameSite}
use Rattle.seed_mover.specs.Through.{RunsThrough, RunsTo, StopsIn}
use Rattle.seed_mover.proofs.Same.{stands_same}

-- FRONTS OF LONGER PLANS

pub front_longer : (plan more front : List Append) → IsFrontOf plan front → IsFrontOf (plan ++ more) front
front_longer plan more front is = (is.0 ++ more, sym (append_assoc front is.0 more) ∙ ap (λ (l : List Append). l ++ more) is.1)

module _ {D : Type 0} (disk : D → Disk) (moment : D → ℕ) (left_since : D → ℕ → Images → Type 0) where
  -- before the first append
  pub begins_to : (now : D) (v : SiteValue) → ((c : Images) → left_since now (moment now) c → Crash (disk now) c) → RunsTo disk moment left_since now now v v []
  begins_to now v only_now = λ s stands is. run_begins disk moment left_since (IsFrontOf []) s now v (front_none []) only_now stands

  module _ (old mid new : D) (v u w : SiteValue) (plan : List Append) (x : Append) (runs : RunsTo disk moment left_since old mid v u plan) (may : (s : State) → SiteStands u (disk mid) s → MayAppend s x) where
    wide : (s : State) → SiteStands v (disk old) s → IsFoldedSite s → SoFar disk moment left_since (IsFrontOf (plan ++ x ∷ [])) s old mid u plan
    wide s stands is = run_widens disk moment left_since (runs s stands is) (IsFrontOf (plan ++ x ∷ [])) (front_longer plan (x ∷ []))

    -- one append more
    pub more_to : AddsTo disk moment left_since refuses mid new u w {T = Unit {0}} x (Ok tt) → RunsTo disk moment left_since old new v w (plan ++ x ∷ [])
    more_to call = λ s stands is.
        let so_far = wide s stands is in
        run_ok disk moment left_since so_far refuses new w x (Ok tt) is (may (after_plan s plan) so_far.stands) call (front_whole (plan ++ x ∷ []))

    -- which is stopped
    pub stops_at : (error : SiteError) → AddsTo disk moment left_since refuses mid new u w {T = Unit {0}} x (Err error) → StopsIn disk moment left_since old new v w (plan ++ x ∷ [])
    stops_at error call = λ s stands is.
        let so_far = wide s stands is in
        run_next disk moment left_since so_far refuses new w x (Err error) is (may (after_plan s plan) so_far.stands) call (front_whole (plan ++ x ∷ []))

  -- a plan that stops is stopped in a longer one too
  pub stops_longer : (old new : D) (v w : SiteValue) (plan more : List Append) → StopsIn disk moment left_since old new v w plan → StopsIn disk moment left_since old new v w (plan ++ more)
  stops_longer old new v w plan more stops = λ s stands is.
      weaker moment left_since old new (Led (IsFrontOf plan) s) (Led (IsFrontOf (plan ++ more)) s) (stops s stands is) (λ c led. record { plan = led.plan; within = front_longer plan more led.plan led.within; now = led.now })

  -- BEHIND A CALL THAT CHANGES NOTHING

  module _ (old mid new : D) (v u w : SiteValue) (quiet : Quiet moment left_since old mid (disk old) (disk mid)) (same : IsSameSite v u) where
    pub still_stands : (s : State) → SiteStands v (disk old) s → SiteStands u (disk mid) s
    still_stands s stands = stands_same v u (disk mid) s same (site_same v s (disk old) (disk mid) quiet.same stands)

    still_led : (plan : List Append) (s : State) → SiteStands v (disk old) s → Passes moment left_since old mid (Led (IsFrontOf plan) s)
    still_led plan s stands =
        weaker moment left_since old mid (Crash (disk old)) (Led (IsFrontOf plan) s) quiet.moments (λ c crash. record { plan = []; within = front_none plan; now = state_settled v s (disk old) c stands crash })

    behind : (plan : List Append) (s : State) → SiteStands v (disk old) s → Passes moment left_since mid new (Led (IsFrontOf plan) s) → Passes moment left_since old new (Led (IsFrontOf plan) s)
    behind plan s stands later = follows_on moment left_since old mid new (Led (IsFrontOf plan) s) (Led (IsFrontOf plan) s) (still_led plan s stands) later (λ c led. led)

    pub through_behind : {T : Type 0} (plan : List Append) (result : Result T SiteError) → RunsThrough disk moment left_since mid new u w plan result → RunsThrough disk moment left_since old new v w plan result
    through_behind plan (Ok done) runs = λ s stands is.
        let so_far = runs s (still_stands s stands) is in
        record {
          within = so_far.within;
          allowed = so_far.allowed;
          stands = so_far.stands;
          rest = λ rest. so_far.rest (subst AllAtRest (λ i device. sym (quiet.same device) i) rest);
          passes = behind plan s stands so_far.passes;
        }
    through_behind plan (Err error) runs = λ s stands is. behind plan s stands (runs s (still_stands s stands) is)
