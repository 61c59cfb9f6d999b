-- Runs of appends on a site that stands.
use Rattle.std.proofs.Common.{◌≡◌, ℕ, List, [], ◌∷◌, ◌++◌, Some, sym, subst}
use Rattle.std.specs.Prelude.{Result, Ok, Err, OnOk, IsErrAnd}
use Rattle.volume_disk.specs.Disk.{Disk, Images, Crash}
use Rattle.volume_disk.specs.Time.{Passes}
use Rattle.volume_disk.proofs.Moments.{weaker}
use Rattle.device_pieces.specs.Quiet.{Quiet}
use Rattle.site_forms.specs.Views.{State}
use Rattle.site_core.specs.Events.{Append, AreAllowed, MayAppend, after, happens}
use Rattle.site_core.specs.Events.Event.{Appends}
use Rattle.site_core.specs.Lasting.{IsFoldedSite}
use Rattle.site_core.specs.Plans.{Led, after_plan, events_of}
use Rattle.site_core.proofs.Lasting.{all_keep, append_folds}
use Rattle.site_core.proofs.PlanRuns as plan
use Rattle.site_runs.specs.Runs.{AddsTo, SoFar}
use Rattle.site_runs.specs.SiteValues.{AllAtRest, SiteStands, SiteValue}
use Rattle.site_runs.proofs.Settled.{site_same, state_settled}

-- one append more is allowed where it may come
pub allowed_snoc : (s : State) (done : List Append) (x : Append) → AreAllowed s (events_of done) → MayAppend (after_plan s done) x → AreAllowed s (events_of (done ++ x ∷ []))
allowed_snoc s [] x all may = (may, tt)
allowed_snoc s (y ∷ done) x all may = (all.0, allowed_snoc (after s (Appends y)) done x all.1 may)

module _ {D : Type 0} (disk : D → Disk) (moment : D → ℕ) (left_since : D → ℕ → Images → Type 0) where
  -- before the first append
  pub run_begins : (Q : List Append → Type 0) (s : State) (now : D) (t : SiteValue) → Q [] → ((c : Images) → left_since now (moment now) c → Crash (disk now) c) → SiteStands t (disk now) s → SoFar disk moment left_since Q s now now t []
  run_begins Q s now t none only_now stands = record {
    within = none;
    allowed = tt;
    stands = stands;
    rest = λ rest. rest;
    passes = plan.run_begins moment left_since Q s now none (disk now) only_now (λ c crash. state_settled t s (disk now) c stands crash);
  }

  module _ {Q : List Append → Type 0} {s : State} {from mid : D} {t : SiteValue} {done : List Append} (so_far : SoFar disk moment left_since Q s from mid t done) where
    -- over calls that change no device
    pub run_quiet : (new : D) → Quiet moment left_since mid new (disk mid) (disk new) → SoFar disk moment left_since Q s from new t done
    run_quiet new call = record {
      within = so_far.within;
      allowed = so_far.allowed;
      stands = site_same t (after_plan s done) (disk mid) (disk new) call.same so_far.stands;
      rest = λ rest. subst AllAtRest (λ i device. sym (call.same device) i) (so_far.rest rest);
      passes = plan.run_quiet moment left_since Q s from mid new (disk mid) done so_far.within (λ c crash. state_settled t (after_plan s done) (disk mid) c so_far.stands crash) so_far.passes call.moments;
    }

    -- with plans of more kinds
    pub run_widens : (R : List Append → Type 0) → ((plan : List Append) → Q plan → R plan) → SoFar disk moment left_since R s from mid t done
    run_widens R wider = record {
      within = wider done so_far.within;
      allowed = so_far.allowed;
      stands = so_far.stands;
      rest = so_far.rest;
      passes = weaker moment left_since from mid (Led Q s) (Led R s) so_far.passes (λ c led. record { plan = led.plan; within = wider led.plan led.within; now = led.now });
    }

    -- with the site in memory another value that stands for the same
    pub run_same : (u : SiteValue) → SiteStands u (disk mid) (after_plan s done) → SoFar disk moment left_since Q s from mid u done
    run_same u stands = record { within = so_far.within; allowed = so_far.allowed; stands = stands; rest = so_far.rest; passes = so_far.passes }

    module _ {T E : Type 0} (refuses : E → Type 0) (new : D) (u : SiteValue) (x : Append) (result : Result T E) (is : IsFoldedSite s) (may : MayAppend (after_plan s done) x) (call : AddsTo disk moment left_since refuses mid new t u x result) where
      next_folds : happens (after_plan s done) x ≡ Some (after (after_plan s done) (Appends x))
      next_folds = append_folds (after_plan s done) x (all_keep s (events_of done) is so_far.allowed) may

      -- over the append that comes next, whatever its answer
      pub run_next : Q (done ++ x ∷ []) → Passes moment left_since from new (Led Q s)
      run_next more = plan.run_next moment left_since Q s from mid new done x so_far.within more so_far.passes (call.moments (after_plan s done) (after (after_plan s done) (Appends x)) so_far.stands next_folds)

      -- once it is done
      pub run_ok : Q (done ++ x ∷ []) → OnOk result (SoFar disk moment left_since Q s from new u (done ++ x ∷ []))
      run_ok more = both result
          (call.added (after_plan s done) (after (after_plan s done) (Appends x)) so_far.stands next_folds)
          (λ rest. call.rest (after_plan s done) (after (after_plan s done) (Appends x)) so_far.stands next_folds (so_far.rest rest))
        where
          made : SiteStands u (disk new) (after (after_plan s done) (Appends x)) → (AllAtRest (disk from) → AllAtRest (disk new)) → SoFar disk moment left_since Q s from new u (done ++ x ∷ [])
          made stands rest = record {
            within = more;
            allowed = allowed_snoc s done x so_far.allowed may;
            stands = subst (SiteStands u (disk new)) (sym (plan.plan_snoc s done x)) stands;
            rest = rest;
            passes = run_next more;
          }

          both : (answer : Result T E) → OnOk answer (SiteStands u (disk new) (after (after_plan s done) (Appends x))) → (AllAtRest (disk from) → OnOk answer (AllAtRest (disk new))) → OnOk answer (SoFar disk moment left_since Q s from new u (done ++ x ∷ []))
          both (Ok value) stands rest = made stands rest
          both (Err error) stands rest = tt

      -- and where it is refused, nothing has happened
      pub run_refused : IsErrAnd result refuses → SoFar disk moment left_since Q s from new u done
      run_refused refused = record {
        within = so_far.within;
        allowed = so_far.allowed;
        stands = call.kept (after_plan s done) so_far.stands refused;
        rest = λ rest. subst (λ (n : D). AllAtRest (disk n)) (sym (call.alone refused)) (so_far.rest rest);
        passes = subst (λ (n : D). Passes moment left_since from n (Led Q s)) (sym (call.alone refused)) so_far.passes;
      }
