-- How calls end that carry out plans on a site that stands.
use Rattle.std.proofs.Common.{◌≡◌, ◌⊎◌, inl, inr, ℕ, List, [], ◌∷◌, ◌++◌, length, None, refl, ap}
use Rattle.std.specs.Prelude.{Result, Ok, Err, OnOk}
use Rattle.volume_disk.specs.Disk.{Disk, Images, Crash, SameDisk}
use Rattle.volume_disk.specs.Time.{Passes}
use Rattle.site_forms.specs.Views.{State}
use Rattle.site_core.specs.Events.{Append, AreAllowed, IsNextAppend, MayAppend, next_action_of}
use Rattle.site_core.specs.Lasting.{IsFoldedSite}
use Rattle.site_core.specs.Plans.{AreActions, IsFrontOf, Led, after_plan, events_of}
use Rattle.site_core.proofs.PlanRuns.{actions_snoc}
use Rattle.site_runs.specs.Runs.{ActsUpTo, AddsTo, Runs, RunsFront, SoFar}
use Rattle.site_runs.specs.SiteValues.{SiteStands, SiteValue}
use Rattle.site_runs.proofs.Fronts.{allowed_at, front_next, front_none, front_whole}
use Rattle.site_runs.proofs.Runs.{run_begins, run_next, run_ok, run_refused}

module _ {D E : Type 0} (disk : D → Disk) (moment : D → ℕ) (left_since : D → ℕ → Images → Type 0) (refuses : E → Type 0) (old new : D) (t u : SiteValue) (s : State) where
  -- A WHOLE PLAN

  -- the append of a plan that comes next
  module _ {T : Type 0} (mid : D) (v : SiteValue) (whole done rest : List Append) (x : Append) (so_far : SoFar disk moment left_since (IsFrontOf whole) s old mid v done) (result : Result T E) (is : IsFoldedSite s) (allowed : AreAllowed s (events_of whole))
      (here : done ++ x ∷ rest ≡ whole) (call : AddsTo disk moment left_since refuses mid new v u x result) where
    pub plan_next : Passes moment left_since old new (Led (IsFrontOf whole) s)
    plan_next = run_next disk moment left_since so_far refuses new u x result is (allowed_at s whole done rest x here allowed) call (front_next whole done rest x here)

    pub plan_ok : OnOk result (SoFar disk moment left_since (IsFrontOf whole) s old new u (done ++ x ∷ []))
    plan_ok = run_ok disk moment left_since so_far refuses new u x result is (allowed_at s whole done rest x here allowed) call (front_next whole done rest x here)

  module _ {T : Type 0} (whole : List Append) where
    pub runs_done : (value : T) → SoFar disk moment left_since (IsFrontOf whole) s old new u whole → Runs disk moment left_since refuses old new t u s whole (Ok value)
    runs_done value so_far = record {
      plan = whole;
      is = inr refl;
      refused = λ no. absurd no;
      allowed = so_far.allowed;
      done = (refl, so_far.stands);
      kept = λ no. absurd no;
      same = λ no. absurd no;
      rest = so_far.rest;
      moments = so_far.passes;
    }

    -- a fault somewhere on the way
    pub runs_failed : (error : E) → (refuses error → ⊥) → AreAllowed s (events_of whole) → Passes moment left_since old new (Led (IsFrontOf whole) s) → Runs disk moment left_since refuses old new t u {T = T} s whole (Err error)
    runs_failed error fault allowed passes = record {
      plan = whole;
      is = inr refl;
      refused = λ refused. absurd (fault refused);
      allowed = allowed;
      done = tt;
      kept = λ refused. absurd (fault refused);
      same = λ refused. absurd (fault refused);
      rest = λ _. tt;
      moments = passes;
    }

    -- an error before the first append: a refusal, or a fault of a call that changes nothing
    pub runs_nothing : (error : E) → SoFar disk moment left_since (IsFrontOf []) s old new u [] → SameDisk (disk old) (disk new) → Runs disk moment left_since refuses old new t u {T = T} s whole (Err error)
    runs_nothing error so_far same = record {
      plan = [];
      is = inl refl;
      refused = λ _. refl;
      allowed = tt;
      done = tt;
      kept = λ _. so_far.stands;
      same = λ _. same;
      rest = λ _. tt;
      moments = so_far.passes;
    }

  -- A FRONT OF A PLAN

  module _ {T : Type 0} (whole : List Append) where
    pub front_done : (value : T) → SoFar disk moment left_since (IsFrontOf whole) s old new u whole → RunsFront disk moment left_since refuses old new t u s whole (Ok value)
    front_done value so_far = record { plan = whole; is = front_whole whole; allowed = so_far.allowed; done = (refl, so_far.stands); kept = λ no. absurd no; rest = so_far.rest; moments = so_far.passes }

    pub front_failed : (error : E) → (refuses error → ⊥) → AreAllowed s (events_of whole) → Passes moment left_since old new (Led (IsFrontOf whole) s) → RunsFront disk moment left_since refuses old new t u {T = T} s whole (Err error)
    front_failed error fault allowed passes = record { plan = whole; is = front_whole whole; allowed = allowed; done = tt; kept = λ refused. absurd (fault refused); rest = λ _. tt; moments = passes }

    pub front_refused : (error : E) (plan : List Append) → IsFrontOf whole plan → SoFar disk moment left_since (IsFrontOf plan) s old new u plan → RunsFront disk moment left_since refuses old new t u {T = T} s whole (Err error)
    front_refused error plan front so_far = record { plan = plan; is = front; allowed = so_far.allowed; done = tt; kept = λ _. so_far.stands; rest = λ _. tt; moments = so_far.passes }

  -- NEXT ACTIONS

  -- one action more
  module _ {T : Type 0} (mid : D) (v : SiteValue) (plan : List Append) (so_far : SoFar disk moment left_since (AreActions s) s old mid v plan) (x : Append) (result : Result T E) (is : IsFoldedSite s) (next : IsNextAppend (after_plan s plan) x)
      (call : AddsTo disk moment left_since refuses mid new v u x result) where
    pub acts_next : Passes moment left_since old new (Led (AreActions s) s)
    acts_next = run_next disk moment left_since so_far refuses new u x result is (inl next) call (actions_snoc s plan x so_far.within next)

    pub acts_ok : OnOk result (SoFar disk moment left_since (AreActions s) s old new u (plan ++ x ∷ []))
    acts_ok = run_ok disk moment left_since so_far refuses new u x result is (inl next) call (actions_snoc s plan x so_far.within next)

  pub acts_done : (count n : ℕ) (plan : List Append) → length plan ≡ n → SoFar disk moment left_since (AreActions s) s old new u plan → (n ≡ count) ⊎ (next_action_of (after_plan s plan) ≡ None) → ActsUpTo disk moment left_since refuses old new t u s count (Ok n)
  acts_done count n plan long so_far ends = record { plan = plan; actions = so_far.within; done = (long, so_far.stands, ends); kept = λ no. absurd no; rest = so_far.rest; moments = so_far.passes }

  pub acts_failed : (count : ℕ) (error : E) → (refuses error → ⊥) → Passes moment left_since old new (Led (AreActions s) s) → ActsUpTo disk moment left_since refuses old new t u s count (Err error)
  acts_failed count error fault passes = record { plan = []; actions = tt; done = tt; kept = λ refused. absurd (fault refused); rest = λ _. tt; moments = passes }

  pub acts_refused : (count : ℕ) (error : E) (plan : List Append) → SoFar disk moment left_since (AreActions s) s old new u plan → ActsUpTo disk moment left_since refuses old new t u s count (Err error)
  acts_refused count error plan so_far = record { plan = plan; actions = so_far.within; done = tt; kept = λ _. so_far.stands; rest = λ _. tt; moments = so_far.passes }

  -- ONE APPEND

  module _ (x : Append) (is : IsFoldedSite s) (only_now : (c : Images) → left_since old (moment old) c → Crash (disk old) c) (stands : SiteStands t (disk old) s) (may : MayAppend s x) where
    begun : SoFar disk moment left_since (IsFrontOf (x ∷ [])) s old old t []
    begun = run_begins disk moment left_since (IsFrontOf (x ∷ [])) s old t (front_none (x ∷ [])) only_now stands

    nothing : SoFar disk moment left_since (IsFrontOf []) s old old t []
    nothing = run_begins disk moment left_since (IsFrontOf []) s old t (front_none []) only_now stands

    failed : {T : Type 0} (error : E) → AddsTo disk moment left_since refuses old new t u {T = T} x (Err error) → (refuses error) ⊎ (refuses error → ⊥) → Runs disk moment left_since refuses old new t u {T = T} s (x ∷ []) (Err error)
    failed {T} error call (inl refusal) = runs_nothing (x ∷ []) error (run_refused disk moment left_since nothing refuses new u x (Err error) is may call refusal) (λ device. ap (λ (n : D). disk n device) (call.alone refusal))
    failed {T} error call (inr fault) =
        runs_failed (x ∷ []) error fault (may, tt) (run_next disk moment left_since begun refuses new u x (Err error) is may call (front_whole (x ∷ [])))

    -- a call that adds one record runs the plan of this one append
    pub runs_one : {T : Type 0} → ((error : E) → (refuses error) ⊎ (refuses error → ⊥)) → (result : Result T E) → AddsTo disk moment left_since refuses old new t u x result → Runs disk moment left_since refuses old new t u s (x ∷ []) result
    runs_one decides (Ok value) call = runs_done (x ∷ []) value (run_ok disk moment left_since begun refuses new u x (Ok value) is may call (front_whole (x ∷ [])))
    runs_one decides (Err error) call = failed error call (decides error)
