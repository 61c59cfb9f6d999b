-- Runs of appends on a site that stands: what a crash at any moment leaves, and what stands afterwards.
--
-- A plan is a list of appends, and `Led Q s c` says that some images say a state to which a plan of Q leads from s. Q is
-- `IsFrontOf whole` for a call that carries out this whole, and `AreActions s` for one that does next actions.
use Rattle.std.specs.Prelude.{◌≡◌, ◌⊎◌, ℕ, List, [], length, Some, None, Result, OnOk, IfOk, IsErrAnd}
use Rattle.volume_disk.specs.Disk.{Disk, Images, SameDisk}
use Rattle.volume_disk.specs.Time.{Passes}
use Rattle.site_forms.specs.Sites.{state_of}
use Rattle.site_forms.specs.Views.{State}
use Rattle.site_core.specs.Events.{Append, AreAllowed, happens, next_action_of}
use Rattle.site_core.specs.Plans.{AreActions, IsFrontOf, Led, after_plan, events_of}
use Rattle.site_runs.specs.SiteValues.{AllAtRest, SiteStands, SiteValue}

module _ {D : Type 0} (disk : D → Disk) (moment : D → ℕ) (left_since : D → ℕ → Images → Type 0) where
  -- from an earlier moment on a crash left what a plan of Q leads to from s; now the site stands for what the appends
  -- so far lead to
  pub record SoFar (Q : List Append → Type 0) (s : State) (from now : D) (t : SiteValue) (done : List Append) : Type 0 where
    pub within : Q done
    pub allowed : AreAllowed s (events_of done)
    pub stands : SiteStands t (disk now) (after_plan s done)
    pub rest : AllAtRest (disk from) → AllAtRest (disk now)
    pub passes : Passes moment left_since from now (Led Q s)

  -- calls that write, on a site that is one value before and another after; some of their errors are refusals, which
  -- leave the rack alone
  module _ {E : Type 0} (refuses : E → Type 0) (old new : D) (t u : SiteValue) where
    -- one record more: once it is done the site stands for the state with it, after a refusal for the same, and a crash
    -- at any moment leaves the same state or the one with it
    pub record AddsTo {T : Type 0} (x : Append) (result : Result T E) : Type 0 where
      pub added : (s next : State) → SiteStands t (disk old) s → happens s x ≡ Some next → OnOk result (SiteStands u (disk new) next)
      pub kept : (s : State) → SiteStands t (disk old) s → IsErrAnd result refuses → SiteStands u (disk new) s
      pub alone : IsErrAnd result refuses → new ≡ old
      pub rest : (s next : State) → SiteStands t (disk old) s → happens s x ≡ Some next → AllAtRest (disk old) → OnOk result (AllAtRest (disk new))
      pub moments : (s next : State) → SiteStands t (disk old) s → happens s x ≡ Some next → Passes moment left_since old new (λ c. (state_of c ≡ Some s) ⊎ (state_of c ≡ Some next))

    -- a whole plan, or nothing where the call is refused, which changes no device: a crash at any moment leaves what a front of it leads to
    pub record Runs {T : Type 0} (s : State) (whole : List Append) (result : Result T E) : Type 0 where
      -- what the call set out to append
      pub plan : List Append
      pub is : (plan ≡ []) ⊎ (plan ≡ whole)
      pub refused : IsErrAnd result refuses → plan ≡ []
      pub allowed : AreAllowed s (events_of plan)
      pub done : OnOk result ((plan ≡ whole) × SiteStands u (disk new) (after_plan s whole))
      pub kept : IsErrAnd result refuses → SiteStands u (disk new) s
      pub same : IsErrAnd result refuses → SameDisk (disk old) (disk new)
      pub rest : AllAtRest (disk old) → OnOk result (AllAtRest (disk new))
      pub moments : Passes moment left_since old new (Led (IsFrontOf plan) s)

    -- the same of a call that may be refused behind a front of the whole
    pub record RunsFront {T : Type 0} (s : State) (whole : List Append) (result : Result T E) : Type 0 where
      pub plan : List Append
      pub is : IsFrontOf whole plan
      pub allowed : AreAllowed s (events_of plan)
      pub done : OnOk result ((plan ≡ whole) × SiteStands u (disk new) (after_plan s whole))
      pub kept : IsErrAnd result refuses → SiteStands u (disk new) (after_plan s plan)
      pub rest : AllAtRest (disk old) → OnOk result (AllAtRest (disk new))
      pub moments : Passes moment left_since old new (Led (IsFrontOf plan) s)

    -- next actions, one after the other, at most so many: fewer only where there is none left. The answer is how many
    -- were done.
    pub record ActsUpTo (s : State) (count : ℕ) (result : Result ℕ E) : Type 0 where
      pub plan : List Append
      pub actions : AreActions s plan
      pub done : IfOk result (λ n. (length plan ≡ n) × SiteStands u (disk new) (after_plan s plan) × ((n ≡ count) ⊎ (next_action_of (after_plan s plan) ≡ None)))
      pub kept : IsErrAnd result refuses → SiteStands u (disk new) (after_plan s plan)
      pub rest : AllAtRest (disk old) → OnOk result (AllAtRest (disk new))
      pub moments : Passes moment left_since old new (Led (AreActions s) s)
