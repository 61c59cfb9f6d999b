-- Next actions, one after the other.
use Rattle.std.proofs.Common.{◌≡◌, ◌⊎◌, inl, inr, ⊎_elim, ℕ, ◌+◌, ◌<◌, List, [], ◌∷◌, ◌++◌, length, false, Option, Some, None, refl, sym, ◌∙◌, ap, subst, arith}
use Rattle.std.specs.Prelude.{Result, Ok, Err}
use Rattle.std.specs.Option.{option_and_then}
use Rattle.volume_disk.specs.Disk.{Disk, Images, Crash}
use Rattle.volume_disk.specs.Time.{Passes}
use Rattle.volume_disk.proofs.Moments.{follows_on}
use Rattle.site_forms.specs.declared.phase.Phase.{Phase}
use Rattle.site_forms.specs.declared.phase.Phase.TheVariants.{Idle, Moving, Moved, Undoing}
use Rattle.site_forms.specs.Sites.{shape_of}
use Rattle.site_forms.specs.Views.{State}
use Rattle.site_forms.specs.Volumes.{Shape}
use Rattle.site_core.specs.declared.action.Action.{Action}
use Rattle.site_core.specs.Events.{Append, IsNextAppend, Shapes, after, append_of, happens_to, next_action_of}
use Rattle.site_core.specs.Events.Event.{Appends}
use Rattle.site_core.specs.Lasting.{IsFoldedSite, IsKept}
use Rattle.site_core.specs.Plans.{AreActions, IsFrontOf, Led, after_plan, events_of}
use Rattle.site_core.specs.Steps.{next_of, remaining}
use Rattle.site_core.proofs.Lasting.{all_keep, leaves_one}
use Rattle.site_core.proofs.PlanRuns.{actions_snoc, plan_snoc}
use Rattle.site_runs.specs.Runs.{ActsUpTo, Runs, SoFar}
use Rattle.site_runs.specs.SiteValues.{SiteStands, SiteValue, shapes_in}
use Rattle.site_runs.proofs.Fronts.{led_behind}
use Rattle.site_runs.proofs.RunEnds.{acts_done, acts_refused}
use Rattle.site_runs.proofs.Runs.{allowed_snoc, run_begins}
use Rattle.seed_mover.specs.declared.errors.SiteError.{SiteError}
use Rattle.seed_mover.specs.Errors.{refuses}
use Rattle.seed_mover.specs.ManyActions.{HaveActed, StopsActing, left_in}
use Rattle.seed_mover.specs.Moving.{Acts, ActsOn, IsActed, IsOnTheWay, act_plan, plan_of}

some_same : {X : Type 0} (x y : X) → Some x ≡ Some y → x ≡ y
some_same x y is = cc

length_snoc : {X : Type 0} (list : List X) (x : X) (n : ℕ) → length list ≡ n → length (list ++ x ∷ []) ≡ n + 1
length_snoc [] x n is = omega (arith, is)
length_snoc (y ∷ list) x n is = let tail : length (list ++ x ∷ []) ≡ length list + 1 = length_snoc list x (length list) refl in omega (arith, is, tail)

-- IN MEMORY

acted_snoc : (v u w : SiteValue) (actions : List Action) (action : Action) → HaveActed v u actions → IsActed u w action → HaveActed v w (actions ++ action ∷ [])
acted_snoc v u w [] action same acted = (w, subst (λ (x : SiteValue). IsActed x w action) same acted, refl)
acted_snoc v u w (first ∷ actions) action have acted = (have.0, have.1, acted_snoc have.0 u w actions action have.2 acted)

-- what a site is once so many actions are done
pub record Turned (v w : SiteValue) (n : ℕ) : Type 0 where
  pub fresh : w.spent ≡ false
  pub kept : IsKept (shapes_in w)
  pub actions : List Action
  pub acted : HaveActed v w actions
  pub long : length actions ≡ n
  pub left : left_in w + n ≡ left_in v

pub turned_none : (v : SiteValue) → v.spent ≡ false → IsKept (shapes_in v) → Turned v v 0
turned_none v fresh kept = record { fresh = fresh; kept = kept; actions = []; acted = refl; long = refl; left = omega arith }

-- each leaves one less
acted_leaves : (u w : SiteValue) (action : Action) → IsKept (shapes_in u) → IsActed u w action → IsKept (shapes_in w) × (left_in w + 1 ≡ left_in u)
acted_leaves u w action kept acted =
    let t = shapes_in u in
    let its = leaves_one t acted.next.action acted.next.bytes kept acted.next.is acted.next.copies in
    let same : its.next ≡ shapes_in w = some_same its.next (shapes_in w) (sym (ap (option_and_then (λ (x : Shapes). Some x)) (ap (happens_to t) acted.next.appends ∙ its.folds)) ∙ acted.after.shapes) in
    (subst IsKept same its.kept, ap (λ (x : Shapes). remaining x.a x.b x.phase + 1) (sym same) ∙ its.left)

pub turned_more : (v u w : SiteValue) (n : ℕ) (action : Action) → Turned v u n → Acts u w (Ok action) → Turned v w (n + 1)
turned_more v u w n action turned acts =
    let its = acted_leaves u w action turned.kept acts.1 in
    let left : left_in w + 1 ≡ left_in u = its.1 in
    let before : left_in u + n ≡ left_in v = turned.left in
    record {
      fresh = acts.1.after.spent ∙ turned.fresh;
      kept = its.0;
      actions = turned.actions ++ action ∷ [];
      acted = acted_snoc v u w turned.actions action turned.acted acts.1;
      long = length_snoc turned.actions action n turned.long;
      left = omega (arith, left, before);
    }

pub turned_stops : (v u w : SiteValue) (count n : ℕ) (error : SiteError) → Turned v u n → n < count → IsOnTheWay u.journal.phase → Acts u w (Err error) → StopsActing v w count error
turned_stops v u w count n error turned few way stops = record { actions = turned.actions; mid = u; acted = turned.acted; fewer = omega (arith, turned.long, few); way = way; stops = stops }

-- ON THE DISK

-- where no file is on the way, there is no next action
no_way : (a b : Shape) (phase : Phase) → ¬ IsOnTheWay phase → next_of a b phase ≡ None
no_way a b Idle off = refl
no_way a b (Moving names) off = absurd (off tt)
no_way a b (Moved names) off = refl
no_way a b (Undoing names) off = absurd (off tt)

plan_acts : (s : State) (next : Option Action) → next_action_of s ≡ next → AreActions s (plan_of s next)
plan_acts s None is = tt
plan_acts s (Some action) is = (record { action = action; is = is; appends = refl }, tt)

actions_part : (s : State) (front rest : List Append) → AreActions s (front ++ rest) → AreActions s front
actions_part s [] rest actions = tt
actions_part s (x ∷ front) rest actions = (actions.0, actions_part (after s (Appends x)) front rest actions.1)

actions_joined : (s : State) (plan more : List Append) → AreActions s plan → AreActions (after_plan s plan) more → AreActions s (plan ++ more)
actions_joined s [] more first second = second
actions_joined s (x ∷ plan) more first second = (first.0, actions_joined (after s (Appends x)) plan more first.1 second)

-- a front of the plan of an action, or of nothing, is of actions
front_acts : (s : State) (plan more : List Append) → (plan ≡ []) ⊎ (plan ≡ act_plan s) → IsFrontOf plan more → AreActions s more
front_acts s plan more is front =
    let all : AreActions s plan = ⊎_elim (λ none. subst (AreActions s) (sym none) tt) (λ whole. subst (AreActions s) (sym whole) (plan_acts s (next_action_of s) refl)) is in
    actions_part s more front.0 (subst (AreActions s) (sym front.1) all)

module _ {D : Type 0} (disk : D → Disk) (moment : D → ℕ) (left_since : D → ℕ → Images → Type 0) where
  -- next actions so far, and how many
  pub record ActedSoFar (from now : D) (t : SiteValue) (s : State) (n : ℕ) : Type 0 where
    pub plan : List Append
    pub long : length plan ≡ n
    pub so_far : SoFar disk moment left_since (AreActions s) s from now t plan

  module _ (from mid new : D) (u w : SiteValue) (s : State) (plan : List Append) (so_far : SoFar disk moment left_since (AreActions s) s from mid u plan) where
    -- one more passes by
    acts_on : (result : Result Action SiteError) → Runs disk moment left_since refuses mid new u w (after_plan s plan) (act_plan (after_plan s plan)) result → Passes moment left_since from new (Led (AreActions s) s)
    acts_on result runs =
        follows_on moment left_since from mid new (Led (AreActions s) s) (Led (IsFrontOf runs.plan) (after_plan s plan)) so_far.passes runs.moments
        (λ c led. led_behind (AreActions s) (IsFrontOf runs.plan) s c plan (λ more front. actions_joined s plan more so_far.within (front_acts (after_plan s plan) runs.plan more runs.is front)) led)

    acted_on : (action : Action) → ActsOn disk moment left_since mid new u w (after_plan s plan) (Ok action) → SoFar disk moment left_since (AreActions s) s from new w (plan ++ append_of (after_plan s plan) action ∷ [])
    acted_on action acts =
        let now = after_plan s plan in
        let x = append_of now action in
        let next : IsNextAppend now x = record { action = action; is = acts.finds; appends = refl } in
        let whole : act_plan now ≡ x ∷ [] = ap (plan_of now) acts.finds in
        record {
          within = actions_snoc s plan x so_far.within next;
          allowed = allowed_snoc s plan x so_far.allowed (inl next);
          stands = subst (SiteStands w (disk new)) (sym (plan_snoc s plan x)) (subst (λ (p : List Append). SiteStands w (disk new) (after_plan now p)) whole acts.runs.done.1);
          rest = λ rest. acts.runs.rest (so_far.rest rest);
          passes = acts_on (Ok action) acts.runs;
        }

  -- the site that stands after them
  pub so_far_site : (from now : D) (t : SiteValue) (s : State) (n : ℕ) (so_far : ActedSoFar from now t s n) → IsFoldedSite s → IsFoldedSite (after_plan s so_far.plan)
  so_far_site from now t s n so_far is = all_keep s (events_of so_far.plan) is so_far.so_far.allowed

  pub so_far_more : (from mid new : D) (u w : SiteValue) (s : State) (n : ℕ) (action : Action) (so_far : ActedSoFar from mid u s n) → ActsOn disk moment left_since mid new u w (after_plan s so_far.plan) (Ok action) → ActedSoFar from new w s (n + 1)
  so_far_more from mid new u w s n action so_far acts = record {
    plan = so_far.plan ++ append_of (after_plan s so_far.plan) action ∷ [];
    long = length_snoc so_far.plan (append_of (after_plan s so_far.plan) action) n so_far.long;
    so_far = acted_on from mid new u w s so_far.plan so_far.so_far action acts;
  }

  module _ (from mid new : D) (v u w : SiteValue) (s : State) (count n : ℕ) where
    pub so_far_stops : (error : SiteError) (so_far : ActedSoFar from mid u s n) → ActsOn disk moment left_since mid new u w (after_plan s so_far.plan) (Err error) → ActsUpTo disk moment left_since refuses from new v w s count (Err error)
    so_far_stops error so_far acts = record {
      plan = so_far.plan;
      actions = so_far.so_far.within;
      done = tt;
      kept = acts.runs.kept;
      rest = λ _. tt;
      moments = acts_on from mid new u w s so_far.plan so_far.so_far (Err error) acts.runs;
    }

  module _ (from mid : D) (v u : SiteValue) (s : State) (count n : ℕ) where
    pub so_far_done : (so_far : ActedSoFar from mid u s n) → (n ≡ count) ⊎ ¬ IsOnTheWay u.journal.phase → ActsUpTo disk moment left_since refuses from mid v u s count (Ok n)
    so_far_done so_far ends =
        let now = after_plan s so_far.plan in
        acts_done disk moment left_since refuses from mid v u s count n so_far.plan so_far.long so_far.so_far
        (⊎_elim (λ all. inl all) (λ (off : ¬ IsOnTheWay u.journal.phase). inr (no_way (shape_of now.a) (shape_of now.b) now.phase (λ way. off (subst IsOnTheWay (sym so_far.so_far.stands.phase) way)))) ends)

    pub so_far_all : n ≡ count → ActedSoFar from mid u s n → ActsUpTo disk moment left_since refuses from mid v u s count (Ok count)
    so_far_all all so_far = subst (λ (k : ℕ). ActsUpTo disk moment left_since refuses from mid v u s count (Ok k)) all (so_far_done so_far (inl all))

  -- an error before the first
  pub so_far_none : (old : D) (v : SiteValue) (s : State) (count : ℕ) (error : SiteError) → ((c : Images) → left_since old (moment old) c → Crash (disk old) c) → SiteStands v (disk old) s → ActsUpTo disk moment left_since refuses old old v v s count (Err error)
  so_far_none old v s count error only_now stands = acts_refused disk moment left_since refuses old old v v s count error [] (run_begins disk moment left_since (AreActions s) s old v tt only_now stands)
