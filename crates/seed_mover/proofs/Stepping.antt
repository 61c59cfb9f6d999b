-- Runs of plans on a site that stands: one append more, and one plan behind another.
use Rattle.std.proofs.Common.{◌≡◌, ◌⊎◌, inl, inr, ⊎_elim, ℕ, List, [], ◌∷◌, ◌++◌, refl, sym, ◌∙◌, ap, subst, append_assoc}
use Rattle.std.specs.Prelude.{Result, Ok, Err, OnOk, IsErrAnd}
use Rattle.volume_disk.specs.Disk.{Disk, Images, Crash}
use Rattle.volume_disk.specs.Time.{Passes}
use Rattle.volume_disk.proofs.Moments.{follows_on, weaker}
use Rattle.site_forms.specs.Views.{State}
use Rattle.site_core.specs.Events.{Append, AreAllowed, MayAppend, after}
use Rattle.site_core.specs.Events.Event.{Appends}
use Rattle.site_core.specs.Lasting.{IsFoldedSite}
use Rattle.site_core.specs.Plans.{IsFrontOf, Led, after_plan, events_of}
use Rattle.site_core.proofs.Lasting.{all_keep}
use Rattle.site_runs.specs.Runs.{AddsTo, Runs, RunsFront, SoFar}
use Rattle.site_runs.specs.SiteValues.{SiteStands, SiteValue}
use Rattle.site_runs.proofs.Fronts.{front_none, front_of_front, front_whole, led_behind, led_widens, plan_joined}
use Rattle.site_runs.proofs.RunEnds.{front_refused, runs_failed, runs_one}
use Rattle.site_runs.proofs.Runs.{allowed_snoc, run_begins, run_next, run_ok, run_refused, run_widens}

-- two plans that are allowed one behind the other
joined_allowed : (s : State) (first second : List Append) → AreAllowed s (events_of first) → AreAllowed (after_plan s first) (events_of second) → AreAllowed s (events_of (first ++ second))
joined_allowed s [] second one two = two
joined_allowed s (x ∷ first) second one two = (one.0, joined_allowed (after s (Appends x)) first second one.1 two)

module _ {D E : Type 0} (disk : D → Disk) (moment : D → ℕ) (left_since : D → ℕ → Images → Type 0) (refuses : E → Type 0) where
  -- ONE APPEND MORE

  module _ {T : Type 0} (old mid new : D) (t u w : SiteValue) (s : State) (done : List Append) (x : Append) (so_far : SoFar disk moment left_since (IsFrontOf done) s old mid u done) (result : Result T E) (is : IsFoldedSite s)
      (may : MayAppend (after_plan s done) x) (call : AddsTo disk moment left_since refuses mid new u w x result) where
    wider : SoFar disk moment left_since (IsFrontOf (done ++ x ∷ [])) s old mid u done
    wider = run_widens disk moment left_since so_far (IsFrontOf (done ++ x ∷ [])) (λ plan front. front_of_front (done ++ x ∷ []) done plan (x ∷ [], refl) front)

    pub step_ok : OnOk result (SoFar disk moment left_since (IsFrontOf (done ++ x ∷ [])) s old new w (done ++ x ∷ []))
    step_ok = run_ok disk moment left_since wider refuses new w x result is may call (front_whole (done ++ x ∷ []))

    step_refused : IsErrAnd result refuses → SoFar disk moment left_since (IsFrontOf done) s old new w done
    step_refused refused = run_refused disk moment left_since so_far refuses new w x result is may call refused

    step_passes : Passes moment left_since old new (Led (IsFrontOf (done ++ x ∷ [])) s)
    step_passes = run_next disk moment left_since wider refuses new w x result is may call (front_whole (done ++ x ∷ []))

    step_allowed : AreAllowed s (events_of (done ++ x ∷ []))
    step_allowed = allowed_snoc s done x so_far.allowed may

  -- an append that is refused, or fails
  pub step_err : {T S : Type 0} (old mid new : D) (t u w : SiteValue) (s : State) (whole done rest : List Append) (x : Append) → SoFar disk moment left_since (IsFrontOf done) s old mid u done → (error : E) → IsFoldedSite s
      → MayAppend (after_plan s done) x → AddsTo disk moment left_since refuses mid new u w {T = T} x (Err error) → done ++ x ∷ rest ≡ whole → (refuses error) ⊎ (refuses error → ⊥)
      → RunsFront disk moment left_since refuses old new t w {T = S} s whole (Err error)
  step_err {T} old mid new t u w s whole done rest x so_far error is may call here (inl refusal) =
      front_refused disk moment left_since refuses old new t w s whole error done (x ∷ rest, here) (step_refused {T = T} old mid new t u w s done x so_far (Err error) is may call refusal)
  step_err {T} old mid new t u w s whole done rest x so_far error is may call here (inr fault) = record {
    plan = done ++ x ∷ [];
    is = (rest, append_assoc done (x ∷ []) rest ∙ here);
    allowed = step_allowed {T = T} old mid new t u w s done x so_far (Err error) is may call;
    done = tt;
    kept = λ refused. absurd (fault refused);
    rest = λ _. tt;
    moments = step_passes {T = T} old mid new t u w s done x so_far (Err error) is may call;
  }

  -- WHAT IS RUN FROM ANOTHER SITE IN MEMORY, AND WITH ANOTHER ANSWER

  pub front_from : {T : Type 0} (old new : D) (t u w : SiteValue) (s : State) (whole : List Append) (result : Result T E) → RunsFront disk moment left_since refuses old new u w s whole result → RunsFront disk moment left_since refuses old new t w s whole result
  front_from old new t u w s whole result run = record { plan = run.plan; is = run.is; allowed = run.allowed; done = run.done; kept = run.kept; rest = run.rest; moments = run.moments }

  -- nothing is done
  pub front_nothing : {T : Type 0} (old : D) (t u : SiteValue) (s : State) (whole : List Append) (error : E) → ((c : Images) → left_since old (moment old) c → Crash (disk old) c) → SiteStands u (disk old) s
      → RunsFront disk moment left_since refuses old old t u {T = T} s whole (Err error)
  front_nothing old t u s whole error only_now stands =
      front_refused disk moment left_since refuses old old t u s whole error [] (front_none whole) (run_begins disk moment left_since (IsFrontOf []) s old u (front_none []) only_now stands)

  -- a call that runs a whole plan or nothing runs a front of it
  front_of_runs : {T : Type 0} (old new : D) (t u : SiteValue) (s : State) (whole : List Append) (result : Result T E) → Runs disk moment left_since refuses old new t u s whole result → RunsFront disk moment left_since refuses old new t u s whole result
  front_of_runs old new t u s whole result run = record {
    plan = run.plan;
    is = ⊎_elim (λ none. subst (IsFrontOf whole) (sym none) (front_none whole)) (λ all. subst (IsFrontOf whole) (sym all) (front_whole whole)) run.is;
    allowed = run.allowed;
    done = run.done;
    kept = λ refused. subst (λ (p : List Append). SiteStands u (disk new) (after_plan s p)) (sym (run.refused refused)) (run.kept refused);
    rest = run.rest;
    moments = run.moments;
  }

  -- one append
  pub front_one : {T : Type 0} (old new : D) (t u : SiteValue) (s : State) (x : Append) → IsFoldedSite s → ((c : Images) → left_since old (moment old) c → Crash (disk old) c) → SiteStands t (disk old) s → MayAppend s x
      → ((error : E) → (refuses error) ⊎ (refuses error → ⊥)) → (result : Result T E) → AddsTo disk moment left_since refuses old new t u x result → RunsFront disk moment left_since refuses old new t u s (x ∷ []) result
  front_one old new t u s x is only_now stands may decides result call =
      front_of_runs old new t u s (x ∷ []) result (runs_one disk moment left_since refuses old new t u s x is only_now stands may decides result call)

  -- A WHOLE PLAN, FROM A FRONT OF IT

  pub runs_from : {T : Type 0} (old new : D) (t u w : SiteValue) (s : State) (whole : List Append) (result : Result T E) → Runs disk moment left_since refuses old new u w s whole result → Runs disk moment left_since refuses old new t w s whole result
  runs_from old new t u w s whole result run = record { plan = run.plan; is = run.is; refused = run.refused; allowed = run.allowed; done = run.done; kept = run.kept; same = run.same; rest = run.rest; moments = run.moments }

  pub runs_of_front : {S T : Type 0} (old new : D) (t u : SiteValue) (s : State) (whole : List Append) (value : S) (told : T) → RunsFront disk moment left_since refuses old new t u s whole (Ok value) → Runs disk moment left_since refuses old new t u s whole (Ok told)
  runs_of_front old new t u s whole value told run = record {
    plan = whole;
    is = inr refl;
    refused = λ no. absurd no;
    allowed = subst (λ (p : List Append). AreAllowed s (events_of p)) run.done.0 run.allowed;
    done = (refl, run.done.1);
    kept = λ no. absurd no;
    same = λ no. absurd no;
    rest = run.rest;
    moments = subst (λ (p : List Append). Passes moment left_since old new (Led (IsFrontOf p) s)) run.done.0 run.moments;
  }

  -- where nothing but a fault stops it
  pub runs_of_failed : {S T : Type 0} (old new : D) (t u : SiteValue) (s : State) (whole : List Append) (error : E) → (refuses error → ⊥) → AreAllowed s (events_of whole) → RunsFront disk moment left_since refuses old new t u {T = S} s whole (Err error)
      → Runs disk moment left_since refuses old new t u {T = T} s whole (Err error)
  runs_of_failed old new t u s whole error fault allowed run =
      runs_failed disk moment left_since refuses old new t u s whole error fault allowed
      (weaker moment left_since old new (Led (IsFrontOf run.plan) s) (Led (IsFrontOf whole) s) run.moments (λ c led. led_widens (IsFrontOf run.plan) (IsFrontOf whole) s c (λ plan front. front_of_front whole run.plan plan run.is front) led))

  -- ONE PLAN BEHIND ANOTHER

  -- a plan that stops: nothing behind it matters
  pub front_stopped : {T S : Type 0} (old new : D) (t u : SiteValue) (s : State) (first second : List Append) (error : E) → RunsFront disk moment left_since refuses old new t u {T = T} s first (Err error)
      → RunsFront disk moment left_since refuses old new t u {T = S} s (first ++ second) (Err error)
  front_stopped old new t u s first second error run = record {
    plan = run.plan;
    is = front_of_front (first ++ second) first run.plan (second, refl) run.is;
    allowed = run.allowed;
    done = tt;
    kept = run.kept;
    rest = λ _. tt;
    moments = run.moments;
  }

  module _ {S : Type 0} (old mid new : D) (t u w : SiteValue) (s : State) (first second : List Append) (value : S) (run : RunsFront disk moment left_since refuses old mid t u s first (Ok value)) where
    -- what stands in the middle
    pub mid_allowed : AreAllowed s (events_of first)
    mid_allowed = subst (λ (p : List Append). AreAllowed s (events_of p)) run.done.0 run.allowed

    pub mid_stands : SiteStands u (disk mid) (after_plan s first)
    mid_stands = run.done.1

    pub mid_folded : IsFoldedSite s → IsFoldedSite (after_plan s first)
    mid_folded is = all_keep s (events_of first) is mid_allowed

    pub front_then : {T : Type 0} (result : Result T E) → RunsFront disk moment left_since refuses mid new u w (after_plan s first) second result → RunsFront disk moment left_since refuses old new t w s (first ++ second) result
    front_then {T} result later = record {
      plan = first ++ later.plan;
      is = (later.is.0, append_assoc first later.plan later.is.0 ∙ ap (λ (l : List Append). first ++ l) later.is.1);
      allowed = joined_allowed s first later.plan mid_allowed later.allowed;
      done = all_done result later.done;
      kept = λ refused. subst (SiteStands w (disk new)) (sym (plan_joined s first later.plan)) (later.kept refused);
      rest = λ rest. later.rest (run.rest rest);
      moments = follows_on moment left_since old mid new (Led (IsFrontOf (first ++ later.plan)) s) (Led (IsFrontOf later.plan) (after_plan s first))
          (weaker moment left_since old mid (Led (IsFrontOf run.plan) s) (Led (IsFrontOf (first ++ later.plan)) s) run.moments
          (λ c led. led_widens (IsFrontOf run.plan) (IsFrontOf (first ++ later.plan)) s c (λ plan front. front_of_front (first ++ later.plan) first plan (later.plan, refl) (subst (λ (p : List Append). IsFrontOf p plan) run.done.0 front)) led))
          later.moments
          (λ c led. led_behind (IsFrontOf (first ++ later.plan)) (IsFrontOf later.plan) s c first (λ more front. (front.0, append_assoc first more front.0 ∙ ap (λ (l : List Append). first ++ l) front.1)) led);
    }
      where
        all_done : (answer : Result T E) → OnOk answer ((later.plan ≡ second) × SiteStands w (disk new) (after_plan (after_plan s first) second)) → OnOk answer ((first ++ later.plan ≡ first ++ second) × SiteStands w (disk new) (after_plan s (first ++ second)))
        all_done (Ok told) both = (ap (λ (l : List Append). first ++ l) both.0, subst (SiteStands w (disk new)) (sym (plan_joined s first second)) both.1)
        all_done (Err error) both = tt
