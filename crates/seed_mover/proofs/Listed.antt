-- Plans behind one another.
use Rattle.std.proofs.Common.{◌≡◌, inl, inr, ℕ, List, [], ◌∷◌, ◌++◌, Option, Some, None, refl, sym, ◌∙◌, ap}
use Rattle.std.specs.Option.{option_and_then}
use Rattle.site_core.specs.Events.{Append, Shapes, happens_to}
use Rattle.seed_mover.specs.Plans.{AllFit, IsFirstFull, Logs, logs_after, logs_in, logs_with, shapes_after}
use Rattle.seed_mover.specs.Running.{IsAfter}
use Rattle.site_runs.specs.SiteValues.{SiteValue, shapes_in}

pub none_behind : {X : Type 0} (list : List X) → list ++ [] ≡ list
none_behind [] = refl
none_behind (x ∷ list) = ap (λ l. x ∷ l) (none_behind list)

pub all_behind : {X : Type 0} (a b c : List X) → (a ++ b) ++ c ≡ a ++ (b ++ c)
all_behind [] b c = refl
all_behind (x ∷ a) b c = ap (λ l. x ∷ l) (all_behind a b c)

-- what is held behind two plans
shapes_step : (o : Option Shapes) (first second : List Append)
    → ((t : Shapes) → shapes_after t (first ++ second) ≡ option_and_then (λ u. shapes_after u second) (shapes_after t first))
    → option_and_then (λ u. shapes_after u (first ++ second)) o ≡ option_and_then (λ u. shapes_after u second) (option_and_then (λ u. shapes_after u first) o)
shapes_step None first second same = refl
shapes_step (Some t) first second same = same t

pub shapes_behind : (t : Shapes) (first second : List Append) → shapes_after t (first ++ second) ≡ option_and_then (λ u. shapes_after u second) (shapes_after t first)
shapes_behind t [] second = refl
shapes_behind t (x ∷ first) second = shapes_step (happens_to t x) first second (λ u. shapes_behind u first second)

-- the logs behind two plans
pub logs_behind : (l : Logs) (first second : List Append) → logs_after l (first ++ second) ≡ logs_after (logs_after l first) second
logs_behind l [] second = refl
logs_behind l (x ∷ first) second = logs_behind (logs_with l x) first second

-- a site behind two plans
pub after_behind : (v u w : SiteValue) (first second : List Append) → IsAfter v u first → IsAfter u w second → IsAfter v w (first ++ second)
after_behind v u w first second one two = record {
  shapes = shapes_behind (shapes_in v) first second ∙ ap (option_and_then (λ t. shapes_after t second)) one.shapes ∙ two.shapes;
  logs = two.logs ∙ ap (λ l. logs_after l second) one.logs ∙ sym (logs_behind (logs_in v) first second);
  spent = two.spent ∙ one.spent;
}

pub after_none : (v : SiteValue) → IsAfter v v []
after_none v = record { shapes = refl; logs = refl; spent = refl }

-- ROOM

pub fit_behind : (l : Logs) (first second : List Append) → AllFit l first → AllFit (logs_after l first) second → AllFit l (first ++ second)
fit_behind l [] second one two = two
fit_behind l (x ∷ first) second one two = (one.0, fit_behind (logs_with l x) first second one.1 two)

-- the first append without room behind those that have room
pub full_behind : (l : Logs) (first second : List Append) (device at len : ℕ) → AllFit l first → IsFirstFull (logs_after l first) second device at len → IsFirstFull l (first ++ second) device at len
full_behind l [] second device at len one two = two
full_behind l (x ∷ first) second device at len one two = inr (one.0, full_behind (logs_with l x) first second device at len one.1 two)

-- nothing behind it matters
pub full_before : (l : Logs) (first second : List Append) (device at len : ℕ) → IsFirstFull l first device at len → IsFirstFull l (first ++ second) device at len
full_before l [] second device at len full = absurd full
full_before l (x ∷ first) second device at len (inl here) = inl here
full_before l (x ∷ first) second device at len (inr later) = inr (later.0, full_before (logs_with l x) first second device at len later.1)

-- not all have room where one has none
pub full_or_fit : (l : Logs) (plan : List Append) (device at len : ℕ) → AllFit l plan → IsFirstFull l plan device at len → ⊥
full_or_fit l [] device at len fit full = full
full_or_fit l (x ∷ plan) device at len fit (inl here) = fit.0 here.full
full_or_fit l (x ∷ plan) device at len fit (inr later) = full_or_fit (logs_with l x) plan device at len fit.1 later.1
