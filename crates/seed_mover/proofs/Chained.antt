-- Plans behind one another, in memory.
use Rattle.std.proofs.Common.{inl, List, [], ◌∷◌, ◌++◌, refl, sym, ◌∙◌, ap, subst}
use Rattle.std.specs.Prelude.{Result, Ok, Err}
use Rattle.site_core.specs.Events.{Append}
use Rattle.site_runs.specs.SiteValues.{SiteValue}
use Rattle.seed_mover.specs.declared.entries.Side.{Side}
use Rattle.seed_mover.specs.declared.errors.SiteError.{SiteError}
use Rattle.seed_mover.specs.declared.errors.SiteError.TheVariants.{RackFault, Spent, Memory, Exists, NoSuchFile, MigrationOpen, TargetNotEmpty, NothingOpen, NotMoved, Collision, Damage, BadChunk, DeviceFull, VolumeFull}
use Rattle.seed_mover.specs.Appending.{AppendsOne, HasRoomIn}
use Rattle.seed_mover.specs.BeginParts.{RunsPlan}
use Rattle.seed_mover.specs.Plans.{AllFit, IsFirstFull, Logs, logs_in}
use Rattle.seed_mover.specs.Running.{IsAfter, IsSameSite}
use Rattle.seed_mover.specs.Unused.{DropsUnused, unused_of}
use Rattle.seed_mover.proofs.Listed.{after_behind, after_none, all_behind, fit_behind, full_before, full_behind}
use Rattle.seed_mover.proofs.UnusedDropped.{after_same}

pub plan_then : (v u w : SiteValue) (first second : List Append) (result : Result (Unit {0}) SiteError) → AllFit (logs_in v) first → IsAfter v u first → RunsPlan u w second result → RunsPlan v w (first ++ second) result
plan_then v u w first second (Ok done) fit after runs = (fit_behind (logs_in v) first second fit (subst (λ (l : Logs). AllFit l second) after.logs runs.0), after_behind v u w first second after runs.1)
plan_then v u w first second (Err RackFault) fit after runs = runs
plan_then v u w first second (Err (DeviceFull device at len)) fit after runs = (
  full_behind (logs_in v) first second device at len fit (subst (λ (l : Logs). IsFirstFull l second device at len) after.logs runs.0),
  record { done = first ++ runs.1.done; rest = runs.1.rest; whole = ap (λ (l : List Append). first ++ l) runs.1.whole ∙ sym (all_behind first runs.1.done runs.1.rest); after = after_behind v u w first runs.1.done after runs.1.after },
)
plan_then v u w first second (Err Memory) fit after runs = runs
plan_then v u w first second (Err Spent) fit after runs = runs
plan_then v u w first second (Err Exists) fit after runs = runs
plan_then v u w first second (Err NoSuchFile) fit after runs = runs
plan_then v u w first second (Err MigrationOpen) fit after runs = runs
plan_then v u w first second (Err TargetNotEmpty) fit after runs = runs
plan_then v u w first second (Err NothingOpen) fit after runs = runs
plan_then v u w first second (Err NotMoved) fit after runs = runs
plan_then v u w first second (Err (Collision name)) fit after runs = runs
plan_then v u w first second (Err (Damage device at)) fit after runs = runs
plan_then v u w first second (Err (BadChunk name found)) fit after runs = runs
plan_then v u w first second (Err (VolumeFull what)) fit after runs = runs

-- nothing behind a stop matters
pub plan_stopped : (v w : SiteValue) (first second : List Append) (error : SiteError) → RunsPlan v w first (Err error) → RunsPlan v w (first ++ second) (Err error)
plan_stopped v w first second RackFault runs = runs
plan_stopped v w first second (DeviceFull device at len) runs = (
  full_before (logs_in v) first second device at len runs.0,
  record { done = runs.1.done; rest = runs.1.rest ++ second; whole = ap (λ (l : List Append). l ++ second) runs.1.whole ∙ all_behind runs.1.done runs.1.rest second; after = runs.1.after },
)
plan_stopped v w first second Memory runs = absurd runs
plan_stopped v w first second Spent runs = absurd runs
plan_stopped v w first second Exists runs = absurd runs
plan_stopped v w first second NoSuchFile runs = absurd runs
plan_stopped v w first second MigrationOpen runs = absurd runs
plan_stopped v w first second TargetNotEmpty runs = absurd runs
plan_stopped v w first second NothingOpen runs = absurd runs
plan_stopped v w first second NotMoved runs = absurd runs
plan_stopped v w first second (Collision name) runs = absurd runs
plan_stopped v w first second (Damage device at) runs = absurd runs
plan_stopped v w first second (BadChunk name found) runs = absurd runs
plan_stopped v w first second (VolumeFull what) runs = absurd runs

-- one append for which there is room in memory
pub one_plan : (v w : SiteValue) (x : Append) (result : Result (Unit {0}) SiteError) → HasRoomIn v x → AppendsOne v w x result → RunsPlan v w (x ∷ []) result
one_plan v w x (Ok done) room one = ((one.0, tt), one.1)
one_plan v w x (Err RackFault) room one = one.1
one_plan v w x (Err (DeviceFull device at len)) room one = (inl one.0, record { done = []; rest = x ∷ []; whole = refl; after = after_same v v w [] (after_none v) one.1 })
one_plan v w x (Err Memory) room one = one.0 room
one_plan v w x (Err Spent) room one = one
one_plan v w x (Err Exists) room one = one
one_plan v w x (Err NoSuchFile) room one = one
one_plan v w x (Err MigrationOpen) room one = one
one_plan v w x (Err TargetNotEmpty) room one = one
one_plan v w x (Err NothingOpen) room one = one
one_plan v w x (Err NotMoved) room one = one
one_plan v w x (Err (Collision name)) room one = one
one_plan v w x (Err (Damage device at)) room one = one
one_plan v w x (Err (BadChunk name found)) room one = one
one_plan v w x (Err (VolumeFull what)) room one = one

-- unused chunks
pub unused_runs : (side : Side) (v w : SiteValue) (result : Result (Unit {0}) SiteError) → DropsUnused side v w result → RunsPlan v w (unused_of side v) result
unused_runs side v w (Ok done) drops = (drops.0, drops.1)
unused_runs side v w (Err RackFault) drops = drops
unused_runs side v w (Err (DeviceFull device at len)) drops = drops
unused_runs side v w (Err Memory) drops = drops
unused_runs side v w (Err Spent) drops = drops
unused_runs side v w (Err Exists) drops = drops
unused_runs side v w (Err NoSuchFile) drops = drops
unused_runs side v w (Err MigrationOpen) drops = drops
unused_runs side v w (Err TargetNotEmpty) drops = drops
unused_runs side v w (Err NothingOpen) drops = drops
unused_runs side v w (Err NotMoved) drops = drops
unused_runs side v w (Err (Collision name)) drops = drops
unused_runs side v w (Err (Damage device at)) drops = drops
unused_runs side v w (Err (BadChunk name found)) drops = drops
unused_runs side v w (Err (VolumeFull what)) drops = drops

-- a site that is the same but for room
pub same_after : (v u w : SiteValue) (plan : List Append) → IsSameSite v u → IsAfter u w plan → IsAfter v w plan
same_after v u w plan same after = after_behind v u w [] plan (after_same v v u [] (after_none v) same) after
