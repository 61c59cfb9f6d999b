-- Whether a migration may begin, and room for its records.
use Rattle.std.proofs.Common.{◌≡◌, ℕ, ◌-◌, ◌<◌, List, Bool, true, false, refl, ap, arith}
use Rattle.std.specs.Prelude.{Ok, Err, is_some}
use Rattle.std.specs.FinMap as map
use Rattle.site_forms.specs.Sites.{HoldsAllNames}
use Rattle.site_forms.specs.Volumes.{Files, Shape}
use Rattle.site_core.proofs.Counting.{some_entry}
use Rattle.site_core.proofs.Merging.{each_key}
use Rattle.seed_mover.specs.declared.errors.SiteError.{SiteError}
use Rattle.seed_mover.specs.declared.errors.SiteError.TheVariants.{RackFault, Spent, Memory, Exists, NoSuchFile, MigrationOpen, TargetNotEmpty, NothingOpen, NotMoved, Collision, Damage, BadChunk, DeviceFull, VolumeFull}
use Rattle.seed_mover.specs.BeginParts.{ReadiesBegin}
use Rattle.seed_mover.specs.Beginning.{HasNoFile, HasSomeFile, IsReady, JudgesBegin}
use Rattle.site_runs.specs.SiteValues.{SiteValue}

-- FILES THAT ARE COUNTED

pub some_file : (shape : Shape) → 0 < map.len shape.files → HasSomeFile shape
some_file shape some =
    let its = some_entry shape.files (map.len shape.files - 1) (omega (arith, some)) in
    (its.0, ap is_some its.2)

none_held : (files : Files) (name : List ℕ) (b : Bool) → map.len files ≡ 0 → map.contains_key files name ≡ b → map.contains_key files name ≡ false
none_held files name false none is = is
none_held files name true none is = absurd (each_key files (λ q. ⊥) (λ j inside. omega (arith, inside, none)) name is)

pub no_file : (shape : Shape) → map.len shape.files ≡ 0 → HasNoFile shape
no_file shape none = λ name. none_held shape.files name (map.contains_key shape.files name) none refl

-- WHAT IS ANSWERED

pub judged_refused : (v : SiteValue) (names : List (List ℕ)) (error : SiteError) → v.spent ≡ false → JudgesBegin v (Err error) → ReadiesBegin v v names (Err error)
judged_refused v names MigrationOpen fresh judged = (fresh, judged, refl)
judged_refused v names TargetNotEmpty fresh judged = (fresh, judged.0, judged.1, refl)
judged_refused v names Spent fresh judged = absurd judged
judged_refused v names RackFault fresh judged = absurd judged
judged_refused v names Memory fresh judged = absurd judged
judged_refused v names Exists fresh judged = absurd judged
judged_refused v names NoSuchFile fresh judged = absurd judged
judged_refused v names NothingOpen fresh judged = absurd judged
judged_refused v names NotMoved fresh judged = absurd judged
judged_refused v names (Collision name) fresh judged = absurd judged
judged_refused v names (Damage device at) fresh judged = absurd judged
judged_refused v names (BadChunk name found) fresh judged = absurd judged
judged_refused v names (DeviceFull device at len) fresh judged = absurd judged
judged_refused v names (VolumeFull what) fresh judged = absurd judged

pub ready_when : (v : SiteValue) (names : List (List ℕ)) → v.spent ≡ false → JudgesBegin v (Ok tt) → HoldsAllNames v.a.shape names → IsReady v names
ready_when v names fresh judged held = record { fresh = fresh; idle = judged.0; empty = judged.1; held = held }
