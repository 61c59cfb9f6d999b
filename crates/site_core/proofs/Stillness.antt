-- The view over events that add and drop no file.
use Rattle.std.proofs.Common.{◌≡◌, ◌≢◌, ⊎_elim, ℕ, List, [], ◌∷◌, Bool, Option, Some, None, refl, sym, ◌∙◌, ap}
use Rattle.std.specs.Prelude.{if◌then◌else◌}
use Rattle.std.specs.Str.{bytes_eq}
use Rattle.site_forms.specs.declared.phase.Phase.{Phase}
use Rattle.site_forms.specs.declared.phase.Phase.TheVariants.{Idle, Moving, Moved, Undoing}
use Rattle.site_forms.specs.Views.{State, view, joined_bytes}
use Rattle.site_forms.specs.VolumeRecords.VolumeRecord.{ChunkRecord, FileRecord, DropFileRecord, DropChunkRecord}
use Rattle.site_core.specs.Events.{Append, Event, AreAllowed, after, after_all}
use Rattle.site_core.specs.Events.Append.{ToA, ToB, ToJournal}
use Rattle.site_core.specs.Events.Event.{Appends, Reads, Reopens}
use Rattle.site_core.specs.Lasting.{AllSpare, AreStill, IsFoldedSite, IsStill, Spares, StaysOpen, file_of, idle_view, phase_view, view_after}
use Rattle.site_core.proofs.Lasting.{event_keeps, event_view}
use Rattle.site_core.proofs.Maps.{name_cases}

-- a file of another name is no matter
other_file : (file name : List ℕ) (some : Option (List ℕ)) (o : Option (List ℕ)) → Some file ≢ Some name → (if bytes_eq name file then some else o) ≡ o
other_file file name some o other = ⊎_elim
    (λ same. absurd (other (ap Some (sym same))))
    (λ apart. ap (λ (b : Bool). if b then some else o) apart)
    (name_cases name file)

idle_spared : (s : State) (x : Append) (name : List ℕ) → file_of x ≢ Some name → idle_view s x name ≡ view s name
idle_spared s (ToA (FileRecord file list)) name other = other_file file name (Some (joined_bytes s.a list)) (view s name) other
idle_spared s (ToA (DropFileRecord file)) name other = other_file file name None (view s name) other
idle_spared s (ToB (DropFileRecord file)) name other = other_file file name None (view s name) other
idle_spared s (ToA (ChunkRecord chunk bytes)) name other = refl
idle_spared s (ToA (DropChunkRecord chunk)) name other = refl
idle_spared s (ToB (ChunkRecord chunk bytes)) name other = refl
idle_spared s (ToB (FileRecord file list)) name other = refl
idle_spared s (ToB (DropChunkRecord chunk)) name other = refl
idle_spared s (ToJournal r) name other = refl

phase_spared : (phase : Phase) (s : State) (x : Append) (name : List ℕ) → (phase ≡ Idle → file_of x ≢ Some name) → phase_view phase s x name ≡ view s name
phase_spared Idle s x name other = idle_spared s x name (other refl)
phase_spared (Moving names) s x name other = refl
phase_spared (Moved names) s x name other = refl
phase_spared (Undoing names) s x name other = refl

event_spared : (s : State) (e : Event) (name : List ℕ) → Spares name s e → view_after s e name ≡ view s name
event_spared s (Appends x) name spares = phase_spared s.phase s x name spares
event_spared s (Reads read) name spares = refl
event_spared s Reopens name spares = refl

pub all_spared : (s : State) (events : List Event) (name : List ℕ) → IsFoldedSite s → AreAllowed s events → AllSpare name s events → view (after_all s events) name ≡ view s name
all_spared s [] name is allowed spare = refl
all_spared s (e ∷ events) name is allowed spare =
    all_spared (after s e) events name (event_keeps s e is allowed.0) allowed.1 spare.1
    ∙ event_view s e name is allowed.0
    ∙ event_spared s e name spare.0

-- what is still spares every name
still_spares : (s : State) (e : Event) (name : List ℕ) → IsStill s e → Spares name s e
still_spares s (Appends x) name still = λ idle is. let no : None ≡ Some name = sym (still idle) ∙ is in cc
still_spares s (Reads read) name still = tt
still_spares s Reopens name still = tt

all_still : (s : State) (events : List Event) (name : List ℕ) → AreStill s events → AllSpare name s events
all_still s [] name still = tt
all_still s (e ∷ events) name still = (still_spares s e name still.0, all_still (after s e) events name still.1)

pub still_view : (s : State) (events : List Event) (name : List ℕ) → IsFoldedSite s → AreAllowed s events → AreStill s events → view (after_all s events) name ≡ view s name
still_view s events name is allowed still = all_spared s events name is allowed (all_still s events name still)

-- events while a migration is open are still
pub open_still : (s : State) (events : List Event) → StaysOpen s events → AreStill s events
open_still s [] stays = tt
open_still s (e ∷ events) stays = (one e, open_still (after s e) events stays.1)
  where
    one : (f : Event) → IsStill s f
    one (Appends x) = λ idle. absurd (stays.0 idle)
    one (Reads read) = tt
    one Reopens = tt
