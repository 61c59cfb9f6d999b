-- Files that are read from the volume that holds them.
use Rattle.std.proofs.Common.{◌≡◌, ◌≢◌, ℕ, List, Bool, true, false, Option, Some, None, refl, sym, ◌∙◌, ap, subst}
use Rattle.std.specs.Prelude.{Ok, Err, Vec, is_some, ◌||◌, if◌then◌else◌}
use Rattle.std.specs.declared.alloc.Global.{Global}
use Rattle.std.specs.Option.{option_map}
use Rattle.std.specs.FinMap as map
use Rattle.volume_disk.specs.Disk.{Disk}
use Rattle.site_forms.specs.Sites.{HoldsFile, IsSite, IsNamedByDigests}
use Rattle.site_forms.specs.Views.{State, content, joined_bytes, view}
use Rattle.site_forms.specs.Volumes.{Files, Shape, Volume}
use Rattle.volume_index.specs.HoldingCalls.{IsFilePlace}
use Rattle.volume_index.proofs.IndexReads.{held_by_place}
use Rattle.chunk_volume.specs.declared.errors.VolError.{VolError}
use Rattle.chunk_volume.specs.declared.errors.VolError.TheVariants as vol
use Rattle.chunk_volume.specs.ReadingVolumes.{FindsFile, IsFirstBad, ReadsFile}
use Rattle.chunk_volume.specs.Standing.{VolumeStands}
use Rattle.seed_mover.specs.Dropping.{IsHeld}
use Rattle.seed_mover.specs.Errors.{of_volume}
use Rattle.seed_mover.specs.Getting.{FindsView, Gets, holder, holder_in}
use Rattle.seed_mover.specs.Opening.{IsWhole}
use Rattle.site_runs.specs.SiteValues.{SiteValue, SiteStands}

-- HELD BY ITS HOLDER

held_by : (v : SiteValue) (name : List ℕ) (in_a : Bool) → map.contains_key v.a.shape.files name ≡ in_a → HoldsFile (if in_a then v.a else v.b).shape name → IsHeld v name
held_by v name true is holds = ap (λ (x : Bool). x || map.contains_key v.b.shape.files name) is
held_by v name false is holds = ap (λ (x : Bool). x || map.contains_key v.b.shape.files name) is ∙ holds

pub held_by_holder : (v : SiteValue) (name : List ℕ) → HoldsFile (holder v name).shape name → IsHeld v name
held_by_holder v name holds = held_by v name (map.contains_key v.a.shape.files name) refl holds

holds_by : (v : SiteValue) (name : List ℕ) (in_a : Bool) → map.contains_key v.a.shape.files name ≡ in_a → IsHeld v name → HoldsFile (if in_a then v.a else v.b).shape name
holds_by v name true is held = is
holds_by v name false is held = sym (ap (λ (x : Bool). x || map.contains_key v.b.shape.files name) is) ∙ held

pub holder_holds : (v : SiteValue) (name : List ℕ) → IsHeld v name → HoldsFile (holder v name).shape name
holder_holds v name held = holds_by v name (map.contains_key v.a.shape.files name) refl held

list_held : (shape : Shape) (name : List ℕ) (list : List (List ℕ)) → map.get shape.files name ≡ Some list → HoldsFile shape name
list_held shape name list is = ap is_some is

-- ON EVERY RACK

pub gets_refused : (v : SiteValue) (name : List ℕ) (error : VolError) → ReadsFile (holder v name) name (Err error) → Gets v name (Err (of_volume error))
gets_refused v name vol.NoSuchFile reads = λ held. reads (holder_holds v name held)
gets_refused v name (vol.Damage device at) reads = (held_by_holder v name (list_held (holder v name).shape name reads.1.0 reads.1.1), reads)
gets_refused v name (vol.BadChunk chunk found) reads = (held_by_holder v name (list_held (holder v name).shape name reads.1.0 reads.1.1), reads)
gets_refused v name vol.RackFault reads = held_by_holder v name reads
gets_refused v name vol.Memory reads = held_by_holder v name reads
gets_refused v name (vol.Collision chunk) reads = absurd reads
gets_refused v name vol.Exists reads = absurd reads
gets_refused v name (vol.DeviceFull device at len) reads = absurd reads
gets_refused v name vol.Spent reads = absurd reads

-- FOR A SITE THAT STANDS FOR A STATE

abbrev pub holder_place : Bool → ℕ
holder_place in_a = if in_a then 0 else 1

stands_by : (v : SiteValue) (d : Disk) (s : State) (name : List ℕ) (in_a : Bool) → SiteStands v d s → VolumeStands (holder_place in_a) (if in_a then v.a else v.b) d (if in_a then s.a else s.b)
stands_by v d s name true stands = stands.a
stands_by v d s name false stands = stands.b

same_choice : (v : SiteValue) (d : Disk) (s : State) (name : List ℕ) → SiteStands v d s → map.contains_key v.a.shape.files name ≡ map.contains_key s.a.files name
same_choice v d s name stands = ap (λ (x : Shape). map.contains_key x.files name) stands.a.shape

pub holder_stands : (v : SiteValue) (d : Disk) (s : State) (name : List ℕ) → SiteStands v d s → VolumeStands (holder_place (map.contains_key s.a.files name)) (holder v name) d (holder_in s name)
holder_stands v d s name stands =
    subst (λ (b : Bool). VolumeStands (holder_place (map.contains_key s.a.files name)) (if b then v.a else v.b) d (holder_in s name)) (sym (same_choice v d s name stands)) (stands_by v d s name (map.contains_key s.a.files name) stands)

view_by : (s : State) (name : List ℕ) (in_a : Bool) → content (if in_a then s.a else s.b) name ≡ (if in_a then content s.a name else content s.b name)
view_by s name true = refl
view_by s name false = refl

seen : (s : State) (name : List ℕ) → content (holder_in s name) name ≡ view s name
seen s name = view_by s name (map.contains_key s.a.files name)

nothing_there : (volume : Volume) (name : List ℕ) (o : Option (List (List ℕ))) → is_some o ≢ true → option_map (joined_bytes volume) o ≡ None
nothing_there volume name None never = refl
nothing_there volume name (Some list) never = absurd (never refl)

module _ (v : SiteValue) (d : Disk) (s : State) (name : List ℕ) (stands : SiteStands v d s) where
  pub view_found : (bytes : Vec ℕ Global) → FindsFile (holder_in s name) name (Ok bytes) → FindsView s name (Ok bytes)
  view_found bytes finds = sym (seen s name) ∙ finds

  pub view_refused : (error : VolError) → ReadsFile (holder v name) name (Err error) → FindsFile (holder_in s name) name (Err error) → FindsView s name (Err (of_volume error))
  view_refused vol.NoSuchFile reads finds = sym (seen s name) ∙ nothing_there (holder_in s name) name (map.get (holder_in s name).files name) (λ held. reads (ap (λ (x : Shape). map.contains_key x.files name) (holder_stands v d s name stands).shape ∙ held))
  view_refused (vol.Damage device at) reads finds = absurd finds
  view_refused (vol.BadChunk chunk found) reads finds = finds
  view_refused vol.RackFault reads finds = tt
  view_refused vol.Memory reads finds = tt
  view_refused (vol.Collision chunk) reads finds = tt
  view_refused vol.Exists reads finds = tt
  view_refused (vol.DeviceFull device at len) reads finds = tt
  view_refused vol.Spent reads finds = tt

-- a chunk of a site is never bad
named_by : (s : State) (in_a : Bool) → IsSite s → IsNamedByDigests (if in_a then s.a else s.b)
named_by s true site = site.named_a
named_by s false site = site.named_b

good_site : (s : State) (name chunk found : List ℕ) → IsSite s → IsFirstBad (holder_in s name) name chunk found → ⊥
good_site s name chunk found site bad = bad.bad.3 (sym bad.bad.2 ∙ named_by s (map.contains_key s.a.files name) site chunk bad.bad.0 bad.bad.1)

pub whole_view : (s : State) (name : List ℕ) (error : VolError) → IsSite s → FindsFile (holder_in s name) name (Err error) → IsWhole {T = Vec ℕ Global} (Err (of_volume error))
whole_view s name vol.NoSuchFile site finds = tt
whole_view s name (vol.Damage device at) site finds = finds
whole_view s name (vol.BadChunk chunk found) site finds = good_site s name chunk found site finds
whole_view s name vol.RackFault site finds = tt
whole_view s name vol.Memory site finds = tt
whole_view s name (vol.Collision chunk) site finds = tt
whole_view s name vol.Exists site finds = tt
whole_view s name (vol.DeviceFull device at len) site finds = tt
whole_view s name vol.Spent site finds = tt

-- FOUND BY ITS PLACE

pub place_found : (files : Files) (name : List ℕ) (r : Option ℕ) → IsFilePlace files name r → is_some r ≡ map.contains_key files name
place_found files name None is = sym is
place_found files name (Some place) is = sym (held_by_place files name (Some place) is refl)
