-- Chunks that are copied from one volume to the other.
use Rattle.std.proofs.Common.{◌≡◌, inl, inr, ℕ, ◌≤◌, ◌^◌, List, [], length, Bool, false, Some, refl, sym, ◌∙◌, ap, subst}
use Rattle.std.specs.Prelude.{Result, Err, Vec, unwrap_or}
use Rattle.std.specs.declared.alloc.Global.{Global}
use Rattle.std.specs.FinMap as map
use Rattle.sha2.specs.Sha256.{sha256}
use Rattle.volume_disk.specs.Disk.{Disk, Images, Crash}
use Rattle.device_pieces.specs.Quiet.{Quiet}
use Rattle.site_forms.specs.Sites.{IsSite}
use Rattle.site_forms.specs.Views.{State}
use Rattle.site_forms.specs.VolumeRecords.{IsChunk}
use Rattle.site_forms.specs.VolumeRecords.VolumeRecord.{ChunkRecord}
use Rattle.site_forms.specs.Volumes.{Volume}
use Rattle.chunk_volume.specs.declared.errors.VolError.{VolError}
use Rattle.chunk_volume.specs.declared.errors.VolError.TheVariants as vol
use Rattle.chunk_volume.specs.ReadingVolumes.{FindsChunk, HasBytes, ReadsChunk}
use Rattle.chunk_volume.specs.Standing.{VolumeStands}
use Rattle.volume_index.specs.HoldingValues.{KeepsShape}
use Rattle.volume_index.proofs.Alls.{value_has}
use Rattle.site_core.specs.declared.action.Action.{Action}
use Rattle.site_core.specs.Events.{Append, CopiesChunk, IsNextOf, Shapes, append_of, append_with, copied_bytes}
use Rattle.site_core.specs.Lasting.{IsFoldedSite, IsKept}
use Rattle.site_core.specs.Plans.{IsFrontOf}
use Rattle.site_runs.specs.Runs.{SoFar}
use Rattle.site_runs.specs.SiteValues.{SiteStands, SiteValue, shapes_in}
use Rattle.site_runs.proofs.Fronts.{front_none}
use Rattle.site_runs.proofs.RunEnds.{runs_nothing}
use Rattle.site_runs.proofs.Runs.{run_begins, run_quiet, run_same}
use Rattle.site_runs.proofs.Settled.{shapes_same}
use Rattle.seed_mover.specs.declared.entries.Side.{Side}
use Rattle.seed_mover.specs.declared.entries.Side.TheVariants.{A, B}
use Rattle.seed_mover.specs.declared.errors.SiteError.{SiteError}
use Rattle.seed_mover.specs.declared.site.Site.TheInside.{Inside}
use Rattle.seed_mover.specs.Acting.{Carries, CarriesOn, IsNext, add_to, copy_to, drop_chunk_from, drop_from, end_at, source_of}
use Rattle.seed_mover.specs.Entries.{NotesVolume, append_to}
use Rattle.seed_mover.specs.Errors.{is_rack_fault, of_volume, refuses}
use Rattle.seed_mover.specs.Moving.{CopiesFrom, IsFullFor, act_plan, tells_damage}
use Rattle.seed_mover.specs.Running.{IsSameSite}
use Rattle.seed_mover.specs.SiteInside.{KeepsSite}
use Rattle.seed_mover.proofs.NextFacts.{append_told, appends, copy_append}
use Rattle.seed_mover.proofs.Same.{same_itself, same_journal}

-- the next action, by its append
abbrev pub next_by : (v : SiteValue) (x : Append) (action : Action) (bytes : List ℕ) → IsNext v action → CopiesChunk action bytes → x ≡ appends v bytes action → IsNextOf (shapes_in v) x
next_by v x action bytes is copies same = record { action = action; is = is; bytes = bytes; copies = copies; appends = same }

-- it is that of the state
pub append_state : (v : SiteValue) (d : Disk) (s : State) (x : Append) (action : Action) (bytes : List ℕ) → SiteStands v d s → x ≡ appends v bytes action → bytes ≡ copied_bytes s action → x ≡ append_of s action
append_state v d s x action bytes stands same copied =
    same
    ∙ ap (λ (t : Shapes). append_with t.a t.b t.phase bytes action) (shapes_same v s d stands)
    ∙ append_told s bytes action
    ∙ ap (λ (l : List ℕ). append_with s.a s.b s.phase l action) copied

-- actions that copy no bytes
pub adds_nothing : (side : Side) (place : ℕ) → CopiesChunk (add_to side place) []
adds_nothing A place = tt
adds_nothing B place = tt

pub drops_nothing : (side : Side) (place : ℕ) → CopiesChunk (drop_from side place) []
drops_nothing A place = tt
drops_nothing B place = tt

pub drops_no_bytes : (side : Side) (chunk : List ℕ) → CopiesChunk (drop_chunk_from side chunk) []
drops_no_bytes A chunk = tt
drops_no_bytes B chunk = tt

pub ends_nothing : (side : Side) → CopiesChunk (end_at side) []
ends_nothing A = tt
ends_nothing B = tt

pub no_bytes_added : (s : State) (side : Side) (place : ℕ) → [] ≡ copied_bytes s (add_to side place)
no_bytes_added s A place = refl
no_bytes_added s B place = refl

pub no_bytes_dropped : (s : State) (side : Side) (place : ℕ) → [] ≡ copied_bytes s (drop_from side place)
no_bytes_dropped s A place = refl
no_bytes_dropped s B place = refl

pub no_bytes_left : (s : State) (side : Side) (chunk : List ℕ) → [] ≡ copied_bytes s (drop_chunk_from side chunk)
no_bytes_left s A chunk = refl
no_bytes_left s B chunk = refl

pub no_bytes_ended : (s : State) (side : Side) → [] ≡ copied_bytes s (end_at side)
no_bytes_ended s A = refl
no_bytes_ended s B = refl

-- A CHUNK THAT IS COPIED

pub copies_bytes : (side : Side) (chunk bytes : List ℕ) → IsChunk bytes → CopiesChunk (copy_to side chunk) bytes
copies_bytes A chunk bytes is = is
copies_bytes B chunk bytes is = is

source_keeps : (v : SiteValue) (side : Side) → IsKept (shapes_in v) → KeepsShape (source_of side v).shape
source_keeps v A kept = kept.b
source_keeps v B kept = kept.a

pub read_bytes : (v : SiteValue) (side : Side) (chunk bytes : List ℕ) → IsKept (shapes_in v) → map.get (source_of side v).shape.chunks chunk ≡ Some (length bytes) → IsChunk bytes
read_bytes v side chunk bytes kept is =
    let keeps = source_keeps v side kept in
    record {
      some = value_has (source_of side v).shape.chunks (λ n. 1 ≤ n) keeps.some chunk (length bytes) is;
      most = value_has (source_of side v).shape.chunks (λ n. n ≤ 2 ^ 20) keeps.most chunk (length bytes) is;
    }

-- the source in the state, and its place
abbrev pub source_in : Side → State → Volume
source_in A s = s.b
source_in B s = s.a

abbrev pub source_place : Side → ℕ
source_place A = 1
source_place B = 0

pub source_stands : (v : SiteValue) (d : Disk) (s : State) (side : Side) → SiteStands v d s → VolumeStands (source_place side) (source_of side v) d (source_in side s)
source_stands v d s A stands = stands.b
source_stands v d s B stands = stands.a

pub found_bytes : (s : State) (side : Side) (chunk bytes : List ℕ) → HasBytes (source_in side s) chunk bytes → bytes ≡ copied_bytes s (copy_to side chunk)
found_bytes s A chunk bytes has = sym (ap (λ o. unwrap_or o []) has)
found_bytes s B chunk bytes has = sym (ap (λ o. unwrap_or o []) has)

-- the chunk that was read is the next action's
abbrev pub copied_to : (v : SiteValue) (side : Side) (chunk : List ℕ) (bytes : Vec ℕ Global) (slice : List ℕ) → IsKept (shapes_in v) → IsNext v (copy_to side chunk) → slice ≡ bytes.items → map.get (source_of side v).shape.chunks chunk ≡ Some (length bytes.items)
    → IsNextOf (shapes_in v) (append_to side (ChunkRecord chunk slice))
copied_to v side chunk bytes slice kept next same held =
    let read = read_bytes v side chunk bytes.items kept held in
    record { action = copy_to side chunk; is = next; bytes = slice; copies = subst (CopiesChunk (copy_to side chunk)) (sym same) (copies_bytes side chunk bytes.items read); appends = copy_append v side chunk slice }

-- A CHUNK THAT CANNOT BE READ

from_source : (v : SiteValue) (side : Side) (chunk : List ℕ) → IsNext v (copy_to side chunk) → CopiesFrom v (source_of side v) chunk
from_source v A chunk is = inr (is, refl)
from_source v B chunk is = inl (is, refl)

-- the site, spent or not
abbrev pub spent_site : SiteValue → Bool → SiteValue
spent_site v spent = record { a = v.a; b = v.b; journal = v.journal; spent = spent }

pub same_unspent : (v : SiteValue) (spent : Bool) → v.spent ≡ false → spent ≡ false → IsSameSite v (spent_site v spent)
same_unspent v spent fresh is = record { a = same_itself v.a; b = same_itself v.b; journal = same_journal v.journal; spent = is ∙ sym fresh }

module _ (v : SiteValue) (side : Side) (chunk : List ℕ) (spent : Bool) (fresh : v.spent ≡ false) (next : IsNext v (copy_to side chunk)) where
  read_refused : (error : VolError) → ReadsChunk (source_of side v) chunk (Err error) → spent ≡ is_rack_fault (of_volume error) → Carries v (spent_site v spent) (copy_to side chunk) (Err (of_volume error))
  read_refused vol.RackFault reads is = (fresh, is)
  read_refused (vol.Damage device at) reads is = (fresh, record { source = source_of side v; chunk = chunk; copies = from_source v side chunk next; device_is = reads.0; at_is = reads.1 }, same_unspent v spent fresh is)
  read_refused (vol.BadChunk name found) reads is =
      (fresh, record { source = source_of side v; copies = subst (CopiesFrom v (source_of side v)) (sym reads.0) (from_source v side chunk next); other = λ same. reads.1 (same ∙ reads.0) }, same_unspent v spent fresh is)
  read_refused vol.Memory reads is = (fresh, same_unspent v spent fresh is)
  read_refused (vol.Collision name) reads is = absurd reads
  read_refused vol.Exists reads is = absurd reads
  read_refused vol.NoSuchFile reads is = absurd reads
  read_refused (vol.DeviceFull device at len) reads is = absurd reads
  read_refused vol.Spent reads is = absurd reads

  pub carries_refused : (error : VolError) (result : Result (Unit {0}) SiteError) → ReadsChunk (source_of side v) chunk (Err error) → NotesVolume spent (Err error) result → Carries v (spent_site v spent) (copy_to side chunk) result
  carries_refused error result reads notes = subst (λ (x : Result (Unit {0}) SiteError). Carries v (spent_site v spent) (copy_to side chunk) x) (sym notes.0) (read_refused error reads notes.1)

  -- a chunk of a site has the digest that it is named by
  named_source : (s : State) (volume : Side) (name held : List ℕ) → IsSite s → HasBytes (source_in volume s) name held → sha256 held ≡ name
  named_source s A name held is has = is.named_b name held has
  named_source s B name held is has = is.named_a name held has

  finds_refused : (s : State) (error : VolError) → IsSite s → FindsChunk (source_in side s) chunk (Err error) → tells_damage (of_volume error) ≡ false
  finds_refused s vol.RackFault is finds = refl
  finds_refused s (vol.Damage device at) is finds = absurd finds
  finds_refused s (vol.BadChunk name found) is finds = absurd (finds.3 (sym finds.2 ∙ named_source s side chunk finds.0 is finds.1))
  finds_refused s vol.Memory is finds = refl
  finds_refused s (vol.Collision name) is finds = refl
  finds_refused s vol.Exists is finds = refl
  finds_refused s vol.NoSuchFile is finds = refl
  finds_refused s (vol.DeviceFull device at len) is finds = refl
  finds_refused s vol.Spent is finds = refl

  room_refused : (s : State) (error : VolError) → ReadsChunk (source_of side v) chunk (Err error) → IsFullFor v (act_plan s) (of_volume error)
  room_refused s vol.RackFault reads = tt
  room_refused s (vol.Damage device at) reads = tt
  room_refused s (vol.BadChunk name found) reads = tt
  room_refused s vol.Memory reads = tt
  room_refused s (vol.Collision name) reads = tt
  room_refused s vol.Exists reads = tt
  room_refused s vol.NoSuchFile reads = tt
  room_refused s (vol.DeviceFull device at len) reads = absurd reads
  room_refused s vol.Spent reads = tt

  pub carried_refused : {D : Type 0} (disk : D → Disk) (moment : D → ℕ) (left_since : D → ℕ → Images → Type 0) (old new : D) (s : State) (error : VolError) (result : Result (Unit {0}) SiteError) → IsFoldedSite s
      → ((c : Images) → left_since old (moment old) c → Crash (disk old) c) → Quiet moment left_since old new (disk old) (disk new) → SiteStands v (disk old) s
      → ReadsChunk (source_of side v) chunk (Err error) → ((place : ℕ) (volume : Volume) → VolumeStands place (source_of side v) (disk old) volume → FindsChunk volume chunk (Err error)) → NotesVolume spent (Err error) result
      → CarriesOn disk moment left_since old new v (spent_site v spent) s (copy_to side chunk) result
  carried_refused {D} disk moment left_since old new s error result is only_now quiet stands reads finds notes =
      let so_far : SoFar disk moment left_since (IsFrontOf []) s old new v [] = run_quiet disk moment left_since (run_begins disk moment left_since (IsFrontOf []) s old v (front_none []) only_now stands) new quiet in
      let now : SiteStands (spent_site v spent) (disk new) s = record { a = so_far.stands.a; b = so_far.stands.b; journal = so_far.stands.journal; phase = so_far.stands.phase } in
      subst (λ (x : Result (Unit {0}) SiteError). CarriesOn disk moment left_since old new v (spent_site v spent) s (copy_to side chunk) x) (sym notes.0) (record {
        runs = runs_nothing disk moment left_since refuses old new v (spent_site v spent) s (act_plan s) (of_volume error) (run_same disk moment left_since so_far (spent_site v spent) now) quiet.same;
        finds = finds_refused s error is.site (finds (source_place side) (source_in side s) (source_stands v (disk old) s side stands));
        room = room_refused s error reads;
      })

-- what the site keeps once it is spent or not
pub keeps_spent : (s : Inside) (spent : Bool) → s.spent ≡ false → KeepsSite s → KeepsSite (record s { spent = spent })
keeps_spent s spent fresh keeps = let old = keeps.fresh fresh in record { kept = keeps.kept; cursor = keeps.cursor; fresh = λ is. record { a = old.a; b = old.b; journal = old.journal } }
