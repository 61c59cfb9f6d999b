-- A file that is put, from the parts of the call.
use Rattle.std.proofs.Common.{◌≡◌, ◌≢◌, inl, ℕ, ◌+◌, ◌≤◌, List, [], ◌∷◌, ◌++◌, length, true, false, cond, Some, refl, sym, ap, subst, ◌∙◌, arith}
use Rattle.std.specs.Prelude.{All, Result, Ok, Err, map as each, ◌||◌}
use Rattle.std.specs.FinMap as map
use Rattle.sha2.specs.Sha256.{sha256}
use Rattle.volume_disk.specs.Disk.{Disk, Images, Crash}
use Rattle.volume_disk.proofs.Moments.{weaker}
use Rattle.device_pieces.specs.Quiet.{Quiet}
use Rattle.chunk_volume.specs.ReadingVolumes.{IsBadChunk}
use Rattle.file_names.specs.FileNames.{IsFileName}
use Rattle.site_forms.specs.VolumeRecords.{IsChunk}
use Rattle.device_pieces.proofs.Quiets.{quiet_begins}
use Rattle.site_forms.specs.VolumeRecords.{VolumeRecord}
use Rattle.site_forms.specs.VolumeRecords.VolumeRecord.{ChunkRecord, FileRecord, DropFileRecord, DropChunkRecord}
use Rattle.site_forms.specs.Views.{State}
use Rattle.site_forms.specs.Volumes.{Shape, Volume, may_add_file, shape_after, with_chunk, with_file}
use Rattle.volume_index.specs.HoldingValues.{held_bytes}
use Rattle.volume_index.proofs.Users.{sum_insert}
use Rattle.site_core.specs.Events.{Append, AreAllowed, Shapes, happens_to, shapes_of}
use Rattle.site_core.specs.Events.Append.{ToA}
use Rattle.site_core.proofs.Folding.{and_then_some}
use Rattle.site_core.proofs.Maps.{some_same}
use Rattle.site_core.proofs.Turning.{if_none, if_some, mapped}
use Rattle.seed_mover.specs.declared.errors.SiteError.{SiteError}
use Rattle.seed_mover.specs.declared.errors.SiteError.TheVariants.{RackFault, Spent, Memory, Exists, NoSuchFile, MigrationOpen, TargetNotEmpty, NothingOpen, NotMoved, Collision, Damage, BadChunk, DeviceFull, VolumeFull}
use Rattle.site_core.specs.Lasting.{IsFoldedSite}
use Rattle.site_core.specs.Plans.{IsFrontOf, Led, events_of}
use Rattle.site_runs.specs.Runs.{Runs}
use Rattle.site_runs.specs.SiteValues.{SiteStands, SiteValue, shapes_in}
use Rattle.site_runs.proofs.Fronts.{front_none}
use Rattle.site_runs.proofs.RunEnds.{runs_done, runs_failed}
use Rattle.site_runs.proofs.Settled.{shapes_same, site_same, state_settled}
use Rattle.seed_mover.specs.Errors.{refuses}
use Rattle.seed_mover.specs.Opening.{IsWhole}
use Rattle.seed_mover.specs.Plans.{AllFit, Logs, logs_in, shapes_after}
use Rattle.seed_mover.specs.Through.{RunsThrough}
use Rattle.seed_mover.specs.PutParts.{AddsAll, FindsQuietly, ReadiesPut}
use Rattle.seed_mover.specs.Putting.{AreEnds, FindsBlocks, IsWithin, JudgesPut, LeavesShown, MayPut, Puts, PutsOn, blocks_of, new_chunks, put_plan, put_records}
use Rattle.seed_mover.specs.Running.{IsAfter, IsSameSite}
use Rattle.seed_mover.proofs.BlockLists.{blocks_are, blocks_joined, count_blocks}
use Rattle.seed_mover.proofs.PutAdded.{put_allowed}
use Rattle.seed_mover.proofs.PutShown.{shown_done, shown_part, shown_still, stands_keeps}
use Rattle.seed_mover.proofs.Same.{same_site, stands_same}
use Rattle.seed_mover.proofs.Chained.{same_after}
use Rattle.seed_mover.proofs.UnusedDropped.{same_logs, same_shapes}
use Rattle.seed_mover.proofs.Through.{through_behind}

-- REFUSED BEFORE THE FIRST RECORD

-- on every rack
pub puts_unready : (v w : SiteValue) (name : List ℕ) (blocks : List (List ℕ)) (error : SiteError) → MayPut v name → ReadiesPut v w name blocks (Err error) → Puts v w name blocks (Err error)
puts_unready v w name blocks (VolumeFull what) may readies = (may, readies.0, readies.1)
puts_unready v w name blocks (BadChunk chunk found) may readies = (may, readies.0, readies.1, readies.2, readies.3, readies.4)
puts_unready v w name blocks (Collision chunk) may readies = (may, readies.0, readies.1, readies.2)
puts_unready v w name blocks (Damage device at) may readies = (may, readies.0, readies.1, readies.2)
puts_unready v w name blocks (DeviceFull device at len) may readies = (may, readies.0, readies.1, readies.2)
puts_unready v w name blocks Memory may readies = (may, readies)
puts_unready v w name blocks RackFault may readies = (may, readies.0, readies.1)
puts_unready v w name blocks Spent may readies = absurd readies
puts_unready v w name blocks Exists may readies = absurd readies
puts_unready v w name blocks NoSuchFile may readies = absurd readies
puts_unready v w name blocks MigrationOpen may readies = absurd readies
puts_unready v w name blocks TargetNotEmpty may readies = absurd readies
puts_unready v w name blocks NothingOpen may readies = absurd readies
puts_unready v w name blocks NotMoved may readies = absurd readies

-- it is the same site, but after a fault
same_unready : (v w : SiteValue) (name : List ℕ) (blocks : List (List ℕ)) (error : SiteError) → ReadiesPut v w name blocks (Err error) → refuses error → IsSameSite v w
same_unready v w name blocks (VolumeFull what) readies refused = readies.1
same_unready v w name blocks (BadChunk chunk found) readies refused = readies.4
same_unready v w name blocks (Collision chunk) readies refused = readies.2
same_unready v w name blocks (Damage device at) readies refused = readies.2
same_unready v w name blocks (DeviceFull device at len) readies refused = readies.2
same_unready v w name blocks Memory readies refused = readies
same_unready v w name blocks RackFault readies refused = absurd refused
same_unready v w name blocks Spent readies refused = absurd readies
same_unready v w name blocks Exists readies refused = absurd readies
same_unready v w name blocks NoSuchFile readies refused = absurd readies
same_unready v w name blocks MigrationOpen readies refused = absurd readies
same_unready v w name blocks TargetNotEmpty readies refused = absurd readies
same_unready v w name blocks NothingOpen readies refused = absurd readies
same_unready v w name blocks NotMoved readies refused = absurd readies

-- the same is found, whatever a call would have answered
finds_any : (a : Volume) (blocks : List (List ℕ)) (error : SiteError) → FindsBlocks {T = Unit {0}} a blocks (Err error) → FindsBlocks {T = ℕ} a blocks (Err error)
finds_any a blocks (VolumeFull what) finds = finds
finds_any a blocks (BadChunk chunk found) finds = finds
finds_any a blocks (Collision chunk) finds = finds
finds_any a blocks (Damage device at) finds = finds
finds_any a blocks (DeviceFull device at len) finds = finds
finds_any a blocks Memory finds = finds
finds_any a blocks RackFault finds = finds
finds_any a blocks Spent finds = finds
finds_any a blocks Exists finds = finds
finds_any a blocks NoSuchFile finds = finds
finds_any a blocks MigrationOpen finds = finds
finds_any a blocks TargetNotEmpty finds = finds
finds_any a blocks NothingOpen finds = finds
finds_any a blocks NotMoved finds = finds

-- on a site neither damage nor a bad chunk is found
no_bad : (s : State) (name found : List ℕ) → IsFoldedSite s → IsBadChunk s.a name found → ⊥
no_bad s name found is bad = bad.3 (sym bad.2 ∙ is.site.named_a name bad.0 bad.1)

whole_any : (s : State) (blocks : List (List ℕ)) (error : SiteError) → IsFoldedSite s → FindsBlocks {T = ℕ} s.a blocks (Err error) → IsWhole {T = ℕ} (Err error)
whole_any s blocks (Damage device at) is finds = finds
whole_any s blocks (BadChunk name found) is finds = no_bad s name found is finds.0
whole_any s blocks (Collision name) is finds = tt
whole_any s blocks (DeviceFull device at len) is finds = tt
whole_any s blocks (VolumeFull what) is finds = tt
whole_any s blocks RackFault is finds = tt
whole_any s blocks Spent is finds = tt
whole_any s blocks Memory is finds = tt
whole_any s blocks Exists is finds = tt
whole_any s blocks NoSuchFile is finds = tt
whole_any s blocks MigrationOpen is finds = tt
whole_any s blocks TargetNotEmpty is finds = tt
whole_any s blocks NothingOpen is finds = tt
whole_any s blocks NotMoved is finds = tt

module _ {D : Type 0} (disk : D → Disk) (moment : D → ℕ) (left_since : D → ℕ → Images → Type 0) (old new : D) (v w : SiteValue) (name bytes ends : List ℕ) (error : SiteError) (s : State) (stands : SiteStands v (disk old) s) (is : IsFoldedSite s) where
  -- a call that changes nothing runs nothing of its plan
  nothing_run : (whole : List Append) → Quiet moment left_since old new (disk old) (disk new) → (refuses error → IsSameSite v w) → Runs disk moment left_since refuses old new v w {T = ℕ} s whole (Err error)
  nothing_run whole quiet same = record {
    plan = [];
    is = inl refl;
    refused = λ refused. refl;
    allowed = tt;
    done = tt;
    kept = λ refused. stands_same v w (disk new) s (same refused) (site_same v s (disk old) (disk new) quiet.same stands);
    same = λ refused. quiet.same;
    rest = λ rest. tt;
    moments = weaker moment left_since old new (Crash (disk old)) (Led (IsFrontOf []) s) quiet.moments (λ c crash. record { plan = []; within = front_none []; now = state_settled v s (disk old) c stands crash });
  }

  pub put_refused : Quiet moment left_since old new (disk old) (disk new) → (refuses error → IsSameSite v w) → FindsBlocks {T = ℕ} s.a (blocks_of bytes ends) (Err error) → PutsOn disk moment left_since old new v w name bytes ends s (Err error)
  put_refused quiet same finds = record {
    runs = nothing_run (put_plan (shapes_of s) name (blocks_of bytes ends)) quiet same;
    finds = finds;
    whole = whole_any s (blocks_of bytes ends) error is finds;
    done = tt;
    shows = weaker moment left_since old new (Crash (disk old)) (LeavesShown s name bytes) quiet.moments (shown_still v (disk old) s name bytes stands);
  }

  pub put_unready : ReadiesPut v w name (blocks_of bytes ends) (Err error) → FindsQuietly moment left_since old new (disk old) (disk new) v (blocks_of bytes ends) (Err error) → PutsOn disk moment left_since old new v w name bytes ends s (Err error)
  put_unready readies found = put_refused found.quiet (same_unready v w name (blocks_of bytes ends) error readies) (finds_any s.a (blocks_of bytes ends) error (found.finds s stands))

-- a file that may not be put
pub puts_unfit : (v : SiteValue) (name : List ℕ) (blocks : List (List ℕ)) (error : SiteError) → v.spent ≡ false → JudgesPut v name (Err error) → Puts v v name blocks (Err error)
puts_unfit v name blocks MigrationOpen fresh judged = (fresh, judged, refl)
puts_unfit v name blocks Exists fresh judged = (fresh, judged.0, judged.1, refl)
puts_unfit v name blocks RackFault fresh judged = absurd judged
puts_unfit v name blocks Spent fresh judged = absurd judged
puts_unfit v name blocks Memory fresh judged = absurd judged
puts_unfit v name blocks NoSuchFile fresh judged = absurd judged
puts_unfit v name blocks TargetNotEmpty fresh judged = absurd judged
puts_unfit v name blocks NothingOpen fresh judged = absurd judged
puts_unfit v name blocks NotMoved fresh judged = absurd judged
puts_unfit v name blocks (Collision chunk) fresh judged = absurd judged
puts_unfit v name blocks (Damage device at) fresh judged = absurd judged
puts_unfit v name blocks (BadChunk chunk found) fresh judged = absurd judged
puts_unfit v name blocks (DeviceFull device at len) fresh judged = absurd judged
puts_unfit v name blocks (VolumeFull what) fresh judged = absurd judged

pub finds_unfit : (v : SiteValue) (name : List ℕ) (a : Volume) (blocks : List (List ℕ)) (error : SiteError) → JudgesPut v name (Err error) → FindsBlocks {T = ℕ} a blocks (Err error)
finds_unfit v name a blocks MigrationOpen judged = tt
finds_unfit v name a blocks Exists judged = tt
finds_unfit v name a blocks RackFault judged = tt
finds_unfit v name a blocks Spent judged = tt
finds_unfit v name a blocks Memory judged = tt
finds_unfit v name a blocks NoSuchFile judged = tt
finds_unfit v name a blocks TargetNotEmpty judged = tt
finds_unfit v name a blocks NothingOpen judged = tt
finds_unfit v name a blocks NotMoved judged = tt
finds_unfit v name a blocks (Collision chunk) judged = absurd judged
finds_unfit v name a blocks (Damage device at) judged = absurd judged
finds_unfit v name a blocks (BadChunk chunk found) judged = absurd judged
finds_unfit v name a blocks (DeviceFull device at len) judged = absurd judged
finds_unfit v name a blocks (VolumeFull what) judged = tt

pub unfit_no_fault : (v : SiteValue) (name : List ℕ) (error : SiteError) → JudgesPut v name (Err error) → error ≢ RackFault
unfit_no_fault v name error judged is = subst (λ (e : SiteError). JudgesPut v name (Err e)) is judged

pub may_be_put : (v : SiteValue) (name : List ℕ) → v.spent ≡ false → JudgesPut v name (Ok tt) → MayPut v name
may_be_put v name fresh judged = record { fresh = fresh; idle = judged.0; lacking = judged.1 }

-- a site that is the same but for room
pub may_still : (v u : SiteValue) (name : List ℕ) → IsSameSite v u → MayPut v name → MayPut u name
may_still v u name same may = record {
  fresh = same.spent ∙ may.fresh;
  idle = same.journal.phase ∙ may.idle;
  lacking = λ held. may.lacking ((λ i. map.contains_key (sym same.a.shape i).files name || map.contains_key (sym same.b.shape i).files name) ∙ held);
}

-- nothing is done on the disk
pub put_nothing : {D : Type 0} (disk : D → Disk) (moment : D → ℕ) (left_since : D → ℕ → Images → Type 0) (old : D) (v : SiteValue) (name bytes ends : List ℕ) (error : SiteError) → ((c : Images) → left_since old (moment old) c → Crash (disk old) c)
    → (s : State) → SiteStands v (disk old) s → IsFoldedSite s → FindsBlocks {T = ℕ} s.a (blocks_of bytes ends) (Err error) → PutsOn disk moment left_since old old v v name bytes ends s (Err error)
put_nothing disk moment left_since old v name bytes ends error only_now s stands is finds =
    put_refused disk moment left_since old old v v name bytes ends error s stands is (quiet_begins moment left_since old (disk old) only_now) (λ refused. same_site v) finds

-- ONCE ALL IS READY

-- records that take nothing away
abbrev pub IsAdding : VolumeRecord → Type 0
IsAdding (ChunkRecord name bytes) = Unit {0}
IsAdding (FileRecord name list) = Unit {0}
IsAdding (DropFileRecord name) = ⊥
IsAdding (DropChunkRecord name) = ⊥

abbrev pub AreAdding : List VolumeRecord → Type 0
AreAdding [] = Unit {0}
AreAdding (r ∷ records) = IsAdding r × AreAdding records

all_adding : (a : Shape) (name : List ℕ) (list blocks : List (List ℕ)) → AreAdding (new_chunks a blocks ++ FileRecord name list ∷ [])
all_adding a name list [] = (tt, tt)
all_adding a name list (block ∷ blocks) =
    elim (map.contains_key a.chunks (sha256 block)) as (λ b. AreAdding (cond b (new_chunks a blocks) (ChunkRecord (sha256 block) block ∷ new_chunks (with_chunk a (sha256 block) (length block)) blocks) ++ FileRecord name list ∷ [])) [
      | true ↦ all_adding a name list blocks
      | false ↦ (tt, all_adding (with_chunk a (sha256 block) (length block)) name list blocks)
    ]

grown_by : (shape next : Shape) (r : VolumeRecord) → IsAdding r → shape_after shape r ≡ Some next → held_bytes shape ≤ held_bytes next
grown_by shape next (ChunkRecord name bytes) adds is =
    let its = if_none (map.contains_key shape.chunks name) (with_chunk shape name (length bytes)) next is in
    omega (arith, sum_insert (λ (n : ℕ). n) shape.chunks name (length bytes) its.0, ap held_bytes its.1)
grown_by shape next (FileRecord name list) adds is = let its = if_some (may_add_file (λ n. n) 0 shape name list) (with_file shape name list) next is in omega (arith, ap held_bytes its.1)
grown_by shape next (DropFileRecord name) adds is = absurd adds
grown_by shape next (DropChunkRecord name) adds is = absurd adds

grown : (t u : Shapes) (records : List VolumeRecord) → AreAdding records → shapes_after t (each ToA records) ≡ Some u → held_bytes t.a ≤ held_bytes u.a
grown t u [] adds is = omega (arith, ap (λ (x : Shapes). held_bytes x.a) (some_same t u is))
grown t u (r ∷ records) adds is =
    let one = and_then_some (λ x. shapes_after x (each ToA records)) (happens_to t (ToA r)) u is in
    let its = mapped (λ (x : Shape). record t { a = x }) (shape_after t.a r) one.0 one.1 in
    omega (arith, grown_by t.a its.0 r adds.0 its.1, ap (λ (x : Shapes). held_bytes x.a) its.2, grown one.0 u records adds.1 one.2)

no_refusal : (u w : SiteValue) (plan : List Append) (error : SiteError) → AddsAll u w plan (Err error) → refuses error → ⊥
no_refusal u w plan RackFault adds refused = refused
no_refusal u w plan Spent adds refused = adds
no_refusal u w plan Memory adds refused = adds
no_refusal u w plan Exists adds refused = adds
no_refusal u w plan NoSuchFile adds refused = adds
no_refusal u w plan MigrationOpen adds refused = adds
no_refusal u w plan TargetNotEmpty adds refused = adds
no_refusal u w plan NothingOpen adds refused = adds
no_refusal u w plan NotMoved adds refused = adds
no_refusal u w plan (Collision chunk) adds refused = adds
no_refusal u w plan (Damage device at) adds refused = adds
no_refusal u w plan (BadChunk chunk found) adds refused = adds
no_refusal u w plan (DeviceFull device at len) adds refused = adds
no_refusal u w plan (VolumeFull what) adds refused = adds

finds_stopped : (a : Volume) (blocks : List (List ℕ)) (u w : SiteValue) (plan : List Append) (error : SiteError) → AddsAll u w plan (Err error) → FindsBlocks {T = ℕ} a blocks (Err error)
finds_stopped a blocks u w plan RackFault adds = tt
finds_stopped a blocks u w plan Spent adds = absurd adds
finds_stopped a blocks u w plan Memory adds = absurd adds
finds_stopped a blocks u w plan Exists adds = absurd adds
finds_stopped a blocks u w plan NoSuchFile adds = absurd adds
finds_stopped a blocks u w plan MigrationOpen adds = absurd adds
finds_stopped a blocks u w plan TargetNotEmpty adds = absurd adds
finds_stopped a blocks u w plan NothingOpen adds = absurd adds
finds_stopped a blocks u w plan NotMoved adds = absurd adds
finds_stopped a blocks u w plan (Collision chunk) adds = absurd adds
finds_stopped a blocks u w plan (Damage device at) adds = absurd adds
finds_stopped a blocks u w plan (BadChunk chunk found) adds = absurd adds
finds_stopped a blocks u w plan (DeviceFull device at len) adds = absurd adds
finds_stopped a blocks u w plan (VolumeFull what) adds = absurd adds

module _ (v u w : SiteValue) (name : List ℕ) (blocks : List (List ℕ)) (ready : ReadiesPut v u name blocks (Ok tt)) where
  same_plan : put_plan (shapes_in u) name blocks ≡ put_plan (shapes_in v) name blocks
  same_plan = ap (λ (t : Shapes). put_plan t name blocks) (same_shapes v u ready.2)

  -- what was judged holds of the site with more room
  pub within_still : IsWithin u.a.shape name blocks
  within_still = subst (λ (x : Shape). IsWithin x name blocks) (sym ready.2.a.shape) ready.0

  pub fit_still : AllFit (logs_in u) (put_plan (shapes_in u) name blocks)
  fit_still = subst (λ (p : List Append). AllFit (logs_in u) p) (sym same_plan) (subst (λ (l : Logs). AllFit l (put_plan (shapes_in v) name blocks)) (sym (same_logs v u ready.2)) ready.1)

  after_put : AddsAll u w (put_plan (shapes_in u) name blocks) (Ok tt) → IsAfter v w (put_plan (shapes_in v) name blocks)
  after_put adds = same_after v u w (put_plan (shapes_in v) name blocks) ready.2 (subst (IsAfter u w) same_plan adds)

  pub more_bytes : AddsAll u w (put_plan (shapes_in u) name blocks) (Ok tt) → held_bytes u.a.shape ≤ held_bytes w.a.shape
  more_bytes adds = grown (shapes_in u) (shapes_in w) (put_records u.a.shape name blocks) (all_adding u.a.shape name (each sha256 blocks) blocks) adds.shapes

  pub puts_done : (added : ℕ) → MayPut v name → AddsAll u w (put_plan (shapes_in u) name blocks) (Ok tt) → held_bytes u.a.shape + added ≡ held_bytes w.a.shape → Puts v w name blocks (Ok added)
  puts_done added may adds is = (may, ready.0, ready.1, after_put adds, ap (λ (x : Shape). held_bytes x + added) (sym ready.2.a.shape) ∙ is)

  pub puts_stopped : (error : SiteError) → MayPut v name → AddsAll u w (put_plan (shapes_in u) name blocks) (Err error) → Puts v w name blocks (Err error)
  puts_stopped RackFault may adds = (may, ready.0, adds)
  puts_stopped Spent may adds = absurd adds
  puts_stopped Memory may adds = absurd adds
  puts_stopped Exists may adds = absurd adds
  puts_stopped NoSuchFile may adds = absurd adds
  puts_stopped MigrationOpen may adds = absurd adds
  puts_stopped TargetNotEmpty may adds = absurd adds
  puts_stopped NothingOpen may adds = absurd adds
  puts_stopped NotMoved may adds = absurd adds
  puts_stopped (Collision chunk) may adds = absurd adds
  puts_stopped (Damage device at) may adds = absurd adds
  puts_stopped (BadChunk chunk found) may adds = absurd adds
  puts_stopped (DeviceFull device at len) may adds = absurd adds
  puts_stopped (VolumeFull what) may adds = absurd adds

module _ {D : Type 0} (disk : D → Disk) (moment : D → ℕ) (left_since : D → ℕ → Images → Type 0) (old mid new : D) (v u w : SiteValue) (name bytes ends : List ℕ) (ready : ReadiesPut v u name (blocks_of bytes ends) (Ok tt))
    (found : FindsQuietly moment left_since old mid (disk old) (disk mid) v (blocks_of bytes ends) (Ok tt)) (s : State) (stands : SiteStands v (disk old) s) (is : IsFoldedSite s) where
  abbrev its_blocks : List (List ℕ)
  its_blocks = blocks_of bytes ends

  -- want of memory behind all that was judged
  pub put_wanting : PutsOn disk moment left_since old mid v u name bytes ends s (Err Memory)
  put_wanting = put_refused disk moment left_since old mid v u name bytes ends Memory s stands is found.quiet (λ refused. ready.2) tt

  module _ (may : MayPut v name) (lawful : IsFileName name) (are : AreEnds 0 (length bytes) ends) (few : length ends ≤ 524279) where
    same_whole : put_plan (shapes_in u) name its_blocks ≡ put_plan (shapes_of s) name its_blocks
    same_whole = same_plan v u w name its_blocks ready ∙ ap (λ (t : Shapes). put_plan t name its_blocks) (shapes_same v s (disk old) stands)

    through : (result : Result (Unit {0}) SiteError) → RunsThrough disk moment left_since mid new u w (put_plan (shapes_in u) name its_blocks) result → RunsThrough disk moment left_since old new v w (put_plan (shapes_of s) name its_blocks) result
    through result runs = subst (λ (p : List Append). RunsThrough disk moment left_since old new v w p result) same_whole
        (through_behind disk moment left_since old mid new v u w found.quiet ready.2 (put_plan (shapes_in u) name its_blocks) result runs)

    blocks_few : length its_blocks ≤ 524279
    blocks_few = omega (arith, few, count_blocks 0 bytes ends)

    chunks : All IsChunk its_blocks
    chunks = blocks_are 0 (length bytes) bytes ends are (omega arith)

    shown : (c : Images) → Led (IsFrontOf (put_plan (shapes_of s) name its_blocks)) s c → LeavesShown s name bytes c
    shown = shown_part s name bytes its_blocks (stands_keeps v (disk old) s stands) chunks (found.finds s stands) (blocks_joined 0 (length bytes) bytes ends are (omega arith))

    pub put_done : (added : ℕ) → AddsAll u w (put_plan (shapes_in u) name its_blocks) (Ok tt) → RunsThrough disk moment left_since mid new u w {T = Unit {0}} (put_plan (shapes_in u) name its_blocks) (Ok tt) → PutsOn disk moment left_since old new v w name bytes ends s (Ok added)
    put_done added adds runs =
        let so_far = through (Ok tt) runs s stands is in
        record {
          runs = runs_done disk moment left_since refuses old new v w s (put_plan (shapes_of s) name its_blocks) added so_far;
          finds = found.finds s stands;
          whole = tt;
          done = shown_done s name bytes its_blocks (stands_keeps v (disk old) s stands) chunks (found.finds s stands) (blocks_joined 0 (length bytes) bytes ends are (omega arith)) (shapes_in w)
              (subst (λ (t : Shapes). shapes_after t (put_plan t name its_blocks) ≡ Some (shapes_in w)) (shapes_same v s (disk old) stands) (after_put v u w name its_blocks ready adds).shapes);
          shows = weaker moment left_since old new (Led (IsFrontOf (put_plan (shapes_of s) name its_blocks)) s) (LeavesShown s name bytes) so_far.passes shown;
        }

    pub put_stopped : (error : SiteError) → AddsAll u w (put_plan (shapes_in u) name its_blocks) (Err error) → RunsThrough disk moment left_since mid new u w {T = Unit {0}} (put_plan (shapes_in u) name its_blocks) (Err error)
        → PutsOn disk moment left_since old new v w name bytes ends s (Err error)
    put_stopped error adds runs =
        let passes = through (Err error) runs s stands is in
        let finds = finds_stopped s.a its_blocks u w (put_plan (shapes_in u) name its_blocks) error adds in
        record {
          runs = runs_failed disk moment left_since refuses old new v w s (put_plan (shapes_of s) name its_blocks) error (no_refusal u w (put_plan (shapes_in u) name its_blocks) error adds)
              (subst (λ (t : Shapes). AreAllowed s (events_of (put_plan t name its_blocks))) (shapes_same v s (disk old) stands) (put_allowed v name its_blocks may lawful blocks_few ready.0 chunks (disk old) s stands)) passes;
          finds = finds;
          whole = whole_any s its_blocks error is finds;
          done = tt;
          shows = weaker moment left_since old new (Led (IsFrontOf (put_plan (shapes_of s) name its_blocks)) s) (LeavesShown s name bytes) passes shown;
        }
