-- Whether a volume is ready for a file, from the parts of the call.
use Rattle.std.proofs.Common.{◌≡◌, ◌≢◌, ◌⊎◌, inl, inr, ℕ, ◌+◌, ◌*◌, ◌≤◌, List, length, Bool, true, false, cond, refl, sym, ap, subst, arith}
use Rattle.std.specs.Prelude.{None, Some, Result, Ok, Err, All, map as each, nat_lt, ◌==◌}
use Rattle.std.specs.Ordering.{is_lt, nat_cmp, ord_max}
use Rattle.std.specs.declared.cmp.Ordering.TheVariants.{Less, Equal, Greater}
use Rattle.std.proofs.lemmas.Bool.{ltb-false, ltb-true}
use Rattle.fault_count.specs.Counts.{HandsOn}
use Rattle.sha2.specs.Sha256.{sha256}
use Rattle.recipe_reader.specs.declared.error.What.{What}
use Rattle.site_forms.specs.VolumeRecords.{IsChunk}
use Rattle.site_forms.specs.Volumes.{Shape, Volume}
use Rattle.volume_index.specs.HoldingValues.{KeepsShape}
use Rattle.chunk_volume.specs.declared.errors.VolError.{VolError}
use Rattle.chunk_volume.specs.declared.errors.VolError.TheVariants as vol
use Rattle.chunk_volume.specs.Adding.{IsSame}
use Rattle.chunk_volume.specs.VolumeValues.{VolumeValue}
use Rattle.seed_mover.specs.declared.errors.SiteError.{SiteError}
use Rattle.seed_mover.specs.declared.errors.SiteError.TheVariants.{RackFault, Spent, Memory, Exists, NoSuchFile, MigrationOpen, TargetNotEmpty, NothingOpen, NotMoved, Collision, Damage, BadChunk, DeviceFull, VolumeFull}
use Rattle.seed_mover.specs.declared.putting.blocks.NewCounts.{NewCounts}
use Rattle.seed_mover.specs.declared.site.Site.TheInside.{Inside}
use Rattle.seed_mover.specs.Blocks.{CountsNew, JudgesCounts}
use Rattle.seed_mover.specs.Errors.{of_volume}
use Rattle.seed_mover.specs.PutParts.{Compares, FindsCompared, HasRoomToPut, JudgesRoom, ReadiesPut, ReadiesVolume, is_fault}
use Rattle.seed_mover.specs.Putting.{AreKept, FindsBlocks, HasBlock, IsPast, IsWithin, LacksFile, new_chunks}
use Rattle.seed_mover.specs.Running.{IsSameSite}
use Rattle.seed_mover.specs.SiteInside.{KeepsSite}
use Rattle.site_runs.specs.SiteValues.{SiteValue}
use Rattle.seed_mover.specs.Plans.{logs_in}
use Rattle.seed_mover.proofs.AppendingA.{with_a}
use Rattle.seed_mover.proofs.PutShapes.{judged_past, judged_within, new_count}
use Rattle.seed_mover.proofs.Same.{keeps_room, same_itself, same_journal}

-- NO FAULT WITHOUT A CALL

pub calm : {T E : Type 0} (fault : E) (before now : ℕ) (r : Result T E) → r ≢ Err fault → now ≡ before → HandsOn fault before now r
calm fault before now r other same = record { later = omega (arith, same); failed = λ is. absurd (other is); kept = λ _. same }

-- the greater of two numbers
pub greater : (a b m : ℕ) → m ≡ ord_max nat_cmp a b → (a ≤ m) × (b ≤ m) × ((m ≡ a) ⊎ (m ≡ b))
greater a b m is =
    elim (nat_lt b a) as (λ t. nat_lt b a ≡ t → m ≡ cond (is_lt (cond t Less (cond (b == a) Equal Greater))) a b → (a ≤ m) × (b ≤ m) × ((m ≡ a) ⊎ (m ≡ b))) [
      | true ↦ λ less one. (omega (arith, one), omega (arith, one, ltb-true b a less), inl one)
      | false ↦ λ more one. other (b == a) (ltb-false b a more) one
    ] refl is
  where
    other : (t : Bool) → a ≤ b → m ≡ cond (is_lt (cond t Equal Greater)) a b → (a ≤ m) × (b ≤ m) × ((m ≡ a) ⊎ (m ≡ b))
    other true least one = (omega (arith, one, least), omega (arith, one), inr one)
    other false least one = (omega (arith, one, least), omega (arith, one), inr one)

-- WHAT THE COUNTS SAY

module _ (v : VolumeValue) (name : List ℕ) (blocks names : List (List ℕ)) (c : NewCounts) (s t : Shape) (lacks : LacksFile v.shape name) (keeps : KeepsShape v.shape) (chunks : All IsChunk blocks) (names_are : names ≡ each sha256 blocks) (s_is : s ≡ v.shape) (t_is : t ≡ v.shape)
    (counts : CountsNew s names c) where
  pub counts_told : CountsNew v.shape (each sha256 blocks) c
  counts_told = subst (λ (x : Shape). CountsNew x (each sha256 blocks) c) s_is (subst (λ (l : List (List ℕ)). CountsNew s l c) names_are counts)

  pub past_told : (what : What) → JudgesCounts t c (Some what) → IsPast v.shape name blocks what
  past_told what judged = judged_past v.shape name blocks c lacks counts_told keeps chunks what (subst (λ (x : Shape). JudgesCounts x c (Some what)) t_is judged)

  pub within_told : JudgesCounts t c None → IsWithin v.shape name blocks
  within_told judged = judged_within v.shape name blocks c lacks counts_told keeps chunks (subst (λ (x : Shape). JudgesCounts x c None) t_is judged)

-- REFUSED

pub told_compared : (v : VolumeValue) (name : List ℕ) (blocks : List (List ℕ)) (error : VolError) → IsWithin v.shape name blocks → Compares v (HasBlock blocks) (Err error) → ReadiesVolume v v name blocks (Err (of_volume error))
told_compared v name blocks vol.RackFault within compares = (within, same_itself v)
told_compared v name blocks (vol.Damage device at) within compares = (within, compares, same_itself v)
told_compared v name blocks (vol.BadChunk chunk found) within compares = (within, compares.0, compares.1, compares.2, same_itself v)
told_compared v name blocks (vol.Collision chunk) within compares = (within, compares, same_itself v)
told_compared v name blocks vol.Memory within compares = same_itself v
told_compared v name blocks vol.Exists within compares = absurd compares
told_compared v name blocks vol.NoSuchFile within compares = absurd compares
told_compared v name blocks (vol.DeviceFull device at len) within compares = absurd compares
told_compared v name blocks vol.Spent within compares = absurd compares

pub found_compared : (v : VolumeValue) (a : Volume) (blocks : List (List ℕ)) (error : VolError) → Compares v (HasBlock blocks) (Err error) → FindsCompared a blocks (Err error) → FindsBlocks {T = Unit {0}} a blocks (Err (of_volume error))
found_compared v a blocks vol.RackFault compares finds = tt
found_compared v a blocks (vol.Damage device at) compares finds = absurd finds
found_compared v a blocks (vol.BadChunk chunk found) compares finds = finds
found_compared v a blocks (vol.Collision chunk) compares finds = finds
found_compared v a blocks vol.Memory compares finds = tt
found_compared v a blocks vol.Exists compares finds = absurd compares
found_compared v a blocks vol.NoSuchFile compares finds = absurd compares
found_compared v a blocks (vol.DeviceFull device at len) compares finds = absurd compares
found_compared v a blocks vol.Spent compares finds = absurd compares

pub told_room : (v : VolumeValue) (name : List ℕ) (blocks : List (List ℕ)) (error : SiteError) → IsWithin v.shape name blocks → JudgesRoom v name blocks (Err error) → ReadiesVolume v v name blocks (Err error)
told_room v name blocks (DeviceFull device at len) within judged = (within, judged, same_itself v)
told_room v name blocks RackFault within judged = absurd judged
told_room v name blocks Spent within judged = absurd judged
told_room v name blocks Memory within judged = absurd judged
told_room v name blocks Exists within judged = absurd judged
told_room v name blocks NoSuchFile within judged = absurd judged
told_room v name blocks MigrationOpen within judged = absurd judged
told_room v name blocks TargetNotEmpty within judged = absurd judged
told_room v name blocks NothingOpen within judged = absurd judged
told_room v name blocks NotMoved within judged = absurd judged
told_room v name blocks (Collision chunk) within judged = absurd judged
told_room v name blocks (Damage device at) within judged = absurd judged
told_room v name blocks (BadChunk chunk found) within judged = absurd judged
told_room v name blocks (VolumeFull what) within judged = absurd judged

pub found_room : (v : VolumeValue) (a : Volume) (name : List ℕ) (blocks : List (List ℕ)) (error : SiteError) → JudgesRoom v name blocks (Err error) → AreKept a blocks → FindsBlocks {T = Unit {0}} a blocks (Err error)
found_room v a name blocks (DeviceFull device at len) judged kept = kept
found_room v a name blocks RackFault judged kept = tt
found_room v a name blocks Spent judged kept = tt
found_room v a name blocks Memory judged kept = tt
found_room v a name blocks Exists judged kept = tt
found_room v a name blocks NoSuchFile judged kept = tt
found_room v a name blocks MigrationOpen judged kept = tt
found_room v a name blocks TargetNotEmpty judged kept = tt
found_room v a name blocks NothingOpen judged kept = tt
found_room v a name blocks NotMoved judged kept = tt
found_room v a name blocks (Collision chunk) judged kept = absurd judged
found_room v a name blocks (Damage device at) judged kept = absurd judged
found_room v a name blocks (BadChunk chunk found) judged kept = absurd judged
found_room v a name blocks (VolumeFull what) judged kept = tt

pub room_no_fault : (v : VolumeValue) (name : List ℕ) (blocks : List (List ℕ)) (error : SiteError) → JudgesRoom v name blocks (Err error) → error ≢ RackFault
room_no_fault v name blocks error judged is = subst (λ (e : SiteError). JudgesRoom v name blocks (Err e)) is judged

-- READY

pub room_made : (v w : VolumeValue) (name : List ℕ) (blocks : List (List ℕ)) (c : NewCounts) (longest body : ℕ) → CountsNew v.shape (each sha256 blocks) c → IsSame v w → c.lacking ≤ w.room.chunks → 1 ≤ w.room.files → body ≤ w.room.body
    → All (λ block. 33 + length block ≤ longest) blocks → longest ≤ body → 2 + length name + 32 * length blocks ≤ body → HasRoomToPut w name blocks
room_made v w name blocks c longest body counts same chunks files bodies all longer own = record {
  chunks = record {
    chunks = omega (arith, chunks, counts.lacking, new_count v.shape blocks, ap (λ (s : Shape). length (new_chunks s blocks)) same.shape);
    bodies = λ k d inside. omega (arith, all k d inside, longer, bodies);
  };
  files = files;
  body = omega (arith, own, bodies);
}

-- THE SITE OF IT

same_but : (v : SiteValue) (a : VolumeValue) → v.spent ≡ false → IsSame v.a a → IsSameSite v (with_a v a false)
same_but v a fresh same = record { a = same; b = same_itself v.b; journal = same_journal v.journal; spent = sym fresh }

pub readies_site : (v : SiteValue) (a : VolumeValue) (name : List ℕ) (blocks : List (List ℕ)) (done : Result (Unit {0}) SiteError) → v.spent ≡ false → ReadiesVolume v.a a name blocks done → ReadiesPut v (with_a v a (is_fault done)) name blocks done
readies_site v a name blocks (Ok done) fresh readies = (readies.0, readies.1 (logs_in v) refl, same_but v a fresh readies.2, readies.3)
readies_site v a name blocks (Err Memory) fresh readies = same_but v a fresh readies
readies_site v a name blocks (Err RackFault) fresh readies = (readies.0, refl)
readies_site v a name blocks (Err (Collision chunk)) fresh readies = (readies.0, readies.1, same_but v a fresh readies.2)
readies_site v a name blocks (Err (Damage device at)) fresh readies = (readies.0, readies.1, same_but v a fresh readies.2)
readies_site v a name blocks (Err (BadChunk chunk found)) fresh readies = (readies.0, readies.1, readies.2, readies.3, same_but v a fresh readies.4)
readies_site v a name blocks (Err (DeviceFull device at len)) fresh readies = (readies.0, readies.1 (logs_in v) refl, same_but v a fresh readies.2)
readies_site v a name blocks (Err (VolumeFull what)) fresh readies = (readies.0, same_but v a fresh readies.1)
readies_site v a name blocks (Err Spent) fresh readies = readies
readies_site v a name blocks (Err Exists) fresh readies = readies
readies_site v a name blocks (Err NoSuchFile) fresh readies = readies
readies_site v a name blocks (Err MigrationOpen) fresh readies = readies
readies_site v a name blocks (Err TargetNotEmpty) fresh readies = readies
readies_site v a name blocks (Err NothingOpen) fresh readies = readies
readies_site v a name blocks (Err NotMoved) fresh readies = readies

-- its volume is the same but for room, in every case
pub readies_same : (v w : VolumeValue) (name : List ℕ) (blocks : List (List ℕ)) (done : Result (Unit {0}) SiteError) → ReadiesVolume v w name blocks done → IsSame v w
readies_same v w name blocks (Ok done) readies = readies.2
readies_same v w name blocks (Err Memory) readies = readies
readies_same v w name blocks (Err RackFault) readies = readies.1
readies_same v w name blocks (Err (Collision chunk)) readies = readies.2
readies_same v w name blocks (Err (Damage device at)) readies = readies.2
readies_same v w name blocks (Err (BadChunk chunk found)) readies = readies.4
readies_same v w name blocks (Err (DeviceFull device at len)) readies = readies.2
readies_same v w name blocks (Err (VolumeFull what)) readies = readies.1
readies_same v w name blocks (Err Spent) readies = absurd readies
readies_same v w name blocks (Err Exists) readies = absurd readies
readies_same v w name blocks (Err NoSuchFile) readies = absurd readies
readies_same v w name blocks (Err MigrationOpen) readies = absurd readies
readies_same v w name blocks (Err TargetNotEmpty) readies = absurd readies
readies_same v w name blocks (Err NothingOpen) readies = absurd readies
readies_same v w name blocks (Err NotMoved) readies = absurd readies

-- so that it stays a site
pub inside_ready : (s : Inside) (a : VolumeValue) (spent : Bool) → s.spent ≡ false → IsSame s.a a → KeepsSite s → KeepsSite (record s { a = a; spent = spent })
inside_ready s a spent fresh same keeps =
    let now = keeps_room s a s.b s.journal same (same_itself s.b) (same_journal s.journal) keeps in
    let fresh_now = now.fresh fresh in
    record { kept = now.kept; cursor = now.cursor; fresh = λ _. record { a = fresh_now.a; b = fresh_now.b; journal = fresh_now.journal } }
