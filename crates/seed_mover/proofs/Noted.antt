-- Records added to volumes and journals, as what the site makes of it.
use Rattle.std.proofs.Common.{◌≡◌, ◌≢◌, ℕ, List, length, Bool, true, false, Some, None, refl, sym, ◌∙◌, ap, subst, arith}
use Rattle.std.specs.Prelude.{Result, Ok, Err, IsErrAnd, IsOk, OnOk, IsSome, if◌then◌else◌}
use Rattle.std.specs.FinMap as map
use Rattle.std.proofs.lemmas.Bool.{true≢false}
use Rattle.fault_count.specs.Counts.{HandsOn}
use Rattle.volume_disk.specs.Disk.{Disk, Images}
use Rattle.site_forms.specs.Sites.{HoldsChunk}
use Rattle.site_forms.specs.VolumeRecords.{VolumeRecord}
use Rattle.site_forms.specs.VolumeRecords.VolumeRecord.{ChunkRecord, FileRecord}
use Rattle.site_forms.specs.Volumes.{Shape, may_add_file, shape_after, with_chunk, with_file}
use Rattle.file_names.specs.FileNames.{IsFileName}
use Rattle.volume_index.proofs.Shapes.{may_add}
use Rattle.chunk_volume.specs.declared.errors.VolError.{VolError}
use Rattle.chunk_volume.specs.declared.errors.VolError.TheVariants as vol
use Rattle.chunk_volume.specs.Adding.{Adds, AddsRecord, IsRefused as IsRefusedVolume, PutsChunk, PutsChunkOn, StandsAfter}
use Rattle.chunk_volume.specs.VolumeValues.{VolumeValue}
use Rattle.move_journal.specs.Marking.{IsRefused as IsRefusedJournal}
use Rattle.site_runs.proofs.Adding.{puts_lacking}
use Rattle.move_journal.specs.declared.errors.JournalError.{JournalError}
use Rattle.move_journal.specs.declared.errors.JournalError.TheVariants as journal
use Rattle.seed_mover.specs.declared.errors.SiteError.{SiteError}
use Rattle.seed_mover.specs.declared.errors.SiteError.TheVariants.{RackFault, Memory}
use Rattle.seed_mover.specs.Entries.{NotesJournal, NotesVolume, without_value}
use Rattle.seed_mover.specs.Errors.{of_volume, of_journal, refuses}

-- A CHUNK THAT IS LACKING

adds_same : (v w : VolumeValue) (r : VolumeRecord) (result : Result Bool VolError) → Adds v w r result → Adds v w r (without_value result)
adds_same v w r (Ok added) adds = adds
adds_same v w r (Err vol.RackFault) adds = adds
adds_same v w r (Err (vol.Damage device at)) adds = adds
adds_same v w r (Err (vol.BadChunk name found)) adds = adds
adds_same v w r (Err (vol.Collision name)) adds = adds
adds_same v w r (Err vol.Exists) adds = adds
adds_same v w r (Err vol.NoSuchFile) adds = adds
adds_same v w r (Err (vol.DeviceFull device at len)) adds = adds
adds_same v w r (Err vol.Spent) adds = adds
adds_same v w r (Err vol.Memory) adds = adds

pub chunk_added : (v w : VolumeValue) (name bytes : List ℕ) (result : Result Bool VolError) → v.log.spent ≡ false → ¬ HoldsChunk v.shape name → PutsChunk v w name bytes result → Adds v w (ChunkRecord name bytes) (without_value result)
chunk_added v w name bytes result fresh lacking puts = adds_same v w (ChunkRecord name bytes) result (puts.lacking fresh lacking).0

same_ok : (P : Type 0) (result : Result Bool VolError) → OnOk result P → OnOk (without_value result) P
same_ok P (Ok added) holds = holds
same_ok P (Err error) holds = tt

same_refused : (result : Result Bool VolError) → IsRefusedVolume (without_value result) → IsRefusedVolume result
same_refused (Ok added) refused = absurd refused
same_refused (Err vol.RackFault) refused = absurd refused
same_refused (Err (vol.Damage device at)) refused = tt
same_refused (Err (vol.BadChunk name found)) refused = tt
same_refused (Err (vol.Collision name)) refused = tt
same_refused (Err vol.Exists) refused = tt
same_refused (Err vol.NoSuchFile) refused = tt
same_refused (Err (vol.DeviceFull device at len)) refused = tt
same_refused (Err vol.Spent) refused = tt
same_refused (Err vol.Memory) refused = tt

pub chunk_added_on : {D : Type 0} (moment : D → ℕ) (left_since : D → ℕ → Images → Type 0) (old new : D) (d e : Disk) (v w : VolumeValue) (name bytes : List ℕ) (result : Result Bool VolError) → ¬ HoldsChunk v.shape name
    → PutsChunkOn moment left_since old new d e v w name bytes result → AddsRecord moment left_since old new d e v w (ChunkRecord name bytes) (without_value result)
chunk_added_on moment left_since old new d e v w name bytes result lacking puts =
    let call = puts_lacking moment left_since old new d e v w name bytes result lacking puts in
    record {
      others = call.others;
      added = λ place volume stands. same_ok (StandsAfter place w e volume (ChunkRecord name bytes)) result (call.added place volume stands);
      kept = λ place volume stands refused. call.kept place volume stands (same_refused result refused);
      alone = λ refused. call.alone (same_refused result refused);
      moments = call.moments;
    }

-- WHAT A RECORD THAT FOLDS TELLS

lacks : (held : Bool) (next : Shape) → IsSome (if held then None else Some next) → held ≡ true → ⊥
lacks true next folds is = true≢false (sym folds)
lacks false next folds is = true≢false (sym is)

pub chunk_lacking : (shape : Shape) (name bytes : List ℕ) → IsSome (shape_after shape (ChunkRecord name bytes)) → ¬ HoldsChunk shape name
chunk_lacking shape name bytes folds held = lacks (map.contains_key shape.chunks name) (with_chunk shape name (length bytes)) folds held

may_fold : (may : Bool) (next : Shape) → IsSome (if may then Some next else None) → may ≡ true
may_fold true next folds = refl
may_fold false next folds = absurd (true≢false (sym folds))

pub file_lawful : (shape : Shape) (name : List ℕ) (list : List (List ℕ)) → IsSome (shape_after shape (FileRecord name list)) → IsFileName name
file_lawful shape name list folds = (may_add shape name list (may_fold (may_add_file (λ n. n) 0 shape name list) (with_file shape name list) folds)).lawful

-- ANSWERS

-- what the site answers is Ok exactly where the volume, or the journal, answered that, and a refusal where theirs is one
told_refused : (error : VolError) → refuses (of_volume error) → IsRefusedVolume {T = Unit {0}} (Err error)
told_refused vol.RackFault refused = absurd refused
told_refused (vol.Damage device at) refused = tt
told_refused (vol.BadChunk name found) refused = tt
told_refused (vol.Collision name) refused = tt
told_refused vol.Exists refused = tt
told_refused vol.NoSuchFile refused = tt
told_refused (vol.DeviceFull device at len) refused = tt
told_refused vol.Spent refused = tt
told_refused vol.Memory refused = tt

told_refused_journal : (error : JournalError) → refuses (of_journal error) → IsRefusedJournal {T = Unit {0}} (Err error)
told_refused_journal journal.RackFault refused = absurd refused
told_refused_journal (journal.Damage device at) refused = tt
told_refused_journal (journal.DeviceFull device at len) refused = tt
told_refused_journal journal.Spent refused = tt
told_refused_journal journal.Memory refused = tt

no_ok : {T E : Type 0} (x : E) (result : Result T E) → result ≡ Err x → IsOk result → ⊥
no_ok x (Ok value) is ok = cc
no_ok x (Err error) is ok = cc

pub volume_ok : (spent : Bool) (done : Result (Unit {0}) VolError) (result : Result (Unit {0}) SiteError) → NotesVolume spent done result → IsOk result → IsOk done
volume_ok spent (Ok done) result notes ok = refl
volume_ok spent (Err error) result notes ok = absurd (no_ok (of_volume error) result notes.0 ok)

pub volume_refused : (spent : Bool) (done : Result (Unit {0}) VolError) (result : Result (Unit {0}) SiteError) → NotesVolume spent done result → IsErrAnd result refuses → IsRefusedVolume done
volume_refused spent (Ok done) result notes refused = absurd (subst (λ (x : Result (Unit {0}) SiteError). IsErrAnd x refuses) notes.0 refused)
volume_refused spent (Err error) result notes refused = told_refused error (subst (λ (x : Result (Unit {0}) SiteError). IsErrAnd x refuses) notes.0 refused)

pub journal_ok : (spent : Bool) (done : Result (Unit {0}) JournalError) (result : Result (Unit {0}) SiteError) → NotesJournal spent done result → IsOk result → IsOk done
journal_ok spent (Ok done) result notes ok = refl
journal_ok spent (Err error) result notes ok = absurd (no_ok (of_journal error) result notes.0 ok)

pub journal_refused : (spent : Bool) (done : Result (Unit {0}) JournalError) (result : Result (Unit {0}) SiteError) → NotesJournal spent done result → IsErrAnd result refuses → IsRefusedJournal done
journal_refused spent (Ok done) result notes refused = absurd (subst (λ (x : Result (Unit {0}) SiteError). IsErrAnd x refuses) notes.0 refused)
journal_refused spent (Err error) result notes refused = told_refused_journal error (subst (λ (x : Result (Unit {0}) SiteError). IsErrAnd x refuses) notes.0 refused)

-- CAUSES

pub cause_ok : {E T S : Type 0} (value : T) (told : S) (fault : E) (before now : ℕ) → HandsOn {T = T} fault before now (Ok value) → HandsOn {T = S} RackFault before now (Ok told)
cause_ok value told fault before now hands = record { later = hands.later; failed = λ is. cc; kept = λ _. hands.kept (λ is. cc) }

cause_fault : {E T S : Type 0} (fault : E) (before now : ℕ) → HandsOn {T = T} fault before now (Err fault) → HandsOn {T = S} RackFault before now (Err RackFault)
cause_fault fault before now hands = record { later = hands.later; failed = λ is. hands.failed refl; kept = λ no. absurd (no refl) }

cause_other : {E T S : Type 0} (fault error : E) (told : SiteError) (before now : ℕ) → error ≢ fault → told ≢ RackFault → HandsOn {T = T} fault before now (Err error) → HandsOn {T = S} RackFault before now (Err told)
cause_other fault error told before now no_fault no_told hands = record {
  later = hands.later;
  failed = λ is. absurd (no_told (err_same is));
  kept = λ _. hands.kept (λ is. no_fault (err_same is));
}
  where
    err_same : {T F : Type 0} {x y : F} → ◌≡◌ {A = Result T F} (Err x) (Err y) → x ≡ y
    err_same is = cc

pub volume_told : {T S : Type 0} (before now : ℕ) (error : VolError) → HandsOn {T = T} vol.RackFault before now (Err error) → HandsOn {T = S} RackFault before now (Err (of_volume error))
volume_told before now vol.RackFault hands = cause_fault vol.RackFault before now hands
volume_told before now (vol.Damage device at) hands = cause_other vol.RackFault (vol.Damage device at) (of_volume (vol.Damage device at)) before now (λ is. cc) (λ is. cc) hands
volume_told before now (vol.BadChunk name found) hands = cause_other vol.RackFault (vol.BadChunk name found) (of_volume (vol.BadChunk name found)) before now (λ is. cc) (λ is. cc) hands
volume_told before now (vol.Collision name) hands = cause_other vol.RackFault (vol.Collision name) (of_volume (vol.Collision name)) before now (λ is. cc) (λ is. cc) hands
volume_told before now vol.Exists hands = cause_other vol.RackFault vol.Exists (of_volume vol.Exists) before now (λ is. cc) (λ is. cc) hands
volume_told before now vol.NoSuchFile hands = cause_other vol.RackFault vol.NoSuchFile (of_volume vol.NoSuchFile) before now (λ is. cc) (λ is. cc) hands
volume_told before now (vol.DeviceFull device at len) hands = cause_other vol.RackFault (vol.DeviceFull device at len) (of_volume (vol.DeviceFull device at len)) before now (λ is. cc) (λ is. cc) hands
volume_told before now vol.Spent hands = cause_other vol.RackFault vol.Spent (of_volume vol.Spent) before now (λ is. cc) (λ is. cc) hands
volume_told before now vol.Memory hands = cause_other vol.RackFault vol.Memory (of_volume vol.Memory) before now (λ is. cc) (λ is. cc) hands

pub volume_cause : (before now : ℕ) (spent : Bool) (done : Result (Unit {0}) VolError) (result : Result (Unit {0}) SiteError) → HandsOn vol.RackFault before now done → NotesVolume spent done result → HandsOn RackFault before now result
volume_cause before now spent (Ok done) result hands notes = subst (λ (x : Result (Unit {0}) SiteError). HandsOn RackFault before now x) (sym notes.0) (cause_ok tt tt vol.RackFault before now hands)
volume_cause before now spent (Err error) result hands notes = subst (λ (x : Result (Unit {0}) SiteError). HandsOn RackFault before now x) (sym notes.0) (volume_told before now error hands)

pub journal_told : {T S : Type 0} (before now : ℕ) (error : JournalError) → HandsOn {T = T} journal.RackFault before now (Err error) → HandsOn {T = S} RackFault before now (Err (of_journal error))
journal_told before now journal.RackFault hands = cause_fault journal.RackFault before now hands
journal_told before now (journal.Damage device at) hands = cause_other journal.RackFault (journal.Damage device at) (of_journal (journal.Damage device at)) before now (λ is. cc) (λ is. cc) hands
journal_told before now (journal.DeviceFull device at len) hands = cause_other journal.RackFault (journal.DeviceFull device at len) (of_journal (journal.DeviceFull device at len)) before now (λ is. cc) (λ is. cc) hands
journal_told before now journal.Spent hands = cause_other journal.RackFault journal.Spent (of_journal journal.Spent) before now (λ is. cc) (λ is. cc) hands
journal_told before now journal.Memory hands = cause_other journal.RackFault journal.Memory (of_journal journal.Memory) before now (λ is. cc) (λ is. cc) hands

pub journal_cause : (before now : ℕ) (spent : Bool) (done : Result (Unit {0}) JournalError) (result : Result (Unit {0}) SiteError) → HandsOn journal.RackFault before now done → NotesJournal spent done result → HandsOn RackFault before now result
journal_cause before now spent (Ok done) result hands notes = subst (λ (x : Result (Unit {0}) SiteError). HandsOn RackFault before now x) (sym notes.0) (cause_ok tt tt journal.RackFault before now hands)
journal_cause before now spent (Err error) result hands notes = subst (λ (x : Result (Unit {0}) SiteError). HandsOn RackFault before now x) (sym notes.0) (journal_told before now error hands)

-- a call behind one that went well
pub cause_then : {T E S : Type 0} (fault : E) (before mid now : ℕ) (value : S) (result : Result T E) → HandsOn fault before mid (Ok value) → HandsOn fault mid now result → HandsOn fault before now result
cause_then fault before mid now value result first second = subst (λ (n : ℕ). HandsOn fault n now result) (first.kept (λ is. cc)) second

-- the same error for another value
pub cause_same : {T S : Type 0} (before now : ℕ) (error : SiteError) → HandsOn {T = T} RackFault before now (Err error) → HandsOn {T = S} RackFault before now (Err error)
cause_same before now error hands = record { later = hands.later; failed = λ is. hands.failed (again is); kept = λ other. hands.kept (λ is. other (again is)) }
  where
    again : {X Y F : Type 0} {x y : F} → ◌≡◌ {A = Result X F} (Err x) (Err y) → ◌≡◌ {A = Result Y F} (Err x) (Err y)
    again {Y = Y} {F = F} {x = x} {y = y} is = let same : x ≡ y = cc in ap (λ (e : F). Err e) same

-- no call, and no fault
pub cause_none : {T : Type 0} (count : ℕ) (error : SiteError) → (error ≡ RackFault → ⊥) → HandsOn {T = T} RackFault count count (Err error)
cause_none count error other = record { later = omega arith; failed = λ is. absurd (other (told_same is)); kept = λ _. refl }
  where
    told_same : {S F : Type 0} {x y : F} → ◌≡◌ {A = Result S F} (Err x) (Err y) → x ≡ y
    told_same is = cc

-- no want of memory is noted where none was answered
memory_of : (error : JournalError) → of_journal error ≡ Memory → error ≡ journal.Memory
memory_of journal.RackFault is = let no : ⊥ = cc in absurd no
memory_of (journal.Damage device at) is = let no : ⊥ = cc in absurd no
memory_of (journal.DeviceFull device at len) is = let no : ⊥ = cc in absurd no
memory_of journal.Spent is = let no : ⊥ = cc in absurd no
memory_of journal.Memory is = refl

err_inside : {T E : Type 0} (x y : E) → ◌≡◌ {A = Result T E} (Err x) (Err y) → x ≡ y
err_inside x y is = cc

ok_no_err : {T E : Type 0} (x : T) (y : E) → ◌≡◌ {A = Result T E} (Ok x) (Err y) → ⊥
ok_no_err x y is = cc

pub no_memory : (spent : Bool) (done : Result (Unit {0}) JournalError) (result : Result (Unit {0}) SiteError) → done ≢ Err journal.Memory → NotesJournal spent done result → result ≢ Err Memory
no_memory spent (Ok done) result other notes is = ok_no_err tt Memory (sym notes.0 ∙ is)
no_memory spent (Err error) result other notes is = other (ap (λ (e : JournalError). Err e) (memory_of error (err_inside (of_journal error) Memory (sym notes.0 ∙ is))))
