-- Records added to a site that stands, by the calls of its volumes and its journal.
use Rattle.std.proofs.Common.{◌≡◌, ◌⊎◌, inl, inr, ⊎_elim, ℕ, List, Bool, Some, refl, sym, ◌∙◌, ap, subst, arith}
use Rattle.std.specs.Prelude.{Result, Ok, Err, OnOk, IsOk, IsErrAnd}
use Rattle.std.specs.FinMap as map
use Rattle.std.proofs.lemmas.Bool.{true≢false, cases_eq}
use Rattle.volume_disk.specs.Disk.{Disk, Images, Crash, SameElsewhere}
use Rattle.volume_disk.specs.Medium.{IsAtRest, at_rest}
use Rattle.volume_disk.specs.Time.{Passes}
use Rattle.volume_disk.proofs.Moments.{weaker}
use Rattle.site_forms.specs.declared.phase.Phase.{Phase}
use Rattle.site_forms.specs.Halves.{OneMoreAt}
use Rattle.site_forms.specs.JournalRecords.{JournalRecord, journal_body}
use Rattle.site_forms.specs.Phases.{phase_after}
use Rattle.site_forms.specs.Sites.{HoldsChunk, state_of}
use Rattle.site_forms.specs.Views.{State}
use Rattle.site_forms.specs.VolumeRecords.{VolumeRecord, IsVolumeRecord, volume_body}
use Rattle.site_forms.specs.VolumeRecords.VolumeRecord.{ChunkRecord}
use Rattle.site_forms.specs.Volumes.{Shape, Volume, volume_after}
use Rattle.chunk_log.specs.LogValues.{LogValue}
use Rattle.chunk_log.specs.Standing.{LogStands}
use Rattle.chunk_log.proofs.Standing.{rest_here}
use Rattle.chunk_volume.specs.Adding.{Adds, AddsRecord, IsRefused, PutsChunkOn, StandsAfter}
use Rattle.chunk_volume.specs.declared.errors.VolError.{VolError}
use Rattle.chunk_volume.specs.Standing.{VolumeStands}
use Rattle.chunk_volume.specs.VolumeValues.{VolumeValue}
use Rattle.chunk_volume.proofs.Standing.{volume_beside, volume_settled}
use Rattle.move_journal.specs.Marking as marking
use Rattle.move_journal.specs.declared.errors.JournalError.{JournalError}
use Rattle.move_journal.specs.declared.errors.JournalError.TheVariants.{RackFault, Damage, DeviceFull, Spent, Memory}
use Rattle.move_journal.specs.JournalValues.{JournalValue}
use Rattle.move_journal.specs.Standing.{JournalStands}
use Rattle.move_journal.proofs.Standing.{journal_beside}
use Rattle.site_core.specs.Events.Append.{ToA, ToB, ToJournal}
use Rattle.site_core.proofs.Shapes.{same_held}
use Rattle.site_core.proofs.Turning.{mapped}
use Rattle.site_runs.specs.Runs.{AddsTo}
use Rattle.site_runs.specs.SiteValues.{AllAtRest, SiteStands, SiteValue}
use Rattle.site_runs.proofs.Settled.{phase_elsewhere, phase_more, phase_settled, state_from, volume_elsewhere, volume_more}

-- AN ANSWER HANDED ON

-- what is so where a call did all is so where its answer is handed on as done
pub handed_on : {S T E F : Type 0} (inner : Result S E) (outer : Result T F) (P Q : Type 0) → (IsOk outer → IsOk inner) → OnOk inner P → (P → Q) → OnOk outer Q
handed_on (Ok x) (Ok y) P Q ok fact made = made fact
handed_on (Err x) (Ok y) P Q ok fact made = absurd (true≢false (sym (ok refl)))
handed_on inner (Err y) P Q ok fact made = tt

-- of two calls' answers, what is so of both
pub handed_both : {S T E F : Type 0} (inner : Result S E) (outer : Result T F) (P R Q : Type 0) → (IsOk outer → IsOk inner) → OnOk inner P → OnOk inner R → (P → R → Q) → OnOk outer Q
handed_both (Ok x) (Ok y) P R Q ok fact more made = made fact more
handed_both (Err x) (Ok y) P R Q ok fact more made = absurd (true≢false (sym (ok refl)))
handed_both inner (Err y) P R Q ok fact more made = tt

some_same : {X : Type 0} (x y : X) → Some x ≡ Some y → x ≡ y
some_same x y is = cc

-- WHAT CALLS SAY OF THEIR VALUES, over every rack

-- a volume with a record more has the log of the same device
added_device : {T : Type 0} (v w : VolumeValue) (r : VolumeRecord) (result : Result T VolError) → Adds v w r result → OnOk result (w.log.device ≡ v.log.device)
added_device v w r (Ok done) adds = ap (λ (log : LogValue). log.device) adds.1.log
added_device v w r (Err error) adds = tt

-- and so has a journal, whose phase is then the next one
abbrev Marked : JournalValue → JournalValue → JournalRecord → Type 0
Marked v w r = (phase_after v.phase r ≡ Some w.phase) × (w.log.device ≡ v.log.device)

marked : {T : Type 0} (v w : JournalValue) (r : JournalRecord) (result : Result T JournalError) → marking.Marks v w r result → OnOk result (Marked v w r)
marked v w r (Ok done) marks = (marks.2.phase, ap (λ (log : LogValue). log.device) marks.2.log)
marked v w r (Err error) marks = tt

-- a refusal leaves the phase
same_phase : {T : Type 0} (v w : JournalValue) (r : JournalRecord) (result : Result T JournalError) → marking.Marks v w r result → marking.IsRefused result → w.phase ≡ v.phase
same_phase v w r (Ok done) marks refused = absurd refused
same_phase v w r (Err RackFault) marks refused = absurd refused
same_phase v w r (Err (Damage device at)) marks refused = absurd marks
same_phase v w r (Err (DeviceFull device at len)) marks refused = marks.5.phase
same_phase v w r (Err Spent) marks refused = ap (λ (x : JournalValue). x.phase) marks.1
same_phase v w r (Err Memory) marks refused = marks.2.phase

-- NOTHING PENDING

-- nothing is pending on the device of a log that stands
log_rest : (place : ℕ) (records : List (List ℕ)) (log : LogValue) (d : Disk) → LogStands place records log d → IsAtRest (d log.device)
log_rest place records log d stands =
    let is = rest_here stands.half place log.device log.end records d stands.here stands.stands in
    is ∙ ap (λ (m : _). at_rest m.image) (sym is)

-- where one device is at rest and the others are as they were
all_rest : (device : ℕ) (d e : Disk) → SameElsewhere device d e → IsAtRest (e device) → AllAtRest d → AllAtRest e
all_rest device d e same here rest other is_device = ⊎_elim
    (λ is. subst (λ (n : ℕ). IsAtRest (e n)) (sym is) here)
    (λ apart. subst IsAtRest (sym (same other apart)) (rest other is_device))
    (cases_eq other device)

module _ {D E : Type 0} (refuses : E → Type 0) (disk : D → Disk) (moment : D → ℕ) (left_since : D → ℕ → Images → Type 0) (old new : D) (t u : SiteValue) where
  -- A RECORD OF A

  module _ {S T : Type 0} (r : VolumeRecord) (inner : Result S VolError) (outer : Result T E) (ok : IsOk outer → IsOk inner) (refused : IsErrAnd outer refuses → IsRefused inner) (alone : IsRefused inner → new ≡ old) (lawful : IsVolumeRecord r) where
    module _ (call : AddsRecord moment left_since old new (disk old) (disk new) t.a u.a r inner) (same_b : u.b ≡ t.b) (same_journal : u.journal ≡ t.journal) where
      beside_a : (s : State) (a : Volume) → SiteStands t (disk old) s → VolumeStands 0 u.a (disk new) a → SiteStands u (disk new) (record s { a = a })
      beside_a s a stands now = record {
        a = now;
        b = subst (λ (v : VolumeValue). VolumeStands 1 v (disk new) s.b) (sym same_b)
            (volume_beside 0 1 t.a.log stands.a.records t.b s.b (disk old) (disk new) (λ (e : 1 ≡ 0). omega (arith, e)) stands.a.log stands.b call.others);
        journal = subst (λ (v : JournalValue). JournalStands v (disk new)) (sym same_journal)
            (journal_beside 0 t.a.log stands.a.records t.journal (disk old) (disk new) (λ (e : 2 ≡ 0). omega (arith, e)) stands.a.log stands.journal call.others);
        phase = ap (λ (v : JournalValue). v.phase) same_journal ∙ stands.phase;
      }

      added_a : (s next : State) → SiteStands t (disk old) s → (a : Volume) → volume_after s.a r ≡ Some a → record s { a = a } ≡ next → OnOk outer (SiteStands u (disk new) next)
      added_a s next stands a after is = handed_on inner outer (StandsAfter 0 u.a (disk new) s.a r) (SiteStands u (disk new) next) ok (call.added 0 s.a stands.a)
          (λ now. subst (SiteStands u (disk new)) is (beside_a s a stands (subst (VolumeStands 0 u.a (disk new)) (some_same now.0 a (sym now.1 ∙ after)) now.2)))

      moments_a : (s next : State) → SiteStands t (disk old) s → (a : Volume) → volume_after s.a r ≡ Some a → record s { a = a } ≡ next → Passes moment left_since old new (λ c. (state_of c ≡ Some s) ⊎ (state_of c ≡ Some next))
      moments_a s next stands a after is =
          weaker moment left_since old new (λ c. (b : Images) × Crash (disk old) b × OneMoreAt 0 (volume_body r) b c) (λ c. (state_of c ≡ Some s) ⊎ (state_of c ≡ Some next)) (call.moments 0 s.a stands.a)
          (λ c was.
          let in_b = volume_elsewhere 0 1 (volume_body r) was.0 c s.b (omega arith) (λ (e : 1 ≡ 0). omega (arith, e)) was.2 (volume_settled 1 t.b s.b (disk old) was.0 stands.b was.1) in
          let phase = phase_elsewhere 0 (volume_body r) was.0 c s.phase (λ (e : 2 ≡ 0). omega (arith, e)) was.2 (phase_settled t s (disk old) was.0 stands was.1) in
          ⊎_elim
          (λ same. inl (state_from c s.a s.b s.phase same in_b phase))
          (λ one. inr (state_from c a s.b s.phase one in_b phase ∙ ap (λ (x : State). Some x) is))
          (volume_more 0 r s.a a was.0 c lawful after (volume_settled 0 t.a s.a (disk old) was.0 stands.a was.1) was.2))

      pub adds_to_a : Adds t.a u.a r inner → AddsTo disk moment left_since refuses old new t u (ToA r) outer
      adds_to_a adds = record {
        added = λ s next stands folds.
            let its = mapped (λ (v : Volume). record s { a = v }) (volume_after s.a r) next folds in
            added_a s next stands its.0 its.1 its.2;
        kept = λ s stands is. beside_a s s.a stands (call.kept 0 s.a stands.a (refused is));
        alone = λ is. alone (refused is);
        rest = λ s next stands folds rest. handed_both inner outer (StandsAfter 0 u.a (disk new) s.a r) (u.a.log.device ≡ t.a.log.device) (AllAtRest (disk new)) ok (call.added 0 s.a stands.a) (added_device t.a u.a r inner adds)
            (λ now same. all_rest t.a.log.device (disk old) (disk new) call.others
            (subst (λ (n : ℕ). IsAtRest (disk new n)) same (log_rest 0 now.2.records u.a.log (disk new) now.2.log)) rest);
        moments = λ s next stands folds.
            let its = mapped (λ (v : Volume). record s { a = v }) (volume_after s.a r) next folds in
            moments_a s next stands its.0 its.1 its.2;
      }

    -- A RECORD OF B

    module _ (call : AddsRecord moment left_since old new (disk old) (disk new) t.b u.b r inner) (same_a : u.a ≡ t.a) (same_journal : u.journal ≡ t.journal) where
      beside_b : (s : State) (b : Volume) → SiteStands t (disk old) s → VolumeStands 1 u.b (disk new) b → SiteStands u (disk new) (record s { b = b })
      beside_b s b stands now = record {
        a = subst (λ (v : VolumeValue). VolumeStands 0 v (disk new) s.a) (sym same_a)
            (volume_beside 1 0 t.b.log stands.b.records t.a s.a (disk old) (disk new) (λ (e : 0 ≡ 1). omega (arith, e)) stands.b.log stands.a call.others);
        b = now;
        journal = subst (λ (v : JournalValue). JournalStands v (disk new)) (sym same_journal)
            (journal_beside 1 t.b.log stands.b.records t.journal (disk old) (disk new) (λ (e : 2 ≡ 1). omega (arith, e)) stands.b.log stands.journal call.others);
        phase = ap (λ (v : JournalValue). v.phase) same_journal ∙ stands.phase;
      }

      added_b : (s next : State) → SiteStands t (disk old) s → (b : Volume) → volume_after s.b r ≡ Some b → record s { b = b } ≡ next → OnOk outer (SiteStands u (disk new) next)
      added_b s next stands b after is = handed_on inner outer (StandsAfter 1 u.b (disk new) s.b r) (SiteStands u (disk new) next) ok (call.added 1 s.b stands.b)
          (λ now. subst (SiteStands u (disk new)) is (beside_b s b stands (subst (VolumeStands 1 u.b (disk new)) (some_same now.0 b (sym now.1 ∙ after)) now.2)))

      moments_b : (s next : State) → SiteStands t (disk old) s → (b : Volume) → volume_after s.b r ≡ Some b → record s { b = b } ≡ next → Passes moment left_since old new (λ c. (state_of c ≡ Some s) ⊎ (state_of c ≡ Some next))
      moments_b s next stands b after is =
          weaker moment left_since old new (λ c. (x : Images) × Crash (disk old) x × OneMoreAt 1 (volume_body r) x c) (λ c. (state_of c ≡ Some s) ⊎ (state_of c ≡ Some next)) (call.moments 1 s.b stands.b)
          (λ c was.
          let in_a = volume_elsewhere 1 0 (volume_body r) was.0 c s.a (omega arith) (λ (e : 0 ≡ 1). omega (arith, e)) was.2 (volume_settled 0 t.a s.a (disk old) was.0 stands.a was.1) in
          let phase = phase_elsewhere 1 (volume_body r) was.0 c s.phase (λ (e : 2 ≡ 1). omega (arith, e)) was.2 (phase_settled t s (disk old) was.0 stands was.1) in
          ⊎_elim
          (λ same. inl (state_from c s.a s.b s.phase in_a same phase))
          (λ one. inr (state_from c s.a b s.phase in_a one phase ∙ ap (λ (x : State). Some x) is))
          (volume_more 1 r s.b b was.0 c lawful after (volume_settled 1 t.b s.b (disk old) was.0 stands.b was.1) was.2))

      pub adds_to_b : Adds t.b u.b r inner → AddsTo disk moment left_since refuses old new t u (ToB r) outer
      adds_to_b adds = record {
        added = λ s next stands folds.
            let its = mapped (λ (v : Volume). record s { b = v }) (volume_after s.b r) next folds in
            added_b s next stands its.0 its.1 its.2;
        kept = λ s stands is. beside_b s s.b stands (call.kept 1 s.b stands.b (refused is));
        alone = λ is. alone (refused is);
        rest = λ s next stands folds rest. handed_both inner outer (StandsAfter 1 u.b (disk new) s.b r) (u.b.log.device ≡ t.b.log.device) (AllAtRest (disk new)) ok (call.added 1 s.b stands.b) (added_device t.b u.b r inner adds)
            (λ now same. all_rest t.b.log.device (disk old) (disk new) call.others
            (subst (λ (n : ℕ). IsAtRest (disk new n)) same (log_rest 1 now.2.records u.b.log (disk new) now.2.log)) rest);
        moments = λ s next stands folds.
            let its = mapped (λ (v : Volume). record s { b = v }) (volume_after s.b r) next folds in
            moments_b s next stands its.0 its.1 its.2;
      }

  -- A RECORD OF THE JOURNAL

  module _ {S T : Type 0} (r : JournalRecord) (inner : Result S JournalError) (outer : Result T E) (ok : IsOk outer → IsOk inner) (refused : IsErrAnd outer refuses → marking.IsRefused inner) (alone : marking.IsRefused inner → new ≡ old)
      (call : marking.AddsMark moment left_since old new (disk old) (disk new) t.journal u.journal r inner) (same_a : u.a ≡ t.a) (same_b : u.b ≡ t.b) where
    beside_journal : (s : State) (phase : Phase) → SiteStands t (disk old) s → u.journal.phase ≡ phase → JournalStands u.journal (disk new) → SiteStands u (disk new) (record s { phase = phase })
    beside_journal s phase stands is now = record {
      a = subst (λ (v : VolumeValue). VolumeStands 0 v (disk new) s.a) (sym same_a)
          (volume_beside 2 0 t.journal.log stands.journal.records t.a s.a (disk old) (disk new) (λ (e : 0 ≡ 2). omega (arith, e)) stands.journal.log stands.a call.others);
      b = subst (λ (v : VolumeValue). VolumeStands 1 v (disk new) s.b) (sym same_b)
          (volume_beside 2 1 t.journal.log stands.journal.records t.b s.b (disk old) (disk new) (λ (e : 1 ≡ 2). omega (arith, e)) stands.journal.log stands.b call.others);
      journal = now;
      phase = is;
    }

    moments_journal : (s next : State) → SiteStands t (disk old) s → (phase : Phase) → phase_after s.phase r ≡ Some phase → record s { phase = phase } ≡ next → Passes moment left_since old new (λ c. (state_of c ≡ Some s) ⊎ (state_of c ≡ Some next))
    moments_journal s next stands phase after is =
        weaker moment left_since old new (λ c. (b : Images) × Crash (disk old) b × OneMoreAt 2 (journal_body r) b c) (λ c. (state_of c ≡ Some s) ⊎ (state_of c ≡ Some next)) (call.moments stands.journal)
        (λ c was.
        let in_a = volume_elsewhere 2 0 (journal_body r) was.0 c s.a (omega arith) (λ (e : 0 ≡ 2). omega (arith, e)) was.2 (volume_settled 0 t.a s.a (disk old) was.0 stands.a was.1) in
        let in_b = volume_elsewhere 2 1 (journal_body r) was.0 c s.b (omega arith) (λ (e : 1 ≡ 2). omega (arith, e)) was.2 (volume_settled 1 t.b s.b (disk old) was.0 stands.b was.1) in
        ⊎_elim
        (λ same. inl (state_from c s.a s.b s.phase in_a in_b same))
        (λ one. inr (state_from c s.a s.b phase in_a in_b one ∙ ap (λ (x : State). Some x) is))
        (phase_more r s.phase phase was.0 c after (phase_settled t s (disk old) was.0 stands was.1) was.2))

    pub adds_to_journal : marking.Marks t.journal u.journal r inner → AddsTo disk moment left_since refuses old new t u (ToJournal r) outer
    adds_to_journal marks = record {
      added = λ s next stands folds.
          let its = mapped (λ (p : Phase). record s { phase = p }) (phase_after s.phase r) next folds in
          handed_both inner outer (JournalStands u.journal (disk new)) (Marked t.journal u.journal r) (SiteStands u (disk new) next) ok (call.added stands.journal) (marked t.journal u.journal r inner marks)
          (λ now mark. subst (SiteStands u (disk new)) its.2
          (beside_journal s its.0 stands (some_same u.journal.phase its.0 (sym mark.0 ∙ ap (λ (p : Phase). phase_after p r) stands.phase ∙ its.1)) now));
      kept = λ s stands is. beside_journal s s.phase stands (same_phase t.journal u.journal r inner marks (refused is) ∙ stands.phase) (call.kept stands.journal (refused is));
      alone = λ is. alone (refused is);
      rest = λ s next stands folds rest. handed_both inner outer (JournalStands u.journal (disk new)) (Marked t.journal u.journal r) (AllAtRest (disk new)) ok (call.added stands.journal) (marked t.journal u.journal r inner marks)
          (λ now mark. all_rest t.journal.log.device (disk old) (disk new) call.others (subst (λ (n : ℕ). IsAtRest (disk new n)) mark.1 (log_rest 2 now.records u.journal.log (disk new) now.log)) rest);
      moments = λ s next stands folds.
          let its = mapped (λ (p : Phase). record s { phase = p }) (phase_after s.phase r) next folds in
          moments_journal s next stands its.0 its.1 its.2;
    }

-- A CHUNK THAT IS LACKING

pub puts_lacking : {D : Type 0} (moment : D → ℕ) (left_since : D → ℕ → Images → Type 0) (old new : D) (d e : Disk) (v w : VolumeValue) (name bytes : List ℕ) (result : Result Bool VolError) → ¬ HoldsChunk v.shape name
    → PutsChunkOn moment left_since old new d e v w name bytes result → AddsRecord moment left_since old new d e v w (ChunkRecord name bytes) result
puts_lacking moment left_since old new d e v w name bytes result lacking call =
    let not_held : (place : ℕ) (volume : Volume) → VolumeStands place v d volume → ¬ HoldsChunk volume name =
    λ place volume stands held. lacking (ap (λ (shape : Shape). map.contains_key shape.chunks name) stands.shape ∙ same_held volume name ∙ held) in
    record {
      others = call.others;
      added = λ place volume stands. call.added place volume stands (not_held place volume stands);
      kept = call.kept;
      alone = call.alone lacking;
      moments = λ place volume stands. call.moments place volume stands (not_held place volume stands);
    }
