-- Sites that stand: what the images of a crash say, and one record more at one place.
use Rattle.std.proofs.Common.{◌≡◌, ◌≢◌, ◌⊎◌, inl, inr, ⊎_elim, ℕ, ◌≤◌, List, Some, sym, ◌∙◌, ap, subst, arith}
use Rattle.std.specs.Option.{option_and_then, option_map}
use Rattle.volume_disk.specs.Disk.{Disk, Images, Crash, SameDisk}
use Rattle.site_forms.specs.declared.phase.Phase.{Phase}
use Rattle.site_forms.specs.declared.phase.Phase.TheVariants.{Idle}
use Rattle.site_forms.specs.Halves.{OneMoreAt, records_at}
use Rattle.site_forms.specs.JournalRecords.{JournalRecord, journal_body}
use Rattle.site_forms.specs.Phases.{phase_after, phase_of, phase_step}
use Rattle.site_forms.specs.Sites.{phase_at, state_of, volume_at, IsFolded}
use Rattle.site_forms.specs.Views.{State}
use Rattle.site_forms.specs.VolumeRecords.{VolumeRecord, IsVolumeRecord, volume_body}
use Rattle.site_forms.specs.Volumes.{Volume, empty_volume, volume_after, volume_of, volume_step}
use Rattle.site_forms.proofs.Folds.{fold_more}
use Rattle.site_forms.proofs.Marks.{journal_read}
use Rattle.site_forms.proofs.Records.{volume_read}
use Rattle.chunk_volume.proofs.Standing.{volume_settled}
use Rattle.move_journal.proofs.Standing.{journal_settled}
use Rattle.site_core.specs.Events.{shapes_of}
use Rattle.site_core.proofs.Folding.{and_then_some}
use Rattle.site_core.proofs.Turning.{mapped}
use Rattle.site_runs.specs.SiteValues.{SiteStands, SiteValue, shapes_in}

-- what three places say is a state
pub state_from : (c : Images) (a b : Volume) (phase : Phase) → volume_at c 0 ≡ Some a → volume_at c 1 ≡ Some b → phase_at c ≡ Some phase → state_of c ≡ Some (record { a = a; b = b; phase = phase })
state_from c a b phase is_a is_b is_phase =
    λ i. option_and_then (λ (x : Volume). option_and_then (λ (y : Volume). option_map (λ (p : Phase). record { a = x; b = y; phase = p }) (is_phase i)) (is_b i)) (is_a i)

module _ (t : SiteValue) (s : State) (d : Disk) where
  pub phase_settled : (c : Images) → SiteStands t d s → Crash d c → phase_at c ≡ Some s.phase
  phase_settled c stands crash = journal_settled t.journal d c stands.journal crash ∙ ap (λ (p : Phase). Some p) stands.phase

  pub state_settled : (c : Images) → SiteStands t d s → Crash d c → state_of c ≡ Some s
  state_settled c stands crash = state_from c s.a s.b s.phase (volume_settled 0 t.a s.a d c stands.a crash) (volume_settled 1 t.b s.b d c stands.b crash) (phase_settled c stands crash)

  pub site_same : (e : Disk) → SameDisk d e → SiteStands t d s → SiteStands t e s
  site_same e same stands = subst (λ (x : Disk). SiteStands t x s) (λ i device. sym (same device) i) stands

  pub shapes_same : SiteStands t d s → shapes_in t ≡ shapes_of s
  shapes_same stands = λ i. record { a = stands.a.shape i; b = stands.b.shape i; phase = stands.phase i }

  pub site_folded : SiteStands t d s → IsFolded s
  site_folded stands = record {
    records_a = stands.a.records;
    records_b = stands.b.records;
    records_j = stands.journal.records;
    a = stands.a.folds;
    b = stands.b.folds;
    phase = stands.journal.folds ∙ ap (λ (p : Phase). Some p) stands.phase;
  }

-- ONE RECORD MORE AT A PLACE

pub volume_more : (place : ℕ) (r : VolumeRecord) (volume next : Volume) (b c : Images) → IsVolumeRecord r → volume_after volume r ≡ Some next → volume_at b place ≡ Some volume → OneMoreAt place (volume_body r) b c
    → (volume_at c place ≡ Some volume) ⊎ (volume_at c place ≡ Some next)
volume_more place r volume next b c lawful after was more = ⊎_elim
    (λ same. inl (ap (option_and_then volume_of) (same ∙ sym more.before) ∙ was))
    (λ one. inr
    (ap (option_and_then volume_of) one
    ∙ fold_more volume_step empty_volume more.records (volume_body r)
    ∙ ap (option_and_then (λ (v : Volume). volume_step v (volume_body r))) (ap (option_and_then volume_of) (sym more.before) ∙ was)
    ∙ ap (option_and_then (λ (x : VolumeRecord). volume_after volume x)) (volume_read r lawful)
    ∙ after))
    more.here

pub phase_more : (r : JournalRecord) (phase next : Phase) (b c : Images) → phase_after phase r ≡ Some next → phase_at b ≡ Some phase → OneMoreAt 2 (journal_body r) b c → (phase_at c ≡ Some phase) ⊎ (phase_at c ≡ Some next)
phase_more r phase next b c after was more = ⊎_elim
    (λ same. inl (ap (option_and_then phase_of) (same ∙ sym more.before) ∙ was))
    (λ one. inr
    (ap (option_and_then phase_of) one
    ∙ fold_more phase_step Idle more.records (journal_body r)
    ∙ ap (option_and_then (λ (p : Phase). phase_step p (journal_body r))) (ap (option_and_then phase_of) (sym more.before) ∙ was)
    ∙ ap (option_and_then (λ (x : JournalRecord). phase_after phase x)) (journal_read r)
    ∙ after))
    more.here

-- and nothing at the others
pub volume_elsewhere : (place other : ℕ) (body : List ℕ) (b c : Images) (volume : Volume) → other ≤ 2 → other ≢ place → OneMoreAt place body b c → volume_at b other ≡ Some volume → volume_at c other ≡ Some volume
volume_elsewhere place other body b c volume is_place apart more was = ap (option_and_then volume_of) (more.others other is_place apart) ∙ was

pub phase_elsewhere : (place : ℕ) (body : List ℕ) (b c : Images) (phase : Phase) → 2 ≢ place → OneMoreAt place body b c → phase_at b ≡ Some phase → phase_at c ≡ Some phase
phase_elsewhere place body b c phase apart more was = ap (option_and_then phase_of) (more.others 2 (omega arith) apart) ∙ was
