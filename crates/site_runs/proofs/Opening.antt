-- A site that is opened: its volumes and its journal, one after the other.
use Rattle.std.proofs.Common.{◌≡◌, ◌≢◌, ℕ, zero, suc, ◌+◌, ◌≤◌, Some, refl, sym, ◌∙◌, ap, subst, arith}
use Rattle.std.specs.Prelude.{false, Ok}
use Rattle.std.specs.Option.{option_and_then, option_map}
use Rattle.volume_disk.specs.Disk.{Disk, Images, Crash}
use Rattle.volume_disk.specs.Medium.{IsAtRest}
use Rattle.volume_disk.specs.Time.{Passes}
use Rattle.volume_disk.proofs.Moments.{chained}
use Rattle.site_forms.specs.declared.phase.Phase.{Phase}
use Rattle.site_forms.specs.Halves.{SameRecords, pair_records, records_at}
use Rattle.site_forms.specs.Phases.{phase_of}
use Rattle.site_forms.specs.Sites.{phase_at, state_of, volume_at}
use Rattle.site_forms.specs.Views.{State}
use Rattle.site_forms.specs.Volumes.{Volume, volume_of}
use Rattle.chunk_log.specs.PlaceHalves.{SameOutside, images_of}
use Rattle.chunk_volume.specs.OpeningVolumes.{OpensVolume}
use Rattle.chunk_volume.specs.VolumeValues.{VolumeValue}
use Rattle.chunk_volume.proofs.Standing.{volume_outside}
use Rattle.move_journal.specs.JournalValues.{JournalValue}
use Rattle.move_journal.specs.Opening.{OpensJournal}
use Rattle.site_runs.specs.SiteValues.{AllAtRest, SiteStands, SiteValue}
use Rattle.site_runs.proofs.Settled.{state_from}

-- WHAT PLACES SAY

-- where every place says the same, so does the site
pub same_state : (b c : Images) → SameRecords b c → state_of c ≡ state_of b
same_state b c same = λ i.
    option_and_then (λ (x : Volume). option_and_then (λ (y : Volume). option_map (λ (p : Phase). record { a = x; b = y; phase = p })
    (option_and_then phase_of (same 2 (omega arith) i))) (option_and_then volume_of (same 1 (omega arith) i))) (option_and_then volume_of (same 0 (omega arith) i))

pub records_chain : (b c e : Images) → SameRecords b c → SameRecords c e → SameRecords b e
records_chain b c e first second = λ place is_place. second place is_place ∙ first place is_place

-- calls on the devices of another place leave what a place reads
pub same_records : (place other : ℕ) (d e : Disk) → other ≢ place → other ≢ place + 3 → other + 3 ≢ place → other + 3 ≢ place + 3 → SameOutside place d e → records_at (images_of e) other ≡ records_at (images_of d) other
same_records place other d e one two three four same = λ i. pair_records (same other one two i).image (same (other + 3) three four i).image

-- OPENING, over any answers

module _ {D : Type 0} (disk : D → Disk) (moment : D → ℕ) (left_since : D → ℕ → Images → Type 0) where
  -- two openings, one after the other, leave the same records at every moment
  pub opens_chain : (old mid new : D) → ((t : ℕ) (c : Images) → t ≤ moment mid → Crash (disk mid) c → left_since mid t c)
      → Passes moment left_since old mid (λ c. (b : Images) × Crash (disk old) b × SameRecords b c) → Passes moment left_since mid new (λ c. (b : Images) × Crash (disk mid) b × SameRecords b c)
      → Passes moment left_since old new (λ c. (b : Images) × Crash (disk old) b × SameRecords b c)
  opens_chain old mid new counts first second =
      chained moment left_since old mid new (Crash (disk old)) (Crash (disk mid)) SameRecords SameRecords SameRecords (λ c crash. counts (moment old) c first.later crash) first second (λ b c same. same) records_chain

  -- THREE OPENINGS

  module _ (first second third last : D) (a b : VolumeValue) (journal : JournalValue) (opens_a : OpensVolume moment left_since first second (disk first) (disk second) 0 (Ok a))
      (opens_b : OpensVolume moment left_since second third (disk second) (disk third) 1 (Ok b)) (opens_journal : OpensJournal moment left_since third last (disk third) (disk last) (Ok journal)) where
    -- the site that is opened
    abbrev pub opened : SiteValue
    opened = record { a = a; b = b; journal = journal; spent = false }

    abbrev pub its_state : State
    its_state = record { a = opens_a.volume.0; b = opens_b.volume.0; phase = journal.phase }

    -- what was read before, place by place
    read_b : volume_at (images_of (disk first)) 1 ≡ Some opens_b.volume.0
    read_b =
        ap (option_and_then volume_of) (sym (same_records 0 1 (disk first) (disk second) (λ (e : 1 ≡ 0). omega (arith, e)) (λ (e : 1 ≡ 3). omega (arith, e)) (λ (e : 4 ≡ 0). omega (arith, e)) (λ (e : 4 ≡ 3). omega (arith, e)) opens_a.others))
        ∙ opens_b.volume.1

    read_journal : phase_at (images_of (disk first)) ≡ Some journal.phase
    read_journal =
        ap (option_and_then phase_of) (sym (same_records 0 2 (disk first) (disk second) (λ (e : 2 ≡ 0). omega (arith, e)) (λ (e : 2 ≡ 3). omega (arith, e)) (λ (e : 5 ≡ 0). omega (arith, e)) (λ (e : 5 ≡ 3). omega (arith, e)) opens_a.others))
        ∙ ap (option_and_then phase_of) (sym (same_records 1 2 (disk second) (disk third) (λ (e : 2 ≡ 1). omega (arith, e)) (λ (e : 2 ≡ 4). omega (arith, e)) (λ (e : 5 ≡ 1). omega (arith, e)) (λ (e : 5 ≡ 4). omega (arith, e)) opens_b.others))
        ∙ opens_journal.journal.0

    pub opened_state : state_of (images_of (disk first)) ≡ Some its_state
    opened_state = state_from (images_of (disk first)) opens_a.volume.0 opens_b.volume.0 journal.phase opens_a.volume.1 read_b read_journal

    pub opened_stands : SiteStands opened (disk last) its_state
    opened_stands = record {
      a = volume_outside 2 0 a opens_a.volume.0 (disk third) (disk last) (omega arith) (λ (e : 0 ≡ 2). omega (arith, e)) opens_journal.others
          (volume_outside 1 0 a opens_a.volume.0 (disk second) (disk third) (omega arith) (λ (e : 0 ≡ 1). omega (arith, e)) opens_b.others opens_a.volume.2);
      b = volume_outside 2 1 b opens_b.volume.0 (disk third) (disk last) (omega arith) (λ (e : 1 ≡ 2). omega (arith, e)) opens_journal.others opens_b.volume.2;
      journal = opens_journal.journal.1;
      phase = refl;
    }

    pub opened_moments : ((t : ℕ) (c : Images) → t ≤ moment second → Crash (disk second) c → left_since second t c) → ((t : ℕ) (c : Images) → t ≤ moment third → Crash (disk third) c → left_since third t c)
        → Passes moment left_since first last (λ c. (x : Images) × Crash (disk first) x × SameRecords x c)
    opened_moments counts_second counts_third = opens_chain first third last counts_third (opens_chain first second third counts_second opens_a.moments opens_b.moments) opens_journal.moments

    -- where each opening leaves its own two devices at rest, nothing is pending
    pub opened_rest : IsAtRest (disk second 0) × IsAtRest (disk second 3) → IsAtRest (disk third 1) × IsAtRest (disk third 4) → IsAtRest (disk last 2) × IsAtRest (disk last 5) → AllAtRest (disk last)
    opened_rest rest_a rest_b rest_journal = by_six (λ n. IsAtRest (disk last n))
        (kept 0 (λ (e : 0 ≡ 1). omega (arith, e)) (λ (e : 0 ≡ 4). omega (arith, e)) (λ (e : 0 ≡ 2). omega (arith, e)) (λ (e : 0 ≡ 5). omega (arith, e)) rest_a.0)
        (late 1 (λ (e : 1 ≡ 2). omega (arith, e)) (λ (e : 1 ≡ 5). omega (arith, e)) rest_b.0)
        rest_journal.0
        (kept 3 (λ (e : 3 ≡ 1). omega (arith, e)) (λ (e : 3 ≡ 4). omega (arith, e)) (λ (e : 3 ≡ 2). omega (arith, e)) (λ (e : 3 ≡ 5). omega (arith, e)) rest_a.1)
        (late 4 (λ (e : 4 ≡ 2). omega (arith, e)) (λ (e : 4 ≡ 5). omega (arith, e)) rest_b.1)
        rest_journal.1
      where
        by_six : (P : ℕ → Type 0) → P 0 → P 1 → P 2 → P 3 → P 4 → P 5 → (n : ℕ) → n ≤ 5 → P n
        by_six P p q r s t u zero few = p
        by_six P p q r s t u (suc zero) few = q
        by_six P p q r s t u (suc (suc zero)) few = r
        by_six P p q r s t u (suc (suc (suc zero))) few = s
        by_six P p q r s t u (suc (suc (suc (suc zero)))) few = t
        by_six P p q r s t u (suc (suc (suc (suc (suc zero))))) few = u
        by_six P p q r s t u (suc (suc (suc (suc (suc (suc n)))))) few = absurd (omega (arith, few))

        late : (n : ℕ) → n ≢ 2 → n ≢ 5 → IsAtRest (disk third n) → IsAtRest (disk last n)
        late n two five rest = subst IsAtRest (sym (opens_journal.others n two five)) rest

        kept : (n : ℕ) → n ≢ 1 → n ≢ 4 → n ≢ 2 → n ≢ 5 → IsAtRest (disk second n) → IsAtRest (disk last n)
        kept n one four two five rest = late n two five (subst IsAtRest (sym (opens_b.others n one four)) rest)
