-- The parts of a site, opened one after the other.
use Rattle.std.proofs.Common.{◌≡◌, ◌≢◌, ◌⊎◌, inl, inr, ℕ, zero, suc, ◌+◌, ◌≤◌, sym, ◌∙◌, ap, subst, arith}
use Rattle.std.specs.Prelude.{Ok, Err}
use Rattle.std.specs.Option.{option_and_then}
use Rattle.volume_disk.specs.Medium.{IsAtRest, Medium}
use Rattle.volume_disk.specs.Disk.{Disk, Images, Crash}
use Rattle.volume_disk.specs.Time.{Passes}
use Rattle.volume_disk.proofs.Moments.{chained}
use Rattle.site_forms.specs.Halves.{SameRecords, pair_records, records_at}
use Rattle.site_forms.specs.Phases.{phase_of}
use Rattle.site_forms.specs.Sites.{phase_at, volume_at}
use Rattle.site_forms.specs.Volumes.{volume_of}
use Rattle.chunk_log.specs.PlaceHalves.{SameOutside, images_of, IsDamaged, RestsAt}
use Rattle.chunk_volume.specs.declared.errors.VolError.{VolError}
use Rattle.chunk_volume.specs.declared.errors.VolError.TheVariants as vol
use Rattle.chunk_volume.specs.OpeningVolumes.{AnswersVolume, IsPlaceVolume, IsUnfolded as IsUnfoldedVolume, OpensVolume}
use Rattle.chunk_volume.specs.VolumeValues.{VolumeValue}
use Rattle.chunk_volume.proofs.Standing.{volume_outside}
use Rattle.move_journal.specs.declared.errors.JournalError.{JournalError}
use Rattle.move_journal.specs.declared.errors.JournalError.TheVariants as journal
use Rattle.move_journal.specs.JournalValues.{JournalValue}
use Rattle.move_journal.specs.Opening.{AnswersJournal, IsPlaceJournal, IsUnfolded as IsUnfoldedJournal, OpensJournal}
use Rattle.site_runs.specs.SiteValues.{AllAtRest}
use Rattle.seed_mover.specs.declared.errors.SiteError.{SiteError}
use Rattle.seed_mover.specs.declared.errors.SiteError.TheVariants as site
use Rattle.seed_mover.specs.declared.opening.Volumes.{Volumes}
use Rattle.seed_mover.specs.Errors.{of_journal, of_volume}
use Rattle.seed_mover.specs.Opening.{IsBadJournal, IsBadVolume, IsNewLog}
use Rattle.seed_mover.specs.Parts.{AnswersOpen, AreBadParts, AreBadVolumes, AreNewParts, AreNewVolumes, ArePartsOf, AreVolumesOf, IsOpened, OpensParts, OpensVolumes}

-- WHAT IS ANSWERED

pub new_log : (place limit : ℕ) (v : VolumeValue) → AnswersVolume place limit (Ok v) → IsNewLog place limit v.log
new_log place limit v answers = record { device = answers.0; limit_is = answers.1; fresh = answers.2 }

pub new_journal : (limit : ℕ) (j : JournalValue) → AnswersJournal limit (Ok j) → IsNewLog 2 limit j.log
new_journal limit j answers = record { device = answers.0; limit_is = answers.1; fresh = answers.2 }

pub answers_a : {T : Type 0} (P : T → Type 0) (limit : ℕ) (error : VolError) → AnswersVolume 0 limit (Err error) → AnswersOpen P (Err (of_volume error))
answers_a P limit vol.RackFault answers = tt
answers_a P limit (vol.Damage device at) answers = inl answers
answers_a P limit vol.Memory answers = tt
answers_a P limit (vol.BadChunk name found) answers = absurd answers
answers_a P limit (vol.Collision name) answers = absurd answers
answers_a P limit vol.Exists answers = absurd answers
answers_a P limit vol.NoSuchFile answers = absurd answers
answers_a P limit (vol.DeviceFull device at len) answers = absurd answers
answers_a P limit vol.Spent answers = absurd answers

pub answers_b : {T : Type 0} (P : T → Type 0) (limit : ℕ) (error : VolError) → AnswersVolume 1 limit (Err error) → AnswersOpen P (Err (of_volume error))
answers_b P limit vol.RackFault answers = tt
answers_b P limit (vol.Damage device at) answers = inr (inl answers)
answers_b P limit vol.Memory answers = tt
answers_b P limit (vol.BadChunk name found) answers = absurd answers
answers_b P limit (vol.Collision name) answers = absurd answers
answers_b P limit vol.Exists answers = absurd answers
answers_b P limit vol.NoSuchFile answers = absurd answers
answers_b P limit (vol.DeviceFull device at len) answers = absurd answers
answers_b P limit vol.Spent answers = absurd answers

pub answers_journal : {T : Type 0} (P : T → Type 0) (limit : ℕ) (error : JournalError) → AnswersJournal limit (Err error) → AnswersOpen P (Err (of_journal error))
answers_journal P limit journal.RackFault answers = tt
answers_journal P limit (journal.Damage device at) answers = inr (inr answers)
answers_journal P limit journal.Memory answers = tt
answers_journal P limit (journal.DeviceFull device at len) answers = absurd answers
answers_journal P limit journal.Spent answers = absurd answers

-- what no value of a kind was answered for
pub parts_answered : (limit : ℕ) (error : SiteError) → AnswersOpen (AreNewVolumes limit) (Err error) → AnswersOpen (AreNewParts limit) (Err error)
parts_answered limit site.RackFault answers = tt
parts_answered limit site.Memory answers = tt
parts_answered limit (site.Damage device at) answers = answers
parts_answered limit site.Spent answers = absurd answers
parts_answered limit site.Exists answers = absurd answers
parts_answered limit site.NoSuchFile answers = absurd answers
parts_answered limit site.MigrationOpen answers = absurd answers
parts_answered limit site.TargetNotEmpty answers = absurd answers
parts_answered limit site.NothingOpen answers = absurd answers
parts_answered limit site.NotMoved answers = absurd answers
parts_answered limit (site.Collision name) answers = absurd answers
parts_answered limit (site.BadChunk name found) answers = absurd answers
parts_answered limit (site.DeviceFull device at len) answers = absurd answers
parts_answered limit (site.VolumeFull what) answers = absurd answers

-- THE SAME DEVICES SAY THE SAME

same_records : (d m : Disk) (place : ℕ) → m place ≡ d place → m (place + 3) ≡ d (place + 3) → records_at (images_of m) place ≡ records_at (images_of d) place
same_records d m place one two = λ i. pair_records (one i).image (two i).image

pub same_volume : (d m : Disk) (place : ℕ) → m place ≡ d place → m (place + 3) ≡ d (place + 3) → volume_at (images_of m) place ≡ volume_at (images_of d) place
same_volume d m place one two = ap (option_and_then volume_of) (same_records d m place one two)

pub same_phase_at : (d m : Disk) → m 2 ≡ d 2 → m 5 ≡ d 5 → phase_at (images_of m) ≡ phase_at (images_of d)
same_phase_at d m one two = ap (option_and_then phase_of) (same_records d m 2 one two)

pub same_bad : (d m : Disk) (place device at : ℕ) → m place ≡ d place → m (place + 3) ≡ d (place + 3) → IsBadVolume m place device at → IsBadVolume d place device at
same_bad d m place device at one two bad = record {
  none = sym (same_volume d m place one two) ∙ bad.none;
  cause = subst (λ (x : Medium). IsDamaged x.image (d (place + 3)).image place device at ⊎ IsUnfoldedVolume x.image (d (place + 3)).image place device at) one
      (subst (λ (y : Medium). IsDamaged (m place).image y.image place device at ⊎ IsUnfoldedVolume (m place).image y.image place device at) two bad.cause);
}

same_bad_journal : (d m : Disk) (device at : ℕ) → m 2 ≡ d 2 → m 5 ≡ d 5 → IsBadJournal m device at → IsBadJournal d device at
same_bad_journal d m device at one two bad = record {
  none = sym (same_phase_at d m one two) ∙ bad.none;
  cause = subst (λ (x : Medium). IsDamaged x.image (d 5).image 2 device at ⊎ IsUnfoldedJournal x.image (d 5).image device at) one
      (subst (λ (y : Medium). IsDamaged (m 2).image y.image 2 device at ⊎ IsUnfoldedJournal (m 2).image y.image device at) two bad.cause);
}

-- NOTHING PENDING

-- the devices of a place over calls on those of another
rest_outside : (place other : ℕ) (d e : Disk) → other ≢ place → other ≢ place + 3 → other + 3 ≢ place → other + 3 ≢ place + 3 → SameOutside place d e → RestsAt other d → RestsAt other e
rest_outside place other d e one two three four same rest = (subst IsAtRest (sym (same other one two)) rest.0, subst IsAtRest (sym (same (other + 3) three four)) rest.1)

all_rest : (d : Disk) → RestsAt 0 d → RestsAt 1 d → RestsAt 2 d → AllAtRest d
all_rest d rest_a rest_b rest_journal zero few = rest_a.0
all_rest d rest_a rest_b rest_journal (suc zero) few = rest_b.0
all_rest d rest_a rest_b rest_journal (suc (suc zero)) few = rest_journal.0
all_rest d rest_a rest_b rest_journal (suc (suc (suc zero))) few = rest_a.1
all_rest d rest_a rest_b rest_journal (suc (suc (suc (suc zero)))) few = rest_b.1
all_rest d rest_a rest_b rest_journal (suc (suc (suc (suc (suc zero))))) few = rest_journal.1
all_rest d rest_a rest_b rest_journal (suc (suc (suc (suc (suc (suc n)))))) few = absurd (omega (arith, few))

-- TWO RUNS THAT KEEP ALL RECORDS

pub both_keep : {D : Type 0} (moment : D → ℕ) (left_since : D → ℕ → Images → Type 0) (old mid new : D) (d m : Disk) → ((t : ℕ) (c : Images) → t ≤ moment mid → Crash m c → left_since mid t c)
    → Passes moment left_since old mid (λ c. (b : Images) × Crash d b × SameRecords b c) → Passes moment left_since mid new (λ c. (b : Images) × Crash m b × SameRecords b c)
    → Passes moment left_since old new (λ c. (b : Images) × Crash d b × SameRecords b c)
both_keep moment left_since old mid new d m counts first second =
    chained moment left_since old mid new (Crash d) (Crash m) SameRecords SameRecords SameRecords (λ x crash. counts (moment old) x first.later crash) first second (λ y x same. same) (λ y z x one two place is. two place is ∙ one place is)

-- THE VOLUMES

module _ (d m e : Disk) where
  volumes_refused_a : (error : VolError) → IsPlaceVolume d m 0 (Err error) → IsOpened (AreVolumesOf d m) (AreBadVolumes d) (Err (of_volume error))
  volumes_refused_a vol.RackFault is = tt
  volumes_refused_a (vol.Damage device at) is = inl (record { none = is.0; cause = is.1 })
  volumes_refused_a vol.Memory is = tt
  volumes_refused_a (vol.BadChunk name found) is = absurd is
  volumes_refused_a (vol.Collision name) is = absurd is
  volumes_refused_a vol.Exists is = absurd is
  volumes_refused_a vol.NoSuchFile is = absurd is
  volumes_refused_a (vol.DeviceFull device at len) is = absurd is
  volumes_refused_a vol.Spent is = absurd is

  volumes_refused_b : (error : VolError) → m 1 ≡ d 1 → m 4 ≡ d 4 → IsPlaceVolume m e 1 (Err error) → IsOpened (AreVolumesOf d e) (AreBadVolumes d) (Err (of_volume error))
  volumes_refused_b vol.RackFault one two is = tt
  volumes_refused_b (vol.Damage device at) one two is = inr (same_bad d m 1 device at one two (record { none = is.0; cause = is.1 }))
  volumes_refused_b vol.Memory one two is = tt
  volumes_refused_b (vol.BadChunk name found) one two is = absurd is
  volumes_refused_b (vol.Collision name) one two is = absurd is
  volumes_refused_b vol.Exists one two is = absurd is
  volumes_refused_b vol.NoSuchFile one two is = absurd is
  volumes_refused_b (vol.DeviceFull device at len) one two is = absurd is
  volumes_refused_b vol.Spent one two is = absurd is

module _ {D : Type 0} (moment : D → ℕ) (left_since : D → ℕ → Images → Type 0) (old mid new : D) (d m e : Disk) where
  pub first_refused : (error : VolError) → OpensVolume moment left_since old mid d m 0 (Err error) → OpensVolumes moment left_since old mid d m (Err (of_volume error))
  first_refused error first = record {
    journal = (first.others 2 (λ is. omega (arith, is)) (λ is. omega (arith, is)), first.others 5 (λ is. omega (arith, is)) (λ is. omega (arith, is)));
    volumes = volumes_refused_a d m m error first.volume;
    rest = tt;
    moments = first.moments;
  }

  module _ (a : VolumeValue) (counts : (t : ℕ) (c : Images) → t ≤ moment mid → Crash m c → left_since mid t c) (first : OpensVolume moment left_since old mid d m 0 (Ok a)) where
    one_same : m 1 ≡ d 1
    one_same = first.others 1 (λ is. omega (arith, is)) (λ is. omega (arith, is))

    four_same : m 4 ≡ d 4
    four_same = first.others 4 (λ is. omega (arith, is)) (λ is. omega (arith, is))

    journal_same : (others : SameOutside 1 m e) → (e 2 ≡ d 2) × (e 5 ≡ d 5)
    journal_same others = (
      others 2 (λ is. omega (arith, is)) (λ is. omega (arith, is)) ∙ first.others 2 (λ is. omega (arith, is)) (λ is. omega (arith, is)),
      others 5 (λ is. omega (arith, is)) (λ is. omega (arith, is)) ∙ first.others 5 (λ is. omega (arith, is)) (λ is. omega (arith, is)),
    )

    pub second_refused : (error : VolError) → OpensVolume moment left_since mid new m e 1 (Err error) → OpensVolumes moment left_since old new d e (Err (of_volume error))
    second_refused error second = record {
      journal = journal_same second.others;
      volumes = volumes_refused_b d m e error one_same four_same second.volume;
      rest = tt;
      moments = both_keep moment left_since old mid new d m counts first.moments second.moments;
    }

    pub both_opened : (b : VolumeValue) → OpensVolume moment left_since mid new m e 1 (Ok b) → OpensVolumes moment left_since old new d e (Ok (record { a = a; b = b }))
    both_opened b second = record {
      journal = journal_same second.others;
      volumes = record {
        a = first.volume.0;
        b = second.volume.0;
        told_a = first.volume.1;
        told_b = sym (same_volume d m 1 one_same four_same) ∙ second.volume.1;
        stands_a = volume_outside 1 0 a first.volume.0 m e (omega arith) (λ is. omega (arith, is)) second.others first.volume.2;
        stands_b = second.volume.2;
      };
      rest = (rest_outside 1 0 m e (λ is. omega (arith, is)) (λ is. omega (arith, is)) (λ is. omega (arith, is)) (λ is. omega (arith, is)) second.others first.rest, second.rest);
      moments = both_keep moment left_since old mid new d m counts first.moments second.moments;
    }

-- AND THE JOURNAL

parts_refused : (d m : Disk) (error : SiteError) → IsOpened (AreVolumesOf d m) (AreBadVolumes d) (Err error) → IsOpened (ArePartsOf d m) (AreBadParts d) (Err error)
parts_refused d m site.RackFault is = tt
parts_refused d m site.Memory is = tt
parts_refused d m (site.Damage device at) (inl bad) = inl bad
parts_refused d m (site.Damage device at) (inr bad) = inr (inl bad)
parts_refused d m site.Spent is = absurd is
parts_refused d m site.Exists is = absurd is
parts_refused d m site.NoSuchFile is = absurd is
parts_refused d m site.MigrationOpen is = absurd is
parts_refused d m site.TargetNotEmpty is = absurd is
parts_refused d m site.NothingOpen is = absurd is
parts_refused d m site.NotMoved is = absurd is
parts_refused d m (site.Collision name) is = absurd is
parts_refused d m (site.BadChunk name found) is = absurd is
parts_refused d m (site.DeviceFull device at len) is = absurd is
parts_refused d m (site.VolumeFull what) is = absurd is

journal_refused : (d m e : Disk) (error : JournalError) → m 2 ≡ d 2 → m 5 ≡ d 5 → IsPlaceJournal m e (Err error) → IsOpened (ArePartsOf d e) (AreBadParts d) (Err (of_journal error))
journal_refused d m e journal.RackFault one two is = tt
journal_refused d m e (journal.Damage device at) one two is = inr (inr (same_bad_journal d m device at one two (record { none = is.0; cause = is.1 })))
journal_refused d m e journal.Memory one two is = tt
journal_refused d m e (journal.DeviceFull device at len) one two is = absurd is
journal_refused d m e journal.Spent one two is = absurd is

module _ {D : Type 0} (moment : D → ℕ) (left_since : D → ℕ → Images → Type 0) (old mid new : D) (d m e : Disk) where
  pub volumes_refused : (error : SiteError) → OpensVolumes moment left_since old mid d m (Err error) → OpensParts moment left_since old mid d m (Err error)
  volumes_refused error first = record { parts = parts_refused d m error first.volumes; rest = tt; moments = first.moments }

  module _ (volumes : Volumes) (counts : (t : ℕ) (c : Images) → t ≤ moment mid → Crash m c → left_since mid t c) (first : OpensVolumes moment left_since old mid d m (Ok volumes)) where
    pub last_refused : (error : JournalError) → OpensJournal moment left_since mid new m e (Err error) → OpensParts moment left_since old new d e (Err (of_journal error))
    last_refused error second = record {
      parts = journal_refused d m e error first.journal.0 first.journal.1 second.journal;
      rest = tt;
      moments = both_keep moment left_since old mid new d m counts first.moments second.moments;
    }

    pub all_opened : (j : JournalValue) → OpensJournal moment left_since mid new m e (Ok j) → OpensParts moment left_since old new d e (Ok (record { volumes = volumes; journal = j }))
    all_opened j second = record {
      parts = record {
        volumes = record {
          a = first.volumes.a;
          b = first.volumes.b;
          told_a = first.volumes.told_a;
          told_b = first.volumes.told_b;
          stands_a = volume_outside 2 0 volumes.a first.volumes.a m e (omega arith) (λ is. omega (arith, is)) second.others first.volumes.stands_a;
          stands_b = volume_outside 2 1 volumes.b first.volumes.b m e (omega arith) (λ is. omega (arith, is)) second.others first.volumes.stands_b;
        };
        told = sym (same_phase_at d m first.journal.0 first.journal.1) ∙ second.journal.0;
        stands = second.journal.1;
      };
      rest = all_rest e
          (rest_outside 2 0 m e (λ is. omega (arith, is)) (λ is. omega (arith, is)) (λ is. omega (arith, is)) (λ is. omega (arith, is)) second.others first.rest.0)
          (rest_outside 2 1 m e (λ is. omega (arith, is)) (λ is. omega (arith, is)) (λ is. omega (arith, is)) (λ is. omega (arith, is)) second.others first.rest.1)
          second.rest;
      moments = both_keep moment left_since old mid new d m counts first.moments second.moments;
    }
