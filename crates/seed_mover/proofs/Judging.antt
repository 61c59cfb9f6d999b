-- The parts of a site that fit, and those that do not.
use Rattle.std.proofs.Common.{◌≡◌, ◌≢◌, inl, inr, ℕ, Bool, true, Option, Some, None, refl, sym, ◌∙◌, subst, arith}
use Rattle.std.specs.Prelude.{◌↔◌, Result, Ok, Err, IfOk, OnOk}
use Rattle.std.specs.Option.{option_and_then, option_map}
use Rattle.fault_count.specs.Counts.{HandsOn}
use Rattle.volume_disk.specs.Medium.{MayLeave}
use Rattle.volume_disk.specs.Disk.{Disk, Images, Crash}
use Rattle.seed_model.specs.declared.memory.NoMemory.{NoMemory}
use Rattle.site_forms.specs.declared.phase.Phase.{Phase}
use Rattle.site_forms.specs.Names.{is_name_list}
use Rattle.site_forms.specs.Phases.{names_of}
use Rattle.site_forms.specs.Sites.{Fits, IsSiteAt, phase_at, shape_of, state_of, volume_at}
use Rattle.site_forms.specs.Views.{State}
use Rattle.site_forms.specs.Volumes.{Volume}
use Rattle.chunk_log.specs.PlaceHalves.{IsOfPlace, images_of}
use Rattle.site_core.specs.Events.{Shapes}
use Rattle.seed_mover.specs.declared.errors.SiteError.{SiteError}
use Rattle.seed_mover.specs.declared.errors.SiteError.TheVariants as site
use Rattle.seed_mover.specs.declared.opening.Parts.{Parts}
use Rattle.seed_mover.specs.Opening.{AnswersSite, IsBadSite, IsNewSite, IsPlaceSite, IsSiteOf, IsWhole, OpensSite}
use Rattle.seed_mover.specs.Parts.{AreBadParts, AreNewParts, ArePartsOf, AnswersParts, FitsNamed, IsJudged, IsOpened, OpensParts}
use Rattle.site_runs.specs.SiteValues.{SiteValue}
use Rattle.seed_mover.proofs.LawfulNames.{folded_names}
use Rattle.seed_mover.proofs.Noted.{cause_none}
use Rattle.site_runs.proofs.Settled.{state_from}

-- WHETHER THEY FIT

pub fits_named : (parts : Parts) (result : Result Bool NoMemory) → is_name_list (names_of parts.journal.phase) ≡ true → IfOk result (λ is. (is ≡ true) ↔ Fits parts.volumes.a.shape parts.volumes.b.shape parts.journal.phase)
    → IfOk result (λ is. (is ≡ true) ↔ FitsNamed parts)
fits_named parts (Ok is) lawful same = (λ told. (lawful, same.0 told), λ both. same.1 both.1)
fits_named parts (Err error) lawful same = tt

-- WHAT IS ANSWERED

pub answers_parts : (limit : ℕ) (error : SiteError) → AnswersParts limit (Err error) → AnswersSite limit (Err error)
answers_parts limit site.RackFault answers = tt
answers_parts limit site.Memory answers = tt
answers_parts limit (site.Damage device at) answers = answers
answers_parts limit site.Spent answers = absurd answers
answers_parts limit site.Exists answers = absurd answers
answers_parts limit site.NoSuchFile answers = absurd answers
answers_parts limit site.MigrationOpen answers = absurd answers
answers_parts limit site.TargetNotEmpty answers = absurd answers
answers_parts limit site.NothingOpen answers = absurd answers
answers_parts limit site.NotMoved answers = absurd answers
answers_parts limit (site.Collision name) answers = absurd answers
answers_parts limit (site.BadChunk name found) answers = absurd answers
answers_parts limit (site.DeviceFull device at len) answers = absurd answers
answers_parts limit (site.VolumeFull what) answers = absurd answers

pub answers_judged : (limit : ℕ) (parts : Parts) (result : Result SiteValue SiteError) → AreNewParts limit parts → IsJudged parts result → AnswersSite limit result
answers_judged limit parts (Ok v) new judged = subst (IsNewSite limit) (sym judged.1) (record { a = new.volumes.a; b = new.volumes.b; journal = new.journal; fresh = refl })
answers_judged limit parts (Err (site.Damage device at)) new judged = inr (inr (subst (IsOfPlace 2) (sym judged.1) new.journal.device))
answers_judged limit parts (Err site.Memory) new judged = tt
answers_judged limit parts (Err site.RackFault) new judged = tt
answers_judged limit parts (Err site.Spent) new judged = judged
answers_judged limit parts (Err site.Exists) new judged = judged
answers_judged limit parts (Err site.NoSuchFile) new judged = judged
answers_judged limit parts (Err site.MigrationOpen) new judged = judged
answers_judged limit parts (Err site.TargetNotEmpty) new judged = judged
answers_judged limit parts (Err site.NothingOpen) new judged = judged
answers_judged limit parts (Err site.NotMoved) new judged = judged
answers_judged limit parts (Err (site.Collision name)) new judged = judged
answers_judged limit parts (Err (site.BadChunk name found)) new judged = judged
answers_judged limit parts (Err (site.DeviceFull device at len)) new judged = judged
answers_judged limit parts (Err (site.VolumeFull what)) new judged = judged

-- no call of the rack, and no fault
pub judged_cause : (count : ℕ) (parts : Parts) (result : Result SiteValue SiteError) → IsJudged parts result → HandsOn site.RackFault count count result
judged_cause count parts (Ok v) judged = record { later = omega arith; failed = λ is. cc; kept = λ _. refl }
judged_cause count parts (Err error) judged = cause_none count error (λ is. subst (λ (e : SiteError). IsJudged parts (Err e)) is judged)

-- WHAT THE DISK SAYS

module _ (d e : Disk) (alike : (device : ℕ) → MayLeave (d device) (d device).image) where
  now_crash : Crash d (images_of d)
  now_crash = λ device is_device. alike device

  -- where every crash image is a site, the disk as it reads is one
  module _ (sites : (c : Images) → Crash d c → IsSiteAt c) where
    abbrev its_state : State
    its_state = (sites (images_of d) now_crash).0

    its_told : state_of (images_of d) ≡ Some its_state
    its_told = (sites (images_of d) now_crash).1

    same_state : (o : Option Volume) (q : Option Volume) (r : Option Phase) → option_and_then (λ (a : Volume). option_and_then (λ (b : Volume). option_map (λ (p : Phase). record { a = a; b = b; phase = p }) r) q) o ≡ Some its_state
        → (o ≢ None) × (q ≢ None) × (r ≢ None)
    same_state None q r is = let no : ⊥ = cc in absurd no
    same_state (Some a) None r is = let no : ⊥ = cc in absurd no
    same_state (Some a) (Some b) None is = let no : ⊥ = cc in absurd no
    same_state (Some a) (Some b) (Some p) is = (λ no. cc, λ no. cc, λ no. cc)

    all_there : (volume_at (images_of d) 0 ≢ None) × (volume_at (images_of d) 1 ≢ None) × (phase_at (images_of d) ≢ None)
    all_there = same_state (volume_at (images_of d) 0) (volume_at (images_of d) 1) (phase_at (images_of d)) its_told

    pub no_bad_site : (device at : ℕ) → IsBadSite d e device at → ⊥
    no_bad_site device at (inl bad) = all_there.0 bad.none
    no_bad_site device at (inr (inl bad)) = all_there.1 bad.none
    no_bad_site device at (inr (inr (inl bad))) = all_there.2 bad.none
    no_bad_site device at (inr (inr (inr bad))) =
        let same : bad.state ≡ its_state = some_same bad.state its_state (sym bad.told ∙ its_told) in
        bad.misfit (subst (λ (s : State). Fits (shape_of s.a) (shape_of s.b) s.phase) (sym same) (sites (images_of d) now_crash).2.fits)
      where
        some_same : (x y : State) → Some x ≡ Some y → x ≡ y
        some_same x y is = cc

  whole : (result : Result SiteValue SiteError) → IsPlaceSite d e result → ((c : Images) → Crash d c → IsSiteAt c) → IsWhole result
  whole (Ok v) is sites = tt
  whole (Err (site.Damage device at)) is sites = no_bad_site sites device at is
  whole (Err site.RackFault) is sites = tt
  whole (Err site.Memory) is sites = tt
  whole (Err site.Spent) is sites = tt
  whole (Err site.Exists) is sites = tt
  whole (Err site.NoSuchFile) is sites = tt
  whole (Err site.MigrationOpen) is sites = tt
  whole (Err site.TargetNotEmpty) is sites = tt
  whole (Err site.NothingOpen) is sites = tt
  whole (Err site.NotMoved) is sites = tt
  whole (Err (site.Collision name)) is sites = tt
  whole (Err (site.BadChunk name found)) is sites = is
  whole (Err (site.DeviceFull device at len)) is sites = tt
  whole (Err (site.VolumeFull what)) is sites = tt

  site_refused : (error : SiteError) → IsOpened (ArePartsOf d e) (AreBadParts d) (Err error) → IsPlaceSite d e (Err error)
  site_refused site.RackFault is = tt
  site_refused site.Memory is = tt
  site_refused (site.Damage device at) (inl bad) = inl bad
  site_refused (site.Damage device at) (inr (inl bad)) = inr (inl bad)
  site_refused (site.Damage device at) (inr (inr bad)) = inr (inr (inl bad))
  site_refused site.Spent is = absurd is
  site_refused site.Exists is = absurd is
  site_refused site.NoSuchFile is = absurd is
  site_refused site.MigrationOpen is = absurd is
  site_refused site.TargetNotEmpty is = absurd is
  site_refused site.NothingOpen is = absurd is
  site_refused site.NotMoved is = absurd is
  site_refused (site.Collision name) is = absurd is
  site_refused (site.BadChunk name found) is = absurd is
  site_refused (site.DeviceFull device at len) is = absurd is
  site_refused (site.VolumeFull what) is = absurd is

  -- the state of parts
  module _ (parts : Parts) (its : ArePartsOf d e parts) where
    abbrev its_parts : State
    its_parts = record { a = its.volumes.a; b = its.volumes.b; phase = parts.journal.phase }

    parts_told : state_of (images_of d) ≡ Some its_parts
    parts_told = state_from (images_of d) its.volumes.a its.volumes.b parts.journal.phase its.volumes.told_a its.volumes.told_b its.told

    own_shapes : ◌≡◌ {A = Shapes} (record { a = parts.volumes.a.shape; b = parts.volumes.b.shape; phase = parts.journal.phase }) (record { a = shape_of its.volumes.a; b = shape_of its.volumes.b; phase = parts.journal.phase })
    own_shapes = λ i. record { a = its.volumes.stands_a.shape i; b = its.volumes.stands_b.shape i; phase = parts.journal.phase }

    place_judged : (result : Result SiteValue SiteError) → IsJudged parts result → IsPlaceSite d e result
    place_judged (Ok v) judged = subst (IsSiteOf d e) (sym judged.1) (record {
      state = its_parts;
      told = parts_told;
      fits = subst (λ (t : Shapes). Fits t.a t.b t.phase) own_shapes judged.0.1;
      stands = record { a = its.volumes.stands_a; b = its.volumes.stands_b; journal = its.stands; phase = refl };
    })
    place_judged (Err (site.Damage device at)) judged = inr (inr (inr (record {
      state = its_parts;
      told = parts_told;
      misfit = λ fits. judged.0 (folded_names its.stands.records parts.journal.phase its.stands.folds, subst (λ (t : Shapes). Fits t.a t.b t.phase) (sym own_shapes) fits);
      journal = parts.journal;
      stands = its.stands;
      device_is = judged.1;
      at_is = judged.2;
    })))
    place_judged (Err site.Memory) judged = tt
    place_judged (Err site.RackFault) judged = tt
    place_judged (Err site.Spent) judged = judged
    place_judged (Err site.Exists) judged = judged
    place_judged (Err site.NoSuchFile) judged = judged
    place_judged (Err site.MigrationOpen) judged = judged
    place_judged (Err site.TargetNotEmpty) judged = judged
    place_judged (Err site.NothingOpen) judged = judged
    place_judged (Err site.NotMoved) judged = judged
    place_judged (Err (site.Collision name)) judged = judged
    place_judged (Err (site.BadChunk name found)) judged = judged
    place_judged (Err (site.DeviceFull device at len)) judged = judged
    place_judged (Err (site.VolumeFull what)) judged = judged

rests : {P : Type 0} (result : Result SiteValue SiteError) → P → OnOk result P
rests (Ok v) holds = holds
rests (Err error) holds = tt

module _ {D : Type 0} (moment : D → ℕ) (left_since : D → ℕ → Images → Type 0) (old new : D) (d e : Disk) (alike : (device : ℕ) → MayLeave (d device) (d device).image) where
  pub site_opened : (parts : Parts) (result : Result SiteValue SiteError) → OpensParts moment left_since old new d e (Ok parts) → IsJudged parts result → OpensSite moment left_since old new d e result
  site_opened parts result opened judged =
      let is = place_judged d e alike parts opened.parts result judged in
      record { site = is; rest = rests result opened.rest; whole = whole d e alike result is; moments = opened.moments }

  pub site_not_opened : (error : SiteError) → OpensParts moment left_since old new d e (Err error) → OpensSite moment left_since old new d e (Err error)
  site_not_opened error opened =
      let is = site_refused d e alike error opened.parts in
      record { site = is; rest = tt; whole = whole d e alike (Err error) is; moments = opened.moments }
