-- A record added to B, as what the site makes of it.
use Rattle.std.proofs.Common.{◌≡◌, ℕ, [], ◌∷◌, Bool, false, Some, refl, sym, ◌∙◌, ap, subst, arith}
use Rattle.std.specs.Prelude.{Result, Ok, Err}
use Rattle.std.specs.Option.{option_and_then, option_map}
use Rattle.std.proofs.lemmas.Bool.{true≢false}
use Rattle.volume_disk.specs.Disk.{Disk, Images}
use Rattle.site_forms.specs.VolumeRecords.{VolumeRecord, IsVolumeRecord}
use Rattle.site_forms.specs.Volumes.{Shape}
use Rattle.chunk_log.specs.LogValues.{LogValue}
use Rattle.chunk_volume.specs.declared.errors.VolError.{VolError}
use Rattle.chunk_volume.specs.declared.errors.VolError.TheVariants as vol
use Rattle.chunk_volume.specs.Adding.{Adds, AddsRecord, IsAdded, IsSame}
use Rattle.chunk_volume.specs.VolumeValues.{VolumeValue}
use Rattle.site_core.specs.Cursors.{IsCursorOf}
use Rattle.site_core.specs.Events.{Shapes, MayAppendTo, happens_to}
use Rattle.site_core.specs.Events.Append.{ToB}
use Rattle.site_core.specs.Lasting.{IsKept}
use Rattle.seed_mover.specs.declared.errors.SiteError.{SiteError}
use Rattle.seed_mover.specs.declared.site.Site.TheInside.{Inside}
use Rattle.site_runs.specs.Runs.{AddsTo}
use Rattle.site_runs.proofs.Adding.{adds_to_b}
use Rattle.seed_mover.specs.Appending.{AppendsOne}
use Rattle.seed_mover.specs.Entries.{NotesVolume}
use Rattle.seed_mover.specs.Errors.{of_volume, refuses}
use Rattle.seed_mover.specs.Running.{IsAfter, IsSameSite}
use Rattle.seed_mover.specs.SiteInside.{KeepsSite, view_of}
use Rattle.site_runs.specs.SiteValues.{SiteValue, shapes_in}
use Rattle.seed_mover.proofs.Folded.{cursor_b, kept_with}
use Rattle.seed_mover.proofs.Noted.{volume_ok, volume_refused}
use Rattle.seed_mover.proofs.Same.{keeps_itself, same_itself, same_journal}

-- the site with another B
abbrev pub with_b : SiteValue → VolumeValue → Bool → SiteValue
with_b v w spent = record { a = v.a; b = w; journal = v.journal; spent = spent }

module _ (v : SiteValue) (w : VolumeValue) (spent : Bool) (r : VolumeRecord) (fresh : v.spent ≡ false) where
  -- IN MEMORY

  shapes_b : IsAdded v.b w r → happens_to (shapes_in v) (ToB r) ≡ Some (shapes_in (with_b v w spent))
  shapes_b added = ap (option_map (λ (x : Shape). record (shapes_in v) { b = x })) added.shape

  after_b : IsAdded v.b w r → spent ≡ false → IsAfter v (with_b v w spent) (ToB r ∷ [])
  after_b added is = record {
    shapes = ap (option_and_then (λ (u : Shapes). Some u)) (shapes_b added);
    logs = ap (λ (l : LogValue). record { a = v.a.log; b = l; journal = v.journal.log }) added.log;
    spent = is ∙ sym fresh;
  }

  same_b : IsSame v.b w → spent ≡ false → IsSameSite v (with_b v w spent)
  same_b same is = record { a = same_itself v.a; b = same; journal = same_journal v.journal; spent = is ∙ sym fresh }

  err_b : (error : VolError) → Adds {T = Unit {0}} v.b w r (Err error) → NotesVolume spent (Err error) (Err (of_volume error)) → AppendsOne v (with_b v w spent) (ToB r) (Err (of_volume error))
  err_b vol.RackFault adds notes = (adds.0, notes.1)
  err_b (vol.DeviceFull device at len) adds notes = (record { full = adds.0; device_is = adds.1; at_is = adds.2; len_is = adds.3 }, same_b adds.4 notes.1)
  err_b vol.Memory adds notes = (adds.0, same_b adds.1 notes.1)
  err_b (vol.Damage device at) adds notes = absurd adds
  err_b (vol.BadChunk name found) adds notes = absurd adds
  err_b (vol.Collision name) adds notes = absurd adds
  err_b vol.Exists adds notes = absurd adds
  err_b vol.NoSuchFile adds notes = absurd adds
  err_b vol.Spent adds notes = absurd adds

  pub appends_b : (done : Result (Unit {0}) VolError) (result : Result (Unit {0}) SiteError) → Adds v.b w r done → NotesVolume spent done result → AppendsOne v (with_b v w spent) (ToB r) result
  appends_b (Ok u) result adds notes =
      subst (λ (x : Result (Unit {0}) SiteError). AppendsOne v (with_b v w spent) (ToB r) x) (sym notes.0)
      (adds.0, after_b adds.1 notes.1, (keeps_itself v.a.room, adds.1.room, omega arith))
  appends_b (Err error) result adds notes = subst (λ (x : Result (Unit {0}) SiteError). AppendsOne v (with_b v w spent) (ToB r) x) (sym notes.0) (err_b error adds (refl, notes.1))

  -- ON THE DISK

  module _ {D : Type 0} (disk : D → Disk) (moment : D → ℕ) (left_since : D → ℕ → Images → Type 0) (old new : D) (lawful : IsVolumeRecord r) where
    pub appended_b : (done : Result (Unit {0}) VolError) (result : Result (Unit {0}) SiteError) → Adds v.b w r done → NotesVolume spent done result → AddsRecord moment left_since old new (disk old) (disk new) v.b w r done
        → AddsTo disk moment left_since refuses old new v (with_b v w spent) (ToB r) result
    appended_b done result told notes call =
        adds_to_b refuses disk moment left_since old new v (with_b v w spent) r done result (volume_ok spent done result notes) (volume_refused spent done result notes) call.alone lawful call refl refl told

-- WHAT THE SITE KEEPS

module _ (s : Inside) (w : VolumeValue) (spent : Bool) (r : VolumeRecord) (fresh : s.spent ≡ false) (keeps : KeepsSite s) (may : MayAppendTo (shapes_in (view_of s)) (ToB r)) where
  abbrev inside_b : Inside
  inside_b = record s { b = w; spent = spent }

  added_inside_b : IsAdded s.b w r → KeepsSite inside_b
  added_inside_b added =
      let is = shapes_b (view_of s) w spent r fresh added in
      let old = keeps.fresh fresh in
      record {
        kept = kept_with (shapes_in (view_of s)) (shapes_in (view_of inside_b)) (ToB r) keeps.kept may is;
        cursor = cursor_b (shapes_in (view_of s)) (shapes_in (view_of inside_b)) s.cursor r may is keeps.cursor;
        fresh = λ _. record { a = old.a; b = ap (λ (l : LogValue). l.spent) added.log ∙ old.b; journal = old.journal };
      }

  same_inside_b : w.shape ≡ s.b.shape → (spent ≡ false → w.log.spent ≡ false) → KeepsSite inside_b
  same_inside_b shape log =
      let old = keeps.fresh fresh in
      record {
        kept = subst (λ (x : Shape). IsKept (record { a = s.a.shape; b = x; phase = s.journal.phase })) (sym shape) keeps.kept;
        cursor = subst (λ (x : Shape). IsCursorOf s.a.shape x s.journal.phase s.cursor) (sym shape) keeps.cursor;
        fresh = λ is. record { a = old.a; b = log is; journal = old.journal };
      }

  same_log_b : IsSame s.b w → w.log.spent ≡ false
  same_log_b same = ap (λ (l : LogValue). l.spent) same.log ∙ (keeps.fresh fresh).b

  pub inside_keeps_b : (done : Result (Unit {0}) VolError) (result : Result (Unit {0}) SiteError) → Adds s.b w r done → NotesVolume spent done result → KeepsSite inside_b
  inside_keeps_b (Ok u) result adds notes = added_inside_b adds.1
  inside_keeps_b (Err vol.RackFault) result adds notes = same_inside_b adds.1.shape (λ is. absurd (true≢false (sym notes.1 ∙ is)))
  inside_keeps_b (Err (vol.DeviceFull device at len)) result adds notes = same_inside_b adds.4.shape (λ _. same_log_b adds.4)
  inside_keeps_b (Err vol.Memory) result adds notes = same_inside_b adds.1.shape (λ _. same_log_b adds.1)
  inside_keeps_b (Err (vol.Damage device at)) result adds notes = absurd adds
  inside_keeps_b (Err (vol.BadChunk name found)) result adds notes = absurd adds
  inside_keeps_b (Err (vol.Collision name)) result adds notes = absurd adds
  inside_keeps_b (Err vol.Exists) result adds notes = absurd adds
  inside_keeps_b (Err vol.NoSuchFile) result adds notes = absurd adds
  inside_keeps_b (Err vol.Spent) result adds notes = absurd adds
