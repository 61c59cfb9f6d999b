-- A record added to A, as what the site makes of it.
use Rattle.std.proofs.Common.{◌≡◌, ℕ, [], ◌∷◌, Bool, false, Some, refl, sym, ◌∙◌, ap, subst, arith}
use Rattle.std.specs.Prelude.{Result, Ok, Err}
use Rattle.std.specs.Option.{option_and_then, option_map}
use Rattle.std.proofs.lemmas.Bool.{true≢false}
use Rattle.volume_disk.specs.Disk.{Disk, Images}
use Rattle.site_forms.specs.VolumeRecords.{VolumeRecord, IsVolumeRecord}
use Rattle.site_forms.specs.Volumes.{Shape}
use Rattle.chunk_log.specs.LogValues.{LogValue}
use Rattle.chunk_volume.specs.declared.errors.VolError.{VolError}
use Rattle.chunk_volume.specs.declared.errors.VolError.TheVariants as vol
use Rattle.chunk_volume.specs.Adding.{Adds, AddsRecord, IsAdded, IsSame}
use Rattle.chunk_volume.specs.VolumeValues.{VolumeValue}
use Rattle.site_core.specs.Cursors.{IsCursorOf}
use Rattle.site_core.specs.Events.{Shapes, MayAppendTo, happens_to}
use Rattle.site_core.specs.Events.Append.{ToA}
use Rattle.site_core.specs.Lasting.{IsKept}
use Rattle.seed_mover.specs.declared.errors.SiteError.{SiteError}
use Rattle.seed_mover.specs.declared.site.Site.TheInside.{Inside}
use Rattle.site_runs.specs.Runs.{AddsTo}
use Rattle.site_runs.proofs.Adding.{adds_to_a}
use Rattle.seed_mover.specs.Appending.{AppendsOne}
use Rattle.seed_mover.specs.Entries.{NotesVolume}
use Rattle.seed_mover.specs.Errors.{of_volume, refuses}
use Rattle.seed_mover.specs.Running.{IsAfter, IsSameSite}
use Rattle.seed_mover.specs.SiteInside.{KeepsSite, view_of}
use Rattle.site_runs.specs.SiteValues.{SiteValue, shapes_in}
use Rattle.seed_mover.proofs.Folded.{cursor_a, kept_with}
use Rattle.seed_mover.proofs.Noted.{volume_ok, volume_refused}
use Rattle.seed_mover.proofs.Same.{keeps_itself, same_itself, same_journal}

-- the site with another A
abbrev pub with_a : SiteValue → VolumeValue → Bool → SiteValue
with_a v w spent = record { a = w; b = v.b; journal = v.journal; spent = spent }

module _ (v : SiteValue) (w : VolumeValue) (spent : Bool) (r : VolumeRecord) (fresh : v.spent ≡ false) where
  -- IN MEMORY

  shapes_a : IsAdded v.a w r → happens_to (shapes_in v) (ToA r) ≡ Some (shapes_in (with_a v w spent))
  shapes_a added = ap (option_map (λ (x : Shape). record (shapes_in v) { a = x })) added.shape

  after_a : IsAdded v.a w r → spent ≡ false → IsAfter v (with_a v w spent) (ToA r ∷ [])
  after_a added is = record {
    shapes = ap (option_and_then (λ (u : Shapes). Some u)) (shapes_a added);
    logs = ap (λ (l : LogValue). record { a = l; b = v.b.log; journal = v.journal.log }) added.log;
    spent = is ∙ sym fresh;
  }

  same_a : IsSame v.a w → spent ≡ false → IsSameSite v (with_a v w spent)
  same_a same is = record { a = same; b = same_itself v.b; journal = same_journal v.journal; spent = is ∙ sym fresh }

  err_a : (error : VolError) → Adds {T = Unit {0}} v.a w r (Err error) → NotesVolume spent (Err error) (Err (of_volume error)) → AppendsOne v (with_a v w spent) (ToA r) (Err (of_volume error))
  err_a vol.RackFault adds notes = (adds.0, notes.1)
  err_a (vol.DeviceFull device at len) adds notes = (record { full = adds.0; device_is = adds.1; at_is = adds.2; len_is = adds.3 }, same_a adds.4 notes.1)
  err_a vol.Memory adds notes = (adds.0, same_a adds.1 notes.1)
  err_a (vol.Damage device at) adds notes = absurd adds
  err_a (vol.BadChunk name found) adds notes = absurd adds
  err_a (vol.Collision name) adds notes = absurd adds
  err_a vol.Exists adds notes = absurd adds
  err_a vol.NoSuchFile adds notes = absurd adds
  err_a vol.Spent adds notes = absurd adds

  pub appends_a : (done : Result (Unit {0}) VolError) (result : Result (Unit {0}) SiteError) → Adds v.a w r done → NotesVolume spent done result → AppendsOne v (with_a v w spent) (ToA r) result
  appends_a (Ok u) result adds notes =
      subst (λ (x : Result (Unit {0}) SiteError). AppendsOne v (with_a v w spent) (ToA r) x) (sym notes.0)
      (adds.0, after_a adds.1 notes.1, (adds.1.room, keeps_itself v.b.room, omega arith))
  appends_a (Err error) result adds notes = subst (λ (x : Result (Unit {0}) SiteError). AppendsOne v (with_a v w spent) (ToA r) x) (sym notes.0) (err_a error adds (refl, notes.1))

  -- ON THE DISK

  module _ {D : Type 0} (disk : D → Disk) (moment : D → ℕ) (left_since : D → ℕ → Images → Type 0) (old new : D) (lawful : IsVolumeRecord r) where
    pub appended_a : (done : Result (Unit {0}) VolError) (result : Result (Unit {0}) SiteError) → Adds v.a w r done → NotesVolume spent done result → AddsRecord moment left_since old new (disk old) (disk new) v.a w r done
        → AddsTo disk moment left_since refuses old new v (with_a v w spent) (ToA r) result
    appended_a done result told notes call =
        adds_to_a refuses disk moment left_since old new v (with_a v w spent) r done result (volume_ok spent done result notes) (volume_refused spent done result notes) call.alone lawful call refl refl told

-- WHAT THE SITE KEEPS

module _ (s : Inside) (w : VolumeValue) (spent : Bool) (r : VolumeRecord) (fresh : s.spent ≡ false) (keeps : KeepsSite s) (may : MayAppendTo (shapes_in (view_of s)) (ToA r)) where
  abbrev inside_a : Inside
  inside_a = record s { a = w; spent = spent }

  added_inside_a : IsAdded s.a w r → KeepsSite inside_a
  added_inside_a added =
      let is = shapes_a (view_of s) w spent r fresh added in
      let old = keeps.fresh fresh in
      record {
        kept = kept_with (shapes_in (view_of s)) (shapes_in (view_of inside_a)) (ToA r) keeps.kept may is;
        cursor = cursor_a (shapes_in (view_of s)) (shapes_in (view_of inside_a)) s.cursor r may is keeps.cursor;
        fresh = λ _. record { a = ap (λ (l : LogValue). l.spent) added.log ∙ old.a; b = old.b; journal = old.journal };
      }

  same_inside_a : w.shape ≡ s.a.shape → (spent ≡ false → w.log.spent ≡ false) → KeepsSite inside_a
  same_inside_a shape log =
      let old = keeps.fresh fresh in
      record {
        kept = subst (λ (x : Shape). IsKept (record { a = x; b = s.b.shape; phase = s.journal.phase })) (sym shape) keeps.kept;
        cursor = subst (λ (x : Shape). IsCursorOf x s.b.shape s.journal.phase s.cursor) (sym shape) keeps.cursor;
        fresh = λ is. record { a = log is; b = old.b; journal = old.journal };
      }

  same_log_a : IsSame s.a w → w.log.spent ≡ false
  same_log_a same = ap (λ (l : LogValue). l.spent) same.log ∙ (keeps.fresh fresh).a

  pub inside_keeps_a : (done : Result (Unit {0}) VolError) (result : Result (Unit {0}) SiteError) → Adds s.a w r done → NotesVolume spent done result → KeepsSite inside_a
  inside_keeps_a (Ok u) result adds notes = added_inside_a adds.1
  inside_keeps_a (Err vol.RackFault) result adds notes = same_inside_a adds.1.shape (λ is. absurd (true≢false (sym notes.1 ∙ is)))
  inside_keeps_a (Err (vol.DeviceFull device at len)) result adds notes = same_inside_a adds.4.shape (λ _. same_log_a adds.4)
  inside_keeps_a (Err vol.Memory) result adds notes = same_inside_a adds.1.shape (λ _. same_log_a adds.1)
  inside_keeps_a (Err (vol.Damage device at)) result adds notes = absurd adds
  inside_keeps_a (Err (vol.BadChunk name found)) result adds notes = absurd adds
  inside_keeps_a (Err (vol.Collision name)) result adds notes = absurd adds
  inside_keeps_a (Err vol.Exists) result adds notes = absurd adds
  inside_keeps_a (Err vol.NoSuchFile) result adds notes = absurd adds
  inside_keeps_a (Err vol.Spent) result adds notes = absurd adds
