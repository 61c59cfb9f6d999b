-- A record added to the journal, as what the site makes of it.
use Rattle.std.proofs.Common.{◌≡◌, ℕ, ◌≤◌, [], ◌∷◌, length, Bool, false, Some, refl, sym, ◌∙◌, ap, subst, arith}
use Rattle.std.specs.Prelude.{Result, Ok, Err}
use Rattle.std.specs.Option.{option_and_then, option_map}
use Rattle.std.proofs.lemmas.Bool.{true≢false}
use Rattle.volume_disk.specs.Disk.{Disk, Images}
use Rattle.site_forms.specs.declared.phase.Phase.{Phase}
use Rattle.site_forms.specs.JournalRecords.{JournalRecord, journal_body}
use Rattle.site_forms.specs.Volumes.{Shape}
use Rattle.chunk_log.specs.LogValues.{LogValue}
use Rattle.move_journal.specs.declared.errors.JournalError.{JournalError}
use Rattle.move_journal.specs.declared.errors.JournalError.TheVariants as journal
use Rattle.move_journal.specs.Marking.{AddsMark, IsMarked, IsSame, Marks}
use Rattle.move_journal.specs.JournalValues.{JournalValue}
use Rattle.site_core.specs.declared.cursor.Cursor.{Cursor}
use Rattle.site_core.specs.Cursors.{IsCursorOf}
use Rattle.site_core.specs.Events.{Shapes, MayAppendTo, happens_to}
use Rattle.site_core.specs.Events.Append.{ToJournal}
use Rattle.site_core.specs.Lasting.{IsKept}
use Rattle.seed_mover.specs.declared.errors.SiteError.{SiteError}
use Rattle.seed_mover.specs.declared.site.Site.TheInside.{Inside}
use Rattle.site_runs.specs.Runs.{AddsTo}
use Rattle.site_runs.proofs.Adding.{adds_to_journal}
use Rattle.seed_mover.specs.Appending.{AppendsOne}
use Rattle.seed_mover.specs.Entries.{NotesJournal}
use Rattle.seed_mover.specs.Errors.{of_journal, refuses}
use Rattle.seed_mover.specs.Running.{IsAfter, IsSameSite}
use Rattle.seed_mover.specs.SiteInside.{KeepsSite, view_of}
use Rattle.site_runs.specs.SiteValues.{SiteValue, shapes_in}
use Rattle.seed_mover.proofs.Folded.{kept_with}
use Rattle.seed_mover.proofs.Noted.{journal_ok, journal_refused}
use Rattle.seed_mover.proofs.Same.{keeps_itself, same_itself}

-- the site with another journal
abbrev pub with_journal : SiteValue → JournalValue → Bool → SiteValue
with_journal v w spent = record { a = v.a; b = v.b; journal = w; spent = spent }

module _ (v : SiteValue) (w : JournalValue) (spent : Bool) (r : JournalRecord) (fresh : v.spent ≡ false) (fresh_log : v.journal.log.spent ≡ false) where
  -- IN MEMORY

  pub shapes_journal : IsMarked v.journal w r → happens_to (shapes_in v) (ToJournal r) ≡ Some (shapes_in (with_journal v w spent))
  shapes_journal added = ap (option_map (λ (x : Phase). record (shapes_in v) { phase = x })) added.phase

  after_journal : IsMarked v.journal w r → spent ≡ false → IsAfter v (with_journal v w spent) (ToJournal r ∷ [])
  after_journal added is = record {
    shapes = ap (option_and_then (λ (u : Shapes). Some u)) (shapes_journal added);
    logs = ap (λ (l : LogValue). record { a = v.a.log; b = v.b.log; journal = l }) added.log;
    spent = is ∙ sym fresh;
  }

  same_with_journal : IsSame v.journal w → spent ≡ false → IsSameSite v (with_journal v w spent)
  same_with_journal same is = record { a = same_itself v.a; b = same_itself v.b; journal = same; spent = is ∙ sym fresh }

  err_journal : (error : JournalError) → Marks {T = Unit {0}} v.journal w r (Err error) → NotesJournal spent (Err error) (Err (of_journal error)) → AppendsOne v (with_journal v w spent) (ToJournal r) (Err (of_journal error))
  err_journal journal.RackFault adds notes = (adds.1, notes.1)
  err_journal (journal.DeviceFull device at len) adds notes = (record { full = adds.1; device_is = adds.2; at_is = adds.3; len_is = adds.4 }, same_with_journal adds.5 notes.1)
  err_journal journal.Memory adds notes = (λ (fits : length (journal_body r) ≤ v.journal.room). omega (arith, adds.1, fits), same_with_journal adds.2 notes.1)
  err_journal (journal.Damage device at) adds notes = absurd adds
  err_journal journal.Spent adds notes = absurd (true≢false (sym adds.0 ∙ fresh_log))

  pub appends_journal : (done : Result (Unit {0}) JournalError) (result : Result (Unit {0}) SiteError) → Marks v.journal w r done → NotesJournal spent done result → AppendsOne v (with_journal v w spent) (ToJournal r) result
  appends_journal (Ok u) result adds notes =
      subst (λ (x : Result (Unit {0}) SiteError). AppendsOne v (with_journal v w spent) (ToJournal r) x) (sym notes.0)
      (adds.1, after_journal adds.2 notes.1, (keeps_itself v.a.room, keeps_itself v.b.room, adds.2.room))
  appends_journal (Err error) result adds notes = subst (λ (x : Result (Unit {0}) SiteError). AppendsOne v (with_journal v w spent) (ToJournal r) x) (sym notes.0) (err_journal error adds (refl, notes.1))

  -- ON THE DISK

  module _ {D : Type 0} (disk : D → Disk) (moment : D → ℕ) (left_since : D → ℕ → Images → Type 0) (old new : D) where
    pub appended_journal : (done : Result (Unit {0}) JournalError) (result : Result (Unit {0}) SiteError) → Marks v.journal w r done → NotesJournal spent done result → AddsMark moment left_since old new (disk old) (disk new) v.journal w r done
        → AddsTo disk moment left_since refuses old new v (with_journal v w spent) (ToJournal r) result
    appended_journal done result told notes call =
        adds_to_journal refuses disk moment left_since old new v (with_journal v w spent) r done result (journal_ok spent done result notes) (journal_refused spent done result notes) call.alone call refl refl told

-- WHAT THE SITE KEEPS

module _ (s : Inside) (w : JournalValue) (start : Cursor) (spent : Bool) (r : JournalRecord) (fresh : s.spent ≡ false) (keeps : KeepsSite s) (may : MayAppendTo (shapes_in (view_of s)) (ToJournal r)) (right : (a b : Shape) (phase : Phase) → IsCursorOf a b phase start) where
  abbrev inside_journal : Inside
  inside_journal = record s { journal = w; cursor = start; spent = spent }

  added_inside_journal : IsMarked s.journal w r → KeepsSite inside_journal
  added_inside_journal added =
      let old = keeps.fresh fresh in
      record {
        kept = kept_with (shapes_in (view_of s)) (shapes_in (view_of inside_journal)) (ToJournal r) keeps.kept may (shapes_journal (view_of s) w spent r fresh old.journal added);
        cursor = right s.a.shape s.b.shape w.phase;
        fresh = λ _. record { a = old.a; b = old.b; journal = ap (λ (l : LogValue). l.spent) added.log ∙ old.journal };
      }

  same_inside_journal : w.phase ≡ s.journal.phase → (spent ≡ false → w.log.spent ≡ false) → KeepsSite inside_journal
  same_inside_journal phase log =
      let old = keeps.fresh fresh in
      record {
        kept = subst (λ (x : Phase). IsKept (record { a = s.a.shape; b = s.b.shape; phase = x })) (sym phase) keeps.kept;
        cursor = right s.a.shape s.b.shape w.phase;
        fresh = λ is. record { a = old.a; b = old.b; journal = log is };
      }

  same_log_journal : IsSame s.journal w → w.log.spent ≡ false
  same_log_journal same = ap (λ (l : LogValue). l.spent) same.log ∙ (keeps.fresh fresh).journal

  pub inside_keeps_journal : (done : Result (Unit {0}) JournalError) (result : Result (Unit {0}) SiteError) → Marks s.journal w r done → NotesJournal spent done result → KeepsSite inside_journal
  inside_keeps_journal (Ok u) result adds notes = added_inside_journal adds.2
  inside_keeps_journal (Err journal.RackFault) result adds notes = same_inside_journal adds.2.phase (λ is. absurd (true≢false (sym notes.1 ∙ is)))
  inside_keeps_journal (Err (journal.DeviceFull device at len)) result adds notes = same_inside_journal adds.5.phase (λ _. same_log_journal adds.5)
  inside_keeps_journal (Err journal.Memory) result adds notes = same_inside_journal adds.2.phase (λ _. same_log_journal adds.2)
  inside_keeps_journal (Err (journal.Damage device at)) result adds notes = absurd adds
  inside_keeps_journal (Err journal.Spent) result adds notes = absurd (true≢false (sym adds.0 ∙ (keeps.fresh fresh).journal))
