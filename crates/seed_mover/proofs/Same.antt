-- Sites that are the same but for their room.
use Rattle.std.proofs.Common.{◌≡◌, ℕ, Some, refl, sym, ◌∙◌, ap, subst, arith}
use Rattle.volume_disk.specs.Disk.{Disk}
use Rattle.site_forms.specs.Views.{State}
use Rattle.site_forms.specs.Volumes.{Volume}
use Rattle.chunk_log.specs.LogValues.{LogValue}
use Rattle.chunk_log.specs.Standing.{LogStands}
use Rattle.chunk_volume.specs.Adding.{IsSame}
use Rattle.chunk_volume.specs.Room.{KeepsRoom}
use Rattle.chunk_volume.specs.Standing.{Keeps, VolumeStands}
use Rattle.chunk_volume.specs.VolumeValues.{Room, VolumeValue}
use Rattle.volume_index.specs.HoldingValues.{Places}
use Rattle.move_journal.specs.Marking.{IsSame as IsSameJournal}
use Rattle.move_journal.specs.JournalValues.{JournalValue}
use Rattle.move_journal.specs.Standing.{JournalStands, last_gate_of}
use Rattle.site_core.specs.Cursors.{IsCursorOf}
use Rattle.site_core.specs.Events.{Shapes}
use Rattle.site_core.specs.Lasting.{IsKept}
use Rattle.seed_mover.specs.declared.site.Site.TheInside.{Inside}
use Rattle.seed_mover.specs.Running.{IsSameSite}
use Rattle.seed_mover.specs.SiteInside.{KeepsSite, view_of}
use Rattle.site_runs.specs.SiteValues.{SiteStands, SiteValue, shapes_in}

pub keeps_itself : (room : Room) → KeepsRoom room room
keeps_itself room = record { chunks = omega arith; files = omega arith; body = omega arith }

pub same_itself : (v : VolumeValue) → IsSame v v
same_itself v = record { shape = refl; places = refl; log = refl; room = keeps_itself v.room }

pub same_journal : (j : JournalValue) → IsSameJournal j j
same_journal j = record { phase = refl; last = refl; log = refl; room = omega arith }

pub same_site : (v : SiteValue) → IsSameSite v v
same_site v = record { a = same_itself v.a; b = same_itself v.b; journal = same_journal v.journal; spent = refl }

-- THE SAME STANDS FOR THE SAME

volume_stands_same : (place : ℕ) (v w : VolumeValue) (volume : Volume) (d : Disk) → IsSame v w → VolumeStands place v d volume → VolumeStands place w d volume
volume_stands_same place v w volume d same stands = record {
  records = stands.records;
  log = subst (λ (l : LogValue). LogStands place stands.records l d) (sym same.log) stands.log;
  folds = stands.folds;
  shape = same.shape ∙ stands.shape;
  bytes = subst (λ (l : LogValue). Keeps w.places (d l.device).image l.end volume) (sym same.log) (subst (λ (p : Places). Keeps p (d v.log.device).image v.log.end volume) (sym same.places) stands.bytes);
}

journal_stands_same : (v w : JournalValue) (d : Disk) → IsSameJournal v w → JournalStands v d → JournalStands w d
journal_stands_same v w d same stands = record {
  records = stands.records;
  log = subst (λ (l : LogValue). LogStands 2 stands.records l d) (sym same.log) stands.log;
  folds = stands.folds ∙ ap Some (sym same.phase);
  last = same.last ∙ stands.last ∙ ap (λ (l : LogValue). last_gate_of stands.records l.end) (sym same.log);
}

pub stands_same : (v w : SiteValue) (d : Disk) (s : State) → IsSameSite v w → SiteStands v d s → SiteStands w d s
stands_same v w d s same stands = record {
  a = volume_stands_same 0 v.a w.a s.a d same.a stands.a;
  b = volume_stands_same 1 v.b w.b s.b d same.b stands.b;
  journal = journal_stands_same v.journal w.journal d same.journal stands.journal;
  phase = same.journal.phase ∙ stands.phase;
}

-- ROOM IN MEMORY

-- a site keeps what it keeps with more room
pub keeps_room : (s : Inside) (a b : VolumeValue) (j : JournalValue) → IsSame s.a a → IsSame s.b b → IsSameJournal s.journal j → KeepsSite s → KeepsSite (record s { a = a; b = b; journal = j })
keeps_room s a b j same_a same_b same_j keeps =
    let shapes : ◌≡◌ {A = Shapes} (shapes_in (view_of s)) (record { a = a.shape; b = b.shape; phase = j.phase }) = λ i. record { a = sym same_a.shape i; b = sym same_b.shape i; phase = sym same_j.phase i } in
    record {
      kept = subst IsKept shapes keeps.kept;
      cursor = subst (λ (t : Shapes). IsCursorOf t.a t.b t.phase s.cursor) shapes keeps.cursor;
      fresh = λ is.
          let old = keeps.fresh is in
          record { a = ap (λ (l : LogValue). l.spent) same_a.log ∙ old.a; b = ap (λ (l : LogValue). l.spent) same_b.log ∙ old.b; journal = ap (λ (l : LogValue). l.spent) same_j.log ∙ old.journal };
    }

pub same_room : (v : SiteValue) (a b : VolumeValue) (j : JournalValue) → IsSame v.a a → IsSame v.b b → IsSameJournal v.journal j → IsSameSite v (record { a = a; b = b; journal = j; spent = v.spent })
same_room v a b j same_a same_b same_j = record { a = same_a; b = same_b; journal = same_j; spent = refl }
