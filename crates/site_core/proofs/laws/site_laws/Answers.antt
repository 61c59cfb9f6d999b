use Rattle.site_core.proofs.EventRuns.{actions_allowed, all_joined, allowed_front, allowed_joined}
use Rattle.site_core.proofs.Folding.{folded_kept}
use Rattle.site_core.proofs.Lasting.{append_folds, event_view, all_keep, all_origin, begin_origin, moved_split, journal_same, undone_restores, one_less_left, few_remain}
use Rattle.site_core.proofs.Restoring.{one_value, undo_finishes, undo_restores}
use Rattle.site_core.proofs.Stillness.{all_spared, open_still, still_view}
use Rattle.site_core.proofs.Undoing.{undo_ends}
use Rattle.site_core.proofs.Views.{reads_view}
use Rattle.site_forms.specs.Sites.{shape_of}
use Rattle.site_core.proofs.laws.site_laws.Goals as goal

pub returns : goal.returns
returns g = record {
  sites = all_keep;
  folds = append_folds;
  reads = reads_view;
  views = event_view;
  still = still_view;
  busy = open_still;
  spared = all_spared;
  origin = all_origin;
  begins = begin_origin;
  values = one_value;
  moved = moved_split;
  marks = journal_same;
  undone = undone_restores;
  restored = undo_restores;
  finished = undo_finishes;
  undo = undo_ends;
  actions = actions_allowed;
  all_joined = all_joined;
  allowed_front = allowed_front;
  allowed_joined = allowed_joined;
  next = one_less_left;
  few = λ s is. few_remain (shape_of s.a) (shape_of s.b) s.phase (folded_kept s is);
}
