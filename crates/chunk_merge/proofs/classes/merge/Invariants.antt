use Rattle.std.proofs.Common.{◌≡◌, [], length, map}
use Rattle.std.specs.Prelude.{fold}
use Rattle.std.specs.List.{range_with_len}
use Rattle.incidence.specs.Incidences.{class_at}
use Rattle.chunk_merge.specs.Classes.{with_class, classes_in}
use Rattle.chunk_merge.proofs.classes.merge.Given as goal

abbrev pub invariant-loop-chunk : goal.invariant-loop-chunk
invariant-loop-chunk l = record {
  same : length l.sizes.items ≡ length l.users;
  classes : classes_in l.users l.sizes.items ≡ fold with_class [] (map (class_at l.incidence) (range_with_len 0 l.chunk));
}
