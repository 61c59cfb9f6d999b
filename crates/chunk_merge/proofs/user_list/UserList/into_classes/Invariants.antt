use Rattle.std.proofs.Common.{◌≡◌, ◌+◌, ◌++◌, length, drop}
use Rattle.chunk_merge.specs.Classes.{classes_in}
use Rattle.list_facts.specs.Listed.{lists_in}
use Rattle.chunk_merge.proofs.user_list.UserList.into_classes.Given as goal

abbrev pub invariant-loop-list : goal.invariant-loop-list
invariant-loop-list l = record {
  left : length l.classes.items + length l.list-iterator ≡ length l.sizes;
  made : l.classes.items ++ classes_in (lists_in l.list-iterator) (drop (length l.classes.items) l.sizes) ≡ classes_in l.fn.self l.sizes;
}
