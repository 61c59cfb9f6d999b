use Rattle.seed_model.proofs.NodeMembers.{ends, between, low_none, high_none, free_files_split, members_go_down, members_go_up, undecided_admits}
use Rattle.seed_model.proofs.node.node_laws.Goals as goal

pub returns : goal.returns
returns c = record {
  ends = ends;
  between = between;
  low = low_none;
  high = high_none;
  split = free_files_split;
  down = members_go_down;
  up = members_go_up;
  undecided = undecided_admits;
}
