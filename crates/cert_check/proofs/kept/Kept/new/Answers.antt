use Rattle.std.proofs.Common.{refl, ◌∙◌, ap}
use Rattle.seed_model.specs.Nodes.{undecided_node}
use Rattle.cert_check.proofs.kept.Kept.new.Goals as goal

pub returns-clause-told : goal.returns-clause-told
returns-clause-told c = record {
  place = refl;
  range = refl;
  pinned = refl;
  root = c.in_ok-new.ensures.root ∙ ap undecided_node c.files-files.ensures.files;
  answer = refl;
  sums = refl;
  plan = tt;
  bound = refl;
  waiting = c.in_ok-new.ensures.waiting;
  branchings = refl;
  p = c.in_ok-new-2.ensures.begun.0;
  q = c.in_ok-new-2.ensures.begun.1;
  gives = c.in_ok-new-2.ensures.sums c.args.table.now;
}
