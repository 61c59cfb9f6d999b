use Rattle.bound_cert.proofs.Duality.{weak_duality}
use Rattle.bound_cert.proofs.Soundness.{bounds_members, bounds_mixes, trees_bound, valid_is_so}
use Rattle.bound_cert.proofs.TreeReading.{lines_are_trees}
use Rattle.bound_cert.proofs.SetsNamed.{texts_name}
use Rattle.bound_cert.proofs.Joining.{valid_passes_all, failure_is_not_valid}
use Rattle.bound_cert.proofs.OneReading.{bad_is_no_document, one_bad_line, one_document}
use Rattle.bound_cert.proofs.OneFailure.{one_failure, runs_on_unfailed}
use Rattle.bound_cert.proofs.Headings.{lines_tell_documents}
use Rattle.bound_cert.proofs.ShortLines.{lines_are_short}
use Rattle.bound_cert.proofs.laws.certificate_laws.Goals as goal

pub returns : goal.returns
returns c = record {
  duality = weak_duality;
  members = bounds_members;
  mixes = bounds_mixes;
  trees = trees_bound;
  lines = lines_are_trees;
  names = texts_name;
  sound = valid_is_so;
  judged = valid_passes_all;
  failed = failure_is_not_valid;
  one_failure = one_failure;
  unfailed = runs_on_unfailed;
  bad = bad_is_no_document;
  one_line = one_bad_line;
  one = one_document;
  short = lines_are_short;
  told = lines_tell_documents;
}
