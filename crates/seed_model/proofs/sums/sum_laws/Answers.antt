use Rattle.seed_model.proofs.ClassSums.{splits, grows, files_alone, stays_within_total}
use Rattle.seed_model.proofs.sums.sum_laws.Goals as goal

pub returns : goal.returns
returns c = record { splits = splits; grows = grows; files_alone = files_alone; total = stays_within_total }
