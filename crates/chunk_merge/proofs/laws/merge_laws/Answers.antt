use Rattle.chunk_merge.proofs.Best.{keeps_sums, keeps_total, has_each_once, merges_recipes, keeps_best, keeps_none}
use Rattle.chunk_merge.proofs.Folded.{is-table}
use Rattle.chunk_merge.proofs.laws.merge_laws.Goals as goal

pub returns : goal.returns
returns c = record {
  sums = keeps_sums;
  total = keeps_total;
  once = has_each_once;
  tables = is-table;
  recipes = merges_recipes;
  best = keeps_best;
  none = keeps_none;
}
