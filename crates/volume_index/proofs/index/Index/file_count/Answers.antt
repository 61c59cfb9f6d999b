use Rattle.std.proofs.Common.{◌∙◌, ap, subst, arith}
use Rattle.std.specs.FinMap as map
use Rattle.volume_index.specs.HoldingValues.{KeepsShape}
use Rattle.volume_index.specs.Indexes.{IndexValue}
use Rattle.volume_index.proofs.Indexing.{few_of}
use Rattle.volume_index.proofs.index.Index.file_count.Goals as goal

pub overflow_cast-result : goal.overflow_cast-result
overflow_cast-result c = omega (arith, c.len.ensures, (few_of c.self.inside c.self.invariant).files)

pub returns-clause-count : goal.returns-clause-count
returns-clause-count c = c.len.ensures ∙ ap (λ (v : IndexValue). map.len v.shape.files) c.self.view_is

pub returns-clause-keeps : goal.returns-clause-keeps
returns-clause-keeps c = subst (λ (v : IndexValue). KeepsShape v.shape) c.self.view_is c.self.invariant.shape
