use Rattle.std.proofs.Common.{refl, arith}
use Rattle.volume_index.specs.declared.index.Index.TheInside.{Inside}
use Rattle.volume_index.proofs.Indexing.{kept_same}
use Rattle.volume_index.proofs.index.Index.sort.Goals as goal

pub invariant_of-self : goal.invariant_of-self
invariant_of-self c =
    let a = c.self.inside in
    let b : Inside = record a { chunks = c.sort.new.self; first = 0 } in
    kept_same a b c.self.invariant c.sort.ensures.entries refl refl refl refl (omega arith)
