use Rattle.std.proofs.Common.{◌%◌, ◌<◌, refl, arith, w64, true}
use Rattle.std.proofs.lemmas.Nat.Bits.{bit_at_set_same, bit_at_set_other}
use Rattle.seed_model.proofs.BitSets.{bit_written, word_of}
use Rattle.seed_model.proofs.plan_set.PlanSet.insert.Goals as goal

pub index_mut-requires : goal.index_mut-requires
index_mut-requires c = omega (arith, (word_of c.args.self.now c.self.inside.files c.self.inside.words.items c.args.file c.self.view_is c.self.invariant c.requires).1)

pub returns : goal.returns
returns c =
    let word = c.index_mut.result.now in
    let bit : c.args.file % 64 < 64 = omega arith in
    bit_written c.args.self.now c.self.inside.files c.self.inside.words.items c.args.file word _ true c.self.view_is c.self.invariant c.requires c.index_mut.ensures.value
    (rw (bit_at_set_same w64 word (c.args.file % 64) bit) refl) (λ i lt ne. bit_at_set_other w64 word (c.args.file % 64) bit i ne)
