use Rattle.std.proofs.Common.{◌≡◌, ◌∙◌, ◌<◌, ap, arith, false, get_or, length, sym}
use Rattle.std.proofs.lemmas.Bool.{eqb-true}
use Rattle.seed_model.proofs.BitSets.{length-set_of, word-agrees}
use Rattle.seed_model.proofs.plan_set.PlanSet.shares_word.Goals as goal

pub index-requires : goal.index-requires
index-requires c =
    let len : length c.args.self.now ≡ c.self.inside.files = length-set_of c.args.self.now c.self.inside.files c.self.inside.words.items c.self.view_is in
    omega (arith, c.self.invariant, c.requires.within, len, c.self.inside.words.ok)

pub index-requires-2 : goal.index-requires-2
index-requires-2 c =
    let len : length c.args.other.now ≡ c.other.inside.files = length-set_of c.args.other.now c.other.inside.files c.other.inside.words.items c.other.view_is in
    omega (arith, c.other.invariant, c.requires.within, c.requires.same, len, c.other.inside.words.ok)

pub returns : goal.returns
returns c =
    let one : length c.args.self.now ≡ c.self.inside.files = length-set_of c.args.self.now c.self.inside.files c.self.inside.words.items c.self.view_is in
    let two : length c.args.other.now ≡ c.other.inside.files = length-set_of c.args.other.now c.other.inside.files c.other.inside.words.items c.other.view_is in
    let inside : c.args.word < length c.self.inside.words.items = omega (arith, c.self.invariant, c.requires.within, one) in
    let inside2 : c.args.word < length c.other.inside.words.items = omega (arith, c.other.invariant, c.requires.within, c.requires.same, two) in
    λ same file low high.
    ap (λ t. get_or t file false) (sym c.self.view_is)
    ∙ (word-agrees c.self.inside.files c.other.inside.files c.self.inside.words.items c.other.inside.words.items c.args.word c.index.result.now c.index-2.result.now (omega (arith, one, two, c.requires.same)) inside inside2 c.index.ensures c.index-2.ensures (eqb-true c.index.result.now c.index-2.result.now same) file low high
    ∙ ap (λ t. get_or t file false) c.other.view_is)
