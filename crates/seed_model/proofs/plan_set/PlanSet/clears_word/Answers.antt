use Rattle.std.proofs.Common.{◌≡◌, ◌∙◌, ◌<◌, Bool, ap, arith, false, get_or, length, sym, if◌then◌else◌}
use Rattle.std.proofs.lemmas.Bool.{eqb-true}
use Rattle.seed_model.proofs.BitSets.{length-bits_from, word-clears}
use Rattle.seed_model.proofs.plan_set.PlanSet.clears_word.Goals as goal

pub index-mine-requires : goal.index-mine-requires
index-mine-requires c =
    let len : length c.args.self.now ≡ c.self.inside.files = ap length (sym c.self.view_is) ∙ length-bits_from c.self.inside.words.items 0 c.self.inside.files in
    omega (arith, c.self.invariant, c.requires.within, len, c.self.inside.words.ok)

pub index-theirs-requires : goal.index-theirs-requires
index-theirs-requires c =
    let len : length c.args.other.now ≡ c.other.inside.files = ap length (sym c.other.view_is) ∙ length-bits_from c.other.inside.words.items 0 c.other.inside.files in
    omega (arith, c.other.invariant, c.requires.within, c.requires.same, len, c.other.inside.words.ok)

pub returns-then-inside : goal.returns-then-inside
returns-then-inside c =
    let one : length c.args.self.now ≡ c.self.inside.files = ap length (sym c.self.view_is) ∙ length-bits_from c.self.inside.words.items 0 c.self.inside.files in
    let two : length c.args.other.now ≡ c.other.inside.files = ap length (sym c.other.view_is) ∙ length-bits_from c.other.inside.words.items 0 c.other.inside.files in
    let mine : c.args.word < length c.self.inside.words.items = omega (arith, c.self.invariant, c.requires.within, one) in
    let theirs : c.args.word < length c.other.inside.words.items = omega (arith, c.other.invariant, c.requires.within, c.requires.same, two) in
    λ clear file low high has.
    ap (λ t. get_or t file false) (sym c.other.view_is)
    ∙ word-clears c.self.inside.files c.other.inside.files c.self.inside.words.items c.other.inside.words.items c.args.word c.index-mine.result.now c.index-theirs.result.now c.args.inside (omega (arith, one, two, c.requires.same)) mine theirs c.index-mine.ensures c.index-theirs.ensures
    (eqb-true _ _ clear ∙ ap (λ (b : Bool). if b then 0 else c.index-mine.result.now) (sym c.if-inside.true)) file low high (ap (λ t. get_or t file false) c.self.view_is ∙ has)

pub returns-else-inside : goal.returns-else-inside
returns-else-inside c =
    let one : length c.args.self.now ≡ c.self.inside.files = ap length (sym c.self.view_is) ∙ length-bits_from c.self.inside.words.items 0 c.self.inside.files in
    let two : length c.args.other.now ≡ c.other.inside.files = ap length (sym c.other.view_is) ∙ length-bits_from c.other.inside.words.items 0 c.other.inside.files in
    let mine : c.args.word < length c.self.inside.words.items = omega (arith, c.self.invariant, c.requires.within, one) in
    let theirs : c.args.word < length c.other.inside.words.items = omega (arith, c.other.invariant, c.requires.within, c.requires.same, two) in
    λ clear file low high has.
    ap (λ t. get_or t file false) (sym c.other.view_is)
    ∙ word-clears c.self.inside.files c.other.inside.files c.self.inside.words.items c.other.inside.words.items c.args.word c.index-mine.result.now c.index-theirs.result.now c.args.inside (omega (arith, one, two, c.requires.same)) mine theirs c.index-mine.ensures c.index-theirs.ensures
    (eqb-true _ _ clear ∙ ap (λ (b : Bool). if b then 0 else c.index-mine.result.now) (sym c.if-inside.false)) file low high (ap (λ t. get_or t file false) c.self.view_is ∙ has)
