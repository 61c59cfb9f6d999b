use Rattle.std.proofs.Common.{◌∙◌, sym, arith}
use Rattle.std.proofs.lemmas.Bool.{false≢true}
use Rattle.bound_cert.specs.Judgements.{nothing_told}
use Rattle.bound_cert.specs.Multipliers.{IsGive}
use Rattle.cert_check.proofs.GiveLines.{Summed, give_breaks, give_goes, give_ends}
use Rattle.cert_check.proofs.Placings.{give_at}
use Rattle.cert_check.proofs.Keepings.{node_fits}
use Rattle.cert_check.proofs.kept.Kept.take_give.Goals as goal

pub returns-then-not-is_used : goal.returns-then-not-is_used
returns-then-not-is_used c =
    give_breaks c.args.table.now c.args.self.now _ c.args.give c.args.next (λ told k. false≢true (sym c.if-not-is_used.true ∙ (c.is_used.ensures told c.args.give.charge c.args.give.reward).1 k))

pub take-requires-clause-class : goal.take-requires-clause-class
take-requires-clause-class c =
    let used : IsGive c.args.table.now c.args.give = (c.is_used.ensures nothing_told c.args.give.charge c.args.give.reward).0 c.if-not-is_used.false in
    used.known

pub take-requires-clause-file : goal.take-requires-clause-file
take-requires-clause-file c =
    let used : IsGive c.args.table.now c.args.give = (c.is_used.ensures nothing_told c.args.give.charge c.args.give.reward).0 c.if-not-is_used.false in
    omega (arith, used.file, c.requires.kept.shares)

pub returns-then-not-is_last : goal.returns-then-not-is_last
returns-then-not-is_last c =
    let used : IsGive c.args.table.now c.args.give = (c.is_used.ensures nothing_told c.args.give.charge c.args.give.reward).0 c.if-not-is_used.false in
    let s : Summed c.args.table.now c.args.give c.args.self.now.leaf c.take.new.self c.args.table.now.files =
    record { small = c.take.ensures.small; shares = c.take.ensures.files ∙ c.requires.kept.shares; p_is = c.take.ensures.p; q_is = c.take.ensures.q; class = c.take.ensures.class; count = c.take.ensures.gives; sums = c.take.ensures.sums } in
    give_goes c.args.table.now c.args.self.now c.take.new.self c.args.give c.args.next c.requires.kept c.requires.placed (sym c.is_last_give-is_last.ensures ∙ c.if-not-is_last.true) used s

pub end_leaf-requires : goal.end_leaf-requires
end_leaf-requires c =
    let k = c.requires.kept in
    let used : IsGive c.args.table.now c.args.give = (c.is_used.ensures nothing_told c.args.give.charge c.args.give.reward).0 c.if-not-is_used.false in
    let at = give_at c.args.self.now.place c.args.next c.args.give.class c.args.give.file c.args.give.charge c.args.give.reward _ c.args.self.now.leaf.class c.args.self.now.leaf.gives c.requires.placed k.at in
    record {
      range = k.range;
      bound = k.bound;
      shares = c.take.ensures.files ∙ k.shares;
      small = c.take.ensures.small;
      class = omega (arith, c.take.ensures.class, used.known);
      waits = at.waits;
      node = node_fits c.args.table.now c.args.self.now k at.waits;
    }

pub returns : goal.returns
returns c =
    let used : IsGive c.args.table.now c.args.give = (c.is_used.ensures nothing_told c.args.give.charge c.args.give.reward).0 c.if-not-is_used.false in
    let s : Summed c.args.table.now c.args.give c.args.self.now.leaf c.take.new.self c.args.table.now.files =
    record { small = c.take.ensures.small; shares = c.take.ensures.files ∙ c.requires.kept.shares; p_is = c.take.ensures.p; q_is = c.take.ensures.q; class = c.take.ensures.class; count = c.take.ensures.gives; sums = c.take.ensures.sums } in
    give_ends c.args.table.now c.args.self.now c.end_leaf.new.self c.take.new.self c.args.give c.args.next c.end_leaf.result c.requires.kept c.requires.placed (sym c.is_last_give-is_last.ensures ∙ c.if-not-is_last.false) used s c.end_leaf.ensures
