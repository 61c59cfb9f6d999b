use Rattle.std.specs.Prelude.{◌↔◌, IsTrue}
use Rattle.std.proofs.Common.{◌∙◌, ℕ, ap, subst}
use Rattle.bound_cert.specs.Sets.{IsSetOf, mix_named}
use Rattle.cert_rules.proofs.Rules.{branch_difference, branch_mixing, branch_pass, branch_width, fails, named_difference, named_mixing}
use Rattle.cert_rules.proofs.branching.judge_branch.Goals as goal

pub returns-then-not-name_mix-clause-judged : goal.returns-then-not-name_mix-clause-judged
returns-then-not-name_mix-clause-judged c = λ told range bound node.
    let line = c.args.line.now in
    let width = subst (λ (n : ℕ). IsTrue c.name_mix.result ↔ (IsSetOf n line.first.now × IsSetOf n line.second.now)) c.requires.first c.name_mix.ensures.named in
    branch_width c.args.table.now told line.file line.first.now line.second.now line.alpha line.beta (fails _ _ c.if-not-name_mix.true width)

pub returns-then-not-is_difference-clause-judged : goal.returns-then-not-is_difference-clause-judged
returns-then-not-is_difference-clause-judged c = λ told range bound node.
    let line = c.args.line.now in
    let files = c.args.table.now.files in
    let width = subst (λ (n : ℕ). IsTrue c.name_mix.result ↔ (IsSetOf n line.first.now × IsSetOf n line.second.now)) c.requires.first c.name_mix.ensures.named in
    let mix = c.name_mix.ensures.mix c.if-not-name_mix.false ∙ ap (λ (n : ℕ). mix_named n line.first.now line.second.now line.alpha line.beta) c.requires.first in
    let difference = named_difference c.is_difference.result files c.args.node.now _ c.name_mix.new.mix line.file line.first.now line.second.now line.alpha line.beta mix node c.is_difference.ensures in
    branch_difference c.args.table.now told line.file line.first.now line.second.now line.alpha line.beta (width.0 c.if-not-name_mix.false) (fails _ _ c.if-not-is_difference.true difference)

pub returns-then-not-is_mixed-clause-judged : goal.returns-then-not-is_mixed-clause-judged
returns-then-not-is_mixed-clause-judged c = λ told range bound node.
    let line = c.args.line.now in
    let table = c.args.table.now in
    let width = subst (λ (n : ℕ). IsTrue c.name_mix.result ↔ (IsSetOf n line.first.now × IsSetOf n line.second.now)) c.requires.first c.name_mix.ensures.named in
    let mix = c.name_mix.ensures.mix c.if-not-name_mix.false ∙ ap (λ (n : ℕ). mix_named n line.first.now line.second.now line.alpha line.beta) c.requires.first in
    let difference = named_difference c.is_difference.result table.files c.args.node.now _ c.name_mix.new.mix line.file line.first.now line.second.now line.alpha line.beta mix node c.is_difference.ensures in
    let mixing = named_mixing c.is_mixed.result table c.args.range.now told.range c.args.bound told.bound c.args.node.now _ c.name_mix.new.mix line.file line.first.now line.second.now line.alpha line.beta mix node range bound c.is_mixed.ensures in
    branch_mixing table told line.file line.first.now line.second.now line.alpha line.beta (width.0 c.if-not-name_mix.false) (difference.0 c.if-not-is_difference.false) (fails _ _ c.if-not-is_mixed.true mixing)

pub returns-clause-judged : goal.returns-clause-judged
returns-clause-judged c = λ told range bound node.
    let line = c.args.line.now in
    let table = c.args.table.now in
    let width = subst (λ (n : ℕ). IsTrue c.name_mix.result ↔ (IsSetOf n line.first.now × IsSetOf n line.second.now)) c.requires.first c.name_mix.ensures.named in
    let mix = c.name_mix.ensures.mix c.if-not-name_mix.false ∙ ap (λ (n : ℕ). mix_named n line.first.now line.second.now line.alpha line.beta) c.requires.first in
    let difference = named_difference c.is_difference.result table.files c.args.node.now _ c.name_mix.new.mix line.file line.first.now line.second.now line.alpha line.beta mix node c.is_difference.ensures in
    let mixing = named_mixing c.is_mixed.result table c.args.range.now told.range c.args.bound told.bound c.args.node.now _ c.name_mix.new.mix line.file line.first.now line.second.now line.alpha line.beta mix node range bound c.is_mixed.ensures in
    branch_pass table told line.file line.first.now line.second.now line.alpha line.beta (width.0 c.if-not-name_mix.false) (difference.0 c.if-not-is_difference.false) (mixing.0 c.if-not-is_mixed.false)
