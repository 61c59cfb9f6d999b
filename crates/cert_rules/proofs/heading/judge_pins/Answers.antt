use Rattle.std.proofs.Common.{◌∙◌, length}
use Rattle.cert_rules.proofs.Rules.{fails, named_apart, named_at, named_width, pins_apart, pins_pass, pins_width}
use Rattle.cert_rules.proofs.heading.judge_pins.Goals as goal

pub returns-then-not-fill_named-clause-judged : goal.returns-then-not-fill_named-clause-judged
returns-then-not-fill_named-clause-judged c = λ told.
    let go = named_width c.fill_named.result (length c.args.root.now.inside) c.args.table.now.files c.args.go.now c.requires.inside c.fill_named.ensures.named in
    pins_width c.args.table.now told c.args.go.now c.args.stay.now (λ width. fails _ _ c.if-not-fill_named.true go width.0)

pub returns-then-not-fill_named-2-clause-judged : goal.returns-then-not-fill_named-2-clause-judged
returns-then-not-fill_named-2-clause-judged c = λ told.
    let stay = named_width c.fill_named-2.result (length c.args.root.now.outside) c.args.table.now.files c.args.stay.now c.requires.outside c.fill_named-2.ensures.named in
    pins_width c.args.table.now told c.args.go.now c.args.stay.now (λ width. fails _ _ c.if-not-fill_named-2.true stay width.1)

pub returns-then-not-are_apart-clause-judged : goal.returns-then-not-are_apart-clause-judged
returns-then-not-are_apart-clause-judged c = λ told.
    let files = c.args.table.now.files in
    let go = named_width c.fill_named.result (length c.args.root.now.inside) files c.args.go.now c.requires.inside c.fill_named.ensures.named in
    let stay = named_width c.fill_named-2.result (length c.args.root.now.outside) files c.args.stay.now c.requires.outside c.fill_named-2.ensures.named in
    let inside = named_at c.fill_named.new.set (length c.args.root.now.inside) files c.args.go.now c.requires.inside (c.fill_named.ensures.set c.if-not-fill_named.false) in
    let outside = named_at c.fill_named-2.new.set (length c.args.root.now.outside) files c.args.stay.now c.requires.outside (c.fill_named-2.ensures.set c.if-not-fill_named-2.false) in
    let apart = named_apart c.are_apart.result c.fill_named.new.set c.fill_named-2.new.set files c.args.go.now c.args.stay.now (c.fill_named.ensures.stays ∙ c.requires.inside) inside outside c.are_apart.ensures in
    pins_apart c.args.table.now told c.args.go.now c.args.stay.now (go.0 c.if-not-fill_named.false, stay.0 c.if-not-fill_named-2.false) (fails _ _ c.if-not-are_apart.true apart)

pub returns-clause-judged : goal.returns-clause-judged
returns-clause-judged c = λ told.
    let files = c.args.table.now.files in
    let go = named_width c.fill_named.result (length c.args.root.now.inside) files c.args.go.now c.requires.inside c.fill_named.ensures.named in
    let stay = named_width c.fill_named-2.result (length c.args.root.now.outside) files c.args.stay.now c.requires.outside c.fill_named-2.ensures.named in
    let inside = named_at c.fill_named.new.set (length c.args.root.now.inside) files c.args.go.now c.requires.inside (c.fill_named.ensures.set c.if-not-fill_named.false) in
    let outside = named_at c.fill_named-2.new.set (length c.args.root.now.outside) files c.args.stay.now c.requires.outside (c.fill_named-2.ensures.set c.if-not-fill_named-2.false) in
    let apart = named_apart c.are_apart.result c.fill_named.new.set c.fill_named-2.new.set files c.args.go.now c.args.stay.now (c.fill_named.ensures.stays ∙ c.requires.inside) inside outside c.are_apart.ensures in
    pins_pass c.args.table.now told c.args.go.now c.args.stay.now (go.0 c.if-not-fill_named.false, stay.0 c.if-not-fill_named-2.false) (apart.0 c.if-not-are_apart.false)
