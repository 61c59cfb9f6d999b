use Rattle.std.proofs.Common.{true, sym, ◌∙◌, ap, subst}
use Rattle.site_core.specs.Fitting.{counts_keep, Merges}
use Rattle.site_core.proofs.Fitting.{is_not, no_limits}
use Rattle.site_core.proofs.Merging.{shape_counts}
use Rattle.site_core.proofs.fit.is_underway.Goals as goal

pub returns-then-not-branch : goal.returns-then-not-branch
returns-then-not-branch c = is_not (no_limits c.args.a.now.shape c.args.b.now.shape c.args.names.now c.file_count-files.ensures.keeps c.file_count-others.ensures.keeps
    (subst (Merges c.args.a.now.shape c.args.b.now.shape c.merge.new.whole.shape) c.if-not-branch.true c.in_ok-merge.ensures))

pub is_underway_over-requires-clause-merged : goal.is_underway_over-requires-clause-merged
is_underway_over-requires-clause-merged c = subst (Merges c.args.a.now.shape c.args.b.now.shape c.merge.new.whole.shape) c.if-not-branch.false c.in_ok-merge.ensures

pub is_underway_over-requires-clause-keeps : goal.is_underway_over-requires-clause-keeps
is_underway_over-requires-clause-keeps c =
    let merged : Merges c.args.a.now.shape c.args.b.now.shape c.merge.new.whole.shape true = subst (Merges c.args.a.now.shape c.args.b.now.shape c.merge.new.whole.shape) c.if-not-branch.false c.in_ok-merge.ensures in
    let keeps = c.file_count-whole.ensures.keeps in
    ap counts_keep (sym merged) ∙ sym (shape_counts c.merge.new.whole.shape c.merge.new.whole.shape.files keeps) ∙ keeps.limits
