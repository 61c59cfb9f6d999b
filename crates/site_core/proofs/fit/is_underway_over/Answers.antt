use Rattle.std.proofs.Common.{subst}
use Rattle.site_core.specs.Fitting.{AddsNamed}
use Rattle.site_core.proofs.Fitting.{is_not, no_names, used_of_both}
use Rattle.site_core.proofs.fit.is_underway_over.Goals as goal

pub add_named-requires-clause-chunks : goal.add_named-requires-clause-chunks
add_named-requires-clause-chunks c =
    used_of_both c.args.a.now.shape c.args.b.now.shape c.args.whole.now.shape c.add_chunks-2.new.index.shape c.file_count-files.ensures.keeps c.file_count-others.ensures.keeps c.requires.merged
    (λ chunk held. c.in_ok-add_chunks-2.ensures.old chunk (c.in_ok-add_chunks.ensures.new chunk held)) c.in_ok-add_chunks-2.ensures.new

pub returns-then-not-branch : goal.returns-then-not-branch
returns-then-not-branch c = is_not (no_names c.args.a.now.shape c.args.b.now.shape c.args.whole.now.shape c.args.names.now c.requires.merged
    (subst (AddsNamed c.args.whole.now.shape c.args.names.now c.add_named.new.index.shape) c.if-not-branch.true c.in_ok-add_named.ensures))
