use Rattle.std.proofs.Common.{sym, ◌∙◌}
use Rattle.std.proofs.lemmas.Bool.{true≢false}
use Rattle.site_core.proofs.Fitting.{is_not, either_way, underway_so, chunks_b_then, chunks_a_then}
use Rattle.site_core.proofs.fit.are_underway.Goals as goal

pub returns-then-not-are_chunks_used : goal.returns-then-not-are_chunks_used
returns-then-not-are_chunks_used c = is_not (λ under. true≢false
    (sym (c.are_chunks_used.ensures.1 (chunks_b_then c.args.a.now.shape c.args.b.now.shape c.args.whole.now.shape c.args.named.now.shape c.args.names.now c.file_count-files.ensures.keeps c.file_count-others.ensures.keeps c.requires.merged c.requires.named under)) ∙ c.if-not-are_chunks_used.true))

pub returns : goal.returns
returns c =
    let a = c.args.a.now.shape in
    let b = c.args.b.now.shape in
    let whole = c.args.whole.now.shape in
    let named = c.args.named.now.shape in
    let names = c.args.names.now in
    either_way c.are_chunks_used-2.result
    (λ so. underway_so a b whole named names c.file_count-files.ensures.keeps c.file_count-others.ensures.keeps c.requires.merged c.requires.named
    (c.are_files_in.ensures.0 c.if-not-are_files_in.false) (c.have_one_list.ensures.0 c.if-not-have_one_list.false) (c.are_chunks_used.ensures.0 c.if-not-are_chunks_used.false) (c.are_chunks_used-2.ensures.0 so) c.requires.keeps)
    (λ fails under. true≢false (sym (c.are_chunks_used-2.ensures.1 (chunks_a_then a b whole named names c.file_count-files.ensures.keeps c.file_count-others.ensures.keeps c.requires.merged c.requires.named under)) ∙ fails))
