use Rattle.std.proofs.Common.{◌≡◌, ℕ, ◌-◌, length, take, drop, get_or, sym, ◌∙◌, ap, arith}
use Rattle.std.proofs.lemmas.List.{length-drop, length-take-le}
use Rattle.seed_mover.proofs.BlockLists.{block_is, block_within, start_first, start_later, start_of}
use Rattle.seed_mover.proofs.putting.blocks.block_at.Goals as goal
use Rattle.seed_mover.proofs.putting.blocks.block_at.Goals.{else-block-eq0, then-block-eq0}

pub slice_bounds-result-count : goal.slice_bounds-result-count
slice_bounds-result-count c =
    let ends = c.args.ends.now in
    let is : c.if-block-eq0.from ≡ start_of 0 ends c.args.block =
    elim c.if-block-eq0.branch [ then-block-eq0 w ↦ w.from-is ∙ sym (start_first 0 ends c.args.block w.if-block-eq0.true) | else-block-eq0 w ↦ w.from-is ∙ sym (start_later 0 ends c.args.block w.if-block-eq0.false (omega arith)) ] in
    omega (arith, is, (block_within 0 (length c.args.bytes.now) ends c.args.block c.requires.ends c.requires.there).some)

pub slice_bounds-result-start : goal.slice_bounds-result-start
slice_bounds-result-start c =
    let ends = c.args.ends.now in
    let is : c.if-block-eq0.from ≡ start_of 0 ends c.args.block =
    elim c.if-block-eq0.branch [ then-block-eq0 w ↦ w.from-is ∙ sym (start_first 0 ends c.args.block w.if-block-eq0.true) | else-block-eq0 w ↦ w.from-is ∙ sym (start_later 0 ends c.args.block w.if-block-eq0.false (omega arith)) ] in
    omega (arith, is, (block_within 0 (length c.args.bytes.now) ends c.args.block c.requires.ends c.requires.there).some)

pub slice_bounds-result-end : goal.slice_bounds-result-end
slice_bounds-result-end c = omega (arith, (block_within 0 (length c.args.bytes.now) c.args.ends.now c.args.block c.requires.ends c.requires.there).high)

pub returns-clause-bytes : goal.returns-clause-bytes
returns-clause-bytes c =
    let ends = c.args.ends.now in
    let is : c.if-block-eq0.from ≡ start_of 0 ends c.args.block =
    elim c.if-block-eq0.branch [ then-block-eq0 w ↦ w.from-is ∙ sym (start_first 0 ends c.args.block w.if-block-eq0.true) | else-block-eq0 w ↦ w.from-is ∙ sym (start_later 0 ends c.args.block w.if-block-eq0.false (omega arith)) ] in
    block_is 0 (length c.args.bytes.now) c.args.bytes.now ends c.args.block c.requires.ends c.requires.there
    ∙ ap (λ (n : ℕ). take (get_or ends c.args.block 0 - start_of 0 ends c.args.block) (drop n c.args.bytes.now)) (let none : start_of 0 ends c.args.block - 0 ≡ start_of 0 ends c.args.block = omega arith in none)
    ∙ ap (λ (n : ℕ). take (get_or ends c.args.block 0 - n) (drop n c.args.bytes.now)) (sym is)

pub returns-clause-chunk : goal.returns-clause-chunk
returns-clause-chunk c =
    let ends = c.args.ends.now in
    let bytes = c.args.bytes.now in
    let from = c.if-block-eq0.from in
    let end = get_or ends c.args.block 0 in
    let is : from ≡ start_of 0 ends c.args.block =
    elim c.if-block-eq0.branch [ then-block-eq0 w ↦ w.from-is ∙ sym (start_first 0 ends c.args.block w.if-block-eq0.true) | else-block-eq0 w ↦ w.from-is ∙ sym (start_later 0 ends c.args.block w.if-block-eq0.false (omega arith)) ] in
    let within = block_within 0 (length bytes) ends c.args.block c.requires.ends c.requires.there in
    let long : length (take (end - from) (drop from bytes)) ≡ end - from = length-take-le (end - from) (drop from bytes) (omega (arith, is, within.some, within.high, length-drop from bytes)) in
    record { some = omega (arith, long, is, within.some); most = omega (arith, long, is, within.some, within.most) }
