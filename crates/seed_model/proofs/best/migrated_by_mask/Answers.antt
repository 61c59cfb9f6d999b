use Rattle.std.proofs.Common.{arith, ◌≡◌, ◌∙◌, ◌<◌, ◌^◌, length, ap, sym, ℕ}
use Rattle.seed_model.specs.Masks.{AddsSubsets}
use Rattle.seed_model.proofs.MaskSums.{fit_bytes, fit_bytes-zero, fit_bytes_small, fit_bytes-migrated, pass-step}
use Rattle.seed_model.proofs.ExactSums.{written_whole, any_default, few_masks}
use Rattle.seed_model.proofs.best.migrated_by_mask.Goals as goal

pub loop-file-init : goal.loop-file-init
loop-file-init c = record {
  masks = c.in_ok-sums.ensures.masks;
  each = λ k lt. c.in_ok-sums.ensures.each k lt ∙ sym (fit_bytes-zero k c.args.table.now.classes);
}

pub add_subsets-requires-clause-bounded : goal.add_subsets-requires-clause-bounded
add_subsets-requires-clause-bounded c =
    let value = c.deref_mut.ensures.value in
    let h = c.loop-file.invariant in
    λ k d lt.
    let inside : k < length c.loop-file.sums.items = omega (arith, lt, ap length value) in
    let small = fit_bytes_small c.loop-file.file k c.args.table.now c.files-files.ensures.table in
    rw value (omega (arith, any_default c.loop-file.sums.items k d inside, h.each k (omega (arith, inside, h.masks)), small))

pub loop-file-preserved : goal.loop-file-preserved
loop-file-preserved c =
    let h = c.loop-file.invariant in
    let value = c.deref_mut.ensures.value in
    let len : length c.add_subsets.new.sums ≡ c.loop-file.sums.len = omega (arith, c.add_subsets.auto.sums, c.deref_mut.ensures.len) in
    let whole = written_whole c.loop-file.sums.len c.add_subsets.new.sums c.loop-file.sums.items len in
    let adds : AddsSubsets c.loop-file.file c.loop-file.sums.items c.add_subsets.new.sums = rw (← value) c.add_subsets.ensures in
    let file : c.loop-file.file < 64 = omega (arith, c.loop-file-test.true, c.files-files.ensures.files, c.requires) in
    rw whole (record {
      masks = omega (arith, c.add_subsets.auto.sums, ap length value, h.masks);
      each = pass-step c.loop-file.file (2 ^ c.args.table.now.files) c.args.table.now.classes c.loop-file.sums.items c.add_subsets.new.sums (few_masks c.args.table.now.files c.requires) file h.masks adds h.each;
    })

pub returns : goal.returns
returns c =
    let end : c.loop-file.file ≡ c.args.table.now.files = omega (arith, c.loop-file-test.false, c.loop-file.auto.file-end, c.files-files.ensures.files) in
    record {
      masks = c.loop-file.invariant.masks;
      each = λ k lt. c.loop-file.invariant.each k lt ∙ (ap (λ (b : ℕ). fit_bytes b k c.args.table.now.classes) end ∙ fit_bytes-migrated c.args.table.now k c.files-files.ensures.table lt);
    }
