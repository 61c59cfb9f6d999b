use Rattle.std.specs.Prelude.{Vec}
use Rattle.std.proofs.Common.{Global, ℕ}
use Rattle.recipe_order.specs.Matching.{AreAmong, AreNumbers, chunk_names}
use Rattle.recipe_order.proofs.Matched.{all_told, if_none, if_some, part_files, part_names, sizes_told}
use Rattle.recipe_order.proofs.matching.has_all.Goals as goal

pub returns-in_default : goal.returns-in_default
returns-in_default c = (
  λ e. cc e,
  λ p.
      absurd (if_none (¬ AreAmong c.args.whole.now.files c.args.part.now.files) c.in_ok-files.field-0 c.in_default.is c.in_ok-files.ensures.none (part_files c.args.whole.now c.args.part.now p)),
)

pub returns-in_default-2 : goal.returns-in_default-2
returns-in_default-2 c = (
  λ e. cc e,
  λ p.
      absurd (if_none (¬ AreAmong (chunk_names c.args.whole.now) (chunk_names c.args.part.now)) c.in_ok-chunks.field-0 c.in_default-2.is c.in_ok-chunks.ensures.none
      (part_names c.args.whole.now c.args.part.now p)),
)

pub has_sizes-requires : goal.has_sizes-requires
has_sizes-requires c =
    let Named : Vec ℕ Global → Type 0 = λ v. AreNumbers (chunk_names c.args.whole.now) (chunk_names c.args.part.now) v.items in
    let cs = if_some Named c.in_ok-chunks.field-0 c.in-Some-2.chunks c.in-Some-2.is c.in_ok-chunks.ensures.found in
    rw c.deref.ensures.value cs

pub has_pairs-requires-clause-files : goal.has_pairs-requires-clause-files
has_pairs-requires-clause-files c =
    let Named : Vec ℕ Global → Type 0 = λ v. AreNumbers c.args.whole.now.files c.args.part.now.files v.items in
    let fs = if_some Named c.in_ok-files.field-0 c.in-Some.files c.in-Some.is c.in_ok-files.ensures.found in
    rw c.deref-then-has_sizes.ensures.value fs

pub has_pairs-requires-clause-chunks : goal.has_pairs-requires-clause-chunks
has_pairs-requires-clause-chunks c =
    let Named : Vec ℕ Global → Type 0 = λ v. AreNumbers (chunk_names c.args.whole.now) (chunk_names c.args.part.now) v.items in
    let cs = if_some Named c.in_ok-chunks.field-0 c.in-Some-2.chunks c.in-Some-2.is c.in_ok-chunks.ensures.found in
    rw c.deref-then-has_sizes-2.ensures.value cs

pub returns-then-has_sizes : goal.returns-then-has_sizes
returns-then-has_sizes c =
    let Files : Vec ℕ Global → Type 0 = λ v. AreNumbers c.args.whole.now.files c.args.part.now.files v.items in
    let Chunks : Vec ℕ Global → Type 0 = λ v. AreNumbers (chunk_names c.args.whole.now) (chunk_names c.args.part.now) v.items in
    let fs = if_some Files c.in_ok-files.field-0 c.in-Some.files c.in-Some.is c.in_ok-files.ensures.found in
    let cs = if_some Chunks c.in_ok-chunks.field-0 c.in-Some-2.chunks c.in-Some-2.is c.in_ok-chunks.ensures.found in
    all_told c.args.whole.now c.args.part.now c.in-Some.files.items c.in-Some-2.chunks.items c.deref.result.now c.deref-then-has_sizes.result.now c.deref-then-has_sizes-2.result.now c.has_sizes.result
    c.has_pairs.result c.files-whole.ensures.recipe c.files-part.ensures.recipe fs cs c.deref.ensures.value c.deref-then-has_sizes.ensures.value c.deref-then-has_sizes-2.ensures.value
    c.if-has_sizes.true c.has_sizes.ensures c.has_pairs.ensures

pub returns : goal.returns
returns c =
    let Chunks : Vec ℕ Global → Type 0 = λ v. AreNumbers (chunk_names c.args.whole.now) (chunk_names c.args.part.now) v.items in
    let cs = if_some Chunks c.in_ok-chunks.field-0 c.in-Some-2.chunks c.in-Some-2.is c.in_ok-chunks.ensures.found in (
      λ e. cc e,
      λ p.
          let sized = sizes_told c.args.whole.now c.args.part.now c.in-Some-2.chunks.items c.deref.result.now c.has_sizes.result c.files-whole.ensures.recipe cs c.deref.ensures.value c.has_sizes.ensures p in
          cc (sized, c.if-has_sizes.false),
    )
