use Rattle.std.proofs.Common.{arith, ◌≡◌, ◌∙◌, ◌<◌, ◌^◌, ◌+◌, length, ap, get_or}
use Rattle.std.proofs.lemmas.List.{length-set}
use Rattle.std.proofs.lemmas.Grind.{get_or_default_zero}
use Rattle.seed_model.specs.Masks.{mask_of}
use Rattle.seed_model.proofs.ExactSums.{class_at, class_mask_lt, exact-more, exact_fits}
use Rattle.seed_model.proofs.best.bytes_by_mask.Goals as goal
use Rattle.seed_model.proofs.best.bytes_by_mask.Goals.{After-users_mask-mask, After-index_mut}

-- the mask of the class, and that it has a sum
mask_is : (c : After-users_mask-mask) → c.users_mask-mask.result ≡ mask_of c.class-item.result.users
mask_is c = c.users_mask-mask.ensures ∙ ap mask_of c.list.ensures

inside : (c : After-users_mask-mask) → c.users_mask-mask.result < length c.loop-class.sums.items
inside c =
    let got = c.class_list-class-items.ensures in
    let class = class_at c.args.table.now c.class_list-class-items.result.now c.loop-class.class-index c.class-item.result got.table got.items c.loop-class-test.true c.class-item.is in
    omega (arith, mask_is c, class_mask_lt c.args.table.now.files c.class-item.result class, c.loop-class.invariant.masks)

-- the sum that is read
read : (c : After-index_mut) → c.users_mask-mask.result < length c.loop-class.sums.items → c.index_mut.result.now ≡ get_or c.loop-class.sums.items c.users_mask-mask.result 0
read c lt = c.index_mut.ensures.value ∙ get_or_default_zero c.loop-class.sums.items c.users_mask-mask.result c.index_mut.result.now lt

pub index_mut-requires : goal.index_mut-requires
index_mut-requires c = omega (arith, inside (goal.at.index_mut-requires c).After-users_mask-mask, c.loop-class.sums.ok.0)

pub overflow_add-index_mut : goal.overflow_add-index_mut
overflow_add-index_mut c =
    let a = goal.at.overflow_add-index_mut c in
    let got = c.class_list-class-items.ensures in
    let sum = read a.After-index_mut (inside a.After-users_mask-mask) in
    omega (arith, exact_fits c.args.table.now c.class_list-class-items.result.now c.loop-class.class-index c.class-item.result c.loop-class.sums.items c.index_mut.result.now got.table got.items c.loop-class-test.true c.class-item.is (rw (mask_is a.After-users_mask-mask) at sum) c.loop-class.invariant.each)

pub loop-class-preserved : goal.loop-class-preserved
loop-class-preserved c =
    let a = goal.at.loop-class-preserved c in
    let mask = mask_is a.After-users_mask-mask in
    let within = inside a.After-users_mask-mask in
    let sum = read a.After-index_mut within in
    record {
      masks = length-set c.loop-class.sums.items c.users_mask-mask.result (c.index_mut.result.now + c.class-item.result.size) ∙ c.loop-class.invariant.masks;
      each = rw mask (exact-more c.class_list-class-items.result.now c.loop-class.class-index c.class-item.result c.loop-class.sums.items (2 ^ c.args.table.now.files) c.index_mut.result.now
          c.loop-class-test.true c.class-item.is (rw mask at within) (rw mask at sum) c.loop-class.invariant.each);
    }
