use Rattle.std.proofs.Common.{List, length, ◌++◌, ◌+◌, ◌*◌, ℕ, ap, drop, ◌∙◌, arith}
use Rattle.std.specs.List.{filter}
use Rattle.std.proofs.lemmas.List.Sums.{get_or-le-sum_by}
use Rattle.seed_model.specs.declared.table.Class.{Class}
use Rattle.seed_model.specs.Keys.{class_at, no_class}
use Rattle.bound_cert.specs.declared.multipliers.Give.{Give}
use Rattle.hull_bound.specs.Forms.{is_some_give}
use Rattle.hull_bound.proofs.Reading.{class_read, class_next}
use Rattle.hull_bound.proofs.gives.add_class.Goals as goal

pub count_free-free-requires-clause-few : goal.count_free-free-requires-clause-few
count_free-free-requires-clause-few c =
    let most = get_or-le-sum_by (λ (d : Class). length d.users) c.args.table.now.classes c.args.class no_class c.requires.class in
    omega (arith, most, c.files-files.ensures.table.pairs, ap (λ (us : List ℕ). length us) c.users-users.ensures.users)

pub returns-clause-next : goal.returns-clause-next
returns-clause-next c =
    let behind : ℕ = c.args.first + c.half_length.result in
    (class_next c.args.node.now c.args.class (class_at c.args.table.now.classes c.args.class) c.users-users.result.now c.any_in-barred.result c.any_in-forced.result
    c.args.first c.count_free-free.result behind (behind + c.half_length-2.result) c.users-users.ensures.users c.any_in-barred.ensures c.any_in-forced.ensures c.count_free-free.ensures
    (ap (λ (n : ℕ). c.args.first + n) c.half_length.ensures) (ap (λ (n : ℕ). behind + n) c.half_length-2.ensures)).1

pub returns-clause-gives : goal.returns-clause-gives
returns-clause-gives c =
    let node = c.args.node.now in
    let class = class_at c.args.table.now.classes c.args.class in
    let amounts = c.args.amounts.flow.now.amounts in
    let behind : ℕ = c.args.first + c.half_length.result in
    let next =
    class_next node c.args.class class c.users-users.result.now c.any_in-barred.result c.any_in-forced.result
    c.args.first c.count_free-free.result behind (behind + c.half_length-2.result) c.users-users.ensures.users c.any_in-barred.ensures c.any_in-forced.ensures c.count_free-free.ensures
    (ap (λ (n : ℕ). c.args.first + n) c.half_length.ensures) (ap (λ (n : ℕ). behind + n) c.half_length-2.ensures) in
    let read =
    class_read c.args.p node c.args.class class c.args.first behind (c.args.p * c.size.result) amounts c.users-users.result.now c.any_in-barred.result c.any_in-forced.result
    c.rewards_of.result.rest c.charges_of.result.rest (drop c.rewards_of.result.pipe amounts) (drop c.charges_of.result.pipe amounts)
    c.users-users.ensures.users c.any_in-barred.ensures c.any_in-forced.ensures next.0 (ap (λ (z : ℕ). c.args.p * z) c.size.ensures.size)
    c.rewards_of.ensures.rest c.charges_of.ensures.rest c.rewards_of.ensures.pipe c.charges_of.ensures.pipe in
    c.in_ok-push_gives.ensures ∙ ap (λ (gs : List Give). c.args.gives.now.items ++ filter is_some_give gs) read
