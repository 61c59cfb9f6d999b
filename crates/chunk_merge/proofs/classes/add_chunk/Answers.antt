use Rattle.std.proofs.Common.{◌≡◌, ◌∙◌, false, arith, rules}
use Rattle.std.specs.List.{list_any}
use Rattle.chunk_merge.specs.Classes.{classes_in}
use Rattle.chunk_merge.specs.Merged.{same_users}
use Rattle.chunk_merge.proofs.Lists.{added-new, place-within, read-known, known-fits}
use Rattle.chunk_merge.proofs.classes.add_chunk.Goals as goal

pub index_mut-requires : goal.index_mut-requires
index_mut-requires c =
    let at = c.in-Some.ensures in
    omega (arith, place-within c.args.users.now c.args.list.now at.0, at.1, c.requires.same, c.args.sizes.now.ok)

pub overflow_add-index_mut : goal.overflow_add-index_mut
overflow_add-index_mut c =
    let at = c.in-Some.ensures in
    omega (arith, known-fits c.args.users.now c.args.sizes.now.items c.args.list.now c.in-Some.place c.index_mut.result.now c.requires.same at.0 at.1 c.index_mut.ensures.value, c.requires.fits)

pub returns-in-Some-clause-classes : goal.returns-in-Some-clause-classes
returns-in-Some-clause-classes c =
    let at = c.in-Some.ensures in
    read-known c.args.users.now c.args.sizes.now.items c.args.list.now c.in-Some.place c.index_mut.result.now c.args.size c.requires.same at.0 at.1 c.index_mut.ensures.value

pub returns-clause-classes : goal.returns-clause-classes
returns-clause-classes c =
    let none : list_any (same_users c.args.list.now) c.args.users.now ≡ false = search rules in
    (λ i. classes_in (c.in_ok-push.ensures i) (c.in_ok-push-2.ensures.items i)) ∙ added-new c.args.users.now c.args.sizes.now.items c.args.list.now c.args.size c.requires.same none
