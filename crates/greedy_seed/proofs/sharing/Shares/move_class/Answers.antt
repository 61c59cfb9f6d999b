use Rattle.std.specs.List.{count_by}
use Rattle.std.proofs.Common.{◌≡◌, ◌∙◌, ◌<◌, ℕ, List, length, get_or, set, sym, ap, arith}
use Rattle.std.proofs.lemmas.List.{get_or_default}
use Rattle.seed_model.specs.Files.{holds}
use Rattle.seed_model.specs.Keys.{class_at}
use Rattle.greedy_seed.proofs.Shares.{some_before, one_less, one_more}
use Rattle.greedy_seed.proofs.sharing.Shares.move_class.Goals as goal
use Rattle.greedy_seed.proofs.sharing.Shares.move_class.Goals.{then-contains, else-contains}

-- the count that is read
read : (counts : List ℕ) (number x k classes : ℕ) → x ≡ get_or counts number x → length counts ≡ classes → number < classes → get_or counts number 0 ≡ k → x ≡ k
read counts number x k classes is long lt count = is ∙ (get_or_default counts number x 0 (omega (arith, long, lt)) ∙ count)

pub overflow_sub-after : goal.overflow_sub-after
overflow_sub-after c =
    let users = (class_at c.args.table.now.classes c.args.number).users in
    let flags = c.args.set.now in
    let before = read c.args.self.now.counts.items c.args.number c.index-before.result.now (count_by (holds flags) users) (length c.args.table.now.classes) c.index-before.ensures
    c.requires.counts c.requires.class.within c.requires.count in
    some_before flags c.args.file c.index-before.result.now users (omega (arith, c.requires.file, c.requires.class.files)) c.requires.user before (sym c.contains.ensures ∙ c.if-contains.true)

pub move_shares-requires-clause-after : goal.move_shares-requires-clause-after
move_shares-requires-clause-after c =
    let users = (class_at c.args.table.now.classes c.args.number).users in
    let flags = c.args.set.now in
    let lt : c.args.file < length flags = omega (arith, c.requires.file, c.requires.class.files) in
    let before = read c.args.self.now.counts.items c.args.number c.index-before.result.now (count_by (holds flags) users) (length c.args.table.now.classes) c.index-before.ensures
    c.requires.counts c.requires.class.within c.requires.count in
    elim c.if-contains.branch [
      | then-contains w ↦ one_less flags c.args.file c.index-before.result.now c.if-contains.after users lt c.requires.user before (sym c.contains.ensures ∙ w.if-contains.true) w.after-is
      | else-contains w ↦ one_more flags c.args.file c.index-before.result.now c.if-contains.after users lt c.requires.user before (sym c.contains.ensures ∙ w.if-contains.false) w.after-is
    ]

pub move_shares-requires-2-clause-after : goal.move_shares-requires-2-clause-after
move_shares-requires-2-clause-after c =
    let users = (class_at c.args.table.now.classes c.args.number).users in
    let flags = c.args.set.now in
    let lt : c.args.file < length flags = omega (arith, c.requires.file, c.requires.class.files) in
    let before = read c.args.self.now.counts.items c.args.number c.index-before.result.now (count_by (holds flags) users) (length c.args.table.now.classes) c.index-before.ensures
    c.requires.counts c.requires.class.within c.requires.count in
    elim c.if-contains.branch [
      | then-contains w ↦ one_less flags c.args.file c.index-before.result.now c.if-contains.after users lt c.requires.user before (sym c.contains.ensures ∙ w.if-contains.true) w.after-is
      | else-contains w ↦ one_more flags c.args.file c.index-before.result.now c.if-contains.after users lt c.requires.user before (sym c.contains.ensures ∙ w.if-contains.false) w.after-is
    ]

pub returns-clause-counts : goal.returns-clause-counts
returns-clause-counts c =
    let users = (class_at c.args.table.now.classes c.args.number).users in
    let flags = c.args.set.now in
    let lt : c.args.file < length flags = omega (arith, c.requires.file, c.requires.class.files) in
    let before = read c.args.self.now.counts.items c.args.number c.index-before.result.now (count_by (holds flags) users) (length c.args.table.now.classes) c.index-before.ensures
    c.requires.counts c.requires.class.within c.requires.count in
    let set_to : ℕ → List ℕ = λ n. set c.args.self.now.counts.items c.args.number n in
    elim c.if-contains.branch [
      | then-contains w ↦ ap set_to (one_less flags c.args.file c.index-before.result.now c.if-contains.after users lt c.requires.user before (sym c.contains.ensures ∙ w.if-contains.true) w.after-is)
      | else-contains w ↦ ap set_to (one_more flags c.args.file c.index-before.result.now c.if-contains.after users lt c.requires.user before (sym c.contains.ensures ∙ w.if-contains.false) w.after-is)
    ]
