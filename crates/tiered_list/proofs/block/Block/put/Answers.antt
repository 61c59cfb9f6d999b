use Rattle.std.proofs.Common.{◌≡◌, ◌∙◌, ◌+◌, ◌<◌, ◌∷◌, ◌++◌, [], ℕ, List, length, take, drop, sym, ap, arith}
use Rattle.std.specs.List.{insert}
use Rattle.std.proofs.lemmas.List.{take_all, drop_all, take_at, drop_at, length_push}
use Rattle.tiered_list.specs.Inside.{width}
use Rattle.tiered_list.proofs.Parts.{length_insert, insert_append}
use Rattle.tiered_list.proofs.block.Block.put.Goals as goal

pub returns-then-len-lt-WIDTH-clause-block : goal.returns-then-len-lt-WIDTH-clause-block
returns-then-len-lt-WIDTH-clause-block c =
    let self = c.args.self.now in
    let all = insert self c.args.place c.args.number in
    let made : c.insert.new.self.items ≡ all = (rw c.unwrap.ensures at c.insert.ensures.items) ∙ ap (λ (l : List ℕ). insert l c.args.place c.args.number) c.self.view_is in
    let short : length self < width = omega (arith, c.if-len-lt-WIDTH.true, c.len.ensures, c.self.inside.numbers.ok.0, ap length c.self.view_is) in
    made ∙ sym (take_all width all (omega (arith, short, length_insert self c.args.place c.args.number c.requires.place)))

pub returns-then-len-lt-WIDTH-clause-out : goal.returns-then-len-lt-WIDTH-clause-out
returns-then-len-lt-WIDTH-clause-out c =
    let self = c.args.self.now in
    let short : length self < width = omega (arith, c.if-len-lt-WIDTH.true, c.len.ensures, c.self.inside.numbers.ok.0, ap length c.self.view_is) in
    sym (drop_all width (insert self c.args.place c.args.number) (omega (arith, short, length_insert self c.args.place c.args.number c.requires.place)))

-- a full block without its last number, and that number
record Splits (self kept : List ℕ) (last place number : ℕ) : Type 0 where
  made : insert self place number ≡ insert kept place number ++ last ∷ []
  size : length (insert kept place number) ≡ width

splits : (self kept : List ℕ) (last place number : ℕ) → self ≡ kept ++ last ∷ [] → length self ≡ width → place < width → Splits self kept last place number
splits self kept last place number parts full inside =
    let long : length kept + 1 ≡ width = omega (arith, full, ap length parts, length_push kept last) in
    record {
      made = ap (λ (l : List ℕ). insert l place number) parts ∙ insert_append kept (last ∷ []) place number (omega (arith, long, inside));
      size = length_insert kept place number (omega (arith, long, inside)) ∙ long;
    }

pub returns-clause-block : goal.returns-clause-block
returns-clause-block c =
    let self = c.args.self.now in
    let kept = c.pop_back.new.self.items in
    let last = c.unwrap-last.result in
    let parts : c.self.inside.numbers.items ≡ kept ++ last ∷ [] = rw c.unwrap-last.ensures at c.pop_back.ensures.items in
    let full : length self ≡ width = omega (arith, c.if-len-lt-WIDTH.false, c.len.ensures, c.self.inside.numbers.ok.0, c.self.invariant.0, ap length c.self.view_is) in
    let split = splits self kept last c.args.place c.args.number (sym c.self.view_is ∙ parts) full c.requires.within in
    (rw c.unwrap-2.ensures at c.insert-2.ensures.items) ∙ (sym (take_at (insert kept c.args.place c.args.number) (last ∷ []) width split.size) ∙ ap (take width) (sym split.made))

pub returns-clause-out : goal.returns-clause-out
returns-clause-out c =
    let self = c.args.self.now in
    let kept = c.pop_back.new.self.items in
    let last = c.unwrap-last.result in
    let parts : c.self.inside.numbers.items ≡ kept ++ last ∷ [] = rw c.unwrap-last.ensures at c.pop_back.ensures.items in
    let full : length self ≡ width = omega (arith, c.if-len-lt-WIDTH.false, c.len.ensures, c.self.inside.numbers.ok.0, c.self.invariant.0, ap length c.self.view_is) in
    let split = splits self kept last c.args.place c.args.number (sym c.self.view_is ∙ parts) full c.requires.within in
    sym (drop_at (insert kept c.args.place c.args.number) (last ∷ []) width split.size) ∙ ap (drop width) (sym split.made)
