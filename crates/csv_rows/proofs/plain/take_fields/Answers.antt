use Rattle.std.proofs.Common.{◌≡◌, ◌<◌, ◌++◌, ◌∷◌, [], arith, length, take, drop, sym}
use Rattle.std.proofs.lemmas.Bool.{eqb-true, eqb-false}
use Rattle.std.proofs.lemmas.List.{take_rest}
use Rattle.csv.specs.Records.{fields_of}
use Rattle.csv_rows.proofs.PlainRows.{at_start, at_comma, row_feed, row_last}
use Rattle.csv_rows.proofs.plain.take_fields.Goals as goal

pub fields-init : goal.fields-init
fields-init c = record {
  partial = c.clear.ensures.partial;
  at = rw c.clear.ensures.fields (at_start c.args.text.now c.requires.some c.requires.begun);
}

pub returns-then-is_empty : goal.returns-then-is_empty
returns-then-is_empty c =
    let left = c.fields.left.now in
    let count = c.plain_front-count.result in
    let before = fields_of c.fields.row in
    let none : length (drop count left) ≡ 0 = rw take_rest at (eqb-true _ 0 (sym c.if-is_empty.ensures)) in
    let more : fields_of c.push_field.new.self ≡ before ++ take count left ∷ [] = rw c.fields.invariant.partial at c.in_ok-push_field.ensures.fields in
    rw take_rest (row_last c.args.text.now left before (fields_of c.push_field.new.self) count c.fields.invariant.at c.plain_front-count.ensures.within c.plain_front-count.ensures.plain none more)

pub returns-in-10 : goal.returns-in-10
returns-in-10 c =
    let left = c.fields.left.now in
    let count = c.plain_front-count.result in
    let before = fields_of c.fields.row in
    let filled : length (drop count left) ≡ 0 → ⊥ = eqb-false (length (drop count left)) 0 (rw take_rest at (sym c.if-is_empty.ensures)) in
    let some : 0 < length (drop count left) = omega arith in
    let more : fields_of c.push_field.new.self ≡ before ++ take count left ∷ [] = rw c.fields.invariant.partial at c.in_ok-push_field.ensures.fields in
    let feed = rw take_rest at c.in-10.is in
    rw take_rest (row_feed c.args.text.now left before (fields_of c.push_field.new.self) count c.fields.invariant.at c.plain_front-count.ensures.within c.plain_front-count.ensures.plain some feed more)

pub fields-preserved : goal.fields-preserved
fields-preserved c =
    let left = c.fields.left.now in
    let count = c.plain_front-count.result in
    let before = fields_of c.fields.row in
    let filled : length (drop count left) ≡ 0 → ⊥ = eqb-false (length (drop count left)) 0 (rw take_rest at (sym c.if-is_empty.ensures)) in
    let some : 0 < length (drop count left) = omega arith in
    let more : fields_of c.push_field.new.self ≡ before ++ take count left ∷ [] = rw c.fields.invariant.partial at c.in_ok-push_field.ensures.fields in
    let comma = rw take_rest at c.in-44.is in
    record {
      partial = c.in_ok-push_field.ensures.partial;
      at = rw (take_rest, take_rest) (at_comma c.args.text.now left before (fields_of c.push_field.new.self) count c.fields.invariant.at c.plain_front-count.ensures.within c.plain_front-count.ensures.plain some comma more);
    }
