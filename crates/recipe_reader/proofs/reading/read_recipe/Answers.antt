use Rattle.std.specs.Prelude.{Result, Ok, Err, IfErr, IsErrAnd}
use Rattle.std.proofs.Common.{◌≡◌, ◌∙◌, ◌∷◌, ◌++◌, ◌+◌, [], ℕ, List, refl, sym, ap, subst, append_assoc, length, length-append, arith}
use Rattle.std.proofs.lemmas.List.{append-nil}
use Rattle.csv.specs.Records.{fields_of}
use Rattle.csv_rows.specs.Rows.{rows_of}
use Rattle.recipe_reader.specs.Appearance.{IsGathered}
use Rattle.recipe_reader.specs.Reading.{IsFault}
use Rattle.recipe_reader.specs.Recipes.{empty_recipe}
use Rattle.recipe_reader.proofs.Gathering.{gathered}
use Rattle.recipe_reader.proofs.RowsTaken.{leads_push}
use Rattle.recipe_reader.proofs.reading.read_recipe.Goals as goal

pub loop-before-init : goal.loop-before-init
loop-before-init c = record {
  front = [];
  split = sym c.new-rows.ensures.rows;
  count = refl;
  few = let few = c.new-rows.ensures.few in omega (arith, few);
  lawful = sym c.for_text-recipe.ensures;
}

pub loop-before-preserved : goal.loop-before-preserved
loop-before-preserved c =
    let inv = c.loop-before.invariant in
    let fields = fields_of c.next_row.new.row in
    let first : c.loop-before.rows ≡ fields ∷ c.next_row.new.self = rw c.if-not-found.false at c.in-Ok.ensures.ok in
    record {
      front = inv.front ++ fields ∷ [];
      split = inv.split ∙ (ap (λ (t : List (List (List ℕ))). inv.front ++ t) first ∙ sym (append_assoc inv.front (fields ∷ []) c.next_row.new.self));
      count = let count = inv.count in omega (arith, count, length-append inv.front (fields ∷ []));
      few = let few = inv.few in let shorter = ap length first in omega (arith, few, shorter);
      lawful = leads_push empty_recipe c.loop-before.recipe c.take_row.new.recipe inv.front fields inv.lawful c.in_ok-take_row.ensures.ok;
    }

pub returns-then-not-found-clause-gathered : goal.returns-then-not-found-clause-gathered
returns-then-not-found-clause-gathered c =
    let inv = c.loop-before.invariant in
    let ended = rw c.if-not-found.true at c.in-Ok.ensures.ok in
    let none : c.loop-before.rows ≡ [] = ended.0 in
    let all : rows_of c.args.text.now ≡ inv.front = inv.split ∙ (ap (λ (t : List (List (List ℕ))). inv.front ++ t) none ∙ append-nil inv.front) in
    let Gathered : List (List (List ℕ)) → Type 0 = λ t. IsGathered t c.loop-before.recipe in
    subst Gathered (sym all) (gathered inv.front c.loop-before.recipe inv.lawful)

-- what holds of an error holds of the one that is handed on
handed_on : {T E : Type 0} (r : Result T E) (e : E) (P : E → Type 0) → IsErrAnd r (λ y. y ≡ e) → P e → IfErr r P
handed_on (Ok value) e P same p = tt
handed_on (Err y) e P same p = subst P (sym same) p

pub returns-in_err-take_row-clause-fault : goal.returns-in_err-take_row-clause-fault
returns-in_err-take_row-clause-fault c =
    let inv = c.loop-before.invariant in
    let fields = fields_of c.next_row.new.row in
    let first : c.loop-before.rows ≡ fields ∷ c.next_row.new.self = rw c.if-not-found.false at c.in-Ok.ensures.ok in
    handed_on c.from_residual.result c.in_err-take_row.field-0.0 _ c.from_residual.ensures.1 (λ other. record {
      front = inv.front;
      fields = fields;
      rest = c.next_row.new.self;
      before = c.loop-before.recipe;
      split = inv.split ∙ ap (λ (t : List (List (List ℕ))). inv.front ++ t) first;
      lawful = inv.lawful;
      fault = subst (λ (n : ℕ). IsFault c.loop-before.recipe (n + 1) fields c.in_err-take_row.field-0.0) inv.count (c.in_err-take_row.ensures.fault other);
    })
