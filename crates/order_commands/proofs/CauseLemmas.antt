-- How each of these commands ends has the cause of its status.
use Rattle.std.proofs.Common.{◌≡◌, ◌∷◌, [], ℕ, List, Bool, Option, Some, None, refl, sym, subst, inl, inr, length}
use Rattle.csv_rows.specs.Rows.{rows_of}
use Rattle.bound_cert.specs.declared.heading.Claimed.{Claimed}
use Rattle.bound_cert.specs.Laws.{ValidIsSo, plan_named}
use Rattle.chunk_merge.specs.Merged.{KeepsSums, KeepsTables}
use Rattle.recipe_reader.specs.Lawful.{IsRecipe}
use Rattle.recipe_reader.specs.Reading.{Leads}
use Rattle.recipe_reader.specs.Recipes.{RecipeValue, empty_recipe}
use Rattle.recipe_order.specs.Laws.{AreAlike, CarriesBest, CarriesSums}
use Rattle.goseed_words.specs.Asked.{Asks, AsksToRead, Values}
use Rattle.goseed_words.specs.Commands.{Carry, Certificate, Creates, Reads, Recipe, Sort, row}
use Rattle.goseed_words.proofs.OperandLemmas.{first_read, second_read, third_read}
use Rattle.command_texts.specs.declared.status.Status.{Status}
use Rattle.command_texts.specs.Refusals.{Refuses, Refusal, no_plan, no_recipe, not_there, other_recipe, too_long}
use Rattle.command_endings.specs.Worlds.{World}
use Rattle.planning_commands.specs.Reading.{HoldsRecipe, RecipeEnds}
use Rattle.order_commands.specs.Carry.{CarriesValid, CarryBy, CarryEnds, CarryOf, CarryTo}
use Rattle.order_commands.specs.Causes.{AsksCarry, AsksValid, CarryDone, CarryFails, NoPlan, NoRecipe, NotThere, OrderCause, OtherRecipe, RefusalCause, SortDone, TooLong}
use Rattle.order_commands.specs.Sort.{SortEnds}
use Rattle.order_commands.proofs.BestCarried.{carried_best, carried_sums, carried_within}

-- a refusal with its cause
by_refusal : (found : World) (words : List (List ℕ)) (refusal : Refusal) (status : Status) (text : List ℕ) → Refuses refusal status text → RefusalCause found.files words refusal.number
    → OrderCause found words status
by_refusal found words refusal status text refuses cause = subst (OrderCause found words) (sym refuses.answers) cause

-- a command that reads the recipe of a name has the cause of its status, where one that got the recipe has it
recipe_cause : (found : World) (words : List (List ℕ)) (name : List ℕ) (status : Status) (text : List ℕ) (Rest : RecipeValue → Type 0) → AsksToRead words Recipe name
    → ((recipe : RecipeValue) → HoldsRecipe found.files name recipe → Rest recipe → OrderCause found words status) → RecipeEnds found.files name status text Rest → OrderCause found words status
recipe_cause found words name status text Rest asks rest (inl (inl lacking)) =
    by_refusal found words (not_there name) status text lacking.refuses (NotThere (record { form = Recipe; name = name; asks = asks; lacks = lacking.lacks }))
recipe_cause found words name status text Rest asks rest (inl (inr (inl long))) =
    by_refusal found words (too_long name) status text long.refuses
    (TooLong (record { form = Recipe; bytes = long.bytes; asks = record { name = name; asks = asks; held = long.held }; long = long.long }))
recipe_cause found words name status text Rest asks rest (inl (inr (inr none))) =
    let refused = none.refused in
    by_refusal found words (no_recipe refused.error) status text refused.refuses
    (NoRecipe refused.error (record { bytes = none.bytes; asks = record { name = name; asks = asks; held = none.reads.held }; fault = refused.fault }))
recipe_cause found words name status text Rest asks rest (inr read) = rest read.recipe read.held read.rest

pub sort_caused : (words : List (List ℕ)) (values : Values (row Sort).operands) → Asks words (record { command = Sort; values = values })
    → (found : World) (status : Status) (text : List ℕ) (now : Option (List ℕ)) → SortEnds values.0 found.files status text now → OrderCause found words status
sort_caused words values asks found status text now e =
    recipe_cause found words values.0 status text _ (record { asked = record { command = Sort; values = values }; asks = asks; reads = first_read Recipe (Creates ∷ []) asks.fits.operands values asks.say })
    (λ recipe held rest. subst (OrderCause found words) (sym rest.answers)
    (SortDone (record {
      recipe = recipe;
      asks = record { name = values.0; out = values.1.0; asks = asks; held = held };
      sorted = rest.sorted.sorted;
      is_sorted = rest.sorted.is_sorted;
    }))) e

-- a certificate that names no plan has none
none_named : (files : ℕ) (plan : Option Claimed) → plan_named files plan ≡ None → plan ≡ None
none_named files None is = refl
none_named files (Some claimed) is = cc is

module _ (lawful : (rows : List (List (List ℕ))) (recipe : RecipeValue) → Leads empty_recipe rows recipe → IsRecipe recipe) (sound : ValidIsSo) (merging : KeepsSums) (tables : KeepsTables)
    (far : CarriesSums) (far_best : CarriesBest) (words : List (List ℕ)) (values : Values (row Carry).operands) (asks : Asks words (record { command = Carry; values = values })) (found : World)
    (status : Status) (text : List ℕ) (now : Option (List ℕ)) where
  document_reads : AsksToRead words Certificate values.1.0
  document_reads = record { asked = record { command = Carry; values = values }; asks = asks; reads = second_read Recipe Certificate (Reads Recipe ∷ Creates ∷ []) asks.fits.operands values asks.say }

  asks_carry : (first : RecipeValue) → HoldsRecipe found.files values.0 first → AsksCarry found.files words first values.1.0 values.1.1.0
  asks_carry first held = record { name = values.0; out = values.1.1.1.0; asks = asks; held = held }

  -- over a valid certificate
  module _ (first : RecipeValue) (held : HoldsRecipe found.files values.0 first) (valid : CarriesValid found.files values.1.0 values.1.1.0 first status text now) where
    asks_valid : AsksValid found.files words first valid.heading values.1.1.0
    asks_valid = record { document = values.1.0; nodes = valid.nodes; asks = asks_carry first held; held = valid.held }

    by_second : (plan : List Bool) → plan_named (length first.files) valid.heading.plan ≡ Some plan → (second : RecipeValue) → HoldsRecipe found.files values.1.1.0 second
        → CarryTo first valid.heading.range plan status text now second → OrderCause found words status
    by_second plan is second there (inl other) =
        by_refusal found words other_recipe status text other.refuses
        (OtherRecipe (record { first = first; second = second; heading = valid.heading; plan = plan; asks = record { other = values.1.1.0; asks = asks_valid; plan_is = is; held = there }; apart = other.apart }))
    by_second plan is second there (inr printed) =
        let carries = printed.carries in
        let alike : AreAlike first second = record { first = lawful (rows_of held.bytes) first held.lawful; second = lawful (rows_of there.bytes) second there.lawful; reordered = carries.same } in
        subst (OrderCause found words) (sym printed.answers)
        (CarryDone (record {
          first = first;
          second = second;
          heading = valid.heading;
          plan = plan;
          asks = record { other = values.1.1.0; asks = asks_valid; plan_is = is; held = there };
          set = printed.set;
          same = carries.same;
          files = carries.files;
          names = carries.carried;
          sums = carried_sums sound merging tables first second alike plan printed.set printed.pins carries far;
          in_range = carried_within first second valid.heading.range plan status text now printed;
          best = carried_best sound merging tables first second alike plan printed.set printed.pins carries far_best valid.heading valid.nodes valid.held.valid is;
        }))

    by_plan : (plan : Option (List Bool)) → plan_named (length first.files) valid.heading.plan ≡ plan → CarryBy found.files values.1.1.0 first valid.heading.range plan status text now → OrderCause found words status
    by_plan None is refuses =
        by_refusal found words no_plan status text refuses
        (NoPlan (record { first = first; heading = valid.heading; other = values.1.1.0; asks = asks_valid; none = none_named (length first.files) valid.heading.plan is }))
    by_plan (Some plan) is ends =
        recipe_cause found words values.1.1.0 status text _
        (record { asked = record { command = Carry; values = values }; asks = asks; reads = third_read Recipe Certificate Recipe (Creates ∷ []) asks.fits.operands values asks.say }) (by_second plan is) ends

  by_document : (first : RecipeValue) → HoldsRecipe found.files values.0 first → CarryOf found.files values.1.0 values.1.1.0 values.1.1.1.0 status text now first → OrderCause found words status
  by_document first held (inl lacking) =
      by_refusal found words (not_there values.1.0) status text lacking.refuses (NotThere (record { form = Certificate; name = values.1.0; asks = document_reads; lacks = lacking.lacks }))
  by_document first held (inr (inl long)) =
      by_refusal found words (too_long values.1.0) status text long.refuses
      (TooLong (record { form = Certificate; bytes = long.bytes; asks = record { name = values.1.0; asks = document_reads; held = long.held }; long = long.runs.unseen.long }))
  by_document first held (inr (inr (inl none))) =
      let failure = none.failure in
      subst (OrderCause found words) (sym failure.answers)
      (CarryFails (record { first = first; document = values.1.0; other = values.1.1.0; asks = asks_carry first held; line = failure.line; rule = failure.rule; held = failure.held }))
  by_document first held (inr (inr (inr valid))) = by_plan first held valid (plan_named (length first.files) valid.heading.plan) refl valid.rest

  pub carry_caused : CarryEnds values.0 values.1.0 values.1.1.0 values.1.1.1.0 found.files status text now → OrderCause found words status
  carry_caused e =
      recipe_cause found words values.0 status text _
      (record { asked = record { command = Carry; values = values }; asks = asks; reads = first_read Recipe (Reads Certificate ∷ Reads Recipe ∷ Creates ∷ []) asks.fits.operands values asks.say }) by_document e
