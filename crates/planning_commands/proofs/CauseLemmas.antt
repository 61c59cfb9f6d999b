-- How a command on plans ends has the cause of its status.
use Rattle.std.proofs.Common.{◌∷◌, [], ℕ, List, Option, Some, None, refl, sym, subst, inl, inr, length}
use Rattle.seed_model.specs.Tables.{IsTable}
use Rattle.bound_cert.specs.Laws.{ValidIsSo}
use Rattle.chunk_merge.specs.Merged.{KeepsSums}
use Rattle.recipe_reader.specs.Recipes.{RecipeValue}
use Rattle.seed_io.specs.Shelf.{Told}
use Rattle.goseed_words.specs.declared.amount.Amount.{Amount}
use Rattle.goseed_words.specs.Asked.{Asks, AsksToRead, Values}
use Rattle.goseed_words.specs.Commands.{Recipe, Certificate, Reads, Creates, ASet, AnAmount, ANumber, Best, Weigh, Check, Relax, Plan, Pinned, row}
use Rattle.goseed_words.proofs.OperandLemmas.{first_read, second_read}
use Rattle.command_texts.specs.declared.status.Status.{Status}
use Rattle.command_texts.specs.Refusals.{not_there, too_long, no_recipe, bad_word, too_many_files}
use Rattle.command_endings.specs.Worlds.{World}
use Rattle.planning_commands.specs.Best.{BestEnds, BestOf, AsksBest, range_in}
use Rattle.planning_commands.specs.Causes.{PlanningCause, NotThere, TooLong, NoRecipe, NoSet, NoPins, TooManyFiles, BestDone, BestNone, WeighDone}
use Rattle.planning_commands.specs.Reading.{HoldsRecipe, RecipeEnds}
use Rattle.planning_commands.specs.Weigh.{WeighEnds, WeighOf, AsksWeigh}
use Rattle.planning_commands.specs.Check.{CheckEnds, judged_table}
use Rattle.planning_commands.specs.Plan.{PlanEnds, PinnedEnds, PinnedOf}
use Rattle.planning_commands.specs.Relax.{RelaxEnds}
use Rattle.planning_commands.proofs.CheckLemmas.{check_cause}
use Rattle.planning_commands.proofs.Refusing.{by_refusal}
use Rattle.planning_commands.proofs.RelaxLemmas.{relax_cause}
use Rattle.planning_commands.proofs.SearchCommon.{search_cause}

-- a command that reads the recipe of a name has the cause of its status, where one that got the recipe has it
recipe_cause : (found : World) (words : List (List ℕ)) (name : List ℕ) (status : Status) (text : List ℕ) (Rest : RecipeValue → Type 0) → AsksToRead words Recipe name
    → ((recipe : RecipeValue) → HoldsRecipe found.files name recipe → Rest recipe → PlanningCause found words status) → RecipeEnds found.files name status text Rest → PlanningCause found words status
recipe_cause found words name status text Rest asks rest (inl (inl lacking)) =
    by_refusal found words (not_there name) status text lacking.refuses (NotThere (record { form = Recipe; name = name; asks = asks; lacks = lacking.lacks }))
recipe_cause found words name status text Rest asks rest (inl (inr (inl long))) =
    by_refusal found words (too_long name) status text long.refuses
    (TooLong (record { form = Recipe; bytes = long.bytes; asks = record { name = name; asks = asks; held = long.held }; long = long.long }))
recipe_cause found words name status text Rest asks rest (inl (inr (inr none))) =
    let refused = none.refused in
    by_refusal found words (no_recipe refused.error) status text refused.refuses
    (NoRecipe refused.error (record { bytes = none.bytes; asks = record { name = name; asks = asks; held = none.reads.held }; fault = refused.fault }))
recipe_cause found words name status text Rest asks rest (inr read) = rest read.recipe read.held read.rest

best_cause : (found : World) (words : List (List ℕ)) (recipe : RecipeValue) (target slack : Amount) (status : Status) (text : List ℕ) → AsksBest found.files words recipe target slack
    → BestOf target slack status text recipe → PlanningCause found words status
best_cause found words recipe target slack status text asks (inl many) =
    by_refusal found words (too_many_files (length recipe.files)) status text many.refuses
    (TooManyFiles (record { recipe = recipe; target = target; slack = slack; asks = asks; many = many.many }))
best_cause found words recipe target slack status text asks (inr all) = elim all.answer [
  | inl best ↦ subst (PlanningCause found words) (sym best.answers)
      (BestDone (record { recipe = recipe; target = target; slack = slack; asks = asks; few = all.few; plan = best.plan; best = best.best }))
  | inr none ↦ subst (PlanningCause found words) (sym none.answers) (BestNone (record { recipe = recipe; target = target; slack = slack; asks = asks; few = all.few; none = none.none }))
]

weigh_cause : (found : World) (words : List (List ℕ)) (recipe : RecipeValue) (set : List ℕ) (status : Status) (text : List ℕ) → AsksWeigh found.files words recipe set
    → WeighOf set status text recipe → PlanningCause found words status
weigh_cause found words recipe set status text asks (inl bad) =
    by_refusal found words (bad_word 3) status text bad.refuses (NoSet (record { recipe = recipe; word = set; asks = asks; none = bad.none }))
weigh_cause found words recipe set status text asks (inr sums) =
    subst (PlanningCause found words) (sym sums.answers) (WeighDone (record { recipe = recipe; word = set; asks = asks; set = sums.set; spells = sums.spells }))

-- each command, from the values that its words say
pub best_caused : (words : List (List ℕ)) (values : Values (row Best).operands) → Asks words (record { command = Best; values = values })
    → (found : World) (status : Status) (text : List ℕ) → BestEnds values.0 values.1.0 values.1.1.0 found.files status text → PlanningCause found words status
best_caused words values asks found status text e =
    recipe_cause found words values.0 status text _ (record { asked = record { command = Best; values = values }; asks = asks; reads = first_read Recipe (AnAmount ∷ AnAmount ∷ []) asks.fits.operands values asks.say })
    (λ recipe held rest. best_cause found words recipe values.1.0 values.1.1.0 status text (record { name = values.0; asks = asks; held = held }) rest) e

pub weigh_caused : (words : List (List ℕ)) (values : Values (row Weigh).operands) → Asks words (record { command = Weigh; values = values })
    → (found : World) (status : Status) (text : List ℕ) → WeighEnds values.0 values.1.0 found.files status text → PlanningCause found words status
weigh_caused words values asks found status text e =
    recipe_cause found words values.0 status text _ (record { asked = record { command = Weigh; values = values }; asks = asks; reads = first_read Recipe (ASet ∷ []) asks.fits.operands values asks.say })
    (λ recipe held rest. weigh_cause found words recipe values.1.0 status text (record { name = values.0; asks = asks; held = held }) rest) e

pub check_caused : ValidIsSo → KeepsSums → ((given : Told) (name : List ℕ) (recipe : RecipeValue) → HoldsRecipe given name recipe → IsTable (judged_table recipe))
    → (words : List (List ℕ)) (values : Values (row Check).operands) → Asks words (record { command = Check; values = values })
    → (found : World) (status : Status) (text : List ℕ) → CheckEnds values.0 values.1.0 found.files status text → PlanningCause found words status
check_caused sound sums lawful words values asks found status text e =
    let reads : AsksToRead words Certificate values.1.0 =
    record { asked = record { command = Check; values = values }; asks = asks; reads = second_read Recipe Certificate [] asks.fits.operands values asks.say } in
    recipe_cause found words values.0 status text _
    (record { asked = record { command = Check; values = values }; asks = asks; reads = first_read Recipe (Reads Certificate ∷ []) asks.fits.operands values asks.say })
    (λ recipe held rest. check_cause sound sums found words recipe values.1.0 status text (lawful found.files values.0 recipe held) (record { read = values.0; asks = asks; held = held }) reads rest) e

pub relax_caused : (words : List (List ℕ)) (values : Values (row Relax).operands) → Asks words (record { command = Relax; values = values })
    → (found : World) (status : Status) (text : List ℕ) → RelaxEnds values.0 values.1.0 values.1.1.0 values.1.1.1.0 values.1.1.1.1.0 found.files status text → PlanningCause found words status
relax_caused words values asks found status text e =
    recipe_cause found words values.0 status text _
    (record { asked = record { command = Relax; values = values }; asks = asks; reads = first_read Recipe (AnAmount ∷ AnAmount ∷ ASet ∷ ASet ∷ []) asks.fits.operands values asks.say })
    (λ recipe held rest. relax_cause found words recipe values.1.0 values.1.1.0 values.1.1.1.0 values.1.1.1.1.0 status text
    (record { name = values.0; target = values.1.0; slack = values.1.1.0; asks = asks; held = held }) rest) e

pub plan_caused : KeepsSums → (words : List (List ℕ)) (values : Values (row Plan).operands) → Asks words (record { command = Plan; values = values })
    → (found : World) (status : Status) (text : List ℕ) (now : Option (List ℕ)) → PlanEnds values.0 values.1.1.0 values.1.1.1.0 values.1.1.1.1.0 found.files status text now → PlanningCause found words status
plan_caused sums words values asks found status text now e =
    recipe_cause found words values.0 status text _
    (record { asked = record { command = Plan; values = values }; asks = asks; reads = first_read Recipe (Creates ∷ AnAmount ∷ AnAmount ∷ ANumber 65535 ∷ []) asks.fits.operands values asks.say })
    (λ recipe held rest. search_cause sums recipe (range_in recipe values.1.1.0 values.1.1.1.0) None values.1.1.1.1.0 found words values.1.0 status text now
    (record { name = values.0; target = values.1.1.0; slack = values.1.1.1.0; asks = asks; held = held; range_is = refl }) rest) e

pub pinned_caused : KeepsSums → (words : List (List ℕ)) (values : Values (row Pinned).operands) → Asks words (record { command = Pinned; values = values })
    → (found : World) (status : Status) (text : List ℕ) (now : Option (List ℕ))
    → PinnedEnds values.0 values.1.1.0 values.1.1.1.0 values.1.1.1.1.0 values.1.1.1.1.1.0 values.1.1.1.1.1.1.0 found.files status text now → PlanningCause found words status
pinned_caused sums words values asks found status text now e =
    recipe_cause found words values.0 status text _
    (record { asked = record { command = Pinned; values = values }; asks = asks; reads = first_read Recipe (Creates ∷ AnAmount ∷ AnAmount ∷ ANumber 65535 ∷ ASet ∷ ASet ∷ []) asks.fits.operands values asks.say })
    by_pins e
  where
    by_pins : (recipe : RecipeValue) → HoldsRecipe found.files values.0 recipe
        → PinnedOf values.1.1.0 values.1.1.1.0 values.1.1.1.1.0 values.1.1.1.1.1.0 values.1.1.1.1.1.1.0 status text now recipe → PlanningCause found words status
    by_pins recipe held (inl p) =
        by_refusal found words (bad_word p.bad) status text p.refuses
        (NoPins (record {
          recipe = recipe;
          name = values.0;
          document = values.1.0;
          target = values.1.1.0;
          slack = values.1.1.1.0;
          budget = values.1.1.1.1.0;
          go = values.1.1.1.1.1.0;
          stay = values.1.1.1.1.1.1.0;
          asks = asks;
          held = held;
          bad = p.bad;
          fault = p.fault;
        }))
    by_pins recipe held (inr p) =
        search_cause sums recipe (range_in recipe values.1.1.0 values.1.1.1.0) (Some p.pins) values.1.1.1.1.0 found words values.1.0 status text now
        (record {
          name = values.0;
          target = values.1.1.0;
          slack = values.1.1.1.0;
          go = values.1.1.1.1.1.0;
          stay = values.1.1.1.1.1.1.0;
          asks = asks;
          held = held;
          range_is = refl;
          spells = p.spells;
        }) p.searched
