-- How each of these commands ends has the cause of its status.
use Rattle.std.proofs.Common.{◌≡◌, ◌∙◌, ◌∷◌, [], ℕ, List, Bool, Option, Some, None, refl, sym, ap, subst, inl, inr, length}
use Rattle.seed_model.specs.Files.{holds}
use Rattle.bound_cert.specs.declared.heading.Answer.{Answer}
use Rattle.bound_cert.specs.declared.heading.Answer.TheVariants.{Optimal, Infeasible, Open}
use Rattle.bound_cert.specs.Sets.{set_named}
use Rattle.chunk_merge.specs.Merged.{KeepsSums}
use Rattle.recipe_reader.specs.Recipes.{RecipeValue}
use Rattle.goseed_words.specs.Asked.{Asks, AsksToRead, Values}
use Rattle.goseed_words.specs.Commands.{Recipe, Certificate, Reads, AnAmount, Gap, Gen, Greedy, row}
use Rattle.goseed_words.proofs.OperandLemmas.{first_read, second_read}
use Rattle.command_texts.specs.declared.status.Status.{Status}
use Rattle.command_texts.specs.declared.status.Status.TheVariants as ended
use Rattle.command_texts.specs.Refusals.{Refuses, Refusal, not_there, too_long, no_recipe}
use Rattle.command_endings.specs.Worlds.{World}
use Rattle.planning_commands.specs.Best.{range_in}
use Rattle.planning_commands.specs.Plan.{answer_status}
use Rattle.planning_commands.specs.Reading.{HoldsRecipe, RecipeEnds}
use Rattle.planning_commands.proofs.SearchCommon.{done_best, none_shown}
use Rattle.trial_commands.specs.Causes.{TrialCause, RefusalCause, NotThere, TooLong, NoRecipe, GenDone, GenNone, GenOpen, GreedyDone, GreedyStuck, GapDone, GapStuck, GapFails}
use Rattle.trial_commands.specs.Gap.{AsksGap, GapEnds, GapOf, PrintsGap}
use Rattle.trial_commands.specs.Gen.{AsksGen, PrintsDrawn, SearchesDrawn, drawn_range}
use Rattle.trial_commands.specs.Greedy.{AsksGreedy, GreedyEnds, GreedyOf}

-- a refusal with its cause
by_refusal : (found : World) (words : List (List ℕ)) (refusal : Refusal) (status : Status) (text : List ℕ) → Refuses refusal status text → RefusalCause found.files words refusal.number
    → TrialCause found words status
by_refusal found words refusal status text refuses cause = subst (TrialCause found words) (sym refuses.answers) cause

-- a command that reads the recipe of a name has the cause of its status, where one that got the recipe has it
recipe_cause : (found : World) (words : List (List ℕ)) (name : List ℕ) (status : Status) (text : List ℕ) (Rest : RecipeValue → Type 0) → AsksToRead words Recipe name
    → ((recipe : RecipeValue) → HoldsRecipe found.files name recipe → Rest recipe → TrialCause found words status) → RecipeEnds found.files name status text Rest → TrialCause found words status
recipe_cause found words name status text Rest asks rest (inl (inl lacking)) =
    by_refusal found words (not_there name) status text lacking.refuses (NotThere (record { form = Recipe; name = name; asks = asks; lacks = lacking.lacks }))
recipe_cause found words name status text Rest asks rest (inl (inr (inl long))) =
    by_refusal found words (too_long name) status text long.refuses
    (TooLong (record { form = Recipe; bytes = long.bytes; asks = record { name = name; asks = asks; held = long.held }; long = long.long }))
recipe_cause found words name status text Rest asks rest (inl (inr (inr none))) =
    let refused = none.refused in
    by_refusal found words (no_recipe refused.error) status text refused.refuses
    (NoRecipe refused.error (record { bytes = none.bytes; asks = record { name = name; asks = asks; held = none.reads.held }; fault = refused.fault }))
recipe_cause found words name status text Rest asks rest (inr read) = rest read.recipe read.held read.rest

-- each command, from the values that its words say
pub greedy_caused : (words : List (List ℕ)) (values : Values (row Greedy).operands) → Asks words (record { command = Greedy; values = values })
    → (found : World) (status : Status) (text : List ℕ) → GreedyEnds values.0 values.1.0 values.1.1.0 found.files status text → TrialCause found words status
greedy_caused words values asks found status text e =
    recipe_cause found words values.0 status text _ (record { asked = record { command = Greedy; values = values }; asks = asks; reads = first_read Recipe (AnAmount ∷ AnAmount ∷ []) asks.fits.operands values asks.say })
    by_set e
  where
    by_set : (recipe : RecipeValue) → HoldsRecipe found.files values.0 recipe → GreedyOf values.1.0 values.1.1.0 status text recipe → TrialCause found words status
    by_set recipe held (inl p) =
        subst (TrialCause found words) (sym p.answers)
        (GreedyDone (record {
          recipe = recipe;
          target = values.1.0;
          slack = values.1.1.0;
          asks = record { name = values.0; asks = asks; held = held };
          set = p.set;
          turns = p.turns;
          rounds = p.rounds;
          found = p.found;
        }))
    by_set recipe held (inr p) =
        subst (TrialCause found words) (sym p.answers)
        (GreedyStuck (record { recipe = recipe; target = values.1.0; slack = values.1.1.0; asks = record { name = values.0; asks = asks; held = held }; turns = p.turns; none = p.none }))

pub gap_caused : (words : List (List ℕ)) (values : Values (row Gap).operands) → Asks words (record { command = Gap; values = values })
    → (found : World) (status : Status) (text : List ℕ) → GapEnds values.0 values.1.0 found.files status text → TrialCause found words status
gap_caused words values asks found status text e =
    recipe_cause found words values.0 status text _
    (record { asked = record { command = Gap; values = values }; asks = asks; reads = first_read Recipe (Reads Certificate ∷ []) asks.fits.operands values asks.say })
    by_certificate e
  where
    reads : AsksToRead words Certificate values.1.0
    reads = record { asked = record { command = Gap; values = values }; asks = asks; reads = second_read Recipe Certificate [] asks.fits.operands values asks.say }

    by_certificate : (recipe : RecipeValue) → HoldsRecipe found.files values.0 recipe → GapOf found.files values.1.0 status text recipe → TrialCause found words status
    by_certificate recipe held (inl lacking) =
        by_refusal found words (not_there values.1.0) status text lacking.refuses (NotThere (record { form = Certificate; name = values.1.0; asks = reads; lacks = lacking.lacks }))
    by_certificate recipe held (inr (inl long)) =
        by_refusal found words (too_long values.1.0) status text long.refuses
        (TooLong (record { form = Certificate; bytes = long.bytes; asks = record { name = values.1.0; asks = reads; held = long.held }; long = long.runs.unseen.long }))
    by_certificate recipe held (inr (inr (inl p))) =
        subst (TrialCause found words) (sym p.answers)
        (GapFails (record { recipe = recipe; name = values.1.0; asks = record { read = values.0; asks = asks; held = held }; line = p.line; rule = p.rule; held = p.held }))
    by_certificate recipe held (inr (inr (inr p))) = elim p.beside [
      | inl between ↦ subst (TrialCause found words) (sym between.answers)
          (GapDone (record {
            valid = record { recipe = recipe; name = values.1.0; asks = record { read = values.0; asks = asks; held = held }; heading = p.heading; nodes = p.nodes; held = p.held };
            set = between.set;
            turns = between.turns;
            rounds = between.rounds;
            found = between.found;
            least = between.least;
            bound_is = between.bound_is;
            between = between.between;
          }))
      | inr none ↦ subst (TrialCause found words) (sym none.answers)
          (GapStuck (record {
            valid = record { recipe = recipe; name = values.1.0; asks = record { read = values.0; asks = asks; held = held }; heading = p.heading; nodes = p.nodes; held = p.held };
            turns = none.turns;
            none = none.none;
          }))
    ]

pub gen_caused : KeepsSums → (words : List (List ℕ)) (values : Values (row Gen).operands) → Asks words (record { command = Gen; values = values })
    → (found : World) (status : Status) (text : List ℕ) (now : Option (List ℕ)) → PrintsDrawn values.0 values.1.0 status text now → TrialCause found words status
gen_caused sums words values asks found status text now e = by_answer p.heading.answer refl
  where
    p : SearchesDrawn e.recipe status e.printed.lines now
    p = e.printed.searched

    asked : AsksGen words e.recipe
    asked = record { number = values.0; files = values.1.0; asks = asks; drawn = e.drawn }

    by_answer : (answer : Answer) → p.heading.answer ≡ answer → TrialCause found words status
    by_answer Optimal is =
        let done : status ≡ ended.Done = p.answers ∙ ap answer_status is in
        let best = done_best sums e.recipe (drawn_range e.recipe) None 200 status e.printed.lines now p done in
        subst (TrialCause found words) (sym done) (GenDone (record { recipe = e.recipe; asks = asked; plan = set_named (length e.recipe.files) best.claimed.set; best = best.best }))
    by_answer Infeasible is =
        let ended_no : status ≡ ended.No = p.answers ∙ ap answer_status is in
        subst (TrialCause found words) (sym ended_no) (GenNone (record { recipe = e.recipe; asks = asked; none = none_shown sums e.recipe (drawn_range e.recipe) None 200 status e.printed.lines now p ended_no }))
    by_answer Open is =
        let spent : status ≡ ended.Unfinished = p.answers ∙ ap answer_status is in
        subst (TrialCause found words) (sym spent)
        (GenOpen (record { recipe = e.recipe; asks = asked; heading = p.heading; nodes = p.nodes; open_is = is; searched = p.searched; few = p.few spent }))
