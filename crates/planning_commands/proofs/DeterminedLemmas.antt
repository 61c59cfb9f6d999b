-- What a command on plans finds determines how it ends.
use Rattle.std.proofs.Common.{◌≡◌, ◌∙◌, ◌<◌, ◌≤◌, ℕ, List, Bool, Some, None, sym, ap, subst, inl, inr, length, arith}
use Rattle.std.specs.Prelude.{◌⊎◌}
use Rattle.csv_rows.specs.Rows.{rows_of}
use Rattle.seed_io.specs.Shelf.{Told}
use Rattle.seed_model.specs.declared.range.Range.{Range}
use Rattle.seed_model.specs.Files.{holds}
use Rattle.seed_model.specs.Tables.{IsTable}
use Rattle.seed_text.specs.SetTexts.{OneSpelling}
use Rattle.bound_cert.specs.Laws.{ValidIsSo, OneFailure, RunsOnUnfailed, FailureIsNotValid, OneDocument}
use Rattle.chunk_merge.specs.Merged.{KeepsSums}
use Rattle.recipe_reader.specs.declared.error.RecipeError.{RecipeError}
use Rattle.recipe_reader.specs.Recipes.{RecipeValue, empty_recipe, table_of}
use Rattle.recipe_reader.specs.Reading.{Leads, IsFirstFault}
use Rattle.goseed_words.specs.declared.amount.Amount.{Amount}
use Rattle.goseed_words.specs.Commands.{Recipe, Best, Weigh, Check, Relax, Plan, Pinned}
use Rattle.command_texts.specs.declared.status.Status.{Status}
use Rattle.command_texts.specs.Refusals.{Refuses, bad_word, not_there, too_long, no_recipe, too_many_files}
use Rattle.command_endings.specs.Laws.{IsLawfulCommand, IsOneText}
use Rattle.command_endings.specs.Reading.{most_bytes}
use Rattle.command_endings.proofs.DeterminedLemmas.{IsSame, IsRefused, refused, same_refused, same_refusal, on_shelf_determined, reading_determined}
use Rattle.planning_commands.specs.Best.{BestEnds, BestOf, PrintsBest, PrintsNone, range_in}
use Rattle.planning_commands.specs.Causes.{PlanningCause}
use Rattle.planning_commands.specs.Check.{CheckEnds, judged_table}
use Rattle.planning_commands.specs.Endings.{best_common, best_ends, weigh_common, weigh_ends, check_common, check_ends, relax_common, relax_ends, plan_common, plan_ends, pinned_common, pinned_ends}
use Rattle.planning_commands.specs.Reading.{LacksRecipe, HoldsRecipe, RecipeEnds}
use Rattle.planning_commands.specs.Plan.{PlanEnds, PinnedEnds}
use Rattle.planning_commands.specs.Relax.{RelaxEnds, IsOneValue}
use Rattle.planning_commands.specs.Texts.{best_text, weigh_text}
use Rattle.planning_commands.specs.Weigh.{WeighEnds, WeighOf}
use Rattle.planning_commands.proofs.CauseLemmas.{best_caused, weigh_caused, check_caused, relax_caused, plan_caused, pinned_caused}
use Rattle.planning_commands.proofs.CheckLemmas.{same_check}
use Rattle.planning_commands.proofs.PlanLemmas.{same_plan}
use Rattle.planning_commands.specs.Laws.{GiveOne}
use Rattle.planning_commands.proofs.RelaxLemmas.{not_bad, same_node, same_relax}
use Rattle.planning_commands.proofs.SearchCommon.{creating_common, same_pinned, searches_agree}

same_best : (recipe : RecipeValue) (target slack : Amount) (one other : Status) (text told : List ℕ) → BestOf target slack one text recipe → BestOf target slack other told recipe
    → IsSame one other text told
same_best recipe target slack one other text told (inl p) (inl q) = same_refusal (too_many_files (length recipe.files)) one other text told p.refuses q.refuses
same_best recipe target slack one other text told (inl p) (inr q) = let many = p.many in let few = q.few in absurd (omega (arith, many, few))
same_best recipe target slack one other text told (inr p) (inl q) = let few = p.few in let many = q.many in absurd (omega (arith, many, few))
same_best recipe target slack one other text told (inr p) (inr q) = by_answer p.answer q.answer
  where
    range : Range
    range = range_in recipe target slack

    by_answer : PrintsBest recipe range one text ⊎ PrintsNone recipe range one text → PrintsBest recipe range other told ⊎ PrintsNone recipe range other told → IsSame one other text told
    by_answer (inl a) (inl b) =
        let plans = same_plan (table_of recipe) range a.plan b.plan a.width b.width a.best b.best in
        (a.answers ∙ sym b.answers, a.prints ∙ (ap (λ (plan : List Bool). best_text recipe plan) plans ∙ sym b.prints))
    by_answer (inl a) (inr b) = absurd (b.none (holds a.plan) a.best.best.in_range)
    by_answer (inr a) (inl b) = absurd (a.none (holds b.plan) b.best.best.in_range)
    by_answer (inr a) (inr b) = (a.answers ∙ sym b.answers, a.prints ∙ sym b.prints)

module _ (one_spelling : OneSpelling)
    (one_recipe : (rows : List (List (List ℕ))) (a b : RecipeValue) → Leads empty_recipe rows a → Leads empty_recipe rows b → a ≡ b)
    (one_fault : (rows : List (List (List ℕ))) (a b : RecipeError) → IsFirstFault empty_recipe rows a → IsFirstFault empty_recipe rows b → a ≡ b)
    (no_fault : (rows : List (List (List ℕ))) (recipe : RecipeValue) (fault : RecipeError) → Leads empty_recipe rows recipe → ¬ IsFirstFault empty_recipe rows fault) where
  same_weigh : (recipe : RecipeValue) (word : List ℕ) (one other : Status) (text told : List ℕ) → WeighOf word one text recipe → WeighOf word other told recipe → IsSame one other text told
  same_weigh recipe word one other text told (inl p) (inl q) = same_refusal (bad_word 3) one other text told p.refuses q.refuses
  same_weigh recipe word one other text told (inl p) (inr q) = absurd (p.none q.set q.spells.width q.spells.spelled)
  same_weigh recipe word one other text told (inr p) (inl q) = absurd (q.none p.set p.spells.width p.spells.spelled)
  same_weigh recipe word one other text told (inr p) (inr q) =
      let sets = one_spelling p.set q.set (p.spells.width ∙ sym q.spells.width) (sym p.spells.spelled ∙ q.spells.spelled) in
      (p.answers ∙ sym q.answers, p.prints ∙ (ap (λ (set : List Bool). weigh_text recipe set) sets ∙ sym q.prints))

  -- the bytes that a name has are one
  same_bytes : (given : Told) (name : List ℕ) (a b : List ℕ) → given name ≡ Some a → given name ≡ Some b → a ≡ b
  same_bytes given name a b p q = cc (sym p ∙ q)

  long_and_short : (given : Told) (name : List ℕ) (a b : List ℕ) → given name ≡ Some a → given name ≡ Some b → most_bytes Recipe < length a → length b ≤ most_bytes Recipe → ⊥
  long_and_short given name a b p q long short =
      let lengths = ap (λ (t : List ℕ). length t) (same_bytes given name a b p q) in
      omega (arith, lengths, long, short)

  -- a name that gives a recipe does not lack one
  not_both : (given : Told) (name : List ℕ) (recipe : RecipeValue) (status : Status) (text : List ℕ) → HoldsRecipe given name recipe → LacksRecipe given name status text → ⊥
  not_both given name recipe status text held (inl lacking) = cc (lacking.lacks, held.reads.held)
  not_both given name recipe status text held (inr (inl long)) = long_and_short given name long.bytes held.bytes long.held held.reads.held long.long held.reads.short
  not_both given name recipe status text held (inr (inr none)) =
      let bytes = same_bytes given name none.bytes held.bytes none.reads.held held.reads.held in
      no_fault (rows_of held.bytes) recipe none.refused.error held.lawful (subst (λ (t : List ℕ). IsFirstFault empty_recipe (rows_of t) none.refused.error) bytes none.refused.fault)

  same_lack : (given : Told) (name : List ℕ) (one other : Status) (text told : List ℕ) → LacksRecipe given name one text → LacksRecipe given name other told → IsRefused one other text told
  same_lack given name one other text told (inl p) (inl q) = refused (not_there name) one other text told p.refuses q.refuses
  same_lack given name one other text told (inl p) (inr (inl q)) = absurd (cc (p.lacks, q.held))
  same_lack given name one other text told (inl p) (inr (inr q)) = absurd (cc (p.lacks, q.reads.held))
  same_lack given name one other text told (inr (inl p)) (inl q) = absurd (cc (q.lacks, p.held))
  same_lack given name one other text told (inr (inl p)) (inr (inl q)) = refused (too_long name) one other text told p.refuses q.refuses
  same_lack given name one other text told (inr (inl p)) (inr (inr q)) = absurd (long_and_short given name p.bytes q.bytes p.held q.reads.held p.long q.reads.short)
  same_lack given name one other text told (inr (inr p)) (inl q) = absurd (cc (q.lacks, p.reads.held))
  same_lack given name one other text told (inr (inr p)) (inr (inl q)) = absurd (long_and_short given name q.bytes p.bytes q.held p.reads.held q.long p.reads.short)
  same_lack given name one other text told (inr (inr p)) (inr (inr q)) =
      let bytes = same_bytes given name p.bytes q.bytes p.reads.held q.reads.held in
      let fault = subst (λ (t : List ℕ). IsFirstFault empty_recipe (rows_of t) p.refused.error) bytes p.refused.fault in
      let errors = one_fault (rows_of q.bytes) p.refused.error q.refused.error fault q.refused.fault in
      refused (no_recipe q.refused.error) one other text told (subst (λ (e : RecipeError). Refuses (no_recipe e) one text) errors p.refused.refuses) q.refused.refuses

  pub same_reading : {Same : Type 0} (given : Told) (name : List ℕ) (First Second : RecipeValue → Type 0) (one other : Status) (text told : List ℕ) → (IsRefused one other text told → Same)
      → ((recipe : RecipeValue) → First recipe → Second recipe → Same) → RecipeEnds given name one text First → RecipeEnds given name other told Second → Same
  same_reading given name First Second one other text told refusal rest (inl p) (inl q) = refusal (same_lack given name one other text told p q)
  same_reading given name First Second one other text told refusal rest (inl p) (inr q) = absurd (not_both given name q.recipe one text q.held p)
  same_reading given name First Second one other text told refusal rest (inr p) (inl q) = absurd (not_both given name p.recipe other told p.held q)
  same_reading given name First Second one other text told refusal rest (inr p) (inr q) =
      let bytes = same_bytes given name p.held.bytes q.held.bytes p.held.reads.held q.held.reads.held in
      let lawful = subst (λ (t : List ℕ). Leads empty_recipe (rows_of t) p.recipe) bytes p.held.lawful in
      let recipes = one_recipe (rows_of q.held.bytes) p.recipe q.recipe lawful q.held.lawful in
      rest q.recipe (subst (λ (r : RecipeValue). First r) recipes p.rest) q.rest

  pub best_lawful : IsLawfulCommand PlanningCause Best best_ends best_common
  best_lawful = record {
    determined = λ values. on_shelf_determined IsOneText _ (reading_determined IsOneText (BestEnds values.0 values.1.0 values.1.1.0)
        (λ given one other text told p q. same_reading given values.0 _ _ one other text told (same_refused one other text told)
        (λ recipe a b. same_best recipe values.1.0 values.1.1.0 one other text told a b) p q));
    caused = λ words values asks found left status text e. best_caused words values asks found status text e.ends.ends;
  }

  pub weigh_lawful : IsLawfulCommand PlanningCause Weigh weigh_ends weigh_common
  weigh_lawful = record {
    determined = λ values. on_shelf_determined IsOneText _ (reading_determined IsOneText (WeighEnds values.0 values.1.0)
        (λ given one other text told p q. same_reading given values.0 _ _ one other text told (same_refused one other text told)
        (λ recipe a b. same_weigh recipe values.1.0 one other text told a b) p q));
    caused = λ words values asks found left status text e. weigh_caused words values asks found status text e.ends.ends;
  }

  pub check_lawful : ValidIsSo → KeepsSums → OneFailure → RunsOnUnfailed → FailureIsNotValid → OneDocument
      → ((given : Told) (name : List ℕ) (recipe : RecipeValue) → HoldsRecipe given name recipe → IsTable (judged_table recipe)) → IsLawfulCommand PlanningCause Check check_ends check_common
  check_lawful sound sums one_failure unfailed failed one_document lawful = record {
    determined = λ values. on_shelf_determined IsOneText _ (reading_determined IsOneText (CheckEnds values.0 values.1.0)
        (λ given one other text told p q. same_reading given values.0 _ _ one other text told (same_refused one other text told)
        (λ recipe a b. same_check one_failure unfailed failed one_document given values.1.0 recipe one other text told a b) p q));
    caused = λ words values asks found left status text e. check_caused sound sums lawful words values asks found status text e.ends.ends;
  }

  pub relax_lawful : IsLawfulCommand PlanningCause Relax relax_ends relax_common
  relax_lawful = record {
    determined = λ values. on_shelf_determined IsOneValue _ (reading_determined IsOneValue (RelaxEnds values.0 values.1.0 values.1.1.0 values.1.1.1.0 values.1.1.1.1.0)
        (λ given one other text told p q. same_reading given values.0 _ _ one other text told (λ r. let is = same_refused one other text told r in (is.0, inl is.1))
        (λ recipe a b. same_relax one_spelling recipe values.1.0 values.1.1.0 values.1.1.1.0 values.1.1.1.1.0 one other text told a b) p q));
    caused = λ words values asks found left status text e. relax_caused words values asks found status text e.ends.ends;
  }

  pub plan_lawful : KeepsSums → IsLawfulCommand PlanningCause Plan plan_ends plan_common
  plan_lawful sums = record {
    determined = λ values. creating_common values.1.0 (PlanEnds values.0 values.1.1.0 values.1.1.1.0 values.1.1.1.1.0)
        (λ given one other text told now kept p q. same_reading given values.0 _ _ one other text told inl
        (λ recipe a b. inr (searches_agree sums recipe (range_in recipe values.1.1.0 values.1.1.1.0) None values.1.1.1.1.0 one other text told now kept a b)) p q);
    caused = λ words values asks found left status text e. plan_caused sums words values asks found status text (left.files values.1.0) e.ends.ends;
  }

  pub pinned_lawful : KeepsSums → IsLawfulCommand PlanningCause Pinned pinned_ends pinned_common
  pinned_lawful sums = record {
    determined = λ values. creating_common values.1.0 (PinnedEnds values.0 values.1.1.0 values.1.1.1.0 values.1.1.1.1.0 values.1.1.1.1.1.0 values.1.1.1.1.1.1.0)
        (λ given one other text told now kept p q. same_reading given values.0 _ _ one other text told inl
        (λ recipe a b. same_pinned sums one_spelling recipe values.1.1.0 values.1.1.1.0 values.1.1.1.1.0 values.1.1.1.1.1.0 values.1.1.1.1.1.1.0 one other text told now kept a b) p q);
    caused = λ words values asks found left status text e. pinned_caused sums words values asks found status text (left.files values.1.0) e.ends.ends;
  }

  pub give_one : GiveOne
  give_one = record {
    recipe = λ given name one other p q.
        let bytes = same_bytes given name p.bytes q.bytes p.reads.held q.reads.held in
        one_recipe (rows_of q.bytes) one other (subst (λ (t : List ℕ). Leads empty_recipe (rows_of t) one) bytes p.lawful) q.lawful;
    lacking = λ given name recipe status text held lacks. not_both given name recipe status text held lacks;
    node = λ files inside outside one other p q. same_node one_spelling files inside outside one other p q;
    bad = λ files inside outside place bad node p q. not_bad one_spelling files inside outside place bad node p q;
  }
