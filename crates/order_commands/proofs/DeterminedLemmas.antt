-- What each of these commands finds determines how it ends.
use Rattle.std.proofs.Common.{◌≡◌, ◌∙◌, ℕ, List, Bool, Option, Some, None, refl, sym, ap, subst, inl, inr, length}
use Rattle.std.specs.Prelude.{◌⊎◌}
use Rattle.csv_rows.specs.Rows.{rows_text}
use Rattle.seed_io.specs.Shelf.{Told}
use Rattle.seed_model.specs.declared.range.Range.{Range}
use Rattle.seed_text.specs.SetTexts.{OneSpelling}
use Rattle.bound_cert.specs.declared.heading.Heading.{Heading}
use Rattle.bound_cert.specs.Laws.{FailureIsNotValid, OneDocument, OneFailure, RunsOnUnfailed, ValidIsSo, plan_named}
use Rattle.chunk_merge.specs.Merged.{KeepsSums, KeepsTables}
use Rattle.recipe_reader.specs.declared.error.RecipeError.{RecipeError}
use Rattle.recipe_reader.specs.Lawful.{IsRecipe}
use Rattle.recipe_reader.specs.Reading.{Leads, IsFirstFault}
use Rattle.recipe_reader.specs.Recipes.{RecipeValue, empty_recipe}
use Rattle.recipe_reader.specs.WrittenRows.{rows_of_recipe}
use Rattle.recipe_order.specs.Laws.{CarriesBest, CarriesSums, HasOneSorted}
use Rattle.goseed_words.specs.Commands.{Carry, Sort}
use Rattle.command_texts.specs.declared.status.Status.{Status}
use Rattle.command_texts.specs.declared.status.Status.TheVariants as ended
use Rattle.command_texts.specs.Refusals.{no_plan, not_there, other_recipe, too_long}
use Rattle.command_endings.specs.Laws.{IsDetermined, IsLawfulCommand, IsSameEnd}
use Rattle.command_endings.specs.Worlds.{Creating, OnShelf}
use Rattle.command_endings.proofs.DeterminedLemmas.{IsRefused, IsSame, refused, same_refused}
use Rattle.command_endings.proofs.WorldLemmas.{same_name}
use Rattle.planning_commands.specs.Check.{PrintsValid, valid_text}
use Rattle.planning_commands.proofs.CheckLemmas.{not_valid, one_held, runs_apart, runs_long, same_failure}
use Rattle.planning_commands.proofs.DeterminedLemmas.{same_reading}
use Rattle.order_commands.specs.Carry.{CarriesValid, CarryBy, CarryEnds, CarryOf, CarryTo, IsOneCarry}
use Rattle.order_commands.specs.Causes.{OrderCause}
use Rattle.order_commands.specs.Endings.{carry_common, carry_ends, sort_common, sort_ends}
use Rattle.order_commands.specs.Sort.{IsSortedText, PrintsSorted, SortEnds}
use Rattle.order_commands.proofs.CauseLemmas.{carry_caused, sort_caused}
use Rattle.order_commands.proofs.OneCarry.{same_carried}

-- one status, one text, and one thing left behind a name
record IsSameCreated (one other : Status) (text told : List ℕ) (now kept : Option (List ℕ)) : Type 0 where
  pub statuses : one ≡ other
  pub texts : text ≡ told
  pub left : now ≡ kept

-- two ends of a command that creates a name
module _ (name : List ℕ) (P : Told → Status → List ℕ → Option (List ℕ) → Type 0) where
  creating_same : ((given : Told) (one other : Status) (text told : List ℕ) (now kept : Option (List ℕ)) → P given one text now → P given other told kept
      → IsRefused one other text told ⊎ IsSameCreated one other text told now kept) → IsDetermined IsSameEnd (OnShelf (Creating name P))
  creating_same same found one other text told left kept p q =
      elim (same found.files one other text told (left.files name) (kept.files name) p.ends.ends q.ends.ends) [
        | inl r ↦ let is = same_refused one other text told r in
            record {
              statuses = is.0;
              texts = is.1;
              files = each (p.ends.refused r.refusal.number r.first.answers ∙ sym (q.ends.refused r.refusal.number r.second.answers));
              devices = λ dev within. p.same dev within ∙ sym (q.same dev within);
            }
        | inr s ↦ record {
          statuses = s.statuses;
          texts = s.texts;
          files = each s.left;
          devices = λ dev within. p.same dev within ∙ sym (q.same dev within);
        }
      ]
    where
      each : left.files name ≡ kept.files name → (other_name : List ℕ) → left.files other_name ≡ kept.files other_name
      each here other_name = elim (same_name other_name name) [
        | inl at ↦ rw at here
        | inr apart ↦ p.ends.others other_name apart ∙ sym (q.ends.others other_name apart)
      ]

  creating_one : ((given : Told) (one other : Status) (text told : List ℕ) (now kept : Option (List ℕ)) → P given one text now → P given other told kept
      → IsRefused one other text told ⊎ IsSame one other text told) → IsDetermined (IsOneCarry name) (OnShelf (Creating name P))
  creating_one same found one other text told left kept p q =
      elim (same found.files one other text told (left.files name) (kept.files name) p.ends.ends q.ends.ends) [
        | inl r ↦ let is = same_refused one other text told r in inl
            (record {
              statuses = is.0;
              texts = is.1;
              files = each (p.ends.refused r.refusal.number r.first.answers ∙ sym (q.ends.refused r.refusal.number r.second.answers));
              devices = λ dev within. p.same dev within ∙ sym (q.same dev within);
            })
        | inr is ↦ inr
            (record {
              one_status = is.0;
              one_text = is.1;
              files = λ other_name apart. p.ends.others other_name apart ∙ sym (q.ends.others other_name apart);
              devices = λ dev within. p.same dev within ∙ sym (q.same dev within);
            })
      ]
    where
      each : left.files name ≡ kept.files name → (other_name : List ℕ) → left.files other_name ≡ kept.files other_name
      each here other_name = elim (same_name other_name name) [
        | inl at ↦ rw at here
        | inr apart ↦ p.ends.others other_name apart ∙ sym (q.ends.others other_name apart)
      ]

-- one text
one_text : HasOneSorted → (recipe : RecipeValue) (a b : List ℕ) → IsSortedText recipe a → IsSortedText recipe b → a ≡ b
one_text one_sorted recipe a b p q =
    p.text_is ∙ (ap (λ (sorted : RecipeValue). rows_text (rows_of_recipe sorted)) (one_sorted recipe p.sorted q.sorted p.is_sorted q.is_sorted) ∙ sym q.text_is)

same_sorted : HasOneSorted → (recipe : RecipeValue) (one other : Status) (text told : List ℕ) (now kept : Option (List ℕ)) → PrintsSorted recipe one text now → PrintsSorted recipe other told kept
    → IsSameCreated one other text told now kept
same_sorted one_sorted recipe one other text told now kept p q = record {
  statuses = p.answers ∙ sym q.answers;
  texts = p.prints ∙ sym q.prints;
  left = p.held ∙ (ap Some (one_text one_sorted recipe p.bytes q.bytes p.sorted q.sorted) ∙ sym q.held);
}

module _ (one_spelling : OneSpelling)
    (one_recipe : (rows : List (List (List ℕ))) (a b : RecipeValue) → Leads empty_recipe rows a → Leads empty_recipe rows b → a ≡ b)
    (one_fault : (rows : List (List (List ℕ))) (a b : RecipeError) → IsFirstFault empty_recipe rows a → IsFirstFault empty_recipe rows b → a ≡ b)
    (no_fault : (rows : List (List (List ℕ))) (recipe : RecipeValue) (fault : RecipeError) → Leads empty_recipe rows recipe → ¬ IsFirstFault empty_recipe rows fault) where
  pub sort_lawful : HasOneSorted → IsLawfulCommand OrderCause Sort sort_ends sort_common
  sort_lawful one_sorted = record {
    determined = λ values. creating_same values.1.0 (SortEnds values.0)
        (λ given one other text told now kept p q. same_reading one_spelling one_recipe one_fault no_fault given values.0 _ _ one other text told inl
        (λ recipe a b. inr (same_sorted one_sorted recipe one other text told now kept a b)) p q);
    caused = λ words values asks found left status text e. sort_caused words values asks found status text (left.files values.1.0) e.ends.ends;
  }

  module _ (one_failure : OneFailure) (unfailed : RunsOnUnfailed) (failed : FailureIsNotValid) (one_document : OneDocument) (given : Told) (document other_name out : List ℕ) (first : RecipeValue)
      (one other : Status) (text told : List ℕ) (now kept : Option (List ℕ)) where
    same_to : (range : Range) (plan : List Bool) (second : RecipeValue) → CarryTo first range plan one text now second → CarryTo first range plan other told kept second
        → IsRefused one other text told ⊎ IsSame one other text told
    same_to range plan second (inl p) (inl q) = inl (refused other_recipe one other text told p.refuses q.refuses)
    same_to range plan second (inl p) (inr q) = absurd (p.apart q.carries.same)
    same_to range plan second (inr p) (inl q) = absurd (q.apart p.carries.same)
    same_to range plan second (inr p) (inr q) = inr (same_carried first second range plan one other text told now kept p q)

    same_by : (range : Range) (plan : Option (List Bool)) → CarryBy given other_name first range plan one text now → CarryBy given other_name first range plan other told kept
        → IsRefused one other text told ⊎ IsSame one other text told
    same_by range None p q = inl (refused no_plan one other text told p q)
    same_by range (Some plan) p q = same_reading one_spelling one_recipe one_fault no_fault given other_name _ _ one other text told inl (same_to range plan) p q

    same_plan : CarriesValid given document other_name first one text now → CarriesValid given document other_name first other told kept → IsRefused one other text told ⊎ IsSame one other text told
    same_plan p q =
        let bytes = one_held given document p.held.bytes q.held.bytes p.held.reads.held q.held.reads.held in
        let same = one_document p.heading q.heading p.nodes q.nodes p.held.document q.held.document (sym p.held.text_is ∙ (bytes ∙ q.held.text_is)) in
        let rest = subst (λ (h : Heading). CarryBy given other_name first h.range (plan_named (length first.files) h.plan) one text now) same.0 p.rest in
        same_by q.heading.range (plan_named (length first.files) q.heading.plan) rest q.rest

    -- a valid certificate, as `check` prints it
    as_checked : (status : Status) (lines : List ℕ) (there : Option (List ℕ)) (p : CarriesValid given document other_name first status lines there)
        → PrintsValid given document ended.Done (valid_text first p.heading p.nodes) first
    as_checked status lines there p = record { heading = p.heading; nodes = p.nodes; held = p.held; answers = refl; prints = refl }

    same_carry : CarryOf given document other_name out one text now first → CarryOf given document other_name out other told kept first → IsRefused one other text told ⊎ IsSame one other text told
    same_carry (inl p) (inl q) = inl (refused (not_there document) one other text told p.refuses q.refuses)
    same_carry (inl p) (inr (inl q)) = absurd (cc (p.lacks, q.held))
    same_carry (inl p) (inr (inr (inl q))) = absurd (cc (p.lacks, q.failure.held.held))
    same_carry (inl p) (inr (inr (inr q))) = absurd (cc (p.lacks, q.held.reads.held))
    same_carry (inr (inl p)) (inl q) = absurd (cc (q.lacks, p.held))
    same_carry (inr (inl p)) (inr (inl q)) = inl (refused (too_long document) one other text told p.refuses q.refuses)
    same_carry (inr (inl p)) (inr (inr (inl q))) = absurd (runs_apart one_failure unfailed failed one_document given document p.bytes first other told p.held p.runs q.failure)
    same_carry (inr (inl p)) (inr (inr (inr q))) =
        absurd (runs_long one_failure unfailed failed one_document given document p.bytes first ended.Done (valid_text first q.heading q.nodes) p.held p.runs (as_checked other told kept q))
    same_carry (inr (inr (inl p))) (inl q) = absurd (cc (q.lacks, p.failure.held.held))
    same_carry (inr (inr (inl p))) (inr (inl q)) = absurd (runs_apart one_failure unfailed failed one_document given document q.bytes first one text q.held q.runs p.failure)
    same_carry (inr (inr (inl p))) (inr (inr (inl q))) = inr (same_failure one_failure unfailed failed one_document given document first one other text told p.failure q.failure)
    same_carry (inr (inr (inl p))) (inr (inr (inr q))) =
        absurd (not_valid one_failure unfailed failed one_document given document first one ended.Done text (valid_text first q.heading q.nodes) p.failure (as_checked other told kept q))
    same_carry (inr (inr (inr p))) (inl q) = absurd (cc (q.lacks, p.held.reads.held))
    same_carry (inr (inr (inr p))) (inr (inl q)) =
        absurd (runs_long one_failure unfailed failed one_document given document q.bytes first ended.Done (valid_text first p.heading p.nodes) q.held q.runs (as_checked one text now p))
    same_carry (inr (inr (inr p))) (inr (inr (inl q))) =
        absurd (not_valid one_failure unfailed failed one_document given document first other ended.Done told (valid_text first p.heading p.nodes) q.failure (as_checked one text now p))
    same_carry (inr (inr (inr p))) (inr (inr (inr q))) = same_plan p q

  pub carry_lawful : OneFailure → RunsOnUnfailed → FailureIsNotValid → OneDocument → ValidIsSo → KeepsSums → KeepsTables
      → ((rows : List (List (List ℕ))) (recipe : RecipeValue) → Leads empty_recipe rows recipe → IsRecipe recipe) → CarriesSums → CarriesBest
      → IsLawfulCommand OrderCause Carry carry_ends carry_common
  carry_lawful one_failure unfailed failed one_document sound merging tables lawful far far_best = record {
    determined = λ values. creating_one values.1.1.1.0 (CarryEnds values.0 values.1.0 values.1.1.0 values.1.1.1.0)
        (λ given one other text told now kept p q. same_reading one_spelling one_recipe one_fault no_fault given values.0 _ _ one other text told inl
        (λ first a b. same_carry one_failure unfailed failed one_document given values.1.0 values.1.1.0 values.1.1.1.0 first one other text told now kept a b) p q);
    caused = λ words values asks found left status text e. carry_caused lawful sound merging tables far far_best words values asks found status text (left.files values.1.1.1.0) e.ends.ends;
  }
