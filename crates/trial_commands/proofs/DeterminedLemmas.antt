-- What each of these commands finds determines how it ends.
use Rattle.std.proofs.Common.{◌≡◌, ◌≢◌, ◌∙◌, ◌++◌, ℕ, List, Bool, Option, Some, None, refl, sym, ap, subst, inl, inr, length, append_assoc}
use Rattle.std.specs.Prelude.{codes}
use Rattle.csv_rows.specs.Rows.{rows_of}
use Rattle.seed_io.specs.Shelf.{Told}
use Rattle.seed_model.specs.declared.node.Node.{Node}
use Rattle.seed_model.specs.declared.range.Range.{Range}
use Rattle.seed_model.specs.Nodes.{undecided_node}
use Rattle.seed_text.specs.SetTexts.{OneSpelling}
use Rattle.bound_cert.specs.declared.heading.Heading.{Heading}
use Rattle.bound_cert.specs.declared.node_line.NodeLine.{NodeLine}
use Rattle.bound_cert.specs.Documents.{document_text}
use Rattle.bound_cert.specs.Laws.{OneFailure, RunsOnUnfailed, FailureIsNotValid, OneDocument}
use Rattle.bound_cert.specs.Sets.{root_of}
use Rattle.chunk_merge.specs.Merged.{KeepsSums}
use Rattle.recipe_reader.specs.declared.error.RecipeError.{RecipeError}
use Rattle.recipe_reader.specs.Recipes.{RecipeValue, empty_recipe}
use Rattle.recipe_reader.specs.Reading.{Leads, IsFirstFault}
use Rattle.goseed_words.specs.declared.amount.Amount.{Amount}
use Rattle.goseed_words.specs.Commands.{Gap, Gen, Greedy}
use Rattle.command_texts.specs.declared.status.Status.{Status}
use Rattle.command_texts.specs.declared.status.Status.TheVariants as ended
use Rattle.command_texts.specs.Refusals.{not_there, too_long}
use Rattle.command_endings.specs.Laws.{IsLawfulCommand, IsDetermined, IsOneText}
use Rattle.command_endings.specs.Worlds.{OnShelf}
use Rattle.command_endings.proofs.DeterminedLemmas.{IsSame, same_refused, same_refusal, on_shelf_determined, reading_determined}
use Rattle.command_endings.proofs.WorldLemmas.{same_name}
use Rattle.planning_commands.specs.Best.{range_in}
use Rattle.planning_commands.specs.Check.{PrintsFailure, PrintsValid, judged_table, valid_text}
use Rattle.planning_commands.specs.Plan.{AgreeInAnswer, HasLine, ReplicateTheSame, answer_status, search_text}
use Rattle.planning_commands.proofs.CheckLemmas.{not_valid, one_held, runs_apart, runs_long, same_failure}
use Rattle.planning_commands.proofs.DeterminedLemmas.{same_reading}
use Rattle.planning_commands.proofs.SearchCommon.{searches_agree}
use Rattle.trial_commands.specs.Causes.{TrialCause}
use Rattle.trial_commands.specs.Endings.{gap_common, gap_ends, gen_common, gen_ends, greedy_common, greedy_ends}
use Rattle.trial_commands.specs.Gap.{GapEnds, GapOf, PrintsBeside, PrintsGap}
use Rattle.trial_commands.specs.Gen.{AgreeInDrawn, GenEnds, PrintsDrawn, PrintsOf, document_name, drawn_range, drawn_text, recipe_name}
use Rattle.trial_commands.specs.Greedy.{GreedyEnds, GreedyOf}
use Rattle.trial_commands.specs.Texts.{drawn_lines, gap_text, gen_text, greedy_text, stuck_text, yes_line}
use Rattle.trial_commands.proofs.CauseLemmas.{gap_caused, gen_caused, greedy_caused}
use Rattle.trial_commands.proofs.OneChoice.{found_or_stuck, one_find, one_stuck}

same_greedy : (recipe : RecipeValue) (target slack : Amount) (one other : Status) (text told : List ℕ) → GreedyOf target slack one text recipe → GreedyOf target slack other told recipe → IsSame one other text told
same_greedy recipe target slack one other text told (inl p) (inl q) =
    let is = one_find (judged_table recipe) (range_in recipe target slack) (undecided_node (length recipe.files)) p.set q.set p.turns q.turns p.rounds q.rounds p.found.finds q.found.finds in (
      p.answers ∙ sym q.answers,
      p.prints ∙ (ap (λ (s : List Bool). greedy_text recipe s p.turns p.rounds) is.sets
          ∙ (ap (λ (n : ℕ). greedy_text recipe q.set n p.rounds) is.same_turns ∙ (ap (λ (n : ℕ). greedy_text recipe q.set q.turns n) is.same_rounds ∙ sym q.prints))),
    )
same_greedy recipe target slack one other text told (inl p) (inr q) =
    absurd (found_or_stuck (judged_table recipe) (range_in recipe target slack) (undecided_node (length recipe.files)) p.set p.turns p.rounds q.turns p.found.finds q.none)
same_greedy recipe target slack one other text told (inr p) (inl q) =
    absurd (found_or_stuck (judged_table recipe) (range_in recipe target slack) (undecided_node (length recipe.files)) q.set q.turns q.rounds p.turns q.found.finds p.none)
same_greedy recipe target slack one other text told (inr p) (inr q) =
    let is = one_stuck (judged_table recipe) (range_in recipe target slack) (undecided_node (length recipe.files)) p.turns q.turns p.none q.none in
    (p.answers ∙ sym q.answers, p.prints ∙ (ap stuck_text is ∙ sym q.prints))

-- what is printed beside a bound
same_beside : (recipe : RecipeValue) (range : Range) (pins : Node) (bound : Option ℕ) (one other : Status) (text told : List ℕ) → PrintsBeside recipe range pins bound one text
    → PrintsBeside recipe range pins bound other told → IsSame one other text told
same_beside recipe range pins bound one other text told (inl p) (inl q) =
    let is = one_find (judged_table recipe) range pins p.set q.set p.turns q.turns p.rounds q.rounds p.found.finds q.found.finds in
    let least : p.least ≡ q.least = cc (sym p.bound_is ∙ q.bound_is) in (
      p.answers ∙ sym q.answers,
      p.prints ∙ (ap (λ (s : List Bool). gap_text recipe s p.least) is.sets ∙ (ap (λ (n : ℕ). gap_text recipe q.set n) least ∙ sym q.prints)),
    )
same_beside recipe range pins bound one other text told (inl p) (inr q) =
    absurd (found_or_stuck (judged_table recipe) range pins p.set p.turns p.rounds q.turns p.found.finds q.none)
same_beside recipe range pins bound one other text told (inr p) (inl q) =
    absurd (found_or_stuck (judged_table recipe) range pins q.set q.turns q.rounds p.turns q.found.finds p.none)
same_beside recipe range pins bound one other text told (inr p) (inr q) = (p.answers ∙ sym q.answers, p.prints ∙ sym q.prints)

module _ (one_failure : OneFailure) (unfailed : RunsOnUnfailed) (failed : FailureIsNotValid) (one_document : OneDocument) (given : Told) (name : List ℕ) (recipe : RecipeValue) where
  -- a valid certificate, as `check` prints it
  as_checked : (status : Status) (text : List ℕ) (p : PrintsGap given name status text recipe) → PrintsValid given name ended.Done (valid_text recipe p.heading p.nodes) recipe
  as_checked status text p = record { heading = p.heading; nodes = p.nodes; held = p.held; answers = refl; prints = refl }

  same_gaps : (one other : Status) (text told : List ℕ) → PrintsGap given name one text recipe → PrintsGap given name other told recipe → IsSame one other text told
  same_gaps one other text told p q =
      let bytes = one_held given name p.held.bytes q.held.bytes p.held.reads.held q.held.reads.held in
      let same = one_document p.heading q.heading p.nodes q.nodes p.held.document q.held.document (sym p.held.text_is ∙ (bytes ∙ q.held.text_is)) in
      let beside = subst (λ (h : Heading). PrintsBeside recipe h.range (root_of (length recipe.files) h.pins) h.bound one text) same.0 p.beside in
      same_beside recipe q.heading.range (root_of (length recipe.files) q.heading.pins) q.heading.bound one other text told beside q.beside

  same_gap : (one other : Status) (text told : List ℕ) → GapOf given name one text recipe → GapOf given name other told recipe → IsSame one other text told
  same_gap one other text told (inl p) (inl q) = same_refusal (not_there name) one other text told p.refuses q.refuses
  same_gap one other text told (inl p) (inr (inl q)) = absurd (cc (p.lacks, q.held))
  same_gap one other text told (inl p) (inr (inr (inl q))) = absurd (cc (p.lacks, q.held.held))
  same_gap one other text told (inl p) (inr (inr (inr q))) = absurd (cc (p.lacks, q.held.reads.held))
  same_gap one other text told (inr (inl p)) (inl q) = absurd (cc (q.lacks, p.held))
  same_gap one other text told (inr (inl p)) (inr (inl q)) = same_refusal (too_long name) one other text told p.refuses q.refuses
  same_gap one other text told (inr (inl p)) (inr (inr (inl q))) = absurd (runs_apart one_failure unfailed failed one_document given name p.bytes recipe other told p.held p.runs q)
  same_gap one other text told (inr (inl p)) (inr (inr (inr q))) =
      absurd (runs_long one_failure unfailed failed one_document given name p.bytes recipe ended.Done (valid_text recipe q.heading q.nodes) p.held p.runs (as_checked other told q))
  same_gap one other text told (inr (inr (inl p))) (inl q) = absurd (cc (q.lacks, p.held.held))
  same_gap one other text told (inr (inr (inl p))) (inr (inl q)) = absurd (runs_apart one_failure unfailed failed one_document given name q.bytes recipe one text q.held q.runs p)
  same_gap one other text told (inr (inr (inl p))) (inr (inr (inl q))) = same_failure one_failure unfailed failed one_document given name recipe one other text told p q
  same_gap one other text told (inr (inr (inl p))) (inr (inr (inr q))) =
      absurd (not_valid one_failure unfailed failed one_document given name recipe one ended.Done text (valid_text recipe q.heading q.nodes) p (as_checked other told q))
  same_gap one other text told (inr (inr (inr p))) (inl q) = absurd (cc (q.lacks, p.held.reads.held))
  same_gap one other text told (inr (inr (inr p))) (inr (inl q)) =
      absurd (runs_long one_failure unfailed failed one_document given name q.bytes recipe ended.Done (valid_text recipe p.heading p.nodes) q.held q.runs (as_checked one text p))
  same_gap one other text told (inr (inr (inr p))) (inr (inr (inl q))) =
      absurd (not_valid one_failure unfailed failed one_document given name recipe other ended.Done told (valid_text recipe p.heading p.nodes) q (as_checked one text p))
  same_gap one other text told (inr (inr (inr p))) (inr (inr (inr q))) = same_gaps one other text told p q

-- a line of a part stands in the whole
line_within : (line front part back : List ℕ) → HasLine line part → HasLine line (front ++ (part ++ back))
line_within line front part back has = record {
  before = front ++ has.before;
  behind = has.behind ++ back;
  is = ap (λ (t : List ℕ). front ++ (t ++ back)) has.is ∙ regroup front has.before line has.behind back;
}
  where
    regroup : (a b c d e : List ℕ) → a ++ ((b ++ (c ++ d)) ++ e) ≡ (a ++ b) ++ (c ++ (d ++ e))
    regroup a b c d e = simp append_assoc refl

agree_within : (one other : Status) (part share front back : List ℕ) → AgreeInAnswer one other part share → AgreeInAnswer one other (front ++ (part ++ back)) (front ++ (share ++ back))
agree_within one other part share front back agree = record {
  one_is = agree.one_is;
  other_is = agree.other_is;
  best = λ done second.
      let same = agree.best done second in
      record { bytes = same.bytes; first = line_within _ front part back same.first; second = line_within _ front share back same.second };
}

-- one recipe is drawn
module _ (one_recipe : (rows : List (List (List ℕ))) (a b : RecipeValue) → Leads empty_recipe rows a → Leads empty_recipe rows b → a ≡ b) (sums : KeepsSums) (one_document : OneDocument) (number files : ℕ) where
  same_printed : (recipe : RecipeValue) (one other : Status) (text told : List ℕ) (now kept : Option (List ℕ)) → PrintsOf recipe one text now → PrintsOf recipe other told kept → now ≡ kept
      → IsSame one other text told
  same_printed recipe one other text told now kept p q is =
      let a = p.searched in
      let b = q.searched in
      let texts : document_text a.heading a.nodes ≡ document_text b.heading b.nodes = cc (sym a.held ∙ (is ∙ b.held)) in
      let same = one_document a.heading b.heading a.nodes b.nodes a.document b.document texts in
      let lines = a.prints ∙ (ap (λ (h : Heading). search_text recipe h a.nodes) same.0 ∙ (ap (λ (ns : List NodeLine). search_text recipe b.heading ns) same.1 ∙ sym b.prints)) in
      let headings = ap (λ (h : Heading). answer_status h.answer) same.0 in
      (a.answers ∙ (headings ∙ sym b.answers), p.prints ∙ (ap (λ (t : List ℕ). gen_text recipe t yes_line) lines ∙ sym q.prints))

  agree_printed : (recipe : RecipeValue) (one other : Status) (text told : List ℕ) (now kept : Option (List ℕ)) → PrintsOf recipe one text now → PrintsOf recipe other told kept → AgreeInAnswer one other text told
  agree_printed recipe one other text told now kept p q =
      let agree = searches_agree sums recipe (drawn_range recipe) None 200 one other p.lines q.lines now kept p.searched q.searched in
      subst (λ (t : List ℕ). AgreeInAnswer one other t told) (sym p.prints)
      (subst (λ (t : List ℕ). AgreeInAnswer one other (gen_text recipe p.lines yes_line) t) (sym q.prints) (agree_within one other p.lines q.lines (drawn_lines recipe) yes_line agree))

  -- the same recipe was printed
  of_one : (one other : Status) (text told : List ℕ) (now kept : Option (List ℕ)) (p : PrintsDrawn number files one text now) (q : PrintsDrawn number files other told kept) → PrintsOf q.recipe one text now
  of_one one other text told now kept p q =
      subst (λ (r : RecipeValue). PrintsOf r one text now) (one_recipe (rows_of (drawn_text number files)) p.recipe q.recipe p.drawn.reads q.drawn.reads) p.printed

  gen_determined : IsDetermined AgreeInDrawn (OnShelf (GenEnds number files))
  gen_determined found one other text told left kept p q =
      let a = of_one one other text told (left.files document_name) (kept.files document_name) p.ends.ends q.ends.ends in
      let b = q.ends.ends.printed in
      let recipe = q.ends.ends.recipe in
      record {
        answers = agree_printed recipe one other text told (left.files document_name) (kept.files document_name) a b;
        files = λ name apart. elim (same_name name recipe_name) [
          | inl at ↦ subst (λ (n : List ℕ). left.files n ≡ kept.files n) (sym at) (p.ends.written ∙ sym q.ends.written)
          | inr from ↦ p.ends.others name from apart ∙ sym (q.ends.others name from apart)
        ];
        same_status = λ is. (same_printed recipe one other text told (left.files document_name) (kept.files document_name) a b is).0;
        same_text = λ is. (same_printed recipe one other text told (left.files document_name) (kept.files document_name) a b is).1;
        devices = λ dev within. p.same dev within ∙ sym (q.same dev within);
      }

module _ (one_spelling : OneSpelling)
    (one_recipe : (rows : List (List (List ℕ))) (a b : RecipeValue) → Leads empty_recipe rows a → Leads empty_recipe rows b → a ≡ b)
    (one_fault : (rows : List (List (List ℕ))) (a b : RecipeError) → IsFirstFault empty_recipe rows a → IsFirstFault empty_recipe rows b → a ≡ b)
    (no_fault : (rows : List (List (List ℕ))) (recipe : RecipeValue) (fault : RecipeError) → Leads empty_recipe rows recipe → ¬ IsFirstFault empty_recipe rows fault) where
  pub greedy_lawful : IsLawfulCommand TrialCause Greedy greedy_ends greedy_common
  greedy_lawful = record {
    determined = λ values. on_shelf_determined IsOneText _ (reading_determined IsOneText (GreedyEnds values.0 values.1.0 values.1.1.0)
        (λ given one other text told p q. same_reading one_spelling one_recipe one_fault no_fault given values.0 _ _ one other text told (same_refused one other text told)
        (λ recipe a b. same_greedy recipe values.1.0 values.1.1.0 one other text told a b) p q));
    caused = λ words values asks found left status text e. greedy_caused words values asks found status text e.ends.ends;
  }

  pub gap_lawful : OneFailure → RunsOnUnfailed → FailureIsNotValid → OneDocument → IsLawfulCommand TrialCause Gap gap_ends gap_common
  gap_lawful one_failure unfailed failed one_document = record {
    determined = λ values. on_shelf_determined IsOneText _ (reading_determined IsOneText (GapEnds values.0 values.1.0)
        (λ given one other text told p q. same_reading one_spelling one_recipe one_fault no_fault given values.0 _ _ one other text told (same_refused one other text told)
        (λ recipe a b. same_gap one_failure unfailed failed one_document given values.1.0 recipe one other text told a b) p q));
    caused = λ words values asks found left status text e. gap_caused words values asks found status text e.ends.ends;
  }

  pub gen_lawful : KeepsSums → OneDocument → IsLawfulCommand TrialCause Gen gen_ends gen_common
  gen_lawful sums one_document = record {
    determined = λ values. gen_determined one_recipe sums one_document values.0 values.1.0;
    caused = λ words values asks found left status text e. gen_caused sums words values asks found status text (left.files document_name) e.ends.ends;
  }
