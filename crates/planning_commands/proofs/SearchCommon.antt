-- What two searches have in common, and why a search ended so.
use Rattle.std.proofs.Common.{◌≡◌, ◌∙◌, ◌++◌, ℕ, List, Bool, Option, Some, None, refl, sym, ap, subst, inl, inr, length, append_assoc, arith}
use Rattle.std.specs.Prelude.{◌⊎◌, IfSome, count_by, codes}
use Rattle.seed_io.specs.Shelf.{Told}
use Rattle.seed_model.specs.declared.node.Node.{Node}
use Rattle.seed_model.specs.declared.range.Range.{Range}
use Rattle.seed_model.specs.Files.{holds}
use Rattle.seed_model.specs.Nodes.{IsBestAdmitted, NoneAdmitted}
use Rattle.seed_model.specs.Sums.{replicated_of}
use Rattle.seed_text.specs.SetTexts.{OneSpelling, set_text}
use Rattle.bound_cert.specs.declared.heading.Answer.{Answer}
use Rattle.bound_cert.specs.declared.heading.Answer.TheVariants.{Optimal, Infeasible, Open}
use Rattle.bound_cert.specs.declared.heading.Claimed.{Claimed}
use Rattle.bound_cert.specs.declared.heading.Heading.{Heading}
use Rattle.bound_cert.specs.declared.node_line.NodeLine.{NodeLine}
use Rattle.bound_cert.specs.Laws.{Says, plan_named}
use Rattle.bound_cert.specs.Sets.{root_of, set_named}
use Rattle.bound_cert.specs.Trees.{is_branch}
use Rattle.bound_cert.specs.Valid.{IsClaim}
use Rattle.branch_bound.specs.Outcomes.{search_root}
use Rattle.cert_check.specs.Checking.{migrated_by, replicated_by}
use Rattle.chunk_merge.specs.Merged.{KeepsSums}
use Rattle.recipe_reader.specs.Recipes.{RecipeValue, table_of}
use Rattle.goseed_words.specs.declared.amount.Amount.{Amount}
use Rattle.command_texts.specs.declared.status.Status.{Status}
use Rattle.command_texts.specs.declared.status.Status.TheVariants as ended
use Rattle.command_texts.specs.Lines.{line, number_line}
use Rattle.command_texts.specs.Refusals.{Refuses, bad_word}
use Rattle.command_endings.specs.Laws.{IsDetermined}
use Rattle.command_endings.specs.Worlds.{Creating, OnShelf, World}
use Rattle.command_endings.proofs.DeterminedLemmas.{IsRefused, refused, same_refused}
use Rattle.command_endings.proofs.WorldLemmas.{same_name}
use Rattle.planning_commands.specs.Best.{range_in}
use Rattle.planning_commands.specs.Causes.{PlanningCause, PlanDone, PlanNone, PlanOpen}
use Rattle.planning_commands.specs.Check.{judged_table, pins_line}
use Rattle.planning_commands.specs.Plan.{AgreeInAnswer, Asked, AsksSearch, HasLine, IsOneSearch, PinnedOf, PrintsSearched, ReplicateTheSame, answer_status, search_text}
use Rattle.planning_commands.specs.Texts.{answer_line, answer_lines, bound_line, planned_files}
use Rattle.planning_commands.proofs.CheckLemmas.{replicated_same}
use Rattle.planning_commands.proofs.RelaxLemmas.{not_bad, same_bad, same_node}

-- the answer of a status
done_is : (answer : Answer) (status : Status) → status ≡ answer_status answer → status ≡ ended.Done → answer ≡ Optimal
done_is Optimal status is done = refl
done_is Infeasible status is done = cc (is, done)
done_is Open status is done = cc (is, done)

none_is : (answer : Answer) (status : Status) → status ≡ answer_status answer → status ≡ ended.No → answer ≡ Infeasible
none_is Optimal status is ended_no = cc (is, ended_no)
none_is Infeasible status is ended_no = refl
none_is Open status is ended_no = cc (is, ended_no)

-- a best plan, as a certificate claims it
pub record BestClaim (recipe : RecipeValue) (range : Range) (root : Node) (plan : Option Claimed) : Type 0 where
  pub claimed : Claimed
  pub is : plan ≡ Some claimed
  pub best : IsBestAdmitted (table_of recipe) range root (holds (set_named (length recipe.files) claimed.set))
  pub replicated : claimed.replicated ≡ replicated_of (holds (set_named (length recipe.files) claimed.set)) (table_of recipe)

best_claim : KeepsSums → (recipe : RecipeValue) (range other : Range) (root given : Node) (plan : Option Claimed) (bound : Option ℕ)
    → Says (table_of recipe) range root Optimal (plan_named (length recipe.files) plan) bound → IfSome plan (IsClaim (judged_table recipe) other given) → BestClaim recipe range root plan
best_claim sums recipe range other root given None bound says claim = absurd says
best_claim sums recipe range other root given (Some claimed) bound says claim = record {
  claimed = claimed;
  is = refl;
  best = says;
  replicated = claim.replicated ∙ replicated_same sums (table_of recipe) (holds (set_named (length recipe.files) claimed.set));
}

-- the line of the replicated bytes stands in the text
regroup : (pins ans plan mig rep bound count files : List ℕ)
    → pins ++ (ans ++ (plan ++ mig ++ rep) ++ bound ++ count ++ files) ≡ (pins ++ (ans ++ (plan ++ mig))) ++ (rep ++ (bound ++ count ++ files))
regroup pins ans plan mig rep bound count files = simp append_assoc refl

has_replicated : (recipe : RecipeValue) (heading : Heading) (nodes : List NodeLine) (claimed : Claimed) → heading.plan ≡ Some claimed
    → HasLine (number_line (codes "replicated") claimed.replicated) (search_text recipe heading nodes)
has_replicated recipe heading nodes claimed is =
    let files : ℕ = length recipe.files in
    let set : List Bool = set_named files claimed.set in
    let plan : List ℕ = line (codes "plan" ++ codes " " ++ set_text set) in
    let migrated : List ℕ = number_line (codes "migrated") claimed.migrated in
    let replicated : List ℕ = number_line (codes "replicated") claimed.replicated in
    let count : List ℕ = number_line (codes "branchings") (count_by is_branch nodes) in
    let names : List ℕ = planned_files (Some set) recipe.files in
    record {
      before = pins_line heading.pins ++ (answer_line heading.answer ++ (plan ++ migrated));
      behind = bound_line heading.bound ++ count ++ names;
      is =
          ap (λ (p : Option Claimed). pins_line heading.pins ++ answer_lines recipe.files heading.answer (plan_named files p) (migrated_by p) (replicated_by p) heading.bound (count_by is_branch nodes)) is
          ∙ regroup (pins_line heading.pins) (answer_line heading.answer) plan migrated replicated (bound_line heading.bound) count names;
    }

module _ (sums : KeepsSums) (recipe : RecipeValue) (range : Range) (pins : Option Node) (budget : ℕ) where
  -- a search that is done has a best plan
  pub done_best : (status : Status) (text : List ℕ) (now : Option (List ℕ)) (p : PrintsSearched recipe range pins budget status text now) → status ≡ ended.Done
      → BestClaim recipe range (search_root (length recipe.files) pins) p.heading.plan
  done_best status text now p done =
      let heading = p.heading in
      let plan = plan_named (length recipe.files) heading.plan in
      best_claim sums recipe range heading.range (search_root (length recipe.files) pins) (root_of (length recipe.files) heading.pins) heading.plan heading.bound
      (subst (λ (a : Answer). Says (table_of recipe) range (search_root (length recipe.files) pins) a plan heading.bound) (done_is heading.answer status p.answers done) p.says) p.searched.valid.plan

  -- one whose answer is no shows that none is admitted
  pub none_shown : (status : Status) (text : List ℕ) (now : Option (List ℕ)) (p : PrintsSearched recipe range pins budget status text now) → status ≡ ended.No
      → NoneAdmitted (table_of recipe) range (search_root (length recipe.files) pins)
  none_shown status text now p ended_no =
      let heading = p.heading in
      let plan = plan_named (length recipe.files) heading.plan in
      subst (λ (a : Answer). Says (table_of recipe) range (search_root (length recipe.files) pins) a plan heading.bound) (none_is heading.answer status p.answers ended_no) p.says

  not_both : (one other : Status) (text told : List ℕ) (now kept : Option (List ℕ)) (p : PrintsSearched recipe range pins budget one text now)
      (q : PrintsSearched recipe range pins budget other told kept) → one ≡ ended.Done → other ≡ ended.No → ⊥
  not_both one other text told now kept p q done ended_no =
      let best = done_best one text now p done in
      none_shown other told kept q ended_no (holds (set_named (length recipe.files) best.claimed.set)) best.best.admitted

  same_best : (one other : Status) (text told : List ℕ) (now kept : Option (List ℕ)) (p : PrintsSearched recipe range pins budget one text now)
      (q : PrintsSearched recipe range pins budget other told kept) → one ≡ ended.Done → other ≡ ended.Done → ReplicateTheSame text told
  same_best one other text told now kept p q done other_done =
      let a = done_best one text now p done in
      let b = done_best other told kept q other_done in
      let less = a.best.least (holds (set_named (length recipe.files) b.claimed.set)) b.best.admitted in
      let more = b.best.least (holds (set_named (length recipe.files) a.claimed.set)) a.best.admitted in
      let bytes : b.claimed.replicated ≡ a.claimed.replicated = omega (arith, less, more, a.replicated, b.replicated) in
      record {
        bytes = a.claimed.replicated;
        first = subst (HasLine (number_line (codes "replicated") a.claimed.replicated)) (sym p.prints) (has_replicated recipe p.heading p.nodes a.claimed a.is);
        second = subst (HasLine (number_line (codes "replicated") a.claimed.replicated)) (sym q.prints)
            (subst (λ (n : ℕ). HasLine (number_line (codes "replicated") n) (search_text recipe q.heading q.nodes)) bytes (has_replicated recipe q.heading q.nodes b.claimed b.is));
      }

  pub searches_agree : (one other : Status) (text told : List ℕ) (now kept : Option (List ℕ)) → PrintsSearched recipe range pins budget one text now
      → PrintsSearched recipe range pins budget other told kept → AgreeInAnswer one other text told
  searches_agree one other text told now kept p q = record {
    one_is = λ done ended_no. not_both one other text told now kept p q done ended_no;
    other_is = λ done ended_no. not_both other one told text kept now q p done ended_no;
    best = λ done other_done. same_best one other text told now kept p q done other_done;
  }

  -- why a search ended so
  pub search_cause : (found : World) (words : List (List ℕ)) (document : List ℕ) (status : Status) (text : List ℕ) (now : Option (List ℕ))
      → AsksSearch found.files words recipe range pins budget document → PrintsSearched recipe range pins budget status text now → PlanningCause found words status
  search_cause found words document status text now asks p = by_answer p.heading.answer refl
    where
      asked : Asked found.files words
      asked = record { recipe = recipe; range = range; pins = pins; budget = budget; document = document; asks = asks }

      by_answer : (answer : Answer) → p.heading.answer ≡ answer → PlanningCause found words status
      by_answer Optimal is =
          let done : status ≡ ended.Done = p.answers ∙ ap answer_status is in
          let best = done_best status text now p done in
          subst (PlanningCause found words) (sym done) (PlanDone (record { asked = asked; plan = set_named (length recipe.files) best.claimed.set; best = best.best }))
      by_answer Infeasible is =
          let ended_no : status ≡ ended.No = p.answers ∙ ap answer_status is in
          subst (PlanningCause found words) (sym ended_no) (PlanNone (record { asked = asked; none = none_shown status text now p ended_no }))
      by_answer Open is =
          let spent : status ≡ ended.Unfinished = p.answers ∙ ap answer_status is in
          subst (PlanningCause found words) (sym spent)
          (PlanOpen (record { asked = asked; heading = p.heading; nodes = p.nodes; open_is = is; searched = p.searched; few = p.few spent }))

-- the same of `pinned`
pub same_pinned : KeepsSums → OneSpelling → (recipe : RecipeValue) (target slack : Amount) (budget : ℕ) (go stay : List ℕ) (one other : Status) (text told : List ℕ) (now kept : Option (List ℕ))
    → PinnedOf target slack budget go stay one text now recipe → PinnedOf target slack budget go stay other told kept recipe → IsRefused one other text told ⊎ AgreeInAnswer one other text told
same_pinned sums one_spelling recipe target slack budget go stay one other text told now kept (inl p) (inl q) =
    let bad = same_bad one_spelling (length recipe.files) go stay 7 p.bad q.bad p.fault q.fault in
    inl (refused (bad_word q.bad) one other text told (subst (λ (b : ℕ). Refuses (bad_word b) one text) bad p.refuses) q.refuses)
same_pinned sums one_spelling recipe target slack budget go stay one other text told now kept (inl p) (inr q) =
    absurd (not_bad one_spelling (length recipe.files) go stay 7 p.bad q.pins q.spells p.fault)
same_pinned sums one_spelling recipe target slack budget go stay one other text told now kept (inr p) (inl q) =
    absurd (not_bad one_spelling (length recipe.files) go stay 7 q.bad p.pins p.spells q.fault)
same_pinned sums one_spelling recipe target slack budget go stay one other text told now kept (inr p) (inr q) =
    let range : Range = range_in recipe target slack in
    let nodes = same_node one_spelling (length recipe.files) go stay p.pins q.pins p.spells q.spells in
    inr (searches_agree sums recipe range (Some q.pins) budget one other text told now kept
    (subst (λ (n : Node). PrintsSearched recipe range (Some n) budget one text now) nodes p.searched) q.searched)

-- two ends of a command that creates a certificate
pub creating_common : (document : List ℕ) (P : Told → Status → List ℕ → Option (List ℕ) → Type 0)
    → ((given : Told) (one other : Status) (text told : List ℕ) (now kept : Option (List ℕ)) → P given one text now → P given other told kept
    → IsRefused one other text told ⊎ AgreeInAnswer one other text told) → IsDetermined (IsOneSearch document) (OnShelf (Creating document P))
creating_common document P same found one other text told left kept p q =
    elim (same found.files one other text told (left.files document) (kept.files document) p.ends.ends q.ends.ends) [
      | inl r ↦ let is = same_refused one other text told r in inl
          (record {
            statuses = is.0;
            texts = is.1;
            files = each (p.ends.refused r.refusal.number r.first.answers ∙ sym (q.ends.refused r.refusal.number r.second.answers));
            devices = λ dev within. p.same dev within ∙ sym (q.same dev within);
          })
      | inr agree ↦ inr
          (record {
            answers = agree;
            files = λ name apart. p.ends.others name apart ∙ sym (q.ends.others name apart);
            devices = λ dev within. p.same dev within ∙ sym (q.same dev within);
          })
    ]
  where
    each : left.files document ≡ kept.files document → (name : List ℕ) → left.files name ≡ kept.files name
    each here name = elim (same_name name document) [
      | inl at ↦ rw at here
      | inr apart ↦ p.ends.others name apart ∙ sym (q.ends.others name apart)
    ]
