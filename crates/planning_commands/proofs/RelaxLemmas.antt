-- `relax`: what it prints of the classes is so of the chunks, what it finds determines how it ends, and how it ends has a cause.
use Rattle.std.proofs.Common.{◌≡◌, ◌∙◌, ◌*◌, ◌+◌, ◌++◌, ◌<◌, ◌≤◌, ℕ, List, Bool, sym, ap, subst, inl, inr, length, arith}
use Rattle.std.specs.Prelude.{◌&&◌, not}
use Rattle.std.specs.List.{list_all, list_any}
use Rattle.seed_model.specs.declared.node.Node.{Node}
use Rattle.seed_model.specs.declared.node.Mix.{Mix}
use Rattle.seed_model.specs.declared.range.Range.{Range}
use Rattle.seed_model.specs.Differences.{AreApart}
use Rattle.seed_model.specs.Files.{holds}
use Rattle.seed_model.specs.Nodes.{IsLow, IsHigh, IsMix, HasValue, largest_member, smallest_member, weight_of, mixed_migrated, mixed_replicated}
use Rattle.seed_model.specs.Sums.{migrated_of, replicated_of}
use Rattle.seed_model.specs.Tables.{TableValue}
use Rattle.seed_ratio.specs.Fractions.{IsLowest}
use Rattle.seed_text.specs.SetTexts.{OneSpelling}
use Rattle.bound_cert.specs.declared.multipliers.Multipliers.{Multipliers}
use Rattle.hull_bound.specs.Answers.{IsAnswer}
use Rattle.hull_bound.specs.declared.answer.NodeAnswer.TheVariants.{Bound}
use Rattle.hull_bound.specs.Relaxations.{IsRelaxation}
use Rattle.chunk_merge.specs.Merged.{merged}
use Rattle.recipe_reader.specs.Recipes.{RecipeValue, table_of}
use Rattle.goseed_words.specs.declared.amount.Amount.{Amount}
use Rattle.command_texts.specs.declared.status.Status.{Status}
use Rattle.command_texts.specs.Refusals.{Refuses, bad_word}
use Rattle.command_endings.specs.Worlds.{World}
use Rattle.command_endings.proofs.DeterminedLemmas.{IsSameWith, same_refusal}
use Rattle.planning_commands.specs.Best.{range_in}
use Rattle.planning_commands.specs.Causes.{PlanningCause, RelaxDone, NoNode}
use Rattle.planning_commands.specs.Check.{judged_table}
use Rattle.planning_commands.specs.Nodes.{SpellsNode, IsBadNode}
use Rattle.planning_commands.specs.Relax.{AsksRelax, IsOneValue, PrintsBound, PrintsNode, RelaxOf, ShareValue, bound_text, mix_line, slope_line}
use Rattle.planning_commands.specs.Tables.{HasSumsOf}
use Rattle.planning_commands.specs.Weigh.{SpellsSet}
use Rattle.planning_commands.proofs.Fractions.{one_lowest}
use Rattle.planning_commands.proofs.Refusing.{by_refusal}

-- what is so of the classes is so of the chunks
module _ (table : TableValue) (sums : HasSumsOf table (merged table)) where
  migrated_same : (set : ℕ → Bool) → migrated_of set (merged table) ≡ migrated_of set table
  migrated_same set = sums (list_all set)

  replicated_same : (set : ℕ → Bool) → replicated_of set (merged table) ≡ replicated_of set table
  replicated_same set = sums (λ users. list_any set users && not (list_all set users))

  low_by_chunks : (range : Range) (node : Node) → IsLow (merged table) range node → IsLow table range node
  low_by_chunks range node low = subst (λ m. m < range.low) (migrated_same (largest_member node)) low

  low_by_classes : (range : Range) (node : Node) → IsLow table range node → IsLow (merged table) range node
  low_by_classes range node low = subst (λ m. m < range.low) (sym (migrated_same (largest_member node))) low

  high_by_chunks : (range : Range) (node : Node) → IsHigh (merged table) range node → IsHigh table range node
  high_by_chunks range node high = subst (λ m. range.high < m) (migrated_same (smallest_member node)) high

  high_by_classes : (range : Range) (node : Node) → IsHigh table range node → IsHigh (merged table) range node
  high_by_classes range node high = subst (λ m. range.high < m) (sym (migrated_same (smallest_member node))) high

  not_low : (range : Range) (node : Node) → ¬ IsLow (merged table) range node → ¬ IsLow table range node
  not_low range node none = λ low. none (low_by_classes range node low)

  not_high : (range : Range) (node : Node) → ¬ IsHigh (merged table) range node → ¬ IsHigh table range node
  not_high range node none = λ high. none (high_by_classes range node high)

  mixed_migrated_same : (mix : Mix) → mixed_migrated (merged table) mix ≡ mixed_migrated table mix
  mixed_migrated_same mix =
      ap (λ (m : ℕ). mix.alpha * m + mix.beta * migrated_of (holds mix.second) (merged table)) (migrated_same (holds mix.first))
      ∙ ap (λ (m : ℕ). mix.alpha * migrated_of (holds mix.first) table + mix.beta * m) (migrated_same (holds mix.second))

  mixed_replicated_same : (mix : Mix) → mixed_replicated (merged table) mix ≡ mixed_replicated table mix
  mixed_replicated_same mix =
      ap (λ (m : ℕ). mix.alpha * m + mix.beta * replicated_of (holds mix.second) (merged table)) (replicated_same (holds mix.first))
      ∙ ap (λ (m : ℕ). mix.alpha * replicated_of (holds mix.first) table + mix.beta * m) (replicated_same (holds mix.second))

  mix_by_chunks : (range : Range) (node : Node) (mix : Mix) → IsMix (merged table) range node mix → IsMix table range node mix
  mix_by_chunks range node mix is = record {
    first_files = is.first_files;
    second_files = is.second_files;
    first = is.first;
    second = is.second;
    weighed = is.weighed;
    enough = subst (λ m. range.low * weight_of mix ≤ m) (mixed_migrated_same mix) is.enough;
    no_more = subst (λ m. m ≤ range.high * weight_of mix) (mixed_migrated_same mix) is.no_more;
  }

  mix_by_classes : (range : Range) (node : Node) (mix : Mix) → IsMix table range node mix → IsMix (merged table) range node mix
  mix_by_classes range node mix is = record {
    first_files = is.first_files;
    second_files = is.second_files;
    first = is.first;
    second = is.second;
    weighed = is.weighed;
    enough = subst (λ m. range.low * weight_of mix ≤ m) (sym (mixed_migrated_same mix)) is.enough;
    no_more = subst (λ m. m ≤ range.high * weight_of mix) (sym (mixed_migrated_same mix)) is.no_more;
  }

  value_by_chunks : (range : Range) (node : Node) (mix : Mix) → HasValue (merged table) range node mix → HasValue table range node mix
  value_by_chunks range node mix has = record {
    is_mix = mix_by_chunks range node mix has.is_mix;
    least = λ other is.
        subst (λ (m : ℕ). mixed_replicated table mix * weight_of other ≤ m * weight_of mix) (mixed_replicated_same other)
        (subst (λ (m : ℕ). m * weight_of other ≤ mixed_replicated (merged table) other * weight_of mix) (mixed_replicated_same mix) (has.least other (mix_by_classes range node other is)));
  }

  bound_by_chunks : (p q : ℕ) (mix : Mix) (text : List ℕ) → PrintsBound (merged table) p q mix text → PrintsBound table p q mix text
  bound_by_chunks p q mix text b = record {
    over = b.over;
    under = b.under;
    value = subst (λ (m : ℕ). IsLowest m (weight_of mix) b.over b.under) (mixed_replicated_same mix) b.value;
    prints = b.prints;
  }

-- what is printed of a value
prints_value : (recipe : RecipeValue) (range : Range) (node : Node) (multipliers : Multipliers) (mix : Mix) (text : List ℕ) → HasSumsOf (table_of recipe) (judged_table recipe)
    → ¬ IsLow (judged_table recipe) range node → ¬ IsHigh (judged_table recipe) range node → IsRelaxation (judged_table recipe) range node multipliers mix
    → PrintsBound (judged_table recipe) multipliers.p multipliers.q mix text → PrintsNode recipe range node text
prints_value recipe range node multipliers mix text sums low high relaxation printed =
    inr (inr (record {
      not_low = not_low (table_of recipe) sums range node low;
      not_high = not_high (table_of recipe) sums range node high;
      multipliers = multipliers;
      mix = mix;
      least = value_by_chunks (table_of recipe) sums range node mix relaxation.value;
      relaxation = relaxation;
      printed = bound_by_chunks (table_of recipe) sums multipliers.p multipliers.q mix text printed;
    }))

-- by the recipe's merged table
pub prints_bound : (recipe : RecipeValue) (range : Range) (node : Node) (table : TableValue) (multipliers : Multipliers) (mix : Mix) → table ≡ judged_table recipe → HasSumsOf (table_of recipe) table
    → IsAnswer table range node (Bound multipliers mix) → (text : List ℕ) → PrintsBound table multipliers.p multipliers.q mix text → PrintsNode recipe range node text
prints_bound recipe range node table multipliers mix is sums answer text printed =
    let merged_sums = subst (HasSumsOf (table_of recipe)) is sums in
    let merged_answer = subst (λ (t : TableValue). IsAnswer t range node (Bound multipliers mix)) is answer in
    let merged_printed = subst (λ (t : TableValue). PrintsBound t multipliers.p multipliers.q mix text) is printed in
    prints_value recipe range node multipliers mix text merged_sums merged_answer.0 merged_answer.1 merged_answer.2 merged_printed

-- two mixes of one value
module _ (table : TableValue) (range : Range) (node : Node) where
  same_fraction : (mix other : Mix) → HasValue table range node mix → HasValue table range node other → mixed_replicated table mix * weight_of other ≡ mixed_replicated table other * weight_of mix
  same_fraction mix other p q =
      let less = p.least other q.is_mix in
      let more = q.least mix p.is_mix in
      omega (arith, less, more)

  same_value : (p q s t : ℕ) (mix other : Mix) (text told : List ℕ) → HasValue table range node mix → HasValue table range node other → PrintsBound table p q mix text → PrintsBound table s t other told
      → ShareValue text told
  same_value p q s t mix other text told value least one two =
      let same = one_lowest (mixed_replicated table mix) (weight_of mix) (mixed_replicated table other) (weight_of other) one.over one.under two.over two.under
      value.is_mix.weighed least.is_mix.weighed (same_fraction mix other value least) one.value two.value in
      record {
        over = two.over;
        under = two.under;
        first = (slope_line p q ++ mix_line mix, one.prints ∙ (ap (λ (o : ℕ). bound_text o one.under p q mix) same.0 ∙ ap (λ (u : ℕ). bound_text two.over u p q mix) same.1));
        second = (slope_line s t ++ mix_line other, two.prints);
      }

same_printed : (recipe : RecipeValue) (range : Range) (node : Node) (text told : List ℕ) → PrintsNode recipe range node text → PrintsNode recipe range node told → IsOneValue text told
same_printed recipe range node text told (inl p) (inl q) = inl (p.prints ∙ sym q.prints)
same_printed recipe range node text told (inl p) (inr (inl q)) = absurd (q.not_low p.low)
same_printed recipe range node text told (inl p) (inr (inr q)) = absurd (q.not_low p.low)
same_printed recipe range node text told (inr (inl p)) (inl q) = absurd (p.not_low q.low)
same_printed recipe range node text told (inr (inl p)) (inr (inl q)) = inl (p.prints ∙ sym q.prints)
same_printed recipe range node text told (inr (inl p)) (inr (inr q)) = absurd (q.not_high p.high)
same_printed recipe range node text told (inr (inr p)) (inl q) = absurd (p.not_low q.low)
same_printed recipe range node text told (inr (inr p)) (inr (inl q)) = absurd (p.not_high q.high)
same_printed recipe range node text told (inr (inr p)) (inr (inr q)) =
    inr (same_value (table_of recipe) range node p.multipliers.p p.multipliers.q q.multipliers.p q.multipliers.q p.mix q.mix text told p.least q.least p.printed q.printed)

-- a node is its two sets
abbrev node_with : List Bool → List Bool → Node
node_with inside outside = record { inside = inside; outside = outside }

pub same_parts : (one other : Node) → one.inside ≡ other.inside → one.outside ≡ other.outside → one ≡ other
same_parts one other inside outside = ap (λ (set : List Bool). node_with set one.outside) inside ∙ ap (λ (set : List Bool). node_with other.inside set) outside

module _ (one_spelling : OneSpelling) (files : ℕ) (inside outside : List ℕ) where
  -- a word spells one set
  same_set : (word : List ℕ) (one other : List Bool) → SpellsSet files word one → SpellsSet files word other → one ≡ other
  same_set word one other p q = one_spelling one other (p.width ∙ sym q.width) (sym p.spelled ∙ q.spelled)

  -- two words spell one node
  pub same_node : (one other : Node) → SpellsNode files inside outside one → SpellsNode files inside outside other → one ≡ other
  same_node one other p q =
      same_parts one other (same_set inside one.inside other.inside p.inside q.inside) (same_set outside one.outside other.outside p.outside q.outside)

  -- or one of them is bad
  pub same_bad : (place bad other : ℕ) → IsBadNode files inside outside place bad → IsBadNode files inside outside place other → bad ≡ other
  same_bad place bad other (inl p) (inl q) = p.0 ∙ sym q.0
  same_bad place bad other (inl p) (inr (at, inl q)) = absurd (p.1 q.first q.inside.width q.inside.spelled)
  same_bad place bad other (inl p) (inr (at, inr q)) = absurd (p.1 q.first q.inside.width q.inside.spelled)
  same_bad place bad other (inr (at, inl p)) (inl q) = absurd (q.1 p.first p.inside.width p.inside.spelled)
  same_bad place bad other (inr (at, inr p)) (inl q) = absurd (q.1 p.first p.inside.width p.inside.spelled)
  same_bad place bad other (inr p) (inr q) = p.0 ∙ sym q.0

  pub not_bad : (place bad : ℕ) (node : Node) → SpellsNode files inside outside node → IsBadNode files inside outside place bad → ⊥
  not_bad place bad node p (inl q) = q.1 node.inside p.inside.width p.inside.spelled
  not_bad place bad node p (inr (at, inl q)) = q.none node.outside p.outside.width p.outside.spelled
  not_bad place bad node p (inr (at, inr q)) =
      let first = same_set inside q.first node.inside q.inside p.inside in
      let second = same_set outside q.second node.outside q.outside p.outside in
      q.meet (subst (λ (s : List Bool). AreApart files (holds s) (holds q.second)) (sym first) (subst (λ (s : List Bool). AreApart files (holds node.inside) (holds s)) (sym second) p.apart.apart))

pub same_relax : OneSpelling → (recipe : RecipeValue) (target slack : Amount) (inside outside : List ℕ) (one other : Status) (text told : List ℕ)
    → RelaxOf target slack inside outside one text recipe → RelaxOf target slack inside outside other told recipe → IsSameWith IsOneValue one other text told
same_relax one_spelling recipe target slack inside outside one other text told (inl p) (inl q) =
    let bad = same_bad one_spelling (length recipe.files) inside outside 5 p.bad q.bad p.fault q.fault in
    let is = same_refusal (bad_word q.bad) one other text told (subst (λ (b : ℕ). Refuses (bad_word b) one text) bad p.refuses) q.refuses in
    (is.0, inl is.1)
same_relax one_spelling recipe target slack inside outside one other text told (inl p) (inr q) =
    absurd (not_bad one_spelling (length recipe.files) inside outside 5 p.bad q.node q.spells p.fault)
same_relax one_spelling recipe target slack inside outside one other text told (inr p) (inl q) =
    absurd (not_bad one_spelling (length recipe.files) inside outside 5 q.bad p.node p.spells q.fault)
same_relax one_spelling recipe target slack inside outside one other text told (inr p) (inr q) =
    let nodes = same_node one_spelling (length recipe.files) inside outside p.node q.node p.spells q.spells in
    let range : Range = range_in recipe target slack in
    (p.answers ∙ sym q.answers, same_printed recipe range q.node text told (subst (λ (n : Node). PrintsNode recipe range n text) nodes p.printed) q.printed)

-- each ending has its cause
pub relax_cause : (found : World) (words : List (List ℕ)) (recipe : RecipeValue) (target slack : Amount) (inside outside : List ℕ) (status : Status) (text : List ℕ)
    → AsksRelax found.files words recipe inside outside → RelaxOf target slack inside outside status text recipe → PlanningCause found words status
relax_cause found words recipe target slack inside outside status text asks (inl p) =
    by_refusal found words (bad_word p.bad) status text p.refuses (NoNode (record { recipe = recipe; inside = inside; outside = outside; asks = asks; bad = p.bad; fault = p.fault }))
relax_cause found words recipe target slack inside outside status text asks (inr p) =
    subst (PlanningCause found words) (sym p.answers) (RelaxDone (record { recipe = recipe; inside = inside; outside = outside; asks = asks; node = p.node; spells = p.spells }))
