-- Greedy sets of a recipe's files, and what is printed of them beside a bound.
use Rattle.std.proofs.Common.{◌≡◌, ◌∙◌, ◌≤◌, ℕ, List, Bool, true, false, Option, Some, None, length, refl, sym, ap, subst, inl, inr, arith}
use Rattle.std.specs.Prelude.{◌⊎◌, IfOk, IfSome, MatchOption, Result, Ok, Err, option_map}
use Rattle.seed_io.specs.Shelf.{Told}
use Rattle.seed_model.specs.declared.node.Node.{Node}
use Rattle.seed_model.specs.declared.range.Range.{Range}
use Rattle.seed_model.specs.declared.memory.NoMemory.{NoMemory}
use Rattle.seed_model.specs.Files.{holds}
use Rattle.seed_model.specs.Nodes.{IsNode, IsAdmitted, undecided_node}
use Rattle.seed_model.specs.Sums.{replicated_of}
use Rattle.seed_model.specs.Tables.{TableValue, IsTable}
use Rattle.bound_cert.specs.declared.heading.Answer.{Answer}
use Rattle.bound_cert.specs.declared.heading.Answer.TheVariants.{Optimal, Infeasible, Open}
use Rattle.bound_cert.specs.declared.heading.Heading.{Heading}
use Rattle.bound_cert.specs.declared.heading.Pins.{Pins}
use Rattle.bound_cert.specs.Laws.{Says}
use Rattle.bound_cert.specs.Sets.{root_of}
use Rattle.cert_check.specs.declared.judged.Checked.{Checked}
use Rattle.cert_check.specs.declared.judged.Verdict.{Verdict}
use Rattle.cert_check.specs.declared.judged.Verdict.TheVariants.{Yes, No}
use Rattle.cert_check.specs.Checking.{GoTogether, IsChecked, IsCheckedBy, IsPlan, IsSound, pins_node, root_checked, shown_by}
use Rattle.chunk_merge.specs.Merged.{KeepsSums}
use Rattle.recipe_reader.specs.Recipes.{RecipeValue, table_of}
use Rattle.greedy_seed.specs.declared.tried.Tried.{Tried}
use Rattle.greedy_seed.specs.Admitted.{IsChoice}
use Rattle.greedy_seed.specs.Greedy.{Finds, FindsNone, IsGreedy}
use Rattle.command_texts.specs.declared.status.Status.{Status}
use Rattle.command_texts.specs.Refusals.{Refuses, too_long}
use Rattle.command_endings.specs.declared.limits.TheConstants.{MOST_CERTIFICATE_BYTES}
use Rattle.command_endings.specs.Worlds.{Over}
use Rattle.bound_cert.specs.Within.{RunsOn}
use Rattle.planning_commands.specs.Check.{judged_table}
use Rattle.planning_commands.specs.Reading.{HoldsRecipe, LacksRecipe}
use Rattle.planning_commands.proofs.CheckLemmas.{by_chunks, replicated_same, says_by_chunks}
use denote.Ref.{Bor}
use Rattle.branch_bound.specs.Outcomes.{search_root}
use Rattle.branch_bound.specs.Pinned.{pinned_node}
use Rattle.command_texts.specs.declared.status.Status.TheVariants.{Done}
use Rattle.trial_commands.specs.Gap.{BoundsAll, GapOf, GapOver, HeardGap, PrintsBeside, PrintsBetween, ReportsBeside}
use Rattle.trial_commands.specs.Texts.{gap_text}
use Rattle.trial_commands.specs.Greedy.{FindsSet, IsFound, TriesSet}

-- what the greedy choice found is a set of the recipe's files
pub tries_set : KeepsSums → (recipe : RecipeValue) (range : Range) (pins : Node) (tried : Tried) → IsGreedy (judged_table recipe) range pins tried
    → IfSome tried.set (IsChoice (judged_table recipe) range pins) → TriesSet recipe range pins tried
tries_set sums recipe range pins tried greedy choice = by tried.set greedy choice
  where
    by : (set : Option (List Bool)) → MatchOption set (FindsNone (judged_table recipe) range pins tried.turns × (tried.rounds ≡ 0)) (λ set. Finds (judged_table recipe) range pins set tried.turns tried.rounds)
        → IfSome set (IsChoice (judged_table recipe) range pins)
        → MatchOption set (FindsNone (judged_table recipe) range pins tried.turns) (λ set. FindsSet recipe range pins set tried.turns tried.rounds)
    by None none choice = none.0
    by (Some set) finds choice = record { finds = finds; width = choice.files; admitted = by_chunks sums (table_of recipe) range pins (holds set) choice.admitted }

pub ok_tries : KeepsSums → (recipe : RecipeValue) (table : TableValue) (range : Range) (pins : Node) → table ≡ judged_table recipe → (result : Result Tried NoMemory)
    → IfOk result (λ tried. IsGreedy table range pins tried) → IfOk result (λ tried. IfSome tried.set (IsChoice table range pins)) → IfOk result (TriesSet recipe range pins)
ok_tries sums recipe table range pins is (Ok tried) greedy choice =
    tries_set sums recipe range pins tried (subst (λ (t : TableValue). IsGreedy t range pins tried) is greedy) (subst (λ (t : TableValue). IfSome tried.set (IsChoice t range pins)) is choice)
ok_tries sums recipe table range pins is (Err none) greedy choice = tt

-- the bound of a certificate that is valid
pub record HasBound (table : TableValue) (range : Range) (root : Node) (bound : Option ℕ) : Type 0 where
  pub least : ℕ
  pub is : bound ≡ Some least
  pub all : BoundsAll table range root least

-- beside an admitted set it has one
has_bound : (table : TableValue) (range : Range) (root : Node) (answer : Answer) (plan : Option (List Bool)) (replicated : ℕ) (bound : Option ℕ) (set : ℕ → Bool) → IsAdmitted table range root set
    → Says table range root answer plan bound → IfSome plan (λ p. replicated ≡ replicated_of (holds p) table) → GoTogether answer (option_map (λ _. replicated) plan) bound → HasBound table range root bound
has_bound table range root Optimal (Some plan) replicated (Some z) set admitted says sum agrees = record {
  least = z;
  is = refl;
  all = λ other a. let least = says.least other a in omega (arith, least, sum, agrees);
}
has_bound table range root Optimal (Some plan) replicated None set admitted says sum agrees = absurd agrees
has_bound table range root Optimal None replicated bound set admitted says sum agrees = absurd says
has_bound table range root Infeasible plan replicated bound set admitted says sum agrees = absurd (says set admitted)
has_bound table range root Open plan replicated (Some z) set admitted says sum agrees = record { least = z; is = refl; all = λ other a. says other a }
has_bound table range root Open plan replicated None set admitted says sum agrees = absurd says

-- what a valid certificate says, of the chunks
module _ (sums : KeepsSums) (recipe : RecipeValue) (checked : Checked) (sound : IsSound (judged_table recipe) checked) (valid : checked.verdict ≡ Yes) where
  pub says_so : Says (table_of recipe) checked.range (root_checked (length recipe.files) checked.pins) checked.answer checked.plan checked.bound
  says_so = says_by_chunks sums (table_of recipe) checked.range (root_checked (length recipe.files) checked.pins) checked.answer checked.plan checked.bound (sound.says valid)

  plan_sum : (plan : Option (List Bool)) → IfSome plan (IsPlan (judged_table recipe) checked.migrated checked.replicated) → IfSome plan (λ p. checked.replicated ≡ replicated_of (holds p) (table_of recipe))
  plan_sum None is = tt
  plan_sum (Some set) is = is.replicated_is ∙ replicated_same sums (table_of recipe) (holds set)

  pub bound_beside : (set : List Bool) → IsAdmitted (table_of recipe) checked.range (root_checked (length recipe.files) checked.pins) (holds set)
      → HasBound (table_of recipe) checked.range (root_checked (length recipe.files) checked.pins) checked.bound
  bound_beside set admitted =
      has_bound (table_of recipe) checked.range (root_checked (length recipe.files) checked.pins) checked.answer checked.plan checked.replicated checked.bound (holds set) admitted says_so
      (plan_sum checked.plan sound.plan) (sound.agrees valid)

-- how the command ends over what it printed of a checked certificate
pub told_beside : (map : Told) (name bytes : List ℕ) (recipe : RecipeValue) (checked : Checked) (status : Status) (text : List ℕ) → map name ≡ Some bytes
    → IsChecked (judged_table recipe) MOST_CERTIFICATE_BYTES bytes checked → ReportsBeside checked.verdict recipe checked status text → GapOf map name status text recipe
told_beside map name bytes recipe checked status text held is reports = by checked.verdict is reports
  where
    same_root : (pins : Option Pins) → root_checked (length recipe.files) (pins_node (length recipe.files) pins) ≡ root_of (length recipe.files) pins
    same_root None = refl
    same_root (Some pins) = refl

    by : (verdict : Verdict) → IsCheckedBy verdict (judged_table recipe) MOST_CERTIFICATE_BYTES bytes checked → ReportsBeside verdict recipe checked status text → GapOf map name status text recipe
    by Yes c beside =
        let shows = c.1 in
        let shown = subst (λ (k : Checked). PrintsBeside recipe k.range (root_checked (length recipe.files) k.pins) k.bound status text) shows.shown beside in
        inr (inr (inr (record {
          heading = shows.heading;
          nodes = shows.nodes;
          held = record { bytes = bytes; reads = record { held = held; short = c.0 }; document = shows.document; text_is = shows.text_is; valid = shows.valid };
          beside = subst (λ (r : Node). PrintsBeside recipe shows.heading.range r shows.heading.bound status text) (same_root shows.heading.pins) shown;
        })))
    by (No line rule) c reports =
        inr (inr (inl (record { line = line; rule = rule; held = record { bytes = bytes; held = held; fails = c.0 }; answers = reports.0; prints = reports.1 })))

-- and over what is judged of any shelf
pub heard_beside : KeepsSums → (name : List ℕ) (recipe : RecipeValue) (checked : Checked) (status : Status) (text : List ℕ) → IsSound (judged_table recipe) checked
    → ReportsBeside checked.verdict recipe checked status text → HeardGap name status text recipe
heard_beside sums name recipe checked status text sound reports = by checked.verdict refl reports
  where
    by : (verdict : Verdict) → checked.verdict ≡ verdict → ReportsBeside verdict recipe checked status text → HeardGap name status text recipe
    by Yes is beside = inr (inr (inr (record { checked = checked; says = says_so sums recipe checked sound is; beside = beside })))
    by (No line rule) is reports = inr (inr (inl (record { line = line; rule = rule; answers = reports.0; prints = reports.1 })))

-- more bytes than are read
pub told_long : (map : Told) (name : List ℕ) (recipe : RecipeValue) (status : Status) (text bytes : List ℕ) → map name ≡ Some bytes → RunsOn (judged_table recipe) MOST_CERTIFICATE_BYTES bytes
    → Refuses (too_long name) status text → GapOf map name status text recipe
told_long map name recipe status text bytes held runs refuses = inr (inl (record { bytes = bytes; held = held; runs = runs; refuses = refuses }))

-- both readings together
pub gap_over : (tells : Bool) (map : Told) (first name : List ℕ) (recipe : RecipeValue) (status : Status) (text : List ℕ) → Over tells map (λ given. HoldsRecipe given first recipe)
    → (tells ≡ true → GapOf map name status text recipe) → HeardGap name status text recipe → GapOver tells map first name status text
gap_over true map first name recipe status text over told heard =
    let held = over.holds in
    inl (record {
      given = map;
      told = λ is name. refl;
      holds = inr (record {
        recipe = recipe;
        held = record { bytes = held.bytes; reads = record { held = sym (over.told refl first) ∙ held.reads.held; short = held.reads.short }; lawful = held.lawful };
        rest = told refl;
      });
    })
gap_over false map first name recipe status text over told heard = inr (record { silent = refl; value = recipe; held = over; rest = heard })

-- the first name gives no recipe
pub gap_refused : (tells : Bool) (map : Told) (first name : List ℕ) (status : Status) (text : List ℕ) → Over tells map (λ given. LacksRecipe given first status text) → GapOver tells map first name status text
gap_refused tells map first name status text over = inl (record { given = over.given; told = over.told; holds = inl over.holds })

-- the pins of a certificate, as they are handed on
pub tries_root : (recipe : RecipeValue) (range : Range) (tried : Tried) (pins : Option Node) (handed : Option (Bor Node)) → option_map (λ node. node.now) handed ≡ pins
    → TriesSet recipe range (search_root (length recipe.files) (pinned_node handed)) tried → TriesSet recipe range (root_checked (length recipe.files) pins) tried
tries_root recipe range tried pins None same t = subst (λ (p : Option Node). TriesSet recipe range (root_checked (length recipe.files) p) tried) same t
tries_root recipe range tried pins (Some node) same t = subst (λ (p : Option Node). TriesSet recipe range (root_checked (length recipe.files) p) tried) same t

-- a set that was found, beside a certificate's bound
module _ (sums : KeepsSums) (recipe : RecipeValue) (table : TableValue) (is : table ≡ judged_table recipe) (checked : Checked) (lawful : IsSound table checked) (valid : checked.verdict ≡ Yes) (set : List Bool)
    (found : IsFound recipe checked.range (root_checked (length recipe.files) checked.pins) set) where
  beside : HasBound (table_of recipe) checked.range (root_checked (length recipe.files) checked.pins) checked.bound
  beside = bound_beside sums recipe checked (subst (λ (t : TableValue). IsSound t checked) is lawful) valid set found.finds.admitted

  pub no_none : checked.bound ≡ None → ⊥
  no_none none = let b = beside in cc (b.is, none)

  pub below : (bound : ℕ) → checked.bound ≡ Some bound → bound ≤ replicated_of (holds set) (table_of recipe)
  below bound held =
      let b = beside in
      let same : b.least ≡ bound = cc (sym b.is ∙ held) in
      let less = b.all (holds set) found.finds.admitted in
      omega (arith, same, less)

  pub below_classes : (bound : ℕ) → checked.bound ≡ Some bound → bound ≤ replicated_of (holds set) table
  below_classes bound held =
      let less = below bound held in
      let merged_is = ap (λ (t : TableValue). replicated_of (holds set) t) is in
      let same = replicated_same sums (table_of recipe) (holds set) in
      omega (arith, less, merged_is, same)

  pub prints_between : (bound : ℕ) → checked.bound ≡ Some bound → (status : Status) (text : List ℕ) → status ≡ Done → text ≡ gap_text recipe set bound
      → PrintsBetween recipe checked.range (root_checked (length recipe.files) checked.pins) checked.bound status text
  prints_between bound held status text answers prints =
      let b = beside in
      let same : b.least ≡ bound = cc (sym b.is ∙ held) in
      record {
        set = set;
        turns = found.turns;
        rounds = found.rounds;
        found = found.finds;
        least = bound;
        bound_is = held;
        bounds = subst (λ (n : ℕ). BoundsAll (table_of recipe) checked.range (root_checked (length recipe.files) checked.pins) n) same b.all;
        between = below bound held;
        answers = answers;
        prints = prints;
      }
