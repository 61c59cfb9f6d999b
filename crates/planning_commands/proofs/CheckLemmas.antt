-- `check`: what it finds determines how it ends, and how it ends has a cause.
use Rattle.std.proofs.Common.{◌≡◌, ◌∙◌, ◌++◌, ◌∷◌, [], ℕ, List, Bool, true, false, Option, Some, None, refl, sym, ap, subst, inl, inr, length, arith}
use Rattle.std.specs.Prelude.{◌&&◌, not, codes, count_by, Result, Ok, Err, IfOk, IfSome, IsSome}
use Rattle.std.specs.List.{list_all, list_any}
use Rattle.seed_io.specs.Shelf.{Told}
use Rattle.seed_text.specs.SetTexts.{set_text}
use Rattle.seed_model.specs.declared.node.Node.{Node}
use Rattle.seed_model.specs.declared.range.Range.{Range}
use Rattle.seed_model.specs.Files.{holds}
use Rattle.seed_model.specs.Nodes.{IsAdmitted}
use Rattle.seed_model.specs.Sums.{migrated_of, replicated_of}
use Rattle.seed_model.specs.Tables.{TableValue, IsTable}
use Rattle.bound_cert.specs.declared.heading.Answer.{Answer}
use Rattle.bound_cert.specs.declared.heading.Answer.TheVariants.{Optimal, Infeasible, Open}
use Rattle.bound_cert.specs.declared.heading.Heading.{Heading}
use Rattle.bound_cert.specs.declared.heading.Pins.{Pins}
use Rattle.bound_cert.specs.declared.node_line.NodeLine.{NodeLine}
use Rattle.bound_cert.specs.Judgements.{FailsFirst}
use Rattle.bound_cert.specs.Laws.{Says, ValidIsSo, OneFailure, RunsOnUnfailed, FailureIsNotValid, OneDocument, plan_named}
use Rattle.bound_cert.specs.Sets.{root_of, set_named}
use Rattle.bound_cert.specs.Trees.{is_branch}
use Rattle.bound_cert.specs.Valid.{ArePins, IsValid}
use Rattle.bound_cert.specs.Within.{RunsOn}
use Rattle.cert_check.specs.declared.judged.Checked.{Checked}
use Rattle.cert_check.specs.declared.judged.Verdict.{Verdict}
use Rattle.cert_check.specs.declared.judged.Verdict.TheVariants.{Yes, No}
use Rattle.cert_check.specs.Checking.{IsChecked, IsCheckedBy, IsPlan, IsSound, migrated_by, pins_node, replicated_by, root_checked, shown_by}
use Rattle.chunk_merge.specs.Merged.{merged, KeepsSums}
use Rattle.recipe_reader.specs.Recipes.{RecipeValue, table_of}
use Rattle.goseed_words.specs.Asked.{AsksToRead}
use Rattle.goseed_words.specs.Commands.{Certificate}
use Rattle.command_texts.specs.declared.status.Status.{Status}
use Rattle.command_texts.specs.Lines.{line, numbers_line}
use Rattle.command_texts.specs.Refusals.{Refuses, not_there, too_long}
use Rattle.command_endings.specs.Worlds.{Over, World}
use Rattle.command_endings.specs.declared.limits.TheConstants.{MOST_CERTIFICATE_BYTES}
use Rattle.command_endings.proofs.DeterminedLemmas.{IsSame, same_refusal}
use Rattle.planning_commands.specs.Causes.{PlanningCause, CheckDone, CheckFails, NotThere, TooLong}
use Rattle.planning_commands.specs.Check.{CheckOf, CheckOver, HeardOf, AsksCheck, PrintsFailure, PrintsValid, ReportsOn, judged_table, failure_text, node_lines, pins_line, text_by, valid_text, verdict_status, yes_text}
use Rattle.planning_commands.specs.Reading.{HoldsRecipe, LacksRecipe}
use Rattle.planning_commands.specs.Texts.{answer_lines}
use Rattle.planning_commands.proofs.Refusing.{by_refusal}

-- what a certificate says of the classes is so of the chunks
module _ (sums : KeepsSums) (table : TableValue) where
  migrated_same : (set : ℕ → Bool) → migrated_of set (merged table) ≡ migrated_of set table
  migrated_same set = sums table (list_all set)

  pub replicated_same : (set : ℕ → Bool) → replicated_of set (merged table) ≡ replicated_of set table
  replicated_same set = sums table (λ users. list_any set users && not (list_all set users))

  pub by_chunks : (range : Range) (root : Node) (set : ℕ → Bool) → IsAdmitted (merged table) range root set → IsAdmitted table range root set
  by_chunks range root set a =
      let same = migrated_same set in
      let enough = a.in_range.enough in
      let no_more = a.in_range.no_more in
      record { member = a.member; in_range = record { enough = omega (arith, same, enough); no_more = omega (arith, same, no_more) } }

  by_classes : (range : Range) (root : Node) (set : ℕ → Bool) → IsAdmitted table range root set → IsAdmitted (merged table) range root set
  by_classes range root set a =
      let same = migrated_same set in
      let enough = a.in_range.enough in
      let no_more = a.in_range.no_more in
      record { member = a.member; in_range = record { enough = omega (arith, same, enough); no_more = omega (arith, same, no_more) } }

  pub says_by_chunks : (range : Range) (root : Node) (answer : Answer) (plan : Option (List Bool)) (bound : Option ℕ) → Says (merged table) range root answer plan bound → Says table range root answer plan bound
  says_by_chunks range root Optimal (Some set) bound s = record {
    admitted = by_chunks range root (holds set) s.admitted;
    least = λ other a.
        let least = s.least other (by_classes range root other a) in
        let one = replicated_same (holds set) in
        let two = replicated_same other in
        omega (arith, least, one, two);
  }
  says_by_chunks range root Optimal None bound s = absurd s
  says_by_chunks range root Infeasible plan bound s = λ set a. s set (by_classes range root set a)
  says_by_chunks range root Open plan (Some z) s = λ set a. let least = s set (by_classes range root set a) in let same = replicated_same set in omega (arith, least, same)
  says_by_chunks range root Open plan None s = absurd s

  plan_by_chunks : (migrated replicated : ℕ) (plan : Option (List Bool)) → IfSome plan (IsPlan (merged table) migrated replicated) → IfSome plan (IsPlan table migrated replicated)
  plan_by_chunks migrated replicated None p = tt
  plan_by_chunks migrated replicated (Some set) p = record {
    files = p.files;
    migrated_is = p.migrated_is ∙ migrated_same (holds set);
    replicated_is = p.replicated_is ∙ replicated_same (holds set);
  }

-- pins are printed as they stand in the certificate
pins_printed : (files : ℕ) (pins : Option Pins) → ArePins files pins → node_lines (pins_node files pins) ≡ pins_line pins
pins_printed files None are = refl
pins_printed files (Some pins) are =
    ap (λ (go : List ℕ). line (codes "pins " ++ go ++ codes " " ++ set_text (set_named files pins.stay))) (sym are.0)
    ∙ ap (λ (stay : List ℕ). line (codes "pins " ++ pins.go ++ codes " " ++ stay)) (sym are.1)

-- what a valid certificate gives is printed as what it shows
valid_printed : (recipe : RecipeValue) (heading : Heading) (nodes : List NodeLine) → IsValid (judged_table recipe) heading nodes
    → yes_text recipe (shown_by (length recipe.files) heading nodes) ≡ valid_text recipe heading nodes
valid_printed recipe heading nodes valid =
    let files : ℕ = length recipe.files in
    ap (λ (pins : List ℕ). line (codes "check yes") ++ numbers_line (codes "range") (heading.range.low ∷ heading.range.high ∷ []) ++ pins
    ++ answer_lines recipe.files heading.answer (plan_named files heading.plan) (migrated_by heading.plan) (replicated_by heading.plan) heading.bound (count_by is_branch nodes))
    (pins_printed files heading.pins valid.pins)

-- how the command ends over what it printed of a checked certificate
pub told_checked : (map : Told) (name bytes : List ℕ) (recipe : RecipeValue) (checked : Checked) (status : Status) (text : List ℕ) → map name ≡ Some bytes
    → IsChecked (judged_table recipe) MOST_CERTIFICATE_BYTES bytes checked → ReportsOn recipe checked status text → CheckOf map name status text recipe
told_checked map name bytes recipe checked status text held is reports = by checked.verdict is reports.answers reports.prints
  where
    by : (verdict : Verdict) → IsCheckedBy verdict (judged_table recipe) MOST_CERTIFICATE_BYTES bytes checked → status ≡ verdict_status verdict → text ≡ text_by verdict recipe checked
        → CheckOf map name status text recipe
    by Yes c answers prints =
        let shows = c.1 in
        inr (inr (inr (record {
          heading = shows.heading;
          nodes = shows.nodes;
          held = record { bytes = bytes; reads = record { held = held; short = c.0 }; document = shows.document; text_is = shows.text_is; valid = shows.valid };
          answers = answers;
          prints = prints ∙ (ap (yes_text recipe) shows.shown ∙ valid_printed recipe shows.heading shows.nodes shows.valid);
        })))
    by (No line rule) c answers prints = inr (inr (inl (record { line = line; rule = rule; held = record { bytes = bytes; held = held; fails = c.0 }; answers = answers; prints = prints })))

-- and over what is judged of any shelf
pub heard_checked : KeepsSums → (name : List ℕ) (recipe : RecipeValue) (checked : Checked) (status : Status) (text : List ℕ) → IsSound (judged_table recipe) checked
    → ReportsOn recipe checked status text → HeardOf name status text recipe
heard_checked sums name recipe checked status text sound reports = by checked.verdict refl reports.answers reports.prints
  where
    by : (verdict : Verdict) → checked.verdict ≡ verdict → status ≡ verdict_status verdict → text ≡ text_by verdict recipe checked → HeardOf name status text recipe
    by Yes is answers prints = inr (inr (inr (record {
      checked = checked;
      says = says_by_chunks sums (table_of recipe) checked.range (root_checked (length recipe.files) checked.pins) checked.answer checked.plan checked.bound (sound.says is);
      plan = plan_by_chunks sums (table_of recipe) checked.migrated checked.replicated checked.plan sound.plan;
      agrees = sound.agrees is;
      answers = answers;
      prints = prints;
    })))
    by (No line rule) is answers prints = inr (inr (inl (record { line = line; rule = rule; answers = answers; prints = prints })))

-- more bytes than are read
pub told_long : (map : Told) (name : List ℕ) (recipe : RecipeValue) (status : Status) (text bytes : List ℕ) → map name ≡ Some bytes → RunsOn (judged_table recipe) MOST_CERTIFICATE_BYTES bytes
    → Refuses (too_long name) status text → CheckOf map name status text recipe
told_long map name recipe status text bytes held runs refuses = inr (inl (record { bytes = bytes; held = held; runs = runs; refuses = refuses }))

-- a name that has bytes
pub some_bytes : (found : Option (List ℕ)) → IsSome found → (bytes : List ℕ) × (found ≡ Some bytes)
some_bytes (Some bytes) is = (bytes, refl)
some_bytes None is = absurd (cc is)

-- what holds of a report for two reasons, the first where the shelf tells
pub ok_both : {T E : Type 0} {tells : Bool} {P Q R : T → Type 0} (result : Result T E) → (tells ≡ true → IfOk result P) → IfOk result Q
    → ((value : T) → (tells ≡ true → P value) → Q value → R value) → IfOk result R
ok_both (Ok value) p q both = both value p q
ok_both (Err error) p q both = tt

-- both readings together
pub check_over : (tells : Bool) (map : Told) (first name : List ℕ) (recipe : RecipeValue) (status : Status) (text : List ℕ) → Over tells map (λ given. HoldsRecipe given first recipe)
    → (tells ≡ true → CheckOf map name status text recipe) → HeardOf name status text recipe → CheckOver tells map first name status text
check_over true map first name recipe status text over told heard =
    let held = over.holds in
    inl (record {
      given = map;
      told = λ is name. refl;
      holds = inr (record {
        recipe = recipe;
        held = record { bytes = held.bytes; reads = record { held = sym (over.told refl first) ∙ held.reads.held; short = held.reads.short }; lawful = held.lawful };
        rest = told refl;
      });
    })
check_over false map first name recipe status text over told heard = inr (record { silent = refl; value = recipe; held = over; rest = heard })

-- the first name gives no recipe
pub check_refused : (tells : Bool) (map : Told) (first name : List ℕ) (status : Status) (text : List ℕ) → Over tells map (λ given. LacksRecipe given first status text)
    → CheckOver tells map first name status text
check_refused tells map first name status text over = inl (record { given = over.given; told = over.told; holds = inl over.holds })

-- the bytes that a name has are one
pub one_held : (given : Told) (name a b : List ℕ) → given name ≡ Some a → given name ≡ Some b → a ≡ b
one_held given name a b p q = cc (sym p ∙ q)

module _ (one_failure : OneFailure) (unfailed : RunsOnUnfailed) (failed : FailureIsNotValid) (one_document : OneDocument) where
  -- a certificate of which a judgement fails is not valid
  pub not_valid : (given : Told) (name : List ℕ) (recipe : RecipeValue) (one other : Status) (text told : List ℕ) → PrintsFailure given name one text recipe → PrintsValid given name other told recipe → ⊥
  not_valid given name recipe one other text told p q =
      let bytes = one_held given name p.held.bytes q.held.bytes p.held.held q.held.reads.held in
      failed (judged_table recipe) q.held.bytes p.line p.rule (subst (λ (t : List ℕ). FailsFirst (judged_table recipe) t p.line p.rule) bytes p.held.fails.failure)
      (record { heading = q.heading; nodes = q.nodes; document = q.held.document; text_is = q.held.text_is; valid = q.held.valid })

  -- one that runs on has no such judgement, and is longer than one that is read
  pub runs_apart : (given : Told) (name bytes : List ℕ) (recipe : RecipeValue) (one : Status) (text : List ℕ) → given name ≡ Some bytes → RunsOn (judged_table recipe) MOST_CERTIFICATE_BYTES bytes
      → PrintsFailure given name one text recipe → ⊥
  runs_apart given name bytes recipe one text held runs q =
      let same = one_held given name bytes q.held.bytes held q.held.held in
      unfailed (judged_table recipe) MOST_CERTIFICATE_BYTES q.held.bytes q.line q.rule (subst (RunsOn (judged_table recipe) MOST_CERTIFICATE_BYTES) same runs) q.held.fails

  pub runs_long : (given : Told) (name bytes : List ℕ) (recipe : RecipeValue) (one : Status) (text : List ℕ) → given name ≡ Some bytes → RunsOn (judged_table recipe) MOST_CERTIFICATE_BYTES bytes
      → PrintsValid given name one text recipe → ⊥
  runs_long given name bytes recipe one text held runs q =
      let same = ap (λ (t : List ℕ). length t) (one_held given name bytes q.held.bytes held q.held.reads.held) in
      let long = runs.unseen.long in
      let short = q.held.reads.short in
      omega (arith, same, long, short)

  pub same_failure : (given : Told) (name : List ℕ) (recipe : RecipeValue) (one other : Status) (text told : List ℕ) → PrintsFailure given name one text recipe → PrintsFailure given name other told recipe
      → IsSame one other text told
  same_failure given name recipe one other text told p q =
      let bytes = one_held given name p.held.bytes q.held.bytes p.held.held q.held.held in
      let same = one_failure (judged_table recipe) q.held.bytes p.line p.rule q.line q.rule
      (subst (λ (t : List ℕ). FailsFirst (judged_table recipe) t p.line p.rule) bytes p.held.fails.failure) q.held.fails.failure in
      (p.answers ∙ sym q.answers, p.prints ∙ (ap (λ line. failure_text line p.rule) same.0 ∙ (ap (failure_text q.line) same.1 ∙ sym q.prints)))

  same_valid : (given : Told) (name : List ℕ) (recipe : RecipeValue) (one other : Status) (text told : List ℕ) → PrintsValid given name one text recipe → PrintsValid given name other told recipe
      → IsSame one other text told
  same_valid given name recipe one other text told p q =
      let bytes = one_held given name p.held.bytes q.held.bytes p.held.reads.held q.held.reads.held in
      let same = one_document p.heading q.heading p.nodes q.nodes p.held.document q.held.document (sym p.held.text_is ∙ (bytes ∙ q.held.text_is)) in (
        p.answers ∙ sym q.answers,
        p.prints ∙ (ap (λ (h : Heading). valid_text recipe h p.nodes) same.0 ∙ (ap (λ (ns : List NodeLine). valid_text recipe q.heading ns) same.1 ∙ sym q.prints)),
      )

  pub same_check : (given : Told) (name : List ℕ) (recipe : RecipeValue) (one other : Status) (text told : List ℕ) → CheckOf given name one text recipe → CheckOf given name other told recipe
      → IsSame one other text told
  same_check given name recipe one other text told (inl p) (inl q) = same_refusal (not_there name) one other text told p.refuses q.refuses
  same_check given name recipe one other text told (inl p) (inr (inl q)) = absurd (cc (p.lacks, q.held))
  same_check given name recipe one other text told (inl p) (inr (inr (inl q))) = absurd (cc (p.lacks, q.held.held))
  same_check given name recipe one other text told (inl p) (inr (inr (inr q))) = absurd (cc (p.lacks, q.held.reads.held))
  same_check given name recipe one other text told (inr (inl p)) (inl q) = absurd (cc (q.lacks, p.held))
  same_check given name recipe one other text told (inr (inl p)) (inr (inl q)) = same_refusal (too_long name) one other text told p.refuses q.refuses
  same_check given name recipe one other text told (inr (inl p)) (inr (inr (inl q))) = absurd (runs_apart given name p.bytes recipe other told p.held p.runs q)
  same_check given name recipe one other text told (inr (inl p)) (inr (inr (inr q))) = absurd (runs_long given name p.bytes recipe other told p.held p.runs q)
  same_check given name recipe one other text told (inr (inr (inl p))) (inl q) = absurd (cc (q.lacks, p.held.held))
  same_check given name recipe one other text told (inr (inr (inl p))) (inr (inl q)) = absurd (runs_apart given name q.bytes recipe one text q.held q.runs p)
  same_check given name recipe one other text told (inr (inr (inl p))) (inr (inr (inl q))) = same_failure given name recipe one other text told p q
  same_check given name recipe one other text told (inr (inr (inl p))) (inr (inr (inr q))) = absurd (not_valid given name recipe one other text told p q)
  same_check given name recipe one other text told (inr (inr (inr p))) (inl q) = absurd (cc (q.lacks, p.held.reads.held))
  same_check given name recipe one other text told (inr (inr (inr p))) (inr (inl q)) = absurd (runs_long given name q.bytes recipe one text q.held q.runs p)
  same_check given name recipe one other text told (inr (inr (inr p))) (inr (inr (inl q))) = absurd (not_valid given name recipe other one told text q p)
  same_check given name recipe one other text told (inr (inr (inr p))) (inr (inr (inr q))) = same_valid given name recipe one other text told p q

-- each ending has its cause
pub check_cause : ValidIsSo → KeepsSums → (found : World) (words : List (List ℕ)) (recipe : RecipeValue) (name : List ℕ) (status : Status) (text : List ℕ) → IsTable (judged_table recipe)
    → AsksCheck found.files words recipe name → AsksToRead words Certificate name → CheckOf found.files name status text recipe → PlanningCause found words status
check_cause sound sums found words recipe name status text lawful asks reads (inl lacking) =
    by_refusal found words (not_there name) status text lacking.refuses (NotThere (record { form = Certificate; name = name; asks = reads; lacks = lacking.lacks }))
check_cause sound sums found words recipe name status text lawful asks reads (inr (inl long)) =
    by_refusal found words (too_long name) status text long.refuses
    (TooLong (record { form = Certificate; bytes = long.bytes; asks = record { name = name; asks = reads; held = long.held }; long = long.runs.unseen.long }))
check_cause sound sums found words recipe name status text lawful asks reads (inr (inr (inl p))) =
    subst (PlanningCause found words) (sym p.answers) (CheckFails (record { recipe = recipe; name = name; asks = asks; line = p.line; rule = p.rule; held = p.held }))
check_cause sound sums found words recipe name status text lawful asks reads (inr (inr (inr p))) =
    let heading = p.heading in
    let says = sound (judged_table recipe) heading p.nodes lawful p.held.valid in
    subst (PlanningCause found words) (sym p.answers)
    (CheckDone (record {
      recipe = recipe;
      name = name;
      asks = asks;
      heading = heading;
      nodes = p.nodes;
      held = p.held;
      says = says_by_chunks sums (table_of recipe) heading.range (root_of (length recipe.files) heading.pins) heading.answer (plan_named (length recipe.files) heading.plan) heading.bound says;
    }))
