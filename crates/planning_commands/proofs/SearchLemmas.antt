-- `plan` and `pinned`: what a search leaves and prints.
use Rattle.std.proofs.Common.{◌≡◌, ◌≢◌, ◌∙◌, ◌+◌, ◌++◌, ◌<◌, ◌≤◌, ◌^◌, arith, ℕ, List, [], Bool, true, false, Option, Some, None, refl, sym, ap, subst, inl, inr, length}
use denote.Ref.{Bor}
use Rattle.std.specs.Prelude.{IfSome, option_map}
use Rattle.std.specs.Result.{result_unwrap_or}
use Rattle.std.proofs.Math.Seq.{take-append_seam}
use Rattle.std.proofs.lemmas.List.{append-nil}
use Rattle.std.proofs.lemmas.List.FromFn.{length-map-range_with_len}
use Rattle.hex.specs.Hex.{decode_of}
use Rattle.seed_io.specs.Shelf.{Told, OthersStay}
use Rattle.seed_model.specs.declared.node.Node.{Node}
use Rattle.seed_model.specs.declared.range.Range.{Range}
use Rattle.seed_model.specs.Nodes.{IsNode}
use Rattle.seed_model.specs.Tables.{TableValue, IsTable}
use Rattle.seed_text.specs.SetTexts.{OneSpelling, has_file, set_text}
use Rattle.bound_cert.specs.declared.heading.Answer.{Answer}
use Rattle.bound_cert.specs.declared.heading.Answer.TheVariants.{Optimal, Infeasible, Open}
use Rattle.bound_cert.specs.declared.heading.Claimed.{Claimed}
use Rattle.bound_cert.specs.declared.heading.Heading.{Heading}
use Rattle.bound_cert.specs.declared.heading.Pins.{Pins}
use Rattle.bound_cert.specs.declared.node_line.NodeLine.{NodeLine}
use Rattle.bound_cert.specs.Documents.{IsDocument, document_text}
use Rattle.bound_cert.specs.Laws.{LinesAreShort, Says, TextsName, ValidIsSo, plan_named}
use Rattle.bound_cert.specs.Sets.{IsSetOf, root_of, set_named}
use Rattle.bound_cert.specs.Trees.{Tree}
use Rattle.bound_cert.specs.Valid.{IsClaim}
use Rattle.branch_bound.specs.declared.outcome.Outcome.{Outcome}
use Rattle.branch_bound.specs.Outcomes.{Concludes, IsSearched, free_files, named_pins, search_root}
use Rattle.branch_bound.specs.Pinned.{pinned_node}
use Rattle.branch_bound.specs.Streams.{IsOutcomeOf, IsPlanned, IsSaid, IsSearchText, LeavesFront, SaysPlan}
use Rattle.cert_check.specs.Checking.{migrated_by, replicated_by}
use Rattle.chunk_merge.specs.Merged.{KeepsSums}
use Rattle.recipe_reader.specs.Recipes.{RecipeValue, table_of}
use Rattle.goseed_words.specs.declared.amount.Amount.{Amount}
use Rattle.command_texts.specs.declared.status.Status.{Status}
use Rattle.command_texts.specs.declared.status.Status.TheVariants as ended
use Rattle.command_endings.specs.Creating.{LeavesOthers}
use Rattle.command_endings.specs.Worlds.{Creating, Over, ShelfEnds}
use Rattle.command_endings.proofs.CreatingLemmas.{leaves_creating, over_created, over_refused}
use Rattle.planning_commands.specs.Best.{range_in}
use Rattle.planning_commands.specs.Check.{judged_table, node_lines, pins_line}
use Rattle.planning_commands.specs.Plan.{HasSearched, LeavesPinned, LeavesSearched, PinnedBy, PinnedOf, PrintsSearched, ReportsOutcome, answer_status, search_text}
use Rattle.planning_commands.specs.Nodes.{SpellsNode}
use Rattle.planning_commands.specs.Reading.{HoldsRecipe, LacksRecipe, RecipeEnds}
use Rattle.planning_commands.proofs.CheckLemmas.{says_by_chunks}
use Rattle.planning_commands.proofs.RelaxLemmas.{same_parts}
use Rattle.planning_commands.proofs.ShortCertificates.{certificate_short}

-- no answer is a refusal
pub not_refused : (answer : Answer) (status : Status) → status ≡ answer_status answer → (number : ℕ) → status ≢ ended.Refused number
not_refused Optimal status is number = λ refused. cc (is, refused)
not_refused Infeasible status is number = λ refused. cc (is, refused)
not_refused Open status is number = λ refused. cc (is, refused)

-- an unfinished search had fewer branchings than decide every file
few_spent : (table : TableValue) (range : Range) (budget : ℕ) (root : Node) (tree : Tree) (answer : Answer) (plan : Option Claimed) (bound : Option ℕ) → answer_status answer ≡ ended.Unfinished
    → Concludes table range budget root tree answer plan bound → budget + 1 < 2 ^ free_files table.files root
few_spent table range budget root tree Optimal plan bound is c = cc is
few_spent table range budget root tree Infeasible plan bound is c = cc is
few_spent table range budget root tree Open plan None is c = absurd c
few_spent table range budget root tree Open plan (Some bound) is c = c.1

-- pins are named by their texts
root_same : TextsName → (files : ℕ) (pins : Option Node) → IfSome pins (IsNode files) → root_of files (named_pins pins) ≡ search_root files pins
root_same names files None node = refl
root_same names files (Some pins) node =
    let inside : set_named files (set_text pins.inside) ≡ pins.inside = subst (λ n. set_named n (set_text pins.inside) ≡ pins.inside) node.inside (names pins.inside) in
    let outside : set_named files (set_text pins.outside) ≡ pins.outside = subst (λ n. set_named n (set_text pins.outside) ≡ pins.outside) node.outside (names pins.outside) in
    same_parts _ pins inside outside

-- and printed so
pins_same : (pins : Option Node) → node_lines pins ≡ pins_line (named_pins pins)
pins_same None = refl
pins_same (Some pins) = refl

-- a set is the one of so many files that its text names
named_plan : OneSpelling → (files : ℕ) (plan : Option (List Bool)) (word : List ℕ) → IfSome plan (λ set. length set ≡ files) → option_map set_text plan ≡ Some word → IsSetOf files word
    → plan ≡ Some (set_named files word)
named_plan one_spelling files None word width is set = cc is
named_plan one_spelling files (Some plan) word width is set =
    let spelled : set_text plan ≡ word = cc is in
    let named = length-map-range_with_len (has_file (result_unwrap_or (decode_of word) [])) 0 files in
    ap Some (one_spelling plan (set_named files word) (width ∙ sym named) (spelled ∙ set))

-- the plan of an outcome is that of its certificate
plan_same : OneSpelling → (table : TableValue) (range : Range) (root : Node) (outcome : Outcome) (plan : Option Claimed) → IfSome plan (IsClaim table range root) → SaysPlan outcome plan
    → IfSome outcome.plan (λ set. length set ≡ table.files)
    → (outcome.plan ≡ plan_named table.files plan) × (outcome.migrated ≡ migrated_by plan) × (outcome.replicated ≡ replicated_by plan)
plan_same one_spelling table range root outcome None claim says width = (says.0, says.1, says.2)
plan_same one_spelling table range root outcome (Some claimed) claim says width = (named_plan one_spelling table.files outcome.plan claimed.set width says.0 claim.set, says.1, says.2)

-- a whole certificate is a front of one
pub whole_front : (table : TableValue) (range : Range) (pins : Option Node) (budget : ℕ) (old now : Option (List ℕ)) (outcome : Outcome) → IsPlanned table range pins budget now outcome
    → LeavesFront table range pins budget old now
whole_front table range pins budget old None outcome planned = cc planned.held
whole_front table range pins budget old (Some bytes) outcome planned =
    let is : bytes ≡ planned.bytes = cc planned.held in
    inr (record { rest = []; whole = subst (IsSearchText table range pins budget) (sym (append-nil bytes ∙ is)) planned.text })

-- the pins of a call
pub pins_of : (pins : Option (Bor Node)) → option_map (λ node. node.now) pins ≡ pinned_node pins
pins_of None = refl
pins_of (Some pins) = refl

-- what holds of a search over a recipe with these pins
module _ (sound : ValidIsSo) (short : LinesAreShort) (sums : KeepsSums) (names : TextsName) (one_spelling : OneSpelling) (recipe : RecipeValue) (lawful : IsTable (judged_table recipe)) (range : Range) (pins : Option Node)
    (node : IfSome pins (IsNode (length recipe.files))) (budget : ℕ) (few_given : budget ≤ 65535) where
  -- what the certificate says is so of the recipe's chunks
  says_so : (heading : Heading) (nodes : List NodeLine) → IsSearched (judged_table recipe) range pins budget heading nodes
      → Says (table_of recipe) range (search_root (length recipe.files) pins) heading.answer (plan_named (length recipe.files) heading.plan) heading.bound
  says_so heading nodes searched =
      let files : ℕ = length recipe.files in
      let plan = plan_named files heading.plan in
      let first = sound (judged_table recipe) heading nodes lawful searched.valid in
      let second = subst (λ (r : Range). Says (judged_table recipe) r (root_of files heading.pins) heading.answer plan heading.bound) searched.same_range first in
      let third = subst (λ (p : Option Pins). Says (judged_table recipe) range (root_of files p) heading.answer plan heading.bound) searched.same_pins second in
      let fourth = subst (λ (r : Node). Says (judged_table recipe) range r heading.answer plan heading.bound) (root_same names files pins node) third in
      says_by_chunks sums (table_of recipe) range (search_root files pins) heading.answer plan heading.bound fourth

  pub searched_whole : (heading : Heading) (nodes : List NodeLine) (now : Option (List ℕ)) (status : Status) (text : List ℕ) → now ≡ Some (document_text heading nodes) → IsDocument heading nodes
      → IsSearched (judged_table recipe) range pins budget heading nodes → status ≡ answer_status heading.answer → text ≡ search_text recipe heading nodes
      → PrintsSearched recipe range pins budget status text now
  searched_whole heading nodes now status text held document searched answers prints = record {
    heading = heading;
    nodes = nodes;
    held = held;
    document = document;
    searched = searched;
    short = certificate_short short (judged_table recipe) heading nodes document searched.valid (omega (arith, searched.within, few_given));
    says = says_so heading nodes searched;
    few = λ unfinished. few_spent (judged_table recipe) range budget (search_root (length recipe.files) pins) searched.valid.tree heading.answer heading.plan heading.bound (sym answers ∙ unfinished) searched.concludes;
    answers = answers;
    prints = prints;
  }

  -- what is printed of an outcome is what its certificate shows
  searched_outcome : (outcome : Outcome) (status : Status) (text bytes : List ℕ) (is : IsSearchText (judged_table recipe) range pins budget bytes) → IsOutcomeOf is.heading is.nodes outcome
      → IfSome outcome.plan (λ set. length set ≡ length recipe.files) → ReportsOutcome recipe pins outcome status text → PrintsSearched recipe range pins budget status text (Some bytes)
  searched_outcome outcome status text bytes is says width reports =
      let heading = is.heading in
      let searched = is.searched in
      let plans = plan_same one_spelling (judged_table recipe) heading.range (root_of (length recipe.files) heading.pins) outcome heading.plan searched.valid.plan says.plan width in
      let shown : node_lines pins ≡ pins_line heading.pins = pins_same pins ∙ ap pins_line (sym searched.same_pins) in
      searched_whole heading is.nodes (Some bytes) status text (ap Some is.text_is) is.document searched (reports.answers ∙ ap answer_status says.answer)
      (reports.prints ∙ rw (shown, says.answer, plans.0, plans.1, plans.2, says.bound, says.branchings) refl)

  pub has_searched : (tells : Bool) (outcome : Outcome) (status : Status) (text : List ℕ) (now : Option (List ℕ)) → IsSaid (judged_table recipe) range pins budget outcome
      → (tells ≡ true → IsPlanned (judged_table recipe) range pins budget now outcome) → IfSome outcome.plan (λ set. length set ≡ length recipe.files) → ReportsOutcome recipe pins outcome status text
      → HasSearched tells recipe range pins budget status text now
  has_searched true outcome status text now said planned width reports =
      let p = planned refl in
      record { whole = p.bytes; searched = searched_outcome outcome status text p.bytes p.text p.outcome_of width reports; held = λ told. p.held }
  has_searched false outcome status text now said planned width reports =
      record { whole = said.bytes; searched = searched_outcome outcome status text said.bytes said.text said.outcome_of width reports; held = λ told. cc told }

  -- a front of a certificate stands behind the name, or what stood there
  pub front_searched : (old now : Option (List ℕ)) → LeavesFront (judged_table recipe) range pins budget old now → LeavesSearched recipe range pins budget old now
  front_searched old None before = inl (sym before)
  front_searched old (Some bytes) (inl before) = inl (sym before)
  front_searched old (Some bytes) (inr front) =
      let whole = front.whole in
      let status : Status = answer_status whole.heading.answer in
      let text : List ℕ = search_text recipe whole.heading whole.nodes in
      let all : List ℕ = bytes ++ front.rest in
      inr (record {
        status = status;
        text = text;
        whole = all;
        searched = searched_whole whole.heading whole.nodes (Some all) status text (ap Some whole.text_is) whole.document whole.searched refl refl;
        count = length bytes;
        front = ap Some (sym (take-append_seam bytes front.rest));
      })

-- how a command ends that searched over its recipe
module _ (recipe : RecipeValue) (range : Range) (pins : Option Node) (budget : ℕ) (Rest : Status → List ℕ → Option (List ℕ) → RecipeValue → Type 0)
    (into : (status : Status) (text : List ℕ) (now : Option (List ℕ)) → PrintsSearched recipe range pins budget status text now → Rest status text now recipe) (old mid new : Told) (name document : List ℕ) where
  ended_over : (tells : Bool) (status : Status) (text : List ℕ) (now : Option (List ℕ)) → Over tells old (λ given. HoldsRecipe given name recipe) → PrintsSearched recipe range pins budget status text now
      → Over tells old (λ given. RecipeEnds given name status text (Rest status text now))
  ended_over tells status text now over searched =
      record { given = over.given; told = over.told; holds = inr (record { recipe = recipe; held = over.holds; rest = into status text now searched }) }

  pub search_left : (tells : Bool) → mid ≡ old → Over tells old (λ given. HoldsRecipe given name recipe) → OthersStay mid new document
      → LeavesSearched recipe range pins budget (mid document) (new document)
      → LeavesOthers tells old new document (Creating document (λ given status text now. RecipeEnds given name status text (Rest status text now)))
  search_left tells same over others (inl is) =
      record { others = λ other apart. others other apart ∙ ap (λ (m : Told). m other) same; part = inl (is ∙ ap (λ (m : Told). m document) same) }
  search_left tells same over others (inr front) =
      leaves_creating (λ given status text now. RecipeEnds given name status text (Rest status text now)) tells old mid new document front.whole front.status front.text same others
      (inr (front.count, front.front)) (not_refused front.searched.heading.answer front.status front.searched.answers)
      (ended_over tells front.status front.text (Some front.whole) over front.searched)

  pub search_ends : (tells : Bool) (status : Status) (text : List ℕ) → mid ≡ old → Over tells old (λ given. HoldsRecipe given name recipe) → (tells ≡ true → OthersStay mid new document)
      → HasSearched tells recipe range pins budget status text (new document)
      → ShelfEnds tells old new (Creating document (λ given status text now. RecipeEnds given name status text (Rest status text now))) status text
  search_ends tells status text same over others has =
      over_created (λ given status text now. RecipeEnds given name status text (Rest status text now)) tells old mid new document has.whole status text same others has.held
      (not_refused has.searched.heading.answer status has.searched.answers) (ended_over tells status text (Some has.whole) over has.searched)

-- a command that got no recipe
pub lacking_ends : (Rest : Status → List ℕ → Option (List ℕ) → RecipeValue → Type 0) (tells : Bool) (old new : Told) (name document : List ℕ) (status : Status) (text : List ℕ) → new ≡ old
    → Over tells old (λ given. LacksRecipe given name status text)
    → ShelfEnds tells old new (Creating document (λ given status text now. RecipeEnds given name status text (Rest status text now))) status text
lacking_ends Rest tells old new name document status text same over =
    over_refused (λ given status text now. RecipeEnds given name status text (Rest status text now)) tells old new document status text same
    (record { given = over.given; told = over.told; holds = inl over.holds })

-- `pinned`
module _ (recipe : RecipeValue) (target slack : Amount) (budget : ℕ) (go stay : List ℕ) (old mid new : Told) (name document : List ℕ) (same : mid ≡ old) where
  searched_pins : (pins : Node) → SpellsNode (length recipe.files) go stay pins → (status : Status) (text : List ℕ) (now : Option (List ℕ))
      → PrintsSearched recipe (range_in recipe target slack) (Some pins) budget status text now → PinnedOf target slack budget go stay status text now recipe
  searched_pins pins spells status text now searched = inr (record { pins = pins; spells = spells; searched = searched })

  pub pinned_ends : (tells : Bool) (status : Status) (text : List ℕ) → Over tells old (λ given. HoldsRecipe given name recipe) → (tells ≡ true → OthersStay mid new document)
      → PinnedBy tells mid new document recipe (range_in recipe target slack) budget go stay status text
      → ShelfEnds tells old new (Creating document (λ given status text now. RecipeEnds given name status text (PinnedOf target slack budget go stay status text now))) status text
  pinned_ends tells status text over others (inl refused) =
      over_refused (λ given status text now. RecipeEnds given name status text (PinnedOf target slack budget go stay status text now)) tells old new document status text (refused.1 ∙ same)
      (record { given = over.given; told = over.told; holds = inr (record { recipe = recipe; held = over.holds; rest = inl refused.0 }) })
  pinned_ends tells status text over others (inr s) =
      search_ends recipe (range_in recipe target slack) (Some s.pins) budget (PinnedOf target slack budget go stay) (searched_pins s.pins s.spells) old mid new name document tells status text same over others s.searched

  pub pinned_left : (tells : Bool) → Over tells old (λ given. HoldsRecipe given name recipe) → OthersStay mid new document
      → LeavesPinned recipe (range_in recipe target slack) budget go stay (mid document) (new document)
      → LeavesOthers tells old new document (Creating document (λ given status text now. RecipeEnds given name status text (PinnedOf target slack budget go stay status text now)))
  pinned_left tells over others (inl is) =
      record { others = λ other apart. others other apart ∙ ap (λ (m : Told). m other) same; part = inl (is ∙ ap (λ (m : Told). m document) same) }
  pinned_left tells over others (inr front) =
      search_left recipe (range_in recipe target slack) (Some front.pins) budget (PinnedOf target slack budget go stay) (searched_pins front.pins front.spells) old mid new name document tells same over others front.left
