-- `carry`: a certificate by which every file is pinned has the pinned set as its plan, and what is left.
use Rattle.std.proofs.Common.{◌≡◌, ◌∙◌, ◌+◌, ◌∷◌, [], ◌<◌, ◌^◌, arith, ℕ, zero, suc, List, Bool, true, false, Option, Some, None, refl, sym, ap, subst, inl, inr, length, if◌then◌else◌}
use Rattle.std.specs.Prelude.{◌&&◌, not, IfSome}
use Rattle.std.specs.Result.{result_unwrap_or}
use Rattle.std.proofs.lemmas.List.FromFn.{length-map-range_with_len}
use Rattle.hex.specs.Hex.{decode_of}
use Rattle.incidence.proofs.ChunkTables.{is_table}
use Rattle.seed_model.specs.declared.node.Node.{Node}
use Rattle.seed_model.specs.declared.range.Range.{Range}
use Rattle.seed_model.specs.Files.{holds}
use Rattle.seed_model.specs.Nodes.{IsAdmitted, IsMember, IsNode, is_free}
use Rattle.seed_model.specs.Ranges.{InRange}
use Rattle.seed_model.proofs.ClassSums.{files_alone}
use Rattle.seed_text.specs.SetTexts.{has_file}
use Rattle.bound_cert.specs.declared.heading.Answer.{Answer}
use Rattle.bound_cert.specs.declared.heading.Answer.TheVariants.{Optimal, Infeasible, Open}
use Rattle.bound_cert.specs.declared.heading.Claimed.{Claimed}
use Rattle.bound_cert.specs.Laws.{Says, plan_named}
use Rattle.branch_bound.specs.Outcomes.{free_files}
use Rattle.recipe_reader.specs.Lawful.{IsRecipe}
use Rattle.recipe_reader.specs.Recipes.{RecipeValue, table_of}
use Rattle.recipe_order.specs.Laws.{CarriesRange}
use Rattle.recipe_order.specs.Pins.{HasOneMember, PinsExactly}
use Rattle.recipe_order.specs.Reordered.{carried_set}
use Rattle.command_texts.specs.declared.status.Status.{Status}
use Rattle.command_texts.specs.declared.status.Status.TheVariants as ended
use Rattle.planning_commands.specs.Plan.{HasSearched, LeavesSearched, PrintsSearched, answer_status}
use Rattle.order_commands.specs.Carry.{CarriesPlan, HasCarried, IsPinned, LeavesCarried, PrintsCarried}

-- sets of as many files are one where they agree in each
pub same_flags : (one other : List Bool) → length one ≡ length other → ((file : ℕ) → file < length one → holds one file ≡ holds other file) → one ≡ other
same_flags [] [] e h = refl
same_flags [] (b ∷ other) e h = absurd (omega (arith, e))
same_flags (a ∷ one) [] e h = absurd (omega (arith, e))
same_flags (a ∷ one) (b ∷ other) e h =
    let head : a ≡ b = h 0 (omega arith) in
    let tail = same_flags one other (omega (arith, e)) (λ file l. h (suc file) (omega (arith, l))) in
    cc (head, tail)

-- a node that leaves no file undecided
none_free : (files : ℕ) (node : Node) → ((file : ℕ) → file < files → is_free node file ≡ false) → free_files files node ≡ 0
none_free zero node none = refl
none_free (suc n) node none =
    let last : free_files (suc n) node ≡ free_files n node + 0 = ap (λ (b : Bool). free_files n node + (if b then 1 else 0)) (none n (omega arith)) in
    let before = none_free n node (λ file l. none file (omega (arith, l))) in
    omega (arith, last, before)

neither : (b : Bool) → not b && not (not b) ≡ false
neither true = refl
neither false = refl

decided : (set : List Bool) (node : Node) → PinsExactly set node → (file : ℕ) → file < length set → is_free node file ≡ false
decided set node pins file l =
    let inside : holds node.inside file ≡ holds set file = ap (λ (s : List Bool). holds s file) pins.inside in
    ap (λ (b : Bool). not b && not (holds node.outside file)) inside ∙ (ap (λ (b : Bool). not (holds set file) && not b) (pins.outside file l) ∙ neither (holds set file))

-- a named set has all files
named_width : (files : ℕ) (plan : Option Claimed) → IfSome (plan_named files plan) (λ set. length set ≡ files)
named_width files None = tt
named_width files (Some claimed) = length-map-range_with_len (has_file (result_unwrap_or (decode_of claimed.set) [])) 0 files

-- the set of the second recipe is in range where the plan of the first one is
pub set_within : CarriesRange → (first second : RecipeValue) (range : Range) (plan set : List Bool) (pins : Node) → IsRecipe first → IsRecipe second → CarriesPlan first second plan set pins
    → InRange (table_of first) range (holds plan) → InRange (table_of second) range (holds set)
set_within carries first second range plan set pins one two c within =
    let far = (carries first second range (holds plan) (record { first = one; second = two; reordered = c.same })).0 within in
    let same = (files_alone (table_of second) (holds set) (carried_set first second (holds plan)) (is_table second two) c.carried).0 in
    let enough = far.enough in
    let no_more = far.no_more in
    record { enough = omega (arith, same, enough); no_more = omega (arith, same, no_more) }

-- the pins are a node of the recipe's files
pub pins_node : HasOneMember → (first second : RecipeValue) (plan : List Bool) (pins : Node) → IsPinned first second plan pins → IsNode (length second.files) pins
pins_node one first second plan pins is = subst (λ n. IsNode n pins) is.carries.files (one is.set pins is.carries.pinned).0

-- a search with such pins and no branching
module _ (one : HasOneMember) (recipe : RecipeValue) (range : Range) (set : List Bool) (pins : Node) (exactly : PinsExactly set pins) (width : length set ≡ length recipe.files)
    (within : InRange (table_of recipe) range (holds set)) where
  admitted : IsAdmitted (table_of recipe) range pins (holds set)
  admitted = record { member = subst (λ n. IsMember n pins (holds set)) width (((one set pins exactly).1 (holds set)).1 (λ file l. refl)); in_range = within }

  shows_set : (answer : Answer) (status : Status) (plan : Option (List Bool)) (bound : Option ℕ) → Says (table_of recipe) range pins answer plan bound → IfSome plan (λ p. length p ≡ length recipe.files)
      → status ≡ answer_status answer → (status ≡ ended.Unfinished → 1 < 2 ^ free_files (length recipe.files) pins) → (status ≡ ended.Done) × (plan ≡ Some set)
  shows_set Optimal status (Some p) bound says files answers few =
      let agrees = ((one set pins exactly).1 (holds p)).0 (subst (λ n. IsMember n pins (holds p)) (sym width) says.admitted.member) in
      (answers, ap Some (same_flags p set (files ∙ sym width) (λ file l. agrees file (omega (arith, l, files, width)))))
  shows_set Optimal status None bound says files answers few = absurd says
  shows_set Infeasible status plan bound says files answers few = absurd (says (holds set) admitted)
  shows_set Open status plan bound says files answers few =
      let none : free_files (length recipe.files) pins ≡ 0 = subst (λ n. free_files n pins ≡ 0) width (none_free (length set) pins (decided set pins exactly)) in
      let less : 1 < 2 ^ 0 = subst (λ n. 1 < 2 ^ n) none (few answers) in
      absurd (omega (arith, less))

  pub prints_carried : (first : RecipeValue) (plan : List Bool) (status : Status) (text : List ℕ) (now : Option (List ℕ)) → CarriesPlan first recipe plan set pins
      → PrintsSearched recipe range (Some pins) 0 status text now → PrintsCarried first recipe range plan status text now
  prints_carried first plan status text now carries searched =
      let heading = searched.heading in
      let shown = shows_set heading.answer status (plan_named (length recipe.files) heading.plan) heading.bound searched.says (named_width (length recipe.files) heading.plan) searched.answers searched.few in
      record { set = set; pins = pins; carries = carries; searched = searched; answers = shown.0; plan_is = shown.1 }

-- what such a search leaves and prints
module _ (one : HasOneMember) (in_both : CarriesRange) (first second : RecipeValue) (range : Range) (plan : List Bool) (pins : Node) (first_is : IsRecipe first) (second_is : IsRecipe second)
    (within : InRange (table_of first) range (holds plan)) (is : IsPinned first second plan pins) where
  printed : (status : Status) (text : List ℕ) (now : Option (List ℕ)) → PrintsSearched second range (Some pins) 0 status text now → PrintsCarried first second range plan status text now
  printed status text now searched =
      prints_carried one second range is.set pins is.carries.pinned is.carries.files (set_within in_both first second range plan is.set pins first_is second_is is.carries within) first plan status text now is.carries searched

  pub has_carried : (tells : Bool) (status : Status) (text : List ℕ) (now : Option (List ℕ)) → HasSearched tells second range (Some pins) 0 status text now
      → HasCarried tells first second range plan status text now
  has_carried tells status text now has = record { whole = has.whole; printed = printed status text (Some has.whole) has.searched; held = has.held }

  pub left_carried : (old now : Option (List ℕ)) → LeavesSearched second range (Some pins) 0 old now → LeavesCarried first second range plan old now
  left_carried old now (inl same) = inl same
  left_carried old now (inr front) =
      inr (record { status = front.status; text = front.text; whole = front.whole; printed = printed front.status front.text (Some front.whole) front.searched; count = front.count; front = front.front })
