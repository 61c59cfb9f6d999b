-- `carry`: what two carryings of one plan print is one.
use Rattle.std.proofs.Common.{◌≡◌, ◌∙◌, ◌++◌, ◌<◌, ℕ, List, Bool, Option, Some, None, sym, ap, subst, length, arith}
use Rattle.std.specs.Prelude.{IfSome, count_by}
use Rattle.seed_model.specs.declared.node.Node.{Node}
use Rattle.seed_model.specs.declared.range.Range.{Range}
use Rattle.seed_model.specs.Files.{holds}
use Rattle.seed_model.specs.Sums.{migrated_of, replicated_of}
use Rattle.seed_model.specs.Tables.{TableValue}
use Rattle.seed_text.specs.SetTexts.{set_text}
use Rattle.bound_cert.specs.declared.heading.Answer.{Answer}
use Rattle.bound_cert.specs.declared.heading.Answer.TheVariants.{Optimal}
use Rattle.bound_cert.specs.declared.heading.Claimed.{Claimed}
use Rattle.bound_cert.specs.declared.heading.Heading.{Heading}
use Rattle.bound_cert.specs.declared.heading.Pins.{Pins}
use Rattle.bound_cert.specs.declared.node_line.NodeLine.{NodeLine}
use Rattle.bound_cert.specs.Laws.{plan_named}
use Rattle.bound_cert.specs.Sets.{root_of, set_named}
use Rattle.bound_cert.specs.Trees.{is_branch}
use Rattle.bound_cert.specs.Valid.{Agrees, IsClaim}
use Rattle.branch_bound.specs.Outcomes.{named_pins}
use Rattle.cert_check.specs.Checking.{migrated_by, replicated_by}
use Rattle.recipe_reader.specs.Recipes.{RecipeValue}
use Rattle.recipe_order.specs.Pins.{PinsExactly}
use Rattle.command_texts.specs.declared.status.Status.{Status}
use Rattle.command_endings.proofs.DeterminedLemmas.{IsSame}
use Rattle.planning_commands.specs.Check.{judged_table, pins_line}
use Rattle.planning_commands.specs.Plan.{search_text}
use Rattle.planning_commands.specs.Texts.{answer_lines}
use Rattle.order_commands.specs.Carry.{CarriesPlan, PrintsCarried}
use Rattle.order_commands.proofs.BestCarried.{done_is}
use Rattle.order_commands.proofs.CarryLemmas.{same_flags}

-- one set has the names of a plan
one_set : (first second : RecipeValue) (plan set other : List Bool) (pins node : Node) → CarriesPlan first second plan set pins → CarriesPlan first second plan other node → set ≡ other
one_set first second plan set other pins node p q =
    let width = p.files in
    same_flags set other (p.files ∙ sym q.files) (λ file l. let below : file < length second.files = omega (arith, l, width) in p.carried file below ∙ sym (q.carried file below))

-- and one node pins it
one_node : (set : List Bool) (pins node : Node) → PinsExactly set pins → PinsExactly set node → pins ≡ node
one_node set pins node p q =
    let inside : pins.inside ≡ node.inside = p.inside ∙ sym q.inside in
    let width = p.files in
    let outside = same_flags pins.outside node.outside (p.files ∙ sym q.files) (λ file l. let below : file < length set = omega (arith, l, width) in p.outside file below ∙ sym (q.outside file below)) in
    ap (λ (i : List Bool). record { inside = i; outside = pins.outside }) inside ∙ ap (λ (o : List Bool). record { inside = node.inside; outside = o }) outside

-- a set is claimed in one way
one_claim : (table : TableValue) (range bounds : Range) (root node : Node) (set : List Bool) (a b : Claimed) → IsClaim table range root a → IsClaim table bounds node b → set_named table.files a.set ≡ set
    → set_named table.files b.set ≡ set → a ≡ b
one_claim table range bounds root node set a b p q a_is b_is =
    let words : a.set ≡ b.set = p.set ∙ (ap set_text (a_is ∙ sym b_is) ∙ sym q.set) in
    let migrated : a.migrated ≡ b.migrated = p.migrated ∙ (ap (λ (s : List Bool). migrated_of (holds s) table) (a_is ∙ sym b_is) ∙ sym q.migrated) in
    let replicated : a.replicated ≡ b.replicated = p.replicated ∙ (ap (λ (s : List Bool). replicated_of (holds s) table) (a_is ∙ sym b_is) ∙ sym q.replicated) in
    ap (λ (w : List ℕ). record { set = w; migrated = a.migrated; replicated = a.replicated }) words
    ∙ (ap (λ (m : ℕ). record { set = b.set; migrated = m; replicated = a.replicated }) migrated ∙ ap (λ (r : ℕ). record { set = b.set; migrated = b.migrated; replicated = r }) replicated)

one_plan : (table : TableValue) (range bounds : Range) (root node : Node) (set : List Bool) (a b : Option Claimed) → IfSome a (IsClaim table range root) → IfSome b (IsClaim table bounds node)
    → plan_named table.files a ≡ Some set → plan_named table.files b ≡ Some set → a ≡ b
one_plan table range bounds root node set None b p q a_is b_is = cc a_is
one_plan table range bounds root node set (Some a) None p q a_is b_is = cc b_is
one_plan table range bounds root node set (Some a) (Some b) p q a_is b_is = ap Some (one_claim table range bounds root node set a b p q (cc a_is) (cc b_is))

-- a best plan has one bound
one_bound : (plan : Option Claimed) (bound least : Option ℕ) → Agrees Optimal plan bound → Agrees Optimal plan least → bound ≡ least
one_bound None bound least p q = absurd p
one_bound (Some plan) None least p q = absurd p
one_bound (Some plan) (Some bound) None p q = absurd q
one_bound (Some plan) (Some bound) (Some least) p q = ap Some (p ∙ sym q)

-- what is printed is made of these
one_text : (recipe : RecipeValue) (h k : Heading) (nodes lines : List NodeLine) → h.pins ≡ k.pins → h.answer ≡ k.answer → h.plan ≡ k.plan → h.bound ≡ k.bound → count_by is_branch nodes ≡ count_by is_branch lines
    → search_text recipe h nodes ≡ search_text recipe k lines
one_text recipe h k nodes lines pins answer plan bound count =
    let said : Option Pins → Answer → Option Claimed → Option ℕ → ℕ → List ℕ =
    λ p a c b n. pins_line p ++ answer_lines recipe.files a (plan_named (length recipe.files) c) (migrated_by c) (replicated_by c) b n in
    ap (λ (p : Option Pins). said p h.answer h.plan h.bound (count_by is_branch nodes)) pins
    ∙ (ap (λ (a : Answer). said k.pins a h.plan h.bound (count_by is_branch nodes)) answer
    ∙ (ap (λ (c : Option Claimed). said k.pins k.answer c h.bound (count_by is_branch nodes)) plan
    ∙ (ap (λ (b : Option ℕ). said k.pins k.answer k.plan b (count_by is_branch nodes)) bound
    ∙ ap (λ (n : ℕ). said k.pins k.answer k.plan k.bound n) count)))

pub same_carried : (first second : RecipeValue) (range : Range) (plan : List Bool) (one other : Status) (text told : List ℕ) (now kept : Option (List ℕ)) → PrintsCarried first second range plan one text now
    → PrintsCarried first second range plan other told kept → IsSame one other text told
same_carried first second range plan one other text told now kept p q =
    let a = p.searched in
    let b = q.searched in
    let sets = one_set first second plan p.set q.set p.pins q.pins p.carries q.carries in
    let nodes = one_node q.set p.pins q.pins (subst (λ (s : List Bool). PinsExactly s p.pins) sets p.carries.pinned) q.carries.pinned in
    let pins = a.searched.same_pins ∙ (ap (λ (n : Node). named_pins (Some n)) nodes ∙ sym b.searched.same_pins) in
    let best = done_is a.heading.answer one a.answers p.answers in
    let also = done_is b.heading.answer other b.answers q.answers in
    let plans = one_plan (judged_table second) a.heading.range b.heading.range (root_of (length second.files) a.heading.pins) (root_of (length second.files) b.heading.pins) q.set a.heading.plan b.heading.plan
    a.searched.valid.plan b.searched.valid.plan (p.plan_is ∙ ap Some sets) q.plan_is in
    let agrees = subst (λ (c : Option Claimed). Agrees Optimal c a.heading.bound) plans (subst (λ (w : Answer). Agrees w a.heading.plan a.heading.bound) best a.searched.valid.agrees) in
    let agree = subst (λ (w : Answer). Agrees w b.heading.plan b.heading.bound) also b.searched.valid.agrees in
    let bounds = one_bound b.heading.plan a.heading.bound b.heading.bound agrees agree in
    let few = a.searched.within in
    let none = b.searched.within in
    let count : count_by is_branch a.nodes ≡ count_by is_branch b.nodes = omega (arith, few, none) in
    (p.answers ∙ sym q.answers, a.prints ∙ (one_text second a.heading b.heading a.nodes b.nodes pins (best ∙ sym also) plans bounds count ∙ sym b.prints))
