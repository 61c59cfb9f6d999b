-- `carry`: the sums of the set that is carried, and where it is best.
use Rattle.std.proofs.Common.{◌≡◌, ◌∙◌, ℕ, List, Bool, Option, Some, None, refl, sym, subst, length, arith}
use Rattle.seed_model.specs.declared.node.Node.{Node}
use Rattle.seed_model.specs.declared.range.Range.{Range}
use Rattle.seed_model.specs.Best.{IsBest}
use Rattle.seed_model.specs.Files.{holds}
use Rattle.seed_model.specs.Nodes.{IsBestAdmitted, undecided_node}
use Rattle.seed_model.specs.Ranges.{InRange}
use Rattle.seed_model.specs.Tables.{TableValue}
use Rattle.seed_model.proofs.ClassSums.{files_alone}
use Rattle.seed_model.proofs.NodeMembers.{undecided_admits}
use Rattle.bound_cert.specs.declared.heading.Answer.{Answer}
use Rattle.bound_cert.specs.declared.heading.Answer.TheVariants.{Optimal, Infeasible, Open}
use Rattle.bound_cert.specs.declared.heading.Heading.{Heading}
use Rattle.bound_cert.specs.declared.heading.Pins.{Pins}
use Rattle.bound_cert.specs.declared.node_line.NodeLine.{NodeLine}
use Rattle.bound_cert.specs.Laws.{Says, ValidIsSo, plan_named}
use Rattle.bound_cert.specs.Sets.{root_of}
use Rattle.bound_cert.specs.Valid.{IsValid}
use Rattle.chunk_merge.specs.Merged.{KeepsSums, KeepsTables}
use Rattle.incidence.proofs.ChunkTables.{is_table}
use Rattle.recipe_reader.specs.Recipes.{RecipeValue, table_of}
use Rattle.recipe_order.specs.Laws.{AreAlike, CarriesBest, CarriesSums, HaveSameSums}
use Rattle.recipe_order.specs.Reordered.{carried_set}
use Rattle.command_texts.specs.declared.status.Status.{Status}
use Rattle.command_texts.specs.declared.status.Status.TheVariants as ended
use Rattle.planning_commands.specs.Check.{judged_table}
use Rattle.planning_commands.specs.Plan.{answer_status}
use Rattle.planning_commands.proofs.CheckLemmas.{says_by_chunks}
use Rattle.order_commands.specs.Carry.{CarriesPlan, PrintsCarried}

-- a search that is done shows a best plan
pub done_is : (answer : Answer) (status : Status) → status ≡ answer_status answer → status ≡ ended.Done → answer ≡ Optimal
done_is Optimal status is done = refl
done_is Infeasible status is done = cc (is, done)
done_is Open status is done = cc (is, done)

-- so the set that is carried is in the range
pub carried_within : (first second : RecipeValue) (range : Range) (plan : List Bool) (status : Status) (text : List ℕ) (now : Option (List ℕ)) (p : PrintsCarried first second range plan status text now)
    → InRange (table_of second) range (holds p.set)
carried_within first second range plan status text now p =
    let heading = p.searched.heading in
    let shown = plan_named (length second.files) heading.plan in
    let says = subst (λ (a : Answer). Says (table_of second) range p.pins a shown heading.bound) (done_is heading.answer status p.searched.answers p.answers) p.searched.says in
    let best = subst (λ (s : Option (List Bool)). Says (table_of second) range p.pins Optimal s heading.bound) p.plan_is says in
    best.admitted.in_range

-- best among all sets that are admitted where no file is pinned, best among all
best_of_all : (table : TableValue) (range : Range) (set : ℕ → Bool) → IsBestAdmitted table range (undecided_node table.files) set → IsBest table range set
best_of_all table range set best = record {
  in_range = best.admitted.in_range;
  least = λ other inside. best.least other (record { member = (undecided_admits table.files).1 other; in_range = inside });
}

-- the plan of a valid certificate without pins that is said to be best is best among all sets
module _ (sound : ValidIsSo) (merging : KeepsSums) (tables : KeepsTables) (first second : RecipeValue) (alike : AreAlike first second) where
  said_best : (heading : Heading) (nodes : List NodeLine) (plan : List Bool) → IsValid (judged_table first) heading nodes → plan_named (length first.files) heading.plan ≡ Some plan
      → heading.answer ≡ Optimal → heading.pins ≡ None → IsBest (table_of first) heading.range (holds plan)
  said_best heading nodes plan valid plan_is optimal unpinned =
      let table = tables (table_of first) (is_table first alike.first) in
      let says = says_by_chunks merging (table_of first) heading.range (root_of (length first.files) heading.pins) heading.answer (plan_named (length first.files) heading.plan) heading.bound
      (sound (judged_table first) heading nodes table valid) in
      let by_answer = subst (λ (a : Answer). Says (table_of first) heading.range (root_of (length first.files) heading.pins) a (plan_named (length first.files) heading.plan) heading.bound) optimal says in
      let by_pins = subst (λ (p : Option Pins). Says (table_of first) heading.range (root_of (length first.files) p) Optimal (plan_named (length first.files) heading.plan) heading.bound) unpinned by_answer in
      best_of_all (table_of first) heading.range (holds plan)
      (subst (λ (p : Option (List Bool)). Says (table_of first) heading.range (undecided_node (length first.files)) Optimal p heading.bound) plan_is by_pins)

  module _ (plan set : List Bool) (pins : Node) (carries : CarriesPlan first second plan set pins) where
    same_as : HaveSameSums second second (carried_set first second (holds plan)) (holds set)
    same_as =
        let same = files_alone (table_of second) (holds set) (carried_set first second (holds plan)) (is_table second alike.second) carries.carried in
        record { migrated = sym same.0; touched = sym same.1; replicated = sym same.2 }

    pub carried_sums : CarriesSums → HaveSameSums first second (holds plan) (holds set)
    carried_sums far =
        let sums = far first second (holds plan) alike in
        record { migrated = sums.migrated ∙ same_as.migrated; touched = sums.touched ∙ same_as.touched; replicated = sums.replicated ∙ same_as.replicated }

    pub carried_best : CarriesBest → (heading : Heading) (nodes : List NodeLine) → IsValid (judged_table first) heading nodes → plan_named (length first.files) heading.plan ≡ Some plan
        → heading.answer ≡ Optimal → heading.pins ≡ None → IsBest (table_of second) heading.range (holds set)
    carried_best far heading nodes valid plan_is optimal unpinned =
        let best = (far first second heading.range (holds plan) alike).0 (said_best heading nodes plan valid plan_is optimal unpinned) in
        let enough = best.in_range.enough in
        let no_more = best.in_range.no_more in
        let migrated = same_as.migrated in
        let replicated = same_as.replicated in
        record {
          in_range = record { enough = omega (arith, migrated, enough); no_more = omega (arith, migrated, no_more) };
          least = λ other inside. let least = best.least other inside in omega (arith, replicated, least);
        }
