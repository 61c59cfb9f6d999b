use Rattle.std.proofs.Common.{◌∙◌, ap, subst}
use Rattle.std.proofs.lemmas.Result.{IfOk-weaker}
use Rattle.seed_model.specs.Best.{IsFirstBest, NoneInRange}
use Rattle.seed_model.specs.Sums.{bytes_where}
use Rattle.seed_model.specs.Tables.{TableValue}
use Rattle.recipe_reader.specs.Recipes.{table_of}
use Rattle.incidence.specs.Incidences.{IncidenceValue, chunk_table}
use Rattle.chunk_merge.specs.Merged.{merged}
use Rattle.planning_commands.proofs.merged_table.merged_table.Goals as goal

pub returns-clause-sums : goal.returns-clause-sums
returns-clause-sums c =
    let laws = c.merge_laws.ensures in
    let recipe = c.args.recipe.now in
    let same = ap (λ (i : IncidenceValue). merged (chunk_table i)) c.in_ok-incidence.ensures ∙ laws.recipes recipe c.requires in
    IfOk-weaker c.merge.result _ _ (λ table is test. ap (λ (t : TableValue). bytes_where test t.classes) (is ∙ same) ∙ laws.sums (table_of recipe) test) c.merge.ensures

pub returns-clause-best : goal.returns-clause-best
returns-clause-best c =
    let recipe = c.args.recipe.now in
    let same = ap (λ (i : IncidenceValue). merged (chunk_table i)) c.in_ok-incidence.ensures in
    IfOk-weaker c.merge.result _ _ (λ table is range set best.
    let P : TableValue → Type 0 = λ t. IsFirstBest t range set in
    (c.merge_laws.ensures.best recipe range set c.requires).0 (subst P (is ∙ same) best)) c.merge.ensures

pub returns-clause-none : goal.returns-clause-none
returns-clause-none c =
    let recipe = c.args.recipe.now in
    let same = ap (λ (i : IncidenceValue). merged (chunk_table i)) c.in_ok-incidence.ensures in
    IfOk-weaker c.merge.result _ _ (λ table is range none.
    let P : TableValue → Type 0 = λ t. NoneInRange t range in
    (c.merge_laws.ensures.none recipe range c.requires).0 (subst P (is ∙ same) none)) c.merge.ensures
