use Rattle.trial_commands.proofs.GenLemmas.{drawn_by}
use Rattle.trial_commands.proofs.drawing.read_drawn.Goals as goal

pub read_back-requires : goal.read_back-requires
read_back-requires c = rw c.deref.ensures.value (c.in_ok-text.ensures.reads_back.back, c.in_ok-text.ensures.reads_back.leads)

pub returns : goal.returns
returns c =
    drawn_by _ _ c.in_ok-made.made _ c.recipe_laws.ensures.one c.in_ok-made.ensures.recipe c.in_ok-text.ensures.text c.in_ok-text.ensures.reads_back (rw c.deref.ensures.value at c.in_ok-recipe.ensures)
