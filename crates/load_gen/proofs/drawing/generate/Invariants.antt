use Rattle.std.proofs.Common.{◌≡◌, ◌+◌, ◌*◌}
use Rattle.load_gen.specs.Draws.{number_drawn, recipe_drawn}
use Rattle.load_gen.proofs.drawing.generate.Given as goal

abbrev pub invariant-loop-file : goal.invariant-loop-file
invariant-loop-file l = (l.state ≡ number_drawn l.number (4 * l.file)) × (l.recipe ≡ recipe_drawn l.number l.files (4 * l.file))

abbrev pub invariant-loop-draw : goal.invariant-loop-draw
invariant-loop-draw l = (l.state ≡ number_drawn l.number (4 * l.file + l._draw)) × (l.recipe ≡ recipe_drawn l.number l.files (4 * l.file + l._draw))
