use Rattle.std.proofs.Common.{ℕ, ◌-◌, take, drop, ◌∙◌, ap, sym, subst}
use Rattle.device_pieces.specs.Pieces.{Shows, stands_in}
use Rattle.device_pieces.proofs.Shown.{gives_part, shows_next}
use Rattle.device_pieces.proofs.piece.Piece.read.Goals as goal

pub returns-then-has-clause-bytes : goal.returns-then-has-clause-bytes
returns-then-has-clause-bytes g c = λ honest shows.
    let piece = c.args.self.now in
    let image = (g.R.Rack.disk c.args.rack.now piece.device).image in
    let width = c.copy_from.ensures.width in
    let inside = ap (stands_in piece c.args.at) width ∙ sym c.has.ensures ∙ c.if-has.true in
    let is = c.copy_from.ensures.bytes ∙ ap (λ (k : ℕ). take k (drop (c.args.at - piece.at) piece.bytes)) (sym width) in
    gives_part image c.copy_from.new.into piece c.args.at c.copy_from.result shows inside is (c.copy_from.ensures.count ∙ sym width)

pub returns-clause-shows : goal.returns-clause-shows
returns-clause-shows g c = λ honest shows.
    let piece = c.args.self.now in
    let image = (g.R.Rack.disk c.args.rack.now piece.device).image in
    subst (Shows image) (sym (c.in_ok-fill.ensures.piece honest)) (shows_next image piece.device piece.width c.args.at)
