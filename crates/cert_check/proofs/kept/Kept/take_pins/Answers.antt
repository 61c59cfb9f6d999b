use Rattle.cert_check.proofs.Keepings.{pins_take, as_said}
use Rattle.cert_check.proofs.kept.Kept.take_pins.Goals as goal

pub returns : goal.returns
returns c = as_said _ _ _ _ _ _ _ c.here.ensures
    (pins_take c.args.table.now c.args.self.now c.pin-broken.new.self c.args.go.now c.args.stay.now c.args.next c.pin-broken.result c.requires.kept c.requires.placed
    c.pin-broken.ensures.judged c.pin-broken.ensures.root c.pin-broken.ensures.inside c.pin-broken.ensures.outside c.pin-broken.ensures.waiting)
