use Rattle.std.proofs.Common.{◌≡◌, ℕ, Ok, Err, ◌∙◌, ap, subst, arith}
use Rattle.chunk_volume.specs.Pieces.{ComparesTo}
use Rattle.chunk_volume.specs.VolumeValues.{VolumeValue}
use Rattle.chunk_volume.proofs.FoundBytes.{stored, held_found}
use Rattle.chunk_volume.proofs.volume.Volume.compare_held.Goals as goal

pub returns-in-Ok-clause-found : goal.returns-in-Ok-clause-found
returns-in-Ok-clause-found g c = λ place volume honest stands.
    let rack = g.R.Rack in
    let v = c.args.self.now in
    let d = rack.disk c.args.rack.now in
    let e = c.args.extent in
    let there : c.log.result.now.device ≡ v.log.device = c.log.ensures.device ∙ ap (λ (x : VolumeValue). x.log.device) c.self.view_is in
    let found = subst (λ (n : ℕ). ComparesTo (d n).image n e.at e.len c.args.bytes.now (Ok c.in-Ok.compared)) there (c.in-Ok.ensures.bytes honest) in
    held_found e.at e.len c.args.name.now c.args.bytes.now d v volume c.in-Ok.compared c.judged.result (stored place v d volume c.args.name.now e.at e.len stands c.requires.at c.requires.len) found.0 found.1 c.judged.ensures

pub returns-in-Err-Damage-clause-found : goal.returns-in-Err-Damage-clause-found
returns-in-Err-Damage-clause-found g c = λ place volume honest stands.
    let rack = g.R.Rack in
    let v = c.args.self.now in
    let d = rack.disk c.args.rack.now in
    let e = c.args.extent in
    let there : c.log.result.now.device ≡ v.log.device = c.log.ensures.device ∙ ap (λ (x : VolumeValue). x.log.device) c.self.view_is in
    let short = subst (λ (n : ℕ). ComparesTo (d n).image n e.at e.len c.args.bytes.now (Err c.in-Err-Damage.field-0)) there (c.in-Err-Damage.ensures.bytes honest) in
    let past = rw c.in-Err-Damage.field-0-is at short in
    let has = stored place v d volume c.args.name.now e.at e.len stands c.requires.at c.requires.len in
    omega (arith, past, has.inside)
