use Rattle.std.proofs.Common.{◌≡◌, true, false, Ok, Err, sym, ◌∙◌, ap}
use Rattle.chunk_log.specs.Frames.{FrameValue}
use Rattle.chunk_log.specs.LogValues.{LogValue}
use Rattle.chunk_volume.specs.declared.errors.VolError.TheVariants.{RackFault, DeviceFull}
use Rattle.chunk_volume.proofs.Appends.{appended_ok, appended_err, moved, alike}
use Rattle.chunk_volume.proofs.volume_log.VolumeLog.append.Goals as goal

pub returns-in-Ok-clause-appended : goal.returns-in-Ok-clause-appended
returns-in-Ok-clause-appended g c = λ honest.
    let rack = g.R.Rack in
    let inner = c.self.inside.log in
    let told = c.in-Ok.ensures.log in
    let fresh : c.self.inside.is_spent ≡ false = ap (λ (l : LogValue). l.spent) c.self.view_is ∙ c.requires.fresh in
    moved rack.disk rack.moment rack.left_since c.args.rack.now c.append.new.rack (rack.disk c.args.rack.now) (rack.disk c.append.new.rack) inner c.args.self.now c.append.new.self _ c.frame.result.now.body c.args.frame.now.body (Ok c.in-Ok.at)
    (alike inner c.self.inside.is_spent (told.0 ∙ sym fresh) ∙ c.self.view_is) (alike c.append.new.self c.self.inside.is_spent (ap (λ (l : LogValue). l.spent) told.3 ∙ told.0 ∙ sym fresh)) (ap (λ (f : FrameValue). f.body) c.frame.ensures)
    (appended_ok rack.disk rack.moment rack.left_since c.args.rack.now c.append.new.rack (rack.disk c.args.rack.now) (rack.disk c.append.new.rack) inner c.append.new.self c.frame.result.now.body c.in-Ok.at (c.in-Ok.ensures.appended honest))

pub returns-in-Err-DeviceFull-clause-appended : goal.returns-in-Err-DeviceFull-clause-appended
returns-in-Err-DeviceFull-clause-appended g c = λ honest.
    let rack = g.R.Rack in
    let inner = c.self.inside.log in
    let told = rw c.in-Err-DeviceFull.field-0-is at c.in-Err-DeviceFull.ensures.log in
    let fresh : c.self.inside.is_spent ≡ false = ap (λ (l : LogValue). l.spent) c.self.view_is ∙ c.requires.fresh in
    let error = DeviceFull c.in-Err-DeviceFull.device c.in-Err-DeviceFull.end c.in-Err-DeviceFull.len in
    moved rack.disk rack.moment rack.left_since c.args.rack.now c.append.new.rack (rack.disk c.args.rack.now) (rack.disk c.append.new.rack) inner c.args.self.now c.append.new.self _ c.frame.result.now.body c.args.frame.now.body (Err error)
    (alike inner c.self.inside.is_spent (told.0 ∙ sym fresh) ∙ c.self.view_is) (alike c.append.new.self c.self.inside.is_spent (ap (λ (l : LogValue). l.spent) told.5 ∙ told.0 ∙ sym fresh)) (ap (λ (f : FrameValue). f.body) c.frame.ensures)
    (appended_err rack.disk rack.moment rack.left_since c.args.rack.now c.append.new.rack (rack.disk c.args.rack.now) (rack.disk c.append.new.rack) inner c.append.new.self c.frame.result.now.body _ error (c.in-Err-DeviceFull.ensures.appended honest))

pub returns-in-Err-RackFault-clause-appended : goal.returns-in-Err-RackFault-clause-appended
returns-in-Err-RackFault-clause-appended g c = λ honest.
    let rack = g.R.Rack in
    let inner = c.self.inside.log in
    let told = rw c.in-Err-RackFault.field-0-is at c.in-Err-RackFault.ensures.log in
    let fresh : c.self.inside.is_spent ≡ false = ap (λ (l : LogValue). l.spent) c.self.view_is ∙ c.requires.fresh in
    moved rack.disk rack.moment rack.left_since c.args.rack.now c.append.new.rack (rack.disk c.args.rack.now) (rack.disk c.append.new.rack) inner c.args.self.now c.append.new.self _ c.frame.result.now.body c.args.frame.now.body (Err RackFault)
    (alike inner c.self.inside.is_spent (told.0 ∙ sym fresh) ∙ c.self.view_is) (alike c.append.new.self true (ap (λ (l : LogValue). l.spent) told.2)) (ap (λ (f : FrameValue). f.body) c.frame.ensures)
    (appended_err rack.disk rack.moment rack.left_since c.args.rack.now c.append.new.rack (rack.disk c.args.rack.now) (rack.disk c.append.new.rack) inner c.append.new.self c.frame.result.now.body _ RackFault (c.in-Err-RackFault.ensures.appended honest))
