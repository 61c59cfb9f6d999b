use Rattle.std.proofs.Common.{◌+◌, ◌≤◌, ◌^◌, ℕ, length, ap, subst, arith}
use Rattle.chunk_log.specs.LogValues.{LogValue}
use Rattle.chunk_log.specs.Bodies.{BodyAppended}
use Rattle.chunk_log.specs.Appending.{Noted}
use Rattle.chunk_log.proofs.Appended.{appended_log, refused_log}
use Rattle.chunk_log.proofs.gated_log.Log.append.Goals as goal

pub returns-then-self-from-clause-appended : goal.returns-then-self-from-clause-appended
returns-then-self-from-clause-appended g c = λ honest.
    refused_log g.R.Rack.disk g.R.Rack.moment g.R.Rack.left_since c.args.rack.now (g.R.Rack.disk c.args.rack.now) c.args.self.now c.args.frame.now.body _ (λ x left. g.met.R.Rack.only_now _ x honest left)

pub returns-clause-appended : goal.returns-clause-appended
returns-clause-appended g c = λ honest.
    let rack = g.R.Rack in
    let d = rack.disk c.args.rack.now in
    let e = rack.disk c.append_at-done.new.rack in
    let log = c.args.self.now in
    let body = c.args.frame.now.body in
    let ends = ap (λ (v : LogValue). v.end) c.self.view_is in
    let limits = ap (λ (v : LogValue). v.limit) c.self.view_is in
    let call = subst (λ (v : LogValue). BodyAppended rack.disk rack.moment rack.left_since c.args.rack.now c.append_at-done.new.rack d e v.device v.end body c.append_at-done.result) c.self.view_is (c.append_at-done.ensures.appended honest) in
    let room : log.end + 6 + length body ≤ log.limit = omega (arith, c.if-self-from.false, c.from.ensures, c.len-len.ensures.len, ends, limits) in
    let limit : log.limit ≤ 2 ^ 40 = omega (arith, c.self.invariant.limit, limits) in
    let noted = subst (λ (n : ℕ). Noted log c.note.new.self n c.append_at-done.result c.note.result) c.len-len.ensures.len c.note.ensures in
    appended_log rack.disk rack.moment rack.left_since c.args.rack.now c.append_at-done.new.rack d e log c.note.new.self body c.append_at-done.result c.note.result call room limit noted
