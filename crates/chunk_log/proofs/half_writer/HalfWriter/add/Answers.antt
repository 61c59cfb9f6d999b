use Rattle.std.proofs.Common.{◌≤◌, ℕ, ap, subst, arith}
use Rattle.site_forms.specs.Logs.{IsBody}
use Rattle.chunk_log.specs.LogValues.{LogValue}
use Rattle.chunk_log.specs.HalfWriting.{PutsBlock, NotedBody}
use Rattle.chunk_log.proofs.HalfBlocks.{added_half, refused_half}
use Rattle.chunk_log.proofs.half_writer.HalfWriter.add.Goals as goal

pub returns-then-self-from-clause-adds : goal.returns-then-self-from-clause-adds
returns-then-self-from-clause-adds g c = λ honest.
    refused_half g.R.Rack.moment g.R.Rack.left_since c.args.rack.now (g.R.Rack.disk c.args.rack.now) c.args.self.now c.args.frame.now.body _ (λ x left. g.met.R.Rack.only_now _ x honest left)

pub returns-clause-adds : goal.returns-clause-adds
returns-clause-adds g c = λ honest.
    let rack = g.R.Rack in
    let d = rack.disk c.args.rack.now in
    let e = rack.disk c.put_block-done.new.rack in
    let writer = c.args.self.now in
    let body = c.args.frame.now.body in
    let call = subst (λ (v : LogValue). PutsBlock rack.moment rack.left_since c.args.rack.now c.put_block-done.new.rack d e v.device v.end body c.put_block-done.result) c.self.view_is (c.put_block-done.ensures.puts honest) in
    let noted = subst (λ (n : ℕ). NotedBody writer c.note.new.self n c.put_block-done.result c.note.result) c.len-len.ensures.len c.note.ensures in
    let is_device : writer.device ≤ 5 = omega (arith, c.self.invariant.device, ap (λ (v : LogValue). v.device) c.self.view_is) in
    let is_body : IsBody body = record { some = c.requires; most = omega (arith, c.len-len.ensures.most, c.len-len.ensures.len) } in
    added_half rack.moment rack.left_since c.args.rack.now c.put_block-done.new.rack d e writer c.note.new.self body is_device is_body c.put_block-done.result c.note.result call noted
