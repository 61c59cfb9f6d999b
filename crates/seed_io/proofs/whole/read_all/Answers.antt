use Rattle.std.proofs.Common.{◌≡◌, ◌∙◌, ◌+◌, ℕ, arith, ap, sym, length, take}
use Rattle.std.proofs.lemmas.List.{length-append}
use Rattle.seed_io.specs.Shelf.{Told}
use Rattle.seed_io.proofs.Pieces.{front_grows, gave_more}
use Rattle.seed_io.proofs.whole.read_all.Goals as goal

pub loop-turn-preserved : goal.loop-turn-preserved
loop-turn-preserved g c =
    let inv = c.loop-turn.invariant in
    let ens = c.read_at.ensures in
    let got = c.in-Ok.ensures in
    let items = c.in-Ok-extend_from_slice.ensures.items in
    let len = c.len.ensures ∙ c.loop-turn.bytes.ok.0 in
    let grown : length c.extend_from_slice.new.self.items ≡ length c.loop-turn.bytes.items + c.in-Ok.count =
    ap length items ∙ (length-append c.loop-turn.bytes.items (take c.in-Ok.count c.read_at.new.into) ∙ ap (λ (n : ℕ). length c.loop-turn.bytes.items + n) (sym got.bound.1)) in
    let now = c.len-in-loop-turn.ensures ∙ c.loop-turn.bytes.ok.0 in
    record {
      tells = ens.tells ∙ inv.tells;
      same = ens.same ∙ inv.same;
      kept = got.cause.kept (λ e. cc e) ∙ inv.kept;
      turns = omega (arith, grown, inv.turns, c.if-count-eq0.false);
      within = omega (arith, grown, c.if-len-count.false, now);
      front = λ tells file held.
          let f = inv.front tells file held in
          front_grows (g.F.Shelf.map c.loop-turn.shelf) c.args.name.now file c.loop-turn.bytes.items c.extend_from_slice.new.self.items c.read_at.new.into c.in-Ok.count
          (rw len at (got.bytes (inv.tells ∙ tells))) (ap (λ (m : Told). m c.args.name.now) inv.same ∙ held) f.0 f.1 items;
    }

pub returns-then-len-count-clause-long : goal.returns-then-len-count-clause-long
returns-then-len-count-clause-long g c = λ err.
    let inv = c.loop-turn.invariant in
    let got = c.in-Ok.ensures in
    let len = c.len.ensures ∙ c.loop-turn.bytes.ok.0 in
    let now = c.len-in-loop-turn.ensures ∙ c.loop-turn.bytes.ok.0 in
    rw (← inv.same, ← inv.tells) (gave_more _ _ _ c.loop-turn.bytes.items c.read_at.new.into c.in-Ok.count c.args.limit (λ tells. rw len at (got.bytes tells)) (omega (arith, got.bound.0)) (omega (arith, c.if-count-eq0.false)) (omega (arith, c.if-len-count.true, now)))
