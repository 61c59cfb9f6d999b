use Rattle.std.proofs.Common.{◌≡◌, List, ℕ, Bool, false, sym, ◌∙◌, ap, subst}
use Rattle.std.specs.Prelude.{Ok, Err, not, is_some}
use Rattle.std.specs.FinMap as map
use Rattle.site_forms.specs.Volumes.{Shape}
use Rattle.seed_mover.specs.PutParts.{FindsKept, SameBytes}
use Rattle.seed_mover.proofs.PutCompared.{finds_lacking, read_finds, same_held_bytes}
use Rattle.seed_mover.proofs.putting.ready.compare_block.Goals as goal

pub returns-then-is_none-clause-finds : goal.returns-then-is_none-clause-finds
returns-then-is_none-clause-finds g c = λ place a honest stands.
    let v = c.args.volume.now in
    let name = c.args.name.now in
    let lacking : map.contains_key v.shape.chunks name ≡ false =
    ap (λ (s : Shape). map.contains_key s.chunks name) (sym c.holding.ensures.shape) ∙ ap is_some (sym c.chunk_len.ensures) ∙ c.is_none.ensures ∙ ap not c.if-is_none.true in
    subst (λ (b : Bool). FindsKept a name c.args.own.now c.args.kept.now b (Ok tt)) (sym c.if-is_repeated.false)
    (finds_lacking place v (g.R.Rack.disk c.args.rack.now) a name c.args.own.now c.args.kept.now stands lacking)

pub returns-in-Ok-clause-finds : goal.returns-in-Ok-clause-finds
returns-in-Ok-clause-finds g c = λ place a honest stands.
    let name = c.args.name.now in
    let own = c.args.own.now in
    let r = c.same_bytes-in-Ok.result in
    let same = subst (λ (l : List ℕ). SameBytes name l own r) c.as_slice.ensures.value c.same_bytes-in-Ok.ensures in
    subst (λ (b : Bool). FindsKept a name own c.args.kept.now b r) (sym c.if-is_repeated.false)
    (same_held_bytes a name own c.args.kept.now c.in-Ok.held.items r (c.in-Ok.ensures.found place a honest stands) same)

pub returns-in-Err-clause-finds : goal.returns-in-Err-clause-finds
returns-in-Err-clause-finds g c = λ place a honest stands.
    let name = c.args.name.now in
    subst (λ (b : Bool). FindsKept a name c.args.own.now c.args.kept.now b (Err c.in-Err.error)) (sym c.if-is_repeated.false)
    (read_finds c.args.volume.now a name c.args.own.now c.args.kept.now c.in-Err.error c.in-Err.ensures.reads (c.in-Err.ensures.found place a honest stands))
