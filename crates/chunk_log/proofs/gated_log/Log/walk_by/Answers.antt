use Rattle.std.proofs.Common.{◌≡◌, ◌<◌, ◌+◌, ◌^◌, ℕ, [], length, take, drop, get_or, sym, ◌∙◌, ap, subst, arith}
use Rattle.std.specs.Prelude.{Result, Option}
use Rattle.site_forms.proofs.Walks.{ends}
use Rattle.chunk_log.specs.declared.errors.LogError.{LogError}
use Rattle.chunk_log.specs.declared.place.Place.{Place}
use Rattle.site_forms.specs.declared.gates.Gate.TheVariants.{Open}
use Rattle.site_forms.specs.Gates.{gate_in}
use Rattle.device_pieces.specs.Pieces.{Shows}
use Rattle.chunk_log.specs.LogValues.{LogValue}
use Rattle.chunk_log.specs.Walking.{FindsBlock, WalksTo, place_behind}
use Rattle.chunk_log.proofs.Walked.{before_end, gate_of_body, finds_block, walks_to}
use Rattle.chunk_log.proofs.gated_log.Log.walk_by.Goals as goal

pub returns-then-at-self-clause-bodies : goal.returns-then-at-self-clause-bodies
returns-then-at-self-clause-bodies g c = λ bodies i honest shows good inside is.
    let image = (g.R.Rack.disk c.args.rack.now c.args.self.now.device).image in
    let end = ends image bodies c.args.self.now.end good in
    let before = before_end bodies i inside in
    absurd (omega (arith, end, before, is, c.if-at-self.true, ap (λ (v : LogValue). v.end) c.self.view_is))

pub returns-in-Ok-clause-bodies : goal.returns-in-Ok-clause-bodies
returns-in-Ok-clause-bodies g c = λ bodies i honest shows good inside is.
    let log = c.args.self.now in
    let image = (g.R.Rack.disk c.args.rack.now log.device).image in
    let n = length (get_or bodies i []) in
    let low : log.end < 2 ^ 40 = omega (arith, c.self.invariant.below, ap (λ (v : LogValue). v.end) c.self.view_is) in
    let here = subst (λ (k : ℕ). Shows (g.R.Rack.disk c.args.rack.now k).image c.args.piece.now) (sym c.requires.device) shows in
    let seen : c.in-Ok.gate ≡ Open n = c.in-Ok.ensures.gate honest here
    ∙ ap (λ (k : ℕ). gate_in (take 5 (drop c.args.at (g.R.Rack.disk c.args.rack.now k).image)) c.args.at (c.self.inside.end + 1)) c.requires.device
    ∙ ap (λ (v : LogValue). gate_in (take 5 (drop c.args.at image)) c.args.at (v.end + 1)) c.self.view_is
    ∙ ap (λ (k : ℕ). gate_in (take 5 (drop k image)) k (log.end + 1)) is
    ∙ gate_of_body image bodies log.end i good inside low in
    subst (λ (r : Result (Option Place) LogError). WalksTo (place_behind c.args.at n) r) (sym c.behind.ensures) (walks_to log c.args.at n c.in-Ok.gate seen)

pub returns-in-Ok-clause-block : goal.returns-in-Ok-clause-block
returns-in-Ok-clause-block g c = λ honest shows.
    let log = c.args.self.now in
    let image = (g.R.Rack.disk c.args.rack.now log.device).image in
    let low : log.end < 2 ^ 40 = omega (arith, c.self.invariant.below, ap (λ (v : LogValue). v.end) c.self.view_is) in
    let here = subst (λ (k : ℕ). Shows (g.R.Rack.disk c.args.rack.now k).image c.args.piece.now) (sym c.requires.device) shows in
    let seen = c.in-Ok.ensures.gate honest here
    ∙ ap (λ (k : ℕ). gate_in (take 5 (drop c.args.at (g.R.Rack.disk c.args.rack.now k).image)) c.args.at (c.self.inside.end + 1)) c.requires.device
    ∙ ap (λ (v : LogValue). gate_in (take 5 (drop c.args.at image)) c.args.at (v.end + 1)) c.self.view_is in
    subst (λ (r : Result (Option Place) LogError). FindsBlock image c.args.at log.end r) (sym c.behind.ensures) (finds_block log image c.args.at c.in-Ok.gate low seen)
