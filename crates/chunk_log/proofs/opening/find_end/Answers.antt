use Rattle.std.proofs.Common.{◌≡◌, ◌+◌, ℕ, List, refl, sym, ◌∙◌, ap, subst, arith}
use Rattle.volume_disk.specs.Medium.{Medium}
use Rattle.site_forms.specs.declared.gates.Gate.TheVariants.{Shut, Broken, Open}
use Rattle.site_forms.specs.Gates.{IsGate}
use Rattle.device_pieces.specs.Pieces.{Shows}
use Rattle.device_pieces.proofs.Quiets.{quiet_begins, quiet_then}
use Rattle.chunk_log.proofs.Reaching.{Reaches, at_start, shut_at, broken_at, open_at, seen_from}
use Rattle.chunk_log.proofs.opening.find_end.Goals as goal

pub gates-init : goal.gates-init
gates-init g c = record {
  below = omega arith;
  count = refl;
  honest = refl;
  device = refl;
  quiet = λ honest. quiet_begins g.R.Rack.moment g.R.Rack.left_since c.args.rack.now (g.R.Rack.disk c.args.rack.now) (λ x left. g.met.R.Rack.only_now _ x honest left);
  shows = λ honest shows. shows;
  reaches = λ honest shows is long. at_start (g.R.Rack.disk c.args.rack.now c.args.piece.now.device).image (omega (arith, is, long));
}

pub returns-in_err-look-clause-shows : goal.returns-in_err-look-clause-shows
returns-in_err-look-clause-shows g c = λ honest shows.
    let inv = c.gates.invariant in
    let image = (g.R.Rack.disk c.args.rack.now c.args.piece.now.device).image in
    let here : (g.R.Rack.disk c.gates.rack c.gates.piece.device).image ≡ image = ap (λ (k : ℕ). (g.R.Rack.disk c.gates.rack k).image) inv.device ∙ ap (λ (m : Medium). m.image) ((inv.quiet honest).same c.args.piece.now.device) in
    subst (λ (l : List ℕ). Shows l c.look.new.piece) here (c.look.ensures.shows (inv.honest ∙ honest) (subst (λ (l : List ℕ). Shows l c.gates.piece) (sym here) (inv.shows honest shows)))

pub returns-in-Shut-clause-shows : goal.returns-in-Shut-clause-shows
returns-in-Shut-clause-shows g c = λ honest shows.
    let inv = c.gates.invariant in
    let image = (g.R.Rack.disk c.args.rack.now c.args.piece.now.device).image in
    let here : (g.R.Rack.disk c.gates.rack c.gates.piece.device).image ≡ image = ap (λ (k : ℕ). (g.R.Rack.disk c.gates.rack k).image) inv.device ∙ ap (λ (m : Medium). m.image) ((inv.quiet honest).same c.args.piece.now.device) in
    subst (λ (l : List ℕ). Shows l c.look.new.piece) here (c.look.ensures.shows (inv.honest ∙ honest) (subst (λ (l : List ℕ). Shows l c.gates.piece) (sym here) (inv.shows honest shows)))

pub returns-in-Broken-clause-shows : goal.returns-in-Broken-clause-shows
returns-in-Broken-clause-shows g c = λ honest shows.
    let inv = c.gates.invariant in
    let image = (g.R.Rack.disk c.args.rack.now c.args.piece.now.device).image in
    let here : (g.R.Rack.disk c.gates.rack c.gates.piece.device).image ≡ image = ap (λ (k : ℕ). (g.R.Rack.disk c.gates.rack k).image) inv.device ∙ ap (λ (m : Medium). m.image) ((inv.quiet honest).same c.args.piece.now.device) in
    subst (λ (l : List ℕ). Shows l c.look.new.piece) here (c.look.ensures.shows (inv.honest ∙ honest) (subst (λ (l : List ℕ). Shows l c.gates.piece) (sym here) (inv.shows honest shows)))

pub returns-in-Shut-clause-finds : goal.returns-in-Shut-clause-finds
returns-in-Shut-clause-finds g c = λ honest shows is long.
    let inv = c.gates.invariant in
    let image = (g.R.Rack.disk c.args.rack.now c.args.piece.now.device).image in
    let here : (g.R.Rack.disk c.gates.rack c.gates.piece.device).image ≡ image = ap (λ (k : ℕ). (g.R.Rack.disk c.gates.rack k).image) inv.device ∙ ap (λ (m : Medium). m.image) ((inv.quiet honest).same c.args.piece.now.device) in
    let shown = subst (λ (l : List ℕ). Shows l c.gates.piece) (sym here) (inv.shows honest shows) in
    let seen = seen_from image _ c.gates.at c.args.size _ Shut here is (c.in_ok-look.ensures.gate (inv.honest ∙ honest) shown) c.in-Shut.is in
    shut_at image c.gates.at (inv.reaches honest shows is long) seen (omega (arith, is, long))

pub returns-in-Broken-clause-finds : goal.returns-in-Broken-clause-finds
returns-in-Broken-clause-finds g c = λ honest shows is long.
    let inv = c.gates.invariant in
    let image = (g.R.Rack.disk c.args.rack.now c.args.piece.now.device).image in
    let here : (g.R.Rack.disk c.gates.rack c.gates.piece.device).image ≡ image = ap (λ (k : ℕ). (g.R.Rack.disk c.gates.rack k).image) inv.device ∙ ap (λ (m : Medium). m.image) ((inv.quiet honest).same c.args.piece.now.device) in
    let shown = subst (λ (l : List ℕ). Shows l c.gates.piece) (sym here) (inv.shows honest shows) in
    let seen = seen_from image _ c.gates.at c.args.size _ Broken here is (c.in_ok-look.ensures.gate (inv.honest ∙ honest) shown) c.in-Broken.is in
    broken_at image c.gates.at (inv.reaches honest shows is long) seen (omega (arith, is, long))

pub gates-preserved : goal.gates-preserved
gates-preserved g c =
    let inv = c.gates.invariant in
    let n = c.in-Open.len in
    let within = subst (IsGate c.gates.at c.args.size) c.in-Open.is c.in_ok-look.ensures.within in
    let wide : c.from.result ≡ n = c.from.ensures in
    record {
      below = omega (arith, within.3, wide);
      count = c.in_ok-look.ensures.cause.kept (λ same. cc) ∙ inv.count;
      honest = c.in_ok-look.ensures.honest ∙ inv.honest;
      device = c.in_ok-look.ensures.device ∙ inv.device;
      quiet = λ honest.
          quiet_then g.R.Rack.moment g.R.Rack.left_since c.args.rack.now c.gates.rack c.look.new.rack _ _ _ (λ t x le crash. g.met.R.Rack.counts_now _ t x (inv.honest ∙ honest) le crash) (inv.quiet honest)
          (c.in_ok-look.ensures.quiet (inv.honest ∙ honest));
      shows = λ honest shows.
          let image = (g.R.Rack.disk c.args.rack.now c.args.piece.now.device).image in
          let here : (g.R.Rack.disk c.gates.rack c.gates.piece.device).image ≡ image = ap (λ (k : ℕ). (g.R.Rack.disk c.gates.rack k).image) inv.device ∙ ap (λ (m : Medium). m.image) ((inv.quiet honest).same c.args.piece.now.device) in
          subst (λ (l : List ℕ). Shows l c.look.new.piece) here (c.in_ok-look.ensures.shows (inv.honest ∙ honest) (subst (λ (l : List ℕ). Shows l c.gates.piece) (sym here) (inv.shows honest shows)));
      reaches = λ honest shows is long.
          let image = (g.R.Rack.disk c.args.rack.now c.args.piece.now.device).image in
          let here : (g.R.Rack.disk c.gates.rack c.gates.piece.device).image ≡ image = ap (λ (k : ℕ). (g.R.Rack.disk c.gates.rack k).image) inv.device ∙ ap (λ (m : Medium). m.image) ((inv.quiet honest).same c.args.piece.now.device) in
          let shown = subst (λ (l : List ℕ). Shows l c.gates.piece) (sym here) (inv.shows honest shows) in
          let seen = seen_from image _ c.gates.at c.args.size _ (Open n) here is (c.in_ok-look.ensures.gate (inv.honest ∙ honest) shown) c.in-Open.is in
          subst (λ (k : ℕ). Reaches image (c.gates.at + (5 + k))) (sym wide) (open_at image c.gates.at n (inv.reaches honest shows is long) seen (omega (arith, within.2, is)));
    }
