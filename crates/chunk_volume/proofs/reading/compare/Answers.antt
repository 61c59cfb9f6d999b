use Rattle.std.proofs.Common.{◌≡◌, ◌+◌, ◌++◌, true, ℕ, List, length, take, drop, replicate, sym, ◌∙◌, ap, subst, arith, length-drop}
use Rattle.std.specs.Prelude.{◌↔◌}
use Rattle.std.proofs.lemmas.List.{drop-drop, length-take, length-take-le, length-replicate}
use Rattle.sha2.specs.Hashers.{Holds256}
use Rattle.volume_disk.specs.Medium.{Medium}
use Rattle.device_pieces.proofs.Quiets.{quiet_then}
use Rattle.chunk_volume.proofs.Compared.{take_more, compared_more, AreSame}
use Rattle.chunk_volume.proofs.reading.compare.Goals as goal

pub pieces-preserved : goal.pieces-preserved
pieces-preserved g c =
    let rack = g.R.Rack in
    let inv = c.pieces.invariant in
    let at = c.args.extent.at in
    let done = c.pieces.done in
    let count = c.min-count.result in
    let piece = c.read_body.new.into in
    let image = (rack.disk c.args.rack.now c.args.log.now.device).image in
    let rest = drop at image in
    let auto : length piece ≡ length (take count (replicate 4096 0)) = c.read_body.auto.into in
    let long : length piece ≡ count = auto ∙ length-take-le count (replicate 4096 0) (omega (arith, c.min-count.ensures, length-replicate {A = ℕ} 4096 0)) in
    let is : rack.honest c.args.rack.now ≡ true → piece ≡ take (length piece) (drop done rest) = λ honest.
    let read = c.in_ok-read_body.ensures.bytes (inv.honest ∙ honest) in
    let here : (rack.disk c.pieces.rack c.args.log.now.device).image ≡ image = ap (λ (m : Medium). m.image) ((inv.quiet honest).same c.args.log.now.device) in
    read ∙ ap (λ (l : List ℕ). take (length piece) (drop (at + done) l)) here ∙ ap (take (length piece)) (sym (drop-drop done at image)) in
    record {
      within = omega (arith, inv.within, c.pieces-test.true, c.min-count.ensures);
      count = c.in_ok-read_body.ensures.cause.kept (λ same. cc) ∙ inv.count;
      honest = c.in_ok-read_body.ensures.honest ∙ inv.honest;
      quiet = λ honest.
          quiet_then rack.moment rack.left_since c.args.rack.now c.pieces.rack c.read_body.new.rack _ _ _ (λ t x le crash. g.met.R.Rack.counts_now _ t x (inv.honest ∙ honest) le crash) (inv.quiet honest)
          (c.in_ok-read_body.ensures.quiet (inv.honest ∙ honest));
      long = λ yes. inv.long (c.goes_on-is_same.ensures.0 yes).0;
      inside = λ honest. omega (arith, inv.inside honest, long, ap (λ (l : List ℕ). length l) (is honest), length-take (length piece) (drop done rest), length-drop done rest);
      hashed = λ honest.
          subst (λ (l : List ℕ). Holds256 c.update.new.self l) (ap (λ (l : List ℕ). take done rest ++ l) (is honest ∙ ap (λ (n : ℕ). take n (drop done rest)) long) ∙ sym (take_more rest done count)) (c.update.ensures (take done rest) (inv.hashed honest));
      same = λ honest.
          subst (λ (n : ℕ). (c.goes_on-is_same.result ≡ true) ↔ AreSame c.args.others.now rest c.args.extent.len (done + n)) long
          (compared_more c.pieces.is_same c.goes_on-is_same.result c.args.others.now rest piece c.args.extent.len done (is honest) (inv.same honest) c.goes_on-is_same.ensures);
    }
