use Rattle.std.proofs.Common.{◌≡◌, ℕ, ◌+◌, ◌*◌, ◌<◌, ◌≤◌, Bool, true, false, Some, refl, sym, ◌∙◌, ap, arith, leb, ltb}
use Rattle.std.proofs.lemmas.Bool.{lt-ltb, le-ltb}
use Rattle.std.proofs.Math.Nat.{mul-le-mul_right}
use Rattle.seed_model.specs.Nodes.{weight_of}
use Rattle.branch_bound.specs.Cuts.{is_cut}
use Rattle.branch_bound.proofs.visits.reaches.Goals as goal

-- the ceiling is not below so many bytes just where the value reaches them
reach_test : (bytes whole worth w : ℕ) → worth ≤ whole * w → whole * w < worth + w → leb bytes whole ≡ ltb (bytes * w) (worth + w)
reach_test bytes whole worth w h k = step (leb bytes whole) refl
  where
    step : (b : Bool) → b ≡ leb bytes whole → b ≡ ltb (bytes * w) (worth + w)
    step true e =
        let le : bytes ≤ whole = grind (arith, e) in
        sym (lt-ltb (bytes * w) (worth + w) (omega (arith, mul-le-mul_right w le, k)))
    step false e =
        let more : whole + 1 ≤ bytes = grind (arith, e) in
        sym (le-ltb (bytes * w) (worth + w) (omega (arith, mul-le-mul_right w more, h)))

pub returns-in-Valued : goal.returns-in-Valued
returns-in-Valued c =
    let r = c.in-Valued.relaxation in
    reach_test c.in-Some.bytes c.ceiling.result r.worth (weight_of r.mix) c.ceiling.ensures.above c.ceiling.ensures.near
    ∙ sym (ap (λ z. is_cut z c.args.finding.now) c.in-Some.is ∙ ap (λ z. is_cut (Some c.in-Some.bytes) z) c.in-Valued.is)
