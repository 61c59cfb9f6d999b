use Rattle.std.proofs.Common.{◌≡◌, ℕ, List, length, take, drop, replicate, refl, ◌∙◌, ap, arith}
use Rattle.std.proofs.lemmas.List.{length-take-le}
use Rattle.chunk_volume.proofs.Foldings.{front_read}
use Rattle.chunk_volume.proofs.opening.read_front.Goals as goal

pub returns-clause-front : goal.returns-clause-front
returns-clause-front g c = λ honest shows.
    let zeros : List ℕ = replicate 33 0 in
    let count = c.min-count.result in
    let image = (g.R.Rack.disk c.args.rack.now c.args.log.now.device).image in
    let same : length c.read_body_by.new.into ≡ length (take count (replicate 33 0)) = c.read_body_by.auto.into in
    let long : length c.read_body_by.new.into ≡ count = same ∙ length-take-le count (replicate 33 0) (omega (arith, c.min-count.ensures)) in
    front_read c.read_body_by.new.into (replicate 33 0) (drop c.args.place.at image) count c.args.place.len c.min-count.ensures long (c.in_ok-read_body_by.ensures.bytes honest shows ∙ ap (λ (n : ℕ). take n (drop c.args.place.at image)) long) refl
