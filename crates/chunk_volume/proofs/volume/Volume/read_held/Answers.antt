use Rattle.std.proofs.Common.{◌≡◌, ℕ, Some, sym, ◌∙◌, ap, subst, arith}
use Rattle.std.specs.Option.{option_map}
use Rattle.std.specs.FinMap as map
use Rattle.chunk_volume.specs.VolumeValues.{VolumeValue}
use Rattle.chunk_volume.specs.Pieces.{ReadsPiece, FindsPiece}
use Rattle.chunk_volume.proofs.FoundBytes.{held_extent}
use Rattle.volume_index.specs.declared.index.Extent.{Extent}
use Rattle.chunk_volume.proofs.volume.Volume.read_held.Goals as goal

pub unwrap-extent-requires : goal.unwrap-extent-requires
unwrap-extent-requires g c = held_extent (λ (e : Extent). e.len) c.extent.result _ c.extent.ensures.len (ap (λ (x : VolumeValue). map.contains_key x.shape.chunks c.args.name.now) c.self.view_is ∙ c.requires)

pub read_piece-requires : goal.read_piece-requires
read_piece-requires g c =
    let e = c.unwrap-extent.result in
    let placed : map.get c.self.inside.holding.places c.args.name.now ≡ Some e.at = sym c.extent.ensures.at ∙ ap (option_map (λ (x : Extent). x.at)) c.unwrap-extent.ensures in
    let long : map.get c.self.inside.holding.shape.chunks c.args.name.now ≡ Some e.len = sym c.extent.ensures.len ∙ ap (option_map (λ (x : Extent). x.len)) c.unwrap-extent.ensures in
    omega (arith, c.self.invariant c.args.name.now e.at e.len placed long, c.log.ensures.end)

pub returns-clause-held : goal.returns-clause-held
returns-clause-held g c =
    let e = c.unwrap-extent.result in
    record {
      at = e.at;
      len = e.len;
      placed = ap (λ (x : VolumeValue). map.get x.places c.args.name.now) (sym c.self.view_is) ∙ sym c.extent.ensures.at ∙ ap (option_map (λ (x : Extent). x.at)) c.unwrap-extent.ensures;
      long = ap (λ (x : VolumeValue). map.get x.shape.chunks c.args.name.now) (sym c.self.view_is) ∙ sym c.extent.ensures.len ∙ ap (option_map (λ (x : Extent). x.len)) c.unwrap-extent.ensures;
      reads = subst (λ (device : ℕ). ReadsPiece device e.at e.len c.args.name.now c.read_piece.new.piece.items c.read_piece.result) (c.log.ensures.device ∙ ap (λ (x : VolumeValue). x.log.device) c.self.view_is) c.read_piece.ensures.reads;
    }

some_same : {X : Type 0} (x y : X) → Some x ≡ Some y → x ≡ y
some_same x y is = cc

pub returns-clause-bytes : goal.returns-clause-bytes
returns-clause-bytes g c = λ at len honest placed long.
    let rack = g.R.Rack in
    let e = c.unwrap-extent.result in
    let here : e.at ≡ at = some_same e.at at (sym (ap (λ (x : VolumeValue). map.get x.places c.args.name.now) (sym c.self.view_is) ∙ sym c.extent.ensures.at ∙ ap (option_map (λ (x : Extent). x.at)) c.unwrap-extent.ensures) ∙ placed) in
    let many : e.len ≡ len = some_same e.len len (sym (ap (λ (x : VolumeValue). map.get x.shape.chunks c.args.name.now) (sym c.self.view_is) ∙ sym c.extent.ensures.len ∙ ap (option_map (λ (x : Extent). x.len)) c.unwrap-extent.ensures) ∙ long) in
    let there = c.log.ensures.device ∙ ap (λ (x : VolumeValue). x.log.device) c.self.view_is in
    subst (λ (n : ℕ). FindsPiece (rack.disk c.args.rack.now n).image at len c.read_piece.new.piece.items c.read_piece.result) there
    (subst (λ (n : ℕ). FindsPiece (rack.disk c.args.rack.now c.log.result.now.device).image n len c.read_piece.new.piece.items c.read_piece.result) here
    (subst (λ (n : ℕ). FindsPiece (rack.disk c.args.rack.now c.log.result.now.device).image e.at n c.read_piece.new.piece.items c.read_piece.result) many (c.read_piece.ensures.bytes honest)))
