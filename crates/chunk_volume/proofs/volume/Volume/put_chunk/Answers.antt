use Rattle.std.proofs.Common.{Bool, false, Result, Ok, Err, sym, ◌∙◌, ap}
use Rattle.std.specs.Prelude.{is_some}
use Rattle.std.specs.FinMap as map
use Rattle.std.proofs.lemmas.Bool.{true≢false}
use Rattle.site_forms.specs.Sites.{HoldsChunk}
use Rattle.chunk_volume.specs.declared.errors.VolError.{VolError}
use Rattle.chunk_volume.specs.Adding.{PutsChunkOn}
use Rattle.chunk_volume.specs.VolumeValues.{VolumeValue}
use Rattle.chunk_volume.proofs.Adding.{handed}
use Rattle.chunk_volume.proofs.Puts.{compared_same, finds_any}
use Rattle.chunk_volume.proofs.Writing.{puts_compared, puts_new, puts_refused, told_refused}
use Rattle.chunk_volume.proofs.volume.Volume.put_chunk.Goals as goal

pub returns-in_err-compare_held-clause-added : goal.returns-in_err-compare_held-clause-added
returns-in_err-compare_held-clause-added g c = λ honest.
    let rack = g.R.Rack in
    let v = c.args.self.now in
    let w = c.compare_held.new.self in
    let name = c.args.name.now in
    let bytes = c.args.bytes.now in
    let old = c.args.rack.now in
    let new = c.compare_held.new.rack in
    let error = c.in_err-compare_held.field-0.0 in
    let held : HoldsChunk v.shape name = ap (λ (x : VolumeValue). map.contains_key x.shape.chunks name) (sym c.self.view_is) ∙ ap is_some (sym c.in-Some.ensures.len) in
    handed c.from_residual.result error (λ (x : Result Bool VolError). PutsChunkOn rack.moment rack.left_since old new (rack.disk old) (rack.disk new) v w name bytes x) c.from_residual.ensures.1
    (puts_compared rack.moment rack.left_since old new (rack.disk old) (rack.disk new) v w name bytes (Err error) held (λ refused. compared_same error v w name bytes c.in_err-compare_held.ensures.volume (told_refused error refused)) tt
    (c.in_err-compare_held.ensures.quiet honest) (λ place volume stands. finds_any (Unit {0}) Bool volume name bytes error (c.in_err-compare_held.ensures.found place volume honest stands)))

pub returns-in-Some-clause-added : goal.returns-in-Some-clause-added
returns-in-Some-clause-added g c = λ honest.
    let rack = g.R.Rack in
    let v = c.args.self.now in
    let w = c.compare_held.new.self in
    let name = c.args.name.now in
    let bytes = c.args.bytes.now in
    let old = c.args.rack.now in
    let new = c.compare_held.new.rack in
    let held : HoldsChunk v.shape name = ap (λ (x : VolumeValue). map.contains_key x.shape.chunks name) (sym c.self.view_is) ∙ ap is_some (sym c.in-Some.ensures.len) in
    puts_compared rack.moment rack.left_since old new (rack.disk old) (rack.disk new) v w name bytes (Ok false) held (λ refused. absurd refused) c.in_ok-compare_held.ensures.volume.1
    (c.in_ok-compare_held.ensures.quiet honest) (λ place volume stands. c.in_ok-compare_held.ensures.found place volume honest stands)

pub returns-in_err-add_chunk-clause-added : goal.returns-in_err-add_chunk-clause-added
returns-in_err-add_chunk-clause-added g c = λ honest.
    let rack = g.R.Rack in
    let v = c.args.self.now in
    let w = c.add_chunk.new.self in
    let name = c.args.name.now in
    let error = c.in_err-add_chunk.field-0.0 in
    let old = c.args.rack.now in
    let new = c.add_chunk.new.rack in
    let lacking : ¬ HoldsChunk v.shape name = λ held. true≢false (sym held ∙ ap (λ (x : VolumeValue). map.contains_key x.shape.chunks name) (sym c.self.view_is) ∙ ap is_some (sym c.in_default.ensures.len)) in
    handed c.from_residual-in_err-add_chunk.result error (λ (x : Result Bool VolError). PutsChunkOn rack.moment rack.left_since old new (rack.disk old) (rack.disk new) v w name c.args.bytes.now x) c.from_residual-in_err-add_chunk.ensures.1
    (puts_refused rack.moment rack.left_since old new (rack.disk old) (rack.disk new) v w name c.args.bytes.now error lacking (c.in_err-add_chunk.ensures.added honest))

pub returns-clause-added : goal.returns-clause-added
returns-clause-added g c = λ honest.
    let rack = g.R.Rack in
    let v = c.args.self.now in
    let old = c.args.rack.now in
    let new = c.add_chunk.new.rack in
    let lacking : ¬ HoldsChunk v.shape c.args.name.now = λ held. true≢false (sym held ∙ ap (λ (x : VolumeValue). map.contains_key x.shape.chunks c.args.name.now) (sym c.self.view_is) ∙ ap is_some (sym c.in_default.ensures.len)) in
    puts_new rack.moment rack.left_since old new (rack.disk old) (rack.disk new) v c.add_chunk.new.self c.args.name.now c.args.bytes.now lacking (c.in_ok-add_chunk.ensures.added honest)
