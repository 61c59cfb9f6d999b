use Rattle.std.proofs.Common.{◌≡◌, sym, ◌∙◌, ap, subst, arith}
use Rattle.std.specs.Prelude.{is_some, not}
use Rattle.site_forms.specs.Sites.{HoldsChunk}
use Rattle.site_forms.specs.Volumes.{Shape}
use Rattle.volume_index.specs.Indexes.{IndexValue}
use Rattle.site_core.proofs.Merging.{each_key, chunks_step, chunk_joined, extent_held}
use Rattle.site_core.proofs.merged.add_chunks.Goals as goal
use Rattle.site_core.proofs.merged.add_chunks.Goals.{then-is_none+in_ok-add_chunk, else-is_none}

pub loop-place-preserved : goal.loop-place-preserved
loop-place-preserved c =
    let i = c.loop-place.invariant in
    let name = c.chunk_name-name.result.now in
    let cur = c.loop-place.index.shape in
    elim c.if-is_none.branch [
      | then-is_none+in_ok-add_chunk w ↦
          let next : c.if-is_none.index.shape ≡ w.add_chunk.new.self.shape = ap (λ (v : IndexValue). v.shape) w.index-is in
          let joined = chunk_joined cur c.if-is_none.index.shape name 1 (next ∙ w.in_ok-add_chunk.ensures.shape) in
          let r = chunks_step c.args.index.now.shape cur c.if-is_none.index.shape c.args.holding.now.shape c.loop-place.place name c.chunk_name-name.ensures i.files i.old i.new joined.0 joined.1 joined.2 in
          record { files = r.0; old = r.1; new = r.2 }
      | else-is_none w ↦
          let next : c.if-is_none.index.shape ≡ cur = ap (λ (v : IndexValue). v.shape) w.index-is in
          let here : HoldsChunk cur name = ap is_some (sym c.extent.ensures.len) ∙ extent_held c.extent.result (c.is_none.ensures ∙ ap not w.if-is_none.false) in
          let r = chunks_step c.args.index.now.shape cur c.if-is_none.index.shape c.args.holding.now.shape c.loop-place.place name c.chunk_name-name.ensures i.files i.old i.new
          (ap (λ (s : Shape). s.files) next) (λ chunk held. subst (λ (s : Shape). HoldsChunk s chunk) (sym next) held) (subst (λ (s : Shape). HoldsChunk s name) (sym next) here) in
          record { files = r.0; old = r.1; new = r.2 }
    ]

pub returns-clause-new : goal.returns-clause-new
returns-clause-new c = each_key c.args.holding.now.shape.chunks (HoldsChunk c.loop-place.index.shape) (λ j inside. c.loop-place.invariant.new j (omega (arith, inside, c.loop-place-test.false, c.chunk_count-place-end.ensures)))
