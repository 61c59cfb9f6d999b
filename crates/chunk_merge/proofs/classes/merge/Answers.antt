use Rattle.std.proofs.Common.{◌≡◌, ◌∙◌, ◌<◌, ap, arith, length}
use Rattle.seed_model.specs.declared.table.Class.{Class}
use Rattle.incidence.specs.Incidences.{class_at, chunk_classes, chunk_table}
use Rattle.chunk_merge.specs.Classes.{classes_in}
use Rattle.chunk_merge.specs.Merged.{classes_of}
use Rattle.chunk_merge.proofs.Folded.{chunk-fits, folded-more, folded-all, is-table}
use Rattle.chunk_merge.proofs.classes.merge.Goals as goal

pub add_chunk-requires-clause-fits : goal.add_chunk-requires-clause-fits
add_chunk-requires-clause-fits c =
    let chunk = c.loop-chunk.chunk in
    let lt : chunk < length c.args.incidence.now.users = omega (arith, c.chunk_count-chunk-end.ensures.chunks) in
    omega (arith, chunk-fits c.args.incidence.now (classes_in c.loop-chunk.users c.loop-chunk.sizes.items) chunk c.chunk_count-chunk-end.ensures.incidence lt c.loop-chunk.invariant.classes, c.size.ensures)

pub loop-chunk-preserved : goal.loop-chunk-preserved
loop-chunk-preserved c =
    let own : Class = record { size = c.size.result; users = c.users.result.now } in
    let same : own ≡ class_at c.args.incidence.now c.loop-chunk.chunk = λ i. record { size = c.size.ensures i; users = c.users.ensures.users i } in
    record {
      same = c.in_ok-add_chunk.ensures.same;
      classes = folded-more c.args.incidence.now (classes_in c.loop-chunk.users c.loop-chunk.sizes.items) (classes_in c.add_chunk.new.users c.add_chunk.new.sizes.items) c.loop-chunk.chunk own
          c.loop-chunk.invariant.classes same c.in_ok-add_chunk.ensures.classes;
    }

pub new-requires : goal.new-requires
new-requires c =
    let incidence = c.args.incidence.now in
    let made : c.in_ok-classes.classes.items ≡ classes_of (chunk_classes incidence)
    = c.in_ok-classes.ensures ∙ (ap (classes_in c.loop-chunk.users) c.deref.ensures.value
    ∙ folded-all incidence (classes_in c.loop-chunk.users c.loop-chunk.sizes.items) c.loop-chunk.chunk (omega (arith, c.chunk_count-chunk-end.ensures.chunks)) c.loop-chunk.invariant.classes) in
    rw (c.files.ensures.files, made) (is-table (chunk_table incidence) c.files.ensures.incidence.table)

pub returns : goal.returns
returns c =
    let incidence = c.args.incidence.now in
    let made : c.in_ok-classes.classes.items ≡ classes_of (chunk_classes incidence)
    = c.in_ok-classes.ensures ∙ (ap (classes_in c.loop-chunk.users) c.deref.ensures.value
    ∙ folded-all incidence (classes_in c.loop-chunk.users c.loop-chunk.sizes.items) c.loop-chunk.chunk (omega (arith, c.chunk_count-chunk-end.ensures.chunks)) c.loop-chunk.invariant.classes) in
    c.new.ensures ∙ (λ i. record { files = c.files.ensures.files i; classes = made i })
