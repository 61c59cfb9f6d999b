use Rattle.std.proofs.Common.{◌≡◌, List, ℕ, false, sym, ◌∙◌, subst}
use Rattle.std.specs.Prelude.{is_some}
use Rattle.site_forms.specs.VolumeRecords.VolumeRecord.{ChunkRecord}
use Rattle.site_core.specs.Events.{MayAppendTo}
use Rattle.site_core.specs.Events.Append.{ToA}
use Rattle.site_runs.specs.SiteValues.{shapes_in}
use Rattle.seed_mover.proofs.PutPlans.{may_chunk}
use Rattle.seed_mover.proofs.PutSteps.{held_told}
use Rattle.seed_mover.proofs.site.Site.add_chunk.Goals as goal

pub record-requires-clause-may : goal.record-requires-clause-may
record-requires-clause-may g c =
    let v = c.args.self.now in
    let own = c.args.own.now in
    let out : is_some c.chunk_len.result ≡ false = cc in
    subst (λ (n : List ℕ). MayAppendTo (shapes_in v) (ToA (ChunkRecord n own))) (sym c.requires.name)
    (may_chunk v own c.requires.idle c.requires.chunk (held_told v c.a.result.now c.holding.result.now.shape c.args.name.now own c.chunk_len.result c.a.ensures c.holding.ensures.shape c.requires.name c.chunk_len.ensures ∙ out))
