use Rattle.std.proofs.Common.{List, ℕ, sym, ◌∙◌, subst, arith}
use Rattle.std.specs.String.{string_bytes}
use Rattle.site_forms.specs.VolumeRecords.VolumeRecord.{FileRecord}
use Rattle.site_core.specs.Events.{MayAppendTo}
use Rattle.site_core.specs.Events.Append.{ToA}
use Rattle.site_runs.specs.Runs.{AddsTo}
use Rattle.site_runs.specs.SiteValues.{shapes_in}
use Rattle.seed_mover.specs.Appending.{AppendsOne}
use Rattle.seed_mover.specs.Errors.{refuses}
use Rattle.seed_mover.specs.Putting.{blocks_of}
use Rattle.seed_mover.proofs.BlockLists.{count_blocks}
use Rattle.seed_mover.proofs.PutAdded.{added_all, added_on, chunks_fit, may_add_it, stopped_on}
use Rattle.seed_mover.proofs.site.Site.add_all.Goals as goal

pub add_chunks-requires-clause-fit : goal.add_chunks-requires-clause-fit
add_chunks-requires-clause-fit g c = let v = c.args.self.now in chunks_fit v v v (string_bytes c.args.file) (blocks_of c.args.bytes.now c.args.ends.now) c.requires.fit

pub returns-in-Err-clause-added : goal.returns-in-Err-clause-added
returns-in-Err-clause-added g c = λ honest.
    let rack = g.R.Rack in
    let old = c.args.rack.now in
    let new = c.add_chunks.new.rack in
    let w = c.add_chunks.new.self in
    stopped_on c.args.self.now w w (string_bytes c.args.file) (blocks_of c.args.bytes.now c.args.ends.now) rack.disk rack.moment rack.left_since old new new (c.in-Err.ensures.added honest)

pub record-requires-clause-may : goal.record-requires-clause-may
record-requires-clause-may g c =
    let v = c.args.self.now in
    let u = c.add_chunks.new.self in
    let name = string_bytes c.args.file in
    let blocks = blocks_of c.args.bytes.now c.args.ends.now in
    subst (λ (l : List (List ℕ)). MayAppendTo (shapes_in u) (ToA (FileRecord name l))) (sym c.requires.names)
    (may_add_it v name blocks c.requires.may c.requires.lawful (omega (arith, c.requires.few, count_blocks 0 c.args.bytes.now c.args.ends.now)) c.requires.within u c.in_default.ensures.adds.0)

pub returns-clause-adds : goal.returns-clause-adds
returns-clause-adds g c =
    let name = string_bytes c.args.file in
    let u = c.add_chunks.new.self in
    let w = c.record.new.self in
    added_all c.args.self.now u w name (blocks_of c.args.bytes.now c.args.ends.now) c.record.result c.requires.fit c.requires.room c.in_default.ensures.adds
    (subst (λ (l : List (List ℕ)). AppendsOne u w (ToA (FileRecord name l)) c.record.result) c.requires.names c.record.ensures.appends)

pub returns-clause-added : goal.returns-clause-added
returns-clause-added g c = λ honest.
    let rack = g.R.Rack in
    let old = c.args.rack.now in
    let mid = c.add_chunks.new.rack in
    let new = c.record.new.rack in
    let name = string_bytes c.args.file in
    let blocks = blocks_of c.args.bytes.now c.args.ends.now in
    let u = c.add_chunks.new.self in
    let w = c.record.new.self in
    let e = c.in_default.ensures in
    let still = e.honest ∙ honest in
    added_on c.args.self.now u w name blocks rack.disk rack.moment rack.left_since old mid new c.record.result e.adds c.requires.may c.requires.lawful
    (omega (arith, c.requires.few, count_blocks 0 c.args.bytes.now c.args.ends.now)) c.requires.within (e.added honest)
    (subst (λ (l : List (List ℕ)). AddsTo rack.disk rack.moment rack.left_since refuses mid new u w (ToA (FileRecord name l)) c.record.result) c.requires.names (c.record.ensures.adds still))
