use Rattle.std.proofs.Common.{inl, [], refl}
use Rattle.site_forms.specs.VolumeRecords.VolumeRecord.{DropChunkRecord}
use Rattle.device_pieces.proofs.Quiets.{quiet_begins}
use Rattle.seed_mover.specs.Acting.{drop_chunk_from}
use Rattle.seed_mover.specs.Entries.{append_to}
use Rattle.seed_mover.proofs.Acted.{acts_append, carried_append}
use Rattle.seed_mover.proofs.Copying.{append_state, drops_no_bytes, next_by, no_bytes_left}
use Rattle.seed_mover.proofs.NextFacts.{drop_chunk_append}
use Rattle.seed_mover.proofs.site.Site.drop_next.Goals as goal

pub record-requires-clause-may : goal.record-requires-clause-may
record-requires-clause-may g c =
    let v = c.args.self.now in
    let side = c.args.side in
    let chunk = c.args.chunk.now in
    inl (next_by v (append_to side (DropChunkRecord chunk)) (drop_chunk_from side chunk) [] c.requires.next (drops_no_bytes side chunk) (drop_chunk_append v side chunk))

pub returns-clause-carries : goal.returns-clause-carries
returns-clause-carries g c =
    let v = c.args.self.now in
    let side = c.args.side in
    let chunk = c.args.chunk.now in
    let x = append_to side (DropChunkRecord chunk) in
    acts_append v c.record.new.self x (drop_chunk_from side chunk) c.record.result c.requires.fresh (next_by v x (drop_chunk_from side chunk) [] c.requires.next (drops_no_bytes side chunk) (drop_chunk_append v side chunk)) refl c.record.ensures.appends

pub returns-clause-carried : goal.returns-clause-carried
returns-clause-carried g c = λ s honest stands is.
    let rack = g.R.Rack in
    let old = c.args.rack.now in
    let v = c.args.self.now in
    let side = c.args.side in
    let chunk = c.args.chunk.now in
    let x = append_to side (DropChunkRecord chunk) in
    carried_append rack.disk rack.moment rack.left_since old old c.record.new.rack v c.record.new.self s x is (λ y left. g.met.R.Rack.only_now _ y honest left)
    (quiet_begins rack.moment rack.left_since old (rack.disk old) (λ y left. g.met.R.Rack.only_now _ y honest left)) stands (drop_chunk_from side chunk) c.record.result c.requires.next
    (append_state v (rack.disk old) s x (drop_chunk_from side chunk) [] stands (drop_chunk_append v side chunk) (no_bytes_left s side chunk)) c.record.ensures.appends (c.record.ensures.adds honest)
