use Rattle.chunk_volume.proofs.Puts.{place_inside}
use Rattle.seed_mover.proofs.Listing.{copied_list, held_list, nothing_listed}
use Rattle.seed_mover.proofs.acting.list_in.Goals as goal

pub file_chunks-requires : goal.file_chunks-requires
file_chunks-requires c = place_inside c.args.holding.now.shape.files c.in-Some.place c.args.name.now c.in-Some.ensures

pub returns-in-Some : goal.returns-in-Some
returns-in-Some c = copied_list c.copy_list.result c.file_chunks.result.now _ c.copy_list.ensures (held_list c.args.holding.now.shape c.in-Some.place c.args.name.now c.file_chunks.result.now c.in-Some.ensures c.file_chunks.ensures.list)

pub returns-in-None : goal.returns-in-None
returns-in-None c = nothing_listed c.args.holding.now.shape c.args.name.now c.new.result c.new.ensures.items c.in-None.ensures
