use Rattle.std.proofs.Common.{List, ℕ, length, sym, ap, subst, arith}
use Rattle.std.specs.Prelude.{Err}
use Rattle.std.proofs.lemmas.List.{length-map}
use Rattle.sha2.specs.Sha256.{sha256}
use Rattle.seed_mover.specs.declared.errors.SiteError.{SiteError}
use Rattle.seed_mover.specs.PutParts.{ReadiesVolume}
use Rattle.seed_mover.specs.Putting.{FindsBlocks, blocks_of}
use Rattle.seed_mover.proofs.BlockLists.{blocks_are, count_blocks, names_many}
use Rattle.seed_mover.proofs.PutCounts.{counts_few}
use Rattle.seed_mover.proofs.PutReady.{counts_told, found_compared, found_room, past_told, room_made, told_compared, told_room, within_told}
use Rattle.seed_mover.proofs.Same.{same_itself}
use Rattle.seed_mover.proofs.putting.ready.ready_blocks.Goals as goal

pub limit_passed-requires-clause-names : goal.limit_passed-requires-clause-names
limit_passed-requires-clause-names g c = omega (arith, c.requires.few, (counts_few c.holding.result.now.shape c.args.names.now c.counts_of-counts.result c.counts_of-counts.ensures).0, ap (λ (l : List (List ℕ)). length l) c.requires.names, length-map (blocks_of c.args.bytes.now c.args.ends.now) sha256, count_blocks 0 c.args.bytes.now c.args.ends.now)

pub limit_passed-requires-clause-unused : goal.limit_passed-requires-clause-unused
limit_passed-requires-clause-unused g c = omega (arith, c.requires.few, (counts_few c.holding.result.now.shape c.args.names.now c.counts_of-counts.result c.counts_of-counts.ensures).1, ap (λ (l : List (List ℕ)). length l) c.requires.names, length-map (blocks_of c.args.bytes.now c.args.ends.now) sha256, count_blocks 0 c.args.bytes.now c.args.ends.now)

pub counts_of-counts-requires-clause-few : goal.counts_of-counts-requires-clause-few
counts_of-counts-requires-clause-few g c = omega (arith, c.requires.few, names_many c.args.bytes.now c.args.ends.now c.args.names.now c.requires.names)

pub returns-in-Some-clause-readies : goal.returns-in-Some-clause-readies
returns-in-Some-clause-readies g c =
    let v = c.args.volume.now in
    let name = c.args.name.now in
    let bytes = c.args.bytes.now in
    let ends = c.args.ends.now in
    let blocks = blocks_of bytes ends in (
      past_told v name blocks c.args.names.now c.counts_of-counts.result c.holding.result.now.shape c.holding-2.result.now.shape c.requires.lacking c.holding.ensures.keeps (blocks_are 0 (length bytes) bytes ends c.requires.ends (omega arith)) c.requires.names c.holding.ensures.shape
          c.holding-2.ensures.shape c.counts_of-counts.ensures c.in-Some.what c.in-Some.ensures,
      same_itself v,
    )

pub returns-in-Err-clause-readies : goal.returns-in-Err-clause-readies
returns-in-Err-clause-readies g c =
    let v = c.args.volume.now in
    let name = c.args.name.now in
    let bytes = c.args.bytes.now in
    let ends = c.args.ends.now in
    let blocks = blocks_of bytes ends in
    let within = within_told v name blocks c.args.names.now c.counts_of-counts.result c.holding.result.now.shape c.holding-2.result.now.shape c.requires.lacking c.holding.ensures.keeps (blocks_are 0 (length bytes) bytes ends c.requires.ends (omega arith)) c.requires.names c.holding.ensures.shape c.holding-2.ensures.shape c.counts_of-counts.ensures c.in_default.ensures in
    subst (λ (e : SiteError). ReadiesVolume v v name blocks (Err e)) (sym c.from.ensures) (told_compared v name blocks c.in-Err.error within c.in-Err.ensures.compares)

pub returns-in-Err-clause-finds : goal.returns-in-Err-clause-finds
returns-in-Err-clause-finds g c = λ place a honest stands.
    let blocks = blocks_of c.args.bytes.now c.args.ends.now in
    subst (λ (e : SiteError). FindsBlocks {T = Unit {0}} a blocks (Err e)) (sym c.from.ensures) (found_compared c.args.volume.now a blocks c.in-Err.error c.in-Err.ensures.compares (c.in-Err.ensures.finds place a honest stands))

pub returns-in-Err-judge_room-clause-readies : goal.returns-in-Err-judge_room-clause-readies
returns-in-Err-judge_room-clause-readies g c =
    let v = c.args.volume.now in
    let name = c.args.name.now in
    let bytes = c.args.bytes.now in
    let ends = c.args.ends.now in
    let blocks = blocks_of bytes ends in
    let within = within_told v name blocks c.args.names.now c.counts_of-counts.result c.holding.result.now.shape c.holding-2.result.now.shape c.requires.lacking c.holding.ensures.keeps (blocks_are 0 (length bytes) bytes ends c.requires.ends (omega arith)) c.requires.names c.holding.ensures.shape c.holding-2.ensures.shape c.counts_of-counts.ensures c.in_default.ensures in
    told_room v name blocks c.in-Err-judge_room.error within c.in-Err-judge_room.ensures

pub returns-in-Err-judge_room-clause-finds : goal.returns-in-Err-judge_room-clause-finds
returns-in-Err-judge_room-clause-finds g c = λ place a honest stands.
    found_room c.args.volume.now a c.args.name.now (blocks_of c.args.bytes.now c.args.ends.now) c.in-Err-judge_room.error c.in-Err-judge_room.ensures (c.in_default-compare_blocks.ensures.finds place a honest stands)

pub reserve-requires : goal.reserve-requires
reserve-requires g c = omega (arith, c.max-body.ensures, c.longest_body.ensures.most, names_many c.args.bytes.now c.args.ends.now c.args.names.now c.requires.names, c.requires.few, c.requires.lawful.short)

pub returns-in-Ok-clause-readies : goal.returns-in-Ok-clause-readies
returns-in-Ok-clause-readies g c =
    let v = c.args.volume.now in
    let name = c.args.name.now in
    let bytes = c.args.bytes.now in
    let ends = c.args.ends.now in
    let blocks = blocks_of bytes ends in
    let within = within_told v name blocks c.args.names.now c.counts_of-counts.result c.holding.result.now.shape c.holding-2.result.now.shape c.requires.lacking c.holding.ensures.keeps (blocks_are 0 (length bytes) bytes ends c.requires.ends (omega arith)) c.requires.names c.holding.ensures.shape c.holding-2.ensures.shape c.counts_of-counts.ensures c.in_default.ensures in
    let counts = c.counts_of-counts.result in
    let new = counts_told v name blocks c.args.names.now counts c.holding.result.now.shape c.holding-2.result.now.shape c.requires.lacking c.holding.ensures.keeps (blocks_are 0 (length bytes) bytes ends c.requires.ends (omega arith)) c.requires.names c.holding.ensures.shape c.holding-2.ensures.shape c.counts_of-counts.ensures in
    let many = names_many bytes ends c.args.names.now c.requires.names in
    let e = c.in-Ok.ensures in
    (within, c.in_default-judge_room.ensures, e.same, room_made v c.reserve.new.self name blocks counts c.longest_body.result c.max-body.result new e.same e.chunks e.files e.body c.longest_body.ensures.all (omega (arith, c.max-body.ensures)) (omega (arith, c.max-body.ensures, many, count_blocks 0 bytes ends)))
