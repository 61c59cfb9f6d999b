use Rattle.std.proofs.Common.{◌≡◌, ◌+◌, ◌*◌, ◌<◌, ℕ, List, [], length, take, get_or, sym, ◌∙◌, ap, subst, arith}
use Rattle.std.specs.Prelude.{Ok, Err}
use Rattle.site_forms.specs.Volumes.{Shape}
use Rattle.seed_mover.specs.Blocks.{is_new}
use Rattle.seed_mover.specs.PutParts.{EndsBehind}
use Rattle.seed_mover.specs.Putting.{blocks_of}
use Rattle.seed_mover.proofs.BlockLists.{count_blocks, names_many}
use Rattle.seed_mover.proofs.PutRoom.{room_all, room_done, room_none, room_step, room_stops, room_stops_file}
use Rattle.seed_mover.proofs.putting.ready.judge_room.Goals as goal

pub loop-block-init : goal.loop-block-init
loop-block-init c = room_none c.args.volume.now (blocks_of c.args.bytes.now c.args.ends.now) c.end-end.result c.end-end.ensures.gate c.end-end.ensures.below

pub loop-block-preserved : goal.loop-block-preserved
loop-block-preserved c =
    let v = c.args.volume.now in
    let k = c.loop-block.block in
    let names = c.args.names.now in
    let blocks = blocks_of c.args.bytes.now c.args.ends.now in
    let inside : k < length blocks = omega (arith, c.loop-block-test.true, count_blocks 0 c.args.bytes.now c.args.ends.now) in
    let new = c.is_new_block-is_new.result in
    let is = c.is_new_block-is_new.ensures ∙ ap (λ (s : Shape). is_new s (take k names) (get_or names k [])) c.holding.ensures.shape ∙ ap (λ (l : List (List ℕ)). is_new v.shape (take k l) (get_or l k [])) c.requires.names in
    room_step v c.args.name.now blocks k inside c.loop-block.end c.loop-block.invariant new c.in-Ok.next is
    (λ yes. subst (λ (x : List ℕ). EndsBehind v.log c.loop-block.end (33 + length x) (Ok c.in-Ok.next)) (sym c.block_at.ensures.bytes) (c.in-Ok.ensures.new yes)) c.in-Ok.ensures.other

pub returns-in-Err : goal.returns-in-Err
returns-in-Err c =
    let v = c.args.volume.now in
    let k = c.loop-block.block in
    let names = c.args.names.now in
    let blocks = blocks_of c.args.bytes.now c.args.ends.now in
    let inside : k < length blocks = omega (arith, c.loop-block-test.true, count_blocks 0 c.args.bytes.now c.args.ends.now) in
    let new = c.is_new_block-is_new.result in
    let is = c.is_new_block-is_new.ensures ∙ ap (λ (s : Shape). is_new s (take k names) (get_or names k [])) c.holding.ensures.shape ∙ ap (λ (l : List (List ℕ)). is_new v.shape (take k l) (get_or l k [])) c.requires.names in
    room_stops v c.args.name.now blocks k inside c.loop-block.end c.loop-block.invariant new c.in-Err.error is
    (λ yes. subst (λ (x : List ℕ). EndsBehind v.log c.loop-block.end (33 + length x) (Err c.in-Err.error)) (sym c.block_at.ensures.bytes) (c.in-Err.ensures.new yes)) c.in-Err.ensures.other

pub is_new_block-is_new-requires-clause-there : goal.is_new_block-is_new-requires-clause-there
is_new_block-is_new-requires-clause-there c = omega (arith, c.loop-block-test.true, names_many c.args.bytes.now c.args.ends.now c.args.names.now c.requires.names)

pub overflow_cast-name : goal.overflow_cast-name
overflow_cast-name c = omega (arith, c.requires.lawful.short, c.requires.few, names_many c.args.bytes.now c.args.ends.now c.args.names.now c.requires.names)

pub returns-in-Ok-end_behind : goal.returns-in-Ok-end_behind
returns-in-Ok-end_behind c =
    let v = c.args.volume.now in
    let name = c.args.name.now in
    let end = c.loop-block.end in
    let bytes = c.args.bytes.now in
    let ends = c.args.ends.now in
    let blocks = blocks_of bytes ends in
    let many : length c.args.names.now ≡ length blocks = names_many bytes ends c.args.names.now c.requires.names ∙ sym (count_blocks 0 bytes ends) in
    let so_far = room_all v blocks c.loop-block.block end (omega (arith, c.loop-block-test.false, count_blocks 0 bytes ends)) c.loop-block.invariant in
    room_done v name blocks end so_far c.in-Ok-end_behind.field-0 (subst (λ (n : ℕ). EndsBehind v.log end (2 + length name + 32 * n) (Ok c.in-Ok-end_behind.field-0)) many c.in-Ok-end_behind.ensures)

pub returns-in-Err-end_behind : goal.returns-in-Err-end_behind
returns-in-Err-end_behind c =
    let v = c.args.volume.now in
    let name = c.args.name.now in
    let end = c.loop-block.end in
    let bytes = c.args.bytes.now in
    let ends = c.args.ends.now in
    let blocks = blocks_of bytes ends in
    let many : length c.args.names.now ≡ length blocks = names_many bytes ends c.args.names.now c.requires.names ∙ sym (count_blocks 0 bytes ends) in
    let so_far = room_all v blocks c.loop-block.block end (omega (arith, c.loop-block-test.false, count_blocks 0 bytes ends)) c.loop-block.invariant in
    room_stops_file v name blocks end so_far c.in-Err-end_behind.error (subst (λ (n : ℕ). EndsBehind v.log end (2 + length name + 32 * n) (Err c.in-Err-end_behind.error)) many c.in-Err-end_behind.ensures)
