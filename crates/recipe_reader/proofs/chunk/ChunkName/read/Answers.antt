use Rattle.std.proofs.Common.{◌≡◌, ◌≤◌, ◌/◌, arith, length, take, true}
use Rattle.std.proofs.lemmas.List.{length-take-le}
use Rattle.recipe_reader.proofs.Fields.{too_long, undecoded}
use Rattle.recipe_reader.proofs.chunk.ChunkName.read.Goals as goal

pub returns-then-len-gt-LONGEST_CHUNK_NAME-clause-none : goal.returns-then-len-gt-LONGEST_CHUNK_NAME-clause-none
returns-then-len-gt-LONGEST_CHUNK_NAME-clause-none c = λ _. too_long c.args.text.now c.if-len-gt-LONGEST_CHUNK_NAME.true

pub returns-clause-none : goal.returns-clause-none
returns-clause-none c = λ refused.
    let fits = c.if-len-gt-LONGEST_CHUNK_NAME.false in
    let half = length-take-le (length c.args.text.now / 2) c.self.inside.bytes (omega (arith, c.self.told, fits)) in
    undecoded c.args.text.now _ _ _ half c.decode_to_slice.ensures.value (λ name h.
    let taken : c.is_ok.result ≡ true = rw h.0 at c.is_ok.ensures.value in
    cc (taken, refused))
