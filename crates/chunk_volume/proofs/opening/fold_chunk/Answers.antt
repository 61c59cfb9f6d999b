use Rattle.std.proofs.Common.{◌≡◌, ◌+◌, ◌-◌, ℕ, Bool, true, false, Option, Some, None, length, drop, sym, ◌∙◌, ap, arith, rules, length-drop}
use Rattle.std.specs.Prelude.{is_some}
use Rattle.std.specs.Option.{option_map}
use Rattle.std.specs.FinMap as map
use Rattle.site_forms.specs.Volumes.{Shape}
use Rattle.chunk_volume.proofs.Adding.{before_with}
use Rattle.chunk_volume.proofs.Foldings.{chunk_stays_out, chunk_folded, front_whole}
use Rattle.chunk_volume.proofs.Gathering.{stand_as}
use Rattle.volume_index.specs.declared.index.Extent.{Extent}
use Rattle.chunk_volume.proofs.opening.fold_chunk.Goals as goal

told : {X Y : Type 0} (f : X → Y) (o : Option X) (held : Option Y) (b : Bool) → option_map f o ≡ held → b ≡ is_some o → is_some held ≡ b
told f None held b is same = ap is_some (sym is) ∙ sym same
told f (Some x) held b is same = ap is_some (sym is) ∙ sym same

pub returns-then-is_some-clause-folds : goal.returns-then-is_some-clause-folds
returns-then-is_some-clause-folds c = λ gate body placed long front r is.
    let old = c.args.index.now in
    let name = c.in-Some.name in
    let chunk = c.in-Some.ensures.some in
    let whole : length c.args.front.now ≡ 33 = search rules in
    let held : map.contains_key old.shape.chunks name ≡ true = told (λ (e : Extent). e.len) c.extent.result _ true c.extent.ensures.len c.if-is_some.ensures in
    chunk_stays_out old body name (drop 33 body) (chunk.record_is body long (front_whole c.args.front.now body whole (omega (arith, long, chunk.some)) front)) held r is

pub overflow_add-place : goal.overflow_add-place
overflow_add-place c = omega (arith, c.requires.low, c.in-Some.ensures.some.some, c.from-front_len.ensures)

pub returns-clause-within : goal.returns-clause-within
returns-clause-within c = λ gate placed before yes.
    let old = c.args.index.now in
    let new = c.add_chunk.new.self in
    let name = c.in-Some.name in
    let chunk = c.in-Some.ensures.some in
    let p = c.args.place.at + c.from-front_len.result in
    let l = c.args.place.len - 33 in
    let after = c.args.place.at + c.args.place.len in
    stand_as after (map.insert old.places name p) new.places (map.insert old.shape.chunks name l) new.shape.chunks c.in_ok-add_chunk.ensures.places (ap (λ (s : Shape). s.chunks) c.in_ok-add_chunk.ensures.shape)
    (before_with gate after old.places old.shape.chunks name p l (omega (arith, placed)) (omega (arith, c.from-front_len.ensures, chunk.some)) before)

pub returns-clause-folds : goal.returns-clause-folds
returns-clause-folds c = λ gate body placed long front.
    let old = c.args.index.now in
    let new = c.add_chunk.new.self in
    let name = c.in-Some.name in
    let chunk = c.in-Some.ensures.some in
    let whole : length c.args.front.now ≡ 33 = search rules in
    let lacking : map.contains_key old.shape.chunks name ≡ false = told (λ (e : Extent). e.len) c.extent.result _ false c.extent.ensures.len c.if-is_some.ensures in
    let p : c.args.place.at + c.from-front_len.result ≡ gate + 38 = omega (arith, placed, c.from-front_len.ensures) in
    chunk_folded gate old new body name (drop 33 body) (c.args.place.len - 33) (chunk.record_is body long (front_whole c.args.front.now body whole (omega (arith, long, chunk.some)) front))
    (length-drop 33 body ∙ ap (λ (n : ℕ). n - 33) long) lacking c.in_ok-add_chunk.ensures.shape (c.in_ok-add_chunk.ensures.places ∙ ap (λ (n : ℕ). map.insert old.places name n) p)
