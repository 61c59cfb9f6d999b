use Rattle.std.proofs.Common.{◌∙◌, ◌+◌, ℕ, ap, length}
use Rattle.std.proofs.lemmas.List.{length_push}
use Rattle.std.proofs.lemmas.List.Elements.{All-push, All-same}
use Rattle.volume_disk.specs.Record.{IsBlank}
use Rattle.volume_disk.proofs.recorded.blank_devices.Goals as goal

pub loop-count-preserved : goal.loop-count-preserved
loop-count-preserved c =
    let device = c.in_ok-new.field-0 in
    let blank : IsBlank c.args.room device = record { base = c.in_ok-new.ensures.base; room = c.in_ok-new.ensures.room; rest = c.in_ok-new.ensures.rest } in
    let items = c.in_ok-push.ensures.items in
    record {
      count = ap length items ∙ length_push c.loop-count.devices.items device ∙ ap (λ (n : ℕ). n + 1) c.loop-count.invariant.count;
      blank = All-same (IsBlank c.args.room) _ _ items (All-push (IsBlank c.args.room) c.loop-count.devices.items device c.loop-count.invariant.blank blank);
    }
