use Rattle.std.proofs.Common.{List, [], ℕ, ◌∙◌, ap, length, replicate}
use Rattle.volume_disk.specs.Record.{past_of}
use Rattle.volume_disk.specs.declared.recorded.Entry.{Entry}
use Rattle.volume_disk.proofs.Recording.{same_record, bases_of_blank}
use Rattle.volume_disk.proofs.recorded.RecordedDevices.new.Goals as goal

pub returns : goal.returns
returns c =
    let six : ℕ → List (List ℕ) = λ n. replicate n [] in
    same_record _ _ _ _ _ _ _ _ _ _ _
    (bases_of_blank c.args.room c.in_ok-blank_devices.field-0.items c.in_ok-blank_devices.ensures.blank ∙ ap six c.in_ok-blank_devices.ensures.six)
    (ap (λ (l : List Entry). past_of c.in_ok-with_capacity-2.field-0.items l) c.in_ok-with_capacity.ensures.items) (ap length c.in_ok-with_capacity-2.ensures.items)
