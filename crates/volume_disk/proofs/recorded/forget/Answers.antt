use Rattle.std.proofs.Common.{rules}
use Rattle.std.proofs.lemmas.Fn.{filter_same}
use Rattle.volume_disk.specs.Record.{is_entry_elsewhere}
use Rattle.volume_disk.proofs.recorded.forget.Goals as goal

pub returns-clause-items : goal.returns-clause-items
returns-clause-items c = filter_same _ (is_entry_elsewhere c.args.device) _ (λ x b f step. (search rules, search rules)) _ _ c.retain.ensures.filtered
