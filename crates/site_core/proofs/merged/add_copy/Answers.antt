use Rattle.std.proofs.Common.{sym, ◌∙◌}
use Rattle.site_core.proofs.Merging.{no_room}
use Rattle.site_core.proofs.merged.add_copy.Goals as goal

pub returns-then-not-may_add_file : goal.returns-then-not-may_add_file
returns-then-not-may_add_file c =
    no_room c.args.index.now.shape c.args.name.now c.args.list.now c.file_count-files.ensures.keeps c.requires.lawful c.requires.lacking c.requires.held c.requires.short (sym c.may_add_file.ensures.is ∙ c.if-not-may_add_file.true)
