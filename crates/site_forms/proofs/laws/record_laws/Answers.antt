use Rattle.site_forms.proofs.Records.{volume_read, volume_spelled, volume_lawful}
use Rattle.site_forms.proofs.Marks.{journal_read, journal_spelled}
use Rattle.site_forms.proofs.NameTests.{name_test}
use Rattle.site_forms.proofs.laws.record_laws.Goals as goal

pub returns : goal.returns
returns g = record { volume_read = volume_read; volume_spelled = volume_spelled; volume_lawful = volume_lawful; journal_read = journal_read; journal_spelled = journal_spelled; names = name_test }
