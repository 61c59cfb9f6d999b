use Rattle.file_names.proofs.Marks.{unmarked_bytes}
use Rattle.file_names.proofs.file_name_laws.Goals as goal

pub returns-clause-unmarked : goal.returns-clause-unmarked
returns-clause-unmarked c = unmarked_bytes
