use Rattle.recipe_reader.proofs.Again.{leads_again}
use Rattle.recipe_reader.proofs.ReadBack.{reads_back}
use Rattle.recipe_reader.proofs.writing.written_laws.Goals as goal

pub returns : goal.returns
returns c = record { rows = reads_back; reads_back = leads_again }
