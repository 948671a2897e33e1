use Rattle.edit_generator.proofs.EditRunLemmas.{few_added}
use Rattle.edit_generator.proofs.laws.edits_add_few_runs.Goals as goal

pub returns : goal.returns
returns c = few_added
