use Rattle.save_laws.proofs.TableLemmas.{tables_differ_by_own_parts}
use Rattle.save_laws.proofs.bounds.tables_differ_by_own_parts.Goals as goal

pub returns : goal.returns
returns c = tables_differ_by_own_parts
