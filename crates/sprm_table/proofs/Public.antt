-- What other crates may cite of these proofs.

-- Faults of lists of sprms: what was passed without one, and that none comes before its end.
pub use Rattle.sprm_table.proofs.FaultLemmas.{Passed, accepted_no_fault, passed_end, passed_none, passed_step}
pub use Rattle.sprm_table.proofs.FaultLemmas.{refused_first}
-- Operands: how their bytes tell where the value ends.
pub use Rattle.sprm_table.proofs.OperandLemmas.{IsExtent, count_len, no_operand, operand_at}
-- Lists of sprms: what their bytes begin with, and that bytes spell one list at most.
pub use Rattle.sprm_table.proofs.SprmLemmas.{drop-spelling, length-spelling, prl_at, prl_moved, spells_end}
pub use Rattle.sprm_table.proofs.SprmLemmas.{spells_joined, spelt_unique}
