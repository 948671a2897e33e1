-- What other crates may cite of these proofs.

-- What checking a file says of a run.
pub use Rattle.run_stages.proofs.JudgedLemmas.{refused_one}
-- Which statuses endings have.
pub use Rattle.run_stages.proofs.OutcomeLemmas.{after_reading_inside, said_inside, status_said}
-- Where what a name holds is known, the stage that reads it has one ending.
pub use Rattle.run_stages.proofs.SaidLemmas.{Says, reads_one, settled}
-- What comes of reading a name is an ending of the stage that reads it, and has its cause.
pub use Rattle.run_stages.proofs.StageLemmas.{caused_later, file_caused, file_map, file_reads, follow_reads}
pub use Rattle.run_stages.proofs.StageLemmas.{follows_caused, follows_reads, inside_caused, read_twice, stopped_caused}
pub use Rattle.run_stages.proofs.StageLemmas.{taken_weaker, whole_follows}
