-- What other crates may cite of these proofs.

-- A range of a list of runs, run by run.
pub use Rattle.run_lists.proofs.ChangeLemmas.{part_range}
-- Runs in two parts, and a run in two.
pub use Rattle.run_lists.proofs.CutLemmas.{All-runs, All-spread, run_and_rest, run_range, same_front, spread-drop}
pub use Rattle.run_lists.proofs.CutLemmas.{spread-take, value_in_run}
-- What the calls on runs do, in terms of the runs that they see.
pub use Rattle.run_lists.proofs.RunsLemmas.{extent_of}
-- What lists of runs represent, part by part.
pub use Rattle.run_lists.proofs.SpreadLemmas.{count_within, extent-nil, extent-take, extent_all, extent_more}
pub use Rattle.run_lists.proofs.SpreadLemmas.{length-spread, spread-cons, spread-nil, spread_push}
