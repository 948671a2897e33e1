-- What other crates may cite of these proofs.

-- A list is skipped in one way.
pub use Rattle.prl_skips.proofs.OneLemmas.{or_one, puts_one, rest_one, spelt_accepted}
-- A range of a list in place of which another one is put.
pub use Rattle.prl_skips.proofs.RangeLemmas.{byte_of_range, drop_range, front_same, put_after, put_before, put_length}
pub use Rattle.prl_skips.proofs.RangeLemmas.{put_range, range_same}
-- A list without a fault has none once its codes are skipped.
pub use Rattle.prl_skips.proofs.RightLemmas.{right_skips}
-- Skipped entries do what the entries do.
pub use Rattle.prl_skips.proofs.SkipLemmas.{accepted_skips, act_skips, make_skips, modify_skips, skipped_again}
pub use Rattle.prl_skips.proofs.SkipLemmas.{style_skips}
