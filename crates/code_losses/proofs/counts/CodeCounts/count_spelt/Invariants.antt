use Rattle.std.proofs.Common.{◌≡◌, ◌-◌, List, length}
use Rattle.sprm_table.specs.Sprm.{Prl, SpellsSprmList}
use Rattle.code_losses.specs.Counted.{HasAllCodes, AreCodeCounts}
use Rattle.code_losses.proofs.ListingLemmas.{MeetsFront}
use Rattle.code_losses.proofs.counts.CodeCounts.count_spelt.Given as goal

abbrev pub invariant-loop-code : goal.invariant-loop-code
invariant-loop-code l = record {
  bytes : l.prls.bytes ≡ l.list;
  seen : l.self.seen ≡ l.fn.self.seen;
  codes : HasAllCodes l.self;
  front : (prls : List Prl) (lists : List (List Prl)) → SpellsSprmList l.list prls → AreCodeCounts lists l.fn.self →
      MeetsFront prls l.prls lists l.self;
}

abbrev pub decreases-loop-code : goal.decreases-loop-code
decreases-loop-code l = length l.prls.bytes - l.prls.at
