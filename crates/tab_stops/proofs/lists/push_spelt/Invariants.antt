use Rattle.std.proofs.Common.{◌≡◌, ◌-◌, ◌≤◌, List, length}
use Rattle.sprm_table.specs.Sprm.{Prl, SpellsSprmList}
use Rattle.tab_stops.proofs.ListLemmas.{StopsFront}
use Rattle.tab_stops.proofs.lists.push_spelt.Given as goal

-- the first entries were gone through
abbrev pub invariant-loop-code : goal.invariant-loop-code
invariant-loop-code l = record {
  bytes : l.prls.bytes ≡ l.list;
  place : l.at ≡ l.prls.at;
  within : l.at ≤ length l.list;
  front : (prls : List Prl) → SpellsSprmList l.list prls →
      StopsFront prls l.prls l.from l.fn.places.items l.places.items;
}

abbrev pub decreases-loop-code : goal.decreases-loop-code
decreases-loop-code l = length l.prls.bytes - l.prls.at
