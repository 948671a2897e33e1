use Rattle.std.proofs.Common.{◌≡◌, ◌≤◌, ◌-◌, drop, filter, length, map}
use Rattle.std.specs.List.{range_with_len}
use Rattle.std.specs.Prelude.{slice_index}
use Rattle.file_rules.specs.FormatRules.{ends_paragraph, judged_places}
use Rattle.file_rules.specs.EndSearch.{BeginUpTo}
use Rattle.file_rules.proofs.formats.paragraph_places.Given as goal

-- the places of the first ends, those that the walk has still before it, and the sections that are met
abbrev pub invariant-loop-end : goal.invariant-loop-end
invariant-loop-end l =
    let ends = filter (ends_paragraph l.source l.sections) (range_with_len 0 l.cp) in
    record {
      found : l.places.items ≡ map (slice_index (judged_places l.source)) ends;
      within : l.cp ≤ length l.units;
      behind : l.walk.passed ≤ l.cp;
      rest : l.walk.rest ≡ drop l.walk.passed (judged_places l.source);
      met : BeginUpTo l.sections l.ends.met l.cp;
      same : l.ends.sections.now ≡ l.sections;
      main : l.ends.main_len ≡ l.main_len;
    }

abbrev pub decreases-loop-end : goal.decreases-loop-end
decreases-loop-end l = length l.units - l.cp
