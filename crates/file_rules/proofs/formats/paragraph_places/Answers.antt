use Rattle.std.proofs.Common.{◌≡◌, ◌∙◌, ap, sym, ◌+◌, ◌≤◌, drop, filter, length, map, subst, arith}
use Rattle.std.specs.List.{range_with_len}
use Rattle.std.specs.Prelude.{slice_index}
use Rattle.doc_bits.specs.Rules.{IsLeast, Nowhere}
use Rattle.file_rules.specs.FormatRules.{ends_paragraph, judged_places, judged_units}
use Rattle.file_rules.specs.EndSearch.{BeginUpTo, IsSoIn}
use Rattle.file_rules.proofs.FormatLemmas.{one-added, walk_on}
use Rattle.file_rules.proofs.EndLemmas.{met_behind, none_first, none_nowhere, none_up_to}
use Rattle.file_rules.proofs.formats.paragraph_places.Goals as goal

pub next_end-requires-clause-main : goal.next_end-requires-clause-main
next_end-requires-clause-main c =
    let main = c.story_len-main_len.ensures.count in
    omega (arith, c.loop-end.invariant.main, main, c.judged_units-units.ensures.all)

pub loop-end-preserved : goal.loop-end-preserved
loop-end-preserved c =
    let source = c.args.source.now in
    let so_far = c.loop-end.invariant in
    let all = judged_places source in
    let ends = ends_paragraph source c.args.sections.now in
    let place = slice_index all in
    let end = c.in-Some.end in
    let cp = c.loop-end.cp in
    let main = c.story_len-main_len.ensures.count in
    let units = c.judged_units-units.ensures.units in
    let first : IsLeast (λ a b. a ≤ b) (IsSoIn ends cp (length (judged_units source))) end =
    rw (so_far.same, so_far.main, main, units) at c.in-Some.ensures.first in
    let behind = first.broken.behind in
    let within = first.broken.within in
    let units_len = ap length units in
    let before : c.loop-end.places.items ≡ map place (filter ends (range_with_len 0 end)) =
    so_far.found ∙ none_up_to ends place cp end behind
    (none_first ends cp (length (judged_units source)) end first) in
    let walk = c.loop-end.walk in
    let walked = walk_on all walk.rest walk.passed end (omega (arith, so_far.behind)) so_far.rest in
    let passed = c.place_of.ensures.passed in
    let same = c.next_end.ensures.sections ∙ so_far.same in
    let met = met_behind _ _ end (end + 1) c.in-Some.ensures.met (omega arith) in
    record {
      found = one-added ends place end c.place_of.result c.loop-end.places.items c.push.new.self.items
          first.broken.is_so (c.place_of.ensures.place ∙ walked.1) c.in_ok-push.ensures.items before;
      within = omega arith;
      behind = omega arith;
      rest = c.place_of.ensures.rest ∙ (walked.0 ∙ ap (λ n. drop n all) (sym passed));
      met = subst (λ s. BeginUpTo s c.next_end.new.ends.met (end + 1)) same met;
      same = same;
      main = c.next_end.ensures.main ∙ so_far.main;
    }

pub returns : goal.returns
returns c =
    let source = c.args.source.now in
    let so_far = c.loop-end.invariant in
    let ends = ends_paragraph source c.args.sections.now in
    let cp = c.loop-end.cp in
    let len = length (judged_units source) in
    let main = c.story_len-main_len.ensures.count in
    let units = c.judged_units-units.ensures.units in
    let none : Nowhere (IsSoIn ends cp len) =
    rw (so_far.same, so_far.main, main, units) at c.in_default.ensures.first in
    let units_len = ap length units in
    let within : cp ≤ len = omega (arith, so_far.within) in
    so_far.found ∙ none_up_to ends (slice_index (judged_places source)) cp len within (none_nowhere ends cp len none)
