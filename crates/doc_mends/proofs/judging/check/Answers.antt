use Rattle.std.proofs.Common.{◌≡◌, ◌∙◌, ◌<◌, ◌≤◌, rules, ap, sym, subst, arith, List, length, map, take}
use Rattle.std.specs.Prelude.{All}
use Rattle.std.proofs.lemmas.List.{length-map}
use Rattle.doc_bits.specs.declared.places.Story.{Story}
use Rattle.doc_bits.proofs.Public.{All_at, take_step}
use Rattle.prop_map.specs.Settings.{Properties}
use Rattle.prop_map.specs.Formed.{IsPropertyMap, character_groups}
use Rattle.run_lists.specs.Spread.{expanded, total_len}
use Rattle.run_lists.proofs.Public.{length-spread}
use Rattle.std.specs.Prelude.{slice_range}
use Rattle.std.specs.List.{list_all}
use Rattle.doc_model.specs.declared.item.Item.{Item}
use Rattle.doc_model.specs.declared.document.Document.{Document}
use Rattle.doc_patch.specs.Places.{items_at, story_text, HasText, HasRange}
use Rattle.doc_patch.proofs.Public.{any_text}
use Rattle.doc_mends.specs.declared.mends.DeletedRange.{DeletedRange}
use Rattle.doc_mends.specs.Mends.{can_strike, is_short}
use Rattle.doc_mends.specs.Judging.{IsMendVerdict, IsChpWalk}
use Rattle.doc_mends.proofs.BatchLemmas.{items_such}
use Rattle.doc_mends.proofs.MendLemmas.{judged_more}
use Rattle.doc_mends.proofs.judging.check.Goals as goal

pub loop-k-init : goal.loop-k-init
loop-k-init c =
    let main : IsChpWalk c.args.document.now.main c.of-walk.result =
    subst (λ (d : Document). IsChpWalk d.main c.of-walk.result) c.document.view_is c.of-walk.ensures.walk in
    record {
      verdict = search rules;
      walk = subst (λ (s : Story). IsChpWalk (items_at c.args.document.now s) c.of-walk.result)
          (sym c.of-walk.ensures.story) main;
    }

pub toward-walk-requires-clause-there : goal.toward-walk-requires-clause-there
toward-walk-requires-clause-there c =
    let range = c.range_at-range.result in
    any_text c.args.document.now range.story (HasRange range.from range.to)
    (All_at (λ (r : DeletedRange). HasText c.args.document.now r.story (HasRange r.from r.to)) c.args.ranges.now
    c.loop-k.k range c.requires c.range_at-range.ensures)

pub range_stays_short-requires-clause-ordered : goal.range_stays_short-requires-clause-ordered
range_stays_short-requires-clause-ordered c =
    let range = c.range_at-range.result in
    let has = items_such (HasRange range.from range.to) (story_text c.args.document.now range.story)
    (All_at (λ (r : DeletedRange). HasText c.args.document.now r.story (HasRange r.from r.to)) c.args.ranges.now
    c.loop-k.k range c.requires c.range_at-range.ensures) in
    omega (arith, has.0)

pub range_stays_short-requires-clause-within : goal.range_stays_short-requires-clause-within
range_stays_short-requires-clause-within c =
    let range = c.range_at-range.result in
    let text = items_at c.args.document.now range.story in
    let has = items_such (HasRange range.from range.to) (story_text c.args.document.now range.story)
    (All_at (λ (r : DeletedRange). HasText c.args.document.now r.story (HasRange r.from r.to)) c.args.ranges.now
    c.loop-k.k range c.requires c.range_at-range.ensures) in
    let runs = c.toward-walk.ensures.walk.runs in
    omega (
      arith,
      has.1,
      length-spread c.toward-walk.result.runs.now,
      ap length runs,
      length-map text (λ (item : Item). item.chp),
    )

pub loop-k-preserved : goal.loop-k-preserved
loop-k-preserved c =
    let document : Document = c.args.document.now in
    let ranges : List DeletedRange = c.args.ranges.now in
    let range = c.range_at-range.result in
    let walk = c.toward-walk.ensures.walk in
    let can : c.in_ok-can.can ≡ can_strike document range =
    c.in_ok-can.ensures.short
    ∙ ap (λ (chps : List Properties). list_all is_short (slice_range chps range.from range.to)) walk.runs in
    let here = subst (λ (s : Story). IsChpWalk (items_at document s) c.toward-walk.result)
    (sym c.toward-walk.ensures.story) walk in
    record {
      verdict = subst (λ (l : List DeletedRange). IsMendVerdict document l c.add.new.self)
          (sym (take_step ranges c.loop-k.k range c.range_at-range.ensures))
          (judged_more document (take c.loop-k.k ranges) range c.in_ok-can.can c.loop-k.judged c.add.new.self
          c.loop-k.invariant.verdict can c.in_ok-add.ensures);
      walk = record { runs = here.runs; few = here.few; maps = here.maps; at = c.in_ok-can.ensures.at };
    }
