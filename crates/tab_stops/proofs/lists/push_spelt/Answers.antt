use Rattle.std.specs.Prelude.{slice_range}
use Rattle.std.proofs.Common.{◌∙◌, refl, sym, ap, subst, inl, ◌+◌, ◌≤◌, ◌++◌, arith, length}
use Rattle.sprm_table.specs.Cursor.{SprmCursor}
use Rattle.tab_stops.specs.Lists.{stop_of, stop_places}
use Rattle.tab_stops.proofs.ListLemmas.{front_none, front_more, front_all}
use Rattle.tab_stops.proofs.lists.push_spelt.Goals as goal

pub loop-code-init : goal.loop-code-init
loop-code-init c =
    let start = c.new-prls.ensures in
    record {
      bytes = ap (λ (s : SprmCursor). s.bytes) start;
      place = sym (ap (λ (s : SprmCursor). s.at) start);
      within = omega arith;
      front = λ prls spelt.
          front_none prls c.args.list.now c.new-prls.result c.args.from c.args.places.now.items start spelt;
    }

pub loop-code-preserved : goal.loop-code-preserved
loop-code-preserved c =
    let inv = c.loop-code.invariant in
    let given = c.in-Some.ensures.given in
    let entry = given.entry in
    record {
      bytes = given.bytes ∙ inv.bytes;
      place = sym given.at;
      within = subst (λ l. c.in-Some.end ≤ length l) inv.bytes entry.within;
      front = λ prls spelt.
          let front = inv.front prls spelt in
          front_more prls c.loop-code.prls c.next.new.self c.args.from c.args.places.now.items
          c.loop-code.places.items c.push_stop.new.places.items c.in-Some.code.0 c.in-Some.begin
          c.in-Some.end front given (c.in-Some.ensures.taken front.others front.spelt)
          (c.in_ok-push_stop.ensures
          ∙ (ap (λ n. c.loop-code.places.items ++ stop_of (c.args.from + n) (c.in-Some.code.0, slice_range c.args.list.now c.in-Some.begin c.in-Some.end)) inv.place
          ∙ ap (λ l. c.loop-code.places.items ++ stop_of (c.args.from + c.loop-code.prls.at) (c.in-Some.code.0, l))
          (ap (λ b. slice_range b c.in-Some.begin c.in-Some.end) (sym inv.bytes))));
    }

pub returns : goal.returns
returns c =
    let list = c.requires.spelt in
    let front = c.loop-code.invariant.front list.list list.spelt in
    let none = c.in_default.ensures.taken front.others front.spelt in
    record {
      stops = stop_places c.args.from list.list;
      are_stops = inl (record { prls = list.list; spelt = list.spelt; places_are = refl });
      pushed = front_all list.list c.loop-code.prls c.args.from c.args.places.now.items c.loop-code.places.items front
          none;
    }
