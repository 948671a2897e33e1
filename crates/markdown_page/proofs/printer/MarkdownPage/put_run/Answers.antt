-- The units, some at once.
use Rattle.std.proofs.Common.{◌≡◌, ◌<◌, ◌≤◌, ℕ, List, length, take, take_all, subst, sym, arith}
use Rattle.std.specs.Prelude.{slice_range}
use Rattle.glyph_units.specs.Glyphs.{unit_places}
use Rattle.markdown_page.specs.Printed.{PutsPlaces}
use Rattle.markdown_page.specs.Shape.{Places}
use Rattle.markdown_page.proofs.PutLemmas.{places_none, places_then}
use Rattle.markdown_page.proofs.RunLemmas.{places_more}
use Rattle.markdown_page.proofs.printer.MarkdownPage.put_run.Goals as goal

pub loop-done-init : goal.loop-done-init
loop-done-init g c = record {
  inside = omega arith;
  puts = places_none g.K.Sink c.args.out.now c.args.self.now;
}

pub loop-done-preserved : goal.loop-done-preserved
loop-done-preserved g c =
    let units = c.args.units.now in
    let path = c.args.to.now in
    let old = c.loop-done in
    let some = c.put_some-done in
    let ahead = some.ensures.ahead in
    record {
      inside = some.ensures.within;
      puts =
          subst (λ (places : Places). PutsPlaces g.K.Sink c.args.out.now c.args.self.now some.new.out some.new.self places)
          (places_more path units old.done some.result (omega (arith, ahead)))
          (places_then g.K.Sink c.args.out.now old.out some.new.out c.args.self.now old.self some.new.self (unit_places path
          (take old.done units)) (unit_places path (slice_range units old.done some.result)) old.invariant.puts
          some.ensures.puts);
    }

pub returns : goal.returns
returns g c =
    let units = c.args.units.now in
    let old = c.loop-done in
    subst (λ (us : List ℕ). PutsPlaces g.K.Sink c.args.out.now c.args.self.now old.out old.self (unit_places c.args.to.now
    us)) (take_all old.done units (omega arith)) old.invariant.puts
