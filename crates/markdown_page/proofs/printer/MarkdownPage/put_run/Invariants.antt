use Rattle.std.proofs.Common.{◌≤◌, ◌-◌, length, take}
use Rattle.glyph_units.specs.Glyphs.{unit_places}
use Rattle.markdown_page.specs.Printed.{PutsPlaces}
use Rattle.markdown_page.proofs.printer.MarkdownPage.put_run.Given as goal

-- the units so far were put
abbrev pub invariant-loop-done : goal.invariant-loop-done
invariant-loop-done g l = record {
  inside : l.done ≤ length l.units;
  puts : PutsPlaces g.K.Sink l.fn.out l.fn.self l.out l.self (unit_places l.to (take l.done l.units));
}

abbrev pub decreases-loop-done : goal.decreases-loop-done
decreases-loop-done g l = length l.units - l.done
