use Rattle.std.specs.Prelude.{slice_index}
use Rattle.std.proofs.Common.{◌≡◌, ◌∙◌, [], arith}
use Rattle.std.proofs.lemmas.Grind.{get_or_default_zero}
use Rattle.page_copies.specs.Pages.{BinTables}
use Rattle.tab_stops.specs.Pages.{AreStopsAt}
use Rattle.tab_stops.proofs.ListLemmas.{joined_more}
use Rattle.tab_stops.proofs.pages.page_stops.Goals as goal

pub loop-number-preserved : goal.loop-number-preserved
loop-number-preserved c =
    let number = c.loop-number.number in
    let chars = c.in_ok-chars.chars.items in
    let pars = c.in_ok-pars.pars.items in
    let bins : BinTables = record { characters = c.args.characters.now; paragraphs = c.args.paragraphs.now } in
    let no_chars = get_or_default_zero chars number c.index.result.now
    (omega (arith, c.loop-number-test.true, c.in_ok-chars.ensures.len)) in
    let no_pars = get_or_default_zero pars number c.index-in-loop-number.result.now
    (omega (arith, c.loop-number-test.true, c.in_ok-pars.ensures.len)) in
    let first : c.index.result.now ≡ slice_index chars number = omega (arith, c.index.ensures, no_chars) in
    let second : c.index-in-loop-number.result.now ≡ slice_index pars number =
    omega (arith, c.index-in-loop-number.ensures, no_pars) in
    joined_more (AreStopsAt bins c.args.wd.now) number [] c.loop-number.places.items
    c.push_numbered.new.places.items c.loop-number.invariant
    (c.in_ok-push_numbered.ensures bins
    (first ∙ c.in_ok-chars.ensures.marks number (omega (arith, c.loop-number-test.true)))
    (second ∙ c.in_ok-pars.ensures.marks number (omega (arith, c.loop-number-test.true))))
