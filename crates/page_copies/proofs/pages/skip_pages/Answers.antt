use Rattle.std.specs.Prelude.{slice_index}
use Rattle.std.proofs.Common.{◌≡◌, ◌∙◌, subst, arith}
use Rattle.std.proofs.lemmas.Grind.{get_or_default_zero}
use Rattle.page_copies.specs.Names.{names_page}
use Rattle.page_copies.specs.Pages.{BinTables, PutsPage, page_kind}
use Rattle.page_copies.proofs.PageLemmas.{pages_more}
use Rattle.page_copies.proofs.pages.skip_pages.Goals as goal

pub loop-number-preserved : goal.loop-number-preserved
loop-number-preserved c =
    let number = c.loop-number.number in
    let chars = c.in_ok-chars.chars.items in
    let pars = c.in_ok-pars.pars.items in
    let bins : BinTables = record { characters = c.args.characters.now; paragraphs = c.args.paragraphs.now } in
    let no_chars = get_or_default_zero chars number c.index.result.now
    (omega (arith, c.loop-number-test.true, c.in_ok-chars.ensures.len)) in
    let no_pars = get_or_default_zero pars number c.index-in-loop-number.result.now
    (omega (arith, c.loop-number-test.true, c.in_ok-pars.ensures.len)) in
    let first : c.index.result.now ≡ slice_index chars number = omega (arith, c.index.ensures, no_chars) in
    let second : c.index-in-loop-number.result.now ≡ slice_index pars number =
    omega (arith, c.index-in-loop-number.ensures, no_pars) in
    let kind : c.marked_kind-kind.result ≡ page_kind bins number =
    c.marked_kind-kind.ensures (names_page bins.characters number) (names_page bins.paragraphs number)
    (first ∙ c.in_ok-chars.ensures.marks number (omega (arith, c.loop-number-test.true)))
    (second ∙ c.in_ok-pars.ensures.marks number (omega (arith, c.loop-number-test.true))) in
    pages_more bins c.args.wd.now c.loop-number.wd c.skip_numbered.new.wd number c.loop-number.invariant
    (omega (arith, c.loop-number-test.true))
    (subst (λ k. PutsPage k number c.loop-number.wd c.skip_numbered.new.wd) kind c.skip_numbered.ensures)
