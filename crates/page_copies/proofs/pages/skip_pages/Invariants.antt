use Rattle.page_copies.proofs.PageLemmas.{PagesFront}
use Rattle.page_copies.proofs.pages.skip_pages.Given as goal

abbrev pub invariant-loop-number : goal.invariant-loop-number
invariant-loop-number l =
    PagesFront (record { characters = l.characters; paragraphs = l.paragraphs }) l.fn.wd l.wd l.number
