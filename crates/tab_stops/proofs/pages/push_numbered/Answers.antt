use Rattle.tab_stops.proofs.PageLemmas.{page_none}
use Rattle.tab_stops.proofs.pages.push_numbered.Goals as goal

pub returns-then-not-is_whole : goal.returns-then-not-is_whole
returns-then-not-is_whole c = λ bins characters paragraphs.
    page_none bins c.args.wd.now c.args.number c.args.places.now.items (λ is.
    absurd (cc (c.if-not-is_whole.ensures.1 is.apart)))
