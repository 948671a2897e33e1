use Rattle.std.proofs.Common.{◌≡◌, ◌∙◌, sym, arith, length, true}
use Rattle.std.proofs.lemmas.Bool.{le-ltb}
use Rattle.doc_places.specs.Places.{lead}
use Rattle.doc_places.proofs.Public.{lead_few, lead_on}
use Rattle.doc_html.proofs.anchors.begins_before.Goals as goal

pub returns-then-number-len-clause-is : goal.returns-then-number-len-clause-is
returns-then-number-len-clause-is c =
    let few = lead_few c.args.bookmarks.now c.args.end in
    let behind = c.if-number-len.true in
    sym (le-ltb c.args.number (lead c.args.bookmarks.now c.args.end) (omega (arith, few, behind)))

pub returns-clause-is : goal.returns-clause-is
returns-clause-is c =
    lead_on c.args.bookmarks.now c.args.end c.args.number c.get.result.now c.requires c.get.ensures
