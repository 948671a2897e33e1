use Rattle.tab_stops.proofs.SheetLemmas.{sheet_wrong}
use Rattle.tab_stops.proofs.sheets.push_sheet_stops.Goals as goal

pub returns-in-Some : goal.returns-in-Some
returns-in-Some c =
    sheet_wrong c.args.part.now c.args.at c.in-Some.field-0 c.args.places.now.items c.in-Some.ensures.first
