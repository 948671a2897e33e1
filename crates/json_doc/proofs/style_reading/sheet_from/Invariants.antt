use Rattle.std.proofs.Common.{◌≡◌, map, take}
use Rattle.serde_json.specs.View.{view}
use Rattle.style_sheet.specs.Formed.{IsFormedSlot}
use Rattle.json_doc.specs.Styles.{slot_json}
use Rattle.json_doc.proofs.ReadLemmas.{AreRead}
use Rattle.json_doc.proofs.style_reading.sheet_from.Given as goal

abbrev pub invariant-loop-i : goal.invariant-loop-i
invariant-loop-i l = record {
  head : l.sheet.head ≡ l.fn.head;
  slots : AreRead slot_json IsFormedSlot (map view (take l.i l.values)) l.sheet.styles;
}
