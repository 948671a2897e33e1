-- What is added to WordDocument, as it is made part by part.
use Rattle.std.proofs.Common.{◌≡◌, ◌∙◌, ℕ, ◌+◌, ◌*◌, ◌/◌, ◌<◌, ◌^◌, List, ◌++◌, length, map, arith}
use Rattle.std.proofs.Common.{append_assoc, length-append}
use Rattle.std.proofs.lemmas.List.{length-map}
use Rattle.cfb_layout.specs.Sectors.{padded_to_unit}
use Rattle.cfb_layout.proofs.Public.{length-padded, length-table}
use Rattle.fkp_pages.specs.declared.kind.PageKind.TheVariants.{Chpx, Papx}
use Rattle.doc_model.specs.declared.item.Item.{Item}
use Rattle.doc_model.specs.Collected.{sections_of}
use Rattle.full_save.specs.WordDocument.{units_bytes}
use Rattle.fast_save_layout.specs.Saves.{FastSave}
use Rattle.fast_save_layout.specs.PlannedSections.{planned_sepxes}
use Rattle.fast_save_layout.specs.Appended.{added_pages, added_pages_end, added_bytes}
use Rattle.fast_save_layout.proofs.ReadyLemmas.{Ready, base_is, pages_whole, have_room}

abbrev pub units_of : FastSave → List ℕ
units_of save = map (λ (item : Item). item.unit) save.added

abbrev pub text_part : FastSave → List ℕ
text_part save = padded_to_unit 512 0 (units_bytes (units_of save))

-- the units and the pages
abbrev pub text_and_pages : FastSave → List ℕ
text_and_pages save = (text_part save ++ (added_pages Chpx save).bytes) ++ (added_pages Papx save).bytes

pub record AreSizes (r : Ready) : Type 0 where
  pub units : length (units_bytes (units_of r.save)) ≡ 2 * length r.save.added
  pub text : length (text_part r.save) ≡ 512 * ((2 * length r.save.added + 511) / 512)
  pub all :
      length (text_and_pages r.save)
      ≡ length (text_part r.save)
      + 512 * (length (added_pages Chpx r.save).starts + length (added_pages Papx r.save).starts)

pub body_sizes : (r : Ready) → AreSizes r
body_sizes r =
    let count = length-map r.save.added (λ (item : Item). item.unit) in
    let table = length-table 2 (units_of r.save) in
    let units : length (units_bytes (units_of r.save)) ≡ 2 * length r.save.added = omega (arith, count, table) in
    let text = length-padded 512 0 (units_bytes (units_of r.save)) (omega arith) in
    let chp = (pages_whole Chpx r).size in
    let pap = (pages_whole Papx r).size in
    let a1 = length-append (text_part r.save ++ (added_pages Chpx r.save).bytes) (added_pages Papx r.save).bytes in
    let a2 = length-append (text_part r.save) (added_pages Chpx r.save).bytes in
    record { units = units; text = omega (arith, text, units); all = omega (arith, a1, a2, chp, pap) }

-- they end where the Sepxes begin
pub body_end : (r : Ready) → r.save.base + length (text_and_pages r.save) ≡ added_pages_end r.save
body_end r =
    let size = body_sizes r in
    let whole = (base_is r).whole in
    omega (arith, size.text, size.all, whole)

pub body_short : (r : Ready) → r.save.base + length (text_and_pages r.save) < 2 ^ 29
body_short r =
    let end = body_end r in
    let pages = (have_room r).pages in
    let room = r.can.room in
    omega (arith, end, pages, room)

pub body_is : (save : FastSave) →
    text_and_pages save ++ planned_sepxes save.places (sections_of save.document.main) ≡ added_bytes save
unfolding added_bytes
body_is save =
    let text = text_part save in
    let chp = (added_pages Chpx save).bytes in
    let pap = (added_pages Papx save).bytes in
    let sepx = planned_sepxes save.places (sections_of save.document.main) in
    append_assoc (text ++ chp) pap sepx ∙ append_assoc text chp (pap ++ sepx)
