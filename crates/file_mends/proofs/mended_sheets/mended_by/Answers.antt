use Rattle.std.proofs.Common.{◌≡◌, ap, arith, length}
use Rattle.file_mends.specs.SheetPlaces.{SheetPlace, IsSheetPlace}
use Rattle.file_mends.proofs.SheetLemmas.{no_place, unchanged, sheet_mended}
use Rattle.file_mends.proofs.SlotLemmas.{change_room}
use Rattle.file_mends.proofs.mended_sheets.mended_by.Goals as goal

pub returns-in_default : goal.returns-in_default
returns-in_default c =
    no_place c.args.file.now c.args.container.now c.args.rule c.args.offset c.requires.has
    (rw c.in_default.is at c.sheet_among.ensures)

pub returns-in_default-change : goal.returns-in_default-change
returns-in_default-change c =
    unchanged c.args.file.now c.in-Some.sheet c.args.rule c.args.offset
    (record {
      hold = c.requires.hold;
      contents = c.args.container.now;
      has = c.requires.has;
      among = c.in-Some.ensures;
    })
    (rw c.in_default-change.is at c.in_ok-change.ensures)

pub rewritten-requires : goal.rewritten-requires
rewritten-requires c =
    let sheet = c.in-Some.sheet in
    let view = c.sheet.view_is in
    let room =
    change_room sheet c.args.rule c.args.offset c.in-Some-change.change
    (rw c.in-Some-change.is at c.in_ok-change.ensures) in
    let len = ap length c.as_slice.ensures in
    let at : c.sheet.inside.at ≡ sheet.at = ap (λ (s : SheetPlace). s.at) view in
    let part : length c.sheet.inside.part.now ≡ length sheet.part = ap (λ (s : SheetPlace). length s.part) view in
    omega (arith, room, len, at, part, c.sheet.invariant.0, c.sheet.invariant.1)

pub returns : goal.returns
returns c =
    sheet_mended c.args.file.now c.in-Some.sheet c.args.rule c.args.offset c.in-Some-change.change
    c.in_ok-copy.copy.items c.sheet.inside.sectors.now c.as_slice.result.now
    (record {
      hold = c.requires.hold;
      contents = c.args.container.now;
      has = c.requires.has;
      among = c.in-Some.ensures;
    })
    (rw c.in-Some-change.is at c.in_ok-change.ensures) c.in_ok-copy.ensures
    (ap (λ (s : SheetPlace). s.sectors) c.sheet.view_is) c.as_slice.ensures
