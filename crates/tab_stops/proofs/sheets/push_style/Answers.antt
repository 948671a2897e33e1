use Rattle.std.specs.Prelude.{slice_range}
use Rattle.std.proofs.Common.{◌≡◌, refl, sym, ap, subst, ◌+◌, ◌≤◌, arith}
use Rattle.std.proofs.lemmas.Result.{on_ok_weaker}
use Rattle.doc_bits.specs.Number.{u16_at}
use Rattle.style_sheet.specs.Counted.{counted_end}
use Rattle.style_sheet.specs.StyleDefinition.{stk}
use Rattle.tab_stops.proofs.SheetLemmas.{style_some}
use Rattle.tab_stops.proofs.sheets.push_style.Goals as goal

pub returns : goal.returns
returns c =
    let std = c.args.std.now in
    let upx = c.first_upx-upx.result in
    let place = c.first_upx-upx.ensures.place in
    let to = upx + 2 + c.get16.result in
    let para : stk std ≡ 1 = omega (arith, c.kind_number.ensures, c.if-kind_number-ne-STK_PARA.false) in
    let two : 2 ≤ u16_at std upx = subst (λ u. 2 ≤ u16_at std u) (sym place) (c.requires.std.istd para) in
    let room : upx + 4 ≤ counted_end std upx = omega (arith, two) in
    on_ok_weaker c.push_list.result
    (style_some std (slice_range std (upx + 4) to) c.args.at c.args.base upx (upx + 4) to (c.args.at + (upx + 4))
    c.args.places.now.items c.push_list.new.places.items para place refl (ap (λ n. upx + 2 + n) c.get16.ensures) refl
    refl room) c.push_list.ensures
