use Rattle.std.specs.Prelude.{slice_range}
use Rattle.std.proofs.Common.{refl, ap, ◌+◌, ◌<◌, arith}
use Rattle.std.proofs.lemmas.Result.{on_ok_weaker}
use Rattle.doc_bits.specs.Number.{u16_at}
use Rattle.tab_stops.proofs.SheetLemmas.{slot_some}
use Rattle.tab_stops.proofs.sheets.push_slot.Goals as goal

pub returns : goal.returns
returns c =
    let part = c.args.part.now in
    let from = c.args.place + 2 in
    let some : 0 < u16_at part c.args.place = omega (arith, c.get16.ensures, c.if-from-to.false) in
    on_ok_weaker c.push_style.result
    (slot_some part (slice_range part from (from + c.get16.result)) c.args.at c.args.base c.args.place
    (c.args.at + from) c.args.places.now.items c.push_style.new.places.items some
    (ap (λ n. slice_range part from (from + n)) c.get16.ensures) refl) c.push_style.ensures
