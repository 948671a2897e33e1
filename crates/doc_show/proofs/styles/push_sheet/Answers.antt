use Rattle.std.proofs.Common.{arith, refl, None}
use Rattle.doc_show.specs.Listing.{slot_lines}
use Rattle.style_sheet.specs.Sheet.{style_at}
use Rattle.doc_show.proofs.NumberedLemmas.{numbered_on, numbered_all}
use Rattle.doc_show.proofs.styles.push_sheet.Goals as goal

pub loop-istd-preserved : goal.loop-istd-preserved
loop-istd-preserved c =
    numbered_on slot_lines c.args.sheet.now.styles c.loop-istd.istd None
    (style_at c.args.sheet.now c.loop-istd.istd) c.args.text.now c.loop-istd.text c.push_slot.new.text
    (omega arith) refl c.loop-istd.invariant c.in_ok-push_slot.ensures

pub returns : goal.returns
returns c =
    numbered_all slot_lines c.args.sheet.now.styles c.loop-istd.istd c.args.text.now c.loop-istd.text
    (omega arith) c.loop-istd.invariant
