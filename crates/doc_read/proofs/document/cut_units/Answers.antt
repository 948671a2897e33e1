-- The text is that of the units and the columns.
use Rattle.std.proofs.Common.{◌≡◌, ◌∙◌, sym, ap, subst, length, arith, List}
use Rattle.std.specs.Prelude.{IfOk}
use Rattle.doc_model.specs.declared.item.Item.{Item}
use Rattle.doc_read.specs.ReadTexts.{AreCutsOf, AreCutTexts}
use Rattle.doc_read.proofs.MeetLemmas.{length-read}
use Rattle.doc_read.proofs.document.cut_units.Goals as goal

pub read_texts-texts-requires : goal.read_texts-texts-requires
read_texts-texts-requires c =
    let units = c.args.units.items in
    let read = c.args.columns in
    let long : length c.in_ok-whole.whole ≡ length units =
    ap length (c.in_ok-whole.ensures ∙ c.from_parts-all.ensures)
    ∙ length-read units read.chps read.attachments (length units) c.requires.units.chps c.requires.units.attachments
    (omega arith) in
    subst (AreCutsOf c.args.fib.now c.args.cuts.now) (sym long) c.requires.cuts

pub returns : goal.returns
returns c =
    subst (λ (items : List Item). IfOk c.read_texts-texts.result (AreCutTexts c.args.fib.now c.args.cuts.now items))
    (c.in_ok-whole.ensures ∙ c.from_parts-all.ensures) c.read_texts-texts.ensures
