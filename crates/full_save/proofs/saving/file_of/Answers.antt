use Rattle.doc_model.specs.declared.document.Document.{Document}
use Rattle.std.proofs.Common.{List, length, ap, subst, ◌∙◌, arith}
use Rattle.cfb_streams.specs.Contents.{NamedBytes}
use Rattle.cfb_layout.specs.Counts.{sectors_needed}
use Rattle.cfb_layout.specs.Layout.{lengths_of, compound_file}
use Rattle.cfb_layout.specs.Faults.{IsLayoutFault}
use Rattle.cfb_layout.specs.declared.faults.LayoutFault.TheVariants.{TooLarge}
use Rattle.full_save.specs.Layout.{layout_streams, full_save_image}
use Rattle.full_save.proofs.LayoutLemmas.{layout_are}
use Rattle.full_save.proofs.saving.file_of.Goals as goal

pub whole-requires : goal.whole-requires
unfolding layout_streams
whole-requires c =
    let count = (layout_are c.args.document.now c.requires.formed c.requires.right).count in
    let same = ap (λ (xs : List NamedBytes). length xs) c.in_ok-streams.ensures in
    omega arith

pub returns-in-Ok : goal.returns-in-Ok
unfolding full_save_image
returns-in-Ok c =
    let carried = ap (λ (x : Document). x.carried) c.document.view_is in
    c.in-Ok.ensures.1 ∙ (λ i. compound_file (c.in_ok-streams.ensures i) (carried i).clsid)

pub returns-in-Err-TooLarge : goal.returns-in-Err-TooLarge
returns-in-Err-TooLarge c =
    let lengths = ap (λ (xs : List NamedBytes). sectors_needed (lengths_of xs)) c.in_ok-streams.ensures in
    let fault : IsLayoutFault (lengths_of c.in_ok-streams.streams) (TooLarge c.in-Err-TooLarge.sectors) =
    subst (λ f. IsLayoutFault (lengths_of c.in_ok-streams.streams) f) c.in-Err-TooLarge.field-0-is
    c.in-Err-TooLarge.ensures in
    let most = fault.0 in
    (omega (arith, most, lengths), fault.1 ∙ lengths)
