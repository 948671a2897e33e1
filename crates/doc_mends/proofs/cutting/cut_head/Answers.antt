use Rattle.std.proofs.Common.{◌≡◌, ◌∙◌, ap, Bool, List, length}
use Rattle.doc_bits.specs.declared.places.Story.TheVariants.{Head}
use Rattle.doc_model.specs.declared.item.Item.{Item}
use Rattle.doc_mends.proofs.HeadLemmas.{changed_to}
use Rattle.doc_losses.specs.References.{Names}
use Rattle.doc_losses.specs.Marks.{names_of_marks}
use Rattle.doc_mends.specs.Cuts.{unflagged, cut_text}
use Rattle.doc_mends.proofs.UncutLemmas.{length-flags}
use Rattle.doc_mends.proofs.cutting.cut_head.Goals as goal

pub cut_text-requires : goal.cut_text-requires
cut_text-requires c =
    let names : Names = names_of_marks c.args.marks.now in
    ap length (c.deref.ensures.value ∙ c.in_ok-flags.ensures)
    ∙ length-flags names (Head c.args.number) c.args.begin c.get-text.result.now

pub returns : goal.returns
returns c =
    let names : Names = names_of_marks c.args.marks.now in
    let text : List Item = c.get-text.result.now in
    let made : List Item = c.in_ok-made.made in
    let is : made ≡ cut_text names (Head c.args.number) c.args.begin text =
    c.in_ok-made.ensures ∙ ap (λ (l : List Bool). unflagged l text) (c.deref.ensures.value ∙ c.in_ok-flags.ensures) in
    c.replace.ensures.new
    ∙ (changed_to (cut_text names (Head c.args.number) c.args.begin) c.args.heads.now c.args.number text made
    c.get-text.ensures is)
