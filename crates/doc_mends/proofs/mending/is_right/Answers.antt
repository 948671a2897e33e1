use Rattle.std.specs.Prelude.{IsTrue}
use Rattle.std.proofs.Common.{◌≡◌, [], refl}
use Rattle.std.proofs.lemmas.Result.{IfOk-weaker}
use Rattle.plain_doc.specs.Sound.{IsSound}
use Rattle.doc_losses.specs.Marks.{names_of_marks}
use Rattle.doc_losses.specs.References.{references}
use Rattle.doc_losses.proofs.Public.{no_references}
use Rattle.doc_mends.proofs.mending.is_right.Goals as goal

pub returns : goal.returns
returns c =
    let document = c.args.document.now in
    let names = names_of_marks c.args.marks.now in
    let none = no_references names document (c.if-not-are_none.ensures refl) in
    IfOk-weaker c.is_sound.result (λ sound. IsTrue sound → IsSound document)
    (λ sound. IsTrue sound → IsSound document × (references names document ≡ [])) (λ sound is t. (is t, none))
    c.is_sound.ensures
