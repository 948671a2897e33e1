use Rattle.std.proofs.Common.{◌≡◌, List, Some, ap, subst}
use Rattle.std.specs.Prelude.{slice_get}
use Rattle.doc_bits.specs.declared.places.Where.TheVariants.{Head}
use Rattle.doc_model.specs.declared.document.Document.{Document}
use Rattle.doc_model.specs.declared.item.Item.{Item}
use Rattle.doc_view.proofs.PageLemmas.{sound_normal, sound_styles}
use Rattle.doc_view.proofs.view.Shown.push_headers.Goals as goal

pub push-requires-clause-normal : goal.push-requires-clause-normal
push-requires-clause-normal g c =
    sound_normal c.args.self.now.document.now c.args.self.now.formats.now c.requires.sound c.requires.formats

pub push-requires-clause-styles : goal.push-requires-clause-styles
push-requires-clause-styles g c = λ k text there.
    let document = c.args.self.now.document.now in
    let sheet = c.args.self.now.formats.now in
    let same : c.document.inside.heads ≡ document.heads = ap (λ (d : Document). d.heads) c.document.view_is in
    sound_styles document sheet (Head k) text c.requires.sound c.requires.formats
    (subst (λ (texts : List (List Item)). slice_get texts k ≡ Some text) same there)
