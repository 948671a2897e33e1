use Rattle.std.proofs.Common.{◌≡◌}
use Rattle.doc_model.specs.declared.document.Document.{Document}
use Rattle.doc_patch.specs.Changes.{changed}
use Rattle.doc_patch.proofs.MakeLemmas.{given_right}
use Rattle.doc_patch.proofs.making.make.Goals as goal

pub returns : goal.returns
returns c =
    given_right c.make_in_place-done.new.document c.make_in_place-done.result c.where_made.result
    (λ (d : Document). d ≡ changed c.args.change.now c.args.document) c.make_in_place-done.ensures
    c.where_made.ensures
