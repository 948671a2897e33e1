use Rattle.std.proofs.Common.{◌∙◌, ◌++◌, List, ℕ, ap, append_assoc}
use Rattle.std.specs.List.{flat_map}
use Rattle.doc_pictures.specs.Places.{places_in}
use Rattle.doc_pictures.proofs.places.places_of.Goals as goal

pub returns : goal.returns
returns c =
    let main = places_in c.document.inside.main in
    let notes = flat_map places_in c.document.inside.notes in
    let heads = flat_map places_in c.document.inside.heads in
    rw (← c.document.view_is) (c.in_ok-push_texts-2.ensures
    ∙ ap (λ (front : List ℕ). front ++ heads) (c.in_ok-push_texts.ensures
    ∙ ap (λ (front : List ℕ). front ++ notes) c.in_ok-push_text.ensures)
    ∙ ap (λ (front : List ℕ). front ++ main ++ notes ++ heads) c.new-places.ensures.items
    ∙ append_assoc main notes heads)
