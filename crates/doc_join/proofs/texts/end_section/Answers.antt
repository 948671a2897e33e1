use Rattle.std.proofs.Common.{◌∙◌, ◌++◌, ◌∷◌, ◌+◌, ◌-◌, [], List, ap, arith}
use Rattle.std.specs.List.{splice}
use Rattle.doc_model.specs.declared.item.Item.{Item}
use Rattle.doc_join.specs.Texts.{ending_section}
use Rattle.doc_join.proofs.TextLemmas.{ended_maps}
use Rattle.doc_join.proofs.ColumnLemmas.{ended_splice}
use Rattle.doc_join.proofs.texts.end_section.Goals as goal
use Rattle.plain_doc.proofs.Public.{maps_there}

pub add-requires-clause-maps : goal.add-requires-clause-maps
add-requires-clause-maps c =
    ended_maps c.in_ok-item.item
    (maps_there c.args.text _ c.in_ok-item.item c.len-last.ensures.formed c.in_ok-item.ensures)

pub returns : goal.returns
returns c =
    let last = c.len-last.result - 1 in
    let item = c.in_ok-item.item in
    let long = c.len-last.ensures.len in
    c.in_ok-made.ensures
    ∙ (ap (λ (fresh : List Item). splice c.args.text last (last + 1) fresh)
    (c.in_ok-end.ensures ∙ ap (λ (front : List Item). front ++ ending_section item ∷ []) c.new.ensures)
    ∙ ended_splice c.args.text last item c.requires (omega (arith, long)) c.in_ok-item.ensures)
