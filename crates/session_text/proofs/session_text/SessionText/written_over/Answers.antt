use Rattle.std.proofs.Common.{◌≡◌, ◌∙◌, ◌++◌, ap, sym, subst, arith, List, Option, ℕ, length, map}
use Rattle.std.proofs.lemmas.List.{length-map}
use Rattle.piece_table.specs.Renewals.{renewed_pieces, AreNewPlaces}
use Rattle.doc_model.specs.declared.item.Item.{Item}
use Rattle.doc_model.specs.declared.document.Document.{Document}
use Rattle.save_laws.specs.Slots.{document_slots}
use Rattle.save_laws.specs.Ends.{ends_of}
use Rattle.session_text.specs.WrittenAgain.{slot_item, AreWritten, renewed_values}
use Rattle.session_text.proofs.WritingLemmas.{written_text, whole_short}
use Rattle.session_text.proofs.session_text.SessionText.written_over.Goals as goal

pub renewed_at-requires : goal.renewed_at-requires
renewed_at-requires c =
    let old = c.args.self.now in
    let document = c.args.document.now in
    let slots = document_slots document (ends_of old.ends) in
    let written = c.in_ok-places.ensures slots (sym c.requires.count)
    (whole_short document (ends_of old.ends) c.requires.sound) in
    let items : c.document.inside.main ++ c.args.behind.now ≡ map slot_item slots =
    ap (λ (d : Document). d.main ++ c.args.behind.now) c.document.view_is ∙ c.requires.behind in
    let long = ap length items in
    record {
      places = ap length c.deref.ensures.value ∙ written.chosen.len;
      within = omega (arith, long, length-map slots slot_item, c.requires.count);
      few = omega (arith, long, length-map slots slot_item, c.requires.count, c.requires.room);
      room =
          subst (λ (l : List (Option ℕ)). AreNewPlaces l old.pieces.pieces) (sym c.deref.ensures.value) written.room;
    }

pub returns : goal.returns
returns c =
    let old = c.args.self.now in
    let document = c.args.document.now in
    let slots = document_slots document (ends_of old.ends) in
    let places = c.in_ok-places.places.items in
    let made = c.in_ok-made.made in
    let written = c.in_ok-places.ensures slots (sym c.requires.count)
    (whole_short document (ends_of old.ends) c.requires.sound) in
    let whole : c.document.inside.main ++ c.args.behind.now ≡ map slot_item slots =
    ap (λ (d : Document). d.main ++ c.args.behind.now) c.document.view_is ∙ c.requires.behind in
    let items : made.added.items ≡ renewed_values places old.pieces.pieces (map slot_item slots) =
    c.in_ok-made.ensures.items
    ∙ (λ i. renewed_values (c.deref.ensures.value i) old.pieces.pieces (whole i)) in
    let pieces =
    subst (λ (l : List (Option ℕ)). made.pieces.pieces ≡ renewed_pieces l old.pieces.pieces) c.deref.ensures.value
    c.in_ok-made.ensures.pieces in
    written_text document c.args.which old made places c.requires.count
    (subst (λ (l : List Item). AreWritten c.args.which old slots old.pieces.pieces l places) (sym items) written) pieces
    c.in_ok-made.ensures.ends c.in_ok-made.ensures.base c.in_ok-made.ensures.sections
