use Rattle.std.proofs.Common.{◌≡◌, ◌∙◌, ◌++◌, ◌<◌, ◌^◌, length, map, ap, sym, subst, arith}
use Rattle.std.proofs.lemmas.List.{length-append, length-map}
use Rattle.doc_model.specs.declared.document.Document.{Document}
use Rattle.full_save.specs.Text.{with_mark}
use Rattle.save_laws.specs.Slots.{note_slots, head_slots, document_slots}
use Rattle.save_laws.specs.Ends.{ends_of}
use Rattle.session_text.specs.WrittenAgain.{slot_item}
use Rattle.session_text.proofs.GatherLemmas.{whole_behind, behind_long}
use Rattle.session_text.proofs.writing.behind_main.Goals as goal

pub with_story-requires : goal.with_story-requires
with_story-requires c =
    let own = c.document.inside in
    let ends = ends_of c.args.ends in
    let document : Document = record {
      main = own.main;
      notes = own.notes;
      heads = own.heads;
      sheet = own.sheet;
      carried = own.carried;
      bookmarks = own.bookmarks;
    } in
    let few = subst (λ (d : Document). length (document_slots d ends) < 2 ^ 31) (sym c.document.view_is) c.requires in
    omega (arith, ap length c.new.ensures, behind_long document ends, few)

pub with_story-requires-2 : goal.with_story-requires-2
with_story-requires-2 c =
    let own = c.document.inside in
    let ends = ends_of c.args.ends in
    let document : Document = record {
      main = own.main;
      notes = own.notes;
      heads = own.heads;
      sheet = own.sheet;
      carried = own.carried;
      bookmarks = own.bookmarks;
    } in
    let few = subst (λ (d : Document). length (document_slots d ends) < 2 ^ 31) (sym c.document.view_is) c.requires in
    omega (
      arith,
      ap length c.new.ensures,
      ap length c.in_ok-notes.ensures,
      length-append c.new.result (map slot_item (note_slots document ends)),
      length-map (note_slots document ends) slot_item,
      behind_long document ends,
      few,
    )

pub with_last-requires : goal.with_last-requires
with_last-requires c =
    let own = c.document.inside in
    let ends = ends_of c.args.ends in
    let document : Document = record {
      main = own.main;
      notes = own.notes;
      heads = own.heads;
      sheet = own.sheet;
      carried = own.carried;
      bookmarks = own.bookmarks;
    } in
    let few = subst (λ (d : Document). length (document_slots d ends) < 2 ^ 31) (sym c.document.view_is) c.requires in
    omega (
      arith,
      ap length c.new.ensures,
      ap length c.in_ok-notes.ensures,
      length-append c.new.result (map slot_item (note_slots document ends)),
      length-map (note_slots document ends) slot_item,
      ap length c.in_ok-both.ensures,
      length-append c.in_ok-notes.notes (map slot_item (head_slots document ends)),
      length-map (head_slots document ends) slot_item,
      behind_long document ends,
      few,
    )

pub returns : goal.returns
returns c =
    let own = c.document.inside in
    let ends = ends_of c.args.ends in
    let document : Document = record {
      main = own.main;
      notes = own.notes;
      heads = own.heads;
      sheet = own.sheet;
      carried = own.carried;
      bookmarks = own.bookmarks;
    } in
    let notes = map slot_item (note_slots document ends) in
    let heads = map slot_item (head_slots document ends) in
    let first : c.in_ok-notes.notes ≡ notes = c.in_ok-notes.ensures ∙ ap (λ l. l ++ notes) c.new.ensures in
    let both : c.in_ok-both.both ≡ notes ++ heads = c.in_ok-both.ensures ∙ ap (λ l. l ++ heads) first in
    let behind : c.finish.result ≡ with_mark (notes ++ heads) =
    c.finish.ensures ∙ (c.in_ok-all.ensures ∙ ap with_mark both) in
    ap (λ l. c.args.document.now.main ++ l) behind
    ∙ subst (λ (d : Document). d.main ++ with_mark (notes ++ heads) ≡ map slot_item (document_slots d ends))
    c.document.view_is (whole_behind document ends)
