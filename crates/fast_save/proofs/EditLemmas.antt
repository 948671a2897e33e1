-- A session after an edit, and after one that memory was refused.
use Rattle.std.specs.Prelude.{ℕ, List, Option}
use Rattle.std.proofs.Common.{◌≡◌, ◌∙◌, ◌∷◌, ◌+◌, ◌*◌, ◌^◌, ◌<◌, ◌≤◌, [], refl, sym, ap, subst, length, arith}
use Rattle.doc_bits.specs.declared.places.Story.{Story}
use Rattle.doc_bits.specs.declared.places.Story.TheVariants.{Main, Note, Head}
use Rattle.piece_table.specs.Piece.{TextPiece, flat_pieces}
use Rattle.doc_model.specs.declared.item.Item.{Item}
use Rattle.doc_model.specs.declared.document.Document.{Document}
use Rattle.edit_script.specs.declared.commands.Command.{Command}
use Rattle.doc_patch.specs.declared.changes.Change.{Change}
use Rattle.doc_patch.specs.declared.changes.Change.TheVariants.{SpliceText, ModifyItems, SetSection, SpliceNotes}
use Rattle.doc_patch.specs.declared.changes.Change.TheVariants.{SpliceHeads, SetStyleCharacters, SetStyleParagraphs}
use Rattle.doc_patch.specs.declared.changes.Change.TheVariants.{SetBookmarks}
use Rattle.doc_patch.specs.Changes.{changed, all_changed, text_changed, map_range, modified_item}
use Rattle.edit_ops.specs.Causes.{IsAcceptedEdit}
use Rattle.edit_ops.specs.Edits.{changes_of, document_after}
use Rattle.std.specs.Prelude.{All}
use Rattle.plain_doc.specs.RulesOfItems.{HasShortProperties}
use Rattle.save_laws.specs.declared.ends.Ends.{Ends}
use Rattle.save_laws.specs.Ends.{ends_of}
use Rattle.save_laws.specs.Places.{PagedStream}
use Rattle.save_laws.specs.FastSaves.{StandsInSession}
use Rattle.save_laws.specs.SharedPages.{page_bound}
use Rattle.session_text.specs.declared.added.Added.{Added}
use Rattle.session_text.specs.AddedText.{plan_of}
use Rattle.session_text.specs.OldUnits.{IsOldBounded, OldUnitsAreBounded}
use Rattle.save_laws.specs.Slots.{document_slots}
use Rattle.doc_bits.specs.Together.{AreTogether}
use Rattle.session_text.specs.SessionText.{IsSessionText, IsSameText, HaveFitModifiers, HaveNoModifiers}
use Rattle.session_text.specs.SessionText.{HaveModifiersWithin, ArePlannedSections, unwritten_count}
use Rattle.fast_save.specs.declared.ledgers.Counts.{Counts}
use Rattle.session_text.specs.TextEdits.{IsTextEdit, IsSectionsEdit}
use Rattle.cfb_streams.specs.Names.{wd_name}
use Rattle.fib_form.specs.FibFields.{fib_fields}
use Rattle.fast_save.specs.declared.parts.SessionParts.{SessionParts}
use Rattle.fast_save.specs.Started.{IsReadFile}
use Rattle.fast_save.specs.Edited.{HasEditRoom}
use Rattle.fast_save.proofs.OpenLemmas.{named_short}
use Rattle.fast_save.specs.Session.{IsSession, IsSessionCounted, saved_stream, bin_length}

-- ---- what is carried along stays

text_carried : (change : List Item → List Item) (story : Story) (document : Document) →
    (text_changed change story document).carried ≡ document.carried
text_carried change Main document = refl
text_carried change (Note number) document = refl
text_carried change (Head number) document = refl

change_carried : (change : Change) (document : Document) → (changed change document).carried ≡ document.carried
change_carried (SpliceText Main from to fresh) document = refl
change_carried (SpliceText (Note number) from to fresh) document = refl
change_carried (SpliceText (Head number) from to fresh) document = refl
change_carried (ModifyItems story from to by) document =
    text_carried (λ (text : List Item). map_range (modified_item by) text from to) story document
change_carried (SetSection at set) document = refl
change_carried (SpliceNotes from to fresh) document = refl
change_carried (SpliceHeads from to fresh) document = refl
change_carried (SetStyleCharacters istd set) document = refl
change_carried (SetStyleParagraphs istd set) document = refl
change_carried (SetBookmarks list) document = refl

carried_stays : (changes : List Change) (document : Document) → (all_changed changes document).carried ≡
    document.carried
carried_stays [] document = refl
carried_stays (change ∷ changes) document =
    carried_stays changes (changed change document) ∙ change_carried change document

-- ---- the session

pub session_edited : (file : List ℕ) (document : Document) (command : Command) (old new : SessionParts) →
    IsSession file document old → IsAcceptedEdit document command →
    IsTextEdit document (changes_of document command) old.text new.text →
    IsSectionsEdit document (changes_of document command) old.text.sections.items new.text.sections.items →
    new.fib ≡ old.fib → new.container ≡ old.container → IsSession file (document_after document command) new
session_edited file document command old new is accepted text sections fib container = record {
  bytes = is.bytes;
  accepted = is.accepted;
  saved = is.saved;
  held = is.held;
  sound = accepted.sound;
  carried = carried_stays (changes_of document command) document ∙ is.carried;
  text = text.text (saved_stream is.held) is.text;
  bounded = λ file_bounded. text.bounded (saved_stream is.held) (is.bounded file_bounded);
  fit = text.fit (saved_stream is.held) is.text is.fit;
  sections = sections.planned is.held.parts.text.wd is.sections;
  base = text.base ∙ is.base;
  fib = fib ∙ is.fib;
  contents = container ∙ is.contents;
}

-- ---- before an edit

-- WordDocument of the file is short
wd_short : (file : List ℕ) (document : Document) (parts : SessionParts) → (is : IsSession file document parts) →
    length is.held.parts.text.wd ≤ 7143936
wd_short file document parts is =
    let held = is.held in
    let read : IsReadFile held.parts.contents (fib_fields held.parts.text.wd) = record {
      file = file;
      rules = held.rules;
      parts = held.parts;
      has = held.has_parts;
      contents_are = refl;
      fib_is = refl;
    } in
    named_short held.parts.contents (fib_fields held.parts.text.wd) read wd_name held.parts.text.wd
    held.has_parts.has_text.has_wd

pub has_room : (file : List ℕ) (document : Document) (parts : SessionParts) (counts : Counts) →
    IsSession file document parts → IsSessionCounted file parts counts → HasEditRoom counts →
    parts.text.added.base + (2 * length parts.text.added.items + 3000000) < 2 ^ 32
has_room file document parts counts is counted room =
    omega (arith, wd_short file document parts is, is.base, counted.added, room)

-- ---- after want of memory

-- the text stays, whatever room there is
module _ (file : List ℕ) (document : Document) (old new : SessionParts) (same : IsSameText old.text new.text)
    (fib : new.fib ≡ old.fib) (container : new.container ≡ old.container) where
  places_same : new.text.sections.items ≡ old.text.sections.items
  places_same = λ i. (same.sections i).items

  same_text : (stream : PagedStream) → IsSessionText stream document old.text → IsSessionText stream document new.text
  same_text stream is = record {
    places =
        subst (λ (a : Added). StandsInSession stream (plan_of a) new.text.pieces.pieces document
        (ends_of new.text.ends))
        (sym same.added)
        (subst
        (λ (p : List TextPiece). StandsInSession stream (plan_of old.text.added) p document (ends_of new.text.ends))
        (sym same.pieces)
        (subst
        (λ (e : Ends). StandsInSession stream (plan_of old.text.added) old.text.pieces.pieces document (ends_of e))
        (sym same.ends) is.places));
    short = subst (λ (added : Added). All HasShortProperties added.items) (sym same.added) is.short;
    base = omega (arith, is.base, ap (λ (added : Added). added.base) same.added);
  }

  same_bounded : (stream : PagedStream) → OldUnitsAreBounded stream document old.text →
      OldUnitsAreBounded stream document new.text
  same_bounded stream is =
      subst
      (λ (n : ℕ). AreTogether (IsOldBounded stream n) (flat_pieces new.text.pieces.pieces)
      (document_slots document (ends_of new.text.ends)))
      (ap (λ (a : Added). a.base) (sym same.added))
      (subst
      (λ (p : List TextPiece). AreTogether (IsOldBounded stream old.text.added.base) (flat_pieces p)
      (document_slots document (ends_of new.text.ends)))
      (sym same.pieces)
      (subst
      (λ (e : Ends). AreTogether (IsOldBounded stream old.text.added.base) (flat_pieces old.text.pieces.pieces)
      (document_slots document (ends_of e)))
      (sym same.ends) is))

  pub session_stays : IsSession file document old → IsSession file document new
  session_stays is = record {
    bytes = is.bytes;
    accepted = is.accepted;
    saved = is.saved;
    held = is.held;
    sound = is.sound;
    carried = is.carried;
    text = same_text (saved_stream is.held) is.text;
    bounded = λ file_bounded. same_bounded (saved_stream is.held) (is.bounded file_bounded);
    fit = subst HaveFitModifiers (sym same.pieces) is.fit;
    sections =
        subst (λ (places : List (Option ℕ)). ArePlannedSections is.held.parts.text.wd places document)
        (sym places_same) is.sections;
    base = ap (λ (added : Added). added.base) same.added ∙ is.base;
    fib = fib ∙ is.fib;
    contents = container ∙ is.contents;
  }

  pub counted_stays : (counts : Counts) → IsSessionCounted file old counts → IsSessionCounted file new counts
  counted_stays counts is = record {
    pieces = omega (arith, is.pieces, ap (λ (p : List TextPiece). length p) same.pieces);
    modified = λ no. subst HaveNoModifiers (sym same.pieces) (is.modified no);
    printed = subst (HaveModifiersWithin counts.printed) (sym same.pieces) is.printed;
    sectors = is.sectors;
    few = is.few;
    bins = omega (arith, is.bins, ap bin_length fib);
    added = omega (arith, is.added, ap (λ (added : Added). length added.items) same.added);
    pages = omega (arith, is.pages, ap (λ (added : Added). page_bound added.items) same.added);
    text = omega (
      arith,
      is.text,
      ap (λ (added : Added). length added.items) same.added,
      ap (λ (added : Added). page_bound added.items) same.added,
    );
    unwritten = omega (arith, is.unwritten, ap unwritten_count places_same);
  }
