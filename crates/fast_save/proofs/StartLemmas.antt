-- What a session begins with is a session.
use Rattle.std.specs.Prelude.{ℕ, List, Option}
use Rattle.std.proofs.Common.{◌≡◌, ◌∙◌, ◌∷◌, ◌+◌, ◌≤◌, [], refl, sym, ap, subst, Some, length, map, arith}
use Rattle.std.proofs.Common.{All}
use Rattle.std.specs.Prelude.{slice_get}
use Rattle.std.proofs.Common.{◌++◌, take}
use Rattle.std.proofs.lemmas.List.{take_more}
use Rattle.std.proofs.lemmas.List.Elements.{All-nil}
use Rattle.std.proofs.lemmas.Option.{slice_get_within, get_or_from_slice_get}
use Rattle.doc_bits.specs.Number.{AreBytes}
use Rattle.cfb_streams.specs.Contents.{Contents}
use Rattle.fib_form.specs.FibFields.{FibFields, fib_fields}
use Rattle.doc_parts.specs.declared.lists.Sed.{Sed}
use Rattle.doc_model.specs.declared.document.Document.{Document}
use Rattle.plain_doc.specs.RulesOfItems.{HasShortProperties}
use Rattle.piece_table.specs.Piece.{TextPiece, flat_pieces}
use Rattle.doc_read.specs.Opened.{OpenedFile, IsOpened}
use Rattle.save_laws.specs.GivenFiles.{StandsTogether}
use Rattle.save_laws.specs.Slots.{StoryEnds, document_slots}
use Rattle.save_laws.specs.Ends.{ends_of}
use Rattle.save_laws.specs.FastSaves.{StandsInSession}
use Rattle.save_laws.proofs.Public.{given_files_stand, given_sections_are_saved}
use Rattle.session_text.specs.AddedText.{plan_of}
use Rattle.session_text.specs.OldUnits.{OldUnitsAreBounded}
use Rattle.session_text.specs.SessionText.{IsSessionText, HaveFitModifiers, ArePlannedSections, unwritten_count}
use Rattle.session_text.proofs.Public.{saved_texts_stand, saved_sections_stand}
use Rattle.fast_save.specs.declared.parts.SessionParts.{SessionParts}
use Rattle.fast_save.specs.declared.ledgers.Counts.{Counts}
use Rattle.fast_save.specs.Ledgers.{AreCountsOf}
use Rattle.cfb_sectors.specs.Header.{sector_count}
use Rattle.fast_save.specs.Session.{IsBoundedFile, IsSession, saved_stream, text_base, bin_length}
use Rattle.fast_save.proofs.BoundedLemmas.{end_there}
use Rattle.fast_save.specs.Started.{IsOpenFile, IsStarted, written_places}
use Rattle.fast_save.proofs.OpenLemmas.{given_fit}

-- the text of an opened file represents its document
pub opened_stand : (opened : OpenedFile) (opening : IsOpenFile opened) →
    StandsTogether opening.is.holds.parts.text opened.document
opened_stand opened opening = given_files_stand opening.file opened.document opening.bytes opening.is.holds

-- the parts that are made of an opened file
pub record AreFileParts (opened : OpenedFile) (opening : IsOpenFile opened) (parts : SessionParts) : Type 0 where
  pub pieces : parts.text.pieces.pieces ≡ opening.is.holds.parts.text.pieces
  pub items : parts.text.added.items ≡ []
  pub base : parts.text.added.base ≡ text_base (length opening.is.holds.parts.text.wd)
  pub ends : ends_of parts.text.ends ≡ (opened_stand opened opening).ends
  pub sections : parts.text.sections.items ≡ written_places opening.is.holds.parts.lists.sections
  pub fib : parts.fib ≡ opened.fib
  pub contents : parts.container ≡ opened.contents

map_push : {A B : Type 0} (f : A → B) (xs : List A) (x : A) → map f (xs ++ x ∷ []) ≡ map f xs ++ f x ∷ []
map_push f [] x = refl
map_push f (y ∷ ys) x = ap (λ rest. f y ∷ rest) (map_push f ys x)

base_behind : (len : ℕ) → len ≤ text_base len
base_behind len = omega arith

module _ (opened : OpenedFile) (opening : IsOpenFile opened) (parts : SessionParts) (are : AreFileParts opened opening
    parts) where
  begun_places : StandsInSession (saved_stream opening.is.holds) (plan_of parts.text.added) parts.text.pieces.pieces
      opened.document (ends_of parts.text.ends)
  begun_places =
      let held = opening.is.holds in
      let stand = opened_stand opened opening in
      let plan = plan_of parts.text.added in
      let stands = saved_texts_stand (saved_stream held) plan held.parts.text.pieces opened.document stand.ends
      stand.together in
      let ended =
      subst (λ (e : StoryEnds). StandsInSession (saved_stream held) plan held.parts.text.pieces opened.document e)
      (sym are.ends) stands in
      subst (λ (p : List TextPiece). StandsInSession (saved_stream held) plan p opened.document
      (ends_of parts.text.ends))
      (sym are.pieces) ended

  begun_text : IsSessionText (saved_stream opening.is.holds) opened.document parts.text
  begun_text = record {
    places = begun_places;
    short = subst (All HasShortProperties) (sym are.items) (All-nil HasShortProperties);
    base = omega (arith, are.base, base_behind (length opening.is.holds.parts.text.wd));
  }

  begun_sections : ArePlannedSections opening.is.holds.parts.text.wd parts.text.sections.items opened.document
  begun_sections =
      let held = opening.is.holds in
      let saved = given_sections_are_saved opening.file opened.document opening.bytes held in
      subst (λ (places : List (Option ℕ)). ArePlannedSections held.parts.text.wd places opened.document)
      (sym are.sections) (saved_sections_stand held.parts.text.wd held.parts.lists.sections opened.document saved)

  begun_bounded : IsBoundedFile opening.is.holds → OldUnitsAreBounded (saved_stream opening.is.holds) opened.document
      parts.text
  begun_bounded bounded = record {
    len = begun_places.len;
    each = λ k place slot here there low end is.
        let stand = opened_stand opened opening in
        let in_file : slice_get (flat_pieces opening.is.holds.parts.text.pieces) k ≡ Some place =
        subst (λ (p : List TextPiece). slice_get (flat_pieces p) k ≡ Some place) are.pieces here in
        let own : slice_get (document_slots opened.document stand.ends) k ≡ Some slot =
        subst (λ (e : StoryEnds). slice_get (document_slots opened.document e) k ≡ Some slot) are.ends there in
        bounded stand.ends stand.counts k place end in_file
        (end_there opened.document stand.ends k slot end own is);
  }

  pub begun : IsSession opening.file opened.document parts
  begun = record {
    bytes = opening.bytes;
    accepted = opening.is.accepted;
    saved = opened.document;
    held = opening.is.holds;
    sound = opening.is.sound;
    carried = refl;
    text = begun_text;
    bounded = begun_bounded;
    fit = subst HaveFitModifiers (sym are.pieces) (given_fit opening.file opened.document opening.is.holds);
    sections = begun_sections;
    base = are.base;
    fib = are.fib ∙ opening.is.fib;
    contents = are.contents ∙ opening.is.contents;
  }

-- the place of one section more
pub placed_more : (seds : List Sed) (k : ℕ) (sed : Sed) → slice_get seds k ≡ Some sed →
    written_places (take (k + 1) seds) ≡ written_places (take k seds) ++ Some sed.sepx ∷ []
placed_more seds k sed there =
    let low = slice_get_within seds k sed there in
    let got = get_or_from_slice_get seds k sed sed there in
    let more : take (k + 1) seds ≡ take k seds ++ sed ∷ [] =
    take_more seds k sed low ∙ ap (λ (other : Sed). take k seds ++ other ∷ []) got in
    ap written_places more ∙ map_push (λ (other : Sed). Some other.sepx) (take k seds) sed

-- no section is still to be written
pub all_written : (seds : List Sed) → unwritten_count (written_places seds) ≡ 0
all_written [] = refl
all_written (sed ∷ seds) = all_written seds

-- ---- a file that the reader opened

-- what is handed out of an opened file
pub record IsHandedOut (file : List ℕ) (opened : OpenedFile) : Type 0 where
  pub opening : IsOpenFile opened
  pub file_is : opening.file ≡ file

handed_out : (file : List ℕ) (opened : OpenedFile) → AreBytes file → IsOpened file opened → IsHandedOut file opened
handed_out file opened bytes is = record { opening = record { file = file; bytes = bytes; is = is }; file_is = refl }

pub parts_handed_out : (file : List ℕ) (opened : OpenedFile) (document : Document) (fib : FibFields)
    (contents : Contents)
    (pieces : List TextPiece) → AreBytes file → IsOpened file opened → document ≡ opened.document → fib ≡ opened.fib →
    contents ≡ opened.contents → pieces ≡ opened.pieces →
    IsHandedOut file (record { document = document; fib = fib; contents = contents; pieces = pieces })
parts_handed_out file opened document fib contents pieces bytes is document_is fib_is contents_are pieces_are =
    let same : opened ≡ record { document = document; fib = fib; contents = contents; pieces = pieces } =
    λ i. record {
      document = sym document_is i;
      fib = sym fib_is i;
      contents = sym contents_are i;
      pieces = sym pieces_are i;
    } in
    subst (IsHandedOut file) same (handed_out file opened bytes is)

pub started : (file : List ℕ) (opened : OpenedFile) (pieces : List TextPiece) (fib : FibFields) (counts : Counts) →
    IsOpened file opened → pieces ≡ opened.pieces → fib ≡ opened.fib →
    AreCountsOf pieces (sector_count file) (bin_length fib) counts →
    IsStarted file
    (record { bytes = file; document = opened.document; counts = counts; quick_saves = fib.quick_saves })
started file opened pieces fib counts is pieces_are fib_is are =
    let ps = pieces_are ∙ is.pieces in
    let f = fib_is ∙ is.fib in
    record {
      accepted = is.accepted;
      bytes = refl;
      holds = is.holds;
      counts =
          subst (λ (p : List TextPiece). AreCountsOf p (sector_count file)
          (bin_length (fib_fields is.holds.parts.text.wd)) counts) ps
          (subst (λ (g : FibFields). AreCountsOf pieces (sector_count file) (bin_length g) counts) f are);
      quick_saves = ap (λ (g : FibFields). g.quick_saves) f;
    }
