-- A file holds one document, and names one first broken rule.
use Rattle.std.proofs.Common.{◌≡◌, ◌∙◌, ◌-◌, sym, subst, ap, ℕ, List, [], ◌∷◌, length, lit≤}
use Rattle.std.proofs.Props.{props}
use Rattle.doc_bits.specs.Rules.{Hold, IsSingle, Ascends}
use Rattle.doc_bits.proofs.Public.{ascends_wider}
use Rattle.cfb_streams.specs.Contents.{Contents, NamedBytes}
use Rattle.fib_form.specs.FibFields.{IsKeptFlags}
use Rattle.doc_model.specs.declared.carried.Carried.{Carried}
use Rattle.doc_model.specs.declared.document.Document.{Document}
use Rattle.doc_model.specs.Carried.{ArePartsShort, AreListsWithLevels, AreCarriedStreams}
use Rattle.plain_doc.specs.Sound.{document_rules}
use Rattle.plain_doc.proofs.Public.{document_rules-IsSingle, document_rules-Ascends}
use Rattle.fib_form.specs.declared.stories.StoryKind.TheVariants.{Main, Notes, Heads}
use Rattle.file_rules.specs.Source.{DocSource, story_length, story_begin}
use Rattle.file_rules.specs.PartRules.{part_rules}
use Rattle.file_rules.specs.FileRules.{HasFileText, doc_source_of, file_rules}
use Rattle.file_rules.proofs.Public.{text_one, bin_tables, file_single, file_ascends}
use Rattle.cfb_streams.proofs.Public.{contents_unique}
use Rattle.doc_read.specs.CarriedParts.{HoldsCarried}
use Rattle.doc_read.specs.Holds.{FileParts, HasFileParts, IsDocumentOf, text_parts, head_texts, all_rules}
use Rattle.doc_read.specs.Laws.{DocumentIsOne}
use Rattle.doc_read.proofs.PartsOfOneFile.{file_parts_one}
use Rattle.doc_read.proofs.OneItem.{HaveBins, items_one, texts_one}

-- ---- what is carried

-- what it holds, and what it knows of that
record CarriedData : Type 0 where
  fonts : List ℕ
  dop : List ℕ
  assoc : List ℕ
  lst : List ℕ
  levels : List ℕ
  lfo : List ℕ
  clsid : List ℕ
  lid : ℕ
  lid_fe : ℕ
  flags : ℕ
  streams : List NamedBytes

record CarriedFacts (d : CarriedData) : Type 0 where
  short : ArePartsShort (d.fonts ∷ d.dop ∷ d.assoc ∷ d.lst ∷ d.levels ∷ d.lfo ∷ [])
  lists : AreListsWithLevels d.lst d.levels
  kept : IsKeptFlags d.flags
  others : AreCarriedStreams d.streams

facts_prop : (d : CarriedData) → IsProp (CarriedFacts d)
facts_prop d = hlevel props

abbrev carried_of : (d : CarriedData) → CarriedFacts d → Carried
carried_of d f = record {
  fonts = d.fonts;
  dop = d.dop;
  assoc = d.assoc;
  lst = d.lst;
  levels = d.levels;
  lfo = d.lfo;
  clsid = d.clsid;
  lid = d.lid;
  lid_fe = d.lid_fe;
  flags = d.flags;
  streams = d.streams;
  short = f.short;
  lists = f.lists;
  kept = f.kept;
  others = f.others;
}

abbrev data_of : Carried → CarriedData
data_of c = record {
  fonts = c.fonts;
  dop = c.dop;
  assoc = c.assoc;
  lst = c.lst;
  levels = c.levels;
  lfo = c.lfo;
  clsid = c.clsid;
  lid = c.lid;
  lid_fe = c.lid_fe;
  flags = c.flags;
  streams = c.streams;
}

abbrev facts_of : (c : Carried) → CarriedFacts (data_of c)
facts_of c = record { short = c.short; lists = c.lists; kept = c.kept; others = c.others }

same_built : (d e : CarriedData) → d ≡ e → (p : CarriedFacts d) (q : CarriedFacts e) → carried_of d p ≡ carried_of e q
same_built d e same p =
    subst (λ x. (q : CarriedFacts x) → carried_of d p ≡ carried_of x q) same (λ q. ap (carried_of d) (facts_prop d p q))

pub carried_one : (contents : Contents) (source : DocSource) (levels : List ℕ) (a b : Carried) →
    HoldsCarried contents source levels a → HoldsCarried contents source levels b → a ≡ b
carried_one contents source levels a b ha hb =
    let fonts : a.fonts ≡ b.fonts = ha.fonts ∙ sym hb.fonts in
    let dop : a.dop ≡ b.dop = ha.dop ∙ sym hb.dop in
    let assoc : a.assoc ≡ b.assoc = ha.assoc ∙ sym hb.assoc in
    let lst : a.lst ≡ b.lst = ha.lst ∙ sym hb.lst in
    let same_levels : a.levels ≡ b.levels = ha.levels_are ∙ sym hb.levels_are in
    let lfo : a.lfo ≡ b.lfo = ha.lfo ∙ sym hb.lfo in
    let clsid : a.clsid ≡ b.clsid = ha.clsid ∙ sym hb.clsid in
    let lid : a.lid ≡ b.lid = ha.lid ∙ sym hb.lid in
    let lid_fe : a.lid_fe ≡ b.lid_fe = ha.lid_fe ∙ sym hb.lid_fe in
    let flags : a.flags ≡ b.flags = ha.flags ∙ sym hb.flags in
    let streams : a.streams ≡ b.streams = ha.streams ∙ sym hb.streams in
    let same : data_of a ≡ data_of b = λ i. record {
      fonts = fonts i;
      dop = dop i;
      assoc = assoc i;
      lst = lst i;
      levels = same_levels i;
      lfo = lfo i;
      clsid = clsid i;
      lid = lid i;
      lid_fe = lid_fe i;
      flags = flags i;
      streams = streams i;
    } in
    same_built (data_of a) (data_of b) same (facts_of a) (facts_of b)

-- ---- the document

-- a document is the same where each part of it is
pub same_document : (a b : Document) → a.main ≡ b.main → a.notes ≡ b.notes → a.heads ≡ b.heads → a.sheet ≡ b.sheet →
    a.carried ≡ b.carried → a.bookmarks ≡ b.bookmarks → a ≡ b
same_document a b e0 e1 e2 e3 e4 e5 = λ i. record {
  main = e0 i;
  notes = e1 i;
  heads = e2 i;
  sheet = e3 i;
  carried = e4 i;
  bookmarks = e5 i;
}

-- the parts of a file make one document
pub parts_make_one : (parts : FileParts) → HaveBins (doc_source_of parts.text) → (a b : Document) → IsDocumentOf parts a
    →
    IsDocumentOf parts b → a ≡ b
parts_make_one parts bins a b ha hb =
    let source = doc_source_of parts.text in
    let of = text_parts parts in
    same_document a b
    (items_one of bins 0 (story_length source Main) a.main b.main ha.main hb.main)
    (texts_one of bins (story_begin source Notes) parts.lists.notes (length parts.lists.notes - 1) a.notes b.notes
    ha.notes hb.notes)
    (texts_one of bins (story_begin source Heads) parts.lists.heads (head_texts parts.lists) a.heads b.heads ha.heads
    hb.heads)
    (ha.sheet ∙ sym hb.sheet)
    (carried_one parts.contents source parts.lists.levels a.carried b.carried ha.carried hb.carried)
    (ha.bookmarks ∙ sym hb.bookmarks)

-- the rules on the parts hold of those of a file that breaks no rule
pub held_parts : (file : List ℕ) (parts : FileParts) → Hold (file_rules file) → HasFileParts file parts →
    Hold (part_rules (doc_source_of parts.text))
held_parts file parts h has =
    let contents : h.1.0 ≡ parts.contents = contents_unique file h.1.0 parts.contents h.1.1.0 has.has_contents in
    let rest = h.1.1.1 in
    let text : HasFileText parts.contents rest.1.0 = subst (λ c. HasFileText c rest.1.0) contents rest.1.1.0 in
    let same : rest.1.0 ≡ parts.text =
    text_one file parts.contents rest.1.0 parts.text has.has_contents text has.has_text in
    subst (λ t. Hold (part_rules (doc_source_of t))) same rest.1.1.1

-- the bin tables of such a file
pub file_bins : (file : List ℕ) (parts : FileParts) → Hold (file_rules file) → HasFileParts file parts →
    HaveBins (doc_source_of parts.text)
file_bins file parts h has =
    let bins = bin_tables (doc_source_of parts.text) (held_parts file parts h has).0.1 in
    record { characters = bins.0; paragraphs = bins.1 }

pub document_one : DocumentIsOne
document_one file a b ha hb =
    let parts : ha.parts ≡ hb.parts = file_parts_one file ha.parts hb.parts ha.has_parts hb.has_parts in
    parts_make_one hb.parts (file_bins file hb.parts hb.rules hb.has_parts) a b (subst (λ p. IsDocumentOf p a) parts
    ha.document_is) hb.document_is

-- ---- all rules

pub all_single : (file : List ℕ) → IsSingle (all_rules file)
all_single file =
    (file_single file, ((λ a b ha hb. document_one file a b ha hb), λ document h. document_rules-IsSingle document))

pub all_ascend : (file : List ℕ) → Ascends (all_rules file) 1 72
all_ascend file = (
  58,
  (
    file_ascends file,
    (
      lit≤ tt,
      lit≤ tt,
      (
        lit≤ tt,
        λ document h. ascends_wider (document_rules document) 60 72
            58 72 (lit≤ tt) (lit≤ tt) (document_rules-Ascends document),
      ),
    ),
  ),
)
