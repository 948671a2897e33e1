-- The parts of a file mean one document where its bin tables are tables.
use Rattle.std.proofs.Common.{◌≡◌, ◌∙◌, ◌+◌, ◌-◌, ◌<◌, ◌≤◌, inl, inr, sym, subst, ap, refl, ℕ, List, [], ◌∷◌, length}
use Rattle.std.proofs.Common.{Bool, true, false, Option, Some, None, is_some, slice_index}
use Rattle.std.proofs.Props.{props}
use Rattle.std.proofs.lemmas.Bool.{cases_lt}
use Rattle.std.specs.Option.{unwrap_or}
use Rattle.std.specs.FinMap.{empty, get}
use Rattle.prop_map.specs.declared.modifiers.Modifier.{Modifier}
use Rattle.prop_map.specs.Settings.{Properties}
use Rattle.prop_map.proofs.Public.{same_properties}
use Rattle.cfb_streams.specs.Contents.{NamedBytes}
use Rattle.fib_form.specs.FibFields.{IsKeptFlags}
use Rattle.fib_form.specs.declared.stories.StoryKind.TheVariants.{Main, Notes, Heads}
use Rattle.fib_form.specs.declared.table_parts.TablePart.TheVariants.{PlcfBteChpx, PlcfBtePapx}
use Rattle.fkp_pages.specs.declared.kind.PageKind.TheVariants.{Chpx, Papx}
use Rattle.fkp_pages.specs.Bin.{IsBinTable}
use Rattle.fkp_gaps.proofs.Public.{gaps_have_no_list}
use Rattle.direct_props.proofs.Public.{character_one, mark_one}
use Rattle.piece_table.specs.Piece.{UnitPlace}
use Rattle.text_codes.specs.Paragraph.{is_paragraph_end}
use Rattle.doc_model.specs.declared.carried.Carried.{Carried}
use Rattle.doc_model.specs.declared.document.Document.{Document}
use Rattle.doc_model.specs.declared.item.Item.{Item}
use Rattle.doc_model.specs.declared.item.Mark.{Mark}
use Rattle.doc_model.specs.Carried.{ArePartsShort, AreListsWithLevels, AreCarriedStreams}
use Rattle.file_rules.specs.Units.{unit_at}
use Rattle.file_rules.specs.Source.{DocSource, table_part_bytes, story_length, story_begin}
use Rattle.file_rules.specs.FileRules.{doc_source_of}
use Rattle.doc_read.specs.Items.{TextParts}
use Rattle.doc_read.specs.Holds.{FileParts, text_parts, head_texts}
use Rattle.doc_read.proofs.Public.{HaveBins, same_lists, carried_one, same_document, same_item}
use Rattle.doc_meaning.specs.Places.{MeansCharacter, MeansMark}
use Rattle.doc_meaning.specs.Items.{MeansMarkAt, MeansItem, MeansItems, MeansTexts}
use Rattle.doc_meaning.specs.Meaning.{IsMeantOf}

-- ---- places

means_character_one : (wd bin : List ℕ) (fc : ℕ) (modifier : Modifier) (one other : Properties) → IsBinTable bin →
    MeansCharacter wd bin fc modifier one → MeansCharacter wd bin fc modifier other → one ≡ other
means_character_one wd bin fc modifier one other table (inl a) (inl b) =
    character_one wd bin fc modifier one other table a b
means_character_one wd bin fc modifier one other table (inl a) (inr b) =
    absurd (gaps_have_no_list Chpx bin wd fc a.list table b.0 a.has)
means_character_one wd bin fc modifier one other table (inr a) (inl b) =
    absurd (gaps_have_no_list Chpx bin wd fc b.list table a.0 b.has)
means_character_one wd bin fc modifier one other table (inr a) (inr b) =
    same_properties one other (λ code. a.1 code ∙ sym (b.1 code))

means_mark_one : (wd bin : List ℕ) (fc : ℕ) (modifier : Modifier) (istd number : ℕ) (one other : Properties) →
    IsBinTable bin → MeansMark wd bin fc modifier istd one → MeansMark wd bin fc modifier number other →
    (istd ≡ number) × (one ≡ other)
means_mark_one wd bin fc modifier istd number one other table (inl a) (inl b) =
    mark_one wd bin fc modifier istd number one other table a b
means_mark_one wd bin fc modifier istd number one other table (inl a) (inr b) =
    absurd (gaps_have_no_list Papx bin wd fc a.list table b.0 a.has)
means_mark_one wd bin fc modifier istd number one other table (inr a) (inl b) =
    absurd (gaps_have_no_list Papx bin wd fc b.list table a.0 b.has)
means_mark_one wd bin fc modifier istd number one other table (inr a) (inr b) =
    (a.1.0 ∙ sym b.1.0, same_properties one other (λ code. a.1.1 code ∙ sym (b.1.1 code)))

-- ---- items

mark_at_one : (end : Bool) (source : DocSource) (place : UnitPlace) (a b : Option Mark) → HaveBins source →
    MeansMarkAt end source.wd (table_part_bytes source PlcfBtePapx) place.at place.modifier a →
    MeansMarkAt end source.wd (table_part_bytes source PlcfBtePapx) place.at place.modifier b → a ≡ b
mark_at_one true source place (Some a) (Some b) bins ha hb =
    let one = means_mark_one source.wd (table_part_bytes source PlcfBtePapx) place.at place.modifier a.istd b.istd a.pap
    b.pap bins.paragraphs ha hb in
    λ i. Some (record { istd = one.0 i; pap = one.1 i })
mark_at_one true source place (Some a) None bins ha hb = absurd hb
mark_at_one true source place None b bins ha hb = absurd ha
mark_at_one false source place None None bins ha hb = refl
mark_at_one false source place None (Some b) bins ha hb = absurd hb
mark_at_one false source place (Some a) b bins ha hb = absurd ha

means_item_one : (parts : TextParts) → HaveBins parts.source → (cp : ℕ) (a b : Item) → MeansItem parts cp a →
    MeansItem parts cp b → a ≡ b
means_item_one parts bins cp a b ha hb =
    let source = parts.source in
    let characters = table_part_bytes source PlcfBteChpx in
    let paragraphs = table_part_bytes source PlcfBtePapx in
    let place : ha.place ≡ hb.place = ap (λ o. unwrap_or o ha.place) (sym ha.here ∙ hb.here) in
    let unit : a.unit ≡ b.unit = ha.unit ∙ (ap (unit_at source.wd) place ∙ sym hb.unit) in
    let chp : a.chp ≡ b.chp = means_character_one source.wd characters hb.place.at hb.place.modifier a.chp b.chp
    bins.characters
    (subst (λ (p : UnitPlace). MeansCharacter source.wd characters p.at p.modifier a.chp) place ha.characters)
    hb.characters in
    let sect : a.sect ≡ b.sect = ha.section ∙ sym hb.section in
    let end : is_paragraph_end a.unit (is_some a.sect) ≡ is_paragraph_end b.unit (is_some b.sect) =
    λ i. is_paragraph_end (unit i) (is_some (sect i)) in
    let near : MeansMarkAt (is_paragraph_end b.unit (is_some b.sect)) source.wd paragraphs ha.place.at
    ha.place.modifier a.mark =
    subst (λ e. MeansMarkAt e source.wd paragraphs ha.place.at ha.place.modifier a.mark) end ha.mark in
    let mark : a.mark ≡ b.mark =
    mark_at_one (is_paragraph_end b.unit (is_some b.sect)) source hb.place a.mark b.mark bins
    (subst (λ (p : UnitPlace). MeansMarkAt (is_paragraph_end b.unit (is_some b.sect)) source.wd paragraphs p.at
    p.modifier a.mark) place near) hb.mark in
    same_item a b unit chp mark sect (ha.field ∙ sym hb.field) (ha.note ∙ sym hb.note)

means_items_one : (parts : TextParts) → HaveBins parts.source → (from to : ℕ) (a b : List Item) →
    MeansItems parts from to a → MeansItems parts from to b → a ≡ b
means_items_one parts bins from to a b ha hb =
    same_lists (λ i. MeansItem parts (from + i)) (λ i. means_item_one parts bins (from + i)) a b
    (ha.len ∙ sym hb.len) ha.each hb.each

-- text k of a story
record MeansText (parts : TextParts) (begin : ℕ) (cuts : List ℕ) (k : ℕ) (text : List Item) : Type 0 where
  there : k + 1 < length cuts → MeansItems parts (begin + slice_index cuts k) (begin + slice_index cuts (k + 1)) text
  missing : length cuts ≤ k + 1 → text ≡ []

means_text_one : (parts : TextParts) → HaveBins parts.source → (begin : ℕ) (cuts : List ℕ) (k : ℕ) (a b : List Item) →
    MeansText parts begin cuts k a → MeansText parts begin cuts k b → a ≡ b
means_text_one parts bins begin cuts k a b ha hb = elim (cases_lt (k + 1) (length cuts)) [
  | inl there ↦ means_items_one parts bins (begin + slice_index cuts k) (begin + slice_index cuts (k + 1)) a b
      (ha.there there) (hb.there there)
  | inr missing ↦ ha.missing missing ∙ sym (hb.missing missing)
]

means_texts_one : (parts : TextParts) → HaveBins parts.source → (begin : ℕ) (cuts : List ℕ) (count : ℕ)
    (a b : List (List Item)) → MeansTexts parts begin cuts count a → MeansTexts parts begin cuts count b → a ≡ b
means_texts_one parts bins begin cuts count a b ha hb =
    same_lists (MeansText parts begin cuts) (means_text_one parts bins begin cuts) a b (ha.len ∙ sym hb.len)
    (λ k text here. record { there = ha.there k text here; missing = ha.missing k text here })
    (λ k text here. record { there = hb.there k text here; missing = hb.missing k text here })

-- ---- what is carried

-- what it holds, and what it knows of that
record CarriedData : Type 0 where
  fonts : List ℕ
  dop : List ℕ
  assoc : List ℕ
  lst : List ℕ
  levels : List ℕ
  lfo : List ℕ
  clsid : List ℕ
  lid : ℕ
  lid_fe : ℕ
  flags : ℕ
  streams : List NamedBytes

record CarriedFacts (d : CarriedData) : Type 0 where
  short : ArePartsShort (d.fonts ∷ d.dop ∷ d.assoc ∷ d.lst ∷ d.levels ∷ d.lfo ∷ [])
  lists : AreListsWithLevels d.lst d.levels
  kept : IsKeptFlags d.flags
  others : AreCarriedStreams d.streams

facts_prop : (d : CarriedData) → IsProp (CarriedFacts d)
facts_prop d = hlevel props

abbrev carried_of : (d : CarriedData) → CarriedFacts d → Carried
carried_of d f = record {
  fonts = d.fonts;
  dop = d.dop;
  assoc = d.assoc;
  lst = d.lst;
  levels = d.levels;
  lfo = d.lfo;
  clsid = d.clsid;
  lid = d.lid;
  lid_fe = d.lid_fe;
  flags = d.flags;
  streams = d.streams;
  short = f.short;
  lists = f.lists;
  kept = f.kept;
  others = f.others;
}

abbrev data_of : Carried → CarriedData
data_of c = record {
  fonts = c.fonts;
  dop = c.dop;
  assoc = c.assoc;
  lst = c.lst;
  levels = c.levels;
  lfo = c.lfo;
  clsid = c.clsid;
  lid = c.lid;
  lid_fe = c.lid_fe;
  flags = c.flags;
  streams = c.streams;
}

abbrev facts_of : (c : Carried) → CarriedFacts (data_of c)
facts_of c = record { short = c.short; lists = c.lists; kept = c.kept; others = c.others }

same_built : (d e : CarriedData) → d ≡ e → (p : CarriedFacts d) (q : CarriedFacts e) → carried_of d p ≡ carried_of e q
same_built d e same p =
    subst (λ x. (q : CarriedFacts x) → carried_of d p ≡ carried_of x q) same (λ q. ap (carried_of d) (facts_prop d p q))

-- ---- the document

-- the parts of a file mean one document
pub parts_mean_one : (parts : FileParts) → HaveBins (doc_source_of parts.text) → (a b : Document) → IsMeantOf parts a →
    IsMeantOf parts b → a ≡ b
parts_mean_one parts bins a b ha hb =
    let source = doc_source_of parts.text in
    let of = text_parts parts in
    same_document a b
    (means_items_one of bins 0 (story_length source Main) a.main b.main ha.main hb.main)
    (means_texts_one of bins (story_begin source Notes) parts.lists.notes (length parts.lists.notes - 1) a.notes b.notes
    ha.notes hb.notes)
    (means_texts_one of bins (story_begin source Heads) parts.lists.heads (head_texts parts.lists) a.heads b.heads
    ha.heads hb.heads)
    (ha.sheet ∙ sym hb.sheet)
    (carried_one parts.contents source parts.lists.levels a.carried b.carried ha.carried hb.carried)
    (ha.bookmarks ∙ sym hb.bookmarks)
