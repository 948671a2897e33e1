-- What is at a CP, and in a text, is one thing.
use Rattle.std.proofs.Common.{◌≡◌, ◌∙◌, inl, inr, sym, subst, ap, refl, ℕ, ◌+◌, ◌<◌, ◌≤◌, Bool, true, false}
use Rattle.std.proofs.Common.{List, [], length, Option, Some, None, is_some, slice_index}
use Rattle.std.specs.Option.{unwrap_or}
use Rattle.std.proofs.lemmas.Bool.{cases_lt}
use Rattle.piece_table.specs.Piece.{UnitPlace}
use Rattle.fkp_pages.specs.Bin.{IsBinTable}
use Rattle.direct_props.specs.Direct.{IsDirectCharacter}
use Rattle.direct_props.proofs.Public.{character_one, mark_one}
use Rattle.doc_model.specs.declared.item.Item.{Item}
use Rattle.doc_model.specs.declared.item.Mark.{Mark}
use Rattle.fib_form.specs.declared.table_parts.TablePart.TheVariants.{PlcfBteChpx, PlcfBtePapx}
use Rattle.file_rules.specs.Units.{unit_at}
use Rattle.file_rules.specs.Source.{DocSource, table_part_bytes}
use Rattle.text_codes.specs.Paragraph.{is_paragraph_end}
use Rattle.doc_read.specs.Items.{TextParts, IsDirectMarkAt, IsItemAt, HoldsItems, HoldsTexts}
use Rattle.doc_read.proofs.PartsOfOneFile.{same_lists}

-- the tables that name the pages are tables
pub record HaveBins (source : DocSource) : Type 0 where
  pub characters : IsBinTable (table_part_bytes source PlcfBteChpx)
  pub paragraphs : IsBinTable (table_part_bytes source PlcfBtePapx)

mark_of_one : (end : Bool) (source : DocSource) (place : UnitPlace) (a b : Option Mark) → HaveBins source →
    IsDirectMarkAt end source.wd (table_part_bytes source PlcfBtePapx) place.at place.modifier a →
    IsDirectMarkAt end source.wd (table_part_bytes source PlcfBtePapx) place.at place.modifier b → a ≡ b
mark_of_one true source place (Some a) (Some b) bins ha hb =
    let one = mark_one source.wd (table_part_bytes source PlcfBtePapx) place.at place.modifier a.istd b.istd a.pap b.pap
    bins.paragraphs ha hb in
    λ i. Some (record { istd = one.0 i; pap = one.1 i })
mark_of_one true source place (Some a) None bins ha hb = absurd hb
mark_of_one true source place None b bins ha hb = absurd ha
mark_of_one false source place None None bins ha hb = refl
mark_of_one false source place None (Some b) bins ha hb = absurd hb
mark_of_one false source place (Some a) b bins ha hb = absurd ha

-- an item is the same where each part of it is
pub same_item : (a b : Item) → a.unit ≡ b.unit → a.chp ≡ b.chp → a.mark ≡ b.mark → a.sect ≡ b.sect → a.fld ≡ b.fld →
    a.note ≡ b.note → a ≡ b
same_item a b e0 e1 e2 e3 e4 e5 =
    λ i. record { unit = e0 i; chp = e1 i; mark = e2 i; sect = e3 i; fld = e4 i; note = e5 i }

-- a CP has one item
pub item_one : (parts : TextParts) → HaveBins parts.source → (cp : ℕ) (a b : Item) → IsItemAt parts cp a →
    IsItemAt parts cp b → a ≡ b
item_one parts bins cp a b ha hb =
    let source = parts.source in
    let place : ha.place ≡ hb.place = ap (λ o. unwrap_or o ha.place) (sym ha.here ∙ hb.here) in
    let unit : a.unit ≡ b.unit = ha.unit ∙ (ap (unit_at source.wd) place ∙ sym hb.unit) in
    let chp : a.chp ≡ b.chp = character_one source.wd (table_part_bytes source PlcfBteChpx) hb.place.at
    hb.place.modifier
    a.chp b.chp bins.characters
    (subst (λ p. IsDirectCharacter source.wd (table_part_bytes source PlcfBteChpx) p.at p.modifier a.chp) place
    ha.characters) hb.characters in
    let sect : a.sect ≡ b.sect = ha.section ∙ sym hb.section in
    let end : is_paragraph_end a.unit (is_some a.sect) ≡ is_paragraph_end b.unit (is_some b.sect) =
    λ i. is_paragraph_end (unit i) (is_some (sect i)) in
    let near : IsDirectMarkAt (is_paragraph_end b.unit (is_some b.sect)) source.wd (table_part_bytes source PlcfBtePapx)
    ha.place.at ha.place.modifier a.mark = subst (λ e. IsDirectMarkAt e source.wd (table_part_bytes source PlcfBtePapx)
    ha.place.at ha.place.modifier a.mark) end ha.mark in
    let mark : a.mark ≡ b.mark =
    mark_of_one (is_paragraph_end b.unit (is_some b.sect)) source hb.place a.mark b.mark bins
    (subst (λ p. IsDirectMarkAt (is_paragraph_end b.unit (is_some b.sect)) source.wd (table_part_bytes source
    PlcfBtePapx) p.at
    p.modifier a.mark) place near) hb.mark in
    same_item a b unit chp mark sect (ha.field ∙ sym hb.field) (ha.note ∙ sym hb.note)

-- a text has one list of items
pub items_one : (parts : TextParts) → HaveBins parts.source → (from to : ℕ) (a b : List Item) →
    HoldsItems parts from to a → HoldsItems parts from to b → a ≡ b
items_one parts bins from to a b ha hb =
    same_lists (λ i. IsItemAt parts (from + i)) (λ i. item_one parts bins (from + i)) a b (ha.len ∙ sym hb.len)
    ha.each hb.each

-- text k of a story
record IsText (parts : TextParts) (begin : ℕ) (cuts : List ℕ) (k : ℕ) (text : List Item) : Type 0 where
  there : k + 1 < length cuts → HoldsItems parts (begin + slice_index cuts k) (begin + slice_index cuts (k + 1)) text
  missing : length cuts ≤ k + 1 → text ≡ []

text_one : (parts : TextParts) → HaveBins parts.source → (begin : ℕ) (cuts : List ℕ) (k : ℕ) (a b : List Item) →
    IsText parts begin cuts k a → IsText parts begin cuts k b → a ≡ b
text_one parts bins begin cuts k a b ha hb = elim (cases_lt (k + 1) (length cuts)) [
  | inl there ↦ items_one parts bins (begin + slice_index cuts k) (begin + slice_index cuts (k + 1)) a b
      (ha.there there) (hb.there there)
  | inr missing ↦ ha.missing missing ∙ sym (hb.missing missing)
]

-- a story has one list of texts
pub texts_one : (parts : TextParts) → HaveBins parts.source →
    (begin : ℕ) (cuts : List ℕ) (count : ℕ) (a b : List (List Item)) → HoldsTexts parts begin cuts count a →
    HoldsTexts parts begin cuts count b → a ≡ b
texts_one parts bins begin cuts count a b ha hb =
    same_lists (IsText parts begin cuts) (text_one parts bins begin cuts) a b (ha.len ∙ sym hb.len)
    (λ k text here. record { there = ha.there k text here; missing = ha.missing k text here })
    (λ k text here. record { there = hb.there k text here; missing = hb.missing k text here })
