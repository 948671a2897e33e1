-- Where the last run of a text ends, and what WordDocument has from the text on.
use Rattle.std.proofs.Common.{◌≡◌, ◌<◌, ◌≤◌, ◌^◌, ◌+◌, ◌-◌, ◌*◌, ◌∙◌, ap, refl, subst, ℕ, suc, List, [], ◌∷◌, ◌++◌}
use Rattle.std.proofs.Common.{length, map, arith}
use Rattle.std.specs.Prelude.{All}
use Rattle.std.specs.Prelude.{slice_index}
use Rattle.std.proofs.lemmas.List.{append_assoc, length-append}
use Rattle.doc_bits.specs.declared.places.Where.TheVariants.{Main}
use Rattle.doc_bits.proofs.Public.{All_at, All-from_slice_get}
use Rattle.prop_map.specs.Formed.{section_groups}
use Rattle.fkp_pages.specs.declared.kind.PageKind.{PageKind}
use Rattle.fkp_pages.specs.declared.kind.PageKind.TheVariants.{Chpx, Papx}
use Rattle.fkp_pages.specs.declared.lists.Run.{Run}
use Rattle.fkp_pages.specs.Bin.{ArePrintableBins}
use Rattle.fkp_pages.specs.InARow.{numbered_bins}
use Rattle.fkp_pages.proofs.Public.{row_is_printable}
use Rattle.cfb_layout.specs.Sectors.{padded_to_unit}
use Rattle.cfb_layout.proofs.Public.{length-padded}
use Rattle.fkp_pages.specs.PageBytes.{last_fc}
use Rattle.doc_model.specs.declared.item.Item.{Item}
use Rattle.doc_model.specs.declared.document.Document.{Document}
use Rattle.doc_model.specs.Collected.{joined_texts, sections_of}
use Rattle.doc_model.specs.Document.{IsFormedItem}
use Rattle.doc_model.specs.Formed.{IsFormed}
use Rattle.plain_doc.specs.RightDocument.{IsValidDocument}
use Rattle.doc_model.specs.Stretches.{stretches}
use Rattle.doc_model.proofs.Public.{are_stretches}
use Rattle.full_save.specs.declared.text.SavedText.{SavedText}
use Rattle.full_save.specs.RunsSoFar.{IsSavedTextOf}
use Rattle.full_save.specs.Runs.{joins_run, run_at, runs_from, text_runs}
use Rattle.full_save.specs.Text.{text_items}
use Rattle.full_save.specs.Sections.{sepxes, HasSavableSection}
use Rattle.full_save.specs.WordDocument.{text_offset, text_bytes, document_runs, document_pages, pages_end, wd_body}
use Rattle.full_save.proofs.StreamLengths.{length-runs_from, short_body}
use Rattle.full_save.proofs.TextLaidOut.{few_items, runs_are, pages_are, length-pages, length-text}

-- a text has a unit for each item
pub length-units : (document : Document) (text : SavedText) → IsSavedTextOf document text →
    text.len ≡ length (text_items document)
length-units document text is = is.long

last_of : (kind : PageKind) (at : ℕ) (part : List Item) (parts : List (List Item)) →
    last_fc (runs_from kind at (part ∷ parts)) ≡ at + 2 * length (joined_texts (part ∷ parts))
unfolding runs_from
last_of kind at part [] = omega (arith, length-append part [])
last_of kind at part (next ∷ parts) =
    let rest = last_of kind (at + 2 * length part) next parts in
    let later = runs_from kind (at + 2 * length part) (next ∷ parts) in
    let len = length-runs_from kind (at + 2 * length part) (next ∷ parts) in
    let e : suc (length later) - 1 ≡ suc (length later - 1) = omega arith in
    let last : last_fc (run_at kind at part ∷ later) ≡ last_fc later =
    ap (λ (n : ℕ). slice_index (map (λ (run : Run). run.to) (run_at kind at part ∷ later)) n) e in
    last ∙ omega (arith, rest, length-append part (joined_texts (next ∷ parts)))

last_some : (kind : PageKind) (at : ℕ) (parts : List (List Item)) → 0 < length (joined_texts parts) →
    last_fc (runs_from kind at parts) ≡ at + 2 * length (joined_texts parts)
last_some kind at [] some = absurd (omega arith)
last_some kind at (part ∷ parts) some = last_of kind at part parts

-- the last run ends where the text does
pub last_fc-text_runs : (kind : PageKind) (at : ℕ) (items : List Item) → 0 < length items →
    last_fc (text_runs kind at items) ≡ at + 2 * length items
last_fc-text_runs kind at items some =
    let parts = stretches (joins_run kind) items in
    let len = ap length (are_stretches (joins_run kind) items).whole in
    last_some kind at parts (omega (arith, some, len)) ∙ omega (arith, len)

-- ---- of a document

-- each section of the main text has properties that a Sepx can hold
pub sections_savable : (d : Document) → IsFormed d → IsValidDocument d → All HasSavableSection d.main
sections_savable d formed right = All-from_slice_get HasSavableSection d.main (λ k item here properties has.
    let item_formed = All_at IsFormedItem d.main k item formed.main.each here in
    let short = (right.texts Main d.main refl).short k item here in
    record { formed = (section_groups, item_formed.maps.sect properties has); short = short.sect properties has })

-- the ranges of its pages can be printed
pub bins_printable : (kind : PageKind) (d : Document) (number : ℕ) → IsFormed d → IsValidDocument d →
    number + length (document_pages kind d).starts ≤ 2 ^ 22 →
    ArePrintableBins (numbered_bins number (document_pages kind d).starts) (text_offset + 2 * length (text_items d))
bins_printable kind d number formed right small =
    let runs = runs_are kind d formed right in
    let few = few_items d right in
    let some : 0 < length (text_items d) = let n = few.some in omega arith in
    subst (λ (end : ℕ). ArePrintableBins (numbered_bins number (document_pages kind d).starts) end)
    (last_fc-text_runs kind text_offset (text_items d) some)
    (row_is_printable kind (document_runs kind d) (document_pages kind d) number runs.right
    (pages_are kind d formed right) runs.some small)

-- the text and the pages, one behind the other
abbrev pub text_and_pages : Document → List ℕ
text_and_pages d = (padded_to_unit 512 0 (text_bytes d) ++ (document_pages Chpx d).bytes) ++ (document_pages Papx
    d).bytes

pub body_is : (d : Document) → text_and_pages d ++ sepxes (sections_of d.main) ≡ wd_body d
unfolding wd_body
body_is d =
    let text = padded_to_unit 512 0 (text_bytes d) in
    let chp = (document_pages Chpx d).bytes in
    let pap = (document_pages Papx d).bytes in
    append_assoc (text ++ chp) pap (sepxes (sections_of d.main))
    ∙ append_assoc text chp (pap ++ sepxes (sections_of d.main))

-- where they end
pub pages_end_is : (d : Document) → IsFormed d → IsValidDocument d → text_offset + length (text_and_pages d) ≡ pages_end
    d
pages_end_is d formed right =
    let text = padded_to_unit 512 0 (text_bytes d) in
    let chp = (document_pages Chpx d).bytes in
    let pap = (document_pages Papx d).bytes in
    let units = length-text d in
    let whole = length-padded 512 0 (text_bytes d) (omega arith) in
    let chp_size = length-pages Chpx d formed right in
    let pap_size = length-pages Papx d formed right in
    omega (arith, units, whole, chp_size, pap_size, length-append (text ++ chp) pap, length-append text chp)

pub pages_short : (d : Document) → IsFormed d → IsValidDocument d → length (text_and_pages d) < 2 ^ 30
pages_short d formed right =
    let body = short_body d formed right in
    let len = ap length (body_is d) in
    omega (arith, body, len, length-append (text_and_pages d) (sepxes (sections_of d.main)))
