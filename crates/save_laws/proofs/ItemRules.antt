-- What a right document says of the items of its main text, of its notes and of its header texts.
use Rattle.std.specs.Prelude.{slice_get, is_some, IsSome, IsTrue}
use Rattle.std.proofs.Common.{All, ◌≡◌, ◌∙◌, refl, sym, ap, ℕ, ◌≤◌, List, [], ◌∷◌, length, Option, Some, None, arith}
use Rattle.std.proofs.Common.{inl, inr}
use Rattle.std.proofs.lemmas.Bool.{le-leb}
use Rattle.std.proofs.lemmas.Option.{none-some}
use Rattle.doc_bits.specs.declared.places.Where.{Where}
use Rattle.doc_bits.specs.declared.places.Where.TheVariants.{Main, Note, Head}
use Rattle.doc_bits.specs.Places.{rank}
use Rattle.doc_bits.proofs.Public.{All-from_slice_get}
use Rattle.doc_parts.specs.Fields.{is_field_unit}
use Rattle.text_codes.specs.Paragraph.{is_paragraph_end}
use Rattle.plain_doc.specs.RulesOfTexts.{last_unit}
use Rattle.doc_model.specs.declared.item.Item.{Item}
use Rattle.doc_model.specs.declared.document.Document.{Document}
use Rattle.doc_model.specs.Collected.{joined_texts}
use Rattle.plain_doc.specs.RightDocument.{IsValidText, IsValidDocument}
use Rattle.plain_doc.proofs.Public.{marked_at_ends}
use Rattle.doc_model.proofs.Public.{joined_all, empty_joined}

-- a mark is exactly where a paragraph ends, and a field byte on a field unit alone
pub record IsSavedItem (item : Item) : Type 0 where
  pub ends : is_some item.mark ≡ is_paragraph_end item.unit (is_some item.sect)
  pub field : IsSome item.fld → IsTrue (is_field_unit item.unit)

-- no section ends there, and it refers to no note
pub record IsLaterItem (item : Item) : Type 0 where
  pub section : item.sect ≡ None
  pub note : item.note ≡ None

field_unit : (unit : ℕ) → 0x13 ≤ unit → unit ≤ 0x15 → IsTrue (is_field_unit unit)
field_unit unit low high = rw (le-leb 0x13 unit low, le-leb unit 0x15 high) refl

text_saved : (document : Document) (part : Where) (text : List Item) → IsValidText document.sheet part text →
    All IsSavedItem text
text_saved document part text right =
    All-from_slice_get IsSavedItem text (λ i item here. record {
      ends = marked_at_ends document.sheet part text i item right here;
      field = λ some. let within = (right.placed i item here).field some in field_unit item.unit within.0 within.1;
    })

pub main_saved : (document : Document) → IsValidDocument document → All IsSavedItem document.main
main_saved document right = text_saved document Main document.main (right.texts Main document.main refl)

pub notes_saved : (document : Document) → IsValidDocument document → All IsSavedItem (joined_texts document.notes)
notes_saved document right =
    joined_all IsSavedItem document.notes
    (λ k text there. text_saved document (Note k) text (right.texts (Note k) text there))

pub heads_saved : (document : Document) → IsValidDocument document → All IsSavedItem (joined_texts document.heads)
heads_saved document right =
    joined_all IsSavedItem document.heads
    (λ k text there. text_saved document (Head k) text (right.texts (Head k) text there))

nothing : {A : Type 0} (o : Option A) → ¬ (IsSome o) → o ≡ None
nothing None no_value = refl
nothing (Some value) no_value = absurd (no_value refl)

text_later : (document : Document) (part : Where) (text : List Item) → IsValidText document.sheet part text →
    ¬ (part ≡ Main) → All IsLaterItem text
text_later document part text right other =
    All-from_slice_get IsLaterItem text (λ i item here. record {
      section = nothing item.sect (λ some. other ((right.placed i item here).section.alone some).0);
      note = nothing item.note (λ some. other ((right.placed i item here).note some));
    })

pub notes_later : (document : Document) → IsValidDocument document → All IsLaterItem (joined_texts document.notes)
notes_later document right =
    joined_all IsLaterItem document.notes (λ k text there.
    text_later document (Note k) text (right.texts (Note k) text there) (λ same. absurd (omega (arith, ap rank same))))

pub heads_later : (document : Document) → IsValidDocument document → All IsLaterItem (joined_texts document.heads)
heads_later document right =
    joined_all IsLaterItem document.heads (λ k text there.
    text_later document (Head k) text (right.texts (Head k) text there) (λ same. absurd (omega (arith, ap rank same))))

-- where there is a note there are items of notes
note_some : (document : Document) → IsValidDocument document → (text : List Item) (texts : List (List Item)) →
    document.notes ≡ text ∷ texts → ¬ (length (joined_texts document.notes) ≡ 0)
note_some document right text texts are none =
    let there : slice_get document.notes 0 ≡ Some text = ap (λ l. slice_get l 0) are in
    let empty : text ≡ [] = empty_joined document.notes 0 text none there in
    elim (right.texts (Note 0) text there).ends [
      | inl ends ↦
          let nothing_there : last_unit text ≡ None = ap last_unit empty in
          none-some 0x0D (sym nothing_there ∙ ends)
      | inr head ↦ omega (arith, ap rank head.0.1)
    ]

notes_by : (document : Document) → IsValidDocument document → (texts : List (List Item)) → document.notes ≡ texts →
    length (joined_texts document.notes) ≡ 0 → length document.notes ≡ 0
notes_by document right [] are none = ap length are
notes_by document right (text ∷ texts) are none = absurd (note_some document right text texts are none)

pub no_notes : (document : Document) → IsValidDocument document → length (joined_texts document.notes) ≡ 0 →
    length document.notes ≡ 0
no_notes document right none = notes_by document right document.notes refl none
