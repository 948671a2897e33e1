-- Of two sound documents the joined one breaks the rules on the numbers of items and of bookmarks alone.
use Rattle.std.proofs.Common.{◌≡◌, ◌∙◌, inl, inr, ◌⊎◌, ap, ℕ, List, []}
use Rattle.std.proofs.Common.{length, take, Some}
use Rattle.std.proofs.Math.Seq.{take-length}
use Rattle.doc_bits.proofs.Public.{hold_or_first}
use Rattle.doc_bits.specs.Rules.{Nowhere, Hold, IsSingle}
use Rattle.doc_bits.specs.Places.{Place, Upto, IsFirstPlace}
use Rattle.doc_bits.specs.declared.places.Where.{Where}
use Rattle.doc_model.specs.declared.item.Item.{Item}
use Rattle.doc_model.specs.declared.document.Document.{Document}
use Rattle.plain_doc.specs.Nesting.{field_characters, most_open, BreaksNesting}
use Rattle.plain_doc.specs.Rows.{FitsRow, open_cells, BreaksRows}
use Rattle.plain_doc.specs.RulesOfItems.{IsWrongItem, IsPlacedRight, HasShortProperties}
use Rattle.plain_doc.specs.RulesOfTexts.{InTexts, HasWrongEnd, HasParagraphStyle}
use Rattle.plain_doc.specs.Sound.{document_rules, text_rules, base_rules, size_rules}
use Rattle.plain_doc.specs.RightDocument.{IsValidText}
use Rattle.plain_doc.specs.OpenFields.{after_all}
use Rattle.plain_doc.proofs.Public.{nest_passes, nothing_open, none_wrong}
use Rattle.doc_join.specs.Join.{document_join}
use Rattle.doc_join.specs.Laws.{JoinsBreakCountsAlone}
use Rattle.doc_join.proofs.JoinedRightLemmas.{IsValidAttachedCounts, right_attached_counts}

-- ---- the rules that hold

nowhere_in_texts : (document : Document) (breaks : Where → List Item → ℕ → Type 0) → IsValidAttachedCounts document →
    ((part : Where) (text : List Item) → IsValidText document.sheet part text → (i : ℕ) → ¬ (breaks part text i)) →
    Nowhere (InTexts document breaks)
nowhere_in_texts document breaks right none place w =
    none place.0 w.text (right.texts place.0 w.text w.there) place.1 w.broken

texts_hold : (document : Document) → IsValidAttachedCounts document → Hold (text_rules document)
texts_hold document right =
    let sheet = document.sheet in (
      nowhere_in_texts document HasWrongEnd right (λ part text t i w. w.1 t.ends),
      (
        nowhere_in_texts document (λ part text. IsWrongItem (IsPlacedRight part (length text)) text) right
            (λ part text t. none_wrong (IsPlacedRight part (length text)) text t.placed),
        (
          nowhere_in_texts document (λ part text. BreaksNesting text) right
              (λ part text t.
              nothing_open text (ap (λ items. after_all most_open (field_characters items) (Some []))
              (take-length text) ∙ nest_passes most_open (field_characters text) t.fields)),
          (
            nowhere_in_texts document (λ part text. BreaksRows text) right
                (λ part text t i w. elim w [
                  | inl wrong ↦ none_wrong (λ i item. FitsRow (open_cells (take i text)) item) text t.rows i wrong
                  | inr end ↦ end.1 t.row_ends
                ]),
            nowhere_in_texts document
                (λ part text. IsWrongItem (λ place item. HasParagraphStyle sheet item) text) right
                (λ part text t. none_wrong (λ i item. HasParagraphStyle sheet item) text t.styles),
          ),
        ),
      ),
    )

bases_hold : (document : Document) → IsValidAttachedCounts document → Hold (base_rules document)
bases_hold document right place w = elim w.1 [
  | inl normal ↦ normal.1 right.bases.normal
  | inr none ↦ let found = right.bases.chains place.1 none.properties in none.none found.0 found.1
]

sizes_hold : (document : Document) → IsValidAttachedCounts document → Hold (size_rules document)
sizes_hold document right =
    let short =
    nowhere_in_texts document (λ part text. IsWrongItem (λ i item. HasShortProperties item) text) right
    (λ part text t. none_wrong (λ i item. HasShortProperties item) text t.short) in (
      λ place w. elim w [ inl style ↦ style.1 (right.short place.1) | inr item ↦ short place item ],
      λ place w. w.1 (right.writable place.1),
    )

-- ---- the law

text_single : (document : Document) → IsSingle (text_rules document)
text_single document = (tt, (tt, (tt, (tt, tt))))

size_single : (document : Document) → IsSingle (size_rules document)
size_single document = (tt, tt)

counts_alone : (document : Document) (number : ℕ) (place : Place) → IsValidAttachedCounts document →
    IsFirstPlace (document_rules document) number place → (number ≡ 68) ⊎ (number ≡ 69)
counts_alone document number place right first = elim first [
  | inl text ↦
      absurd (hold_or_first Upto (text_rules document) number place (text_single document) (texts_hold document right)
      text)
  | inr later ↦ elim later.1 [
    | inl base ↦ absurd (hold_or_first Upto (base_rules document) number place tt (bases_hold document right) base)
    | inr rest ↦ elim rest.1 [
      | inl count ↦ elim count [
        | inl notes ↦ absurd (notes.1.broken.1 right.notes)
        | inr next ↦ elim next.1 [
          | inl heads ↦ absurd (heads.1.broken.1 right.heads)
          | inr last ↦ elim last.1 [ inl items ↦ inl items.0 | inr bookmarks ↦ inr bookmarks.1.0 ]
        ]
      ]
      | inr sizes ↦
          absurd (hold_or_first Upto (size_rules document) number place (size_single document)
          (sizes_hold document right) sizes.1)
    ]
  ]
]

pub break_counts_alone : JoinsBreakCountsAlone
break_counts_alone first second number place can broken =
    counts_alone (document_join first second) number place (right_attached_counts first second can) broken
