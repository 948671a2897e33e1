-- The texts of a document are its main text, its notes and its header texts.
use Rattle.std.proofs.Common.{◌≡◌, ◌⊎◌, inl, inr, ℕ, ◌≤◌, Option, Some, refl, sym, ◌∙◌, ap, subst, arith}
use Rattle.std.proofs.lemmas.Option.{none-some}
use Rattle.doc_bits.specs.declared.places.Where.{Where}
use Rattle.doc_bits.specs.declared.places.Where.TheVariants.{File, Wd, Table, Sheet, Main, Note, Head}
use Rattle.doc_bits.specs.Rules.{Nowhere, IsLeast}
use Rattle.doc_bits.specs.Places.{Place, rank, Upto}
use Rattle.std.proofs.Common.{List}
use Rattle.doc_model.specs.declared.item.Item.{Item}
use Rattle.doc_model.specs.declared.document.Document.{Document}
use Rattle.plain_doc.specs.declared.rules_texts.Side.TheVariants.{Notes, Heads}
use Rattle.doc_bits.specs.Places.{LeastPlaceOrNone}
use Rattle.plain_doc.specs.RulesOfTexts.{InTexts, text_of_place}
use Rattle.plain_doc.specs.TextRules.{InList}
use Rattle.doc_bits.proofs.Public.{upto_later, upto_same, least_first, least_second, same_places}

module _ (document : Document) (breaks : Where → List Item → ℕ → Type 0) where
  abbrev InMain : Place → Type 0
  InMain place = (place.0 ≡ Main) × breaks Main document.main place.1

  abbrev InNotes : Place → Type 0
  InNotes = InList Notes document.notes breaks

  abbrev InHeads : Place → Type 0
  InHeads = InList Heads document.heads breaks

  abbrev InParts : Place → Type 0
  InParts place = InMain place ⊎ (InNotes place ⊎ InHeads place)

  parts_at : (part : Where) (at : ℕ) → InTexts document breaks (part, at) → InParts (part, at)
  parts_at File at w = absurd (none-some w.text w.there)
  parts_at Wd at w = absurd (none-some w.text w.there)
  parts_at Table at w = absurd (none-some w.text w.there)
  parts_at Sheet at w = absurd (none-some w.text w.there)
  parts_at Main at w =
      let same : w.text ≡ document.main = (let there = w.there in cc) in inl
      (refl, subst (λ text. breaks Main text at) same w.broken)
  parts_at (Note number) at w =
      inr (inl (record { number = number; text = w.text; there = w.there; here = refl; broken = w.broken }))
  parts_at (Head number) at w =
      inr (inr (record { number = number; text = w.text; there = w.there; here = refl; broken = w.broken }))

  in_parts : (place : Place) → InTexts document breaks place → InParts place
  in_parts place w = parts_at place.0 place.1 w

  in_texts : (place : Place) → InParts place → InTexts document breaks place
  in_texts place w = elim w [
    | inl main ↦
        record {
          text = document.main;
          there = ap (text_of_place document) main.0;
          broken = subst
              (λ part. breaks part document.main place.1) (sym main.0) main.1;
        }
    | inr more ↦ elim more [
      | inl note ↦
          record { text = note.text; there = ap (text_of_place document) note.here ∙ note.there; broken = note.broken }
      | inr head ↦
          record { text = head.text; there = ap (text_of_place document) head.here ∙ head.there; broken = head.broken }
    ]
  ]

  -- the main text comes before the notes, and they before the header texts
  main_before : (at : ℕ) (q : Place) → InNotes q ⊎ InHeads q → Upto (Main, at) q
  main_before at q w = elim w [
    | inl note ↦ let e : rank q.0 ≡ 5 = ap rank note.here in upto_later (Main, at) q (omega arith)
    | inr head ↦ let e : rank q.0 ≡ 6 = ap rank head.here in upto_later (Main, at) q (omega arith)
  ]

  note_before : (p q : Place) → InNotes p → InHeads q → Upto p q
  note_before p q note head =
      let e : rank p.0 ≡ 5 = ap rank note.here in
      let f : rank q.0 ≡ 6 = ap rank head.here in
      upto_later p q (omega arith)

  main_least : (at : ℕ) → IsLeast (λ a b. a ≤ b) (breaks Main document.main) at → IsLeast Upto InMain (Main, at)
  main_least at first =
      record {
        broken = (refl, first.broken);
        least = λ q w. upto_same (Main, at) q (sym w.0)
            (first.least q.1 w.1);
      }

  none_in_main : Nowhere (breaks Main document.main) → Nowhere InMain
  none_in_main none = λ q w. none q.1 w.1

  pub first_in_main : (at : ℕ) → IsLeast (λ a b. a ≤ b) (breaks Main document.main) at →
      IsLeast Upto (InTexts document breaks) (Main, at)
  first_in_main at first =
      same_places InParts (InTexts document breaks) (Some (Main, at)) in_texts in_parts
      (least_first InMain (λ q. InNotes q ⊎ InHeads q) (Main, at) (main_least at first) (main_before at))

  pub first_in_notes : (place : Place) → Nowhere (breaks Main document.main) → IsLeast Upto InNotes place →
      IsLeast Upto (InTexts document breaks) place
  first_in_notes place none first =
      same_places InParts (InTexts document breaks) (Some place) in_texts in_parts
      (least_second InMain (λ q. InNotes q ⊎ InHeads q) (Some place) (none_in_main none)
      (least_first InNotes InHeads place first (λ q head. note_before place q first.broken head)))

  pub first_in_heads : (found : Option Place) → Nowhere (breaks Main document.main) → Nowhere InNotes →
      LeastPlaceOrNone InHeads found → LeastPlaceOrNone (InTexts document breaks) found
  first_in_heads found none no_note heads =
      same_places InParts (InTexts document breaks) found in_texts in_parts
      (least_second InMain (λ q. InNotes q ⊎ InHeads q) found (none_in_main none)
      (least_second InNotes InHeads found no_note heads))
