-- The least place of a rule on the styles, which come before the texts.
use Rattle.std.proofs.Common.{◌⊎◌, ℕ, ◌<◌, ◌≤◌, List, Option, refl, sym, arith}
use Rattle.std.proofs.lemmas.Option.{none-some}
use Rattle.doc_bits.specs.declared.places.Where.{Where}
use Rattle.doc_bits.specs.declared.places.Where.TheVariants.{File, Wd, Table, Sheet, Main, Note, Head}
use Rattle.doc_bits.specs.Rules.{Nowhere, IsLeast}
use Rattle.doc_bits.specs.Places.{Place, rank, Upto}
use Rattle.doc_model.specs.declared.item.Item.{Item}
use Rattle.doc_model.specs.declared.document.Document.{Document}
use Rattle.plain_doc.specs.RulesOfSheet.{InSheet}
use Rattle.doc_bits.specs.Places.{LeastPlaceOrNone}
use Rattle.plain_doc.specs.RulesOfTexts.{InTexts}
use Rattle.doc_bits.proofs.Public.{upto_later, upto_same, least_first, least_second}

pub first_style : (breaks : ℕ → Type 0) (istd : ℕ) → IsLeast (λ a b. a ≤ b) breaks istd →
    IsLeast Upto (InSheet breaks) (Sheet, istd)
first_style breaks istd first =
    record {
      broken = (refl, first.broken);
      least = λ q w. upto_same (Sheet, istd) q (sym w.0)
          (first.least q.1 w.1);
    }

pub no_style : (breaks : ℕ → Type 0) → Nowhere breaks → Nowhere (InSheet breaks)
no_style breaks none = λ place w. none place.1 w.1

module _ (document : Document) (breaks : Where → List Item → ℕ → Type 0) where
  after_sheet : (part : Where) (at : ℕ) → InTexts document breaks (part, at) → 3 < rank part
  after_sheet File at w = absurd (none-some w.text w.there)
  after_sheet Wd at w = absurd (none-some w.text w.there)
  after_sheet Table at w = absurd (none-some w.text w.there)
  after_sheet Sheet at w = absurd (none-some w.text w.there)
  after_sheet Main at w = omega arith
  after_sheet (Note number) at w = omega arith
  after_sheet (Head number) at w = omega arith

  -- a rule on styles and on texts
  pub style_first : (styles : ℕ → Type 0) (istd : ℕ) → IsLeast (λ a b. a ≤ b) styles istd →
      IsLeast Upto (λ place. InSheet styles place ⊎ InTexts document breaks place) (Sheet, istd)
  style_first styles istd first =
      least_first (InSheet styles) (InTexts document breaks) (Sheet, istd) (first_style styles istd first)
      (λ q w. upto_later (Sheet, istd) q (after_sheet q.0 q.1 w))

  pub texts_after : (styles : ℕ → Type 0) (found : Option Place) → Nowhere styles →
      LeastPlaceOrNone (InTexts document breaks) found →
      LeastPlaceOrNone (λ place. InSheet styles place ⊎ InTexts document breaks place) found
  texts_after styles found none texts =
      least_second (InSheet styles) (InTexts document breaks) found (no_style styles none) texts
