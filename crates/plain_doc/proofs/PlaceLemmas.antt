-- The least place of a rule over the texts of a document: the main text first, then the notes and the header texts by
-- their numbers.
use Rattle.std.proofs.Common.{◌≡◌, inl, inr, ℕ, ◌<◌, ◌≤◌, List, length, Some, refl, sym, ◌∙◌, ap, subst, arith}
use Rattle.std.specs.Prelude.{slice_get}
use Rattle.std.proofs.lemmas.Bool.{cases_lt}
use Rattle.std.proofs.lemmas.Option.{slice_get_within}
use Rattle.doc_bits.specs.declared.places.Where.{Where}
use Rattle.doc_bits.specs.Rules.{Nowhere, IsLeast}
use Rattle.doc_bits.specs.Places.{rank, inner, Upto}
use Rattle.doc_bits.proofs.Public.{upto_same, upto_next}
use Rattle.doc_model.specs.declared.item.Item.{Item}
use Rattle.plain_doc.specs.declared.rules_texts.Side.{Side}
use Rattle.plain_doc.specs.declared.rules_texts.Side.TheVariants.{Notes, Heads}
use Rattle.plain_doc.specs.TextRules.{InList, side_text_place}

rank_of : (side : Side) (j k : ℕ) → rank (side_text_place side j) ≡ rank (side_text_place side k)
rank_of Notes j k = refl
rank_of Heads j k = refl

inner_of : (side : Side) (k : ℕ) → inner (side_text_place side k) ≡ k
inner_of Notes k = refl
inner_of Heads k = refl

-- the text of this number, where it is there, does not break the rule
pub HoldsInText : Side → List (List Item) → (Where → List Item → ℕ → Type 0) → ℕ → Type 0
HoldsInText side texts breaks k =
    (text : List Item) → slice_get texts k ≡ Some text → (at : ℕ) → ¬ (breaks (side_text_place side k) text at)

pub holds_here : (side : Side) (texts : List (List Item)) (breaks : Where → List Item → ℕ → Type 0) (k : ℕ)
    (text : List Item) → slice_get texts k ≡ Some text → Nowhere (breaks (side_text_place side k) text) →
    HoldsInText side texts breaks k
unfolding HoldsInText
holds_here side texts breaks k text there none = λ other is at broken.
    let same : other ≡ text = cc in none at (subst (λ t. breaks (side_text_place side k) t at) same broken)

-- where no text breaks it, the list does not
pub list_holds : (side : Side) (texts : List (List Item)) (breaks : Where → List Item → ℕ → Type 0) (n : ℕ) →
    length texts ≤ n → ((k : ℕ) → k < n → HoldsInText side texts breaks k) → Nowhere (InList side texts breaks)
unfolding HoldsInText
list_holds side texts breaks n all before = λ place w.
    let within = slice_get_within texts w.number w.text w.there in
    before w.number (omega arith) w.text w.there place.1 (subst (λ part. breaks part w.text place.1) w.here w.broken)

-- the first text that breaks it has the least place
pub list_first : (side : Side) (texts : List (List Item)) (breaks : Where → List Item → ℕ → Type 0) (k at : ℕ)
    (text : List Item) → ((j : ℕ) → j < k → HoldsInText side texts breaks j) → slice_get texts k ≡ Some text →
    IsLeast (λ a b. a ≤ b) (breaks (side_text_place side k) text) at →
    IsLeast Upto (InList side texts breaks) (side_text_place side k, at)
unfolding HoldsInText
list_first side texts breaks k at text before there first = record {
  broken = record { number = k; text = text; there = there; here = refl; broken = first.broken };
  least = λ q w.
      let broken : breaks (side_text_place side w.number) w.text q.1 = subst (λ part. breaks part w.text q.1) w.here
      w.broken in
      let ranks : rank (side_text_place side k) ≡ rank q.0 = rank_of side k w.number ∙ ap rank (sym w.here) in
      let number : inner q.0 ≡ w.number = ap inner w.here ∙ inner_of side w.number in
      let own : inner (side_text_place side k) ≡ k = inner_of side k in
      elim (cases_lt w.number k) [
        | inl low ↦ absurd (before w.number low w.text w.there q.1 broken)
        | inr high ↦ elim (cases_lt k w.number) [
          | inl over ↦ upto_next (side_text_place side k, at) q ranks (omega arith)
          | inr under ↦
              let e : w.number ≡ k = omega arith in
              let same : w.text ≡ text =
              (let a = w.there in let b = subst (λ n. slice_get texts n ≡ Some text) (sym e) there in cc) in
              let le : at ≤ q.1 =
              first.least q.1 (subst (λ t. breaks (side_text_place side k) t q.1) same
              (subst (λ n. breaks (side_text_place side n) w.text q.1) e broken)) in
              upto_same (side_text_place side k, at) q (ap (side_text_place side) (sym e) ∙ sym w.here) le
        ]
      ];
}
