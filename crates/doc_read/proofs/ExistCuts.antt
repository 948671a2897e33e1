-- Texts that are cut out of well-formed items.
use Rattle.std.proofs.Common.{◌≡◌, inl, inr, refl, ℕ, ◌+◌, ◌-◌, ◌<◌, ◌≤◌, ◌^◌, List, [], length, drop, arith}
use Rattle.std.proofs.Common.{length-take, length-drop}
use Rattle.std.specs.Prelude.{slice_index, slice_range}
use Rattle.std.specs.List.{All}
use Rattle.std.proofs.lemmas.Bool.{cases_lt}
use Rattle.std.proofs.lemmas.List.Elements.{All-nil, All-take, All-drop}
use Rattle.doc_model.specs.declared.item.Item.{Item}
use Rattle.doc_model.specs.Document.{IsFormedItem, IsFormedText, AreFormedTexts}
use Rattle.doc_read.specs.Texts.{AreCutFrom}
use Rattle.doc_parts.proofs.Public.{list_of}
use Rattle.doc_bits.proofs.Public.{All-from_slice_get}

record IsCut (items : List Item) (begin : ℕ) (cuts : List ℕ) (k : ℕ) (text : List Item) : Type 0 where
  there : k + 1 < length cuts → text ≡ slice_range items (begin + slice_index cuts k) (begin + slice_index cuts (k + 1))
  missing : length cuts ≤ k + 1 → text ≡ []
  formed : IsFormedText text

pub record HasTexts (items : List Item) (begin : ℕ) (cuts : List ℕ) (count : ℕ) : Type 0 where
  pub texts : List (List Item)
  pub cut : AreCutFrom items begin cuts count texts
  pub formed : AreFormedTexts texts

cut_there : (items : List Item) (begin : ℕ) (cuts : List ℕ) (k : ℕ) → All IsFormedItem items → length items < 2 ^ 32 →
    (text : List Item) × IsCut items begin cuts k text
cut_there items begin cuts k all few = elim (cases_lt (k + 1) (length cuts)) [
  | inl there ↦
      let from = begin + slice_index cuts k in
      let to = begin + slice_index cuts (k + 1) in (
        slice_range items from to,
        record {
          there = λ more. refl;
          missing = λ over. absurd (omega arith);
          formed = record {
            few = omega (arith, length-take (to - from) (drop from items), length-drop from items);
            each = All-take IsFormedItem (to - from) (drop from items) (All-drop IsFormedItem from items all);
          };
        },
      )
  | inr missing ↦ (
    [],
    record {
      there = λ more. absurd (omega arith);
      missing = λ over. refl;
      formed = record { few = omega arith; each = All-nil IsFormedItem };
    },
  )
]

pub texts_there : (items : List Item) (begin : ℕ) (cuts : List ℕ) (count : ℕ) → All IsFormedItem items →
    length items < 2 ^ 32 → count < 2 ^ 32 → HasTexts items begin cuts count
texts_there items begin cuts count all few small =
    let found = list_of count (IsCut items begin cuts) (λ k below. cut_there items begin cuts k all few) in
    let len = found.len in
    record {
      texts = found.list;
      cut = record {
        len = len;
        there = λ k text here. (found.each k text here).there;
        missing = λ k text here.
            (found.each k text here).missing;
      };
      formed = record {
        few = omega arith;
        each = All-from_slice_get IsFormedText found.list (λ k text here.
            (found.each k text here).formed);
      };
    }
