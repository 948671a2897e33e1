-- The lists of Prcs, one after the other.
use Rattle.std.specs.Prelude.{slice_get}
use Rattle.std.proofs.Common.{◌≡◌, ◌∙◌, ◌+◌, ◌<◌, ◌≤◌, refl, sym, ap, subst, inl, inr, ℕ, List, [], ◌∷◌, ◌++◌, length}
use Rattle.std.proofs.Common.{Some, arith, length-append}
use Rattle.std.specs.List.{flat_map}
use Rattle.std.proofs.lemmas.Option.{slice_get_within}
use Rattle.std.proofs.lemmas.List.{append-nil}
use Rattle.std.proofs.lemmas.Grind.{flat_map-append}
use Rattle.doc_bits.proofs.Public.{there_is, last_get}
use Rattle.sprm_table.specs.Sprm.{Prl}
use Rattle.piece_table.specs.Front.{ArePrcs}
use Rattle.piece_table.proofs.Public.{prcs_unique, front_of_prc}
use Rattle.code_losses.specs.declared.counts.CodeCounts.{CodeCounts}
use Rattle.code_losses.specs.Counted.{IsFoundPrlList, AreCodeCounts}
use Rattle.code_losses.specs.Prcs.{AreFoundIn, AreListsOfPrcs}
use Rattle.code_losses.proofs.JoinLemmas.{parts_one}
use Rattle.code_losses.proofs.OneLemmas.{found_one}

pub found_none : AreFoundIn [] []
found_none = record {
  parts = [];
  len = refl;
  each = λ k bytes part there here.
      absurd (omega (arith, slice_get_within {A = List ℕ} [] k bytes there));
  joined = refl;
}

pub found_more : (ranges : List (List ℕ)) (lists : List (List Prl)) (bytes : List ℕ) (part : List (List Prl)) →
    AreFoundIn ranges lists → IsFoundPrlList bytes part → AreFoundIn (ranges ++ bytes ∷ []) (lists ++ part)
found_more ranges lists bytes part are one =
    let len = are.len in
    record {
      parts = are.parts ++ part ∷ [];
      len = omega (arith, len, length-append are.parts (part ∷ []), length-append ranges (bytes ∷ []));
      each = λ k other found there here. elim (last_get ranges bytes other k there) [
        | inl range ↦ elim (last_get are.parts part found k here) [
          | inl old ↦ are.each k other found range old
          | inr last ↦
              let below = slice_get_within ranges k other range in
              absurd (omega (arith, below, last.0, len))
        ]
        | inr range ↦ elim (last_get are.parts part found k here) [
          | inl old ↦
              let below = slice_get_within are.parts k found old in
              absurd (omega (arith, below, range.0, len))
          | inr last ↦ subst (λ p. IsFoundPrlList other p) last.1 (subst (λ b. IsFoundPrlList b part) range.1 one)
        ]
      ];
      joined =
          ap (λ (l : List (List Prl)). l ++ part) are.joined
          ∙ (ap (λ (l : List (List Prl)). flat_map (λ p. p) are.parts ++ l) (sym (append-nil part))
          ∙ sym (flat_map-append (λ (p : List (List Prl)). p) are.parts (part ∷ [])));
    }

-- the Prcs before an offset are counted
pub record CountsPrcs (clx : List ℕ) (at : ℕ) (counts : CodeCounts) : Type 0 where
  pub prcs : List (List ℕ)
  pub are : ArePrcs clx prcs at
  pub lists : List (List Prl)
  pub found : AreFoundIn prcs lists
  pub counted : AreCodeCounts lists counts

-- ---- they are one

found_in_one : (ranges : List (List ℕ)) (a b : List (List Prl)) → AreFoundIn ranges a → AreFoundIn ranges b → a ≡ b
found_in_one ranges a b x y =
    let len = x.len in
    let parts = parts_one x.parts y.parts (len ∙ sym y.len) (λ k one other here there.
    let below = slice_get_within x.parts k one here in
    let range = there_is ranges k (omega (arith, below, len)) in
    found_one range.0 one other (x.each k range.0 one range.1 here) (y.each k range.0 other range.1 there)) in
    x.joined ∙ (ap (flat_map (λ (p : List (List Prl)). p)) parts ∙ sym y.joined)

pub prcs_one : (clx : List ℕ) (a b : List (List Prl)) → AreListsOfPrcs clx a → AreListsOfPrcs clx b → a ≡ b
prcs_one clx a b x y =
    let same = prcs_unique x.prcs y.prcs _ _ x.are.are.sizes y.are.are.sizes
    (sym x.are.are.spelt ∙ y.are.are.spelt) (front_of_prc _ x.are.none) (front_of_prc _ y.are.none) in
    found_in_one y.prcs a b (subst (λ (p : List (List ℕ)). AreFoundIn p a) same.0 x.found) y.found
