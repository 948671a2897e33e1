-- Lists of parts, one after the other.
use Rattle.std.specs.Prelude.{slice_get}
use Rattle.std.proofs.Common.{◌≡◌, ◌∙◌, ◌+◌, refl, sym, ap, subst, inl, inr, ℕ, List, [], ◌∷◌, ◌++◌, length}
use Rattle.std.proofs.Common.{Some, suc, arith, length-append, append_assoc}
use Rattle.std.specs.List.{flat_map}
use Rattle.std.proofs.lemmas.Option.{slice_get_within}
use Rattle.std.proofs.lemmas.List.{append-nil}
use Rattle.std.proofs.lemmas.Grind.{flat_map-append}
use Rattle.sprm_table.specs.Sprm.{Prl}
use Rattle.code_losses.specs.declared.counts.CodeCounts.{CodeCounts}
use Rattle.code_losses.specs.Counted.{AreCodeCounts, CountsPart}
use Rattle.code_losses.specs.Pages.{AreJoined, CountsJoined}
use Rattle.doc_bits.proofs.Public.{last_get}

abbrev Lists : Type 0
Lists = List (List Prl)

pub joined_none : (is : ℕ → Lists → Type 0) → AreJoined is 0 []
joined_none is = record {
  parts = [];
  len = refl;
  each = λ k part here. absurd (omega (arith, slice_get_within {A = Lists} [] k part here));
  joined = refl;
}

pub joined_more : (is : ℕ → Lists → Type 0) (count : ℕ) (lists part : Lists) → AreJoined is count lists →
    is count part → AreJoined is (count + 1) (lists ++ part)
joined_more is count lists part are one = record {
  parts = are.parts ++ part ∷ [];
  len = length-append are.parts (part ∷ []) ∙ ap (λ n. n + 1) are.len;
  each = λ k other here. elim (last_get are.parts part other k here) [
    | inl there ↦ are.each k other there
    | inr last ↦
        let at : count ≡ k = sym (last.0 ∙ are.len) in
        subst (λ p. is k p) last.1 (subst (λ n. is n part) at one)
  ];
  joined =
      ap (λ l. l ++ part) are.joined
      ∙ (ap (λ l. flat_map (λ p. p) are.parts ++ l) (sym (append-nil part))
      ∙ sym (flat_map-append (λ (p : Lists). p) are.parts (part ∷ [])));
}

-- one part more is counted
pub counts_more : (is : ℕ → Lists → Type 0) (count : ℕ) (lists : Lists) (now new : CodeCounts) →
    CountsJoined is count lists now → ((all : Lists) → AreCodeCounts all now → CountsPart (is count) all new) →
    CountsJoined is (count + 1) lists new
counts_more is count lists now new joined step =
    let more = step (lists ++ joined.found) joined.counted in
    record {
      found = joined.found ++ more.found;
      are = joined_more is count joined.found more.found joined.are more.is_found;
      counted = subst (λ l. AreCodeCounts l new) (append_assoc lists joined.found more.found) more.counted;
    }

pub counts_none : (is : ℕ → Lists → Type 0) (lists : Lists) (now : CodeCounts) → AreCodeCounts lists now →
    CountsJoined is 0 lists now
counts_none is lists now counted = record {
  found = [];
  are = joined_none is;
  counted = subst (λ l. AreCodeCounts l now) (sym (append-nil lists)) counted;
}

-- nothing is counted besides
pub part_none : (is : Lists → Type 0) (lists : Lists) (now : CodeCounts) → is [] → AreCodeCounts lists now →
    CountsPart is lists now
part_none is lists now none counted = record {
  found = [];
  is_found = none;
  counted = subst (λ l. AreCodeCounts l now) (sym (append-nil lists)) counted;
}

-- ---- they are one

pub parts_one : (one other : List Lists) → length one ≡ length other →
    ((k : ℕ) (a b : Lists) → slice_get one k ≡ Some a → slice_get other k ≡ Some b → a ≡ b) → one ≡ other
parts_one [] [] len same = refl
parts_one [] (b ∷ other) len same = absurd (omega (arith, len))
parts_one (a ∷ one) [] len same = absurd (omega (arith, len))
parts_one (a ∷ one) (b ∷ other) len same =
    let first : a ≡ b = same 0 a b refl refl in
    let rest : one ≡ other = parts_one one other (omega (arith, len)) (λ k x y l r. same (suc k) x y l r) in
    λ i. first i ∷ rest i

pub joined_one : (is : ℕ → Lists → Type 0) (count : ℕ) (a b : Lists) → AreJoined is count a → AreJoined is count b →
    ((k : ℕ) (x y : Lists) → is k x → is k y → x ≡ y) → a ≡ b
joined_one is count a b one other same =
    let parts = parts_one one.parts other.parts (one.len ∙ sym other.len)
    (λ k x y l r. same k x y (one.each k x l) (other.each k y r)) in
    one.joined ∙ (ap (flat_map (λ p. p)) parts ∙ sym other.joined)
