-- Chains of bases: the bases that follow each other from a style on, and that they are its chain where they end.
use Rattle.std.proofs.Common.{◌≡◌, ◌≢◌, inl, inr, ℕ, zero, suc, ◌+◌, ◌-◌, ◌<◌, ◌≤◌, List, [], ◌∷◌, ◌++◌, length, take}
use Rattle.std.proofs.Common.{reverse, slice_index, Some, None, refl, sym, ◌∙◌, ap, subst, arith}
use Rattle.std.specs.Option.{unwrap_or}
use Rattle.std.proofs.lemmas.Bool.{cases_lt}
use Rattle.std.proofs.lemmas.List.{reverse-append, get_or-take, length-take-le}
use Rattle.style_sheet.specs.Sheet.{Sheet}
use Rattle.style_sheet.specs.Chain.{style_kind_at, base_at, IsBaseChain, AreOfOneKind}

-- the style that is reached by so many bases
abbrev pub up : Sheet → ℕ → ℕ → ℕ
up sheet istd zero = istd
up sheet istd (suc n) = unwrap_or (base_at sheet (up sheet istd n)) (up sheet istd n)

-- the styles from there down to the first
abbrev pub ups : Sheet → ℕ → ℕ → List ℕ
ups sheet istd zero = istd ∷ []
ups sheet istd (suc n) = up sheet istd (suc n) ∷ ups sheet istd n

-- so many bases follow each other, all of the style's kind
pub record IsClimbed (sheet : Sheet) (istd n at : ℕ) : Type 0 where
  pub properties : 0 < style_kind_at sheet istd
  pub here : at ≡ up sheet istd n
  pub links : (k : ℕ) → k < n → base_at sheet (up sheet istd k) ≡ Some (up sheet istd (suc k))
  pub kind : (k : ℕ) → k ≤ n → style_kind_at sheet (up sheet istd k) ≡ style_kind_at sheet istd

pub climbed_none : (sheet : Sheet) (istd : ℕ) → 0 < style_kind_at sheet istd → IsClimbed sheet istd 0 istd
climbed_none sheet istd h = record {
  properties = h;
  here = refl;
  links = λ k below. absurd (omega arith);
  kind = λ k below. let e : k ≡ 0 = omega arith in rw e refl;
}

-- the style above, where the last one has a base
pub up_more : (sheet : Sheet) (istd n at base : ℕ) → at ≡ up sheet istd n → base_at sheet at ≡ Some base →
    up sheet istd (suc n) ≡ base
up_more sheet istd n at base here e = ap (λ b. unwrap_or b (up sheet istd n)) (ap (base_at sheet) (sym here) ∙ e)

pub climbed_more : (sheet : Sheet) (istd n at base : ℕ) → IsClimbed sheet istd n at → base_at sheet at ≡ Some base →
    style_kind_at sheet base ≡ style_kind_at sheet istd → IsClimbed sheet istd (suc n) base
climbed_more sheet istd n at base c e same =
    let next = up_more sheet istd n at base c.here e in
    record {
      properties = c.properties;
      here = sym next;
      links = λ k below. elim (cases_lt k n) [
        | inl lo ↦ c.links k lo
        | inr hi ↦
            let last : n ≡ k = omega arith in
            subst (λ j. base_at sheet (up sheet istd j) ≡ Some (up sheet istd (suc j))) last (ap (base_at sheet)
            (sym c.here) ∙ (e ∙ ap Some (sym next)))
      ];
      kind = λ k below. elim (cases_lt k (suc n)) [
        | inl lo ↦ c.kind k (omega arith)
        | inr hi ↦
            let last : suc n ≡ k = omega arith in
            subst (λ j. style_kind_at sheet (up sheet istd j) ≡ style_kind_at sheet istd) last (ap (style_kind_at sheet)
            next ∙ same)
      ];
    }

pub length-ups : (sheet : Sheet) (istd n : ℕ) → length (ups sheet istd n) ≡ suc n
length-ups sheet istd zero = refl
length-ups sheet istd (suc n) = ap suc (length-ups sheet istd n)

pub ups_at : (sheet : Sheet) (istd n i : ℕ) → i ≤ n → slice_index (ups sheet istd n) i ≡ up sheet istd (n - i)
ups_at sheet istd zero i h = let e : i ≡ 0 = omega arith in rw e refl
ups_at sheet istd (suc n) zero h = let e : suc n - 0 ≡ suc n = omega arith in rw e refl
ups_at sheet istd (suc n) (suc i) h = let e : suc n - suc i ≡ n - i = omega arith in
    rw e (ups_at sheet istd n i (omega arith))

-- from one style on the bases are the same
up_again : (sheet : Sheet) (istd a b k : ℕ) → up sheet istd a ≡ up sheet istd b → up sheet istd (k + a) ≡ up sheet
    istd (k + b)
up_again sheet istd a b zero e =
    let x : 0 + a ≡ a = omega arith in
    let y : 0 + b ≡ b = omega arith in
    rw (x, y) e
up_again sheet istd a b (suc k) e =
    let x : suc k + a ≡ suc (k + a) = omega arith in
    let y : suc k + b ≡ suc (k + b) = omega arith in
    rw (x, y) (ap (λ j. unwrap_or (base_at sheet j) j) (up_again sheet istd a b k e))

-- no style comes twice before the bases end
up_apart : (sheet : Sheet) (istd n at a b : ℕ) → IsClimbed sheet istd n at → base_at sheet at ≡ None → a < b → b ≤ n →
    up sheet istd a ≢ up sheet istd b
up_apart sheet istd n at a b c root less within e =
    let end = up_again sheet istd a b (n - b) e in
    let top : n - b + b ≡ n = omega arith in
    let again : up sheet istd (n - b + a) ≡ at = end ∙ (ap (up sheet istd) top ∙ sym c.here) in
    let link = c.links (n - b + a) (omega arith) in
    absurd (cc (sym link ∙ (ap (base_at sheet) again ∙ root)))

-- where the bases end they are the chain
pub climbed_chain : (sheet : Sheet) (istd n at : ℕ) → IsClimbed sheet istd n at → base_at sheet at ≡ None →
    IsBaseChain sheet istd (ups sheet istd n)
climbed_chain sheet istd n at c root =
    let len = length-ups sheet istd n in
    record {
      some = omega arith;
      last =
          let e : length (ups sheet istd n) - 1 ≡ n = omega arith in
          let none : n - n ≡ 0 = omega arith in
          ap (slice_index (ups sheet istd n)) e ∙ (ups_at sheet istd n n (omega arith) ∙ ap (up sheet istd) none);
      root =
          let whole : n - 0 ≡ n = omega arith in
          ap (base_at sheet) (ups_at sheet istd n 0 (omega arith) ∙ (ap (up sheet istd) whole ∙ sym c.here)) ∙ root;
      links = λ i h.
          let next : n - i ≡ suc (n - (i + 1)) = omega arith in
          ap (base_at sheet) (ups_at sheet istd n (i + 1) (omega arith))
          ∙ (c.links (n - (i + 1)) (omega arith)
          ∙ ap Some (sym (ups_at sheet istd n i (omega arith) ∙ ap (up sheet istd) next)));
      kind = λ i h. record {
        properties = c.properties;
        same = ap (style_kind_at sheet) (ups_at sheet istd n i (omega arith)) ∙ c.kind (n - i) (omega arith);
      };
      once = λ i j less below e.
          up_apart sheet istd n at (n - j) (n - i) c root (omega arith) (omega arith)
          (sym (ups_at sheet istd n j (omega arith)) ∙ (sym e ∙ ups_at sheet istd n i (omega arith)));
    }

-- the same styles from the first on, and one more
pub ups_more : (sheet : Sheet) (istd n base : ℕ) (items : List ℕ) → up sheet istd (suc n) ≡ base → items ≡ reverse
    (ups sheet istd n) → items ++ base ∷ [] ≡ reverse (ups sheet istd (suc n))
ups_more sheet istd n base items e old = rw (← e, old) (sym (reverse-append (up sheet istd (suc n) ∷ [])
    (ups sheet istd n)))

-- the front of a chain is the chain of its last style
pub chain_front : (sheet : Sheet) (istd : ℕ) (chain : List ℕ) (i : ℕ) → IsBaseChain sheet istd chain → i < length chain
    →
    IsBaseChain sheet (slice_index chain i) (take (i + 1) chain)
chain_front sheet istd chain i is within =
    let front : List ℕ = take (i + 1) chain in
    let len : length front ≡ i + 1 = length-take-le (i + 1) chain (omega (arith, within)) in
    let same : (k : ℕ) → k < i + 1 → slice_index front k ≡ slice_index chain k =
    (λ k below. get_or-take (i + 1) chain k 0 below) in
    let end : length front - 1 ≡ i = omega (arith, len) in
    record {
      some = omega (arith, len);
      last = ap (slice_index front) end ∙ same i (omega arith);
      root = ap (base_at sheet) (same 0 (omega arith)) ∙ is.root;
      links = λ k below.
          ap (base_at sheet) (same (k + 1) (omega (arith, below, len)))
          ∙ is.links k (omega (arith, below, len, within))
          ∙ ap Some (sym (same k (omega (arith, below, len))));
      kind = λ k below.
          let own = is.kind i within in
          let other = is.kind k (omega (arith, below, len, within)) in
          subst (AreOfOneKind sheet (slice_index chain i)) (sym (same k (omega (arith, below, len))))
          (record { properties = rw own.same own.properties; same = other.same ∙ sym own.same });
      once = λ j k less below both.
          is.once j k less (omega (arith, below, len, within))
          (sym (same j (omega (arith, less, below, len))) ∙ both ∙ same k (omega (arith, below, len)));
    }
