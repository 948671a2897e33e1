-- Items on pages: there is one packing at most, and a packing grows by a page.
use Rattle.std.proofs.Common.{◌≡◌, inl, inr, ℕ, suc, ◌+◌, ◌<◌, ◌≤◌, List, [], ◌∷◌, ◌++◌, length, take, drop, refl}
use Rattle.std.proofs.Common.{sym, ap, ◌∙◌, subst, arith, length-append}
use Rattle.std.proofs.Math.Seq.{take-append-add}
use Rattle.std.proofs.lemmas.Bool.{cases_lt}
use Rattle.std.proofs.lemmas.List.{append-nil, append_cancel_left, take-append-le, take-append-drop, take_at}
use Rattle.std.proofs.lemmas.List.{get_or_append_left, get_or_push}
use Rattle.std.proofs.lemmas.List.Concat.{flat_map-append}
use Rattle.fkp_pages.specs.Packing.{page_items, joined_pages, IsPacking, FitsFromFront}

-- the pages after the first one are a packing of their items
packing_tail : {A : Type 0} (Fits : List A → Type 0) (items page : List A) (pages : List (List A)) →
    IsPacking Fits items (page ∷ pages) → IsPacking Fits (joined_pages pages) pages
packing_tail {A = A} Fits items page pages h = record {
  joined = refl;
  some = λ k up. h.some (suc k) (omega arith);
  fitting = λ k up. h.fitting (suc k) (omega arith);
  full = λ k up fits.
      let P : ℕ → Type 0 = λ i. Fits (page_items pages k ++ take 1 (page_items (page ∷ pages) i)) in
      let one : suc (k + 1) ≡ suc k + 1 = omega arith in
      h.full (suc k) (omega arith) (subst P one fits);
}

-- a first page is not shorter than other first items that fit
not_shorter : {A : Type 0} (Fits : List A → Type 0) (items page : List A) (pages : List (List A)) (other more : List
    A) → FitsFromFront Fits → IsPacking Fits items (page ∷ pages) → Fits other → page ++ joined_pages pages ≡ other ++
    more → length page < length other → ⊥
not_shorter Fits items page [] other more front h fits e less =
    let same = ap length e in
    omega (arith, length-append page [], length-append other more)
not_shorter {A = A} Fits items page (next ∷ pages) other more front h fits e less =
    let some : 0 < length next = h.some 1 (omega arith) in
    let upto : length page + 1 ≤ length other = omega arith in
    let one : take 1 (next ++ joined_pages pages) ≡ take 1 next = take-append-le 1 next (joined_pages pages)
    (omega arith) in
    let left : take (length page + 1) (page ++ (next ++ joined_pages pages)) ≡ page ++ take 1 next =
    take-append-add page (next ++ joined_pages pages) 1 ∙ ap (λ l. page ++ l) one in
    let right : take (length page + 1) (other ++ more) ≡ take (length page + 1) other = take-append-le (length page +
    1) other more upto in
    let begin : page ++ take 1 next ≡ take (length page + 1) other = sym left ∙ (ap (take (length page + 1)) e ∙
    right) in
    let whole : other ≡ (page ++ take 1 next) ++ drop (length page + 1) other =
    sym (take-append-drop (length page + 1) other) ∙ ap (λ l. l ++ drop (length page + 1) other) (sym begin) in
    let P : List A → Type 0 = λ l. Fits l in
    h.full 0 (omega arith) (front (page ++ take 1 next) (drop (length page + 1) other) (subst P whole fits))

-- equal lists begin with equal lists of one length
same_fronts : {A : Type 0} (a b more others : List A) → length a ≡ length b → a ++ more ≡ b ++ others → a ≡ b
same_fronts a b more others len e = sym (take_at a more (length a) refl) ∙ (ap (take (length a)) e ∙ take_at b others
    (length a) (sym len))

-- the same items are packed in one way at most
pub packing_unique : {A : Type 0} (Fits : List A → Type 0) (items : List A) (a b : List (List A)) →
    FitsFromFront Fits → IsPacking Fits items a → IsPacking Fits items b → a ≡ b
packing_unique Fits items [] [] front g h = refl
packing_unique Fits items [] (page ∷ pages) front g h =
    let some : 0 < length page = h.some 0 (omega arith) in
    let none = ap length (sym g.joined ∙ h.joined) in
    absurd (omega (arith, length-append page (joined_pages pages)))
packing_unique Fits items (page ∷ pages) [] front g h =
    let some : 0 < length page = g.some 0 (omega arith) in
    let none = ap length (sym h.joined ∙ g.joined) in
    absurd (omega (arith, length-append page (joined_pages pages)))
packing_unique Fits items (page ∷ pages) (other ∷ others) front g h =
    let e : page ++ joined_pages pages ≡ other ++ joined_pages others = sym g.joined ∙ h.joined in
    let up : length other ≤ length page = elim (cases_lt (length page) (length other)) [
      | inl less ↦ absurd (not_shorter Fits items page pages other (joined_pages others) front g (h.fitting 0
          (omega arith)) e less)
      | inr upto ↦ upto
    ] in
    let down : length page ≤ length other = elim (cases_lt (length other) (length page)) [
      | inl less ↦ absurd (not_shorter Fits items other others page (joined_pages pages) front h (g.fitting 0
          (omega arith)) (sym e) less)
      | inr upto ↦ upto
    ] in
    let first : page ≡ other = same_fronts page other (joined_pages pages) (joined_pages others) (omega arith) e in
    let rest : joined_pages pages ≡ joined_pages others = append_cancel_left page (joined_pages pages) (joined_pages
    others) (e ∙ ap (λ l. l ++ joined_pages others) (sym first)) in
    let tail = packing_unique Fits (joined_pages pages) pages others front (packing_tail Fits items page pages g)
    (rw rest (packing_tail Fits items other others h)) in
    cc

-- no items are on no page
pub packing_none : {A : Type 0} (Fits : List A → Type 0) → IsPacking Fits [] []
packing_none Fits = record {
  joined = refl;
  some = λ k up. absurd (omega arith);
  fitting = λ k up. absurd (omega arith);
  full = λ k up. absurd (omega arith);
}

-- the last page could not take the next of these items too
pub record IsClosed {A : Type 0} (Fits : List A → Type 0) (pages : List (List A)) (next : List A) : Type 0 where
  pub full : (k : ℕ) → k + 1 ≡ length pages → ¬ (Fits (page_items pages k ++ take 1 next))

-- one page more
pub packing_more : {A : Type 0} (Fits : List A → Type 0) (items : List A) (pages : List (List A)) (page : List A) →
    IsPacking Fits items pages → IsClosed Fits pages page → 0 < length page → Fits page →
    IsPacking Fits (items ++ page) (pages ++ page ∷ [])
packing_more {A = A} Fits items pages page h closed some fits =
    let here : (k : ℕ) → k ≡ length pages → page_items (pages ++ page ∷ []) k ≡ page = λ k e. get_or_push pages page
    [] k (sym e) in
    let before : (k : ℕ) → k < length pages → page_items (pages ++ page ∷ []) k ≡ page_items pages k = λ k up.
    get_or_append_left pages (page ∷ []) [] k up in
    let len : length (pages ++ page ∷ []) ≡ length pages + 1 = length-append pages (page ∷ []) in
    record {
      joined = ap (λ l. l ++ page) h.joined ∙ (ap (λ l. joined_pages pages ++ l) (sym (append-nil page)) ∙ sym
          (flat_map-append (λ p. p) pages (page ∷ [])));
      some = λ k up. elim (cases_lt k (length pages)) [
        | inl less ↦ rw (before k less) (h.some k less)
        | inr past ↦ rw (here k (omega arith)) some
      ];
      fitting = λ k up. elim (cases_lt k (length pages)) [
        | inl less ↦ let P : List A → Type 0 = λ l. Fits l in subst P (sym (before k less)) (h.fitting k less)
        | inr past ↦ let P : List A → Type 0 = λ l. Fits l in subst P (sym (here k (omega arith))) fits
      ];
      full = λ k up both.
          let P : List A → Type 0 = λ l. Fits l in
          let less : k < length pages = omega arith in
          elim (cases_lt (k + 1) (length pages)) [
            | inl more ↦ h.full k more (subst P (ap (λ l. l ++ take 1 (page_items (pages ++ page ∷ []) (k + 1)))
                (before k less) ∙ ap (λ l. page_items pages k ++ take 1 l) (before (k + 1) more)) both)
            | inr past ↦
                let last : k + 1 ≡ length pages = omega arith in
                closed.full k last (subst P (ap (λ l. l ++ take 1 (page_items (pages ++ page ∷ []) (k + 1)))
                (before k less) ∙ ap (λ l. page_items pages k ++ take 1 l) (here (k + 1) last)) both)
          ];
    }
