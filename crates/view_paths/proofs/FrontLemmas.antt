-- What two paths share, and what is behind it.
use Rattle.std.proofs.Common.{◌≡◌, ◌↔◌, ℕ, Bool, true, false, List, [], ◌∷◌, ◌++◌, refl, ap, sym, ◌∙◌, if◌then◌else◌}
use Rattle.std.proofs.Common.{suc, ◌+◌, ◌<◌, ◌≤◌, length, take, drop, get_or, min, arith, subst, length-append, inl, inr}
use Rattle.std.proofs.lemmas.Bool.{cases_lt}
use Rattle.std.proofs.lemmas.List.{append-nil, take-append-drop, length-take-le, take_more}
use Rattle.std.proofs.Math.Seq.{take-append_seam, drop-append_seam, drop-cons}
use Rattle.std.proofs.Math.ListN.{drop_of_length-le}
use Rattle.view_paths.specs.Paths.{shared, behind_shared}
use Rattle.view_paths.specs.Turns.{IsSharedFront, IsFront}

-- values that are the same are one value
abbrev pub IsExact : {E : Type 0} → (E → E → Bool) → Type 0
IsExact {E} same = (one other : E) → same one other ≡ true ↔ one ≡ other

-- a path is what it shares with another one, and the rest
pub shared-behind : {E : Type 0} (same : E → E → Bool) (from to : List E) → shared same from to ++ behind_shared same
    from to ≡
    from
shared-behind same [] to = refl
shared-behind same (x ∷ xs) [] = refl
shared-behind same (x ∷ xs) (y ∷ ys) =
    elim (same x y) as (λ b. (if b then x ∷ shared same xs ys else []) ++ (if b then behind_shared same xs ys else x ∷
    xs) ≡
    x ∷ xs) [ true ↦ ap (λ rest. x ∷ rest) (shared-behind same xs ys) | false ↦ refl ]

same_turned : {E : Type 0} (same : E → E → Bool) → IsExact same → (x y : E) → same y x ≡ same x y
same_turned same exact x y =
    elim (same x y) as (λ b. same x y ≡ b → same y x ≡ b) [
      | true ↦ λ e. (exact y x).1 (sym ((exact x y).0 e))
      | false ↦ λ e.
          elim (same y x) as (λ b. same y x ≡ b → b ≡ false)
          [ true ↦ λ h. sym ((exact x y).1 (sym ((exact y x).0 h))) ∙ e | false ↦ λ _. refl ] refl
    ] refl

-- both paths share the same
pub shared-turned : {E : Type 0} (same : E → E → Bool) → IsExact same → (from to : List E) → shared same from to ≡
    shared same to from
shared-turned same exact [] [] = refl
shared-turned same exact [] (y ∷ ys) = refl
shared-turned same exact (x ∷ xs) [] = refl
shared-turned same exact (x ∷ xs) (y ∷ ys) =
    rw (same_turned same exact x y) (elim (same x y) as (λ b. same x y ≡ b → (if b then x ∷ shared same xs ys else []) ≡
    (if b then y ∷ shared same ys xs else [])) [
      | true ↦ λ e.
          ap (λ z. z ∷ shared same xs ys) ((exact x y).0 e) ∙ ap (λ rest. y ∷ rest) (shared-turned same exact xs ys)
      | false ↦ λ _. refl
    ] refl)

-- and so the other one is what they share, and its rest
pub shared-behind_other : {E : Type 0} (same : E → E → Bool) → IsExact same → (from to : List E) → shared same from to ++
    behind_shared same to from ≡ to
shared-behind_other same exact from to = rw (shared-turned same exact from to) (shared-behind same to from)

-- two paths that share nothing
pub record AreApart {E : Type 0} (same : E → E → Bool) (xs ys : List E) : Type 0 where
  pub front : shared same xs ys ≡ []
  pub first : behind_shared same xs ys ≡ xs
  pub second : behind_shared same ys xs ≡ ys

pub behind-none : {E : Type 0} (same : E → E → Bool) (ys : List E) → behind_shared same ys [] ≡ ys
behind-none same [] = refl
behind-none same (y ∷ ys) = refl

-- one of them has no element
pub apart-none : {E : Type 0} (same : E → E → Bool) (ys : List E) → AreApart same [] ys
apart-none same ys = record { front = refl; first = refl; second = behind-none same ys }

pub apart-none_other : {E : Type 0} (same : E → E → Bool) (xs : List E) → AreApart same xs []
apart-none_other same [] = record { front = refl; first = refl; second = refl }
apart-none_other same (x ∷ xs) = record { front = refl; first = refl; second = refl }

-- or their first elements differ
pub apart-heads : {E : Type 0} (same : E → E → Bool) → IsExact same → (x y : E) (xs ys : List E) → same x y ≡ false →
    AreApart same (x ∷ xs) (y ∷ ys)
apart-heads same exact x y xs ys e =
    let turned : same y x ≡ false = same_turned same exact x y ∙ e in
    record {
      front = ap (λ b. if b then x ∷ shared same xs ys else []) e;
      first = ap (λ b. if b then behind_shared same xs ys else x ∷ xs) e;
      second = ap (λ b. if b then behind_shared same ys xs else y ∷ ys) turned;
    }

same_self : {E : Type 0} (same : E → E → Bool) → IsExact same → (x : E) → same x x ≡ true
same_self same exact x = (exact x x).1 refl

-- a front that both have is shared
shared-front : {E : Type 0} (same : E → E → Bool) → IsExact same → (front xs ys : List E) → shared same (front ++ xs)
    (front ++ ys) ≡ front ++ shared same xs ys
shared-front same exact [] xs ys = refl
shared-front same exact (x ∷ front) xs ys =
    ap (λ b. if b then x ∷ shared same (front ++ xs) (front ++ ys) else []) (same_self same exact x) ∙ ap (λ rest. x ∷
    rest) (shared-front same exact front xs ys)

pub behind-front : {E : Type 0} (same : E → E → Bool) → IsExact same → (front xs ys : List E) → behind_shared same
    (front ++ xs)
    (front ++ ys) ≡ behind_shared same xs ys
behind-front same exact [] xs ys = refl
behind-front same exact (x ∷ front) xs ys =
    ap (λ b. if b then behind_shared same (front ++ xs) (front ++ ys) else x ∷ (front ++ xs)) (same_self same exact x) ∙
    behind-front same exact front xs ys

joined-shared : {E : Type 0} (same : E → E → Bool) → IsExact same → (front xs ys : List E) → AreApart same xs ys →
    IsSharedFront same (front ++ xs) (front ++ ys) (length front)
joined-shared same exact front xs ys apart =
    let all : shared same (front ++ xs) (front ++ ys) ≡ front = shared-front same exact front xs ys ∙ (ap (λ rest. front
    ++ rest) apart.front ∙ append-nil front) in
    record {
      within = omega (arith, length-append front xs);
      front = all ∙ sym (take-append_seam front xs);
      also = all ∙ sym (take-append_seam front ys);
      from_rest = behind-front same exact front xs ys ∙ (apart.first ∙ sym (drop-append_seam front xs));
      to_rest = behind-front same exact front ys xs ∙ (apart.second ∙ sym (drop-append_seam front ys));
    }

-- both paths have the front, and what is behind it is apart
pub apart-shared : {E : Type 0} (same : E → E → Bool) → IsExact same → (from to : List E) (i : ℕ) → i ≤ length from →
    take i from ≡ take i to → AreApart same (drop i from) (drop i to) → IsSharedFront same from to i
apart-shared same exact from to i within alike apart =
    let long : length (take i from) ≡ i = length-take-le i from within in
    let first : take i from ++ drop i from ≡ from = take-append-drop i from in
    let second : take i from ++ drop i to ≡ to = ap (λ front. front ++ drop i to) alike ∙ take-append-drop i to in
    let joined = joined-shared same exact (take i from) (drop i from) (drop i to) apart in
    subst (λ n. IsSharedFront same from to n) long (subst (λ path. IsSharedFront same from path (length (take i from)))
    second
    (subst (λ path. IsSharedFront same path (take i from ++ drop i to) (length (take i from))) first joined))

-- both have one element more, which is the same
pub joined_at : {E : Type 0} (from to : List E) (i : ℕ) (x y : E) → i < length from → i < length to → take i from ≡ take
    i to → x ≡ get_or from i x → y ≡ get_or to i y → x ≡ y → take (i + 1) from ≡ take (i + 1) to
joined_at from to i x y one other alike first second is =
    take_more from i x one ∙ (ap (λ e. take i from ++ e ∷ []) (sym first ∙ (is ∙ second)) ∙ (ap (λ front. front ++
    get_or to i y ∷ []) alike ∙ sym (take_more to i y other)))

-- the next elements differ
pub apart-at : {E : Type 0} (same : E → E → Bool) → IsExact same → (from to : List E) (i : ℕ) (x y : E) → i < length
    from → i < length to → x ≡ get_or from i x → y ≡ get_or to i y → same x y ≡ false → AreApart same (drop i from) (drop
    i to)
apart-at same exact from to i x y one other first second e =
    rw (drop-cons from i x one, drop-cons to i y other, ← first, ← second) (apart-heads same exact x y (drop (suc i)
    from) (drop (suc i) to) e)

-- one of them has no more
pub apart-end : {E : Type 0} (same : E → E → Bool) (from to : List E) (i : ℕ) → i ≡ min (length from) (length to) →
    AreApart same (drop i from) (drop i to)
apart-end same from to i e =
    elim (cases_lt (length from) (length to)) [
      | inl h ↦ rw (drop_of_length-le from {i = i} (omega arith)) (apart-none same (drop i to))
      | inr h ↦ rw (drop_of_length-le to {i = i} (omega arith)) (apart-none_other same (drop i from))
    ]

-- a front of a path with the next element of it
pub front-next : {E : Type 0} (front to : List E) (e d : E) → IsFront front to → length front < length to → get_or to
    (length front) d ≡ e → IsFront (front ++ e ∷ []) to
front-next front to e d h within here =
    let long : length (front ++ e ∷ []) ≡ length front + 1 = omega (arith, length-append front (e ∷ [])) in
    rw long (take_more to (length front) d within ∙ (ap (λ path. path ++ get_or to (length front) d ∷ []) h ∙ ap (λ x.
    front ++ x ∷ []) here))
