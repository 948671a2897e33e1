-- The first broken rule: how the least places of parts join, and that there is one answer.
use Rattle.std.proofs.Common.{◌≡◌, ◌⊎◌, inl, inr, ℕ, ◌+◌, ◌<◌, ◌≤◌, min, Option, Some, None, refl, sym, ◌∙◌, subst}
use Rattle.std.proofs.Common.{arith}
use Rattle.std.proofs.lemmas.Bool.{cases_lt}
use Rattle.doc_bits.specs.declared.places.Where.{Where}
use Rattle.doc_bits.specs.Rules.{Rules, rule, ◌then◌, given, Nowhere, IsLeast, Hold, FirstBy, IsFirstOffset}
use Rattle.doc_bits.specs.Rules.{LeastOrNone}
use Rattle.doc_bits.specs.Rules.{Among, From, lesser_of, IsSingle, Breaks, Ascends, IsLeastOfAll}
use Rattle.doc_bits.specs.Places.{IsFirstPlace, rules_in}
use Rattle.doc_bits.proofs.PlaceLemmas.{upto_same}

-- two ways to say one rule have one least place
pub least_same : (A B : ℕ → Type 0) (o : Option ℕ) → ((p : ℕ) → A p → B p) → ((p : ℕ) → B p → A p) → LeastOrNone A o →
    LeastOrNone B o
least_same A B None to from h = λ p b. h p (from p b)
least_same A B (Some a) to from h = record { broken = to a h.broken; least = λ p b. h.least p (from p b) }

-- the least place of a rule of two parts
pub least_either : (A B : ℕ → Type 0) (a b : Option ℕ) → LeastOrNone A a → LeastOrNone B b →
    LeastOrNone (λ p. A p ⊎ B p) (lesser_of a b)
least_either A B None None f s = λ p h. elim h [ inl x ↦ f p x | inr y ↦ s p y ]
least_either A B None (Some b) f s = record {
  broken = inr s.broken;
  least = λ p h. elim h [
    | inl x ↦ absurd (f p x)
    | inr y ↦ s.least p y
  ];
}
least_either A B (Some a) None f s = record {
  broken = inl f.broken;
  least = λ p h. elim h [
    | inl x ↦ f.least p x
    | inr
        y ↦ absurd (s p y)
  ];
}
least_either A B (Some a) (Some b) f s = record {
  broken = elim (cases_lt b a) [
    | inl h ↦ let e : b ≡ min a b = omega arith in inr (subst B e s.broken)
    | inr h ↦ let e : a ≡ min a b = omega arith in inl (subst A e f.broken)
  ];
  least = λ p h. elim h [
    | inl x ↦ let le : a ≤ p = f.least p x in omega arith
    | inr y ↦ let le : b ≤ p = s.least p y in omega arith
  ];
}

-- before the first entry nothing is broken
pub least_none : (each : ℕ → ℕ → Type 0) → LeastOrNone (Among 0 each) None
least_none each = λ p w. absurd (let low = w.below in omega arith)

-- one entry more
pub least_step : (each : ℕ → ℕ → Type 0) (n : ℕ) (a b : Option ℕ) → LeastOrNone (Among n each) a →
    LeastOrNone (each n) b → LeastOrNone (Among (n + 1) each) (lesser_of a b)
least_step each n a b f s =
    least_same (λ p. Among n each p ⊎ each n p) (Among (n + 1) each) (lesser_of a b)
    (λ p h. elim h [
      | inl w ↦ let below = w.below in record { entry = w.entry; below = omega arith; broken = w.broken }
      | inr y ↦ record { entry = n; below = omega arith; broken = y }
    ])
    (λ p w. elim (cases_lt w.entry n) [
      | inl h ↦ inl (record { entry = w.entry; below = h; broken = w.broken })
      | inr h ↦ let below = w.below in let e : w.entry ≡ n = omega arith in inr (subst (λ i. each i p) e w.broken)
    ])
    (least_either (Among n each) (each n) a b f s)

-- the first number at which something is broken
pub first_number : (breaks : ℕ → Type 0) (i : ℕ) → ((k : ℕ) → k < i → breaks k → ⊥) → breaks i →
    IsLeast (λ a b. a ≤ b) breaks i
first_number breaks i before here = record {
  broken = here;
  least = λ p w. elim (cases_lt p i) [ inl low ↦ absurd (before p low w) | inr high ↦ high ];
}

-- where the places of later entries come later, the first broken entry has the least place
pub first_among : (each : ℕ → ℕ → Type 0) (n i p : ℕ) → ((j k a b : ℕ) → j < k → each j a → each k b → a ≤ b) →
    i < n → ((k : ℕ) → k < i → Nowhere (each k)) → IsLeast (λ a b. a ≤ b) (each i) p → IsLeast (λ a b. a ≤ b)
    (Among n each) p
first_among each n i p order h none first = record {
  broken = record { entry = i; below = h; broken = first.broken };
  least = λ q w. elim (cases_lt w.entry i) [
    | inl low ↦ absurd (none w.entry low q w.broken)
    | inr high ↦ elim (cases_lt i w.entry) [
      | inl over ↦ order i w.entry p q over first.broken w.broken
      | inr same ↦ let e : w.entry ≡ i = omega arith in first.least q (subst (λ k. each k q) e w.broken)
    ]
  ];
}

-- where no entry is broken the rule holds
pub none_among : (each : ℕ → ℕ → Type 0) (n : ℕ) → ((k : ℕ) → k < n → Nowhere (each k)) → Nowhere (Among n each)
none_among each n none = λ p w. none w.entry w.below p w.broken

-- the least place of a list within a part
pub least_from : (breaks : ℕ → Type 0) (base p : ℕ) → IsLeast (λ a b. a ≤ b) breaks p → IsLeast (λ a b. a ≤ b)
    (From base breaks) (base + p)
least_from breaks base p h = record {
  broken = record { offset = p; here = refl; broken = h.broken };
  least = λ q w. let le : p ≤ w.offset = h.least w.offset w.broken in let here = w.here in omega arith;
}

-- a layer's rules hold in their part
pub hold_in : (part : Where) (rules : Rules ℕ) → Hold rules → Hold (rules_in part rules)
hold_in part (rule number breaks) h = λ p w. h p.1 w.1
hold_in part (first then next) h = (hold_in part first h.0, hold_in part next h.1)
hold_in part (given is rules) h = (h.0, (h.1.0, hold_in part (rules h.0) h.1.1))

-- a layer's first broken rule is that of its part
pub first_in : (part : Where) (rules : Rules ℕ) (r p : ℕ) → IsFirstOffset rules r p → IsFirstPlace (rules_in part rules)
    r
    (part, p)
first_in part (rule number breaks) r p h = (
  h.0,
  record {
    broken = (refl, h.1.broken);
    least = λ q w. upto_same (part, p) q (sym w.0) (h.1.least q.1 w.1);
  },
)
first_in part (first then next) r p h = elim h [
  | inl x ↦ inl (first_in part first r p x)
  | inr y ↦ inr (hold_in part first y.0, first_in part next r p y.1)
]
first_in part (given is rules) r p h = (h.0, (h.1.0, first_in part (rules h.0) r p h.1.1))

-- where all rules hold none is the first broken one
pub hold_or_first : {P : Type 0} (upto : P → P → Type 0) (rules : Rules P) (r : ℕ) (p : P) → IsSingle rules →
    Hold rules → FirstBy upto rules r p → ⊥
hold_or_first upto (rule number breaks) r p single holds first = holds p first.1.broken
hold_or_first upto (a then b) r p single holds first = elim first [
  | inl x ↦ hold_or_first upto a r p single.0 holds.0 x
  | inr y ↦ hold_or_first upto b r p single.1 holds.1 y.1
]
hold_or_first upto (given is rules) r p single holds first =
    let e = single.0 first.0 holds.0 first.1.0 holds.1.0 in
    hold_or_first upto (rules holds.0) r p (single.1 holds.0 holds.1.0) holds.1.1 (subst (λ x. FirstBy upto (rules x)
    r p) e first.1.1)

-- there is one first broken rule, and one least place of it
pub first_agrees : {P : Type 0} (upto : P → P → Type 0) (rules : Rules P) (r s : ℕ) (p q : P) → IsSingle rules →
    FirstBy upto rules r p → FirstBy upto rules s q → (r ≡ s) × upto p q
first_agrees upto (rule number breaks) r s p q single one other = (one.0 ∙ sym other.0, one.1.least q other.1.broken)
first_agrees upto (a then b) r s p q single one other = elim one [
  | inl x ↦ elim other [
    | inl y ↦ first_agrees upto a r s p q single.0 x y
    | inr y ↦ absurd (hold_or_first upto a r p single.0 y.0 x)
  ]
  | inr x ↦ elim other [
    | inl y ↦ absurd (hold_or_first upto a s q single.0 x.0 y)
    | inr y ↦ first_agrees upto b r s p q single.1 x.1 y.1
  ]
]
first_agrees upto (given is rules) r s p q single one other =
    let e = single.0 other.0 one.0 other.1.0 one.1.0 in
    first_agrees upto (rules one.0) r s p q (single.1 one.0 one.1.0) one.1.1 (subst (λ x. FirstBy upto (rules x) s q)
    e other.1.1)

-- where all rules hold none is broken
pub hold_or_breaks : {P : Type 0} (rules : Rules P) (s : ℕ) (q : P) → IsSingle rules → Hold rules → Breaks rules s q → ⊥
hold_or_breaks (rule number breaks) s q single holds broken = holds q broken.1
hold_or_breaks (a then b) s q single holds broken = elim broken [
  | inl x ↦ hold_or_breaks a s q single.0 holds.0 x
  | inr y ↦ hold_or_breaks b s q single.1 holds.1 y
]
hold_or_breaks (given is rules) s q single holds broken =
    let e = single.0 broken.0 holds.0 broken.1.0 holds.1.0 in
    hold_or_breaks (rules holds.0) s q (single.1 holds.0 holds.1.0) holds.1.1 (subst (λ x. Breaks (rules x) s q) e
    broken.1.1)

-- the first broken rule is broken
pub first_breaks : {P : Type 0} (upto : P → P → Type 0) (rules : Rules P) (r : ℕ) (p : P) → FirstBy upto rules r p →
    Breaks rules r p
first_breaks upto (rule number breaks) r p first = (first.0, first.1.broken)
first_breaks upto (a then b) r p first = elim first [
  | inl x ↦ inl (first_breaks upto a r p x)
  | inr y ↦ inr (first_breaks upto b r p y.1)
]
first_breaks upto (given is rules) r p first = (first.0, (first.1.0, first_breaks upto (rules first.0) r p first.1.1))

-- a broken rule has one of the numbers
pub breaks_within : {P : Type 0} (rules : Rules P) (low high s : ℕ) (q : P) → Ascends rules low high →
    Breaks rules s q → (low ≤ s) × (s < high)
breaks_within (rule number breaks) low high s q up broken = let e = broken.0 in let lo = up.0 in let hi = up.1 in
    (omega arith, omega arith)
breaks_within (a then b) low high s q up broken = elim broken [
  | inl x ↦ let w = breaks_within a low up.0 s q up.1.0 x in
      let below = up.1.1.0 in let above = up.1.1.1 in let lo = w.0 in let hi = w.1 in (omega arith, omega arith)
  | inr y ↦ let w = breaks_within b up.0 high s q up.1.1.2 y in
      let below = up.1.1.0 in let above = up.1.1.1 in let lo = w.0 in let hi = w.1 in (omega arith, omega arith)
]
breaks_within (given is rules) low high s q up broken = breaks_within (rules broken.0) low high s q (up.1 broken.0
    broken.1.0) broken.1.1

-- numbers that ascend within a range do so within a wider one
pub ascends_wider : {P : Type 0} (rules : Rules P) (low high from to : ℕ) → from ≤ low → high ≤ to → Ascends rules low
    high → Ascends rules from to
ascends_wider (rule number breaks) low high from to below above up = let lo = up.0 in let hi = up.1 in
    (omega arith, omega arith)
ascends_wider (first then next) low high from to below above up =
    let lo = up.1.1.0 in
    let hi = up.1.1.1 in (
      up.0,
      (
        ascends_wider first low up.0 from up.0 below (omega arith) up.1.0,
        (
          omega arith,
          omega arith,
          ascends_wider next up.0 high up.0 to (omega arith) above up.1.1.2,
        ),
      ),
    )
ascends_wider (given is rules) low high from to below above up =
    let lo = up.0 in (omega arith, λ x h. ascends_wider (rules x) low high from to below above (up.1 x h))

-- each broken rule comes after the first one, or is the first one at a later place
least_breaks : {P : Type 0} (upto : P → P → Type 0) (rules : Rules P) (low high r : ℕ) (p : P) → IsSingle rules →
    Ascends rules low high → FirstBy upto rules r p → (s : ℕ) (q : P) → Breaks rules s q → (r < s) ⊎ ((r ≡ s) × upto p
    q)
least_breaks upto (rule number breaks) low high r p single up first s q broken = inr (
  first.0 ∙ sym broken.0,
  first.1.least q broken.1,
)
least_breaks upto (a then b) low high r p single up first s q broken = elim first [
  | inl x ↦ elim broken [
    | inl y ↦ least_breaks upto a low up.0 r p single.0 up.1.0 x s q y
    | inr y ↦
        let lower = breaks_within a low up.0 r p up.1.0 (first_breaks upto a r p x) in
        let upper = breaks_within b up.0 high s q up.1.1.2 y in
        let under = lower.1 in let over = upper.0 in inl (omega arith)
  ]
  | inr x ↦ elim broken [
    | inl y ↦ absurd (hold_or_breaks a s q single.0 x.0 y)
    | inr y ↦ least_breaks upto b up.0 high r p single.1 up.1.1.2 x.1 s q y
  ]
]
least_breaks upto (given is rules) low high r p single up first s q broken =
    let e = single.0 broken.0 first.0 broken.1.0 first.1.0 in
    least_breaks upto (rules first.0) low high r p (single.1 first.0 first.1.0) (up.1 first.0 first.1.0) first.1.1 s q
    (subst (λ x. Breaks (rules x) s q) e broken.1.1)

-- the first broken rule is the least of all broken ones, at its least place
pub least_of_all : {P : Type 0} (upto : P → P → Type 0) (rules : Rules P) (low high r : ℕ) (p : P) → IsSingle rules →
    Ascends rules low high → FirstBy upto rules r p → IsLeastOfAll upto (Breaks rules) r p
least_of_all upto rules low high r p single up first = record {
  broken = first_breaks upto rules r p first;
  least = least_breaks upto rules low high r p single up first;
}

-- where the lesser of two is none, neither is there
pub lesser_none : (a b : Option ℕ) → lesser_of a b ≡ None → (a ≡ None) × (b ≡ None)
lesser_none None None e = (refl, refl)
lesser_none None (Some y) e = absurd (cc e)
lesser_none (Some x) None e = absurd (cc e)
lesser_none (Some x) (Some y) e = absurd (cc e)
