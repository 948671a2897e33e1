-- The tree of entries: its top reaches each entry, and one link names each.
use Rattle.std.proofs.Common.{◌≡◌, inl, inr, ℕ, zero, suc, ◌+◌, ◌*◌, ◌<◌, ◌≤◌, ltb, cond, nat_eq, nat_lt}
use Rattle.std.proofs.Common.{if◌then◌else◌, refl, sym, ap, ◌∙◌, subst, arith}
use Rattle.std.proofs.lemmas.Bool.{cases_order, lt-ltb, le-ltb, eq-eqb, ne_eqb, cond-true, cond-false}
use Rattle.cfb_directory.specs.Directory.{no_stream_entry}
use Rattle.cfb_layout.specs.declared.tree.Span.{Span}
use Rattle.cfb_layout.specs.Tree.{middle, lower, upper, top, span_of_entry}

pub record IsWithin (span : Span) (entry : ℕ) : Type 0 where
  pub from : span.low ≤ entry
  pub below : entry < span.low + span.count

-- a part of a span that is not empty, with the entry on top
pub record IsPart (whole part : Span) (entry : ℕ) : Type 0 where
  pub from : whole.low ≤ part.low
  pub end : part.low + part.count ≤ whole.low + whole.count
  pub some : 0 < part.count
  pub here : entry ≡ middle part

-- the part is the same below, above and at the middle
pub part_low : (steps entry : ℕ) (span : Span) → entry < middle span → span_of_entry (suc steps) entry span ≡
    span_of_entry steps
    entry (lower span)
part_low steps entry span h =
    cond-true (ltb entry (middle span)) (span_of_entry steps entry (lower span)) (cond (ltb (middle span) entry)
    (span_of_entry steps entry (upper span)) span) (lt-ltb entry (middle span) h)

pub part_up : (steps entry : ℕ) (span : Span) → middle span < entry → span_of_entry (suc steps) entry span ≡
    span_of_entry steps
    entry (upper span)
part_up steps entry span h =
    cond-false (ltb entry (middle span)) (span_of_entry steps entry (lower span)) (cond (ltb (middle span) entry)
    (span_of_entry steps entry (upper span)) span) (le-ltb entry (middle span) (omega arith))
    ∙ cond-true (ltb (middle span) entry) (span_of_entry steps entry (upper span)) span (lt-ltb (middle span) entry h)

pub part_mid : (steps entry : ℕ) (span : Span) → entry ≡ middle span → span_of_entry steps entry span ≡ span
part_mid zero entry span h = refl
part_mid (suc steps) entry span h =
    cond-false (ltb entry (middle span)) (span_of_entry steps entry (lower span)) (cond (ltb (middle span) entry)
    (span_of_entry steps entry (upper span)) span) (le-ltb entry (middle span) (omega arith))
    ∙ cond-false (ltb (middle span) entry) (span_of_entry steps entry (upper span)) span (le-ltb (middle span) entry
    (omega arith))

pub within_low : (span : Span) (entry : ℕ) → IsWithin span entry → entry < middle span → IsWithin (lower span) entry
within_low span entry w h = let a = w.from in record { from = a; below = h }

pub within_up : (span : Span) (entry : ℕ) → IsWithin span entry → middle span < entry → IsWithin (upper span) entry
within_up span entry w h = let a = w.below in record { from = omega arith; below = omega arith }

pub middle_within : (span : Span) → 0 < span.count → IsWithin span (middle span)
middle_within span h = record { from = omega arith; below = omega arith }

-- any number of steps that is enough finds the part
pub part_is : (steps entry : ℕ) (span : Span) → span.count ≤ steps → IsWithin span entry →
    IsPart span (span_of_entry steps entry span) entry
part_is zero entry span room w = let a = w.from in let b = w.below in absurd (omega arith)
part_is (suc steps) entry span room w = let a = w.from in let b = w.below in elim (cases_order entry (middle span)) [
  | inl same ↦ subst (λ p. IsPart span p entry) (sym (part_mid (suc steps) entry span same))
      (record { from = omega arith; end = omega arith; some = omega arith; here = same })
  | inr apart ↦ elim apart [
    | inl low ↦
        let p = part_is steps entry (lower span) (omega arith) (within_low span entry w low) in
        let x = p.from in
        let y = p.end in
        subst (λ p. IsPart span p entry) (sym (part_low steps entry span low)) (record {
          from = omega arith;
          end = omega arith;
          some = p.some;
          here = p.here;
        })
    | inr high ↦
        let p = part_is steps entry (upper span) (omega arith) (within_up span entry w high) in
        let x = p.from in
        let y = p.end in
        subst (λ p. IsPart span p entry) (sym (part_up steps entry span high)) (record {
          from = omega arith;
          end = omega arith;
          some = p.some;
          here = p.here;
        })
  ]
]

pub part_same : (steps other entry : ℕ) (span : Span) → span.count ≤ steps → span.count ≤ other →
    IsWithin span entry → span_of_entry steps entry span ≡ span_of_entry other entry span
part_same zero other entry span room more w = let a = w.from in let b = w.below in absurd (omega arith)
part_same (suc steps) zero entry span room more w = let a = w.from in let b = w.below in absurd (omega arith)
part_same (suc steps) (suc other) entry span room more w = let a = w.from in let b = w.below in
    elim (cases_order entry (middle span)) [
      | inl same ↦ part_mid (suc steps) entry span same ∙ sym (part_mid (suc other) entry span same)
      | inr apart ↦ elim apart [
        | inl low ↦
            let within = within_low span entry w low in
            let same = part_same steps other entry (lower span) (omega arith) (omega arith) within in
            part_low steps entry span low ∙ (same ∙ sym (part_low other entry span low))
        | inr high ↦
            let within = within_up span entry w high in
            let same = part_same steps other entry (upper span) (omega arith) (omega arith) within in
            part_up steps entry span high ∙ (same ∙ sym (part_up other entry span high))
      ]
    ]

-- the link to a span
pub top_none : (span : Span) → span.count ≡ 0 → top span ≡ no_stream_entry
top_none span h = cond-true (nat_eq span.count 0) no_stream_entry (middle span) (eq-eqb span.count 0 h)

pub top_some : (span : Span) → 0 < span.count → top span ≡ middle span
top_some span h = cond-false (nat_eq span.count 0) no_stream_entry (middle span) (ne_eqb span.count 0 (λ e. omega
    arith))

-- what holds of the top, and goes on by left and right, holds of all entries of a span
pub record GoesOn (P : ℕ → Type 0) (whole : Span) : Type 0 where
  pub left : (entry : ℕ) → IsWithin whole entry → P entry → 0 < (lower (span_of_entry whole.count entry whole)).count →
      P (middle (lower (span_of_entry whole.count entry whole)))
  pub right : (entry : ℕ) → IsWithin whole entry → P entry → 0 < (upper (span_of_entry whole.count entry whole)).count →
      P (middle (upper (span_of_entry whole.count entry whole)))

pub all_reached : (P : ℕ → Type 0) (whole : Span) → GoesOn P whole → (steps : ℕ) (span : Span) → span.count ≤ steps →
    ((entry : ℕ) → IsWithin span entry → IsWithin whole entry) → ((entry : ℕ) → IsWithin span entry →
    span_of_entry whole.count entry whole ≡ span_of_entry steps entry span) → (0 < span.count → P (middle span)) →
    (entry : ℕ) →
    IsWithin span entry → P entry
all_reached P whole goes zero span room inside same here entry w = let a = w.from in let b = w.below in
    absurd (omega arith)
all_reached P whole goes (suc steps) span room inside same here entry w =
    let a = w.from in
    let b = w.below in
    let some : 0 < span.count = omega arith in
    let mid = middle_within span some in
    let part : span_of_entry whole.count (middle span) whole ≡ span = same (middle span) mid ∙ part_mid (suc steps)
    (middle span) span refl in
    elim (cases_order entry (middle span)) [
      | inl e ↦ subst P (sym e) (here some)
      | inr apart ↦ elim apart [
        | inl low ↦ all_reached P whole goes steps (lower span) (omega arith)
            (λ k v. let x = v.from in let y = v.below in inside k (record { from = omega arith; below = omega arith }))
            (λ k v. let x = v.from in let y = v.below in same k (record { from = omega arith; below = omega arith }) ∙
            part_low steps k span (omega arith))
            (λ more. subst (λ p. 0 < (lower p).count → P (middle (lower p))) part (goes.left (middle span)
            (inside (middle span) mid) (here some)) more)
            entry (within_low span entry w low)
        | inr high ↦ all_reached P whole goes steps (upper span) (omega arith)
            (λ k v. let x = v.from in let y = v.below in inside k (record { from = omega arith; below = omega arith }))
            (λ k v. let x = v.from in let y = v.below in same k (record { from = omega arith; below = omega arith }) ∙
            part_up steps k span (omega arith))
            (λ more. subst (λ p. 0 < (upper p).count → P (middle (upper p))) part (goes.right (middle span)
            (inside (middle span) mid) (here some)) more)
            entry (within_up span entry w high)
      ]
    ]

-- the number of the one link that names an entry of a span: 3 e left of e, 3 e + 1 right of e, `here` for the top
abbrev pub link_of : ℕ → ℕ → Span → ℕ → ℕ
link_of zero entry span here = here
link_of (suc steps) entry span here =
    if nat_lt entry (middle span) then link_of steps entry (lower span) (3 * middle span)
    else (if nat_lt (middle span) entry then link_of steps entry (upper span) (3 * middle span + 1) else here)

pub link_low : (steps entry : ℕ) (span : Span) (here : ℕ) → entry < middle span → link_of (suc steps) entry span here
    ≡ link_of steps entry (lower span) (3 * middle span)
link_low steps entry span here h =
    cond-true (ltb entry (middle span)) (link_of steps entry (lower span) (3 * middle span)) (cond (ltb (middle span)
    entry) (link_of steps entry (upper span) (3 * middle span + 1)) here) (lt-ltb entry (middle span) h)

pub link_up : (steps entry : ℕ) (span : Span) (here : ℕ) → middle span < entry → link_of (suc steps) entry span here ≡
    link_of steps entry (upper span) (3 * middle span + 1)
link_up steps entry span here h =
    cond-false (ltb entry (middle span)) (link_of steps entry (lower span) (3 * middle span)) (cond (ltb (middle span)
    entry) (link_of steps entry (upper span) (3 * middle span + 1)) here) (le-ltb entry (middle span) (omega arith))
    ∙ cond-true (ltb (middle span) entry) (link_of steps entry (upper span) (3 * middle span + 1)) here
    (lt-ltb (middle span) entry h)

pub link_mid : (steps entry : ℕ) (span : Span) (here : ℕ) → entry ≡ middle span → link_of steps entry span here ≡ here
link_mid zero entry span here h = refl
link_mid (suc steps) entry span here h =
    cond-false (ltb entry (middle span)) (link_of steps entry (lower span) (3 * middle span)) (cond (ltb (middle span)
    entry) (link_of steps entry (upper span) (3 * middle span + 1)) here) (le-ltb entry (middle span) (omega arith))
    ∙ cond-false (ltb (middle span) entry) (link_of steps entry (upper span) (3 * middle span + 1)) here
    (le-ltb (middle span) entry (omega arith))

-- the entry that is left or right of another is named by that link
pub link_left : (steps entry k : ℕ) (span : Span) (here : ℕ) → span.count ≤ steps → IsWithin span entry →
    0 < (lower (span_of_entry steps entry span)).count → k ≡ middle (lower (span_of_entry steps entry span)) → link_of
    steps k
    span here ≡ 3 * entry
link_left zero entry k span here room w some is = let a = w.from in let b = w.below in absurd (omega arith)
link_left (suc steps) entry k span here room w some is = let a = w.from in let b = w.below in
    elim (cases_order entry (middle span)) [
      | inl same ↦
          let part = part_mid (suc steps) entry span same in
          let there : k ≡ middle (lower span) = is ∙ ap (λ p. middle (lower p)) part in
          let more : 0 < (lower span).count = subst (λ p. 0 < (lower p).count) part some in
          link_low steps k span here (omega arith) ∙ (link_mid steps k (lower span) (3 * middle span) there ∙ ap
          (λ n. 3 * n) (sym same))
      | inr apart ↦ elim apart [
        | inl low ↦
            let e = part_low steps entry span low in
            let w2 = within_low span entry w low in
            let there : k ≡ middle (lower (span_of_entry steps entry (lower span))) = is ∙ ap (λ p. middle (lower p)) e
            in
            let more : 0 < (lower (span_of_entry steps entry (lower span))).count = subst (λ p. 0 < (lower p).count) e
            some in
            let part = part_is steps entry (lower span) (omega arith) w2 in
            let x = part.end in
            link_low steps k span here (omega arith) ∙ link_left steps entry k (lower span) (3 * middle span)
            (omega arith) w2 more there
        | inr high ↦
            let e = part_up steps entry span high in
            let w2 = within_up span entry w high in
            let there : k ≡ middle (lower (span_of_entry steps entry (upper span))) = is ∙ ap (λ p. middle (lower p)) e
            in
            let more : 0 < (lower (span_of_entry steps entry (upper span))).count = subst (λ p. 0 < (lower p).count) e
            some in
            let part = part_is steps entry (upper span) (omega arith) w2 in
            let x = part.from in
            link_up steps k span here (omega arith) ∙ link_left steps entry k (upper span) (3 * middle span + 1)
            (omega arith) w2 more there
      ]
    ]

pub link_right : (steps entry k : ℕ) (span : Span) (here : ℕ) → span.count ≤ steps → IsWithin span entry →
    0 < (upper (span_of_entry steps entry span)).count → k ≡ middle (upper (span_of_entry steps entry span)) → link_of
    steps k
    span here ≡ 3 * entry + 1
link_right zero entry k span here room w some is = let a = w.from in let b = w.below in absurd (omega arith)
link_right (suc steps) entry k span here room w some is = let a = w.from in let b = w.below in
    elim (cases_order entry (middle span)) [
      | inl same ↦
          let part = part_mid (suc steps) entry span same in
          let there : k ≡ middle (upper span) = is ∙ ap (λ p. middle (upper p)) part in
          let more : 0 < (upper span).count = subst (λ p. 0 < (upper p).count) part some in
          link_up steps k span here (omega arith) ∙ (link_mid steps k (upper span) (3 * middle span + 1) there ∙ ap
          (λ n. 3 * n + 1) (sym same))
      | inr apart ↦ elim apart [
        | inl low ↦
            let e = part_low steps entry span low in
            let w2 = within_low span entry w low in
            let there : k ≡ middle (upper (span_of_entry steps entry (lower span))) = is ∙ ap (λ p. middle (upper p)) e
            in
            let more : 0 < (upper (span_of_entry steps entry (lower span))).count = subst (λ p. 0 < (upper p).count) e
            some in
            let part = part_is steps entry (lower span) (omega arith) w2 in
            let x = part.end in
            link_low steps k span here (omega arith) ∙ link_right steps entry k (lower span) (3 * middle span)
            (omega arith) w2 more there
        | inr high ↦
            let e = part_up steps entry span high in
            let w2 = within_up span entry w high in
            let there : k ≡ middle (upper (span_of_entry steps entry (upper span))) = is ∙ ap (λ p. middle (upper p)) e
            in
            let more : 0 < (upper (span_of_entry steps entry (upper span))).count = subst (λ p. 0 < (upper p).count) e
            some in
            let part = part_is steps entry (upper span) (omega arith) w2 in
            let x = part.from in
            link_up steps k span here (omega arith) ∙ link_right steps entry k (upper span) (3 * middle span + 1)
            (omega arith) w2 more there
      ]
    ]
