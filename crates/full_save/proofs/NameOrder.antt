-- Of two names that are not the same, one comes first.
use Rattle.std.specs.Prelude.{slice_index}
use Rattle.std.proofs.Common.{◌≡◌, ◌≢◌, ◌∙◌, inl, inr, ℕ, zero, suc, ◌<◌, true, false, cond, ltb, lt-ltb, eq-eqb}
use Rattle.std.proofs.Common.{List, []}
use Rattle.std.proofs.Common.{◌∷◌, length, sym, ap, subst, arith}
use Rattle.std.proofs.lemmas.Bool.{cases_order, cases_eq, ne_eqb, ltb-true, false≢true, true≢false}
use Rattle.cfb_directory.specs.Directory.{upper_case, AreSameNames, IsNameLessAt, IsNameBefore}
use Rattle.cfb_directory.proofs.Public.{first_difference}
use Rattle.full_save.specs.Streams.{has_less_unit, is_name_before}

pub comes_other : (name other : List ℕ) → ¬ IsNameBefore name other → ¬ AreSameNames name other →
    IsNameBefore other name
comes_other name other not apart = elim (cases_order (length name) (length other)) [
  | inr ne ↦ elim ne [
    | inl lo ↦ absurd (not (inl lo))
    | inr hi ↦ inl hi
  ]
  | inl e ↦
      elim (first_difference (λ i. upper_case (slice_index name i)) (λ i. upper_case (slice_index other i))
      (length name)) [
        | inl same ↦ absurd (apart (record { long = e; units = same }))
        | inr d ↦
            let inside = d.1.0 in
            elim (cases_order (upper_case (slice_index name d.0)) (upper_case (slice_index other d.0))) [
              | inl eq ↦ absurd (d.1.1.1 eq)
              | inr ne ↦ elim ne [
                | inl lo ↦ absurd (not (inr (e, (d.0, record { inside = inside; front = d.1.1.0; less = lo }))))
                | inr hi ↦
                    inr (sym e, (d.0, record { inside = omega arith; front = λ i low. sym (d.1.1.0 i low); less = hi }))
              ]
            ]
      ]
]

-- a name is the same as itself
pub same_as_itself : (name other : List ℕ) → name ≡ other → AreSameNames name other
same_as_itself name other same = record {
  long = ap length same;
  units = λ i below. ap (λ (n : List ℕ). upper_case (slice_index n i)) same;
}

-- ---- the order as a test

front_more : (unit first : ℕ) (units others : List ℕ) (place : ℕ) → upper_case unit ≡ upper_case first →
    ((i : ℕ) → i < place → upper_case (slice_index units i) ≡ upper_case (slice_index others i)) → (i : ℕ) →
    i < suc place → upper_case (slice_index (unit ∷ units) i) ≡ upper_case (slice_index (first ∷ others) i)
front_more unit first units others place e front zero below = e
front_more unit first units others place e front (suc i) below = front i (omega (arith, below))

less_to : (name other : List ℕ) → length name ≡ length other → has_less_unit name other ≡ true →
    (place : ℕ) × IsNameLessAt name other place
less_to [] other same less = absurd (false≢true less)
less_to (unit ∷ units) [] same less = absurd (false≢true less)
less_to (unit ∷ units) (first ∷ others) same less = elim (cases_eq (upper_case unit) (upper_case first)) [
  | inl e ↦
      let rest : has_less_unit units others ≡ true =
      subst (λ b. cond b (has_less_unit units others) (ltb (upper_case unit) (upper_case first)) ≡ true)
      (eq-eqb (upper_case unit) (upper_case first) e) less in
      let found = less_to units others (omega (arith, same)) rest in
      let is = found.1 in
      let inside = is.inside in (
        suc found.0,
        record {
          inside = omega (arith, inside);
          front = front_more unit first units others found.0 e is.front;
          less = is.less;
        },
      )
  | inr ne ↦
      let lower : ltb (upper_case unit) (upper_case first) ≡ true =
      subst (λ b. cond b (has_less_unit units others) (ltb (upper_case unit) (upper_case first)) ≡ true)
      (ne_eqb (upper_case unit) (upper_case first) ne) less in (
        zero,
        record {
          inside = omega arith;
          front = λ i below. absurd (omega (arith, below));
          less = ltb-true (upper_case unit) (upper_case first) lower;
        },
      )
]

less_from : (name other : List ℕ) (place : ℕ) → length name ≡ length other → IsNameLessAt name other place →
    has_less_unit name other ≡ true
less_from [] other place same is = let inside = is.inside in absurd (omega (arith, inside))
less_from (unit ∷ units) [] place same is = absurd (omega (arith, same))
less_from (unit ∷ units) (first ∷ others) zero same is =
    let less : upper_case unit < upper_case first = is.less in
    let apart : upper_case unit ≢ upper_case first = λ e. omega (arith, e, less) in
    ap (λ b. cond b (has_less_unit units others) (ltb (upper_case unit) (upper_case first)))
    (ne_eqb (upper_case unit) (upper_case first) apart)
    ∙ lt-ltb (upper_case unit) (upper_case first) less
less_from (unit ∷ units) (first ∷ others) (suc place) same is =
    let inside = is.inside in
    let e : upper_case unit ≡ upper_case first = is.front 0 (omega arith) in
    ap (λ b. cond b (has_less_unit units others) (ltb (upper_case unit) (upper_case first)))
    (eq-eqb (upper_case unit) (upper_case first) e)
    ∙ less_from units others place (omega (arith, same)) (record {
      inside = omega (arith, inside);
      front = λ i below. is.front (suc i) (omega (arith, below));
      less = is.less;
    })

pub before_is : (name other : List ℕ) → is_name_before name other ≡ true → IsNameBefore name other
before_is name other before = elim (cases_eq (length name) (length other)) [
  | inl e ↦
      let less : has_less_unit name other ≡ true =
      subst (λ b. cond b (has_less_unit name other) (ltb (length name) (length other)) ≡ true)
      (eq-eqb (length name) (length other) e) before in
      inr (e, less_to name other e less)
  | inr ne ↦
      let shorter : ltb (length name) (length other) ≡ true =
      subst (λ b. cond b (has_less_unit name other) (ltb (length name) (length other)) ≡ true)
      (ne_eqb (length name) (length other) ne) before in
      inl (ltb-true (length name) (length other) shorter)
]

pub before_from : (name other : List ℕ) → IsNameBefore name other → is_name_before name other ≡ true
before_from name other (inl shorter) =
    let apart : length name ≢ length other = λ e. omega (arith, e, shorter) in
    ap (λ b. cond b (has_less_unit name other) (ltb (length name) (length other)))
    (ne_eqb (length name) (length other) apart)
    ∙ lt-ltb (length name) (length other) shorter
before_from name other (inr less) =
    ap (λ b. cond b (has_less_unit name other) (ltb (length name) (length other)))
    (eq-eqb (length name) (length other) less.0)
    ∙ less_from name other less.1.0 less.0 less.1.1

-- a name that does not come before another one, and is not the same, comes behind it
pub behind_is : (name other : List ℕ) → is_name_before name other ≡ false → ¬ AreSameNames name other →
    IsNameBefore other name
behind_is name other not apart =
    comes_other name other (λ before. true≢false (sym (before_from name other before) ∙ not)) apart
