-- What a rule says is that something is not wrong. Each such thing is right or wrong, so it is right.
use Rattle.std.proofs.Common.{◌≡◌, ◌⊎◌, inl, inr, ℕ, ◌≤◌, List, [], ◌∷◌, Option, Some, None, refl, sym, ◌∙◌, ap, arith}
use Rattle.std.specs.Prelude.{IsTrue, Bool}
use Rattle.std.specs.List.{slice_get}
use Rattle.std.proofs.lemmas.Bool.{cases_eq, cases_lt, cases_Bool, false≢true}
use Rattle.std.proofs.lemmas.Option.{same_Some, none-some}
use Rattle.doc_bits.specs.declared.places.Where.{Where}
use Rattle.doc_bits.specs.declared.places.Where.TheVariants.{File, Wd, Table, Sheet, Main, Note, Head}
use Rattle.doc_bits.specs.Places.{rank}
use Rattle.plain_doc.specs.Nesting.{AreNestedFields, most_open}
use Rattle.plain_doc.specs.OpenFields.{Open}
use Rattle.plain_doc.specs.Rows.{HasCells}
use Rattle.plain_doc.specs.RulesOfTexts.{IsHead}
use Rattle.plain_doc.proofs.WalkLemmas.{after_all}
use Rattle.plain_doc.proofs.EndLemmas.{fields_nest}
use Rattle.plain_doc.proofs.NestingLemmas.{nest_passes}

-- it is so, or it is not
abbrev pub IsDecided : Type 0 → Type 0
IsDecided A = A ⊎ (A → ⊥)

-- what is decided and not wrong is right
pub settled : {A : Type 0} → IsDecided A → ¬ ¬ A → A
settled decided wrong = elim decided [ inl right ↦ right | inr not ↦ absurd (wrong not) ]

-- what is implied by what is not wrong is not wrong
pub implied : {A B : Type 0} → ¬ ¬ A → (A → B) → ¬ ¬ B
implied wrong then not = wrong (λ a. not (then a))

pub at_most_or : (a b : ℕ) → IsDecided (a ≤ b)
at_most_or a b =
    elim (cases_lt b a) [
      | inl more ↦ inr (λ h. omega (arith, more, h))
      | inr most ↦ inl
          (let h : a ≤ b = omega arith in h)
    ]

pub equal_or : (a b : ℕ) → IsDecided (a ≡ b)
equal_or a b = cases_eq a b

pub true_or : (b : Bool) → IsDecided (IsTrue b)
true_or b = elim (cases_Bool b) [ inl e ↦ inl e | inr e ↦ inr (λ t. false≢true (sym e ∙ t)) ]

pub both_or : {A B : Type 0} → IsDecided A → IsDecided B → IsDecided (A × B)
both_or a b = elim a [
  | inl x ↦ elim b [ inl y ↦ inl (x, y) | inr none ↦ inr (λ p. none p.1) ]
  | inr none ↦ inr (λ p. none p.0)
]

pub either_or : {A B : Type 0} → IsDecided A → IsDecided B → IsDecided (A ⊎ B)
either_or a b = elim a [
  | inl x ↦ inl (inl x)
  | inr none ↦ elim b [
    | inl y ↦ inl (inr y)
    | inr no_other ↦ inr (λ p. elim p [ inl x ↦ none x | inr y ↦ no_other y ])
  ]
]

pub implies_or : {A B : Type 0} → IsDecided A → IsDecided B → IsDecided (A → B)
implies_or a b = elim b [
  | inl y ↦ inl (λ x. y)
  | inr none ↦ elim a [ inl x ↦ inr (λ f. none (f x)) | inr not ↦ inl (λ x. absurd (not x)) ]
]

-- a number is there and is this one
pub some_or : (o : Option ℕ) (x : ℕ) → IsDecided (o ≡ Some x)
some_or None x = inr (λ e. none-some x e)
some_or (Some y) x = elim (cases_eq y x) [ inl e ↦ inl (ap Some e) | inr other ↦ inr (λ e. other (same_Some y x e)) ]

pub empty_or : {A : Type 0} (xs : List A) → IsDecided (xs ≡ [])
empty_or [] = inl refl
empty_or (x ∷ xs) = inr (λ e. absurd (cc (e)))

pub main_or : (part : Where) → IsDecided (part ≡ Main)
main_or File = inr (λ e. let h = ap rank e in absurd (omega arith))
main_or Wd = inr (λ e. let h = ap rank e in absurd (omega arith))
main_or Table = inr (λ e. let h = ap rank e in absurd (omega arith))
main_or Sheet = inr (λ e. let h = ap rank e in absurd (omega arith))
main_or Main = inl refl
main_or (Note number) = inr (λ e. let h = ap rank e in absurd (omega arith))
main_or (Head number) = inr (λ e. let h = ap rank e in absurd (omega arith))

pub head_or : (part : Where) → IsDecided (IsHead part)
head_or File = inr (λ head. let h = ap rank head.1 in absurd (omega arith))
head_or Wd = inr (λ head. let h = ap rank head.1 in absurd (omega arith))
head_or Table = inr (λ head. let h = ap rank head.1 in absurd (omega arith))
head_or Sheet = inr (λ head. let h = ap rank head.1 in absurd (omega arith))
head_or Main = inr (λ head. let h = ap rank head.1 in absurd (omega arith))
head_or (Note number) = inr (λ head. let h = ap rank head.1 in absurd (omega arith))
head_or (Head number) = inl (number, refl)

pub cells_or : (value : Option (List ℕ)) (cells : ℕ) → IsDecided (HasCells value cells)
cells_or None cells = inr (λ none. none)
cells_or (Some value) cells = some_or (slice_get value 0) cells

-- field characters nest exactly where the walk over them comes to an end with nothing open
nest_by : (units : List ℕ) (open_fields : Option Open) → after_all most_open units (Some []) ≡ open_fields →
    IsDecided (AreNestedFields most_open units)
nest_by units None e = inr (λ nests. let passes = nest_passes most_open units nests in absurd (cc))
nest_by units (Some []) e = inl (fields_nest most_open units e)
nest_by units (Some (field ∷ fields)) e = inr (λ nests. let passes = nest_passes most_open units nests in absurd (cc))

pub nest_or : (units : List ℕ) → IsDecided (AreNestedFields most_open units)
nest_or units = nest_by units (after_all most_open units (Some [])) refl

-- what is said of what may be there
pub ForSome_settled : {A : Type 0} (P : A → Type 0) (o : Option A) → ((x : A) → IsDecided (P x)) →
    ¬ ¬ ((x : A) → o ≡ Some x → P x) → (x : A) → o ≡ Some x → P x
ForSome_settled P o decided wrong x is = settled (decided x) (implied wrong (λ all. all x is))
