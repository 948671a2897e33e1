-- Runs are counted: lists that are joined have no more stretches than both, and paragraphs are one more at most.
use Rattle.std.specs.Prelude.{if◌then◌else◌, is_some}
use Rattle.std.proofs.Common.{◌≡◌, ◌∙◌, refl, sym, ap, ℕ, ◌+◌, ◌≤◌, Bool, true, false, not, cond, List, [], ◌∷◌, ◌++◌}
use Rattle.std.proofs.Common.{length, arith}
use Rattle.std.proofs.lemmas.List.Sums.{sum_by-append, sum_by-cons}
use Rattle.fkp_pages.specs.declared.kind.PageKind.TheVariants.{Chpx, Papx}
use Rattle.fkp_pages.proofs.Public.{pages_are_whole}
use Rattle.doc_model.specs.declared.item.Item.{Item}
use Rattle.doc_model.specs.Settings.{is_alike, is_inside}
use Rattle.doc_model.specs.Stretches.{stretch_from, stretches}
use Rattle.doc_model.proofs.Public.{Leads, leads, one_more}
use Rattle.full_save.proofs.Public.{length-runs_from}
use Rattle.edit_ops.specs.Runs.{paragraph_count}
use Rattle.save_laws.specs.RunCounts.{TextRunsAreCounted, RunCountsAdd, PagesAreFew}

abbrev pub none_if : Bool → ℕ
none_if b = cond b 0 1

abbrev one_if : Bool → ℕ
one_if b = cond b 1 0

-- ---- stretches of any list

by_test : {A : Type 0} (b : Bool) (x y : A) (ys : List A) (more : List (List A)) →
    length (if b then (x ∷ y ∷ ys) ∷ more else (x ∷ []) ∷ (y ∷ ys) ∷ more) ≡ cond b 0 1 + length ((y ∷ ys) ∷ more)
by_test true x y ys more = omega arith
by_test false x y ys more = omega arith

-- an element is one more stretch where it does not join the element that they begin with
pub counted : {A : Type 0} (joins : A → A → Bool) (x y : A) (parts : List (List A)) → Leads y parts →
    length (stretch_from joins x parts) ≡ cond (joins x y) 0 1 + length parts
counted joins x y parts leading =
    ap (λ p. length (stretch_from joins x p)) leading.is
    ∙ (by_test (joins x y) x y leading.front leading.more
    ∙ ap (λ p. cond (joins x y) 0 1 + length p) (sym leading.is))

pub few_stretches : {A : Type 0} (joins : A → A → Bool) (xs : List A) → length (stretches joins xs) ≤ length xs
unfolding stretches
few_stretches joins [] = omega arith
few_stretches joins (x ∷ xs) = omega (arith, few_stretches joins xs, one_more joins x (stretches joins xs))

pub joined_stretches : {A : Type 0} (joins : A → A → Bool) (one other : List A) →
    length (stretches joins (one ++ other)) ≤ length (stretches joins one) + length (stretches joins other)
unfolding stretches
joined_stretches joins [] other = omega arith
joined_stretches joins (x ∷ []) other = omega (arith, one_more joins x (stretches joins other))
joined_stretches joins (x ∷ (y ∷ ys)) other =
    let later = joined_stretches joins (y ∷ ys) other in
    let all = leads joins y (stretches joins (ys ++ other)) in
    let first = leads joins y (stretches joins ys) in
    omega (
      arith,
      later,
      counted joins x y (stretch_from joins y (stretches joins (ys ++ other))) all,
      counted joins x y (stretch_from joins y (stretches joins ys)) first,
    )

-- ---- items

-- an item ends a paragraph, or not
abbrev ends : Item → ℕ
ends item = cond (is_some item.mark) 1 0

pub run_counts_add : RunCountsAdd
run_counts_add one other = omega (arith, joined_stretches is_alike one other, sum_by-append ends one other)

turned : (b : Bool) → none_if (not b) ≡ one_if b
turned true = refl
turned false = refl

-- paragraphs, and what is behind the last one
few_paragraphs : (items : List Item) → length (stretches is_inside items) ≤ paragraph_count items + 1
unfolding stretches
few_paragraphs [] = omega arith
few_paragraphs (x ∷ []) = omega arith
few_paragraphs (x ∷ (y ∷ ys)) =
    let rest = stretches is_inside ys in
    omega (
      arith,
      few_paragraphs (y ∷ ys),
      counted is_inside x y (stretch_from is_inside y rest) (leads is_inside y rest),
      turned (is_some x.mark),
      sum_by-cons ends x (y ∷ ys),
    )

pub text_runs_are_counted : TextRunsAreCounted
text_runs_are_counted at items =
    omega (
      arith,
      length-runs_from Chpx at (stretches is_alike items),
      length-runs_from Papx at (stretches is_inside items),
      few_paragraphs items,
    )

pub pages_are_few : PagesAreFew
pages_are_few kind runs pages right are =
    let whole = pages_are_whole kind runs pages right are in
    record { few = whole.few; size = whole.size }
