-- The paragraphs of a text, one by one.
use Rattle.std.proofs.Common.{◌≡◌, ◌∙◌, ◌≤◌, ℕ, ◌+◌, Bool, true, false, List, [], ◌∷◌, ◌++◌, length, drop}
use Rattle.std.proofs.Common.{Option, Some}
use Rattle.std.proofs.Common.{None, sym, ap, arith, append_assoc, subst, suc}
use Rattle.std.specs.Prelude.{slice_get, if◌then◌else◌}
use Rattle.std.proofs.Math.ListN.{drop_of_length-le}
use Rattle.std.proofs.lemmas.Option.{get_or_from_slice_get, same_Some, slice_get_within}
use Rattle.std.proofs.Math.Seq.{drop-cons}
use Rattle.nested_tables.specs.declared.depths.Depth.{Depth}
use Rattle.nested_tables.specs.declared.walk.NestedPlace.{NestedPlace}
use Rattle.nested_tables.specs.declared.walk.Walk.{Walk}
use Rattle.nested_tables.specs.Tables.{nested_row_cells, ends_cell, ends_row, first_of, is_whole_table, reaches_depth}
use Rattle.nested_tables.specs.Tables.{keeps_row}
use Rattle.nested_tables.specs.Tables.{own_place, place_by, nested_place_in, places_from, walk_after, walk_of, whole_in}

-- what is from a place on
rest_is : (paragraphs : List Depth) (k : ℕ) (one : Depth) → slice_get paragraphs k ≡ Some one → drop k paragraphs ≡ one ∷
    drop (k + 1) paragraphs
rest_is paragraphs k one there =
    let next : suc k ≡ k + 1 = omega arith in
    subst (λ (n : ℕ). drop k paragraphs ≡ one ∷ drop n paragraphs) next
    (drop-cons paragraphs k one (slice_get_within paragraphs k one there)
    ∙ ap (λ (x : Depth). x ∷ drop (suc k) paragraphs) (get_or_from_slice_get paragraphs k one one there))

-- ---- whether a table is whole

-- a paragraph that is so deep, one that is not, and none
pub whole_step : (depth : ℕ) (ended : Bool) (paragraphs : List Depth) (k : ℕ) (one : Depth) →
    slice_get paragraphs k ≡ Some one → reaches_depth depth one ≡ true →
    is_whole_table depth ended (drop k paragraphs) ≡ is_whole_table depth (ends_row depth one) (drop (k + 1) paragraphs)
unfolding is_whole_table
whole_step depth ended paragraphs k one there within =
    ap (is_whole_table depth ended) (rest_is paragraphs k one there)
    ∙ ap (λ (b : Bool). if b then is_whole_table depth (ends_row depth one) (drop (k + 1) paragraphs) else ended) within

pub whole_stop : (depth : ℕ) (ended : Bool) (paragraphs : List Depth) (k : ℕ) (one : Depth) →
    slice_get paragraphs k ≡ Some one → reaches_depth depth one ≡ false → is_whole_table depth ended (drop k paragraphs)
    ≡ ended
unfolding is_whole_table
whole_stop depth ended paragraphs k one there within =
    ap (is_whole_table depth ended) (rest_is paragraphs k one there)
    ∙ ap (λ (b : Bool). if b then is_whole_table depth (ends_row depth one) (drop (k + 1) paragraphs) else ended) within

pub whole_end : (depth : ℕ) (ended : Bool) (paragraphs : List Depth) (k : ℕ) → length paragraphs ≤ k →
    is_whole_table depth ended (drop k paragraphs) ≡ ended
unfolding is_whole_table
whole_end depth ended paragraphs k past = ap (is_whole_table depth ended) (drop_of_length-le paragraphs past)

-- ---- walks

walk_of-cons : (depth : ℕ) (paragraph : Depth) (before : List Depth) →
    walk_of depth (paragraph ∷ before) ≡ walk_after depth (walk_of depth before) paragraph
walk_of-cons depth paragraph before =
    let number : length (paragraph ∷ before) ≡ length before + 1 = omega arith in
    λ i. record {
      number = number i;
      table = if reaches_depth depth paragraph then first_of (reaches_depth depth) before else length before + 1;
      row = if keeps_row depth paragraph then first_of (keeps_row depth) before else length before + 1;
      cell =
          if keeps_row depth paragraph then nested_row_cells depth before + (if ends_cell depth paragraph then 1 else 0)
          else 0;
    }

one_few : (b : Bool) → (if b then 1 else 0) ≤ 1
one_few true = omega arith
one_few false = omega arith

pub cell_few : (depth : ℕ) (walk : Walk) (paragraph : Depth) → (walk_after depth walk paragraph).cell ≤ walk.cell + 1
cell_few depth walk paragraph =
    let few = one_few (ends_cell depth paragraph) in
    elim (keeps_row depth paragraph) as (λ (b : Bool). (if b then walk.cell + (if ends_cell depth paragraph then 1 else
    0) else 0) ≤ walk.cell + 1) [ true ↦ omega (arith, few) | false ↦ omega arith ]

-- ---- what is known of a table

pub known_by : (within value known : Bool) (whole : Option Bool) → whole ≡ (if within then Some value else None) →
    whole ≡ Some known → known ≡ value
known_by true value known whole is here = same_Some known value (sym here ∙ is)
known_by false value known whole is here = let none : whole ≡ None = is in absurd (cc (none, here))

-- ---- places

-- the places of the paragraphs so far
pub record PlacesAt (depth : ℕ) (all : List Depth) (places : List (Option NestedPlace)) (walk : Walk)
    (k : ℕ) : Type 0 where
  pub before : List Depth
  pub walk_is : walk ≡ walk_of depth before
  pub whole : places ++ places_from depth before (drop k all) ≡ places_from depth [] all

pub places_start : (depth : ℕ) (all : List Depth) (places : List (Option NestedPlace)) (walk : Walk) → places ≡ [] →
    walk ≡ record { number = 0; table = 0; row = 0; cell = 0 } → PlacesAt depth all places walk 0
places_start depth all places walk none start = record {
  before = [];
  walk_is = start;
  whole = ap (λ (xs : List (Option NestedPlace)). xs ++ places_from depth [] all) none;
}

pub places_on : (depth : ℕ) (all : List Depth) (places next : List (Option NestedPlace)) (walk after : Walk) (k : ℕ)
    (one : Depth) (whole : Option Bool) (place : Option NestedPlace) → slice_get all k ≡ Some one →
    PlacesAt depth all places walk k → whole ≡ whole_in depth one (drop (k + 1) all) →
    place ≡ place_by whole (own_place depth walk one) → next ≡ places ++ place ∷ [] →
    after ≡ walk_after depth walk one → PlacesAt depth all next after (k + 1)
unfolding places_from
places_on depth all places next walk after k one whole place there at whole_is place_is next_is after_is =
    let rest = drop (k + 1) all in
    let more = places_from depth (one ∷ at.before) rest in
    let is : place ≡ nested_place_in depth at.before one rest =
    place_is ∙ (λ i. place_by (whole_is i) (own_place depth (at.walk_is i) one)) in
    record {
      before = one ∷ at.before;
      walk_is =
          after_is ∙ ap (λ (w : Walk). walk_after depth w one) at.walk_is ∙ sym (walk_of-cons depth one at.before);
      whole =
          (λ i. next_is i ++ more) ∙ append_assoc places (place ∷ []) more ∙ (λ i. places ++ (is i ∷ more))
          ∙ ap (λ (ps : List Depth). places ++ places_from depth at.before ps) (sym (rest_is all k one there))
          ∙ at.whole;
    }

pub places_end : (depth : ℕ) (before all : List Depth) (k : ℕ) → length all ≤ k →
    places_from depth before (drop k all) ≡ []
unfolding places_from
places_end depth before all k past = ap (places_from depth before) (drop_of_length-le all past)
