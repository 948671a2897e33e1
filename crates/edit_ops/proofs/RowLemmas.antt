-- Rows: the bytes of their definition, and the items of their cells.
use Rattle.std.proofs.Common.{◌≡◌, ◌∙◌, sym, ap, ℕ, zero, suc, ◌+◌, ◌*◌, ◌≤◌, List, [], ◌∷◌, ◌++◌, length, map}
use Rattle.std.proofs.Common.{take, get_or, Some, arith, length-append, replicate}
use Rattle.std.specs.Prelude.{slice_get}
use Rattle.std.specs.List.{flat_map, sum_by, range_with_len}
use Rattle.std.proofs.lemmas.List.{append-nil, length-replicate, length-map}
use Rattle.std.proofs.lemmas.Grind.{flat_map-append}
use Rattle.std.proofs.lemmas.List.Concat.{length-flat_map}
use Rattle.std.proofs.lemmas.List.FromFn.{map-range_with_len_more, length-map-range_with_len}
use Rattle.std.proofs.lemmas.List.Sums.{sum_by-le}
use Rattle.std.specs.FinMap.{empty}
use Rattle.doc_bits.proofs.Public.{no_bytes, joined_bytes, one_byte, AreBytes-flat_map, length-number_bytes, take_step}
use Rattle.doc_bits.proofs.Public.{number_are_bytes}
use Rattle.doc_bits.specs.Number.{number_bytes, AreBytes}
use Rattle.prop_map.specs.Formed.{IsPropertyMap, paragraph_groups}
use Rattle.prop_map.proofs.Public.{IsPropertyMap-empty}
use Rattle.text_codes.specs.Paragraph.{cell_mark}
use Rattle.edit_ops.specs.Fresh.{row_edges, row_definition, row_properties, cell_properties, cell_items, unit_item}
use Rattle.edit_ops.specs.Fresh.{unit_items, mark_item, mark_with}
use Rattle.edit_ops.proofs.FreshLemmas.{in_table_formed, row_end_formed, definition_formed}

-- ---- lists by their entries

flat_map_one : {X A : Type 0} (f : X → List A) (xs : List X) (x : X) → flat_map f (xs ++ x ∷ []) ≡ flat_map f xs ++ f x
flat_map_one f xs x = flat_map-append f xs (x ∷ []) ∙ ap (λ more. flat_map f xs ++ more) (append-nil (f x))

-- ---- the items of cells

pub cells_more : (cells : List (List ℕ)) (i : ℕ) (text : List ℕ) → slice_get cells i ≡ Some text → flat_map cell_items
    (take (i + 1) cells) ≡ flat_map cell_items (take i cells) ++ cell_items text
cells_more cells i text there = ap (flat_map cell_items) (take_step cells i text there) ∙ flat_map_one cell_items
    (take i cells) text

pub length-cell : (text : List ℕ) → length (cell_items text) ≡ length text + 1
length-cell text =
    length-append (unit_items empty text) (mark_item empty cell_mark (mark_with cell_properties) ∷ [])
    ∙ ap (λ n. n + 1) (length-map text (unit_item empty))

-- ---- the definition of a row

edge_bytes : (width edge : ℕ) → flat_map (number_bytes 2) (map (λ e. e * width) (range_with_len 0 (edge + 1))) ≡
    flat_map (number_bytes 2) (map (λ e. e * width) (range_with_len 0 edge)) ++ number_bytes 2 (edge * width)
edge_bytes width edge =
    let same : 0 + edge ≡ edge = omega arith in
    ap (flat_map (number_bytes 2)) (map-range_with_len_more (λ e. e * width) 0 edge edge same)
    ∙ flat_map_one (number_bytes 2) (map (λ e. e * width) (range_with_len 0 edge)) (edge * width)

pub edge_more : (cells width edge : ℕ) (old new : List ℕ) → old ≡ cells ∷ flat_map (number_bytes 2)
    (map (λ e. e * width) (range_with_len 0 edge)) → new ≡ old ++ number_bytes 2 (edge * width) →
    new ≡ cells ∷ flat_map (number_bytes 2) (map (λ e. e * width) (range_with_len 0 (edge + 1)))
edge_more cells width edge old new before is =
    is ∙ (ap (λ bytes. bytes ++ number_bytes 2 (edge * width)) before ∙ ap (λ more. cells ∷ more)
    (sym (edge_bytes width edge)))

pub definition_is : (cells width edge : ℕ) (old new : List ℕ) → edge ≡ cells + 1 → old ≡ cells ∷ flat_map
    (number_bytes 2) (map (λ e. e * width) (range_with_len 0 edge)) → new ≡ old ++ replicate (20 * cells) 0 →
    new ≡ row_definition cells width
definition_is cells width edge old new all before is =
    is ∙ ap (λ bytes. bytes ++ replicate (20 * cells) 0) (before ∙ ap (λ n. cells ∷ flat_map (number_bytes 2)
    (map (λ e. e * width) (range_with_len 0 n))) all)

pub definition_short : (cells width : ℕ) → cells ≤ 63 → length (row_definition cells width) ≤ 65534
definition_short cells width few =
    let edges = row_edges cells width in
    let count : length edges ≡ cells + 1 = length-map-range_with_len (λ e. e * width) 0 (cells + 1) in
    let each : sum_by (λ x. length (number_bytes 2 x)) edges ≤ length edges * 2 = sum_by-le (λ x. length (number_bytes
    2 x)) 2 edges (λ k d below. two (get_or edges k d)) in
    let bytes : length (flat_map (number_bytes 2) edges) ≡ sum_by (λ x. length (number_bytes 2 x)) edges =
    length-flat_map (number_bytes 2) edges in
    let zeros : length (replicate {A = ℕ} (20 * cells) 0) ≡ 20 * cells = length-replicate (20 * cells) 0 in
    let all = length-append (flat_map (number_bytes 2) edges) (replicate (20 * cells) 0) in
    omega arith
  where
    two : (x : ℕ) → length (number_bytes 2 x) ≤ 2
    two x = let len = length-number_bytes 2 x in omega arith

zero_bytes : (n : ℕ) → AreBytes (replicate n 0)
zero_bytes zero = no_bytes
zero_bytes (suc n) = joined_bytes (0 ∷ []) (replicate n 0) (one_byte 0 (omega arith)) (zero_bytes n)

definition_bytes : (cells width : ℕ) → cells ≤ 63 → AreBytes (row_definition cells width)
definition_bytes cells width few =
    let edges = flat_map (number_bytes 2) (row_edges cells width) in
    joined_bytes (cells ∷ []) (edges ++ replicate (20 * cells) 0) (one_byte cells (omega (arith, few)))
    (joined_bytes edges (replicate (20 * cells) 0) (AreBytes-flat_map (number_bytes 2) (row_edges cells width)
    number_are_bytes) (zero_bytes (20 * cells)))

pub row_formed : (cells width : ℕ) → cells ≤ 63 → IsPropertyMap paragraph_groups (row_properties cells width)
row_formed cells width few =
    definition_formed _ (row_definition cells width) (definition_short cells width few) (definition_bytes cells width
    few)
    (row_end_formed cell_properties (in_table_formed empty (IsPropertyMap-empty paragraph_groups)))
