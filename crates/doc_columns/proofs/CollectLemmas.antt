-- The items of a text, run by run.
use Rattle.std.proofs.Common.{◌≡◌, ℕ, ◌+◌, ◌-◌, ◌<◌, ◌≤◌, List, [], ◌∷◌, ◌++◌, length, take, drop, map, get_or}
use Rattle.std.proofs.Common.{Some, refl, sym, ◌∙◌, ap, subst, arith, append_assoc}
use Rattle.std.specs.Prelude.{slice_get, slice_range, replicate}
use Rattle.std.specs.List.{All}
use Rattle.std.proofs.Math.Seq.{take-add}
use Rattle.std.proofs.lemmas.Grind.{replicate_next}
use Rattle.std.proofs.lemmas.List.{length-replicate, length-map}
use Rattle.std.proofs.lemmas.List.Edits.{between_more, length-between}
use Rattle.std.proofs.lemmas.Option.{slice_get_within, get_or_from_slice_get}
use Rattle.prop_map.specs.Settings.{Properties}
use Rattle.doc_bits.proofs.Public.{All_at}
use Rattle.run_lists.specs.declared.runs.Run.{Run}
use Rattle.run_lists.specs.declared.cursor.Cursor.{Cursor}
use Rattle.run_lists.specs.Places.{IsAtRunBegin}
use Rattle.run_lists.specs.Spread.{expanded, total_len}
use Rattle.run_lists.proofs.Public.{length-spread, extent-nil, count_within, run_range as range_of_run, value_in_run}
use Rattle.doc_model.specs.declared.item.Item.{Item}
use Rattle.doc_model.specs.Document.{IsFormedItem}
use Rattle.doc_columns.specs.declared.attached.Attached.{Attached}
use Rattle.doc_columns.specs.Attached.{attached_of}
use Rattle.doc_columns.specs.Columns.{item_of, items_of}
use Rattle.doc_columns.specs.RunItems.{HasMapsWith, run_items as items_of_run}
use Rattle.doc_columns.proofs.ItemsOfLemmas.{items_of-range, items_of-append, items_of-maps, item_at}

-- a walk begins at the start
pub start_at : {T : Type 0} (runs : List (Run T)) (cursor : Cursor) → cursor ≡ (record { run = 0; begin = 0 }) →
    IsAtRunBegin runs cursor
start_at {T = T} runs cursor is = subst (IsAtRunBegin runs) (sym is) (record {
  there = omega arith;
  begins = extent-nil
      T;
})

-- a longer front
front_more : (text : List Item) (place count : ℕ) →
    take (place + count) text ≡ take place text ++ slice_range text place (place + count)
front_more text place count =
    let long : place + count - place ≡ count = omega arith in
    take-add place count text ∙ ap (λ (n : ℕ). take place text ++ take n (drop place text)) (sym long)

-- the items of a run are those of the text at its places
pub run_items : (text : List Item) (units : List ℕ) (chps : List Properties) (attachments : List Attached) (place count
    : ℕ)
    (attached : Attached) → items_of units chps attachments ≡ text →
    slice_range attachments place (place + count) ≡ replicate count attached
    → items_of (slice_range units place (place + count)) (slice_range chps place (place + count))
    (replicate count attached)
    ≡ slice_range text place (place + count)
run_items text units chps attachments place count attached whole range =
    ap (λ (some : List Attached). items_of (slice_range units place (place + count))
    (slice_range chps place (place + count)) some) (sym range)
    ∙ items_of-range units chps attachments place (place + count)
    ∙ ap (λ (items : List Item). slice_range items place (place + count)) whole

-- the items of a run are put behind those before it
pub run_put : (text : List Item) (units : List ℕ) (chps : List Properties) (attachments : List Attached) (place : ℕ)
    (run : Run Attached) (items new : List Item) → items_of units chps attachments ≡ text →
    slice_range attachments place (place + run.count) ≡ replicate run.count run.value → items ≡ take place text
    → new ≡ items ++ items_of_run units chps place run → new ≡ take (place + run.count) text
run_put text units chps attachments place run items new whole range so_far put =
    put
    ∙ ap (λ (some : List Item). some ++ items_of_run units chps place run) so_far
    ∙ ap (λ (some : List Item). take place text ++ some)
    (run_items text units chps attachments place run.count run.value whole range)
    ∙ sym (front_more text place run.count)

-- ---- the runs of a text

-- items are those of columns that are their own
pub whole_text : (text : List Item) (units : List ℕ) (chps : List Properties) (attachments : List Attached) →
    units ≡ map (λ item. item.unit) text → chps ≡ map (λ item. item.chp) text → attachments ≡ map attached_of text
    → items_of units chps attachments ≡ text
whole_text text units chps attachments us cs bs = rw (us, cs, bs) (items_of-maps text)

-- a run ends within the text
pub run_inside : (text : List Item) (runs : List (Run Attached)) (k place : ℕ) (run : Run Attached) →
    expanded runs ≡ map attached_of text → slice_get runs k ≡ Some run → place ≡ total_len (take k runs)
    → place + run.count ≤ length text
run_inside text runs k place run bs is begins =
    let within : k < length runs = slice_get_within runs k run is in
    let here : get_or runs k run ≡ run = get_or_from_slice_get runs k run run is in
    let count : (get_or runs k run).count ≡ run.count = ap (λ (r : Run Attached). r.count) here in
    let long : length (map attached_of text) ≡ length text = length-map text attached_of in
    omega (arith, count_within runs k run within, length-spread runs, ap length bs, long, count, begins)

-- the values of a run, from its place on
pub run_values : (runs : List (Run Attached)) (k place : ℕ) (run : Run Attached) → slice_get runs k ≡ Some run →
    place ≡ total_len (take k runs) → slice_range (expanded runs) place (place + run.count) ≡ replicate run.count
    run.value
run_values runs k place run is begins =
    subst (λ (n : ℕ). slice_range (expanded runs) n (n + run.count) ≡ replicate run.count run.value) (sym begins)
    (range_of_run runs k run is)

-- the items of a run have maps of their groups
pub run_maps : (text : List Item) (units : List ℕ) (chps : List Properties) (runs : List (Run Attached)) (k place : ℕ)
    (run : Run Attached) → All IsFormedItem text → items_of units chps (expanded runs) ≡ text →
    slice_get runs k ≡ Some run → place ≡ total_len (take k runs) → HasMapsWith units chps place run
run_maps text units chps runs k place run formed whole is begins at unit chp from until unit_there chp_there =
    let left : ℕ = at - place in
    let inside : left < run.count = omega (arith, from, until) in
    let here : total_len (take k runs) + left ≡ at = omega (arith, from, begins) in
    let attached_there : slice_get (expanded runs) at ≡ Some run.value =
    subst (λ (n : ℕ). slice_get (expanded runs) n ≡ Some run.value) here (value_in_run runs k left run is inside) in
    let there : slice_get text at ≡ Some (item_of unit chp run.value) =
    subst (λ (items : List Item). slice_get items at ≡ Some (item_of unit chp run.value)) whole
    (item_at units chps (expanded runs) at unit chp run.value unit_there chp_there attached_there) in
    (All_at IsFormedItem text at (item_of unit chp run.value) formed there).maps

-- ---- an item more

-- a range with the entry behind it
next_range : {A : Type 0} (xs : List A) (from at : ℕ) (x : A) → from ≤ at → slice_get xs at ≡ Some x →
    slice_range xs from (at + 1) ≡ slice_range xs from at ++ x ∷ []
next_range {A = A} xs from at x le there =
    between_more xs from at x le (slice_get_within xs at x there)
    ∙ ap (λ (y : A). slice_range xs from at ++ y ∷ []) (get_or_from_slice_get xs at x x there)

-- the items so far, and the one at the next place
pub one_put : (units : List ℕ) (chps : List Properties) (place at unit : ℕ) (chp : Properties) (attached : Attached)
    (before items new : List Item) (item : Item) → place ≤ at → length chps ≡ length units →
    slice_get units at ≡ Some unit → slice_get chps at ≡ Some chp
    → items ≡ before ++ items_of (slice_range units place at) (slice_range chps place at)
    (replicate (at - place) attached) → new ≡ items ++ item ∷ [] → item ≡ item_of unit chp attached
    → new ≡ before ++ items_of (slice_range units place (at + 1)) (slice_range chps place (at + 1))
    (replicate (at + 1 - place) attached)
one_put units chps place at unit chp attached before items new item le long unit_there chp_there so_far put is =
    let us = slice_range units place at in
    let cs = slice_range chps place at in
    let bs = replicate (at - place) attached in
    let within = slice_get_within units at unit unit_there in
    let us_long : length us ≡ at - place = length-between units place at (omega arith) in
    let cs_long : length cs ≡ length us = length-between chps place at (omega (arith, long)) ∙ sym us_long in
    let bs_long : length bs ≡ length us = length-replicate (at - place) attached ∙ sym us_long in
    let count : at + 1 - place ≡ at - place + 1 = omega arith in
    let more : replicate (at + 1 - place) attached ≡ bs ++ attached ∷ [] =
    ap (λ (n : ℕ). replicate n attached) count ∙ replicate_next (at - place) attached in
    let next : items_of (slice_range units place (at + 1)) (slice_range chps place (at + 1))
    (replicate (at + 1 - place) attached) ≡ items_of us cs bs ++ item_of unit chp attached ∷ [] =
    let columns : items_of (slice_range units place (at + 1)) (slice_range chps place (at + 1))
    (replicate (at + 1 - place) attached) ≡ items_of (us ++ unit ∷ []) (cs ++ chp ∷ []) (bs ++ attached ∷ []) =
    rw (next_range units place at unit le unit_there, next_range chps place at chp le chp_there, more) refl in
    columns ∙ items_of-append us cs bs (unit ∷ []) (chp ∷ []) (attached ∷ []) cs_long bs_long in
    put
    ∙ ap (λ (some : List Item). some ++ item ∷ []) so_far
    ∙ append_assoc before (items_of us cs bs) (item ∷ [])
    ∙ ap (λ (x : Item). before ++ (items_of us cs bs ++ x ∷ [])) is
    ∙ ap (λ (some : List Item). before ++ some) (sym next)
