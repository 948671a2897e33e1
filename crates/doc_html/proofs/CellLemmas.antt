-- How far the cells of a text reach, paragraph by paragraph.
use Rattle.std.proofs.Common.{◌≡◌, ◌∙◌, ℕ, ◌+◌, ◌-◌, ◌<◌, ◌≤◌, Bool, List, [], ◌∷◌, ◌++◌, length, drop, Option, Some}
use Rattle.std.proofs.Common.{sym}
use Rattle.std.proofs.Common.{ap, subst, arith, append_assoc, refl}
use Rattle.std.specs.Prelude.{slice_get, slice_range}
use Rattle.std.proofs.Math.ListN.{drop_of_length-le}
use Rattle.std.proofs.lemmas.Option.{same_Some}
use Rattle.doc_bits.proofs.Public.{there_is}
use Rattle.run_lists.specs.Spread.{expanded}
use Rattle.doc_model.specs.declared.item.Item.{Item}
use Rattle.doc_model.specs.declared.item.Mark.{Mark}
use Rattle.doc_model.specs.Settings.{is_inside}
use Rattle.doc_model.specs.Stretches.{stretches}
use Rattle.doc_model.proofs.Public.{stretches-nil}
use Rattle.doc_columns.specs.Attached.{attached_of}
use Rattle.doc_columns.specs.declared.attached.Attached.{Attached}
use Rattle.doc_columns.specs.declared.walk.Parts.{Parts}
use Rattle.doc_columns.specs.Walks.{items_in, AreFullParts}
use Rattle.doc_columns.proofs.Public.{attached_there, items_long, part_at, range_got, range_long, units_are}
use Rattle.cell_spans.specs.declared.tables.Tables.{Tables}
use Rattle.doc_view.specs.Seen.{standing_of}
use Rattle.nested_tables.specs.declared.depths.Depth.{Depth}
use Rattle.doc_places.specs.Cells.{definition_in, depth_by, depth_ending, depths_from, tables_behind, tables_by}
use Rattle.doc_places.specs.Cells.{tables_from}

-- the last item of a paragraph has this unit and this mark
last_is : {B : Type 0} (f : Option Item → B) (g : ℕ → Option Mark → B) → ((item : Item) → f (Some item) ≡ g item.unit
    item.mark) → (parts : Parts) → AreFullParts parts → (from to unit : ℕ) (attached : Attached) → from < to →
    to ≤ length parts.units.now → slice_get parts.units.now (to - 1) ≡ Some unit →
    slice_get (expanded parts.attachments.now) (to - 1) ≡ Some attached →
    f (slice_get (slice_range (items_in parts) from to) (length (slice_range (items_in parts) from to) - 1))
    ≡ g unit attached.mark
last_is f g each parts are from to unit attached some within unit_is last =
    let items = items_in parts in
    let part = slice_range items from to in
    let long : length part ≡ to - from = range_long items from to (omega (arith, items_long parts are, within)) in
    let one = there_is part (length part - 1) (omega (arith, long, some)) in
    let place : from + (length part - 1) ≡ to - 1 = omega (arith, long, some) in
    let here : slice_get items (to - 1) ≡ Some one.0 =
    subst (λ n. slice_get items n ≡ Some one.0) place (range_got items from to (length part - 1) one.0 one.1) in
    let same : attached_of one.0 ≡ attached =
    same_Some (attached_of one.0) attached (sym (attached_there parts are (to - 1) one.0 here) ∙ last) in
    let unit_same : one.0.unit ≡ unit =
    part_at (λ (item : Item). item.unit) items parts.units.now (to - 1) one.0 unit (units_are parts are) here unit_is in
    ap f one.1 ∙ each one.0 ∙ (λ i. g (unit_same i) (same i).mark)

behind_last : (parts : Parts) → AreFullParts parts → (from to unit : ℕ) (attached : Attached) → from < to →
    to ≤ length parts.units.now → slice_get parts.units.now (to - 1) ≡ Some unit →
    slice_get (expanded parts.attachments.now) (to - 1) ≡ Some attached → (tables : Tables) (is_mark : Bool) →
    tables_behind tables is_mark (slice_get (slice_range (items_in parts) from to) (length (slice_range (items_in parts)
    from to) - 1)) ≡ tables_by tables (standing_of unit attached.mark) is_mark (definition_in attached.mark)
behind_last parts are from to unit attached some within unit_is last tables is_mark =
    last_is (tables_behind tables is_mark) (λ (u : ℕ) (mark : Option Mark). tables_by tables (standing_of u mark) is_mark
    (definition_in mark)) (λ item. refl) parts are from to unit attached some within unit_is last

depth_last : (parts : Parts) → AreFullParts parts → (from to unit : ℕ) (attached : Attached) → from < to →
    to ≤ length parts.units.now → slice_get parts.units.now (to - 1) ≡ Some unit →
    slice_get (expanded parts.attachments.now) (to - 1) ≡ Some attached → (is_mark : Bool) →
    depth_ending is_mark (slice_get (slice_range (items_in parts) from to) (length (slice_range (items_in parts) from to)
    - 1)) ≡ depth_by (standing_of unit attached.mark) attached.mark is_mark
depth_last parts are from to unit attached some within unit_is last is_mark =
    last_is (depth_ending is_mark) (λ (u : ℕ) (mark : Option Mark). depth_by (standing_of u mark) mark is_mark) (λ item.
    refl) parts are from to unit attached some within unit_is last

-- one paragraph more
pub tables_on : (is_mark : ℕ → ℕ → ℕ → Bool) (number : ℕ) (parts : Parts) → AreFullParts parts → (from to unit : ℕ)
    (attached : Attached) → from < to → to ≤ length parts.units.now →
    stretches is_inside (drop from (items_in parts)) ≡ slice_range (items_in parts) from to ∷ stretches is_inside (drop
    to (items_in parts)) → slice_get parts.units.now (to - 1) ≡ Some unit →
    slice_get (expanded parts.attachments.now) (to - 1) ≡ Some attached → (tables next : Tables) (here : Bool) →
    here ≡ is_mark number from (to - from) → next ≡ tables_by tables (standing_of unit attached.mark) here (definition_in
    attached.mark) → tables_from is_mark (number + 1) to next (stretches is_inside (drop to (items_in parts)))
    ≡ tables_from is_mark number from tables (stretches is_inside (drop from (items_in parts)))
unfolding tables_from
tables_on is_mark number parts are from to unit attached some within begins unit_is last tables next here here_is
    next_is =
    let items = items_in parts in
    let part = slice_range items from to in
    let rest = stretches is_inside (drop to items) in
    let long : length part ≡ to - from = range_long items from to (omega (arith, items_long parts are, within)) in
    let end : to ≡ from + length part = omega (arith, long, some) in
    let is : next ≡ tables_behind tables (is_mark number from (length part)) (slice_get part (length part - 1)) =
    next_is ∙ sym (behind_last parts are from to unit attached some within unit_is last tables here)
    ∙ ap (λ (b : Bool). tables_behind tables b (slice_get part (length part - 1))) (here_is ∙ ap (is_mark number from)
    (sym long)) in
    (λ i. tables_from is_mark (number + 1) (end i) (is i) rest)
    ∙ ap (λ (all : List (List Item)). tables_from is_mark number from tables all) (sym begins)

-- where none is left
pub tables_end : (is_mark : ℕ → ℕ → ℕ → Bool) (number place : ℕ) (tables : Tables) (items : List Item) →
    length items ≤ place → tables_from is_mark number place tables (stretches is_inside (drop place items)) ≡ tables
unfolding tables_from
tables_end is_mark number place tables items past =
    ap (λ (xs : List Item). tables_from is_mark number place tables (stretches is_inside xs)) (drop_of_length-le items
    past) ∙ ap (tables_from is_mark number place tables) (stretches-nil is_inside)

-- ---- how deep paragraphs are

-- one more
pub depths_on : (is_mark : ℕ → ℕ → ℕ → Bool) (number : ℕ) (parts : Parts) → AreFullParts parts → (from to unit : ℕ)
    (attached : Attached) → from < to → to ≤ length parts.units.now →
    stretches is_inside (drop from (items_in parts)) ≡ slice_range (items_in parts) from to ∷ stretches is_inside (drop
    to (items_in parts)) → slice_get parts.units.now (to - 1) ≡ Some unit →
    slice_get (expanded parts.attachments.now) (to - 1) ≡ Some attached → (depths next : List Depth) (depth : Depth)
    (here : Bool) → here ≡ is_mark number from (to - from) → depth ≡ depth_by (standing_of unit attached.mark)
    attached.mark here → next ≡ depths ++ depth ∷ [] →
    next ++ depths_from is_mark (number + 1) to (stretches is_inside (drop to (items_in parts)))
    ≡ depths ++ depths_from is_mark number from (stretches is_inside (drop from (items_in parts)))
unfolding depths_from
depths_on is_mark number parts are from to unit attached some within begins unit_is last depths next depth here here_is
    depth_is next_is =
    let items = items_in parts in
    let part = slice_range items from to in
    let rest = stretches is_inside (drop to items) in
    let long : length part ≡ to - from = range_long items from to (omega (arith, items_long parts are, within)) in
    let end : to ≡ from + length part = omega (arith, long, some) in
    let more = depths_from is_mark (number + 1) (from + length part) rest in
    let is : depth ≡ depth_ending (is_mark number from (length part)) (slice_get part (length part - 1)) =
    depth_is ∙ sym (depth_last parts are from to unit attached some within unit_is last here)
    ∙ ap (λ (b : Bool). depth_ending b (slice_get part (length part - 1))) (here_is ∙ ap (is_mark number from) (sym
    long)) in
    (λ i. next_is i ++ depths_from is_mark (number + 1) (end i) rest)
    ∙ append_assoc depths (depth ∷ []) more
    ∙ (λ i. depths ++ (is i ∷ more))
    ∙ ap (λ (all : List (List Item)). depths ++ depths_from is_mark number from all) (sym begins)

-- where none is left
pub depths_end : (is_mark : ℕ → ℕ → ℕ → Bool) (number place : ℕ) (items : List Item) → length items ≤ place →
    depths_from is_mark number place (stretches is_inside (drop place items)) ≡ []
unfolding depths_from
depths_end is_mark number place items past =
    ap (λ (xs : List Item). depths_from is_mark number place (stretches is_inside xs)) (drop_of_length-le items past)
    ∙ ap (depths_from is_mark number place) (stretches-nil is_inside)
