-- Windows of whole columns, and their items.
use Rattle.std.proofs.Common.{◌≡◌, ◌∙◌, ℕ, refl, sym, ap, subst, ◌+◌, ◌-◌, ◌≤◌, List, [], ◌∷◌, ◌++◌, length, take}
use Rattle.std.proofs.Common.{drop, map, arith, append_assoc}
use Rattle.std.specs.Prelude.{slice_range, replicate}
use Rattle.std.proofs.lemmas.List.{append-nil, replicate-append-replicate, take_all, take-take, drop-take}
use Rattle.std.proofs.lemmas.List.Edits.{length-between}
use Rattle.prop_map.specs.Settings.{Properties}
use Rattle.run_lists.specs.declared.runs.Run.{Run}
use Rattle.run_lists.specs.Spread.{expanded, total_len}
use Rattle.run_lists.specs.Places.{IsAtRunBegin}
use Rattle.run_lists.proofs.Public.{extent-take, length-spread, spread_push, spread-take, spread-drop}
use Rattle.doc_model.specs.declared.item.Item.{Item}
use Rattle.doc_columns.specs.declared.attached.Attached.{Attached}
use Rattle.doc_columns.specs.declared.window.Whole.{Whole}
use Rattle.doc_columns.specs.declared.window.Span.{Span}
use Rattle.doc_columns.specs.declared.window.Spans.{Spans}
use Rattle.doc_columns.specs.declared.walk.Parts.{Parts}
use Rattle.doc_columns.specs.declared.walk.Walk.{Walk}
use Rattle.doc_model.specs.Document.{IsFormedText}
use Rattle.doc_columns.specs.Attached.{attached_of}
use Rattle.doc_columns.specs.Columns.{items_of, AreColumns}
use Rattle.doc_columns.specs.Walks.{items_in, AreFullParts, IsColumnWalk}
use Rattle.doc_columns.specs.Windows.{in_span, column_items, window_items, AreWhole, IsSpanOf, IsWindow}
use Rattle.doc_columns.specs.Windows.{IsWalkOver, IsWalkBefore}
use Rattle.doc_columns.proofs.ItemsOfLemmas.{text_long, units-items_of, chps-items_of, attachments-items_of}
use Rattle.doc_columns.proofs.ChangesLemmas.{range_are, range_columns}
use Rattle.doc_columns.proofs.WalkLemmas.{long_chps, long_attachments}

-- a range is the rest of a front
rest_of_front : {A : Type 0} (xs : List A) (from to : ℕ) → from ≤ to →
    slice_range xs from to ≡ drop from (take to xs)
rest_of_front xs from to ordered =
    let end : from + (to - from) ≡ to = omega (arith, ordered) in
    sym (drop-take from (to - from) xs) ∙ ap (λ (n : ℕ). drop from (take n xs)) end

-- runs from one place to another are the values between these
pub spread-range : {T : Type 0} (runs : List (Run T)) (first end from to : ℕ) → first ≤ end →
    total_len (take first runs) ≡ from → total_len (take end runs) ≡ to →
    expanded (slice_range runs first end) ≡ slice_range (expanded runs) from to
spread-range {T = T} runs first end from to ordered begins ends =
    let front : take first (take end runs) ≡ take first runs = take-take first end runs ordered in
    let begins_front : total_len (take first (take end runs)) ≡ from = ap total_len front ∙ begins in
    let less : from ≤ to = omega (arith, extent-take (take end runs) first, begins_front, ends) in
    ap expanded (rest_of_front runs first end ordered)
    ∙ spread-drop (take end runs) first from begins_front
    ∙ ap (drop from) (spread-take runs end to ends)
    ∙ sym (rest_of_front (expanded runs) from to less)

-- a place within the items is within each column
pub record IsWithin (whole : Whole) (place : ℕ) : Type 0 where
  pub units : place ≤ length whole.units.items
  pub chps : place ≤ total_len whole.chps.items
  pub attachments : place ≤ total_len whole.attachments.items

pub within_columns : (whole : Whole) (place : ℕ) → AreWhole whole → place ≤ length (column_items whole) →
    IsWithin whole place
within_columns whole place are within =
    let long = text_long whole.units.items (expanded whole.chps.items) (expanded whole.attachments.items) (column_items
    whole)
    are refl in
    record {
      units = omega (arith, long, within);
      chps = omega (arith, long, within, length-spread whole.chps.items, are.chps_long);
      attachments = omega (arith, long, within, length-spread whole.attachments.items, are.attachments_long);
    }

-- a window of columns, and the items that it has
pub record IsWindowOf (whole : Whole) (spans : Spans) (from to : ℕ) : Type 0 where
  pub window : IsWindow whole spans
  pub items : window_items whole spans ≡ slice_range (column_items whole) from to

-- spans of runs that begin and end at the places of the units are a window
pub window_of : (whole : Whole) (from to : ℕ) (chps attachments : Span) → AreWhole whole → from ≤ to →
    to ≤ length whole.units.items → IsSpanOf whole.chps.items from to chps →
    IsSpanOf whole.attachments.items from to attachments →
    IsWindowOf whole (record { units = record { from = from; to = to }; chps = chps; attachments = attachments }) from
    to
window_of whole from to chps attachments are ordered within chps_is attachments_is =
    let us = whole.units.items in
    let cs = expanded whole.chps.items in
    let bs = expanded whole.attachments.items in
    let some_chps = expanded (in_span whole.chps.items chps) in
    let some_attachments = expanded (in_span whole.attachments.items attachments) in
    let chps_range : some_chps ≡ slice_range cs from to =
    spread-range whole.chps.items chps.from chps.to from to chps_is.is_span.ordered chps_is.begins chps_is.ends in
    let attachments_range : some_attachments ≡ slice_range bs from to =
    spread-range whole.attachments.items attachments.from attachments.to from to attachments_is.is_span.ordered
    attachments_is.begins
    attachments_is.ends in
    record {
      window =
          record {
            units_in = record { ordered = ordered; within = within };
            chps_in = chps_is.is_span;
            attachments_in = attachments_is.is_span;
            are =
                range_are us cs bs (slice_range us from to) some_chps some_attachments from to are ordered within refl
                chps_range attachments_range;
          };
      items =
          range_columns us cs bs (slice_range us from to) some_chps some_attachments (column_items whole) from to refl
          chps_range attachments_range refl;
    }

-- ---- what a window shows

pub window_units : (whole : Whole) (spans : Spans) (text : List Item) (units : List ℕ) → IsWindow whole spans →
    window_items whole spans ≡ text → units ≡ in_span whole.units.items spans.units
    → units ≡ map (λ item. item.unit) text
window_units whole spans text units is seen own =
    own
    ∙ sym (units-items_of (in_span whole.units.items spans.units) (expanded (in_span whole.chps.items spans.chps))
    (expanded (in_span whole.attachments.items spans.attachments)) is.are.chps_long is.are.attachments_long)
    ∙ ap (map (λ (item : Item). item.unit)) seen

pub window_chps : (whole : Whole) (spans : Spans) (text : List Item) (runs : List (Run Properties)) →
    IsWindow whole spans → window_items whole spans ≡ text → runs ≡ in_span whole.chps.items spans.chps
    → expanded runs ≡ map (λ item. item.chp) text
window_chps whole spans text runs is seen own =
    ap expanded own
    ∙ sym (chps-items_of (in_span whole.units.items spans.units) (expanded (in_span whole.chps.items spans.chps))
    (expanded (in_span whole.attachments.items spans.attachments)) is.are.chps_long is.are.attachments_long)
    ∙ ap (map (λ (item : Item). item.chp)) seen

pub window_attachments : (whole : Whole) (spans : Spans) (text : List Item) (runs : List (Run Attached)) →
    IsWindow whole spans → window_items whole spans ≡ text → runs ≡ in_span whole.attachments.items spans.attachments
    → expanded runs ≡ map attached_of text
window_attachments whole spans text runs is seen own =
    ap expanded own
    ∙ sym (attachments-items_of (in_span whole.units.items spans.units) (expanded (in_span whole.chps.items spans.chps))
    (expanded (in_span whole.attachments.items spans.attachments)) is.are.chps_long is.are.attachments_long)
    ∙ ap (map attached_of) seen

pub window_long : (whole : Whole) (spans : Spans) (text : List Item) → IsWindow whole spans →
    window_items whole spans ≡ text → spans.units.to - spans.units.from ≡ length text
window_long whole spans text is seen =
    sym (length-between whole.units.items spans.units.from spans.units.to is.units_in.within)
    ∙ text_long (in_span whole.units.items spans.units) (expanded (in_span whole.chps.items spans.chps))
    (expanded (in_span whole.attachments.items spans.attachments)) text is.are seen

-- ---- ranges

-- the range of all
pub whole_range : {A : Type 0} (xs : List A) (from to : ℕ) → from ≡ 0 → to ≡ length xs → slice_range xs from to ≡ xs
whole_range xs from to start end =
    let all : to - 0 ≡ to = omega arith in
    ap (λ (n : ℕ). slice_range xs n to) start
    ∙ ap (λ (n : ℕ). take n xs) all
    ∙ take_all to xs (omega (arith, end))

-- parts of a text whose items are formed are columns
pub columns_of_parts : (parts : Parts) → AreFullParts parts → IsFormedText (items_in parts) →
    AreColumns parts.units.now (expanded parts.chps.now) (expanded parts.attachments.now)
columns_of_parts parts are formed =
    record { chps_long = long_chps parts are; attachments_long = long_attachments parts are; formed = formed }

-- ---- runs that are put behind others

-- no values more
pub rows_none : {T : Type 0} (rows : List (Run T)) (value : T) (count : ℕ) → count ≡ 0 →
    expanded rows ≡ expanded rows ++ replicate count value
rows_none {T = T} rows value count none =
    sym (append-nil (expanded rows)) ∙ ap (λ (n : ℕ). expanded rows ++ replicate n value) (sym none)

-- a part of a run behind the parts before it
pub rows_more : {T : Type 0} (old rows new : List (Run T)) (value copy : T) (count before all : ℕ) →
    new ≡ rows ++ record { count = count; value = copy } ∷ [] → copy ≡ value →
    expanded rows ≡ expanded old ++ replicate before value → before + count ≡ all
    → expanded new ≡ expanded old ++ replicate all value
rows_more {T = T} old rows new value copy count before all put same so_far sum =
    ap expanded put
    ∙ spread_push rows (record { count = count; value = copy })
    ∙ ap (λ (t : List T). t ++ replicate count copy) so_far
    ∙ ap (λ (x : T). (expanded old ++ replicate before value) ++ replicate count x) same
    ∙ append_assoc (expanded old) (replicate before value) (replicate count value)
    ∙ ap (λ (t : List T). expanded old ++ t) (replicate-append-replicate before count value)
    ∙ ap (λ (n : ℕ). expanded old ++ replicate n value) sum

-- all of them
pub rows_all : {T : Type 0} (old rows : List (Run T)) (value : T) (before all : ℕ) → before ≡ all →
    expanded rows ≡ expanded old ++ replicate before value → expanded rows ≡ expanded old ++ replicate all value
rows_all {T = T} old rows value before all is so_far =
    so_far ∙ ap (λ (n : ℕ). expanded old ++ replicate n value) is

-- ---- parts of whole columns

-- the parts are the columns of the whole
pub record ArePartsOf (whole : Whole) (parts : Parts) : Type 0 where
  pub units : parts.units.now ≡ whole.units.items
  pub chps : parts.chps.now ≡ whole.chps.items
  pub attachments : parts.attachments.now ≡ whole.attachments.items

pub same_items : (whole : Whole) (parts : Parts) → ArePartsOf whole parts → items_in parts ≡ column_items whole
same_items whole parts are = λ i. items_of (are.units i) (expanded (are.chps i)) (expanded (are.attachments i))

pub parts_long : (whole : Whole) (parts : Parts) → ArePartsOf whole parts → AreWhole whole → AreFullParts parts
parts_long whole parts are whole_is =
    let long = text_long whole.units.items (expanded whole.chps.items) (expanded whole.attachments.items) (column_items
    whole)
    whole_is refl in
    record {
      chps_long =
          omega (
            arith,
            ap total_len are.chps,
            ap length are.units,
            length-spread whole.chps.items,
            whole_is.chps_long,
          );
      attachments_long =
          omega (
            arith,
            ap total_len are.attachments,
            ap length are.units,
            length-spread whole.attachments.items,
            whole_is.attachments_long,
          );
      few = omega (arith, ap length are.units, long, whole_is.formed.few);
    }

-- a walk over the columns is one over the parts
pub walk_of_parts : (whole : Whole) (parts : Parts) (walk : Walk) (place : ℕ) → ArePartsOf whole parts →
    IsWalkOver whole walk → IsWalkBefore walk place → IsColumnWalk parts walk place
walk_of_parts whole parts walk place are over before = record {
  at_chps = subst (λ (runs : List (Run Properties)). IsAtRunBegin runs walk.chps) (sym are.chps) over.at_chps;
  chps_ahead = before.chps_ahead;
  at_attachments = subst (λ (runs : List (Run Attached)). IsAtRunBegin runs walk.attachments) (sym are.attachments)
      over.at_attachments;
  attachments_ahead = before.attachments_ahead;
}
