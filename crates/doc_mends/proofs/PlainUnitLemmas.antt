-- The units of a text in which rows become paragraphs.
use Rattle.std.proofs.Common.{◌≡◌, ◌∙◌, ap, sym, refl, subst, ℕ, ◌+◌, ◌-◌, ◌<◌, ◌≤◌, ◌==◌, Bool, true, false}
use Rattle.std.proofs.Common.{◌&&◌, ◌||◌, List, [], ◌∷◌, ◌++◌, length, map, take, drop, arith, inl, inr}
use Rattle.std.proofs.Common.{Option, Some, None, slice_get}
use Rattle.std.specs.Prelude.{nat_le, nat_lt, slice_range, if◌then◌else◌}
use Rattle.std.specs.List.{list_any}
use Rattle.std.proofs.lemmas.Bool.{cases_lt, le-leb, le-ltb, lt-leb, lt-ltb}
use Rattle.std.proofs.lemmas.List.{drop-drop, length-map, length-take-le, take-append-drop}
use Rattle.std.proofs.lemmas.List.Edits.{length-between}
use Rattle.std.proofs.lemmas.List.Elements.{All-head, All-tail}
use Rattle.doc_bits.specs.declared.places.Story.{Story}
use Rattle.doc_bits.specs.declared.places.Story.TheVariants.{Main}
use Rattle.doc_bits.proofs.Public.{from_behind, get-map, slice_get_before}
use Rattle.style_sheet.specs.Sheet.{Sheet}
use Rattle.text_codes.specs.Paragraph.{paragraph_mark, cell_mark}
use Rattle.doc_model.specs.declared.item.Item.{Item}
use Rattle.doc_patch.specs.Changes.{map_range}
use Rattle.doc_mends.specs.declared.mends.BrokenRow.{BrokenRow}
use Rattle.doc_mends.specs.NormalMarks.{normal_item, normal_text}
use Rattle.doc_mends.specs.BrokenRows.{open_length, cells_of_row, fits_behind, mark_length, broken_row_at}
use Rattle.doc_mends.specs.BrokenRows.{text_broken_rows}
use Rattle.doc_mends.specs.PlainRows.{plain_unit, plain_item, row_plain, rows_plain, plain_text}
use Rattle.doc_mends.proofs.GroupLemmas.{listed_same, passes}
use Rattle.doc_mends.proofs.RowLemmas.{rows_within}
use Rattle.doc_mends.proofs.TableLemmas.{AreWithin, plain_length, row_length}

abbrev pub units : List Item → List ℕ
units text = map (λ item. item.unit) text

-- ---- a range that is changed

pub in_three : {A : Type 0} (xs : List A) (from to : ℕ) → from ≤ to →
    xs ≡ take from xs ++ (slice_range xs from to ++ drop to xs)
in_three {A = A} xs from to ordered =
    let end : from + (to - from) ≡ to = omega (arith, ordered) in
    let last : drop (to - from) (drop from xs) ≡ drop to xs =
    drop-drop (to - from) from xs ∙ ap (λ (n : ℕ). drop n xs) end in
    sym (take-append-drop from xs)
    ∙ ap (λ (l : List A). take from xs ++ l)
    (sym (take-append-drop (to - from) (drop from xs))
    ∙ ap (λ (l : List A). slice_range xs from to ++ l) last)

abbrev pub is_within : ℕ → ℕ → ℕ → Bool
is_within from to at = nat_le from at && nat_lt at to

before_it : (from to at : ℕ) → at < from → is_within from to at ≡ false
before_it from to at low = ap (λ (b : Bool). b && nat_lt at to) (lt-leb from at low)

inside_it : (from to at : ℕ) → from ≤ at → at < to → is_within from to at ≡ true
inside_it from to at low high = ap (λ (b : Bool). b && nat_lt at to) (le-leb from at low) ∙ lt-ltb at to high

behind_it : (from to at : ℕ) → from ≤ at → to ≤ at → is_within from to at ≡ false
behind_it from to at low past = ap (λ (b : Bool). b && nat_lt at to) (le-leb from at low) ∙ le-ltb at to past

if_so : {A : Type 0} (b : Bool) (x y : A) → b ≡ true → x ≡ (if b then x else y)
if_so true x y is = refl
if_so false x y is = absurd (cc is)

if_not : {A : Type 0} (b : Bool) (x y : A) → b ≡ false → y ≡ (if b then x else y)
if_not true x y is = absurd (cc is)
if_not false x y is = refl

pub range_place : {A : Type 0} (f : A → A) (xs : List A) (from to at : ℕ) (x : A) → from ≤ to → to ≤ length xs →
    slice_get xs at ≡ Some x →
    slice_get (map_range f xs from to) at ≡ Some (if is_within from to at then f x else x)
range_place {A = A} f xs from to at x ordered within here =
    let front : List A = take from xs in
    let middle : List A = slice_range xs from to in
    let rest : List A = drop to xs in
    let whole : xs ≡ front ++ (middle ++ rest) = in_three xs from to ordered in
    let front_long : length front ≡ from = length-take-le from xs (omega (arith, ordered, within)) in
    let long : length middle ≡ to - from = length-between xs from to within in
    let made_long : length (map f middle) ≡ to - from = length-map middle f ∙ long in
    elim (cases_lt at from) [
      | inl low ↦
          slice_get_before front (map f middle ++ rest) at (omega (arith, low, front_long))
          ∙ (sym (slice_get_before front (middle ++ rest) at (omega (arith, low, front_long)))
          ∙ (sym (ap (λ (l : List A). slice_get l at) whole)
          ∙ (here ∙ ap (λ (y : A). Some y) (if_not (is_within from to at) (f x) x (before_it from to at low)))))
      | inr high ↦
          let k : ℕ = at - from in
          let turned : length front + k ≡ at = omega (arith, high, front_long) in
          let behind : slice_get (middle ++ rest) k ≡ Some x =
          sym (from_behind front (middle ++ rest) k)
          ∙ (ap (slice_get (front ++ (middle ++ rest))) turned
          ∙ (sym (ap (λ (l : List A). slice_get l at) whole) ∙ here)) in
          let made : slice_get (front ++ (map f middle ++ rest)) at ≡ slice_get (map f middle ++ rest) k =
          sym (ap (slice_get (front ++ (map f middle ++ rest))) turned) ∙ from_behind front (map f middle ++ rest) k in
          elim (cases_lt at to) [
            | inl inside ↦
                let low : k < to - from = omega (arith, inside, high) in
                let mid : slice_get middle k ≡ Some x =
                sym (slice_get_before middle rest k (omega (arith, low, long))) ∙ behind in
                made
                ∙ (slice_get_before (map f middle) rest k (omega (arith, low, made_long))
                ∙ (get-map f middle k x mid
                ∙ ap (λ (y : A). Some y)
                (if_so (is_within from to at) (f x) x (inside_it from to at high inside))))
            | inr past ↦
                let j : ℕ = at - to in
                let one : length middle + j ≡ k = omega (arith, past, ordered, long) in
                let two : length (map f middle) + j ≡ k = omega (arith, past, ordered, made_long) in
                let last : slice_get rest j ≡ Some x =
                sym (from_behind middle rest j) ∙ (ap (slice_get (middle ++ rest)) one ∙ behind) in
                made
                ∙ (sym (ap (slice_get (map f middle ++ rest)) two)
                ∙ (from_behind (map f middle) rest j
                ∙ (last
                ∙ ap (λ (y : A). Some y)
                (if_not (is_within from to at) (f x) x (behind_it from to at high past)))))
          ]
    ]

-- ---- rows that become paragraphs

abbrev pub covers : ℕ → BrokenRow → Bool
covers at row = is_within row.from (row.from + row.len) at

plain_by : (b : Bool) (unit : ℕ) → (unit == cell_mark) ≡ b →
    plain_unit (if b then paragraph_mark else unit) ≡ (if b then paragraph_mark else unit)
plain_by true unit is = refl
plain_by false unit is = ap (λ (b : Bool). if b then paragraph_mark else unit) is

plain_twice : (unit : ℕ) → plain_unit (plain_unit unit) ≡ plain_unit unit
plain_twice unit = plain_by (unit == cell_mark) unit refl

plain_either : (first later : Bool) (item : Item) →
    (if later then plain_unit (if first then plain_item item else item).unit
    else (if first then plain_item item else item).unit)
    ≡ (if (first || later) then plain_unit item.unit else item.unit)
plain_either true true item = plain_twice item.unit
plain_either true false item = refl
plain_either false true item = refl
plain_either false false item = refl

-- the item at a place, which has this unit
abbrev pub HasUnitAt : List Item → ℕ → ℕ → Type 0
HasUnitAt text at unit = (item : Item) × ((slice_get text at ≡ Some item) × (item.unit ≡ unit))

rows_place : (rows : List BrokenRow) (text : List Item) (at : ℕ) (item : Item) → AreWithin rows (length text) →
    slice_get text at ≡ Some item →
    HasUnitAt (rows_plain rows text) at (if list_any (covers at) rows then plain_unit item.unit else item.unit)
rows_place [] text at item within here = (item, (here, refl))
rows_place (row ∷ rows) text at item within here =
    let low : row.from + row.len ≤ length text =
    All-head (λ (r : BrokenRow). r.from + r.len ≤ length text) row rows within in
    let same : length (row_plain text row) ≡ length text = row_length text row low in
    let others : AreWithin rows (length (row_plain text row)) =
    subst (AreWithin rows) (sym same) (All-tail (λ (r : BrokenRow). r.from + r.len ≤ length text) row rows within) in
    let next : Item = if covers at row then plain_item item else item in
    let rest = rows_place rows (row_plain text row) at next others
    (range_place plain_item text row.from (row.from + row.len) at item (omega arith) low here) in
    (rest.0, (rest.1.0, rest.1.1 ∙ plain_either (covers at row) (list_any (covers at) rows) item))

-- under any name the same rows are broken
covered_by : (fits : Bool) (at : ℕ) (row other : BrokenRow) → row.from ≡ other.from → row.len ≡ other.len →
    passes (covers at) (if fits then None else Some row) ≡ passes (covers at) (if fits then None else Some other)
covered_by true at row other from len = refl
covered_by false at row other from len =
    ap (λ (n : ℕ). is_within n (n + row.len) at) from ∙ ap (λ (n : ℕ). is_within other.from (other.from + n) at) len

covered_same : (story other : Story) (text : List Item) (at : ℕ) →
    list_any (covers at) (text_broken_rows story text) ≡ list_any (covers at) (text_broken_rows other text)
covered_same story other text at =
    listed_same (covers at) (covers at) (broken_row_at story text) (broken_row_at other text) (length text + 1)
    (λ k.
    let len : ℕ = open_length (take k text) in
    let cells : ℕ = cells_of_row (take k text) in
    let behind : Option Item = slice_get text k in
    let more : ℕ = len + mark_length behind in
    covered_by (fits_behind cells behind) at
    (record { story = story; from = k - len; len = more; cells = cells })
    (record { story = other; from = k - len; len = more; cells = cells }) refl refl)

-- the text in which marks have style 0, and then broken rows are paragraphs
abbrev pub placed_text : Sheet → List Item → List Item
placed_text sheet text = plain_text (normal_text sheet text)

pub placed_length : (sheet : Sheet) (text : List Item) → length (placed_text sheet text) ≡ length text
placed_length sheet text = plain_length (normal_text sheet text) ∙ length-map text (normal_item sheet)

pub placed_unit : (sheet : Sheet) (story : Story) (text : List Item) (at : ℕ) (item : Item) →
    slice_get text at ≡ Some item →
    HasUnitAt (placed_text sheet text) at
    (if list_any (covers at) (text_broken_rows story (normal_text sheet text)) then plain_unit item.unit else item.unit)
placed_unit sheet story text at item here =
    let normal : List Item = normal_text sheet text in
    let is = rows_place (text_broken_rows Main normal) normal at (normal_item sheet item) (rows_within Main normal)
    (get-map (normal_item sheet) text at item here) in (
      is.0,
      (
        is.1.0,
        is.1.1
            ∙ ap (λ (b : Bool). if b then plain_unit item.unit else item.unit) (covered_same Main story normal at),
      ),
    )
