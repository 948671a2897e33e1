-- Ranges that are struck in one pass: parts of the properties of a text, and its columns.
use Rattle.std.proofs.Common.{◌≡◌, ◌∙◌, ap, sym, refl, subst, ℕ, zero, suc, ◌+◌, ◌-◌, ◌<◌, ◌≤◌, Bool, true, false}
use Rattle.std.proofs.Common.{List, [], ◌∷◌, ◌++◌, length, map, take, drop, get_or, replicate, arith, append_assoc}
use Rattle.std.proofs.Common.{Option, Some, None, slice_get, slice_range}
use Rattle.std.specs.Prelude.{All, option_map}
use Rattle.std.specs.List.{take-map, drop-map}
use Rattle.std.specs.Option.{ForSome}
use Rattle.std.proofs.Math.Seq.{drop-append_seam}
use Rattle.std.proofs.lemmas.List.{length-map, length-append, length-replicate, map-append, map-id, take-append-drop}
use Rattle.std.proofs.lemmas.List.{take_at, drop-drop, append-nil}
use Rattle.std.proofs.lemmas.List.Edits.{length-between}
use Rattle.std.proofs.lemmas.List.Elements.{All-append, All-drop, All-head, All-map, All-tail, All-take, All-weaker}
use Rattle.std.proofs.lemmas.List.Sums.{fold_more}
use Rattle.std.proofs.lemmas.Option.{slice_get_within, get_or_from_slice_get}
use Rattle.doc_bits.proofs.Public.{range_mid, range_split}
use Rattle.prop_map.specs.Settings.{Properties}
use Rattle.prop_map.specs.Formed.{IsPropertyMap, character_groups, paragraph_groups}
use Rattle.prop_map.proofs.Public.{empty-overlay, overlay_formed}
use Rattle.doc_model.specs.declared.item.Item.{Item}
use Rattle.doc_model.specs.declared.item.Mark.{Mark}
use Rattle.doc_model.specs.Document.{HasPropertyMaps}
use Rattle.doc_columns.specs.declared.attached.Attached.{Attached}
use Rattle.doc_columns.specs.Attached.{attached_of}
use Rattle.doc_columns.specs.Columns.{items_of}
use Rattle.doc_columns.proofs.Public.{items_of-maps}
use Rattle.doc_patch.specs.Changes.{map_range, modified_item, modified_mark}
use Rattle.doc_mends.specs.declared.mends.DeletedRange.{DeletedRange}
use Rattle.doc_mends.specs.Mends.{strike, striking}
use Rattle.doc_mends.specs.Striking.{struck_chp, range_struck, chps_struck, items_struck, text_struck, IsRangeWithin}
use Rattle.doc_mends.specs.Striking.{part_value, part_values}
use Rattle.doc_mends.proofs.MendLemmas.{range_at, striking_formed}

-- ---- a part of the properties

all_one : {A : Type 0} (xs : List A) (x : A) → ((i : ℕ) → i < length xs → get_or xs i x ≡ x) →
    xs ≡ replicate (length xs) x
all_one [] x each = refl
all_one {A = A} (y ∷ xs) x each =
    ap (λ (z : A). z ∷ xs) (each zero (omega arith))
    ∙ ap (λ (t : List A). x ∷ t) (all_one xs x (λ i low. each (suc i) (omega (arith, low))))

-- places that have one value
same_range : (values : List Properties) (at end : ℕ) (chp : Properties) → end ≤ length values →
    ((k : ℕ) → at ≤ k → k < end → slice_get values k ≡ Some chp) →
    slice_range values at end ≡ replicate (end - at) chp
same_range values at end chp within same =
    let long : length (slice_range values at end) ≡ end - at = length-between values at end within in
    all_one (slice_range values at end) chp (λ i low.
    range_at values at end i chp (omega (arith, low, long))
    ∙ get_or_from_slice_get values (at + i) chp chp (same (at + i) (omega arith) (omega (arith, low, long))))
    ∙ ap (λ (n : ℕ). replicate n chp) long

map_replicate : (n : ℕ) (chp : Properties) → map struck_chp (replicate n chp) ≡ replicate n (struck_chp chp)
map_replicate zero chp = refl
map_replicate (suc n) chp = ap (λ (t : List Properties). struck_chp chp ∷ t) (map_replicate n chp)

part_values-append : (struck : Bool) (xs ys : List Properties) →
    part_values struck (xs ++ ys) ≡ part_values struck xs ++ part_values struck ys
part_values-append true xs ys = map-append struck_chp xs ys
part_values-append false xs ys = refl

part_values-replicate : (struck : Bool) (n : ℕ) (chp : Properties) →
    part_values struck (replicate n chp) ≡ replicate n (part_value struck chp)
part_values-replicate true n chp = map_replicate n chp
part_values-replicate false n chp = refl

length-part_values : (struck : Bool) (xs : List Properties) → length (part_values struck xs) ≡ length xs
length-part_values true xs = length-map xs struck_chp
length-part_values false xs = refl

no_values : (struck : Bool) → part_values struck [] ≡ []
no_values true = refl
no_values false = refl

-- the part is empty so far
pub part_none : (struck : Bool) (values old : List Properties) (from : ℕ) →
    old ≡ old ++ part_values struck (slice_range values from from)
part_none struck values old from =
    let none : from - from ≡ 0 = omega arith in
    sym (ap (λ (n : ℕ). old ++ part_values struck (take n (drop from values))) none
    ∙ (ap (λ (t : List Properties). old ++ t) (no_values struck) ∙ append-nil old))

pub part_long : (struck : Bool) (values old made : List Properties) (from at : ℕ) → from ≤ at → at ≤ length values →
    length old ≡ from → made ≡ old ++ part_values struck (slice_range values from at) → length made ≡ at
part_long struck values old made from at ordered within long is =
    let part = slice_range values from at in
    let all : length made ≡ length old + length (part_values struck part) =
    ap length is ∙ length-append old (part_values struck part) in
    omega (arith, all, length-part_values struck part, length-between values from at within, long, ordered)

-- it has some values more, which are equal
pub part_more : (struck : Bool) (values old made new : List Properties) (from at end : ℕ) (chp value : Properties) →
    from ≤ at → at ≤ end → end ≤ length values →
    ((k : ℕ) → at ≤ k → k < end → slice_get values k ≡ Some chp) →
    made ≡ old ++ part_values struck (slice_range values from at) → value ≡ part_value struck chp →
    new ≡ made ++ replicate (end - at) value → new ≡ old ++ part_values struck (slice_range values from end)
part_more struck values old made new from at end chp value low high within same so_far becomes put =
    let front = slice_range values from at in
    let part : part_values struck (slice_range values from end)
    ≡ part_values struck front ++ replicate (end - at) (part_value struck chp) =
    ap (part_values struck) (range_split values from at end low high)
    ∙ (part_values-append struck front (slice_range values at end)
    ∙ ap (λ (t : List Properties). part_values struck front ++ t)
    (ap (part_values struck) (same_range values at end chp within same)
    ∙ part_values-replicate struck (end - at) chp)) in
    put
    ∙ (ap (λ (t : List Properties). t ++ replicate (end - at) value) so_far
    ∙ (append_assoc old (part_values struck front) (replicate (end - at) value)
    ∙ (ap (λ (v : Properties). old ++ (part_values struck front ++ replicate (end - at) v)) becomes
    ∙ ap (λ (t : List Properties). old ++ t) (sym part))))

-- ---- a range of a list

drop_split : {A : Type 0} (xs : List A) (from to : ℕ) → from ≤ to → drop from xs ≡ slice_range xs from to ++ drop to xs
drop_split {A = A} xs from to ordered =
    let there : from + (to - from) ≡ to = omega (arith, ordered) in
    sym (take-append-drop (to - from) (drop from xs))
    ∙ ap (λ (t : List A). slice_range xs from to ++ t)
    (drop-drop (to - from) from xs ∙ ap (λ (n : ℕ). drop n xs) there)

-- the middle one of three parts is changed
map_mid : {A : Type 0} (f : A → A) (whole xs ys zs : List A) (from to : ℕ) → whole ≡ xs ++ (ys ++ zs) →
    from ≡ length xs → to ≡ length xs + length ys → map_range f whole from to ≡ xs ++ (map f ys ++ zs)
map_mid {A = A} f whole xs ys zs from to is begins ends =
    let front : take from whole ≡ xs = ap (take from) is ∙ take_at xs (ys ++ zs) from (sym begins) in
    let all : to ≡ length (xs ++ ys) = ends ∙ sym (length-append xs ys) in
    let back : drop to whole ≡ zs =
    ap (drop to) (is ∙ sym (append_assoc xs ys zs))
    ∙ (ap (λ (n : ℕ). drop n ((xs ++ ys) ++ zs)) all ∙ drop-append_seam (xs ++ ys) zs) in
    let mid : slice_range whole from to ≡ ys = range_mid whole xs ys zs from to is begins ends in
    ap (λ (t : List A). t ++ (map f (slice_range whole from to) ++ drop to whole)) front
    ∙ (ap (λ (t : List A). xs ++ (map f t ++ drop to whole)) mid
    ∙ ap (λ (t : List A). xs ++ (map f ys ++ t)) back)

-- what was made, with the rest behind it, once a range of the rest is changed
pub struck_more : (f : Properties → Properties) (values made : List Properties) (at from to : ℕ) → length made ≡ at →
    at ≤ from → from ≤ to → to ≤ length values →
    ((made ++ slice_range values at from) ++ map f (slice_range values from to)) ++ drop to values
    ≡ map_range f (made ++ drop at values) from to
struck_more f values made at from to long low high within =
    let kept = slice_range values at from in
    let mid = slice_range values from to in
    let rest = drop to values in
    let whole : made ++ drop at values ≡ (made ++ kept) ++ (mid ++ rest) =
    ap (λ (t : List Properties). made ++ t)
    (drop_split values at from low ∙ ap (λ (t : List Properties). kept ++ t) (drop_split values from to high))
    ∙ sym (append_assoc made kept (mid ++ rest)) in
    let kept_long : length kept ≡ from - at = length-between values at from (omega (arith, high, within)) in
    let mid_long : length mid ≡ to - from = length-between values from to within in
    let all = length-append made kept in
    append_assoc (made ++ kept) (map f mid) rest
    ∙ sym (map_mid f (made ++ drop at values) (made ++ kept) mid rest from to whole
    (omega (arith, all, kept_long, long, low)) (omega (arith, all, kept_long, mid_long, long, low, high)))

-- one range more
pub range_more : (ranges : List DeletedRange) (values : List Properties) (k : ℕ) (range : DeletedRange) →
    slice_get ranges k ≡ Some range →
    chps_struck (take (k + 1) ranges) values ≡ range_struck (chps_struck (take k ranges) values) range
range_more ranges values k range is =
    fold_more range_struck values ranges k range (slice_get_within ranges k range is)
    ∙ ap (range_struck (chps_struck (take k ranges) values)) (get_or_from_slice_get ranges k range range is)

-- ---- a column of a text

turned : {A B : Type 0} (h : A → B) (f : A → A) (g : B → B) → ((x : A) → h (f x) ≡ g (h x)) → (xs : List A) →
    map h (map f xs) ≡ map g (map h xs)
turned h f g each [] = refl
turned {B = B} h f g each (x ∷ xs) =
    ap (λ (y : B). y ∷ map h (map f xs)) (each x) ∙ ap (λ (t : List B). g (h x) ∷ t) (turned h f g each xs)

column_range : {A B : Type 0} (h : A → B) (xs : List A) (from to : ℕ) →
    slice_range (map h xs) from to ≡ map h (slice_range xs from to)
column_range {B = B} h xs from to =
    ap (λ (t : List B). take (to - from) t) (drop-map h from xs) ∙ take-map h (to - from) (drop from xs)

map_column : {A B : Type 0} (h : A → B) (f : A → A) (g : B → B) (xs : List A) (from to : ℕ) →
    ((x : A) → h (f x) ≡ g (h x)) → map h (map_range f xs from to) ≡ map_range g (map h xs) from to
map_column {B = B} h f g xs from to each =
    let mid = slice_range xs from to in
    let made : map h (map f mid) ≡ map g (slice_range (map h xs) from to) =
    turned h f g each mid ∙ ap (map g) (sym (column_range h xs from to)) in
    map-append h (take from xs) (map f mid ++ drop to xs)
    ∙ (ap (λ (t : List B). map h (take from xs) ++ t) (map-append h (map f mid) (drop to xs))
    ∙ (ap (λ (t : List B). t ++ (map h (map f mid) ++ map h (drop to xs))) (sym (take-map h from xs))
    ∙ (ap (λ (t : List B). take from (map h xs) ++ (t ++ map h (drop to xs))) made
    ∙ ap (λ (t : List B). take from (map h xs) ++ (map g (slice_range (map h xs) from to) ++ t))
    (sym (drop-map h to xs)))))

same_map_range : {A : Type 0} (xs : List A) (from to : ℕ) → from ≤ to → map_range (λ x. x) xs from to ≡ xs
same_map_range {A = A} xs from to ordered =
    ap (λ (t : List A). take from xs ++ (t ++ drop to xs)) (map-id (slice_range xs from to))
    ∙ (ap (λ (t : List A). take from xs ++ t) (sym (drop_split xs from to ordered)) ∙ take-append-drop from xs)

-- one that no strike changes
column_stays : {B : Type 0} (h : Item → B) → ((item : Item) → h (modified_item striking item) ≡ h item) → (len : ℕ)
    (ranges : List DeletedRange) (text : List Item) → All (IsRangeWithin len) ranges →
    map h (text_struck ranges text) ≡ map h text
column_stays h same len [] text within = refl
column_stays {B = B} h same len (range ∷ ranges) text within =
    column_stays h same len ranges (items_struck text range) (All-tail (IsRangeWithin len) range ranges within)
    ∙ (map_column h (modified_item striking) (λ (x : B). x) text range.from range.to same
    ∙ same_map_range (map h text) range.from range.to (All-head (IsRangeWithin len) range ranges within).0)

chps_are : (ranges : List DeletedRange) (text : List Item) →
    map (λ item. item.chp) (text_struck ranges text) ≡ chps_struck ranges (map (λ item. item.chp) text)
chps_are [] text = refl
chps_are (range ∷ ranges) text =
    chps_are ranges (items_struck text range)
    ∙ ap (chps_struck ranges)
    (map_column (λ (item : Item). item.chp) (modified_item striking) struck_chp text range.from range.to
    (λ (item : Item). refl))

-- a mark stays
same_mark : (mark : Option Mark) → option_map (modified_mark striking) mark ≡ mark
same_mark None = refl
same_mark (Some mark) = ap (λ pap. Some (record { istd = mark.istd; pap = pap })) (empty-overlay mark.pap)

same_attached : (item : Item) → attached_of (modified_item striking item) ≡ attached_of item
same_attached item =
    ap (λ (mark : Option Mark). record { fld = item.fld; note = item.note; mark = mark; sect = item.sect })
    (same_mark item.mark)

-- ---- the three columns of a text

-- each column of a struck text
pub record AreStruckColumns (ranges : List DeletedRange) (text : List Item) (units : List ℕ) (chps : List Properties)
    (attachments : List Attached) : Type 0 where
  pub units_are : units ≡ map (λ item. item.unit) (text_struck ranges text)
  pub chps_are : chps ≡ map (λ item. item.chp) (text_struck ranges text)
  pub attachments_are : attachments ≡ map attached_of (text_struck ranges text)
  pub long : length units ≡ length text

pub struck_columns : (len : ℕ) (ranges : List DeletedRange) (text : List Item) (units : List ℕ) (chps : List Properties)
    (attachments : List Attached) → All (IsRangeWithin len) ranges → units ≡ map (λ item. item.unit) text →
    chps ≡ chps_struck ranges (map (λ item. item.chp) text) → attachments ≡ map attached_of text →
    AreStruckColumns ranges text units chps attachments
struck_columns len ranges text units chps attachments within a b c = record {
  units_are = a ∙ sym (column_stays (λ (item : Item). item.unit) (λ (item : Item). refl) len ranges text within);
  chps_are = b ∙ sym (chps_are ranges text);
  attachments_are = c ∙ sym (column_stays attached_of same_attached len ranges text within);
  long = ap length a ∙ length-map text (λ (item : Item). item.unit);
}

pub struck_items : (ranges : List DeletedRange) (text : List Item) (units : List ℕ) (chps : List Properties)
    (attachments : List Attached) → AreStruckColumns ranges text units chps attachments →
    items_of units chps attachments ≡ text_struck ranges text
struck_items ranges text units chps attachments are =
    (λ i. items_of (are.units_are i) (are.chps_are i) (are.attachments_are i))
    ∙ items_of-maps (text_struck ranges text)

pub chps_long : (ranges : List DeletedRange) (text : List Item) (units : List ℕ) (chps : List Properties)
    (attachments : List Attached) → AreStruckColumns ranges text units chps attachments → length chps ≡ length units
chps_long ranges text units chps attachments are =
    ap length are.chps_are
    ∙ (length-map (text_struck ranges text) (λ (item : Item). item.chp)
    ∙ sym (ap length are.units_are ∙ length-map (text_struck ranges text) (λ (item : Item). item.unit)))

pub attachments_long : (ranges : List DeletedRange) (text : List Item) (units : List ℕ) (chps : List Properties)
    (attachments : List Attached) → AreStruckColumns ranges text units chps attachments →
    length attachments ≡ length units
attachments_long ranges text units chps attachments are =
    ap length are.attachments_are
    ∙ (length-map (text_struck ranges text) attached_of
    ∙ sym (ap length are.units_are ∙ length-map (text_struck ranges text) (λ (item : Item). item.unit)))

-- ---- maps stay well formed

range_all : {A : Type 0} (P : A → Type 0) (f : A → A) (xs : List A) (from to : ℕ) → ((x : A) → P x → P (f x)) →
    All P xs → All P (map_range f xs from to)
range_all {A = A} P f xs from to each all =
    let mid = slice_range xs from to in
    let rest = drop to xs in
    let mid_all : All P mid = All-take P (to - from) (drop from xs) (All-drop P from xs all) in
    let made : All P (map f mid) = All-map P f mid (All-weaker P (λ (x : A). P (f x)) each mid mid_all) in
    All-append P (take from xs) (map f mid ++ rest) (All-take P from xs all)
    (All-append P (map f mid) rest made (All-drop P to xs all))

struck_maps : (item : Item) → HasPropertyMaps item → HasPropertyMaps (modified_item striking item)
struck_maps item maps = record {
  chp = overlay_formed character_groups strike item.chp striking_formed.chp maps.chp;
  pap = subst (λ (o : Option Mark). ForSome o (λ mark. IsPropertyMap paragraph_groups mark.pap))
      (sym (same_mark item.mark)) maps.pap;
  sect = maps.sect;
}

pub all_maps : (ranges : List DeletedRange) (text : List Item) → All HasPropertyMaps text →
    All HasPropertyMaps (text_struck ranges text)
all_maps [] text all = all
all_maps (range ∷ ranges) text all =
    all_maps ranges (items_struck text range)
    (range_all HasPropertyMaps (modified_item striking) text range.from range.to struck_maps all)
