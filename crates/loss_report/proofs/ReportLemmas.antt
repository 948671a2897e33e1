-- The lines of what is left out: one feature after the other.
use Rattle.std.proofs.Common.{◌≡◌, ◌∙◌, ◌+◌, ◌-◌, ◌<◌, ◌≤◌, min, inl, inr, ap, sym, refl, ℕ, suc, List, [], ◌∷◌, ◌++◌}
use Rattle.std.proofs.Common.{Option, Some, None}
use Rattle.std.proofs.Common.{option_map, slice_get, length, take, drop, map, not, true, false, append_assoc, arith}
use Rattle.std.specs.List.{flat_map, range_with_len, slice_range}
use Rattle.std.proofs.lemmas.Bool.{cases_lt}
use Rattle.std.proofs.lemmas.Option.{none-some, slice_get_within, get_or_from_slice_get}
use Rattle.std.proofs.lemmas.List.{append-nil, drop_more, drop_all, take_all, length-drop, map-append}
use Rattle.std.proofs.lemmas.List.Elements.{filter-append}
use Rattle.cfb_streams.specs.Contents.{Stream}
use Rattle.loss_report.specs.Features.{Feature, StreamOf, StorageOf, stream_features, storage_features, part_feature}
use Rattle.loss_report.specs.Losses.{is_kept_feature, left_out}
use Rattle.loss_report.specs.Lines.{feature_line, loss_lines}

pub loss_lines-append : (wd : List ℕ) (one more : List Feature) → loss_lines wd (one ++ more) ≡ loss_lines wd one ++
    loss_lines wd more
loss_lines-append wd one more =
    ap (map feature_line) (filter-append (λ feature. not (is_kept_feature wd feature)) one more)
    ∙ map-append feature_line (left_out wd one) (left_out wd more)

-- the line of a feature that is left out, and none of one that is kept
pub lost_one : (wd : List ℕ) (feature : Feature) → is_kept_feature wd feature ≡ false → loss_lines wd (feature ∷ []) ≡
    feature_line feature ∷ []
lost_one wd feature lost = rw lost refl

pub kept_one : (wd : List ℕ) (feature : Feature) → is_kept_feature wd feature ≡ true → loss_lines wd (feature ∷ []) ≡ []
kept_one wd feature kept = rw kept refl

-- the lines of the features here are put behind those before them
pub one_step :
    (wd : List ℕ) (now next whole : List (List ℕ)) (here one rest : List Feature) → here ≡ one ++ rest →
    next ≡ now ++ loss_lines wd one → now ++ loss_lines wd here ≡ whole → next ++ loss_lines wd rest ≡ whole
one_step wd now next whole here one rest parts is before =
    rw is
    (append_assoc now (loss_lines wd one) (loss_lines wd rest)
    ∙ (ap (λ lines. now ++ lines) (sym (loss_lines-append wd one rest) ∙ ap (loss_lines wd) (sym parts)) ∙ before))

-- no feature is left
pub no_more :
    (wd : List ℕ) (now whole : List (List ℕ)) (here : List Feature) → here ≡ [] →
    now ++ loss_lines wd here ≡ whole → now ≡ whole
no_more wd now whole here none is =
    sym (append-nil now) ∙ (ap (λ features. now ++ loss_lines wd features) (sym none) ∙ is)

-- a stream of this name
named_stream : (o : Option Stream) (name : List ℕ) → option_map (λ s. s.name) o ≡ Some name → (s : Stream) ×
    ((o ≡ Some s) × (Some s.name ≡ Some name))
named_stream None name n = absurd (none-some name n)
named_stream (Some s) name n = (s, (refl, n))

name_in : Option (List ℕ) → List ℕ
name_in None = []
name_in (Some name) = name

-- the streams from one on
pub streams-from : (streams : List Stream) (i : ℕ) (name : List ℕ) → option_map (λ s. s.name) (slice_get streams i) ≡
    Some name → stream_features (drop i streams) ≡ (StreamOf name ∷ []) ++ stream_features (drop (i + 1) streams)
unfolding name_in
streams-from streams i name n =
    let it = named_stream (slice_get streams i) name n in
    let here : drop i streams ≡ it.0 ∷ drop (i + 1) streams =
    drop_more streams i it.0 (slice_get_within streams i it.0 it.1.0)
    ∙ ap (λ s. s ∷ drop (i + 1) streams) (get_or_from_slice_get streams i it.0 it.0 it.1.0) in
    ap stream_features here ∙ ap (λ named. StreamOf named ∷ stream_features (drop (i + 1) streams)) (ap name_in it.1.1)

-- the storages from one on
pub storages-from : (names : List (List ℕ)) (i : ℕ) (name : List ℕ) → slice_get names i ≡ Some name →
    storage_features (drop i names) ≡ (StorageOf name ∷ []) ++ storage_features (drop (i + 1) names)
storages-from names i name there =
    let here : drop i names ≡ name ∷ drop (i + 1) names =
    drop_more names i name (slice_get_within names i name there)
    ∙ ap (λ s. s ∷ drop (i + 1) names) (get_or_from_slice_get names i name name there) in
    ap storage_features here

-- the parts of the pairs from one on
abbrev pub parts_between : List ℕ → (from to : ℕ) → List Feature
parts_between wd from to = flat_map (part_feature wd) (range_with_len from (to - from))

pub parts-from : (wd : List ℕ) (n count : ℕ) → n < count → parts_between wd n count ≡
    part_feature wd n ++ parts_between wd (n + 1) count
parts-from wd n count below =
    let more : count - n ≡ suc (count - (n + 1)) = omega arith in
    ap (λ len. flat_map (part_feature wd) (range_with_len n len)) more

pub no_parts : (wd : List ℕ) (count : ℕ) → parts_between wd count count ≡ []
no_parts wd count =
    let none : count - count ≡ 0 = omega arith in
    ap (λ len. flat_map (part_feature wd) (range_with_len count len)) none

-- a range of a list, cut at its end
pub range_cut : (units : List ℕ) (from to end : ℕ) → from ≤ to → end ≡ min to (length units) →
    slice_range units (min from end) end ≡ slice_range units from to
range_cut units from to end order is = elim (cases_lt from end) [
  | inl low ↦
      let at : min from end ≡ from = omega arith in
      elim (cases_lt (length units) to) [
        | inl over ↦
            rw at
            (take_all (end - from) (drop from units) (omega (arith, length-drop from units))
            ∙ sym (take_all (to - from) (drop from units) (omega (arith, length-drop from units))))
        | inr within ↦ let same : end ≡ to = omega arith in rw (at, same) refl
      ]
  | inr high ↦
      let none : end - min from end ≡ 0 = omega arith in
      elim (cases_lt (length units) to) [
        | inl over ↦
            let past : drop from units ≡ [] = drop_all from units (omega arith) in
            ap (λ n. take n (drop (min from end) units)) none
            ∙ sym (ap (λ l. take (to - from) l) past ∙ take_all (to - from) [] (omega arith))
        | inr within ↦
            let empty : to - from ≡ 0 = omega arith in
            ap (λ n. take n (drop (min from end) units)) none ∙ sym (ap (λ n. take n (drop from units)) empty)
      ]
]

-- the texts from one on
pub texts-from : (texts : List (List ℕ)) (i : ℕ) (text : List ℕ) → slice_get texts i ≡ Some text → drop i texts ≡
    text ∷ drop (i + 1) texts
texts-from texts i text there =
    drop_more texts i text (slice_get_within texts i text there)
    ∙ ap (λ t. t ∷ drop (i + 1) texts) (get_or_from_slice_get texts i text text there)
