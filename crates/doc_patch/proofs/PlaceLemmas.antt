-- Places of a text, found in the runs of what is beside its units.
use Rattle.std.proofs.Common.{◌≡◌, ◌∙◌, ◌⊎◌, inl, inr, refl, sym, ap, subst, cond, min, ℕ, zero, suc, ◌+◌, ◌-◌, ◌*◌}
use Rattle.std.proofs.Common.{◌<◌, ◌≤◌, Bool, true, false, List, [], ◌∷◌, ◌++◌, length, map, take, drop, get_or}
use Rattle.std.proofs.Common.{Option, Some, None, arith}
use Rattle.std.specs.Prelude.{slice_get, slice_range, replicate, is_some}
use Rattle.std.specs.List.{count_by, position_or_len}
use Rattle.std.specs.Option.{option_map, option_and_then}
use Rattle.std.specs.FinMap.{empty}
use Rattle.std.proofs.Math.Seq.{take-add}
use Rattle.std.proofs.lemmas.Bool.{cases_lt}
use Rattle.std.proofs.lemmas.List.{length-map, take-map}
use Rattle.std.proofs.lemmas.List.Folds.{sum_by-replicate}
use Rattle.std.proofs.lemmas.List.Sums.{sum_by-append, sum_by-cons}
use Rattle.std.proofs.lemmas.Option.{same_Some, slice_get-map, slice_get_within, slice_get-get_or}
use Rattle.std.proofs.lemmas.Option.{get_or_from_slice_get}
use Rattle.run_lists.specs.declared.runs.Run.{Run}
use Rattle.run_lists.specs.declared.cut.Spot.{Spot}
use Rattle.run_lists.specs.Places.{IsFoundSpot}
use Rattle.run_lists.specs.Spread.{expanded, total_len}
use Rattle.run_lists.proofs.Public.{length-spread, extent-nil, extent_more, extent_all, value_in_run, part_range}
use Rattle.doc_model.specs.declared.item.Item.{Item}
use Rattle.doc_columns.specs.declared.attached.Attached.{Attached}
use Rattle.doc_columns.specs.Attached.{attached_of}
use Rattle.doc_patch.specs.Places.{mark_place, section_place}
use Rattle.doc_patch.proofs.FirstLemmas.{first_is}
use Rattle.doc_patch.specs.declared.places.Part.{Part}
use Rattle.doc_patch.specs.declared.places.Part.TheVariants as part_is
use Rattle.doc_patch.specs.Parts.{has_part, IsFirstWithPart}

-- a default for reads of items
pub nothing : Item
nothing = record { unit = 0; fld = None; note = None; chp = empty; mark = None; sect = None }

-- ---- the first place

-- beside no unit from a place on, and before another, the part is there
abbrev pub HasNone : Part → List Attached → ℕ → ℕ → Type 0
HasNone part attachments at end =
    (k : ℕ) (attached : Attached) → at ≤ k → k < end → slice_get attachments k ≡ Some attached → has_part part attached
    ≡ false

not_true : (b : Bool) → (b ≡ true → ⊥) → b ≡ false
not_true true none = absurd (none refl)
not_true false none = refl

-- what is beside a unit of a run
attached_in : (runs : List (Run Attached)) (number begin k : ℕ) (run : Run Attached) (attached : Attached) →
    slice_get runs number ≡ Some run → begin ≡ total_len (take number runs) → begin ≤ k → k < begin + run.count
    → slice_get (expanded runs) k ≡ Some attached → run.value ≡ attached
attached_in runs number begin k run attached is begins from until there =
    let here : total_len (take number runs) + (k - begin) ≡ k = omega (arith, begins, from) in
    let value : slice_get (expanded runs) k ≡ Some run.value =
    subst (λ (n : ℕ). slice_get (expanded runs) n ≡ Some run.value) here
    (value_in_run runs number (k - begin) run is (omega (arith, from, until))) in
    same_Some run.value attached (sym value ∙ there)

-- a walk from a place on is in the run of the place, or behind it: the place is before the run's end
pub record IsWalkedTo (at end count : ℕ) : Type 0 where
  pub upto : at ≤ end
  pub before : 0 < count → at < end

pub reached : (runs : List (Run Attached)) (number at begin : ℕ) (spot : Spot) (run : Run Attached) →
    IsFoundSpot runs 0 at spot → slice_get runs number ≡ Some run → begin ≡ total_len (take number runs)
    → (number ≡ spot.run) ⊎ (at ≤ begin) → IsWalkedTo at (begin + run.count) run.count
reached runs number at begin spot run found is begins (inl e) =
    let spot_is : slice_get runs spot.run ≡ Some run = subst (λ (n : ℕ). slice_get runs n ≡ Some run) e is in
    let inside = found.inside (slice_get_within runs spot.run run spot_is) in
    let same : inside.0 ≡ run = same_Some inside.0 run (sym inside.1 ∙ spot_is) in
    let count : inside.0.count ≡ run.count = ap (λ (r : Run Attached). r.count) same in
    let start : total_len (take 0 runs) ≡ 0 = extent-nil Attached in
    let here : total_len (take spot.run runs) ≡ begin =
    ap (λ (n : ℕ). total_len (take n runs)) (sym e) ∙ sym begins in
    let place : begin + spot.left ≡ at = omega (arith, found.here, start, here) in
    let left : spot.left < run.count = omega (arith, inside.2, count) in
    record { upto = omega (arith, place, left); before = λ some. omega (arith, place, left) }
reached runs number at begin spot run found is begins (inr le) =
    record { upto = omega (arith, le); before = λ some. omega (arith, le, some) }

-- behind all runs, the place is the end or before it
pub reached_end : (runs : List (Run Attached)) (number at begin : ℕ) (spot : Spot) → IsFoundSpot runs 0 at spot →
    length runs ≤ number → begin ≡ total_len (take number runs) → (number ≡ spot.run) ⊎ (at ≤ begin) → at ≤ begin
reached_end runs number at begin spot found all begins (inl e) =
    let last : spot.run ≡ length runs = omega (arith, found.there, all, e) in
    let start : total_len (take 0 runs) ≡ 0 = extent-nil Attached in
    let here : total_len (take spot.run runs) ≡ begin =
    ap (λ (n : ℕ). total_len (take n runs)) (sym e) ∙ sym begins in
    omega (arith, found.here, found.ended last, start, here)
reached_end runs number at begin spot found all begins (inr le) = le

-- a run that shows the part
pub shown_first : (part : Part) (runs : List (Run Attached)) (number at begin place : ℕ) (run : Run Attached) →
    slice_get runs number ≡ Some run → begin ≡ total_len (take number runs) → has_part part run.value ≡ true
    → begin ≤ place → place < begin + run.count → at ≤ place → (begin < place → place ≡ at)
    → HasNone part (expanded runs) at begin → IsFirstWithPart part (expanded runs) at place
shown_first part runs number at begin place run is begins shows from until after first none = record {
  after = after;
  within =
      omega (
        arith,
        slice_get_within (expanded runs) place run.value
            (subst (λ (n : ℕ). slice_get (expanded runs) n ≡ Some run.value)
            (let here : total_len (take number runs) + (place - begin) ≡ place = omega (arith, begins, from) in here)
            (value_in_run runs number (place - begin) run is (omega (arith, from, until)))),
      );
  before = λ k attached low high there. elim (cases_lt begin place) [
    | inl more ↦ absurd (omega (arith, low, high, first more))
    | inr less ↦ none k attached low (omega (arith, high, less)) there
  ];
  here = λ attached there.
      ap (has_part part) (sym (attached_in runs number begin place run attached is begins from until there)) ∙ shows;
}

-- a run that does not show it
pub none_more : (part : Part) (runs : List (Run Attached)) (number at begin : ℕ) (run : Run Attached) →
    slice_get runs number ≡ Some run → begin ≡ total_len (take number runs)
    → ((0 < run.count) × (has_part part run.value ≡ true) → ⊥) → HasNone part (expanded runs) at begin
    → HasNone part (expanded runs) at (begin + run.count)
none_more part runs number at begin run is begins shows none k attached low high there = elim (cases_lt k begin) [
  | inl less ↦ none k attached low less there
  | inr more ↦
      let value : run.value ≡ attached =
      attached_in runs number begin k run attached is begins (omega (arith, more)) high there in
      ap (has_part part) (sym value)
      ∙ not_true (has_part part run.value) (λ has. shows (omega (arith, more, high), has))
]

-- no run shows it
pub none_first : (part : Part) (runs : List (Run Attached)) (at begin : ℕ) → begin ≡ total_len runs → at ≤ begin →
    HasNone part (expanded runs) at begin → IsFirstWithPart part (expanded runs) at begin
none_first part runs at begin end after none = record {
  after = after;
  within = omega (arith, end, length-spread runs);
  before = none;
  here = λ attached there.
      absurd (omega (arith, slice_get_within (expanded runs) begin attached there, end, length-spread runs));
}

-- ---- as edits say it

-- the first place of a text that has a part
first_of : (part : Part) (p : Item → Bool) (text : List Item) (attachments : List Attached) (at place : ℕ) →
    ((item : Item) → has_part part (attached_of item) ≡ p item) → attachments ≡ map attached_of text
    → IsFirstWithPart part attachments at place → place ≡ at + position_or_len p (drop at text)
first_of part p text attachments at place says are first =
    let long : length attachments ≡ length text = ap length are ∙ length-map text attached_of in
    let attached_there : (k : ℕ) → k < length text → slice_get attachments k ≡ Some (attached_of (get_or text k
    nothing)) =
    λ k within.
    ap (λ (t : List Attached). slice_get t k) are
    ∙ slice_get-map attached_of text k
    ∙ ap (option_map attached_of) (slice_get-get_or text k nothing within) in
    first_is p text at place nothing first.after (omega (arith, first.within, long))
    (λ k low high.
    let within : k < length text = omega (arith, high, first.within, long) in
    sym (says (get_or text k nothing))
    ∙ first.before k (attached_of (get_or text k nothing)) low high (attached_there k within))
    (λ within.
    sym (says (get_or text place nothing))
    ∙ first.here (attached_of (get_or text place nothing)) (attached_there place within))

pub mark_first : (text : List Item) (attachments : List Attached) (at place : ℕ) → attachments ≡ map attached_of text →
    IsFirstWithPart part_is.Mark attachments at place → place ≡ mark_place text at
mark_first text attachments at place are first =
    first_of part_is.Mark (λ item. is_some item.mark) text attachments at place (λ item. refl) are first

pub section_first : (text : List Item) (attachments : List Attached) (at place : ℕ) → attachments ≡ map attached_of text
    →
    IsFirstWithPart part_is.Section attachments at place → place ≡ section_place text at
section_first text attachments at place are first =
    first_of part_is.Section (λ item. is_some item.sect) text attachments at place (λ item. refl) are first

-- ---- counts

-- so many units of a run
pub counted_all : (part : Part) (attached : Attached) (count : ℕ) → has_part part attached ≡ true →
    count_by (has_part part) (replicate count attached) ≡ count
counted_all part attached count has =
    let sum : count_by (has_part part) (replicate count attached) ≡ count * cond (has_part part attached) 1 0 =
    sum_by-replicate (λ b. cond (has_part part b) 1 0) count attached in
    let one : count * cond (has_part part attached) 1 0 ≡ count * 1 = ap (λ (b : Bool). count * cond b 1 0) has in
    omega (arith, sum, one)

pub counted_none : (part : Part) (attached : Attached) (count : ℕ) → has_part part attached ≡ false →
    count_by (has_part part) (replicate count attached) ≡ 0
counted_none part attached count has =
    let sum : count_by (has_part part) (replicate count attached) ≡ count * cond (has_part part attached) 1 0 =
    sum_by-replicate (λ b. cond (has_part part b) 1 0) count attached in
    let none : count * cond (has_part part attached) 1 0 ≡ count * 0 = ap (λ (b : Bool). count * cond b 1 0) has in
    omega (arith, sum, none)

-- a part of a run more
more_of_run : (part : Part) (runs : List (Run Attached)) (number some count new : ℕ) (run : Run Attached) →
    slice_get runs number ≡ Some run → some ≤ run.count
    → count ≡ count_by (has_part part) (take (total_len (take number runs)) (expanded runs))
    → new ≡ count + count_by (has_part part) (replicate some run.value)
    → new ≡ count_by (has_part part) (take (total_len (take number runs) + some) (expanded runs))
more_of_run part runs number some count new run is within before sum =
    let begin = total_len (take number runs) in
    let p = has_part part in
    let none : begin + 0 ≡ begin = omega arith in
    let wide : begin + some - begin ≡ some = omega arith in
    let values : take some (drop begin (expanded runs)) ≡ replicate some run.value =
    sym (ap (λ (n : ℕ). take n (drop begin (expanded runs))) wide)
    ∙ sym (ap (λ (n : ℕ). slice_range (expanded runs) n (n + some)) none)
    ∙ part_range runs number 0 some run is (omega (arith, within)) in
    let more : take (begin + some) (expanded runs) ≡ take begin (expanded runs) ++ replicate some run.value =
    take-add begin some (expanded runs) ∙ ap (λ (t : List Attached). take begin (expanded runs) ++ t) values in
    let all : count_by p (take begin (expanded runs) ++ replicate some run.value)
    ≡ count_by p (take begin (expanded runs)) + count_by p (replicate some run.value) =
    sum_by-append (λ b. cond (p b) 1 0) (take begin (expanded runs)) (replicate some run.value) in
    omega (arith, ap (count_by p) more, all, before, sum)

-- what is counted before a place, of which so many units are left
pub record IsPartCount (part : Part) (runs : List (Run Attached)) (number at left count : ℕ) : Type 0 where
  pub within : left ≤ at
  pub next : 0 < left → total_len (take number runs) + left ≡ at
  pub counts : count ≡ count_by (has_part part) (take (at - left) (expanded runs))
  pub few : count ≤ at - left

pub none_counted : (part : Part) (runs : List (Run Attached)) (at : ℕ) → IsPartCount part runs 0 at at 0
none_counted part runs at =
    let nothing_left : at - at ≡ 0 = omega arith in
    record {
      within = omega arith;
      next = λ some. omega (arith, extent-nil Attached);
      counts = ap (λ (n : ℕ). count_by (has_part part) (take n (expanded runs))) (sym nothing_left);
      few = omega arith;
    }

-- a run more is counted
pub counted_more : (part : Part) (runs : List (Run Attached)) (number at left count some more : ℕ) (run : Run Attached)
    →
    slice_get runs number ≡ Some run → some ≡ min left run.count
    → more ≡ count_by (has_part part) (replicate some run.value) → more ≤ some
    → IsPartCount part runs number at left count → IsPartCount part runs (number + 1) at (left - some) (count + more)
counted_more part runs number at zero count some more run is least sum few so_far =
    let none : some ≡ 0 = omega (arith, least) in
    let same : at - (0 - some) ≡ at - 0 = omega (arith, none) in
    let nothing_more : count + more ≡ count = omega (arith, none, few) in
    record {
      within = omega arith;
      next = λ left. absurd (omega (arith, left));
      counts =
          nothing_more
          ∙ so_far.counts
          ∙ ap (λ (n : ℕ). count_by (has_part part) (take n (expanded runs))) (sym same);
      few = omega (arith, so_far.few, nothing_more);
    }
counted_more part runs number at (suc left) count some more run is least sum few so_far =
    let here : total_len (take number runs) + suc left ≡ at = so_far.next (omega arith) in
    let within = slice_get_within runs number run is in
    let longer = extent_more runs number run within in
    let length_of : (get_or runs number run).count ≡ run.count =
    ap (λ (r : Run Attached). r.count) (get_or_from_slice_get runs number run run is) in
    let before : at - suc left ≡ total_len (take number runs) = omega (arith, here) in
    let after : at - (suc left - some) ≡ total_len (take number runs) + some = omega (arith, here, least) in
    record {
      within = omega (arith, so_far.within);
      next = λ more_left. omega (arith, here, longer, length_of, least, more_left);
      counts =
          more_of_run part runs number some count (count + more) run is (omega (arith, least))
          (so_far.counts ∙ ap (λ (n : ℕ). count_by (has_part part) (take n (expanded runs))) before)
          (ap (λ (n : ℕ). count + n) sum)
          ∙ ap (λ (n : ℕ). count_by (has_part part) (take n (expanded runs))) (sym after);
      few = omega (arith, so_far.few, few, before, after);
    }

-- all is counted
pub all_counted : (part : Part) (runs : List (Run Attached)) (number at left count : ℕ) → length runs ≤ number →
    at ≤ total_len runs → IsPartCount part runs number at left count
    → count ≡ count_by (has_part part) (take at (expanded runs))
all_counted part runs number at zero count all within so_far =
    let same : at - 0 ≡ at = omega arith in
    so_far.counts ∙ ap (λ (n : ℕ). count_by (has_part part) (take n (expanded runs))) same
all_counted part runs number at (suc left) count all within so_far =
    absurd (omega (arith, so_far.next (omega arith), extent_all runs number all, within))

-- and what each unit of the text says
pub count_of : (part : Part) (p : Item → Bool) (text : List Item) (attachments : List Attached) (at count : ℕ) →
    ((item : Item) → has_part part (attached_of item) ≡ p item) → attachments ≡ map attached_of text
    → count ≡ count_by (has_part part) (take at attachments) → count ≡ count_by p (take at text)
count_of part p text attachments at count says are is =
    is
    ∙ ap (λ (t : List Attached). count_by (has_part part) (take at t)) are
    ∙ ap (count_by (has_part part)) (take-map attached_of at text)
    ∙ same_count (take at text)
  where
    same_count : (items : List Item) → count_by (has_part part) (map attached_of items) ≡ count_by p items
    same_count [] = refl
    same_count (item ∷ items) =
        sum_by-cons (λ b. cond (has_part part b) 1 0) (attached_of item) (map attached_of items)
        ∙ ap (λ (b : Bool). cond b 1 0 + count_by (has_part part) (map attached_of items)) (says item)
        ∙ ap (λ (n : ℕ). cond (p item) 1 0 + n) (same_count items)
        ∙ sym (sum_by-cons (λ i. cond (p i) 1 0) item items)

-- ---- what is at a place

-- a part of the item at a place, by what is beside its unit
pub part_there : {A : Type 0} (f : Attached → Option A) (text : List Item) (place : ℕ) (attached : Attached) →
    slice_get (map attached_of text) place ≡ Some attached
    → option_and_then (λ item. f (attached_of item)) (slice_get text place) ≡ f attached
part_there f text place attached there =
    of_item (slice_get text place) (sym (slice_get-map attached_of text place) ∙ there)
  where
    of_item : (o : Option Item) → option_map attached_of o ≡ Some attached →
        option_and_then (λ item. f (attached_of item)) o ≡ f attached
    of_item None is = absurd (cc (is))
    of_item (Some item) is = ap f (same_Some (attached_of item) attached is)

pub part_past : {A : Type 0} (f : Attached → Option A) (text : List Item) (place : ℕ) →
    slice_get (map attached_of text) place ≡ None
    → option_and_then (λ item. f (attached_of item)) (slice_get text place) ≡ None
part_past {A = A} f text place past =
    of_item (slice_get text place) (sym (slice_get-map attached_of text place) ∙ past)
  where
    of_item : (o : Option Item) → option_map attached_of o ≡ None →
        option_and_then (λ item. f (attached_of item)) o ≡ None
    of_item None is = refl
    of_item (Some item) is = absurd (cc (is))
