-- Ranges that are checked and struck.
use Rattle.std.proofs.Common.{◌≡◌, inl, inr, ℕ, ◌+◌, ◌-◌, ◌<◌, ◌≤◌, Bool, true, false, List, [], ◌∷◌, ◌++◌, length}
use Rattle.std.proofs.Common.{map, filter, Option, Some, None, slice_get, slice_set, slice_range, refl, sym, ap, ◌∙◌}
use Rattle.std.proofs.Common.{subst, arith, drop, zero, suc, get_or}
use Rattle.std.specs.Prelude.{not, option_map, MatchOption, if◌then◌else◌}
use Rattle.std.specs.List.{list_all}
use Rattle.std.specs.FinMap.{empty}
use Rattle.std.proofs.lemmas.List.{get_or-take, get_or-drop}
use Rattle.std.proofs.lemmas.List.Folds.{list_all_at}
use Rattle.std.proofs.lemmas.Bool.{cases_lt, cases_eq}
use Rattle.std.proofs.lemmas.List.{length-map, map-append}
use Rattle.std.proofs.lemmas.List.Edits.{length-between}
use Rattle.std.proofs.lemmas.List.Elements.{All-head, All-tail, All-nil, All-cons, All-filter, filter-append}
use Rattle.std.proofs.lemmas.Option.{slice_get_within, get_or_from_slice_get}
use Rattle.doc_bits.specs.declared.places.Story.{Story}
use Rattle.doc_bits.specs.declared.places.Story.TheVariants.{Main, Note, Head}
use Rattle.prop_map.specs.Modifiers.{IsFormedModifier}
use Rattle.prop_map.specs.Settings.{Properties}
use Rattle.prop_map.specs.Formed.{IsMapEntry, character_groups, paragraph_groups}
use Rattle.prop_map.proofs.Public.{IsPropertyMap-empty, stay_formed}
use Rattle.doc_bits.proofs.Public.{one_byte, set_here, set_other}
use Rattle.doc_model.specs.declared.item.Item.{Item}
use Rattle.doc_model.specs.declared.document.Document.{Document}
use Rattle.doc_model.proofs.Public.{length-splice}
use Rattle.doc_patch.specs.Changes.{map_range, changed_at, put_changed, modified_item, text_changed, changed}
use Rattle.doc_patch.specs.Places.{story_text, HasText, HasRange}
use Rattle.doc_mends.specs.declared.mends.DeletedRange.{DeletedRange}
use Rattle.doc_mends.specs.declared.mends.Mend.TheVariants.{StrikeDeleted}
use Rattle.doc_mends.specs.declared.judging.Judged.{Judged}
use Rattle.doc_mends.specs.Mends.{striking, strike_of, all_struck, is_short, can_strike, strikes, kept_ranges}
use Rattle.doc_mends.specs.Mends.{AreRanges}
use Rattle.doc_mends.specs.Judging.{IsMendVerdict, AddsRange}

-- ---- texts keep their lengths

abbrev lengths : Option (List Item) → Option ℕ
lengths text = option_map length text

pub length-map_range : (f : Item → Item) (text : List Item) (from to : ℕ) → HasRange from to text →
    length (map_range f text from to) ≡ length text
length-map_range f text from to range =
    let ordered : from ≤ to = omega (arith, range.0) in
    let within = range.1 in
    let len = length-splice text (map f (slice_range text from to)) from to ordered within in
    let fresh = length-map (slice_range text from to) f in
    let old = length-between text from to within in
    omega arith

-- one of several texts is changed
entries_kept : (entries : List (List Item)) (number other from to : ℕ) (f : Item → Item) →
    MatchOption (slice_get entries number) ⊥ (HasRange from to) →
    lengths (slice_get (changed_at entries number (λ text. map_range f text from to)) other) ≡ lengths
    (slice_get entries other)
entries_kept entries number other from to f there =
    by_entry (slice_get entries number) refl there
  where
    by_entry : (o : Option (List Item)) → slice_get entries number ≡ o → MatchOption o ⊥ (HasRange from to) →
        lengths (slice_get (put_changed entries number (λ text. map_range f text from to) o) other) ≡ lengths
        (slice_get entries other)
    by_entry None is range = absurd range
    by_entry (Some text) is range =
        let low = slice_get_within entries number text is in
        elim (cases_eq other number) [
          | inl same ↦
              ap lengths (ap (slice_get (slice_set entries number (map_range f text from to))) same
              ∙ set_here entries number (map_range f text from to) low)
              ∙ (ap Some (length-map_range f text from to range)
              ∙ sym (ap lengths (ap (slice_get entries) same ∙ is)))
          | inr apart ↦ ap lengths (set_other entries number other (map_range f text from to) apart)
        ]

pub texts_kept : (document : Document) (story other : Story) (from to : ℕ) (f : Item → Item) →
    HasText document story (HasRange from to) →
    lengths (story_text (text_changed (λ text. map_range f text from to) story document) other) ≡ lengths
    (story_text document other)
texts_kept document Main Main from to f there = ap Some (length-map_range f document.main from to there)
texts_kept document Main (Note n) from to f there = refl
texts_kept document Main (Head n) from to f there = refl
texts_kept document (Note m) Main from to f there = refl
texts_kept document (Note m) (Note n) from to f there = entries_kept document.notes m n from to f there
texts_kept document (Note m) (Head n) from to f there = refl
texts_kept document (Head m) Main from to f there = refl
texts_kept document (Head m) (Note n) from to f there = refl
texts_kept document (Head m) (Head n) from to f there = entries_kept document.heads m n from to f there

pub range_kept : (old new : Option (List Item)) (from to : ℕ) → lengths new ≡ lengths old →
    MatchOption old ⊥ (HasRange from to) → MatchOption new ⊥ (HasRange from to)
range_kept None new from to same there = absurd there
range_kept (Some old) None from to same there = absurd (cc same)
range_kept (Some old) (Some new) from to same there =
    let len : length new ≡ length old = cc same in
    (there.0, omega (arith, len, there.1))

-- ranges stay ranges when one of them is struck
pub ranges_stay : (document : Document) (range : DeletedRange) (ranges : List DeletedRange) →
    HasText document range.story (HasRange range.from range.to) → AreRanges document ranges →
    AreRanges (changed (strike_of range) document) ranges
ranges_stay document range [] there are = All-nil
    (λ (r : DeletedRange). HasText (changed (strike_of range) document) r.story (HasRange r.from r.to))
ranges_stay document range (other ∷ ranges) there are =
    All-cons (λ (r : DeletedRange). HasText (changed (strike_of range) document) r.story (HasRange
    r.from r.to)) other ranges
    (range_kept (story_text document other.story)
    (story_text (changed (strike_of range) document) other.story) other.from other.to
    (texts_kept document range.story other.story range.from range.to (modified_item striking) there)
    (All-head (λ (r : DeletedRange). HasText document r.story (HasRange r.from r.to)) other ranges are))
    (ranges_stay document range ranges there (All-tail (λ (r : DeletedRange). HasText document r.story (HasRange r.from
    r.to)) other ranges are))

pub all_ranges_stay : (document : Document) (done ranges : List DeletedRange) → AreRanges document done →
    AreRanges document ranges → AreRanges (all_struck done document) ranges
all_ranges_stay document [] ranges done are = are
all_ranges_stay document (range ∷ done) ranges all are =
    let Is : DeletedRange → Type 0 = λ r. HasText document r.story (HasRange r.from r.to) in
    let here = All-head Is range done all in
    all_ranges_stay (changed (strike_of range) document) done ranges
    (ranges_stay document range done here (All-tail Is range done all)) (ranges_stay document range ranges here are)

-- those that pass a test are among the ranges
pub filtered : (p : DeletedRange → Bool) (document : Document) (ranges : List DeletedRange) →
    AreRanges document ranges → AreRanges document (filter p ranges)
filtered p document ranges are =
    All-filter p (λ (r : DeletedRange). HasText document r.story (HasRange r.from r.to)) ranges are

-- ---- one range after the other

one_struck : (can : Bool) (range : DeletedRange) (p : DeletedRange → Bool) → p range ≡ can →
    map StrikeDeleted (filter p (range ∷ [])) ≡ (if can then StrikeDeleted range ∷ [] else [])
one_struck true range p is = rw is refl
one_struck false range p is = rw is refl

one_put : (can : Bool) (range : DeletedRange) (p : DeletedRange → Bool) → p range ≡ can →
    filter p (range ∷ []) ≡ (if can then range ∷ [] else [])
one_put true range p is = rw is refl
one_put false range p is = rw is refl

one_kept : (can : Bool) (range : DeletedRange) (p : DeletedRange → Bool) → p range ≡ can →
    filter (λ r. not (p r)) (range ∷ []) ≡ (if can then [] else range ∷ [])
one_kept true range p is = rw is refl
one_kept false range p is = rw is refl

pub judged_more : (document : Document) (ranges : List DeletedRange) (range : DeletedRange) (can : Bool)
    (old new : Judged) → IsMendVerdict document ranges old → can ≡ can_strike document range →
    AddsRange range can old new → IsMendVerdict document (ranges ++ range ∷ []) new
judged_more document ranges range can old new was is adds =
    let p = can_strike document in
    let mends = filter-append p ranges (range ∷ []) in
    let kept = filter-append (λ (r : DeletedRange). not (p r)) ranges (range ∷ []) in
    record {
      mends = adds.mends ∙ (ap (λ l. l ++ (if can then StrikeDeleted range ∷ [] else [])) was.mends
          ∙ (ap (λ l. strikes document ranges ++ l) (sym (one_struck can range p (sym is)))
          ∙ (sym (map-append StrikeDeleted (filter p ranges) (filter p (range ∷ [])))
          ∙ ap (map StrikeDeleted) (sym mends))));
      struck = adds.struck ∙ (ap (λ l. l ++ (if can then range ∷ [] else [])) was.struck
          ∙ (ap (λ l. filter p ranges ++ l) (sym (one_put can range p (sym is))) ∙ sym mends));
      kept = adds.kept ∙ (ap (λ l. l ++ (if can then [] else range ∷ [])) was.kept
          ∙ (ap (λ l. kept_ranges document ranges ++ l) (sym (one_kept can range p (sym is))) ∙ sym kept));
    }

-- ---- properties from a place to another

pub range_at : {X : Type 0} (xs : List X) (from to i : ℕ) (d : X) → i < to - from →
    get_or (slice_range xs from to) i d ≡ get_or xs (from + i) d
range_at xs from to i d low = get_or-take (to - from) (drop from xs) i d low ∙ get_or-drop from xs i d

pub all_pass : {X : Type 0} (p : X → Bool) (xs : List X) (d : X) →
    ((i : ℕ) → i < length xs → p (get_or xs i d) ≡ true) → list_all p xs ≡ true
all_pass p [] d each = refl
all_pass p (x ∷ xs) d each =
    let here : p x ≡ true = each zero (omega arith) in
    let rest = all_pass p xs d (λ i low. each (suc i) (omega arith)) in
    rw (here, rest) refl

-- those up to a place pass
pub record PassUpTo (values : List Properties) (from at : ℕ) : Type 0 where
  pub from_there : from ≤ at
  pub each : (k : ℕ) → from ≤ k → k < at → is_short (get_or values k empty) ≡ true

pub none_passed : (values : List Properties) (from : ℕ) → PassUpTo values from from
none_passed values from = record { from_there = omega arith; each = λ k low high. absurd (omega arith) }

pub more_pass : (values : List Properties) (from at end : ℕ) (chp : Properties) (short : Bool) →
    PassUpTo values from at → at < end → ((k : ℕ) → at ≤ k → k < end → slice_get values k ≡ Some chp) →
    short ≡ is_short chp → short ≡ true → PassUpTo values from end
more_pass values from at end chp short was more same is passes =
    let begin = was.from_there in
    record {
      from_there = omega arith;
      each = λ k low high. elim (cases_lt k at) [
        | inl before ↦ was.each k low before
        | inr here ↦ ap is_short (get_or_from_slice_get values k chp empty (same k (omega arith) high))
            ∙ (sym is ∙ passes)
      ];
    }

pub all_passed : (values : List Properties) (from at to : ℕ) → PassUpTo values from at → to ≤ at → to ≤ length values →
    list_all is_short (slice_range values from to) ≡ true
all_passed values from at to was end within =
    let len = length-between values from to within in
    all_pass is_short (slice_range values from to) empty (λ i low.
    let inside : i < to - from = omega arith in
    ap is_short (range_at values from to i empty inside) ∙ was.each (from + i) (omega arith) (omega arith))

pub one_long : (values : List Properties) (from at to : ℕ) (chp : Properties) (short : Bool) → from ≤ at → at < to →
    to ≤ length values → slice_get values at ≡ Some chp → short ≡ is_short chp → short ≡ false →
    list_all is_short (slice_range values from to) ≡ false
one_long values from at to chp short begin low within there is fails =
    let len = length-between values from to within in
    let place : from + (at - from) ≡ at = omega arith in
    list_all_at is_short (slice_range values from to) (at - from) empty (omega arith)
    (ap is_short (range_at values from to (at - from) empty (omega arith)
    ∙ (ap (λ k. get_or values k empty) place ∙ get_or_from_slice_get values at chp empty there)) ∙ (sym is ∙ fails))

-- ---- the modifier that strikes

strike_entry : IsMapEntry character_groups (0x0837, 1 ∷ [])
strike_entry = record {
  property = record {
    entry = record { some = omega arith; word = omega arith; size = refl };
    held = refl;
    sets = refl;
  };
  bytes = one_byte 1 (omega arith);
}

pub striking_formed : IsFormedModifier striking
striking_formed = record {
  chp = stay_formed character_groups empty (0x0837, 1 ∷ []) (IsPropertyMap-empty character_groups) strike_entry;
  pap = IsPropertyMap-empty paragraph_groups;
}
