-- Bookmarks as they are read: where their parts break their rule, and what they spell.
use Rattle.std.proofs.Common.{◌≡◌, ◌≢◌, ◌⊎◌, ◌∙◌, inl, inr, refl, ap, subst, ℕ, zero, suc, ◌+◌, ◌*◌, ◌^◌, ◌<◌, ◌≤◌}
use Rattle.std.proofs.Common.{List, [], ◌∷◌}
use Rattle.std.proofs.Common.{◌++◌, Bool, true, Option, length, arith, add-one}
use Rattle.std.specs.List.{filter}
use Rattle.std.proofs.lemmas.Bool.{cases_lt}
use Rattle.std.specs.Prelude.{All, nat_lt}
use Rattle.std.proofs.lemmas.Bool.Decides.{nat_tests}
use Rattle.std.proofs.lemmas.List.Elements.{filter-append, All-filter, All-push}
use Rattle.doc_bits.specs.Number.{u16_at, AreBytes}
use Rattle.doc_bits.proofs.Public.{number_at-bound, least_same, least_either}
use Rattle.doc_bits.specs.Plc.{IsPlcOf, plc_cp}
use Rattle.doc_bits.specs.Rules.{Nowhere, IsLeast, LeastOrNone, lesser_of}
use Rattle.doc_parts.specs.Tabulated.{tabulate}
use Rattle.doc_parts.specs.BookmarkParts.{bookmark_count, bookmark_name_place, HasNameFront, IsWholeName, AreWholeNames}
use Rattle.doc_parts.specs.BookmarkParts.{IsWrongCount}
use Rattle.doc_parts.specs.BookmarkParts.{FillNames, HasWrongCount, AreWrongNames, BreaksNames, end_index, start_entry}
use Rattle.doc_parts.specs.BookmarkParts.{BreaksStarts, BookmarkParts, bookmark_at, is_kept_bookmark}
use Rattle.doc_parts.specs.BookmarkParts.{kept_bookmarks, bookmarks_of, bookmark_name_at, HasNames, BreaksParts}
use Rattle.doc_parts.specs.BookmarkParts.{AreValidParts}
use Rattle.doc_parts.specs.BookmarkParts.{parts_at}
use Rattle.document_bookmarks.specs.declared.bookmark_order.Bookmark.{Bookmark}
use Rattle.document_bookmarks.specs.Order.{in_order}
use Rattle.doc_parts.specs.Table.{IsMalformedPart}
use Rattle.document_bookmarks.specs.Bookmarks.{bookmark_cmp, HasFileNumbers}
use Rattle.std.proofs.lemmas.List.{length-append}

-- ---- lists by their places

pub tabulate-next : {A : Type 0} (f : ℕ → A) (n : ℕ) → tabulate f (n + 1) ≡ tabulate f n ++ f n ∷ []
unfolding tabulate
tabulate-next f n = rw (add-one n) refl

-- one more entry, where some are kept
pub kept-next : {A : Type 0} (p : A → Bool) (f : ℕ → A) (n : ℕ) →
    filter p (tabulate f (n + 1)) ≡ filter p (tabulate f n) ++ filter p (f n ∷ [])
kept-next p f n = ap (filter p) (tabulate-next f n) ∙ filter-append p (tabulate f n) (f n ∷ [])

-- ---- the names

pub name_place-next : (names : List ℕ) (k : ℕ) →
    bookmark_name_place names (k + 1) ≡ bookmark_name_place names k + 2 + 2 * u16_at names (bookmark_name_place names k)
unfolding bookmark_name_place
name_place-next names k = rw (add-one k) refl

-- a name that is whole has a right count
whole_or_wrong : (names : List ℕ) (at k p : ℕ) → IsWholeName names k → IsWrongCount names at k p → ⊥
whole_or_wrong names at k p whole wrong = elim wrong.wrong [
  | inl none ↦ omega (arith, whole.some)
  | inr many ↦ omega (arith, whole.short)
]

pub none_of_whole : (names : List ℕ) (at : ℕ) → AreWholeNames names (bookmark_count names) →
    (p : ℕ) → ¬ (HasWrongCount names at p)
none_of_whole names at whole p w = whole_or_wrong names at w.entry p (whole w.entry w.below) w.broken

-- no count is wrong where the names stop with one that is not whole, but has no wrong count
none_wrong_count : (names : List ℕ) (k : ℕ) → AreWholeNames names k → ¬ (IsWholeName names k) →
    Nowhere (IsWrongCount names 0 k) → (p : ℕ) → ¬ (HasWrongCount names 0 p)
none_wrong_count names k whole stop right p w = elim (cases_lt w.entry k) [
  | inl low ↦ whole_or_wrong names 0 w.entry p (whole w.entry low) w.broken
  | inr high ↦ elim (cases_lt k w.entry) [
    | inl over ↦ stop (w.broken.before k over)
    | inr same ↦
        let e : w.entry ≡ k = omega arith in right p (subst (λ (i : ℕ). IsWrongCount names 0 i p) e w.broken)
  ]
]

-- names that are wrong as a whole break the rule at the part
part_least : (names : List ℕ) (at : ℕ) → AreWrongNames names → IsLeast (λ a b. a ≤ b) (BreaksNames names at) at
part_least names at wrong = record {
  broken = inl (refl, wrong);
  least = λ p w. elim w [
    | inl x ↦ let here = x.0 in omega arith
    | inr y ↦ let here = y.broken.here in omega arith
  ];
}

-- a count that is not there
pub no_count : (names : List ℕ) (at k : ℕ) → k < bookmark_count names → AreWholeNames names k →
    length names < bookmark_name_place names k + 2 → IsLeast (λ a b. a ≤ b) (BreaksNames names at) at
no_count names at k below whole short =
    let stop : ¬ (IsWholeName names k) = λ w. omega (arith, w.within, name_place-next names k, short) in
    part_least names at (inr (
      λ fill. stop (fill.whole k below),
      none_wrong_count names k whole stop (λ p w. omega (arith, w.there, short)),
    ))

-- a name that leaves the part
pub no_name : (names : List ℕ) (at k : ℕ) → k < bookmark_count names → AreWholeNames names k →
    0 < u16_at names (bookmark_name_place names k) → u16_at names (bookmark_name_place names k) ≤ 255 →
    length names < bookmark_name_place names (k + 1) → IsLeast (λ a b. a ≤ b) (BreaksNames names at) at
no_name names at k below whole some few long =
    let stop : ¬ (IsWholeName names k) = λ w. omega (arith, w.within, long) in
    part_least names at (inr (
      λ fill. stop (fill.whole k below),
      none_wrong_count names k whole stop (λ p w. elim w.wrong [
        | inl none ↦ omega (arith, none, some)
        | inr many ↦ omega (arith, many, few)
      ]),
    ))

-- a wrong count
pub wrong_count : (names : List ℕ) (at k : ℕ) → k < bookmark_count names → HasNameFront names →
    AreWholeNames names k → bookmark_name_place names k + 2 ≤ length names →
    (u16_at names (bookmark_name_place names k) ≡ 0) ⊎ (255 < u16_at names (bookmark_name_place names k)) →
    IsLeast (λ a b. a ≤ b) (BreaksNames names at) (at + bookmark_name_place names k)
wrong_count names at k below front whole there wrong =
    let mine : IsWrongCount names at k (at + bookmark_name_place names k) =
    record { before = whole; there = there; wrong = wrong; here = refl } in
    record {
      broken = inr (record { entry = k; below = below; broken = mine });
      least = λ p w. elim w [
        | inl x ↦ elim x.1 [
          | inl bad ↦ absurd (bad front)
          | inr other ↦ absurd (other.1 (bookmark_name_place names k) (record {
            entry = k;
            below = below;
            broken = record { before = whole; there = there; wrong = wrong; here = omega arith };
          }))
        ]
        | inr y ↦ elim (cases_lt y.entry k) [
          | inl low ↦ absurd (whole_or_wrong names at y.entry p (whole y.entry low) y.broken)
          | inr high ↦ elim (cases_lt k y.entry) [
            | inl over ↦
                absurd (whole_or_wrong names at k (at + bookmark_name_place names k) (y.broken.before k over) mine)
            | inr same ↦
                let e : y.entry ≡ k = omega arith in
                let here : p ≡ at + bookmark_name_place names k =
                subst (λ (i : ℕ). p ≡ at + bookmark_name_place names i) e y.broken.here in
                omega (arith, here)
          ]
        ]
      ];
    }

-- names that fill the part
pub right_names : (names : List ℕ) (at : ℕ) → HasNameFront names → FillNames names → Nowhere (BreaksNames names at)
right_names names at front filled p w = elim w [
  | inl x ↦ elim x.1 [ inl bad ↦ bad front | inr other ↦ other.0 filled ]
  | inr y ↦ none_of_whole names at filled.whole p y
]

-- names with bytes behind them
pub rest_behind : (names : List ℕ) (at : ℕ) → AreWholeNames names (bookmark_count names) →
    bookmark_name_place names (bookmark_count names) ≢ length names → IsLeast (λ a b. a ≤ b) (BreaksNames names at) at
rest_behind names at whole differ =
    part_least names at (inr (λ fill. differ fill.end, none_of_whole names 0 whole))

-- one more whole name
pub whole_more : (names : List ℕ) (k : ℕ) → AreWholeNames names k → IsWholeName names k → AreWholeNames names (k + 1)
whole_more names k whole here j low = elim (cases_lt j k) [
  | inl less ↦ whole j less
  | inr more ↦ let e : k ≡ j = omega arith in subst (IsWholeName names) e here
]

-- ---- the starts

pub right_starts : (starts : List ℕ) (at count : ℕ) → IsPlcOf starts 4 count →
    ((j : ℕ) → j < count → end_index starts count j < count) → Nowhere (BreaksStarts starts at count)
right_starts starts at count whole each p w = elim w [
  | inl x ↦ x.1 whole
  | inr y ↦ let broken = y.1.broken in omega (arith, each y.1.entry y.1.below, broken.outside)
]

-- ---- what is read of a right part

-- a name is within the part
pub name_room : (names : List ℕ) (k : ℕ) → FillNames names → k < bookmark_count names →
    bookmark_name_place names k + 2 + 2 * u16_at names (bookmark_name_place names k) ≤ length names
name_room names k filled low = omega (arith, (filled.whole k low).within, name_place-next names k)

pub first_place : (names : List ℕ) → bookmark_name_place names 0 ≡ 6
unfolding bookmark_name_place
first_place names = refl

pub none_tabulated : {A : Type 0} (p : A → Bool) (f : ℕ → A) → filter p (tabulate f 0) ≡ []
unfolding tabulate
none_tabulated p f = refl

pub all_tabulated : {A : Type 0} (P : A → Type 0) (f : ℕ → A) (n : ℕ) → ((k : ℕ) → P (f k)) → All P (tabulate f n)
unfolding tabulate
all_tabulated P f zero each = λ k d low. absurd (omega (arith, low))
all_tabulated P f (suc n) each = All-push P (tabulate f n) (f n) (all_tabulated P f n each) (each n)

-- what bytes spell has the numbers of a file
pub kept_numbers : (parts : BookmarkParts) (main_len : ℕ) → AreBytes parts.names → AreBytes parts.starts →
    AreBytes parts.ends → All HasFileNumbers (kept_bookmarks parts main_len)
kept_numbers parts main_len names starts ends =
    All-filter (is_kept_bookmark main_len) HasFileNumbers (tabulate (bookmark_at parts) (bookmark_count parts.names))
    (all_tabulated HasFileNumbers (bookmark_at parts) (bookmark_count parts.names) (λ k. record {
      units = all_tabulated (λ u. u < 2 ^ 16)
          (λ i. u16_at parts.names (bookmark_name_place parts.names k + 2 + 2 * i))
          (u16_at parts.names (bookmark_name_place parts.names k))
          (λ i. number_at-bound parts.names (bookmark_name_place parts.names k + 2 + 2 * i) 2 names);
      from = number_at-bound parts.starts (4 * k) 4 starts;
      to = number_at-bound parts.ends (4 * end_index parts.starts (bookmark_count parts.names) k) 4 ends;
      flags = number_at-bound parts.starts (start_entry (bookmark_count parts.names) k + 2) 2 starts;
    }))

-- what was read of a bookmark is that of the parts
pub same_bookmark : (parts : BookmarkParts) (k count place units from to flags : ℕ) (name : List ℕ) →
    count ≡ bookmark_count parts.names → place ≡ bookmark_name_place parts.names k → units ≡ u16_at parts.names place →
    name ≡ tabulate (λ i. u16_at parts.names (place + 2 + 2 * i)) units → from ≡ plc_cp parts.starts k →
    to ≡ plc_cp parts.ends (end_index parts.starts count k) → flags ≡ u16_at parts.starts (start_entry count k + 2) →
    let read : Bookmark = record { name = name; from = from; to = to; flags = flags } in read ≡ bookmark_at parts k
same_bookmark parts k count place units from to flags name many here long spelled begins ends flagged =
    let names : List ℕ = parts.names in
    let n : name ≡ bookmark_name_at names k =
    spelled ∙ (ap (λ (u : ℕ). tabulate (λ i. u16_at names (place + 2 + 2 * i)) u) long
    ∙ ap (λ (p : ℕ). tabulate (λ i. u16_at names (p + 2 + 2 * i)) (u16_at names p)) here) in
    let t : to ≡ plc_cp parts.ends (end_index parts.starts (bookmark_count names) k) =
    ends ∙ ap (λ (c : ℕ). plc_cp parts.ends (end_index parts.starts c k)) many in
    let f : flags ≡ u16_at parts.starts (start_entry (bookmark_count names) k + 2) =
    flagged ∙ ap (λ (c : ℕ). u16_at parts.starts (start_entry c k + 2)) many in
    λ i. record { name = n i; from = begins i; to = t i; flags = f i }

-- names that are there are read
yes_lt : (a b : ℕ) → a < b → nat_lt a b ≡ true
yes_lt a b h = grind (arith, nat_tests)

pub read_some : (parts : BookmarkParts) (main_len : ℕ) → 6 < length parts.names →
    bookmarks_of parts main_len ≡ in_order bookmark_cmp (kept_bookmarks parts main_len)
read_some parts main_len some = rw (yes_lt 6 (length parts.names) some) refl

-- ---- the least place of the three parts

pub parts_judged : (parts : BookmarkParts) (count : ℕ) (names starts ends : Option ℕ) →
    6 < length parts.names → count ≡ bookmark_count parts.names →
    LeastOrNone (BreaksNames parts.names parts.names_at) names →
    LeastOrNone (BreaksStarts parts.starts parts.starts_at count) starts →
    LeastOrNone (IsMalformedPart (IsPlcOf parts.ends 0 count) parts.ends_at) ends →
    LeastOrNone (λ place. HasNames parts.names × BreaksParts parts place) (lesser_of names (lesser_of starts ends))
parts_judged parts count names starts ends some many one two three =
    let here : ℕ = bookmark_count parts.names in
    let begin : LeastOrNone (BreaksStarts parts.starts parts.starts_at here) starts =
    subst (λ (n : ℕ). LeastOrNone (BreaksStarts parts.starts parts.starts_at n) starts) many two in
    let last : LeastOrNone (IsMalformedPart (IsPlcOf parts.ends 0 here) parts.ends_at) ends =
    subst (λ (n : ℕ). LeastOrNone (IsMalformedPart (IsPlcOf parts.ends 0 n) parts.ends_at) ends) many three in
    least_same (BreaksParts parts) (λ place. HasNames parts.names × BreaksParts parts place)
    (lesser_of names (lesser_of starts ends)) (λ p h. (some, h)) (λ p h. h.1)
    (least_either (BreaksNames parts.names parts.names_at)
    (λ p. BreaksStarts parts.starts parts.starts_at here p ⊎ IsMalformedPart (IsPlcOf parts.ends 0 here) parts.ends_at
    p)
    names (lesser_of starts ends) one
    (least_either (BreaksStarts parts.starts parts.starts_at here)
    (IsMalformedPart (IsPlcOf parts.ends 0 here) parts.ends_at) starts ends begin last))

stable_le : (a b : ℕ) → ((a ≤ b → ⊥) → ⊥) → a ≤ b
stable_le a b h = elim (cases_lt b a) [ inl low ↦ absurd (h (λ le. omega (arith, le, low))) | inr le ↦ le ]

stable_eq : (a b : ℕ) → ((a ≡ b → ⊥) → ⊥) → a ≡ b
stable_eq a b h =
    let upto : a ≤ b = stable_le a b (λ no. h (λ e. no (omega (arith, e)))) in
    let over : b ≤ a = stable_le b a (λ no. h (λ e. no (omega (arith, e)))) in
    omega (arith, upto, over)

-- a wrong count of a part that is further on
moved_count : (names : List ℕ) (at p : ℕ) → HasWrongCount names 0 p → HasWrongCount names at (at + p)
moved_count names at p w = record {
  entry = w.entry;
  below = w.below;
  broken = record {
    before = w.broken.before;
    there = w.broken.there;
    wrong = w.broken.wrong;
    here = let here = w.broken.here in omega arith;
  };
}

-- parts that break no rule are right
pub right_from_none : (parts : BookmarkParts) → HasNames parts.names →
    Nowhere (λ place. HasNames parts.names × BreaksParts parts place) → AreValidParts parts
right_from_none parts some none =
    let count : ℕ = bookmark_count parts.names in
    let front : (¬ (HasNameFront parts.names)) → ⊥ = λ no. none parts.names_at (some, inl (inl (refl, inl no))) in
    let counts : (p : ℕ) → ¬ (HasWrongCount parts.names 0 p) = λ p w.
    none (parts.names_at + p) (some, inl (inr (moved_count parts.names parts.names_at p w))) in
    let filled : (¬ (FillNames parts.names)) → ⊥ = λ no.
    none parts.names_at (some, inl (inl (refl, inr (no, counts)))) in
    let starts : IsPlcOf parts.starts 4 count =
    stable_eq (length parts.starts) (4 + count * 8) (λ no.
    none parts.starts_at (some, inr (inl (inl (refl, no))))) in
    record {
      front = record {
        wide = stable_eq (u16_at parts.names 0) 0xFFFF (λ no. front (λ f. no f.wide));
        extra = stable_eq (u16_at parts.names 4) 0 (λ no. front (λ f. no f.extra));
      };
      filled = record {
        whole = λ k low. record {
          some = stable_le 1 (u16_at parts.names (bookmark_name_place parts.names k))
              (λ no. filled (λ f. no (f.whole k low).some));
          short = stable_le (u16_at parts.names (bookmark_name_place parts.names k)) 255
              (λ no. filled (λ f. no (f.whole k low).short));
          within = stable_le (bookmark_name_place parts.names (k + 1)) (length parts.names)
              (λ no. filled (λ f. no (f.whole k low).within));
        };
        end = stable_eq (bookmark_name_place parts.names count) (length parts.names) (λ no. filled (λ f. no f.end));
      };
      starts = starts;
      indexes = λ k low. elim (cases_lt (end_index parts.starts count k) count) [
        | inl within ↦ within
        | inr out ↦
            absurd (none (parts.starts_at + start_entry count k) (
              some,
              inr (inl (inr (
                starts,
                record {
                  entry = k;
                  below = low;
                  broken = record { outside = out; here = refl };
                },
              ))),
            ))
      ];
      ends = stable_eq (length parts.ends) (4 + count * 4) (λ no. none parts.ends_at (some, inr (inr (refl, no))));
    }

-- the same parts at other places
pub right_elsewhere : (names starts ends at other : List ℕ) → AreValidParts (parts_at names starts ends at) →
    AreValidParts (parts_at names starts ends other)
right_elsewhere names starts ends at other right = record {
  front = right.front;
  filled = right.filled;
  starts = right.starts;
  indexes = right.indexes;
  ends = right.ends;
}

pub all_tabulated_below : {A : Type 0} (P : A → Type 0) (f : ℕ → A) (n : ℕ) → ((k : ℕ) → k < n → P (f k)) → All P
    (tabulate f n)
unfolding tabulate
all_tabulated_below P f zero each = λ k d low. absurd (omega (arith, low))
all_tabulated_below P f (suc n) each =
    All-push P (tabulate f n) (f n) (all_tabulated_below P f n (λ k low. each k (omega (arith, low)))) (each n (omega
    arith))

pub length-tabulate : {A : Type 0} (f : ℕ → A) (n : ℕ) → length (tabulate f n) ≡ n
unfolding tabulate
length-tabulate f zero = refl
length-tabulate f (suc n) =
    let before = length-tabulate f n in
    let both = length-append (tabulate f n) (f n ∷ []) in
    omega (arith, before, both)
