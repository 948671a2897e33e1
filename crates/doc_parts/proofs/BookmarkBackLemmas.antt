-- Printed bookmarks are read back.
use Rattle.std.proofs.Common.{◌≡◌, ◌∙◌, refl, sym, ap, ℕ, zero, suc, ◌+◌, ◌*◌, ◌^◌, ◌<◌, ◌≤◌, List, []}
use Rattle.std.proofs.Common.{◌∷◌, ◌++◌, length, map, take, drop, Some, arith, append_assoc, length-append, add-one}
use Rattle.std.specs.Prelude.{All, slice_get, slice_range}
use Rattle.std.specs.List.{flat_map}
use Rattle.std.proofs.lemmas.Grind.{flat_map-append}
use Rattle.std.proofs.lemmas.List.{append-nil, map-append, take_all, take-append-drop}
use Rattle.std.proofs.lemmas.List.Elements.{All-head, All-tail, All-weaker}
use Rattle.std.proofs.lemmas.Option.{same_Some}
use Rattle.doc_bits.specs.Number.{number_at, u16_at, number_bytes}
use Rattle.doc_bits.proofs.Public.{length-number_bytes, number_at-number_bytes, number_at-read_back, number_at-after}
use Rattle.doc_bits.proofs.Public.{number_at-range, All_at, there_is}
use Rattle.doc_bits.specs.Plc.{PlcPart, plc_entry}
use Rattle.document_bookmarks.specs.declared.bookmark_order.Bookmark.{Bookmark}
use Rattle.doc_parts.specs.Tabulated.{tabulate}
use Rattle.doc_parts.specs.BookmarkParts.{bookmark_count, bookmark_name_place, bookmark_name_at, HasNameFront}
use Rattle.doc_parts.specs.BookmarkParts.{IsWholeName}
use Rattle.doc_parts.specs.BookmarkParts.{FillNames, start_entry}
use Rattle.doc_parts.specs.declared.bookmark_print.Start.{Start}
use Rattle.doc_parts.specs.PrintedBookmarks.{bookmark_name_bytes, names_front, names_bytes, start_form, bookmark_start}
use Rattle.doc_parts.specs.PrintedBookmarks.{starts_of}
use Rattle.document_bookmarks.proofs.Public.{there_at}

-- ---- lists by their places

tabulate-first : {A : Type 0} (f : ℕ → A) (n : ℕ) → tabulate f (suc n) ≡ f 0 ∷ tabulate (λ i. f (suc i)) n
unfolding tabulate
tabulate-first f zero = refl
tabulate-first {A} f (suc n) = ap (λ (xs : List A). xs ++ f (suc n) ∷ []) (tabulate-first f n)

pub tabulate_is : {A : Type 0} (f : ℕ → A) (xs : List A) → ((i : ℕ) (x : A) → slice_get xs i ≡ Some x → f i ≡ x) →
    tabulate f (length xs) ≡ xs
unfolding tabulate
tabulate_is f [] each = refl
tabulate_is {A} f (x ∷ xs) each =
    tabulate-first f (length xs)
    ∙ (ap (λ (y : A). y ∷ tabulate (λ i. f (suc i)) (length xs)) (each 0 x refl)
    ∙ ap (λ (ys : List A). x ∷ ys) (tabulate_is (λ i. f (suc i)) xs (λ i y here. each (suc i) y here)))

-- a list around a place
pub split_list : {A : Type 0} (xs : List A) (k : ℕ) (x : A) → slice_get xs k ≡ Some x →
    xs ≡ take k xs ++ (x ∷ drop (suc k) xs)
split_list [] k x here = absurd (cc here)
split_list {A} (y ∷ ys) zero x here = ap (λ (z : A). z ∷ ys) (same_Some y x here)
split_list {A} (y ∷ ys) (suc k) x here = ap (λ (zs : List A). y ∷ zs) (split_list ys k x here)

pub take_next : {A : Type 0} (xs : List A) (k : ℕ) (x : A) → slice_get xs k ≡ Some x →
    take (suc k) xs ≡ take k xs ++ x ∷ []
take_next [] k x here = absurd (cc here)
take_next {A} (y ∷ ys) zero x here = ap (λ (z : A). z ∷ []) (same_Some y x here)
take_next {A} (y ∷ ys) (suc k) x here = ap (λ (zs : List A). y ∷ zs) (take_next ys k x here)

-- ---- the front of the names

pub length-front : (count : ℕ) → length (names_front count) ≡ 6
length-front count =
    omega (
      arith,
      length-append (number_bytes 2 0xFFFF) (number_bytes 2 count ++ number_bytes 2 0),
      length-append (number_bytes 2 count) (number_bytes 2 0),
      length-number_bytes 2 0xFFFF,
      length-number_bytes 2 count,
      length-number_bytes 2 0,
    )

pub front_wide : (count : ℕ) (rest : List ℕ) → u16_at (names_front count ++ rest) 0 ≡ 0xFFFF
front_wide count rest =
    let a : List ℕ = number_bytes 2 0xFFFF in
    let b : List ℕ = number_bytes 2 count ++ number_bytes 2 0 in
    ap (λ (xs : List ℕ). number_at xs 0 2) (append_assoc a b rest)
    ∙ number_at-number_bytes 2 0xFFFF (b ++ rest) (omega arith)

pub front_count : (count : ℕ) (rest : List ℕ) → count < 2 ^ 16 → u16_at (names_front count ++ rest) 2 ≡ count
front_count count rest few =
    let a : List ℕ = number_bytes 2 0xFFFF in
    let b : List ℕ = number_bytes 2 count in
    let c : List ℕ = number_bytes 2 0 in
    let small : count < 256 ^ 2 = omega arith in
    ap (λ (xs : List ℕ). number_at xs 2 2) (append_assoc a (b ++ c) rest ∙ ap (λ (xs : List ℕ). a ++ xs)
    (append_assoc b c rest))
    ∙ (ap (λ (n : ℕ). number_at (a ++ (b ++ (c ++ rest))) n 2) (sym (length-number_bytes 2 0xFFFF))
    ∙ number_at-read_back 2 count a (c ++ rest) small)

pub front_extra : (count : ℕ) (rest : List ℕ) → u16_at (names_front count ++ rest) 4 ≡ 0
front_extra count rest =
    let a : List ℕ = number_bytes 2 0xFFFF in
    let b : List ℕ = number_bytes 2 count in
    let c : List ℕ = number_bytes 2 0 in
    let four : length (a ++ b) ≡ 4 =
    omega (arith, length-append a b, length-number_bytes 2 0xFFFF, length-number_bytes 2 count) in
    let parts : (a ++ (b ++ c)) ++ rest ≡ (a ++ b) ++ (c ++ rest) =
    ap (λ (xs : List ℕ). xs ++ rest) (sym (append_assoc a b c)) ∙ append_assoc (a ++ b) c rest in
    ap (λ (xs : List ℕ). number_at xs 4 2) parts
    ∙ (ap (λ (n : ℕ). number_at ((a ++ b) ++ (c ++ rest)) n 2) (sym four)
    ∙ number_at-read_back 2 0 (a ++ b) rest (omega arith))

-- ---- the names

-- a name with what is before and behind it
named_parts : (front : List ℕ) (list : List Bookmark) (k : ℕ) (x : Bookmark) → slice_get list k ≡ Some x →
    front ++ names_bytes list
    ≡ (front ++ names_bytes (take k list)) ++ (number_bytes 2 (length x.name)
    ++ (flat_map (number_bytes 2) x.name ++ names_bytes (drop (suc k) list)))
named_parts front list k x here =
    let name : Bookmark → List ℕ = λ b. bookmark_name_bytes b.name in
    let before : List ℕ = names_bytes (take k list) in
    let behind : List ℕ = names_bytes (drop (suc k) list) in
    let count : List ℕ = number_bytes 2 (length x.name) in
    let units : List ℕ = flat_map (number_bytes 2) x.name in
    let whole : names_bytes list ≡ before ++ ((count ++ units) ++ behind) =
    ap names_bytes (split_list list k x here) ∙ flat_map-append name (take k list) (x ∷ drop (suc k) list) in
    ap (λ (xs : List ℕ). front ++ xs) whole
    ∙ (sym (append_assoc front before ((count ++ units) ++ behind))
    ∙ ap (λ (xs : List ℕ). (front ++ before) ++ xs) (append_assoc count units behind))

count_there : (front : List ℕ) (list : List Bookmark) (k : ℕ) (x : Bookmark) → slice_get list k ≡ Some x →
    length x.name < 2 ^ 16 →
    u16_at (front ++ names_bytes list) (length (front ++ names_bytes (take k list))) ≡ length x.name
count_there front list k x here short =
    let before : List ℕ = front ++ names_bytes (take k list) in
    let behind : List ℕ = flat_map (number_bytes 2) x.name ++ names_bytes (drop (suc k) list) in
    let small : length x.name < 256 ^ 2 = omega arith in
    ap (λ (xs : List ℕ). number_at xs (length before) 2) (named_parts front list k x here)
    ∙ number_at-read_back 2 (length x.name) before behind small

length-units : (name : List ℕ) → length (flat_map (number_bytes 2) name) ≡ 2 * length name
length-units [] = refl
length-units (u ∷ us) =
    omega (
      arith,
      length-append (number_bytes 2 u) (flat_map (number_bytes 2) us),
      length-number_bytes 2 u,
      length-units us,
    )

-- the length of the names up to one more
length-next : (front : List ℕ) (list : List Bookmark) (k : ℕ) (x : Bookmark) → slice_get list k ≡ Some x →
    length (front ++ names_bytes (take (suc k) list))
    ≡ length (front ++ names_bytes (take k list)) + 2 + 2 * length x.name
length-next front list k x here =
    let name : Bookmark → List ℕ = λ b. bookmark_name_bytes b.name in
    let before : List ℕ = names_bytes (take k list) in
    let next : names_bytes (take (suc k) list) ≡ before ++ (bookmark_name_bytes x.name ++ []) =
    ap names_bytes (take_next list k x here) ∙ flat_map-append name (take k list) (x ∷ []) in
    let count : List ℕ = number_bytes 2 (length x.name) in
    let units : List ℕ = flat_map (number_bytes 2) x.name in
    omega (
      arith,
      ap length next,
      length-append front (names_bytes (take (suc k) list)),
      length-append front before,
      length-append before (bookmark_name_bytes x.name ++ []),
      length-append (bookmark_name_bytes x.name) [],
      length-append count units,
      length-number_bytes 2 (length x.name),
      length-units x.name,
    )

abbrev pub IsShort : Bookmark → Type 0
IsShort b = length b.name < 2 ^ 16

pub place_there : (front : List ℕ) (list : List Bookmark) (k : ℕ) → length front ≡ 6 → All IsShort list →
    k ≤ length list → bookmark_name_place (front ++ names_bytes list) k ≡ length (front ++ names_bytes (take k list))
unfolding bookmark_name_place
place_there front list zero six short within = omega (arith, length-append front [], six)
place_there front list (suc k) six short within =
    let there = there_is list k (omega (arith, within)) in
    let x : Bookmark = there.0 in
    let names : List ℕ = front ++ names_bytes list in
    let here : bookmark_name_place names k ≡ length (front ++ names_bytes (take k list)) =
    place_there front list k six short (omega (arith, within)) in
    let few : length x.name < 2 ^ 16 = All_at IsShort list k x short there.1 in
    let count : u16_at names (bookmark_name_place names k) ≡ length x.name =
    ap (λ (n : ℕ). u16_at names n) here ∙ count_there front list k x there.1 few in
    omega (arith, here, count, length-next front list k x there.1)

-- ---- the units of a name

units_at : (name rest : List ℕ) (i unit : ℕ) → All (λ u. u < 2 ^ 16) name → slice_get name i ≡ Some unit →
    number_at (flat_map (number_bytes 2) name ++ rest) (2 * i) 2 ≡ unit
units_at [] rest i unit small here = absurd (cc here)
units_at (y ∷ ys) rest zero unit small here =
    let one : y < 2 ^ 16 = All-head (λ u. u < 2 ^ 16) y ys small in
    let low : y < 256 ^ 2 = omega arith in
    let none : 2 * 0 ≡ 0 = omega arith in
    ap (λ (xs : List ℕ). number_at xs 0 2) (append_assoc (number_bytes 2 y) (flat_map (number_bytes 2) ys) rest)
    ∙ (number_at-number_bytes 2 y (flat_map (number_bytes 2) ys ++ rest) low ∙ same_Some y unit here)
units_at (y ∷ ys) rest (suc i) unit small here =
    let place : 2 * suc i ≡ length (number_bytes 2 y) + 2 * i = omega (arith, length-number_bytes 2 y) in
    let later = units_at ys rest i unit (All-tail (λ u. u < 2 ^ 16) y ys small) here in
    rw (append_assoc (number_bytes 2 y) (flat_map (number_bytes 2) ys) rest, place)
    (number_at-after (number_bytes 2 y) (flat_map (number_bytes 2) ys ++ rest) (2 * i) 2 ∙ later)

pub name_there : (front : List ℕ) (list : List Bookmark) (k : ℕ) (x : Bookmark) → length front ≡ 6 →
    All IsShort list → All (λ b. All (λ u. u < 2 ^ 16) b.name) list → slice_get list k ≡ Some x →
    bookmark_name_at (front ++ names_bytes list) k ≡ x.name
name_there front list k x six short small here =
    let names : List ℕ = front ++ names_bytes list in
    let before : List ℕ = front ++ names_bytes (take k list) in
    let count : List ℕ = number_bytes 2 (length x.name) in
    let units : List ℕ = flat_map (number_bytes 2) x.name in
    let behind : List ℕ = names_bytes (drop (suc k) list) in
    let below = (there_at list k x here).0 in
    let place : bookmark_name_place names k ≡ length before = place_there front list k six short (omega (arith, below))
    in
    let long : u16_at names (bookmark_name_place names k) ≡ length x.name =
    ap (λ (n : ℕ). u16_at names n) place
    ∙ count_there front list k x here (All_at IsShort list k x short here) in
    let parts : names ≡ (before ++ count) ++ (units ++ behind) =
    named_parts front list k x here ∙ sym (append_assoc before count (units ++ behind)) in
    let each : (i unit : ℕ) → slice_get x.name i ≡ Some unit →
    u16_at names (bookmark_name_place names k + 2 + 2 * i) ≡ unit = λ i unit it.
    let at : bookmark_name_place names k + 2 + 2 * i ≡ length (before ++ count) + 2 * i =
    omega (arith, place, length-append before count, length-number_bytes 2 (length x.name)) in
    ap (λ (n : ℕ). number_at names n 2) at
    ∙ (ap (λ (xs : List ℕ). number_at xs (length (before ++ count) + 2 * i) 2) parts
    ∙ (number_at-after (before ++ count) (units ++ behind) (2 * i) 2
    ∙ units_at x.name behind i unit (All_at (λ (b : Bookmark). All (λ u. u < 2 ^ 16) b.name) list k x small here) it))
    in
    ap (λ (n : ℕ). tabulate (λ i. u16_at names (bookmark_name_place names k + 2 + 2 * i)) n) long
    ∙ tabulate_is (λ i. u16_at names (bookmark_name_place names k + 2 + 2 * i)) x.name each

-- ---- the names break no rule

abbrev pub IsNamed : Bookmark → Type 0
IsNamed b = (1 ≤ length b.name) × (length b.name ≤ 255)

-- the names up to one more are within all of them
upto_all : (front : List ℕ) (list : List Bookmark) (k : ℕ) →
    length (front ++ names_bytes (take k list)) ≤ length (front ++ names_bytes list)
upto_all front list k =
    let name : Bookmark → List ℕ = λ b. bookmark_name_bytes b.name in
    let whole : names_bytes list ≡ names_bytes (take k list) ++ names_bytes (drop k list) =
    ap names_bytes (sym (take-append-drop k list)) ∙ flat_map-append name (take k list) (drop k list) in
    omega (
      arith,
      length-append front (names_bytes (take k list)),
      length-append front (names_bytes list),
      ap length whole,
      length-append (names_bytes (take k list)) (names_bytes (drop k list)),
    )

name_whole : (front : List ℕ) (list : List Bookmark) (k : ℕ) → length front ≡ 6 → All IsShort list →
    All IsNamed list → k < length list → IsWholeName (front ++ names_bytes list) k
name_whole front list k six short named below =
    let there = there_is list k below in
    let x : Bookmark = there.0 in
    let names : List ℕ = front ++ names_bytes list in
    let place : bookmark_name_place names k ≡ length (front ++ names_bytes (take k list)) =
    place_there front list k six short (omega (arith, below)) in
    let count : u16_at names (bookmark_name_place names k) ≡ length x.name =
    ap (λ (n : ℕ). u16_at names n) place
    ∙ count_there front list k x there.1 (All_at IsShort list k x short there.1) in
    let right = All_at IsNamed list k x named there.1 in
    record {
      some = omega (arith, count, right.0);
      short = omega (arith, count, right.1);
      within = omega (
        arith,
        place_there front list (suc k) six short below,
        upto_all front list (suc k),
        ap (bookmark_name_place names) (add-one k),
      );
    }

pub names_filled : (list : List Bookmark) → length list < 2 ^ 16 → All IsNamed list →
    let names = names_front (length list) ++ names_bytes list in HasNameFront names × FillNames names
names_filled list few named =
    let front : List ℕ = names_front (length list) in
    let names : List ℕ = front ++ names_bytes list in
    let six : length front ≡ 6 = length-front (length list) in
    let short : All IsShort list =
    All-weaker IsNamed IsShort (λ b h. omega (arith, h.1)) list named in
    let count : bookmark_count names ≡ length list = front_count (length list) (names_bytes list) few in
    let all : take (length list) list ≡ list = take_all (length list) list (omega arith) in
    let end : bookmark_name_place names (length list) ≡ length names =
    place_there front list (length list) six short (omega arith)
    ∙ ap (λ (xs : List Bookmark). length (front ++ names_bytes xs)) all in (
      record {
        wide = front_wide (length list) (names_bytes list);
        extra = front_extra (length list) (names_bytes list);
      },
      record {
        whole = λ k low. name_whole front list k six short named (omega (arith, count, low));
        end = ap (bookmark_name_place names) count ∙ end;
      },
    )

-- ---- the starts

abbrev pub StartParts : List ℕ → ℕ → PlcPart
StartParts bytes count = record { bytes = bytes; size = 4; count = count }

pub start_there : (list before xs : List Bookmark) (k : ℕ) (x : Bookmark) → slice_get xs k ≡ Some x →
    slice_get (starts_of list before xs) k ≡ Some (bookmark_start list (before ++ take k xs) x)
unfolding starts_of
start_there list before [] k x here = absurd (cc here)
start_there list before (y ∷ ys) zero x here =
    let same : y ≡ x = same_Some y x here in
    rw (append-nil before) (ap (λ (b : Bookmark). Some (bookmark_start list before b)) same)
start_there list before (y ∷ ys) (suc k) x here =
    start_there list (before ++ y ∷ []) ys k x here
    ∙ ap (λ (zs : List Bookmark). Some (bookmark_start list zs x)) (append_assoc before (y ∷ []) (take k ys))

pub length-starts : (list before xs : List Bookmark) → length (starts_of list before xs) ≡ length xs
unfolding starts_of
length-starts list before [] = refl
length-starts list before (x ∷ xs) = omega (arith, length-starts list (before ++ x ∷ []) xs)

pub starts_cps : (list before xs : List Bookmark) →
    map start_form.cp_of (starts_of list before xs) ≡ map (λ (b : Bookmark). b.from) xs
unfolding starts_of
starts_cps list before [] = refl
starts_cps list before (x ∷ xs) =
    ap (λ (ns : List ℕ). x.from ∷ ns) (starts_cps list (before ++ x ∷ []) xs)

pub length-entry : (start : Start) → length (start_form.bytes_of start) ≡ 4
length-entry start =
    omega (
      arith,
      length-append (number_bytes 2 start.index) (number_bytes 2 start.flags),
      length-number_bytes 2 start.index,
      length-number_bytes 2 start.flags,
    )

-- the numbers beside a start
pub entry_numbers : (bytes : List ℕ) (count k index flags : ℕ) → index < 2 ^ 16 → flags < 2 ^ 16 →
    plc_entry (StartParts bytes count) k ≡ number_bytes 2 index ++ number_bytes 2 flags →
    (u16_at bytes (start_entry count k) ≡ index) × (u16_at bytes (start_entry count k + 2) ≡ flags)
entry_numbers bytes count k index flags small few e =
    let from : ℕ = 4 * (count + 1) + 4 * k in
    let low : index < 256 ^ 2 = omega arith in
    let less : flags < 256 ^ 2 = omega arith in
    let none : from + 0 ≡ from = omega arith in
    let one : number_at (slice_range bytes from (from + 4)) 0 2 ≡ index =
    ap (λ (xs : List ℕ). number_at xs 0 2) e ∙ number_at-number_bytes 2 index (number_bytes 2 flags) low in
    let two : number_at (slice_range bytes from (from + 4)) 2 2 ≡ flags =
    ap (λ (xs : List ℕ). number_at xs 2 2) (e ∙ ap (λ (xs : List ℕ). number_bytes 2 index ++ xs)
    (sym (append-nil (number_bytes 2 flags))))
    ∙ (ap (λ (n : ℕ). number_at (number_bytes 2 index ++ (number_bytes 2 flags ++ [])) n 2)
    (sym (length-number_bytes 2 index)) ∙ number_at-read_back 2 flags (number_bytes 2 index) [] less) in (
      ap (λ (n : ℕ). number_at bytes n 2) (sym none)
          ∙ (sym (number_at-range bytes from (from + 4) 0 2 (omega arith)) ∙ one),
      sym (number_at-range bytes from (from + 4) 2 2 (omega arith)) ∙ two,
    )

-- ---- one more

pub map_next : {A B : Type 0} (f : A → B) (xs : List A) (k : ℕ) (x : A) → slice_get xs k ≡ Some x →
    map f (take (k + 1) xs) ≡ map f (take k xs) ++ f x ∷ []
map_next f xs k x here =
    rw (add-one k) (ap (map f) (take_next xs k x here) ∙ map-append f (take k xs) (x ∷ []))

pub names_next : (front : List ℕ) (list : List Bookmark) (k : ℕ) (x : Bookmark) → slice_get list k ≡ Some x →
    front ++ names_bytes (take (k + 1) list) ≡ (front ++ names_bytes (take k list)) ++ bookmark_name_bytes x.name
names_next front list k x here =
    let name : Bookmark → List ℕ = λ b. bookmark_name_bytes b.name in
    let next : names_bytes (take (suc k) list) ≡ names_bytes (take k list) ++ bookmark_name_bytes x.name =
    ap names_bytes (take_next list k x here)
    ∙ (flat_map-append name (take k list) (x ∷ [])
    ∙ ap (λ (xs : List ℕ). names_bytes (take k list) ++ xs) (append-nil (bookmark_name_bytes x.name))) in
    rw (add-one k) (ap (λ (xs : List ℕ). front ++ xs) next
    ∙ sym (append_assoc front (names_bytes (take k list)) (bookmark_name_bytes x.name)))
