-- References that are cut: entries that have no flag.
use Rattle.std.proofs.Common.{◌≡◌, ◌∙◌, ap, sym, refl, ℕ, zero, suc, ◌+◌, ◌-◌, ◌<◌, ◌≤◌, Bool, true, false}
use Rattle.std.proofs.Common.{List, [], ◌∷◌, ◌++◌, length, map, take, not, cond, arith, Option, Some, None, slice_get}
use Rattle.std.proofs.Common.{inl, inr, min, replicate, slice_range, take-add}
use Rattle.std.specs.Prelude.{All, is_some, if◌then◌else◌}
use Rattle.std.specs.Option.{unwrap_or}
use Rattle.std.specs.List.{count_by}
use Rattle.std.proofs.lemmas.Bool.{cases_lt}
use Rattle.std.proofs.lemmas.Option.{slice_get_within, get_or_from_slice_get}
use Rattle.std.proofs.lemmas.List.{take_all, take_min, take_more, length-take-le, length-map}
use Rattle.std.proofs.lemmas.List.Edits.{length-between}
use Rattle.std.proofs.lemmas.List.Elements.{All-head, All-tail, All-cons, All-weaker}
use Rattle.std.proofs.lemmas.List.Sums.{sum_by-cons, sum_by_more}
use Rattle.prop_map.specs.Settings.{Properties}
use Rattle.run_lists.specs.declared.runs.Run.{Run}
use Rattle.run_lists.specs.Spread.{expanded, total_len}
use Rattle.run_lists.proofs.Public.{spread_push, length-spread, extent-take, extent_more}
use Rattle.doc_model.specs.declared.item.Item.{Item}
use Rattle.doc_model.specs.Document.{HasPropertyMaps, IsFormedItem, IsFormedText}
use Rattle.doc_columns.specs.declared.attached.Attached.{Attached}
use Rattle.doc_columns.specs.Attached.{attached_of}
use Rattle.doc_columns.specs.Columns.{item_of, items_of}
use Rattle.doc_columns.proofs.Public.{items_of-maps}
use Rattle.doc_bits.specs.declared.places.Story.{Story}
use Rattle.doc_bits.proofs.Public.{from_map, slice_get_push, slice_get_before}
use Rattle.fib_versions.specs.declared.further.Further.{Further}
use Rattle.doc_losses.specs.References.{reference_at, references_by}
use Rattle.doc_losses.proofs.Public.{none_listed}
use Rattle.doc_mends.specs.Cuts.{unflagged, end_left}

-- ---- how many have no flag

pub count_true : (flags : List Bool) → count_by not (true ∷ flags) ≡ count_by not flags
count_true flags = let all = sum_by-cons (λ (flag : Bool). cond (not flag) 1 0) true flags in omega (arith, all)

pub count_false : (flags : List Bool) → count_by not (false ∷ flags) ≡ suc (count_by not flags)
count_false flags = let all = sum_by-cons (λ (flag : Bool). cond (not flag) 1 0) false flags in omega (arith, all)

pub count_more : (flags : List Bool) (k : ℕ) (flag : Bool) → slice_get flags k ≡ Some flag →
    count_by not (take (k + 1) flags) ≡ count_by not (take k flags) + count_by not (flag ∷ [])
count_more flags k flag is =
    let low = slice_get_within flags k flag is in
    let one = sum_by-cons (λ (other : Bool). cond (not other) 1 0) flag [] in
    let more : count_by not (take (k + 1) flags) ≡ count_by not (take k flags) + cond (not flag) 1 0 =
    sum_by_more (λ (other : Bool). cond (not other) 1 0) flags k flag low
    ∙ ap (λ (other : Bool). count_by not (take k flags) + cond (not other) 1 0)
    (get_or_from_slice_get flags k flag flag is) in
    omega (arith, more, one)

-- how many before each place
pub counts_first : (flags : List Bool) (counts : List ℕ) → counts ≡ 0 ∷ [] → (j : ℕ) → j ≤ 0 →
    slice_get counts j ≡ Some (end_left flags j)
counts_first flags counts is zero low = ap (λ (l : List ℕ). slice_get l 0) is
counts_first flags counts is (suc j) low = absurd (omega (arith, low))

pub counts_more : (flags : List Bool) (counts : List ℕ) (k left : ℕ) → length counts ≡ k + 1 →
    ((j : ℕ) → j ≤ k → slice_get counts j ≡ Some (end_left flags j)) → left ≡ end_left flags (k + 1) → (j : ℕ) →
    j ≤ k + 1 → slice_get (counts ++ left ∷ []) j ≡ Some (end_left flags j)
counts_more flags counts k left len each is j low = elim (cases_lt j (k + 1)) [
  | inl before ↦
      slice_get_before counts (left ∷ []) j (omega (arith, before, len)) ∙ each j (omega (arith, before))
  | inr last ↦
      let here : j ≡ length counts = omega (arith, low, last, len) in
      let there : k + 1 ≡ j = omega (arith, low, last) in
      ap (slice_get (counts ++ left ∷ [])) here
      ∙ (slice_get_push counts left ∙ (ap (λ (n : ℕ). Some n) is ∙ ap (λ (n : ℕ). Some (end_left flags n)) there))
]

pub end_min : (flags : List Bool) (end place : ℕ) → place ≡ min end (length flags) →
    end_left flags place ≡ end_left flags end
end_min flags end place is = ap (end_left flags) is ∙ ap (count_by not) (take_min end flags)

-- ---- lists cut in two

pub unflagged-append : {A : Type 0} (flags more : List Bool) (xs ys : List A) → length flags ≡ length xs →
    unflagged (flags ++ more) (xs ++ ys) ≡ unflagged flags xs ++ unflagged more ys
unfolding unflagged
unflagged-append [] more [] ys len = refl
unflagged-append [] more (x ∷ xs) ys len = absurd (omega (arith, len))
unflagged-append (flag ∷ flags) more [] ys len = absurd (omega (arith, len))
unflagged-append (true ∷ flags) more (x ∷ xs) ys len = unflagged-append flags more xs ys (omega (arith, len))
unflagged-append {A = A} (false ∷ flags) more (x ∷ xs) ys len =
    ap (λ (t : List A). x ∷ t) (unflagged-append flags more xs ys (omega (arith, len)))

pub unflagged-nil : {A : Type 0} (flags : List Bool) → unflagged {A = A} flags [] ≡ []
unfolding unflagged
unflagged-nil flags = refl

-- one entry
pub unflagged-one : {A : Type 0} (flag : Bool) (x : A) →
    unflagged (flag ∷ []) (x ∷ []) ≡ if◌then◌else◌ {A = List A} flag [] (x ∷ [])
unfolding unflagged
unflagged-one true x = refl
unflagged-one false x = refl

-- one value many times
pub unflagged-same : {A : Type 0} (flags : List Bool) (x : A) →
    unflagged flags (replicate (length flags) x) ≡ replicate (count_by not flags) x
unfolding unflagged
unflagged-same [] x = refl
unflagged-same {A = A} (true ∷ flags) x =
    unflagged-same flags x ∙ ap (λ (n : ℕ). replicate n x) (sym (count_true flags))
unflagged-same {A = A} (false ∷ flags) x =
    ap (λ (t : List A). x ∷ t) (unflagged-same flags x)
    ∙ ap (λ (n : ℕ). replicate n x) (sym (count_false flags))

pub length-unflagged : {A B : Type 0} (flags : List Bool) (xs : List A) (ys : List B) → length xs ≡ length ys →
    length (unflagged flags xs) ≡ length (unflagged flags ys)
unfolding unflagged
length-unflagged flags [] [] len = refl
length-unflagged flags [] (y ∷ ys) len = absurd (omega (arith, len))
length-unflagged flags (x ∷ xs) [] len = absurd (omega (arith, len))
length-unflagged [] (x ∷ xs) (y ∷ ys) len = len
length-unflagged (true ∷ flags) (x ∷ xs) (y ∷ ys) len = length-unflagged flags xs ys (omega (arith, len))
length-unflagged (false ∷ flags) (x ∷ xs) (y ∷ ys) len =
    ap suc (length-unflagged flags xs ys (omega (arith, len)))

pub unflagged-short : {A : Type 0} (flags : List Bool) (xs : List A) → length (unflagged flags xs) ≤ length xs
unfolding unflagged
unflagged-short flags [] = omega arith
unflagged-short [] (x ∷ xs) = omega arith
unflagged-short (true ∷ flags) (x ∷ xs) = let rest = unflagged-short flags xs in omega (arith, rest)
unflagged-short (false ∷ flags) (x ∷ xs) = let rest = unflagged-short flags xs in omega (arith, rest)

pub length_left : {A : Type 0} (flags : List Bool) (xs : List A) → length flags ≡ length xs →
    length (unflagged flags xs) ≡ count_by not flags
unfolding unflagged
length_left [] [] same = refl
length_left [] (x ∷ xs) same = absurd (omega (arith, same))
length_left (flag ∷ flags) [] same = absurd (omega (arith, same))
length_left (true ∷ flags) (x ∷ xs) same = length_left flags xs (omega (arith, same)) ∙ sym (count_true flags)
length_left (false ∷ flags) (x ∷ xs) same =
    ap suc (length_left flags xs (omega (arith, same))) ∙ sym (count_false flags)

pub All-unflagged : {A : Type 0} (P : A → Type 0) (flags : List Bool) (xs : List A) → All P xs →
    All P (unflagged flags xs)
unfolding unflagged
All-unflagged P flags [] all = all
All-unflagged P [] (x ∷ xs) all = all
All-unflagged P (true ∷ flags) (x ∷ xs) all = All-unflagged P flags xs (All-tail P x xs all)
All-unflagged P (false ∷ flags) (x ∷ xs) all =
    All-cons P x (unflagged flags xs) (All-head P x xs all) (All-unflagged P flags xs (All-tail P x xs all))

-- ---- items of three columns

pub items_unflagged : (flags : List Bool) (units : List ℕ) (chps : List Properties) (attachments : List Attached) →
    length chps ≡ length units → length attachments ≡ length units →
    items_of (unflagged flags units) (unflagged flags chps) (unflagged flags attachments)
    ≡ unflagged flags (items_of units chps attachments)
unfolding unflagged
items_unflagged flags [] chps attachments a b = refl
items_unflagged flags (u ∷ units) [] attachments a b = absurd (omega (arith, a))
items_unflagged flags (u ∷ units) (c ∷ chps) [] a b = absurd (omega (arith, b))
items_unflagged [] (u ∷ units) (c ∷ chps) (w ∷ attachments) a b = refl
items_unflagged (true ∷ flags) (u ∷ units) (c ∷ chps) (w ∷ attachments) a b =
    items_unflagged flags units chps attachments (omega (arith, a)) (omega (arith, b))
items_unflagged (false ∷ flags) (u ∷ units) (c ∷ chps) (w ∷ attachments) a b =
    ap (λ (t : List Item). item_of u c w ∷ t)
    (items_unflagged flags units chps attachments (omega (arith, a)) (omega (arith, b)))

-- ---- nothing is flagged

abbrev pub IsClear : List Bool → Type 0
IsClear flags = (i : ℕ) (flag : Bool) → slice_get flags i ≡ Some flag → flag ≡ false

clear_rest : (flag : Bool) (flags : List Bool) → IsClear (flag ∷ flags) → IsClear flags
clear_rest flag flags clear i other is = clear (suc i) other is

pub unflagged-clear : {A : Type 0} (flags : List Bool) (xs : List A) → IsClear flags → unflagged flags xs ≡ xs
unfolding unflagged
unflagged-clear flags [] clear = refl
unflagged-clear [] (x ∷ xs) clear = refl
unflagged-clear (true ∷ flags) (x ∷ xs) clear = absurd (cc (clear zero true refl))
unflagged-clear {A = A} (false ∷ flags) (x ∷ xs) clear =
    ap (λ (t : List A). x ∷ t) (unflagged-clear flags xs (clear_rest false flags clear))

pub end-clear : (flags : List Bool) (end : ℕ) → IsClear flags → end ≤ length flags → end_left flags end ≡ end
end-clear flags zero clear low = refl
end-clear [] (suc end) clear low = absurd (omega (arith, low))
end-clear (true ∷ flags) (suc end) clear low = absurd (cc (clear zero true refl))
end-clear (false ∷ flags) (suc end) clear low =
    count_false (take end flags) ∙ ap suc (end-clear flags end (clear_rest false flags clear) (omega (arith, low)))

no_mark : (story : Story) (i : ℕ) (mark : Option Further) → reference_at story i mark ≡ None → is_some mark ≡ false
no_mark story i None is = refl
no_mark story i (Some to) is = absurd (cc is)

pub clear_flags : (story : Story) (marks : List (Option Further)) → references_by story marks ≡ [] →
    IsClear (map is_some marks)
clear_flags story marks none i flag is =
    let it = from_map is_some marks i flag is in
    let low : i < length marks = slice_get_within marks i it.0 it.1.0 in
    let nothing : reference_at story i (unwrap_or (slice_get marks i) None) ≡ None =
    none_listed (λ (at : ℕ). reference_at story at (unwrap_or (slice_get marks at) None)) (length marks) none i low in
    sym it.1.1
    ∙ no_mark story i it.0
    (sym (ap (λ (o : Option (Option Further)). reference_at story i (unwrap_or o None)) it.1.0) ∙ nothing)

-- ---- one entry more

pub unflagged_more : {A : Type 0} (flags : List Bool) (xs : List A) (k : ℕ) (flag : Bool) (x : A) →
    slice_get flags k ≡ Some flag → slice_get xs k ≡ Some x →
    unflagged (take (k + 1) flags) (take (k + 1) xs)
    ≡ unflagged (take k flags) (take k xs) ++ unflagged (flag ∷ []) (x ∷ [])
unflagged_more {A = A} flags xs k flag x here there =
    let low = slice_get_within flags k flag here in
    let inside = slice_get_within xs k x there in
    let first : take (k + 1) flags ≡ take k flags ++ flag ∷ [] =
    take_more flags k flag low
    ∙ ap (λ (b : Bool). take k flags ++ b ∷ []) (get_or_from_slice_get flags k flag flag here) in
    let second : take (k + 1) xs ≡ take k xs ++ x ∷ [] =
    take_more xs k x inside ∙ ap (λ (y : A). take k xs ++ y ∷ []) (get_or_from_slice_get xs k x x there) in
    let len : length (take k flags) ≡ length (take k xs) =
    length-take-le k flags (omega (arith, low)) ∙ sym (length-take-le k xs (omega (arith, inside))) in
    ap (λ (l : List Bool). unflagged l (take (k + 1) xs)) first
    ∙ (ap (λ (l : List A). unflagged (take k flags ++ flag ∷ []) l) second
    ∙ unflagged-append (take k flags) (flag ∷ []) (take k xs) (x ∷ []) len)

-- all entries
pub unflagged_all : {A : Type 0} (flags : List Bool) (xs : List A) (k : ℕ) → length flags ≡ length xs →
    length xs ≤ k → unflagged (take k flags) (take k xs) ≡ unflagged flags xs
unflagged_all {A = A} flags xs k len past =
    ap (λ (l : List Bool). unflagged l (take k xs)) (take_all k flags (omega (arith, len, past)))
    ∙ ap (λ (l : List A). unflagged flags l) (take_all k xs past)

-- ---- one run more

pub run_unflagged : {T : Type 0} (runs : List (Run T)) (flags : List Bool) (k begin end left : ℕ) (run : Run T)
    (value : T) (made : List T) → slice_get runs k ≡ Some run → length flags ≡ total_len runs →
    begin ≡ total_len (take k runs) → end ≡ begin + run.count →
    made ≡ unflagged (take begin flags) (expanded (take k runs)) → left ≡ count_by not (slice_range flags begin end) →
    value ≡ run.value →
    made ++ replicate left value ≡ unflagged (take end flags) (expanded (take (k + 1) runs))
run_unflagged {T = T} runs flags k begin end left run value made is len begins ends so_far count same =
    let low = slice_get_within runs k run is in
    let here = get_or_from_slice_get runs k run run is in
    let front : List Bool = take begin flags in
    let part : List Bool = slice_range flags begin end in
    let values : List T = expanded (take k runs) in
    let more : total_len (take (k + 1) runs) ≡ total_len (take k runs) + run.count =
    extent_more runs k run low ∙ ap (λ (r : Run T). total_len (take k runs) + r.count) here in
    let whole = extent-take runs (k + 1) in
    let within : end ≤ length flags = omega (arith, len, begins, ends, more, whole) in
    let long : length part ≡ run.count = length-between flags begin end within ∙ omega (arith, ends) in
    let fits : length front ≡ length values =
    length-take-le begin flags (omega (arith, within, ends)) ∙ (begins ∙ sym (length-spread (take k runs))) in
    let turned : begin + (end - begin) ≡ end = omega (arith, ends) in
    let flags_are : take end flags ≡ front ++ part =
    ap (λ (n : ℕ). take n flags) (sym turned) ∙ take-add begin (end - begin) flags in
    let runs_are : take (k + 1) runs ≡ take k runs ++ run ∷ [] =
    take_more runs k run low ∙ ap (λ (r : Run T). take k runs ++ r ∷ []) here in
    let values_are : expanded (take (k + 1) runs) ≡ values ++ replicate run.count run.value =
    ap (λ (l : List (Run T)). expanded l) runs_are ∙ spread_push (take k runs) run in
    let one : unflagged part (replicate run.count run.value) ≡ replicate left value =
    ap (λ (n : ℕ). unflagged part (replicate n run.value)) (sym long)
    ∙ (unflagged-same part run.value
    ∙ (ap (λ (n : ℕ). replicate n run.value) (sym count) ∙ ap (λ (v : T). replicate left v) (sym same))) in
    ap (λ (l : List T). l ++ replicate left value) so_far
    ∙ (ap (λ (l : List T). unflagged front values ++ l) (sym one)
    ∙ (sym (unflagged-append front part values (replicate run.count run.value) fits)
    ∙ (ap (λ (l : List Bool). unflagged l (values ++ replicate run.count run.value)) (sym flags_are)
    ∙ ap (λ (l : List T). unflagged (take end flags) l) (sym values_are))))

-- ---- a text

pub cut_items : (flags : List Bool) (text : List Item) (units : List ℕ) (chps : List Properties) (attachments : List
    Attached) →
    units ≡ unflagged flags (map (λ item. item.unit) text) → chps ≡ unflagged flags (map (λ item. item.chp) text) →
    attachments ≡ unflagged flags (map attached_of text) → items_of units chps attachments ≡ unflagged flags text
cut_items flags text units chps attachments a b c =
    let us : List ℕ = map (λ (item : Item). item.unit) text in
    let cs : List Properties = map (λ (item : Item). item.chp) text in
    let bs : List Attached = map attached_of text in
    let long : length cs ≡ length us =
    length-map text (λ (item : Item). item.chp) ∙ sym (length-map text (λ (item : Item). item.unit)) in
    let wide : length bs ≡ length us = length-map text attached_of ∙ sym (length-map text (λ (item : Item). item.unit))
    in
    ap (λ (l : List ℕ). items_of l chps attachments) a
    ∙ (ap (λ (l : List Properties). items_of (unflagged flags us) l attachments) b
    ∙ (ap (λ (l : List Attached). items_of (unflagged flags us) (unflagged flags cs) l) c
    ∙ (items_unflagged flags us cs bs long wide ∙ ap (unflagged flags) (items_of-maps text))))

-- a column of what is left is as long as what is left
pub column_left : {A : Type 0} (flags : List Bool) (text : List Item) (of : Item → A) (column : List A) →
    column ≡ unflagged flags (map of text) → length column ≡ length (unflagged flags text)
column_left flags text of column is =
    ap length is ∙ length-unflagged flags (map of text) text (length-map text of)

-- items keep their maps
pub maps_left : (flags : List Bool) (text : List Item) → IsFormedText text → All HasPropertyMaps (unflagged flags text)
maps_left flags text formed =
    All-unflagged HasPropertyMaps flags text
    (All-weaker IsFormedItem HasPropertyMaps (λ item is. is.maps) text formed.each)
