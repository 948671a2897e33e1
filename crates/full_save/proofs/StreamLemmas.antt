-- The streams of a full save, by the places of the two that it makes.
use Rattle.std.proofs.Common.{◌≡◌, ◌≢◌, ◌<◌, ◌≤◌, ◌+◌, ◌-◌, ◌∙◌, ap, refl, sym, subst, inl, inr, ℕ, zero, suc, true}
use Rattle.std.proofs.Common.{false, cond, ltb, List, [], ◌∷◌, ◌++◌, length, take, drop, Some, slice_get, arith}
use Rattle.std.proofs.Common.{lt-ltb}
use Rattle.std.specs.Prelude.{slice_range}
use Rattle.std.proofs.lemmas.List.{take_all}
use Rattle.std.proofs.Common.{length-drop}
use Rattle.std.proofs.lemmas.List.Sums.{sum_by-append}
use Rattle.std.proofs.lemmas.Bool.{cases_lt, cases_eq, ne_eqb, ltb-true, true≢false}
use Rattle.std.proofs.lemmas.Option.{same_Some}
use Rattle.doc_bits.proofs.Public.{there_is, in_front}
use Rattle.cfb_streams.specs.Contents.{NamedBytes, AreStreams}
use Rattle.cfb_streams.specs.Names.{wd_name, second_table_name}
use Rattle.full_save.specs.Streams.{has_less_unit, is_name_before, put_stream, saved_streams, IsPlaceFor}

-- a stream is put at its place
pub put_at : (stream : NamedBytes) (others : List NamedBytes) (k : ℕ) → IsPlaceFor stream.name others k →
    put_stream stream others ≡ take k others ++ (stream ∷ drop k others)
unfolding put_stream
put_at stream [] zero is = refl
put_at stream [] (suc k) is = let within = is.within in absurd (omega arith)
put_at stream (other ∷ others) zero is = rw (is.after other refl) refl
put_at stream (other ∷ others) (suc k) is =
    let within = is.within in
    let first : is_name_before other.name stream.name ≡ true = is.before 0 other (omega arith) refl in
    let rest = put_at stream others k (record {
      within = omega arith;
      before = λ i s low here. is.before (suc i) s (omega (arith, low)) here;
      after = is.after;
    }) in
    rw first (ap (λ (streams : List NamedBytes). other ∷ streams) rest)

-- a name that comes before `1Table` comes before `WordDocument`
shorter_before : (name : List ℕ) → is_name_before name second_table_name ≡ true → is_name_before name wd_name ≡ true
shorter_before name before =
    let low : length name ≤ 6 = elim (cases_eq (length name) 6) [
      | inl e ↦ omega (arith, e)
      | inr ne ↦
          let less : ltb (length name) 6 ≡ true =
          subst (λ b. cond b (has_less_unit name second_table_name) (ltb (length name) 6) ≡ true)
          (ne_eqb (length name) 6 ne) before in
          let lt = ltb-true (length name) 6 less in omega (arith, lt)
    ] in
    let apart : length name ≢ 12 = λ e. omega (arith, e, low) in
    let lt : length name < 12 = omega (arith, low) in
    ap (λ b. cond b (has_less_unit name wd_name) (ltb (length name) 12)) (ne_eqb (length name) 12 apart) ∙ lt-ltb
    (length name) 12 lt

-- so its place is not behind that of `WordDocument`
pub places_ordered : (others : List NamedBytes) (first second : ℕ) → IsPlaceFor second_table_name others first →
    IsPlaceFor wd_name others second → first ≤ second
places_ordered others first second is other = elim (cases_lt second first) [
  | inr low ↦ low
  | inl high ↦
      let within = is.within in
      let here = there_is others second (omega arith) in
      let before = is.before second here.0 high here.1 in
      absurd (true≢false (sym (shorter_before here.0.name before) ∙ other.after here.0 here.1))
]

-- what is before a place in the front of a list
take_more : {A : Type 0} (xs ys : List A) (k n : ℕ) → k ≤ n → n ≤ length xs → take k (take n xs ++ ys) ≡ take k xs
take_more [] ys zero n h low = refl
take_more [] ys (suc k) n h low = absurd (omega arith)
take_more (x ∷ xs) ys zero n h low = refl
take_more (x ∷ xs) ys (suc k) zero h low = absurd (omega arith)
take_more (x ∷ xs) ys (suc k) (suc n) h low = ap (λ (zs : List _). x ∷ zs) (take_more xs ys k n (omega arith)
    (omega arith))

-- and behind it
drop_more : {A : Type 0} (xs ys : List A) (k n : ℕ) → k ≤ n → n ≤ length xs → drop k (take n xs ++ ys) ≡ take (n - k)
    (drop k xs) ++ ys
drop_more xs ys zero n h low = let e : n - 0 ≡ n = omega arith in ap (λ (m : ℕ). take m xs ++ ys) (sym e)
drop_more [] ys (suc k) n h low = absurd (omega arith)
drop_more (x ∷ xs) ys (suc k) zero h low = absurd (omega arith)
drop_more (x ∷ xs) ys (suc k) (suc n) h low =
    let e : suc n - suc k ≡ n - k = omega arith in
    drop_more xs ys k n (omega arith) (omega arith) ∙ ap (λ (m : ℕ). take m (drop k xs) ++ ys) (sym e)

get_more : {A : Type 0} (xs ys : List A) (k n : ℕ) → k < n → n ≤ length xs → slice_get (take n xs ++ ys) k ≡ slice_get
    xs k
get_more [] ys k n h low = absurd (omega arith)
get_more (x ∷ xs) ys zero zero h low = absurd (omega arith)
get_more (x ∷ xs) ys zero (suc n) h low = refl
get_more (x ∷ xs) ys (suc k) zero h low = absurd (omega arith)
get_more (x ∷ xs) ys (suc k) (suc n) h low = get_more xs ys k n (omega arith) (omega arith)

get_put : {A : Type 0} (xs ys : List A) (y : A) (n : ℕ) → n ≤ length xs → slice_get (take n xs ++ (y ∷ ys)) n ≡ Some y
get_put xs ys y zero low = refl
get_put [] ys y (suc n) low = absurd (omega arith)
get_put (x ∷ xs) ys y (suc n) low = get_put xs ys y n (omega arith)

length-put : {A : Type 0} (xs : List A) (y : A) (n : ℕ) → n ≤ length xs → length (take n xs ++ (y ∷ drop n xs)) ≡
    length xs + 1
length-put xs y zero low = omega arith
length-put [] y (suc n) low = absurd (omega arith)
length-put (x ∷ xs) y (suc n) low = let rest = length-put xs y n (omega arith) in omega arith

-- the place of `1Table` among the others is its place among them and `WordDocument`
place_kept : (others : List NamedBytes) (wd : List ℕ) (first second : ℕ) → first ≤ second →
    IsPlaceFor second_table_name others first →
    second ≤ length others →
    IsPlaceFor second_table_name (take second others ++ ((record { name = wd_name; bytes = wd }) ∷ drop second
    others)) first
place_kept others wd first second order is low =
    let it : NamedBytes = record { name = wd_name; bytes = wd } in
    record {
      within = omega (arith, length-put others it second low);
      before = λ i s below here. is.before i s below (sym (get_more others (it ∷ drop second others) i second
          (omega (arith, below, order)) low) ∙ here);
      after = λ s here. elim (cases_lt first second) [
        | inl less ↦ is.after s (sym (get_more others (it ∷ drop second others) first second less low) ∙ here)
        | inr end ↦
            let same : first ≡ second = omega arith in
            let there : slice_get (take second others ++ (it ∷ drop second others)) second ≡ Some s =
            subst (λ (k : ℕ). slice_get (take second others ++ (it ∷ drop second others)) k ≡ Some s) same here in
            let is_it : it ≡ s = same_Some it s (sym (get_put others (drop second others) it second low) ∙ there) in
            subst (λ (x : NamedBytes). is_name_before x.name second_table_name ≡ false) is_it refl
      ];
    }

-- the streams in three parts, between which the two are
pub saved_in_parts :
    (table wd : List ℕ) (others : List NamedBytes) (first second : ℕ) → IsPlaceFor second_table_name others first →
    IsPlaceFor wd_name others second →
    saved_streams table wd others
    ≡ slice_range others 0 first
    ++ ((record { name = second_table_name; bytes = table })
    ∷ (slice_range others first second
    ++ ((record { name = wd_name; bytes = wd }) ∷ slice_range others second (length others))))
saved_in_parts table wd others first second is other =
    let it : NamedBytes = record { name = wd_name; bytes = wd } in
    let that : NamedBytes = record { name = second_table_name; bytes = table } in
    let order = places_ordered others first second is other in
    let low = other.within in
    let with_wd = take second others ++ (it ∷ drop second others) in
    let put = put_at that with_wd first (place_kept others wd first second order is low) in
    let front = take_more others (it ∷ drop second others) first second order low in
    let back = drop_more others (it ∷ drop second others) first second order low in
    let rest : drop second others ≡ slice_range others second (length others) =
    sym (take_all (length others - second) (drop second others) (omega (arith, length-drop second others))) in
    let zero_front : take first others ≡ slice_range others 0 first =
    let e : first ≡ first - 0 = omega arith in ap (λ (n : ℕ). take n others) e in
    ap (λ (streams : List NamedBytes). put_stream that streams) (put_at it others second other)
    ∙ (put
    ∙ (ap (λ (streams : List NamedBytes). streams ++ (that ∷ drop first with_wd)) (front ∙ zero_front)
    ∙ (ap (λ (streams : List NamedBytes). slice_range others 0 first ++ (that ∷ streams)) back
    ∙ ap (λ (streams : List NamedBytes). slice_range others 0 first ++ (that ∷ (slice_range others first second ++
    (it ∷ streams)))) rest)))

-- the front of streams that are in order
pub streams_front : (front back : List NamedBytes) → AreStreams (front ++ back) → AreStreams front
streams_front front back are = record {
  some = λ i s here. are.some i s (in_front front back i s here);
  short = λ i s here. are.short i s (in_front front back i s here);
  order = λ i j s later low here there. are.order i j s later low (in_front front back i s here) (in_front front back j
      later
      there);
  total = let all = sum_by-append (λ (s : NamedBytes). length s.bytes) front back in let total = are.total in
      omega (arith, all, total);
}
