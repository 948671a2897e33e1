-- Going through streams: parts of a list, and the place of a name.
use Rattle.std.proofs.Common.{◌≡◌, ◌≤◌, ◌<◌, ◌+◌, ◌-◌, ◌∙◌, ap, refl, sym, subst, inl, inr, ℕ, zero, suc, true, List}
use Rattle.std.proofs.Common.{[], ◌∷◌, ◌++◌, length, take, drop, get_or, Some, slice_get, arith}
use Rattle.std.specs.Prelude.{slice_range, option_map}
use Rattle.std.proofs.Common.{length-drop}
use Rattle.std.proofs.lemmas.List.{append_assoc, take_more, get_or-drop}
use Rattle.std.proofs.lemmas.Bool.{cases_Bool, cases_lt}
use Rattle.std.proofs.lemmas.Option.{slice_get_within, slice_get-get_or, same_Some}
use Rattle.cfb_streams.specs.Contents.{NamedBytes, AreStreams}
use Rattle.cfb_directory.specs.Directory.{IsNameBefore}
use Rattle.cfb_streams.specs.Names.{wd_name, second_table_name}
use Rattle.cfb_layout.specs.Layout.{lengths_of}
use Rattle.full_save.specs.Streams.{is_name_before, saved_streams, IsPlaceFor}
use Rattle.full_save.proofs.NameOrder.{before_is, before_from}
use Rattle.full_save.proofs.StreamLemmas.{streams_front, saved_in_parts}
use Rattle.doc_bits.proofs.Public.{range_split}

take_none : {A : Type 0} (b : ℕ) → let none : List A = [] in take b none ≡ none
take_none zero = refl
take_none (suc b) = refl

-- a part with one element more
pub range_next : {A : Type 0} (xs : List A) (from i : ℕ) (d : A) → from ≤ i → i < length xs →
    slice_range xs from (i + 1) ≡ slice_range xs from i ++ get_or xs i d ∷ []
range_next xs from i d low high =
    let e : i + 1 - from ≡ i - from + 1 = omega arith in
    let at : from + (i - from) ≡ i = omega arith in
    let within : i - from < length (drop from xs) = omega (arith, length-drop from xs) in
    ap (λ (n : ℕ). take n (drop from xs)) e
    ∙ (take_more (drop from xs) (i - from) d within
    ∙ ap (λ (x : _). slice_range xs from i ++ x ∷ []) (get_or-drop from xs (i - from) d ∙ ap (λ (n : ℕ). get_or xs n
    d) at))

-- a stream by its name and its bytes
pub stream_is : (streams : List NamedBytes) (i : ℕ) (d : NamedBytes) (name bytes : List ℕ) → i < length streams →
    option_map (λ s. s.name) (slice_get streams i) ≡ Some name →
    option_map (λ s. s.bytes) (slice_get streams i) ≡ Some bytes →
    record { name = name; bytes = bytes } ≡ get_or streams i d
stream_is streams i d name bytes low has_name has_bytes =
    let here = slice_get-get_or streams i d low in
    let n : (get_or streams i d).name ≡ name = same_Some _ _ (ap (option_map (λ (s : NamedBytes). s.name)) (sym here)
    ∙ has_name) in
    let b : (get_or streams i d).bytes ≡ bytes = same_Some _ _ (ap (option_map (λ (s : NamedBytes). s.bytes))
    (sym here) ∙ has_bytes) in
    sym (λ k. record { name = n k; bytes = b k })

-- a stream more of a part that is behind others
pub add_next : (old others : List NamedBytes) (from i to : ℕ) (d : NamedBytes) → from ≤ i → i < to →
    to ≤ length others →
    AreStreams (old ++ slice_range others from to) → AreStreams ((old ++ slice_range others from i) ++ get_or others i
    d ∷ [])
add_next old others from i to d low high within are =
    let below : i < length others = omega arith in
    let split = range_split others from (i + 1) to (omega arith) (omega arith) in
    let whole : AreStreams (old ++ (slice_range others from (i + 1) ++ slice_range others (i + 1) to)) =
    subst (λ (part : List NamedBytes). AreStreams (old ++ part)) split are in
    let front = streams_front (old ++ slice_range others from (i + 1)) (slice_range others (i + 1) to)
    (subst AreStreams (sym (append_assoc old (slice_range others from (i + 1)) (slice_range others (i + 1) to)))
    whole) in
    subst AreStreams
    (ap (λ (part : List NamedBytes). old ++ part) (range_next others from i d low below)
    ∙ sym (append_assoc old (slice_range others from i) (get_or others i d ∷ []))) front

pub behind_next : (old others : List NamedBytes) (from i : ℕ) (d : NamedBytes) → from ≤ i → i < length others →
    (old ++ slice_range others from i) ++ get_or others i d ∷ [] ≡ old ++ slice_range others from (i + 1)
behind_next old others from i d low below =
    append_assoc old (slice_range others from i) (get_or others i d ∷ [])
    ∙ ap (λ (part : List NamedBytes). old ++ part) (sym (range_next others from i d low below))

-- the names before a number come before a name
abbrev pub AreBefore : List ℕ → List NamedBytes → ℕ → Type 0
AreBefore name others i =
    (k : ℕ) (stream : NamedBytes) → k < i → slice_get others k ≡ Some stream → is_name_before stream.name name ≡ true

name_at : (others : List NamedBytes) (i : ℕ) (first : List ℕ) (stream : NamedBytes) →
    option_map (λ s. s.name) (slice_get others i) ≡ Some first → slice_get others i ≡ Some stream → first ≡ stream.name
name_at others i first stream has here =
    same_Some first stream.name (sym has ∙ ap (option_map (λ (s : NamedBytes). s.name)) here)

pub place_here : (name : List ℕ) (others : List NamedBytes) (i : ℕ) (first : List ℕ) → AreBefore name others i →
    i < length others → option_map (λ s. s.name) (slice_get others i) ≡ Some first → ¬ IsNameBefore first name →
    IsPlaceFor name others i
place_here name others i first before low has not = record {
  within = omega arith;
  before = before;
  after = λ stream here. elim (cases_Bool (is_name_before stream.name name)) [
    | inl is ↦
        absurd (not (subst (λ (n : List ℕ). IsNameBefore n name) (sym (name_at others i first stream has here))
        (before_is stream.name name is)))
    | inr behind ↦ behind
  ];
}

pub place_later : (name : List ℕ) (others : List NamedBytes) (i : ℕ) (first : List ℕ) → AreBefore name others i →
    option_map (λ s. s.name) (slice_get others i) ≡ Some first → IsNameBefore first name → AreBefore name others (i + 1)
place_later name others i first before has is k stream low here = elim (cases_lt k i) [
  | inl less ↦ before k stream less here
  | inr end ↦
      let same : k ≡ i = omega arith in
      let there : slice_get others i ≡ Some stream = subst (λ (n : ℕ). slice_get others n ≡ Some stream) same here in
      before_from stream.name name
      (subst (λ (n : List ℕ). IsNameBefore n name) (name_at others i first stream has there) is)
]

pub place_end : (name : List ℕ) (others : List NamedBytes) (i : ℕ) → AreBefore name others i → length others ≤ i →
    i ≤ length others → IsPlaceFor name others i
place_end name others i before high low = record {
  within = low;
  before = before;
  after = λ stream here. let within = slice_get_within others i stream here in absurd (omega arith);
}

-- ---- the streams with the two, part by part

-- the fronts of the streams of a save are in order
pub record FrontsAre (table wd : List ℕ) (others : List NamedBytes) (first second : ℕ) : Type 0 where
  pub one : AreStreams (slice_range others 0 first)
  pub two : AreStreams (slice_range others 0 first ++ (record { name = second_table_name; bytes = table }) ∷ [])
  pub three :
      AreStreams ((slice_range others 0 first ++ (record { name = second_table_name; bytes = table }) ∷ [])
      ++ slice_range others first second)
  pub four :
      AreStreams (((slice_range others 0 first ++ (record { name = second_table_name; bytes = table }) ∷ [])
      ++ slice_range others first second) ++ (record { name = wd_name; bytes = wd }) ∷ [])
  pub whole :
      (((slice_range others 0 first ++ (record { name = second_table_name; bytes = table }) ∷ [])
      ++ slice_range others first second) ++ (record { name = wd_name; bytes = wd }) ∷ [])
      ++ slice_range others second (length others)
      ≡ saved_streams table wd others

pub fronts_are : (table wd : List ℕ) (others : List NamedBytes) (first second : ℕ) →
    IsPlaceFor second_table_name others first → IsPlaceFor wd_name others second →
    AreStreams (saved_streams table wd others) → FrontsAre table wd others first second
fronts_are table wd others first second is other are =
    let that : NamedBytes = record { name = second_table_name; bytes = table } in
    let it : NamedBytes = record { name = wd_name; bytes = wd } in
    let a = slice_range others 0 first in
    let b = slice_range others first second in
    let c = slice_range others second (length others) in
    let one = a ++ that ∷ [] in
    let two = one ++ b in
    let three = two ++ it ∷ [] in
    let whole : three ++ c ≡ saved_streams table wd others =
    append_assoc two (it ∷ []) c
    ∙ (append_assoc one b (it ∷ c)
    ∙ (append_assoc a (that ∷ []) (b ++ (it ∷ c)) ∙ sym (saved_in_parts table wd others first second is other))) in
    let all = subst AreStreams (sym whole) are in
    let fourth = streams_front three c all in
    let third = streams_front two (it ∷ []) fourth in
    let second_front = streams_front one b third in
    record {
      one = streams_front a (that ∷ []) second_front;
      two = second_front;
      three = third;
      four = fourth;
      whole = whole;
    }

pub lengths-append : (xs ys : List NamedBytes) → lengths_of (xs ++ ys) ≡ lengths_of xs ++ lengths_of ys
lengths-append [] ys = refl
lengths-append (x ∷ xs) ys = ap (λ (zs : List ℕ). length x.bytes ∷ zs) (lengths-append xs ys)

-- the lengths of the streams with the two, part by part
pub lengths_in_parts : (table wd : List ℕ) (others : List NamedBytes) (first second : ℕ) →
    IsPlaceFor second_table_name others first → IsPlaceFor wd_name others second →
    (((lengths_of (slice_range others 0 first) ++ length table ∷ []) ++ lengths_of (slice_range others first second))
    ++ length wd ∷ []) ++ lengths_of (slice_range others second (length others))
    ≡ lengths_of (saved_streams table wd others)
lengths_in_parts table wd others first second is other =
    let that : NamedBytes = record { name = second_table_name; bytes = table } in
    let it : NamedBytes = record { name = wd_name; bytes = wd } in
    let a = slice_range others 0 first in
    let b = slice_range others first second in
    let c = slice_range others second (length others) in
    let one = lengths_of a ++ length table ∷ [] in
    let two = one ++ lengths_of b in
    append_assoc two (length wd ∷ []) (lengths_of c)
    ∙ (append_assoc one (lengths_of b) (length wd ∷ lengths_of c)
    ∙ (append_assoc (lengths_of a) (length table ∷ []) (lengths_of b ++ (length wd ∷ lengths_of c))
    ∙ (ap (λ (xs : List ℕ). lengths_of a ++ (length table ∷ xs)) (sym (lengths-append b (it ∷ c)))
    ∙ (sym (lengths-append a (that ∷ (b ++ (it ∷ c))))
    ∙ ap (λ (xs : List NamedBytes). lengths_of xs) (sym (saved_in_parts table wd others first second is other))))))
