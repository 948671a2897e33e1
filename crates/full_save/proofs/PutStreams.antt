-- A stream that is put among others where its name belongs: the names keep their order, and the others stay.
use Rattle.std.specs.Prelude.{slice_get, filter}
use Rattle.std.specs.List.{sum_by}
use Rattle.std.proofs.Common.{◌≡◌, ◌⊎◌, inl, inr, ℕ, zero, suc, ◌+◌, ◌^◌, ◌<◌, ◌≤◌, Bool, true, false, List, [], ◌∷◌}
use Rattle.std.proofs.Common.{◌++◌}
use Rattle.std.proofs.Common.{length, Some, refl, sym, ap, ◌∙◌, subst, arith, length-append, cond, map}
use Rattle.std.proofs.lemmas.List.Elements.{filter-append}
use Rattle.std.proofs.lemmas.List.Sums.{sum_by-append, sum_by-cons}
use Rattle.std.proofs.lemmas.Option.{slice_get_within, same_Some, none-some}
use Rattle.std.proofs.lemmas.Bool.{cases_Bool}
use Rattle.cfb_directory.specs.Directory.{AreSameNames, IsNameBefore}
use Rattle.cfb_streams.proofs.Public.{comes_before-trans}
use Rattle.cfb_streams.specs.Contents.{NamedBytes, AreStreams}
use Rattle.doc_bits.proofs.Public.{in_front, in_back}
use Rattle.full_save.specs.Streams.{is_name_before, put_stream}
use Rattle.full_save.proofs.StretchRuns.{at_seam}
use Rattle.full_save.proofs.NameOrder.{before_is, behind_is}

-- ---- where one is in a list with one more

-- it is in front, it is the one that was put, or it is behind
abbrev pub IsAtPut : {A : Type 0} → List A → A → List A → ℕ → A → Type 0
IsAtPut front put back i x =
    (slice_get front i ≡ Some x)
    ⊎ (((i ≡ length front) × (put ≡ x)) ⊎ ((k : ℕ) × ((i ≡ length front + 1 + k) × (slice_get back k ≡ Some x))))

pub at_put : {A : Type 0} (front : List A) (put : A) (back : List A) (i : ℕ) (x : A) →
    slice_get (front ++ (put ∷ back)) i ≡ Some x → IsAtPut front put back i x
at_put [] put back zero x here = inr (inl (refl, same_Some put x here))
at_put [] put back (suc k) x here = let e : suc k ≡ 0 + 1 + k = omega arith in inr (inr (k, (e, here)))
at_put (first ∷ front) put back zero x here = inl here
at_put (first ∷ front) put back (suc i) x here = elim (at_put front put back i x here) [
  | inl before ↦ inl before
  | inr (inl it) ↦ let e = it.0 in inr (inl (omega (arith, e), it.1))
  | inr (inr behind) ↦ let e = behind.1.0 in inr (inr (behind.0, (omega (arith, e), behind.1.1)))
]

-- ---- a stream among others

-- each name comes before all later ones
abbrev pub Ascend : List NamedBytes → Type 0
Ascend streams =
    (i j : ℕ) (stream later : NamedBytes) → i < j → slice_get streams i ≡ Some stream →
    slice_get streams j ≡ Some later → IsNameBefore stream.name later.name

-- the names of those in front come before its own, and its own comes before those behind
pub record IsPutAmong (put : NamedBytes) (old new : List NamedBytes) : Type 0 where
  pub front : List NamedBytes
  pub back : List NamedBytes
  pub old_is : old ≡ front ++ back
  pub new_is : new ≡ front ++ (put ∷ back)
  pub behind : (i : ℕ) (stream : NamedBytes) → slice_get front i ≡ Some stream → IsNameBefore stream.name put.name
  pub before : (i : ℕ) (stream : NamedBytes) → slice_get back i ≡ Some stream → IsNameBefore put.name stream.name

pub length-put : (put : NamedBytes) (old new : List NamedBytes) → IsPutAmong put old new →
    length new ≡ length old + 1
length-put put old new is =
    let a = ap length is.old_is in
    let b = ap length is.new_is in
    let c = length-append is.front is.back in
    let d = length-append is.front (put ∷ is.back) in
    omega (arith, a, b, c, d)

-- it is there
pub put_there : (put : NamedBytes) (old new : List NamedBytes) (is : IsPutAmong put old new) →
    slice_get new (length is.front) ≡ Some put
put_there put old new is =
    let e : length is.front ≡ length is.front + 0 = omega arith in
    ap (λ (streams : List NamedBytes). slice_get streams (length is.front)) is.new_is
    ∙ in_back is.front (put ∷ is.back) 0 (length is.front) put refl e

-- each of the others is there
pub kept_there : (put : NamedBytes) (old new : List NamedBytes) (is : IsPutAmong put old new) (i : ℕ)
    (stream : NamedBytes) → slice_get old i ≡ Some stream → (k : ℕ) × (slice_get new k ≡ Some stream)
kept_there put old new is i stream here =
    let there : slice_get (is.front ++ is.back) i ≡ Some stream =
    subst (λ streams. slice_get streams i ≡ Some stream) is.old_is here in
    let found : (k : ℕ) × (slice_get (is.front ++ (put ∷ is.back)) k ≡ Some stream) =
    elim (at_seam is.front is.back i stream there) [
      | inl before ↦ (i, in_front is.front (put ∷ is.back) i stream before)
      | inr behind ↦
          let at : length is.front + suc behind.0 ≡ length is.front + suc behind.0 = refl in (
            length is.front + suc behind.0,
            in_back is.front (put ∷ is.back) (suc behind.0)
                (length is.front + suc behind.0) stream behind.1.1 at,
          )
    ] in
    (found.0, subst (λ streams. slice_get streams found.0 ≡ Some stream) (sym is.new_is) found.1)

-- a stream of the list is one of the others, or the one that was put
old_or_put : (P : NamedBytes → Type 0) (front back : List NamedBytes) (put : NamedBytes) →
    ((i : ℕ) (stream : NamedBytes) → slice_get (front ++ back) i ≡ Some stream → P stream) → P put → (i : ℕ)
    (stream : NamedBytes) → slice_get (front ++ (put ∷ back)) i ≡ Some stream → P stream
old_or_put P front back put old it i stream here = elim (at_put front put back i stream here) [
  | inl before ↦ old i stream (in_front front back i stream before)
  | inr (inl same) ↦ subst P same.1 it
  | inr (inr behind) ↦ old (length front + behind.0) stream
      (in_back front back behind.0 (length front + behind.0) stream behind.1.1 refl)
]

-- what holds of the others and of it holds of all
pub each_put : (P : NamedBytes → Type 0) (put : NamedBytes) (old new : List NamedBytes) → IsPutAmong put old new →
    ((i : ℕ) (stream : NamedBytes) → slice_get old i ≡ Some stream → P stream) → P put → (i : ℕ)
    (stream : NamedBytes) → slice_get new i ≡ Some stream → P stream
each_put P put old new is each it i stream here =
    old_or_put P is.front is.back put
    (λ k other there. each k other (subst (λ streams. slice_get streams k ≡ Some other) (sym is.old_is) there)) it i
    stream
    (subst (λ streams. slice_get streams i ≡ Some stream) is.new_is here)

-- the order of the names
order_put : (front back : List NamedBytes) (put : NamedBytes) →
    Ascend (front ++ back) →
    ((i : ℕ) (stream : NamedBytes) → slice_get front i ≡ Some stream → IsNameBefore stream.name put.name) →
    ((i : ℕ) (stream : NamedBytes) → slice_get back i ≡ Some stream → IsNameBefore put.name stream.name) → (i j : ℕ)
    (stream later : NamedBytes) → i < j → slice_get (front ++ (put ∷ back)) i ≡ Some stream →
    slice_get (front ++ (put ∷ back)) j ≡ Some later → IsNameBefore stream.name later.name
order_put front back put order behind before i j stream later less here there =
    elim (at_put front put back i stream here) [
      | inl low ↦ elim (at_put front put back j later there) [
        | inl high ↦ order i j stream later less (in_front front back i stream low) (in_front front back j later high)
        | inr (inl same) ↦ subst (λ s. IsNameBefore stream.name s.name) same.1 (behind i stream low)
        | inr (inr far) ↦
            let e = far.1.0 in
            let within = slice_get_within front i stream low in
            let after : i < length front + far.0 = omega (arith, within) in
            order i (length front + far.0) stream later after (in_front front back i stream low)
            (in_back front back far.0 (length front + far.0) later far.1.1 refl)
      ]
      | inr (inl it) ↦ elim (at_put front put back j later there) [
        | inl high ↦
            let e = it.0 in
            let within = slice_get_within front j later high in
            absurd (omega (arith, e, within, less))
        | inr (inl same) ↦ let e = it.0 in let f = same.0 in absurd (omega (arith, e, f, less))
        | inr (inr far) ↦ subst (λ s. IsNameBefore s.name later.name) it.1 (before far.0 later far.1.1)
      ]
      | inr (inr near) ↦ elim (at_put front put back j later there) [
        | inl high ↦
            let e = near.1.0 in
            let within = slice_get_within front j later high in
            absurd (omega (arith, e, within, less))
        | inr (inl same) ↦ let e = near.1.0 in let f = same.0 in absurd (omega (arith, e, f, less))
        | inr (inr far) ↦
            let e = near.1.0 in
            let f = far.1.0 in
            let after : length front + near.0 < length front + far.0 = omega (arith, e, f, less) in
            order (length front + near.0) (length front + far.0) stream later after
            (in_back front back near.0 (length front + near.0) stream near.1.1 refl)
            (in_back front back far.0 (length front + far.0) later far.1.1 refl)
      ]
    ]

total_put : (front back : List NamedBytes) (put : NamedBytes) →
    sum_by (λ stream. length stream.bytes) (front ++ (put ∷ back))
    ≡ sum_by (λ stream. length stream.bytes) (front ++ back) + length put.bytes
total_put front back put =
    let f : NamedBytes → ℕ = λ stream. length stream.bytes in
    let a = sum_by-append f front (put ∷ back) in
    let b = sum_by-append f front back in
    let c = sum_by-cons f put back in
    omega (arith, a, b, c)

-- the names keep their order
pub put_ascend : (put : NamedBytes) (old new : List NamedBytes) → IsPutAmong put old new → Ascend old → Ascend new
put_ascend put old new is order =
    subst Ascend (sym is.new_is)
    (order_put is.front is.back put (subst Ascend is.old_is order) is.behind is.before)

-- the longer list is one of streams
pub put_are_streams : (put : NamedBytes) (old new : List NamedBytes) → IsPutAmong put old new → AreStreams old →
    1 ≤ length put.name → length put.name ≤ 31 →
    sum_by (λ stream. length stream.bytes) old + length put.bytes < 2 ^ 48 → AreStreams new
put_are_streams put old new is are some short room =
    let these : AreStreams (is.front ++ is.back) = subst AreStreams is.old_is are in
    let total : sum_by (λ stream. length stream.bytes) (is.front ++ is.back) + length put.bytes < 2 ^ 48 =
    subst (λ (streams : List NamedBytes). sum_by (λ stream. length stream.bytes) streams + length put.bytes < 2 ^ 48)
    is.old_is room in
    subst AreStreams (sym is.new_is) (record {
      some = old_or_put (λ stream. 1 ≤ length stream.name) is.front is.back put these.some some;
      short = old_or_put (λ stream. length stream.name ≤ 31) is.front is.back put these.short short;
      order = order_put is.front is.back put these.order is.behind is.before;
      total = let e = total_put is.front is.back put in omega (arith, e, total);
    })

pub total-put : (put : NamedBytes) (old new : List NamedBytes) → IsPutAmong put old new →
    sum_by (λ stream. length stream.bytes) new ≡ sum_by (λ stream. length stream.bytes) old + length put.bytes
total-put put old new is =
    let f : List NamedBytes → ℕ = λ streams. sum_by (λ (stream : NamedBytes). length stream.bytes) streams in
    ap f is.new_is
    ∙ (total_put is.front is.back put ∙ ap (λ streams. f streams + length put.bytes) (sym is.old_is))

-- ---- the function that puts it there

-- none of the streams has the name
abbrev pub HaveOtherNames : List NamedBytes → List ℕ → Type 0
HaveOtherNames streams name =
    (i : ℕ) (stream : NamedBytes) → slice_get streams i ≡ Some stream → ¬ AreSameNames stream.name name

first_or_later : (put other : NamedBytes) (others : List NamedBytes) → Ascend (other ∷ others) →
    IsNameBefore put.name other.name → (i : ℕ) (stream : NamedBytes) → slice_get (other ∷ others) i ≡ Some stream →
    IsNameBefore put.name stream.name
first_or_later put other others order before zero stream here =
    subst (λ s. IsNameBefore put.name s.name) (same_Some other stream here) before
first_or_later put other others order before (suc i) stream here =
    comes_before-trans put.name other.name stream.name before (order 0 (suc i) other stream (omega arith) refl here)

behind_more : (put other : NamedBytes) (front : List NamedBytes) → IsNameBefore other.name put.name →
    ((i : ℕ) (stream : NamedBytes) → slice_get front i ≡ Some stream → IsNameBefore stream.name put.name) → (i : ℕ)
    (stream : NamedBytes) → slice_get (other ∷ front) i ≡ Some stream → IsNameBefore stream.name put.name
behind_more put other front first rest zero stream here =
    subst (λ s. IsNameBefore s.name put.name) (same_Some other stream here) first
behind_more put other front first rest (suc i) stream here = rest i stream here

pub put_among : (put : NamedBytes) (old : List NamedBytes) → Ascend old → HaveOtherNames old put.name →
    IsPutAmong put old (put_stream put old)
unfolding put_stream
put_among put [] order apart = record {
  front = [];
  back = [];
  old_is = refl;
  new_is = refl;
  behind = λ i stream here. absurd (none-some stream here);
  before = λ i stream here. absurd (none-some stream here);
}
put_among put (other ∷ others) order apart = elim (cases_Bool (is_name_before other.name put.name)) [
  | inl first ↦
      let rest = put_among put others
      (λ i j stream later less here there. order (suc i) (suc j) stream later (omega (arith, less)) here there)
      (λ i stream here. apart (suc i) stream here) in
      record {
        front = other ∷ rest.front;
        back = rest.back;
        old_is = ap (λ streams. other ∷ streams) rest.old_is;
        new_is =
            ap (λ b. cond b (other ∷ put_stream put others) (put ∷ other ∷ others)) first
            ∙ ap (λ streams. other ∷ streams) rest.new_is;
        behind = behind_more put other rest.front (before_is other.name put.name first) rest.behind;
        before = rest.before;
      }
  | inr behind ↦ record {
    front = [];
    back = other ∷ others;
    old_is = refl;
    new_is = ap (λ b. cond b (other ∷ put_stream put others) (put ∷ other ∷ others)) behind;
    behind = λ i stream here. absurd (none-some stream here);
    before = first_or_later put other others order (behind_is other.name put.name behind (apart 0 other refl));
  }
]

-- ---- what a test leaves of it

-- a test that the stream does not pass leaves of the list what it leaves of the others
pub put_left_out : (p : NamedBytes → Bool) (put : NamedBytes) (old new : List NamedBytes) → IsPutAmong put old new →
    p put ≡ false → filter p new ≡ filter p old
put_left_out p put old new is fails =
    let back = is.back in
    let first : filter p (put ∷ back) ≡ filter p back =
    ap (λ b. cond b (put ∷ filter p back) (filter p back)) fails in
    ap (filter p) is.new_is
    ∙ (filter-append p is.front (put ∷ back)
    ∙ (ap (λ rest. filter p is.front ++ rest) first
    ∙ (sym (filter-append p is.front back) ∙ ap (filter p) (sym is.old_is))))

-- a test that all pass leaves all
pub all_pass : {A : Type 0} (p : A → Bool) (xs : List A) →
    ((i : ℕ) (x : A) → slice_get xs i ≡ Some x → p x ≡ true) → filter p xs ≡ xs
all_pass p [] passes = refl
all_pass p (x ∷ xs) passes =
    ap (λ b. cond b (x ∷ filter p xs) (filter p xs)) (passes 0 x refl)
    ∙ ap (λ rest. x ∷ rest) (all_pass p xs (λ i y here. passes (suc i) y here))

-- a test of what the elements are mapped to
pub filter-map : {A B : Type 0} (p : B → Bool) (f : A → B) (xs : List A) →
    map f (filter (λ x. p (f x)) xs) ≡ filter p (map f xs)
filter-map p f [] = refl
filter-map p f (x ∷ xs) =
    let rest = filter (λ y. p (f y)) xs in
    elim (p (f x)) as (λ b. map f (cond b (x ∷ rest) rest) ≡ cond b (f x ∷ filter p (map f xs)) (filter p (map f xs))) [
      | true ↦ ap (λ ys. f x ∷ ys) (filter-map p f xs)
      | false ↦ filter-map p f xs
    ]
