-- A written set is a property set: its numbers, and its pairs.
use Rattle.std.proofs.Common.{◌≡◌, ◌∙◌, ℕ, suc, ◌+◌, ◌*◌, ◌^◌, ◌<◌, ◌≤◌, List}
use Rattle.std.proofs.Common.{◌++◌}
use Rattle.std.proofs.Common.{length, Some, sym, ap, arith, length-append}
use Rattle.std.specs.Prelude.{slice_get, flat_map}
use Rattle.std.proofs.lemmas.List.Sums.{sum_by-take-le}
use Rattle.std.proofs.lemmas.List.Concat.{length-flat_map}
use Rattle.doc_bits.specs.Number.{number_at, number_bytes}
use Rattle.doc_bits.proofs.Public.{number_at-number_bytes, length-number_bytes, there_is}
use Rattle.summary_set.specs.declared.values.Property.{Property}
use Rattle.summary_set.specs.PropertySet.{first_set_begin, first_set_size, pair_count, pair_place, pair_at}
use Rattle.summary_set.specs.Form.{HasHead, IsValidPair}
use Rattle.summary_set.specs.Written.{KeptBytes, padded_value, padded_len, pair_bytes}
use Rattle.summary_set.specs.Written.{first_offset, written_size, written_head, written_set}
use Rattle.summary_set.specs.Laws.{AreWritable}
use Rattle.summary_set.proofs.WriteLemmas.{padded_len-is}
use Rattle.summary_set.proofs.HeadLemmas.{skip, flat, flat-is, IsKept, head_len, flat-skip, flat-mark, flat-one}
use Rattle.summary_set.proofs.HeadLemmas.{flat-begin}
use Rattle.summary_set.proofs.PairLemmas.{stands_at, length-pair_bytes, pair_id, pair_offset, sum_take-le}
use Rattle.summary_set.proofs.PairLemmas.{sum_take-more}

-- what is behind the head
unfoldable pub body : List Property → List ℕ
body values =
    number_bytes 4 (written_size values) ++ (number_bytes 4 (length values) ++ (pair_bytes (first_offset values) values
    ++ flat_map (λ (p : Property). padded_value p.value) values))

pub is_kept : (kept : KeptBytes) (values : List Property) → AreWritable kept values → IsKept kept
is_kept kept values w = record { system = w.system; format = w.format }

pub written-flat : (kept : KeptBytes) (values : List Property) → written_set kept values ≡ flat kept (body values)
unfolding body
written-flat kept values = flat-is kept (body values)

pub written-begin : (kept : KeptBytes) (values : List Property) → AreWritable kept values →
    first_set_begin (written_set kept values)
    ≡ 48
written-begin kept values w = ap (λ b. number_at b 44 4) (written-flat kept values) ∙ flat-begin kept (body values)
    (is_kept kept values w)

-- a number behind the head
pub written-at : (kept : KeptBytes) (values : List Property) (at : ℕ) → AreWritable kept values →
    number_at (written_set kept
    values) (48 + at) 4 ≡ number_at (body values) at 4
written-at kept values at w = ap (λ b. number_at b (48 + at) 4) (written-flat kept values) ∙ flat-skip kept
    (body values) at
    4 (is_kept kept values w)

pub few_values : (kept : KeptBytes) (values : List Property) → AreWritable kept values → length values < 2 ^ 32
few_values kept values w = let fits = w.fits in omega arith

pub written-size : (kept : KeptBytes) (values : List Property) → AreWritable kept values →
    first_set_size (written_set kept values) ≡
    written_size values
unfolding body
written-size kept values w =
    ap (λ p. number_at (written_set kept values) p 4) (written-begin kept values w)
    ∙ (written-at kept values 0 w
    ∙ number_at-number_bytes 4 (written_size values)
    (number_bytes 4 (length values) ++ (pair_bytes (first_offset values)
    values ++ flat_map (λ (p : Property). padded_value p.value) values)) w.fits)

pub written-count : (kept : KeptBytes) (values : List Property) → AreWritable kept values →
    pair_count (written_set kept values)
    ≡ length values
unfolding body
written-count kept values w =
    let rest : List ℕ = pair_bytes (first_offset values) values ++ flat_map (λ (p : Property). padded_value p.value)
    values in
    ap (λ p. number_at (written_set kept values) (p + 4) 4) (written-begin kept values w)
    ∙ (written-at kept values 4 w
    ∙ (skip (number_bytes 4 (written_size values)) (number_bytes 4 (length values) ++ rest) 4 0 4 (length-number_bytes 4
    (written_size values))
    ∙ number_at-number_bytes 4 (length values) rest (few_values kept values w)))

-- a number of the pairs
pub written-pair : (kept : KeptBytes) (values : List Property) (i at : ℕ) → AreWritable kept values →
    number_at (written_set
    kept values) (pair_place (written_set kept values) i + at) 4 ≡ number_at (pair_bytes (first_offset values) values ++
    flat_map (λ (p : Property). padded_value p.value) values) (8 * i + at) 4
unfolding body
written-pair kept values i at w =
    let rest : List ℕ = pair_bytes (first_offset values) values ++ flat_map (λ (p : Property). padded_value p.value)
    values in
    let begin = written-begin kept values w in
    let place : pair_place (written_set kept values) i + at ≡ 48 + (4 + (4 + (8 * i + at))) = omega arith in
    ap (λ p. number_at (written_set kept values) p 4) place
    ∙ (written-at kept values (4 + (4 + (8 * i + at))) w
    ∙ (skip (number_bytes 4 (written_size values)) (number_bytes 4 (length values) ++ rest) 4 (4 + (8 * i + at)) 4
    (length-number_bytes 4 (written_size values))
    ∙ skip (number_bytes 4 (length values)) rest 4 (8 * i + at) 4 (length-number_bytes 4 (length values))))

pub written-id : (kept : KeptBytes) (values : List Property) (i : ℕ) (x : Property) → AreWritable kept values →
    slice_get values
    i ≡ Some x → (pair_at (written_set kept values) i).id ≡ x.id
written-id kept values i x w here =
    let place : pair_place (written_set kept values) i ≡ pair_place (written_set kept values) i + 0 = omega arith in
    ap (λ p. number_at (written_set kept values) p 4) place
    ∙ (written-pair kept values i 0 w
    ∙ pair_id (first_offset values) values (flat_map (λ (p : Property). padded_value p.value) values) i x here
    (w.ids i x here))

pub written-offset : (kept : KeptBytes) (values : List Property) (i : ℕ) → AreWritable kept values → i < length values →
    (pair_at (written_set kept values) i).offset ≡ stands_at values i
unfolding stands_at
written-offset kept values i w low =
    let fits = w.fits in
    let le = sum_by-take-le padded_len values i in
    written-pair kept values i 4 w
    ∙ pair_offset (first_offset values) values (flat_map (λ (p : Property). padded_value p.value) values) i low (omega
    arith)

pub length-written : (kept : KeptBytes) (values : List Property) → AreWritable kept values →
    length (written_set kept values) ≡
    48 + written_size values
length-written kept values w =
    let size : List ℕ = number_bytes 4 (written_size values) in
    let count : List ℕ = number_bytes 4 (length values) in
    let pairs : List ℕ = pair_bytes (first_offset values) values in
    let all : List ℕ = flat_map (λ (p : Property). padded_value p.value) values in
    let head = head_len kept (is_kept kept values w) in
    let a = length-append (written_head kept) (size ++ (count ++ (pairs ++ all))) in
    let b = length-append size (count ++ (pairs ++ all)) in
    let d = length-append count (pairs ++ all) in
    let e = length-append pairs all in
    let x = length-number_bytes 4 (written_size values) in
    let y = length-number_bytes 4 (length values) in
    let z = length-pair_bytes (first_offset values) values in
    let sum = length-flat_map (λ (p : Property). padded_value p.value) values in
    omega arith

pub written-head : (kept : KeptBytes) (values : List Property) → AreWritable kept values →
    HasHead (written_set kept values)
written-head kept values w =
    let begin = written-begin kept values w in
    let size = written-size kept values w in
    let count = written-count kept values w in
    let long = length-written kept values w in
    let is = is_kept kept values w in
    record {
      long = omega arith;
      mark = ap (λ b. number_at b 0 2) (written-flat kept values) ∙ flat-mark kept (body values);
      one = ap (λ b. number_at b 24 4) (written-flat kept values) ∙ flat-one kept (body values) is;
      begins = record { behind_head = omega arith; numbers = omega arith };
      sized = record { pairs = omega arith; within = omega arith };
    }

-- a value that is not empty has four bytes at least
pub padded_least : (x : Property) → 1 ≤ length x.value → 4 ≤ padded_len x
padded_least x some =
    let is = padded_len-is x.value in
    omega arith

pub stands_before : (kept : KeptBytes) (values : List Property) (j i : ℕ) (x : Property) → AreWritable kept values →
    slice_get
    values j ≡ Some x → j < i → stands_at values j + padded_len x ≤ stands_at values i
unfolding stands_at
stands_before kept values j i x w here h =
    let more = sum_take-more padded_len values j x here in
    let le = sum_take-le padded_len values (suc j) i (omega arith) in
    omega arith

pub stands_within : (kept : KeptBytes) (values : List Property) (i : ℕ) (x : Property) → AreWritable kept values →
    slice_get
    values i ≡ Some x → stands_at values i + padded_len x ≤ written_size values
unfolding stands_at
stands_within kept values i x w here =
    let more = sum_take-more padded_len values i x here in
    let le = sum_by-take-le padded_len values (suc i) in
    omega arith

pub written-right : (kept : KeptBytes) (values : List Property) (i : ℕ) → AreWritable kept values → i < length values →
    IsValidPair (written_set kept values) i
unfolding stands_at
written-right kept values i w low =
    let size = written-size kept values w in
    let count = written-count kept values w in
    let found = there_is values i low in
    let x : Property = found.0 in
    let offset = written-offset kept values i w low in
    let least = padded_least x (w.some i x found.1) in
    let end = stands_within kept values i x w found.1 in
    record {
      behind_pairs = omega arith;
      within = omega arith;
      new_id = λ j h e.
          let other = there_is values j (omega arith) in
          w.apart j i other.0 x h other.1 found.1
          (sym (written-id kept values j other.0 w other.1) ∙ (e ∙ written-id kept
          values i x w found.1));
      new_offset = λ j h e.
          let other = there_is values j (omega arith) in
          let before = stands_before kept values j i other.0 w other.1 h in
          let there = written-offset kept values j w (omega arith) in
          let some = padded_least other.0 (w.some j other.0 other.1) in
          absurd (omega arith);
    }
