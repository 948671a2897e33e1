-- The streams of a container, of which two have new bytes.
use Rattle.std.specs.Prelude.{slice_get, slice_index, slice_index_or, filter}
use Rattle.std.specs.List.{range_with_len}
use Rattle.std.specs.Option.{unwrap_or}
use Rattle.std.proofs.Common.{◌≡◌, ◌∙◌, refl, sym, ap, subst, inl, inr, ℕ, zero, suc, ◌+◌, ◌*◌, ◌<◌, ◌≤◌, ◌^◌}
use Rattle.std.proofs.Common.{true, false, Bool, cond, List, [], ◌∷◌, length, map, Some, All, arith}
use Rattle.std.proofs.lemmas.Bool.{cases_Bool, cases_lt, false_from_ne_true, true≢false}
use Rattle.std.proofs.lemmas.List.{length-map, get_or_past}
use Rattle.std.proofs.lemmas.List.Sums.{sum_by-le}
use Rattle.std.proofs.lemmas.Option.{same_Some, none-some}
use Rattle.doc_bits.proofs.Public.{map-map, from_map, get-map, All-from_slice_get, number_at-bound}
use Rattle.doc_bits.specs.Number.{AreBytes}
use Rattle.cfb_streams.specs.Contents.{Stream, Contents, NamedBytes, HasNamed, AreStreams}
use Rattle.cfb_streams.specs.Container.{HasContents}
use Rattle.cfb_directory.specs.Directory.{AreSameNames, IsNameBefore}
use Rattle.cfb_directory.specs.Reach.{entry_place}
use Rattle.cfb_streams.specs.Names.{wd_name, first_table_name, second_table_name, is_same_name}
use Rattle.cfb_streams.proofs.Public.{same_name-is}
use Rattle.cfb_layout.specs.Layout.{no_stream, stream_at, contents_of}
use Rattle.file_rules.proofs.Public.{one_stream}
use Rattle.doc_read.specs.CarriedParts.{is_carried, carried_streams, AreWithinBounds}
use Rattle.doc_read.proofs.Public.{without_chain, wd-not_carried, table-not_carried}
use Rattle.full_save.proofs.Public.{filter-map}
use Rattle.fast_save_layout.specs.RenewedStreams.{bytes_named, chain_named, renewed_bytes, renewed_streams}

-- ---- streams by name

-- where the first stream with a name is: the bytes and the sectors by the name are its own
pub record IsFirstNamed (streams : List Stream) (name : List ℕ) : Type 0 where
  pub index : ℕ
  pub stream : Stream
  pub here : slice_get streams index ≡ Some stream
  pub named : AreSameNames stream.name name
  pub bytes : bytes_named streams name ≡ stream.bytes
  pub chain : chain_named streams name ≡ unwrap_or stream.chain []

first_here : (stream : Stream) (streams : List Stream) (name : List ℕ) → is_same_name stream.name name ≡ true →
    IsFirstNamed (stream ∷ streams) name
unfolding bytes_named chain_named
first_here stream streams name same = record {
  index = 0;
  stream = stream;
  here = refl;
  named = (same_name-is stream.name name).0 same;
  bytes = ap (λ b. cond b stream.bytes (bytes_named streams name)) same;
  chain = ap (λ b. cond b (unwrap_or stream.chain []) (chain_named streams name)) same;
}

first_later : (stream : Stream) (streams : List Stream) (name : List ℕ) → is_same_name stream.name name ≡ false →
    IsFirstNamed streams name → IsFirstNamed (stream ∷ streams) name
unfolding bytes_named chain_named
first_later stream streams name other is = record {
  index = suc is.index;
  stream = is.stream;
  here = is.here;
  named = is.named;
  bytes = ap (λ b. cond b stream.bytes (bytes_named streams name)) other ∙ is.bytes;
  chain = ap (λ b. cond b (unwrap_or stream.chain []) (chain_named streams name)) other ∙ is.chain;
}

pub first_named : (streams : List Stream) (name : List ℕ) (i : ℕ) (stream : Stream) →
    slice_get streams i ≡ Some stream → AreSameNames stream.name name → IsFirstNamed streams name
first_named [] name i stream here named = absurd (none-some stream here)
first_named (first ∷ streams) name zero stream here named =
    first_here first streams name ((same_name-is first.name name).1
    (subst (λ (s : Stream). AreSameNames s.name name) (sym (same_Some first stream here)) named))
first_named (first ∷ streams) name (suc i) stream here named = elim (cases_Bool (is_same_name first.name name)) [
  | inl same ↦ first_here first streams name same
  | inr other ↦ first_later first streams name other (first_named streams name i stream here named)
]

-- the bytes by name are those of a stream with the name, if there is one
pub named_is : (file : List ℕ) (contents : Contents) (name bytes : List ℕ) → HasContents file contents →
    HasNamed contents.streams name bytes → bytes_named contents.streams name ≡ bytes
named_is file contents name bytes has named =
    let first = first_named contents.streams name named.index named.stream named.here named.named in
    let one = one_stream file contents name first.index named.index first.stream named.stream has first.here named.here
    first.named named.named in
    first.bytes ∙ (ap (λ (s : Stream). s.bytes) one ∙ sym named.same)

-- ---- the container of streams has them

all_at : (streams : List NamedBytes) (from : ℕ) (all : List NamedBytes) →
    ((i : ℕ) → i < length streams → slice_index_or all (from + i) no_stream ≡ slice_index_or streams i no_stream) →
    map (λ i. slice_index_or all i no_stream) (range_with_len from (length streams)) ≡ streams
all_at [] from all same = refl
all_at (stream ∷ streams) from all same =
    let first : from ≡ from + 0 = omega arith in
    let head : slice_index_or all from no_stream ≡ stream =
    ap (λ n. slice_index_or all n no_stream) first ∙ same 0 (omega arith) in
    let tail = all_at streams (from + 1) all (λ i below.
    let e : from + 1 + i ≡ from + suc i = omega arith in
    ap (λ n. slice_index_or all n no_stream) e ∙ same (suc i) (omega arith)) in
    λ k. head k ∷ tail k

contents_named : (streams : List NamedBytes) (clsid : List ℕ) →
    map without_chain (contents_of streams clsid).streams ≡ streams
unfolding contents_of
contents_named streams clsid =
    map-map without_chain (stream_at streams) (range_with_len 0 (length streams))
    ∙ all_at streams 0 streams
    (λ i below. let e : 0 + i ≡ i = omega arith in ap (λ n. slice_index_or streams n no_stream) e)

pub contents_clsid : (streams : List NamedBytes) (clsid : List ℕ) → (contents_of streams clsid).clsid ≡ clsid
unfolding contents_of
contents_clsid streams clsid = refl

pub contents_has : (streams : List NamedBytes) (clsid : List ℕ) (i : ℕ) (stream : NamedBytes) (name : List ℕ) →
    slice_get streams i ≡ Some stream → AreSameNames stream.name name →
    HasNamed (contents_of streams clsid).streams name stream.bytes
contents_has streams clsid i stream name here named =
    let all = (contents_of streams clsid).streams in
    let there : slice_get (map without_chain all) i ≡ Some stream =
    subst (λ xs. slice_get xs i ≡ Some stream) (sym (contents_named streams clsid)) here in
    let found = from_map without_chain all i stream there in
    record {
      index = i;
      stream = found.0;
      here = found.1.0;
      named = subst (λ (s : NamedBytes). AreSameNames s.name name) (sym found.1.1) named;
      same = sym (ap (λ (s : NamedBytes). s.bytes) found.1.1);
    }

pub contents_carried : (streams : List NamedBytes) (clsid : List ℕ) →
    carried_streams (contents_of streams clsid).streams ≡ filter (λ stream. is_carried stream.name) streams
contents_carried streams clsid =
    let all = (contents_of streams clsid).streams in
    let p : NamedBytes → Bool = λ stream. is_carried stream.name in
    filter-map p without_chain all ∙ ap (filter p) (contents_named streams clsid)

-- ---- the renewed streams

-- a stream with its new bytes
abbrev pub renewed : List ℕ → List ℕ → List ℕ → Stream → NamedBytes
renewed name wd table stream = record { name = stream.name; bytes = renewed_bytes name wd table stream }

wd_renewed : (name wd table : List ℕ) (stream : Stream) → AreSameNames stream.name wd_name →
    renewed_bytes name wd table stream ≡ wd
wd_renewed name wd table stream same =
    ap (λ b. cond b wd (cond (is_same_name stream.name name) table stream.bytes))
    ((same_name-is stream.name wd_name).1 same)

table_renewed : (name wd table : List ℕ) (stream : Stream) → length name ≡ 6 → AreSameNames stream.name name →
    renewed_bytes name wd table stream ≡ table
table_renewed name wd table stream six same =
    let other : is_same_name stream.name wd_name ≡ false =
    false_from_ne_true (is_same_name stream.name wd_name) (λ is.
    let long = ((same_name-is stream.name wd_name).0 is).long in
    let own = same.long in
    absurd (omega (arith, long, own, six))) in
    ap (λ b. cond b wd (cond (is_same_name stream.name name) table stream.bytes)) other
    ∙ ap (λ b. cond b table stream.bytes) ((same_name-is stream.name name).1 same)

pub renewed_wd : (name wd table : List ℕ) (streams : List Stream) (clsid bytes : List ℕ) →
    HasNamed streams wd_name bytes →
    HasNamed (contents_of (renewed_streams name wd table streams) clsid).streams wd_name wd
unfolding renewed_streams
renewed_wd name wd table streams clsid bytes has =
    subst (λ b. HasNamed (contents_of (renewed_streams name wd table streams) clsid).streams wd_name b)
    (wd_renewed name wd table has.stream has.named)
    (contents_has (renewed_streams name wd table streams) clsid has.index (renewed name wd table has.stream) wd_name
    (get-map (renewed name wd table) streams has.index has.stream has.here) has.named)

pub renewed_table : (name wd table : List ℕ) (streams : List Stream) (clsid bytes : List ℕ) → length name ≡ 6 →
    HasNamed streams name bytes →
    HasNamed (contents_of (renewed_streams name wd table streams) clsid).streams name table
unfolding renewed_streams
renewed_table name wd table streams clsid bytes six has =
    subst (λ b. HasNamed (contents_of (renewed_streams name wd table streams) clsid).streams name b)
    (table_renewed name wd table has.stream six has.named)
    (contents_has (renewed_streams name wd table streams) clsid has.index (renewed name wd table has.stream) name
    (get-map (renewed name wd table) streams has.index has.stream has.here) has.named)

-- a carried stream stays
carried_stays : (first : Bool) (wd table : List ℕ) (stream : Stream) → is_carried stream.name ≡ true →
    renewed (cond first second_table_name first_table_name) wd table stream ≡ without_chain stream
carried_stays first wd table stream carried =
    let name = cond first second_table_name first_table_name in
    let no_wd : is_same_name stream.name wd_name ≡ false =
    false_from_ne_true (is_same_name stream.name wd_name) (λ is.
    absurd (true≢false (sym carried ∙ wd-not_carried stream.name ((same_name-is stream.name wd_name).0 is)))) in
    let no_table : is_same_name stream.name name ≡ false =
    false_from_ne_true (is_same_name stream.name name) (λ is.
    absurd (true≢false (sym carried ∙ table-not_carried stream.name first ((same_name-is stream.name name).0 is)))) in
    let bytes : renewed_bytes name wd table stream ≡ stream.bytes =
    ap (λ b. cond b wd (cond (is_same_name stream.name name) table stream.bytes)) no_wd
    ∙ ap (λ b. cond b table stream.bytes) no_table in
    ap (λ (b : List ℕ). record { name = stream.name; bytes = b }) bytes

filter_renewed : (first : Bool) (wd table : List ℕ) (streams : List Stream) →
    filter (λ (s : NamedBytes). is_carried s.name)
    (map (renewed (cond first second_table_name first_table_name) wd table) streams)
    ≡ map without_chain (filter (λ (s : Stream). is_carried s.name) streams)
filter_renewed first wd table [] = refl
filter_renewed first wd table (stream ∷ streams) =
    let name = cond first second_table_name first_table_name in
    let own = renewed name wd table stream in
    let rest = filter (λ (s : NamedBytes). is_carried s.name) (map (renewed name wd table) streams) in
    let old = filter (λ (s : Stream). is_carried s.name) streams in
    let more = filter_renewed first wd table streams in
    elim (cases_Bool (is_carried stream.name)) [
      | inl carried ↦
          ap (λ b. cond b (own ∷ rest) rest) carried
          ∙ ((λ i. carried_stays first wd table stream carried i ∷ more i)
          ∙ sym (ap (λ b. map without_chain (cond b (stream ∷ old) old)) carried))
      | inr not ↦
          ap (λ b. cond b (own ∷ rest) rest) not
          ∙ (more ∙ sym (ap (λ b. map without_chain (cond b (stream ∷ old) old)) not))
    ]

pub renewed_carried : (first : Bool) (wd table : List ℕ) (streams : List Stream) (clsid : List ℕ) →
    carried_streams (contents_of (renewed_streams (cond first second_table_name first_table_name) wd table streams)
    clsid).streams ≡ carried_streams streams
unfolding renewed_streams
renewed_carried first wd table streams clsid =
    contents_carried (renewed_streams (cond first second_table_name first_table_name) wd table streams) clsid
    ∙ filter_renewed first wd table streams

-- ---- they can be put into a container

renewed_short : (name wd table : List ℕ) (stream : Stream) → length wd < 2 ^ 32 → length table < 2 ^ 32 →
    length stream.bytes < 2 ^ 32 → length (renewed_bytes name wd table stream) ≤ 2 ^ 32
renewed_short name wd table stream short_wd short_table short =
    elim (is_same_name stream.name wd_name)
    as (λ b. length (cond b wd (cond (is_same_name stream.name name) table stream.bytes)) ≤ 2 ^ 32) [
      | true ↦ omega (arith, short_wd)
      | false ↦
          elim (is_same_name stream.name name) as (λ b. length (cond b table stream.bytes) ≤ 2 ^ 32) [
            | true ↦ omega (arith, short_table)
            | false ↦ omega (arith, short)
          ]
    ]

pub renewed_are_streams : (name wd table : List ℕ) (contents : Contents) → AreWithinBounds contents →
    length wd < 2 ^ 32 → length table < 2 ^ 32 → AreStreams (renewed_streams name wd table contents.streams)
unfolding renewed_streams
renewed_are_streams name wd table contents bounds short_wd short_table =
    let old = contents.streams in
    let f = renewed name wd table in
    let streams : List NamedBytes = map f old in
    let each : All (λ (s : NamedBytes). length s.bytes ≤ 2 ^ 32) streams =
    All-from_slice_get (λ (s : NamedBytes). length s.bytes ≤ 2 ^ 32) streams (λ i s here.
    let found = from_map f old i s here in
    let short = bounds.short i found.0 found.1.0 in
    subst (λ (t : NamedBytes). length t.bytes ≤ 2 ^ 32) found.1.1
    (renewed_short name wd table found.0 short_wd short_table (omega (arith, short)))) in
    let sum = sum_by-le (λ (s : NamedBytes). length s.bytes) (2 ^ 32) streams each in
    let count = length-map old f in
    let few = bounds.few in
    record {
      some = λ i s here.
          let found = from_map f old i s here in
          subst (λ (t : NamedBytes). 1 ≤ length t.name) found.1.1 (bounds.some i found.0 found.1.0);
      short = λ i s here.
          let found = from_map f old i s here in
          subst (λ (t : NamedBytes). length t.name ≤ 31) found.1.1 (bounds.fit i found.0 found.1.0);
      order = λ i j s later less here there.
          let one = from_map f old i s here in
          let two = from_map f old j later there in
          subst (λ (t : NamedBytes). IsNameBefore t.name later.name) one.1.1
          (subst (λ (t : NamedBytes). IsNameBefore one.0.name t.name) two.1.1
          (bounds.order i j one.0 two.0 less one.1.0 two.1.0));
      total = omega (arith, sum, count, few);
    }

pub length-renewed : (name wd table : List ℕ) (streams : List Stream) →
    length (renewed_streams name wd table streams) ≡ length streams
unfolding renewed_streams
length-renewed name wd table streams = length-map streams (renewed name wd table)

-- names have units of 16 bits
unit_small : (file : List ℕ) (contents : Contents) → AreBytes file → HasContents file contents → (i : ℕ)
    (stream : Stream) → slice_get contents.streams i ≡ Some stream → (k : ℕ) → slice_index stream.name k < 2 ^ 16
unit_small file contents bytes has i stream here k =
    let is = (has.streams.each i stream here).name in
    elim (cases_lt k (length stream.name)) [
      | inl low ↦
          let unit = is.units k low in
          let at = entry_place has.parts.directory (slice_index has.entries i) in
          let bound = number_at-bound file (at + 2 * k) 2 bytes in
          omega (arith, unit, bound)
      | inr past ↦ omega (arith, get_or_past stream.name k 0 past)
    ]

pub renewed_units : (file name wd table : List ℕ) (contents : Contents) → AreBytes file → HasContents file contents →
    (i : ℕ) (stream : NamedBytes) → slice_get (renewed_streams name wd table contents.streams) i ≡ Some stream →
    (k : ℕ) → slice_index stream.name k < 2 ^ 16
unfolding renewed_streams
renewed_units file name wd table contents bytes has i stream here k =
    let found = from_map (renewed name wd table) contents.streams i stream here in
    subst (λ (t : NamedBytes). slice_index t.name k < 2 ^ 16) found.1.1
    (unit_small file contents bytes has i found.0 found.1.0 k)
