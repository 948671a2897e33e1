-- The streams of a container, as they are gone through.
use Rattle.std.specs.Prelude.{slice_get, option_map}
use Rattle.std.proofs.Common.{◌≡◌, ◌∙◌, refl, sym, ap, subst, ℕ, ◌+◌, ◌-◌, ◌<◌, ◌≤◌, true, false, cond}
use Rattle.std.proofs.Common.{List, [], ◌∷◌, ◌++◌, length, map, take, drop, get_or, Some, arith}
use Rattle.std.proofs.lemmas.List.{drop_all, drop_more, take_more, take_all, take-map, map-append, length-map}
use Rattle.std.proofs.lemmas.Option.{same_Some, slice_get_within, get_or_from_slice_get}
use Rattle.doc_bits.proofs.Public.{there_is, get-map}
use Rattle.cfb_streams.specs.Contents.{Stream, NamedBytes, AreStreams}
use Rattle.cfb_streams.specs.Names.{wd_name, is_same_name}
use Rattle.full_save.proofs.Public.{add_next}
use Rattle.fast_save_layout.specs.RenewedStreams.{bytes_named, renewed_bytes, renewed_streams}
use Rattle.fast_save_layout.proofs.StreamLemmas.{renewed}

-- a stream by its name and its bytes
pub record IsStreamAt (streams : List Stream) (i : ℕ) (name bytes : List ℕ) : Type 0 where
  pub stream : Stream
  pub here : slice_get streams i ≡ Some stream
  pub name_is : stream.name ≡ name
  pub bytes_are : stream.bytes ≡ bytes

pub stream_at : (streams : List Stream) (i : ℕ) (name bytes : List ℕ) → i < length streams →
    option_map (λ (s : Stream). s.name) (slice_get streams i) ≡ Some name →
    option_map (λ (s : Stream). s.bytes) (slice_get streams i) ≡ Some bytes → IsStreamAt streams i name bytes
stream_at streams i name bytes below named have =
    let found = there_is streams i below in
    record {
      stream = found.0;
      here = found.1;
      name_is = same_Some found.0.name name (ap (option_map (λ (s : Stream). s.name)) (sym found.1) ∙ named);
      bytes_are = same_Some found.0.bytes bytes (ap (option_map (λ (s : Stream). s.bytes)) (sym found.1) ∙ have);
    }

drop_at : (streams : List Stream) (i : ℕ) (s : Stream) → slice_get streams i ≡ Some s →
    drop i streams ≡ s ∷ drop (i + 1) streams
drop_at streams i s here =
    drop_more streams i s (slice_get_within streams i s here)
    ∙ ap (λ (x : Stream). x ∷ drop (i + 1) streams) (get_or_from_slice_get streams i s s here)

pub named_here : (streams : List Stream) (i : ℕ) (name own bytes : List ℕ) → IsStreamAt streams i own bytes →
    true ≡ is_same_name own name → bytes_named (drop i streams) name ≡ bytes
unfolding bytes_named
named_here streams i name own bytes is same =
    let test : is_same_name is.stream.name name ≡ true =
    ap (λ (n : List ℕ). is_same_name n name) is.name_is ∙ sym same in
    ap (λ (xs : List Stream). bytes_named xs name) (drop_at streams i is.stream is.here)
    ∙ (ap (λ b. cond b is.stream.bytes (bytes_named (drop (i + 1) streams) name)) test ∙ is.bytes_are)

pub named_later : (streams : List Stream) (i : ℕ) (name own : List ℕ) → i < length streams →
    option_map (λ (s : Stream). s.name) (slice_get streams i) ≡ Some own → false ≡ is_same_name own name →
    bytes_named (drop i streams) name ≡ bytes_named (drop (i + 1) streams) name
unfolding bytes_named
named_later streams i name own below named other =
    let found = there_is streams i below in
    let is : found.0.name ≡ own =
    same_Some found.0.name own (ap (option_map (λ (s : Stream). s.name)) (sym found.1) ∙ named) in
    let test : is_same_name found.0.name name ≡ false = ap (λ (n : List ℕ). is_same_name n name) is ∙ sym other in
    ap (λ (xs : List Stream). bytes_named xs name) (drop_at streams i found.0 found.1)
    ∙ ap (λ b. cond b found.0.bytes (bytes_named (drop (i + 1) streams) name)) test

pub named_nowhere : (streams : List Stream) (i : ℕ) (name : List ℕ) → length streams ≤ i →
    bytes_named (drop i streams) name ≡ []
unfolding bytes_named
named_nowhere streams i name all = ap (λ (xs : List Stream). bytes_named xs name) (drop_all i streams all)

-- ---- renewed

pub none_renewed : (name wd table : List ℕ) → renewed_streams name wd table [] ≡ []
unfolding renewed_streams
none_renewed name wd table = refl

take_map : (name wd table : List ℕ) (streams : List Stream) (i : ℕ) → i ≤ length streams →
    renewed_streams name wd table (take i streams) ≡ take i (renewed_streams name wd table streams)
unfolding renewed_streams
take_map name wd table streams i within = sym (take-map (renewed name wd table) i streams)

pub renewed_more : (name wd table : List ℕ) (streams : List Stream) (i : ℕ) (s : Stream) →
    slice_get streams i ≡ Some s →
    renewed_streams name wd table (take (i + 1) streams)
    ≡ renewed_streams name wd table (take i streams) ++ renewed name wd table s ∷ []
unfolding renewed_streams
renewed_more name wd table streams i s here =
    let f = renewed name wd table in
    ap (map f)
    (take_more streams i s (slice_get_within streams i s here)
    ∙ ap (λ (x : Stream). take i streams ++ x ∷ []) (get_or_from_slice_get streams i s s here))
    ∙ map-append f (take i streams) (s ∷ [])

-- a stream that comes next may be put last
pub renewed_next : (name wd table : List ℕ) (streams : List Stream) (i : ℕ) (s : Stream) →
    slice_get streams i ≡ Some s → AreStreams (renewed_streams name wd table streams) →
    AreStreams (renewed_streams name wd table (take i streams) ++ renewed name wd table s ∷ [])
unfolding renewed_streams
renewed_next name wd table streams i s here are =
    let f = renewed name wd table in
    let all : List NamedBytes = map f streams in
    let below = slice_get_within streams i s here in
    let len = length-map streams f in
    let zero : i - 0 ≡ i = omega arith in
    let full : length all - 0 ≡ length all = omega arith in
    let whole : take (length all - 0) all ≡ all = ap (λ (n : ℕ). take n all) full ∙ take_all (length all) all
    (omega arith) in
    let next = add_next [] all 0 i (length all) (f s) (omega arith) (omega (arith, below, len)) (omega arith)
    (subst AreStreams (sym whole) are) in
    let at : get_or all i (f s) ≡ f s = get_or_from_slice_get all i (f s) (f s) (get-map f streams i s here) in
    let front : take (i - 0) all ≡ renewed_streams name wd table (take i streams) =
    ap (λ (n : ℕ). take n all) zero ∙ sym (take_map name wd table streams i (omega (arith, below))) in
    subst (λ (x : NamedBytes). AreStreams (renewed_streams name wd table (take i streams) ++ x ∷ [])) at
    (subst (λ (xs : List NamedBytes). AreStreams (xs ++ get_or all i (f s) ∷ [])) front next)

-- its bytes, by the two tests
pub is_wd : (name wd table own : List ℕ) (s : Stream) → s.name ≡ own → true ≡ is_same_name own wd_name →
    renewed_bytes name wd table s ≡ wd
is_wd name wd table own s is same =
    ap (λ b. cond b wd (cond (is_same_name s.name name) table s.bytes))
    (ap (λ (n : List ℕ). is_same_name n wd_name) is ∙ sym same)

pub is_table : (name wd table own : List ℕ) (s : Stream) → s.name ≡ own → false ≡ is_same_name own wd_name →
    true ≡ is_same_name own name → renewed_bytes name wd table s ≡ table
is_table name wd table own s is other same =
    ap (λ b. cond b wd (cond (is_same_name s.name name) table s.bytes))
    (ap (λ (n : List ℕ). is_same_name n wd_name) is ∙ sym other)
    ∙ ap (λ b. cond b table s.bytes) (ap (λ (n : List ℕ). is_same_name n name) is ∙ sym same)

pub is_other : (name wd table own : List ℕ) (s : Stream) → s.name ≡ own → false ≡ is_same_name own wd_name →
    false ≡ is_same_name own name → renewed_bytes name wd table s ≡ s.bytes
is_other name wd table own s is other neither =
    ap (λ b. cond b wd (cond (is_same_name s.name name) table s.bytes))
    (ap (λ (n : List ℕ). is_same_name n wd_name) is ∙ sym other)
    ∙ ap (λ b. cond b table s.bytes) (ap (λ (n : List ℕ). is_same_name n name) is ∙ sym neither)

-- the next stream, with the bytes that it is given
pub record IsNext (streams : List Stream) (i : ℕ) (name wd table : List ℕ) (next : NamedBytes) : Type 0 where
  pub stream : Stream
  pub here : slice_get streams i ≡ Some stream
  pub is : renewed name wd table stream ≡ next

-- its name
name_at : (streams : List Stream) (i : ℕ) (own : List ℕ) → i < length streams →
    option_map (λ (s : Stream). s.name) (slice_get streams i) ≡ Some own →
    (s : Stream) × ((slice_get streams i ≡ Some s) × (s.name ≡ own))
name_at streams i own below named =
    let found = there_is streams i below in (
      found.0,
      (found.1, same_Some found.0.name own (ap (option_map (λ (s : Stream). s.name)) (sym found.1) ∙ named)),
    )

pub next_wd : (streams : List Stream) (i : ℕ) (name wd table own bytes : List ℕ) → i < length streams →
    option_map (λ (s : Stream). s.name) (slice_get streams i) ≡ Some own → true ≡ is_same_name own wd_name →
    bytes ≡ wd → IsNext streams i name wd table (record { name = own; bytes = bytes })
next_wd streams i name wd table own bytes below named same given =
    let s = name_at streams i own below named in
    let has = is_wd name wd table own s.0 s.1.1 same ∙ sym given in
    record { stream = s.0; here = s.1.0; is = (λ k. record { name = s.1.1 k; bytes = has k }) }

pub next_table : (streams : List Stream) (i : ℕ) (name wd table own bytes : List ℕ) → i < length streams →
    option_map (λ (s : Stream). s.name) (slice_get streams i) ≡ Some own → false ≡ is_same_name own wd_name →
    true ≡ is_same_name own name → bytes ≡ table →
    IsNext streams i name wd table (record { name = own; bytes = bytes })
next_table streams i name wd table own bytes below named other same given =
    let s = name_at streams i own below named in
    let has = is_table name wd table own s.0 s.1.1 other same ∙ sym given in
    record { stream = s.0; here = s.1.0; is = (λ k. record { name = s.1.1 k; bytes = has k }) }

pub next_other : (streams : List Stream) (i : ℕ) (name wd table own old bytes : List ℕ) → i < length streams →
    option_map (λ (s : Stream). s.name) (slice_get streams i) ≡ Some own → false ≡ is_same_name own wd_name →
    false ≡ is_same_name own name → option_map (λ (s : Stream). s.bytes) (slice_get streams i) ≡ Some old →
    bytes ≡ old → IsNext streams i name wd table (record { name = own; bytes = bytes })
next_other streams i name wd table own old bytes below named other neither has_bytes given =
    let s = stream_at streams i own old below named has_bytes in
    let has = is_other name wd table own s.stream s.name_is other neither ∙ (s.bytes_are ∙ sym given) in
    record { stream = s.stream; here = s.here; is = (λ k. record { name = s.name_is k; bytes = has k }) }
