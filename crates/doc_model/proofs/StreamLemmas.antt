-- Lists of named streams: what is at a place, and the front of a list.
use Rattle.std.proofs.Common.{ℕ, sym, ap, arith, ◌≡◌, ◌∙◌, ◌+◌, ◌<◌, List, [], ◌∷◌, ◌++◌, length, take}
use Rattle.std.proofs.Common.{Option, Some, None}
use Rattle.std.specs.Prelude.{slice_get}
use Rattle.std.specs.Option.{option_map, unwrap_or}
use Rattle.std.proofs.lemmas.List.{take_more, take_more_same}
use Rattle.std.proofs.lemmas.List.Sums.{sum_by-take-le}
use Rattle.std.proofs.lemmas.Option.{get_or_from_slice_get, slice_get-get_or}
use Rattle.doc_bits.proofs.Public.{slice_get-take}
use Rattle.cfb_streams.specs.Contents.{NamedBytes, AreStreams}

-- a stream is its name and its bytes
pub stream_of_parts : (found : Option NamedBytes) (name bytes : List ℕ) → option_map (λ s. s.name) found ≡ Some name →
    option_map (λ s. s.bytes) found ≡ Some bytes
    → found ≡ Some (record { name = name; bytes = bytes })
stream_of_parts None name bytes p q = absurd (grind (arith, p))
stream_of_parts (Some s) name bytes p q =
    let n : s.name ≡ name = ap (λ o. unwrap_or o []) p in
    let b : s.bytes ≡ bytes = ap (λ o. unwrap_or o []) q in
    λ i. Some (record { name = n i; bytes = b i })

-- streams with other names, or with other bytes, are others
pub same_field : {X : Type 0} (field : NamedBytes → X) (found other : Option NamedBytes) (x y : X) →
    option_map field found ≡ Some x → option_map field other ≡ Some y
    → found ≡ other → x ≡ y
same_field field found other x y p q same = ap (λ o. unwrap_or o x) (sym p ∙ ap (option_map field) same ∙ q)

-- streams with one name and the same bytes are the same
pub same_by_parts : (found other : Option NamedBytes) (name bytes title content : List ℕ) →
    found ≡ Some (record { name = name; bytes = bytes })
    → other ≡ Some (record { name = title; bytes = content }) → name ≡ title → bytes ≡ content → found ≡ other
same_by_parts found other name bytes title content p q same_name same_bytes =
    p ∙ (λ i. Some (record { name = same_name i; bytes = same_bytes i })) ∙ sym q

-- one more stream that is the same in both
pub take_next_same : (streams other : List NamedBytes) (i : ℕ) → i < length streams → i < length other →
    slice_get streams i ≡ slice_get other i → take i streams ≡ take i other
    → take (i + 1) streams ≡ take (i + 1) other
take_next_same streams other i within other_within same so_far =
    let none : NamedBytes = record { name = []; bytes = [] } in
    take_more_same streams other i none within other_within so_far
    (ap (λ o. unwrap_or o none) (sym (slice_get-get_or streams i none within) ∙ same
    ∙ slice_get-get_or other i none other_within))

-- one more entry at the front
pub take_next : {X : Type 0} (xs : List X) (i : ℕ) (x : X) → i < length xs → slice_get xs i ≡ Some x →
    take (i + 1) xs ≡ take i xs ++ x ∷ []
take_next xs i x within here =
    take_more xs i x within ∙ ap (λ y. take i xs ++ y ∷ []) (get_or_from_slice_get xs i x x here)

-- the front of a list of streams is one
pub AreStreams-take : (k : ℕ) (streams : List NamedBytes) → AreStreams streams → AreStreams (take k streams)
AreStreams-take k streams are =
    record {
      some = λ i s here. are.some i s (slice_get-take k streams i s here);
      short = λ i s here. are.short i s (slice_get-take k streams i s here);
      order =
          λ i j s t less here there. are.order i j s t less (slice_get-take k streams i s here)
          (slice_get-take k streams j t there);
      total = omega (arith, are.total, sum_by-take-le (λ s. length s.bytes) streams k);
    }

-- the copy of the streams so far, and the next one
pub next_stream : (streams copy : List NamedBytes) (i : ℕ) (name bytes : List ℕ) → copy ≡ take i streams →
    i < length streams
    → option_map (λ s. s.name) (slice_get streams i) ≡ Some name →
    option_map (λ s. s.bytes) (slice_get streams i) ≡ Some bytes
    → copy ++ (record { name = name; bytes = bytes }) ∷ [] ≡ take (i + 1) streams
next_stream streams copy i name bytes so_far within p q =
    ap (λ xs. xs ++ (record { name = name; bytes = bytes }) ∷ []) so_far
    ∙ sym (take_next streams i _ within (stream_of_parts (slice_get streams i) name bytes p q))
