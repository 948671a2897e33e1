-- The stream Data among those that a document carries, and lists in it.
use Rattle.std.specs.Prelude.{slice_get, option_map, if◌then◌else◌}
use Rattle.std.proofs.Common.{◌≡◌, ◌∙◌, sym, ap, subst, refl, ℕ, zero, suc, ◌+◌, ◌<◌, ◌≤◌, true, false, Bool}
use Rattle.std.proofs.Common.{List, [], ◌∷◌, length, drop, Some, add-one, arith}
use Rattle.cfb_streams.specs.Contents.{NamedBytes}
use Rattle.cfb_streams.specs.Names.{is_same_name}
use Rattle.huge_papx.specs.Data.{data_name, data_of, IsPrcAt}

by_test : (test : Bool) (stream : NamedBytes) (streams : List NamedBytes) → is_same_name stream.name data_name ≡ test →
    data_of (stream ∷ streams) ≡ (if test then stream.bytes else data_of streams)
by_test test stream streams is = ap (λ (b : Bool). if b then stream.bytes else data_of streams) is

-- a stream of another name is passed
pub data_left : (streams : List NamedBytes) (i : ℕ) (name : List ℕ) → i < length streams →
    option_map (λ (s : NamedBytes). s.name) (slice_get streams i) ≡ Some name → false ≡ is_same_name name data_name →
    data_of (drop i streams) ≡ data_of (drop (i + 1) streams)
data_left [] i name low named other = absurd (omega (arith, low))
data_left (stream ∷ streams) zero name low named other =
    let same : stream.name ≡ name = cc named in
    by_test false stream streams (ap (λ (n : List ℕ). is_same_name n data_name) same ∙ sym other)
    ∙ ap (λ k. data_of (drop k (stream ∷ streams))) (sym (add-one zero))
data_left (stream ∷ streams) (suc i) name low named other =
    data_left streams i name (omega (arith, low)) named other
    ∙ (ap (λ k. data_of (drop k streams)) (add-one i)
    ∙ ap (λ k. data_of (drop k (stream ∷ streams))) (sym (add-one (suc i))))

-- the one of this name is the stream
pub data_here : (streams : List NamedBytes) (i : ℕ) (name bytes : List ℕ) → i < length streams →
    option_map (λ (s : NamedBytes). s.name) (slice_get streams i) ≡ Some name →
    option_map (λ (s : NamedBytes). s.bytes) (slice_get streams i) ≡ Some bytes → true ≡ is_same_name name data_name →
    bytes ≡ data_of (drop i streams)
data_here [] i name bytes low named has is = absurd (omega (arith, low))
data_here (stream ∷ streams) zero name bytes low named has is =
    let same : stream.name ≡ name = cc named in
    let own : stream.bytes ≡ bytes = cc has in
    sym (by_test true stream streams (ap (λ (n : List ℕ). is_same_name n data_name) same ∙ sym is) ∙ own)
data_here (stream ∷ streams) (suc i) name bytes low named has is =
    data_here streams i name bytes (omega (arith, low)) named has is

-- there is one list at a place
pub prc_one : (stream : List ℕ) (at : ℕ) (one other : List ℕ) → IsPrcAt stream at one → IsPrcAt stream at other → one ≡ other
prc_one stream at one other a b = a.list_is ∙ sym b.list_is
