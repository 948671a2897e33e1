-- Lists that are written piece by piece.
use Rattle.std.proofs.Common.{◌≡◌, ℕ, zero, suc, ◌+◌, ◌-◌, ◌<◌, List, [], ◌∷◌, ◌++◌, length, map, take, get_or}
use Rattle.std.proofs.Common.{sum, ltb, Some, slice_get, sym, ap, ◌∙◌, arith}
use Rattle.std.specs.List.{flat_map, range_with_len}
use Rattle.std.proofs.lemmas.List.{append-nil, append_assoc, flat_map_more, take_more, map_more}
use Rattle.std.proofs.lemmas.List.Concat.{flat_map-append}
use Rattle.std.proofs.lemmas.List.Sums.{sum_by-cons}
use Rattle.std.specs.Option.{option_map}
use Rattle.std.proofs.lemmas.Bool.{lt-ltb, le-ltb, cond-true, cond-false}
use Rattle.std.proofs.lemmas.Option.{slice_get-get_or}
use Rattle.doc_bits.specs.Number.{number_bytes}
use Rattle.cfb_streams.specs.Contents.{NamedBytes}
use Rattle.cfb_layout.specs.Entries.{unused_entry}
use Rattle.cfb_layout.specs.Layout.{lengths_of, no_stream, stream_entry, directory_entry}
use Rattle.cfb_sectors.specs.SectorChain.{end_of_chain}
use Rattle.cfb_layout.specs.Sectors.{chain_entries, chains_from, chain_start}

-- one element more of a list that is joined
pub flat_step : {X : Type 0} (f : X → List ℕ) (base out new : List ℕ) (xs : List X) (i : ℕ) (x d : X) →
    out ≡ base ++ flat_map f (take i xs) → new ≡ out ++ f x → i < length xs → get_or xs i d ≡ x →
    new ≡ base ++ flat_map f (take (i + 1) xs)
flat_step f base out new xs i x d a b h e =
    b ∙ (ap (λ ys. ys ++ f x) a
    ∙ (flat_map_more f base (take i xs) x
    ∙ ap (λ ys. base ++ flat_map f ys) (ap (λ y. take i xs ++ y ∷ []) (sym e) ∙ sym (take_more xs i d h))))

-- one number more of a row
pub range_more : (from n : ℕ) → range_with_len from (suc n) ≡ range_with_len from n ++ (from + n) ∷ []
range_more from zero = let e : from ≡ from + 0 = omega arith in ap (λ k. k ∷ []) e
range_more from (suc n) =
    let e : from + 1 + n ≡ from + suc n = omega arith in
    ap (λ xs. from ∷ xs) (range_more (from + 1) n ∙ ap (λ k. range_with_len (from + 1) n ++ k ∷ []) e)

pub row_step : (f : ℕ → List ℕ) (base out new : List ℕ) (from at n end : ℕ) → out ≡ base ++ flat_map f (range_with_len
    from n) → new ≡ out ++ f at → at ≡ from + n → end ≡ n + 1 → new ≡ base ++ flat_map f (range_with_len from end)
row_step f base out new from at n end a b e last =
    let one : suc n ≡ end = omega arith in
    b ∙ (ap (λ ys. ys ++ f at) a
    ∙ (flat_map_more f base (range_with_len from n) at
    ∙ ap (λ ys. base ++ flat_map f ys) (ap (λ k. range_with_len from n ++ k ∷ []) e ∙ (sym (range_more from n) ∙ ap
    (λ m. range_with_len from m) one))))

-- two pieces of a table
pub table_join : (base a b : List ℕ) (xs ys : List ℕ) → a ≡ base ++ flat_map (number_bytes 4) xs → b ≡ a ++ flat_map
    (number_bytes 4) ys → b ≡ base ++ flat_map (number_bytes 4) (xs ++ ys)
table_join base a b xs ys h k =
    k ∙ (ap (λ zs. zs ++ flat_map (number_bytes 4) ys) h
    ∙ (append_assoc base (flat_map (number_bytes 4) xs) (flat_map (number_bytes 4) ys) ∙ ap (λ zs. base ++ zs)
    (sym (flat_map-append (number_bytes 4) xs ys))))

-- the entries of a chain that has a sector
pub chain_is : (start count : ℕ) → 0 < count → range_with_len (start + 1) (count - 1) ++ end_of_chain ∷ [] ≡
    chain_entries start count
chain_is start zero h = absurd (omega arith)
chain_is start (suc more) h = let e : suc more - 1 ≡ more = omega arith in ap (λ n. range_with_len (start + 1) n ++
    end_of_chain ∷ []) e

-- one chain more
pub chains-append : (start : ℕ) (xs ys : List ℕ) → chains_from start (xs ++ ys) ≡ chains_from start xs ++ chains_from
    (start + sum xs) ys
unfolding chains_from
chains-append start [] ys = let e : start ≡ start + 0 = omega arith in ap (λ s. chains_from s ys) e
chains-append start (x ∷ xs) ys =
    let all = sum_by-cons (λ (k : ℕ). k) x xs in
    let e : start + x + sum xs ≡ start + sum (x ∷ xs) = omega arith in
    ap (λ zs. chain_entries start x ++ zs) (chains-append (start + x) xs ys ∙ ap (λ s. chains_from (start + x) xs ++
    chains_from s ys) e)
    ∙ sym (append_assoc (chain_entries start x) (chains_from (start + x) xs) (chains_from (start + sum (x ∷ xs)) ys))

chains_one : (start count : ℕ) → chains_from start (count ∷ []) ≡ chain_entries start count
unfolding chains_from
chains_one start count = append-nil (chain_entries start count)

pub chains_step : (base out new counts : List ℕ) (i start count : ℕ) → out ≡ base ++ flat_map (number_bytes 4)
    (chains_from 0 (take i counts)) → new ≡ out ++ flat_map (number_bytes 4) (chain_entries start count) →
    i < length counts → get_or counts i 0 ≡ count → start ≡ chain_start counts i → new ≡ base ++ flat_map (number_bytes
    4) (chains_from 0 (take (i + 1) counts))
chains_step base out new counts i start count a b h e s =
    let from : 0 + sum (take i counts) ≡ start = omega arith in
    let more : chains_from 0 (take (i + 1) counts) ≡ chains_from 0 (take i counts) ++ chain_entries start count =
    ap (λ ys. chains_from 0 ys) (take_more counts i 0 h ∙ ap (λ y. take i counts ++ y ∷ []) e)
    ∙ (chains-append 0 (take i counts) (count ∷ []) ∙ ap (λ zs. chains_from 0 (take i counts) ++ zs)
    (ap (λ k. chains_from k (count ∷ [])) from ∙ chains_one start count)) in
    table_join base out new (chains_from 0 (take i counts)) (chain_entries start count) a b ∙ ap (λ ys. base ++
    flat_map (number_bytes 4) ys) (sym more)

-- one value more of a list that is mapped
pub map_step : {X : Type 0} (f : X → ℕ) (out new : List ℕ) (xs : List X) (i y : ℕ) (d : X) → out ≡ map f (take i xs) →
    new ≡ out ++ y ∷ [] → i < length xs → y ≡ f (get_or xs i d) → new ≡ map f (take (i + 1) xs)
map_step f out new xs i y d a b h e =
    b ∙ (ap (λ ys. ys ++ y ∷ []) a ∙ (ap (λ z. map f (take i xs) ++ z ∷ []) e ∙ sym (map_more f xs i d h)))

-- what a stream of the list has
pub bytes_are : (streams : List NamedBytes) (i : ℕ) (bytes : List ℕ) → i < length streams → option_map (λ s. s.bytes)
    (slice_get streams i) ≡ Some bytes → (get_or streams i no_stream).bytes ≡ bytes
bytes_are streams i bytes low h =
    let got = slice_get-get_or streams i no_stream low in
    let same : Some (get_or streams i no_stream).bytes ≡ Some bytes = ap (option_map (λ s. s.bytes)) (sym got) ∙ h in cc

pub name_is : (streams : List NamedBytes) (i : ℕ) (name : List ℕ) → i < length streams → option_map (λ s. s.name)
    (slice_get streams i) ≡ Some name → (get_or streams i no_stream).name ≡ name
name_is streams i name low h =
    let got = slice_get-get_or streams i no_stream low in
    let same : Some (get_or streams i no_stream).name ≡ Some name = ap (option_map (λ s. s.name)) (sym got) ∙ h in cc

-- the entries by their numbers
pub stream_is : (streams : List NamedBytes) (clsid : List ℕ) (k i : ℕ) → i < length streams → k ≡ i + 1 →
    stream_entry (lengths_of streams) i (get_or streams i no_stream) ≡ directory_entry streams clsid k
stream_is streams clsid k i low e =
    let next : suc i ≡ k = omega arith in
    sym (cond-true (ltb i (length streams)) (stream_entry (lengths_of streams) i (get_or streams i no_stream))
    unused_entry (lt-ltb i (length streams) low)) ∙ ap (λ j. directory_entry streams clsid j) next

pub unused_is : (streams : List NamedBytes) (clsid : List ℕ) (k : ℕ) → length streams < k →
    unused_entry ≡ directory_entry streams clsid k
unused_is streams clsid zero h = absurd (omega arith)
unused_is streams clsid (suc i) h =
    sym (cond-false (ltb i (length streams)) (stream_entry (lengths_of streams) i (get_or streams i no_stream))
    unused_entry (le-ltb i (length streams) (omega arith)))
