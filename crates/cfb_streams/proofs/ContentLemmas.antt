-- The streams that are read, one after another, and the bytes of the mini stream.
use Rattle.std.proofs.Common.{◌≡◌, inl, inr, ℕ, ◌+◌, ◌*◌, ◌≤◌, List, [], ◌∷◌, ◌++◌, Some, Result, Ok, Err, MatchResult}
use Rattle.std.proofs.Common.{length, get_or, slice_index, slice_get, refl, sym, ap, ◌∙◌, subst, arith, length-append}
use Rattle.std.specs.List.{flat_map}
use Rattle.std.proofs.lemmas.Bool.{cases_lt}
use Rattle.std.proofs.lemmas.List.{get_or_append_left}
use Rattle.std.proofs.Math.Seq.{get_or-append_seam}
use Rattle.std.proofs.lemmas.Option.{slice_get_within, slice_get-get_or, get_or_from_slice_get}
use Rattle.cfb_sectors.specs.Header.{sector_bytes, valid_below}
use Rattle.cfb_sectors.specs.Opening.{HasRightLength}
use Rattle.cfb_sectors.specs.Chain.{ChainHead, fat_table, HoldsChain, AreSectorsOf}
use Rattle.cfb_directory.specs.Directory.{entry_stream_size, IsEntryName}
use Rattle.cfb_directory.specs.Reach.{entry_place}
use Rattle.cfb_streams.specs.StreamRules.{Parts, IsMiniFat, IsMiniStream, mini_table_of}
use Rattle.cfb_sectors.specs.Tables.{TablePlace}
use Rattle.cfb_streams.specs.FoundParts.{mini_place}
use Rattle.cfb_streams.specs.Contents.{Stream}
use Rattle.cfb_streams.specs.Container.{AreStreamsOf, IsStreamOf, AreNamesOf}
use Rattle.cfb_sectors.proofs.Public.{path_short, length_all, length-sector}

-- what holds of each entry of a list, and of one more
pub each_push : {A : Type 0} (P : ℕ → A → Type 0) (xs : List A) (x : A) (count : ℕ) → length xs ≡ count →
    ((i : ℕ) (y : A) → slice_get xs i ≡ Some y → P i y) → P count x → (i : ℕ) (y : A) →
    slice_get (xs ++ x ∷ []) i ≡ Some y → P i y
each_push P xs x count n each is i y at =
    let len = length-append xs (x ∷ []) in
    let inside = slice_get_within (xs ++ x ∷ []) i y at in
    let here = get_or_from_slice_get (xs ++ x ∷ []) i y x at in
    elim (cases_lt i (length xs)) [
      | inl lo ↦
          let old : get_or xs i x ≡ y = sym (get_or_append_left xs (x ∷ []) x i lo) ∙ here in
          each i y (slice_get-get_or xs i x lo ∙ ap Some old)
      | inr hi ↦
          let e : i ≡ length xs = omega arith in
          let same : x ≡ y = sym (get_or-append_seam xs x [] x)
          ∙ (ap (λ k. get_or (xs ++ x ∷ []) k x) (sym e) ∙ here) in
          let place : count ≡ i = omega arith in
          subst (P i) same (subst (λ k. P k x) place is)
    ]

-- one stream more
pub streams_push : (file : List ℕ) (parts : Parts) (entries : List ℕ) (count : ℕ) (streams : List Stream)
    (stream : Stream) → AreStreamsOf file parts entries count streams →
    IsStreamOf file parts (slice_index entries count) stream →
    AreStreamsOf file parts entries (count + 1) (streams ++ stream ∷ [])
streams_push file parts entries count streams stream are is =
    let len = length-append streams (stream ∷ []) in
    let n = are.len in
    record {
      len = omega arith;
      each = each_push (λ i s. IsStreamOf file parts (slice_index entries i) s) streams stream count n are.each is;
    }

-- one name more
pub names_push : (file directory entries : List ℕ) (count : ℕ) (names : List (List ℕ)) (name : List ℕ) →
    AreNamesOf file directory entries count names →
    IsEntryName file (entry_place directory (slice_index entries count)) name →
    AreNamesOf file directory entries (count + 1) (names ++ name ∷ [])
names_push file directory entries count names name are is =
    let len = length-append names (name ∷ []) in
    let n = are.len in
    record {
      len = omega arith;
      each = each_push (λ i x. IsEntryName file (entry_place directory (slice_index entries i)) x) names name count n
          are.each is;
    }

-- at first there is no name
pub names_none : (file directory entries : List ℕ) (names : List (List ℕ)) → names ≡ [] →
    AreNamesOf file directory entries 0 names
names_none file directory entries names e =
    let len = ap length e in
    record { len = len; each = λ i name at. let inside = slice_get_within names i name at in absurd (omega arith) }

-- the mini stream's bytes are whole sectors, and hold the root's size
pub stored_length : (file sectors stored : List ℕ) → AreSectorsOf file sectors →
    stored ≡ flat_map (sector_bytes 512 512 file) sectors → length stored ≡ length sectors * 512
stored_length file sectors stored inside e =
    ap length e ∙ length_all (sector_bytes 512 512 file) 512 sectors
    (λ k h. let low = inside.inside k h in length-sector 512 512 file (slice_index sectors k) (omega arith))

pub stored_room : (file directory sectors : List ℕ) → IsMiniStream file directory sectors →
    entry_stream_size file (entry_place directory 0) ≤ length sectors * 512
stored_room file directory sectors is = elim is [
  | inl none ↦ let e = none.0 in omega arith
  | inr some ↦ some.1.enough
]

-- the sectors of a chain by the FAT are in the file
pub chain_inside : (file : List ℕ) (head : ChainHead) (xs : List ℕ) → HasRightLength file → HoldsChain (fat_table file)
    head xs →
    AreSectorsOf file xs
chain_inside file head xs whole h =
    let most = whole.most in
    let least = whole.least in
    let whole_sectors = whole.sectors in
    let short = path_short (fat_table file).entry (valid_below file) head.start xs h.chain.path in
    record {
      short = omega arith;
      few = omega arith;
      inside = λ i low. let valid = h.chain.path.within i low in omega arith;
    }

none_inside : (file : List ℕ) → HasRightLength file → AreSectorsOf file []
none_inside file whole = let most = whole.most in record
    { short = omega arith; few = omega arith; inside = λ i h. absurd (omega arith) }

pub mini_fat_inside : (file xs : List ℕ) → HasRightLength file → IsMiniFat file xs → AreSectorsOf file xs
mini_fat_inside file xs whole is = elim is [
  | inl none ↦ subst (AreSectorsOf file) (sym none.1) (none_inside file whole)
  | inr some ↦ chain_inside file _ xs whole some.1
]

pub mini_stream_inside : (file directory xs : List ℕ) → HasRightLength file → IsMiniStream file directory xs →
    AreSectorsOf file xs
mini_stream_inside file directory xs whole is = elim is [
  | inl none ↦ subst (AreSectorsOf file) (sym none.1) (none_inside file whole)
  | inr some ↦ chain_inside file _ xs whole some.1
]

-- at first there is no stream
pub streams_none : (file : List ℕ) (parts : Parts) (entries : List ℕ) (streams : List Stream) → streams ≡ [] →
    AreStreamsOf file parts entries 0 streams
streams_none file parts entries streams e =
    let len = ap length e in
    record
    { len = len; each = λ i stream at. let inside = slice_get_within streams i stream at in absurd (omega arith) }

-- where the mini FAT is
pub mini_place_is : (file f directory d mini_fat m : List ℕ) (valid : ℕ) (place : TablePlace) → f ≡ file →
    d ≡ directory → m ≡ mini_fat → valid ≡ (mini_table_of f d m).valid →
    place ≡ record { file = f; sectors = mini_fat; valid = valid } → place ≡ mini_place file directory mini_fat
mini_place_is file f directory d mini_fat m valid place ef ed em ev e = e ∙ rw (ev, ef, ed, em) refl

-- what holds of an answer can be said in another way
pub match_more : {T E : Type 0} (r : Result T E) (P Q : T → Type 0) (F G : E → Type 0) → ((x : T) → P x → Q x) →
    ((e : E) → F e → G e) → MatchResult r P F → MatchResult r Q G
match_more (Ok x) P Q F G p f h = p x h
match_more (Err e) P Q F G p f h = f e h
