-- A file has one answer: its streams in their order, each with its bytes, and the CLSID.
use Rattle.std.proofs.Common.{◌≡◌, inl, inr, ℕ, zero, suc, ◌<◌, ◌≤◌, List, [], ◌∷◌, Some, length, take, slice_index}
use Rattle.std.proofs.Common.{slice_get, refl, sym, ap, ◌∙◌, subst, arith}
use Rattle.std.specs.List.{flat_map}
use Rattle.std.proofs.lemmas.Bool.{cases_lt, cases_eq}
use Rattle.std.proofs.lemmas.List.{ext_get_or}
use Rattle.cfb_sectors.specs.Header.{sector_bytes}
use Rattle.cfb_sectors.specs.Chain.{fat_table}
use Rattle.cfb_directory.specs.Directory.{entry_stream_size, entry_clsid, EntryBefore, IsEntryName}
use Rattle.cfb_directory.specs.Reach.{entry_place}
use Rattle.cfb_streams.specs.StreamRules.{Parts, IsMiniStream, mini_table_of}
use Rattle.cfb_directory.specs.StreamEntries.{IsStreamEntry, stream_head}
use Rattle.cfb_directory.specs.Storages.{IsFilledStorage}
use Rattle.cfb_directory.specs.Order.{ListsKind, ListsStreams, ListsFilled}
use Rattle.cfb_streams.specs.Contents.{Stream, Contents}
use Rattle.cfb_streams.specs.Container.{mini_bytes, IsStreamOf, HasContents, AreNamesOf, ListsStorages}
use Rattle.cfb_sectors.proofs.Public.{holds_unique}
use Rattle.cfb_directory.proofs.Public.{before_trans, before_irreflexive}
use Rattle.cfb_streams.proofs.SingleLemmas.{directory_unique, mini_fat_unique, mini_stream_unique}

-- two lists of the entries of a kind in their order have the same entries, up to a place
lists_agree : (file directory : List ℕ) (kind : ℕ → Type 0) (xs ys : List ℕ) → ListsKind file directory kind xs →
    ListsKind file directory kind ys →
    (n i : ℕ) → i < n → i < length xs → i < length ys → slice_index xs i ≡ slice_index ys i
lists_agree file directory kind xs ys a b zero i low h k = absurd (omega arith)
lists_agree file directory kind xs ys a b (suc n) i low h k =
    let before : (j : ℕ) → j < i →
    slice_index xs j ≡ slice_index ys j = λ j less. lists_agree file directory kind xs ys a b n j (omega arith)
    (omega arith) (omega arith) in
    let there = b.complete (slice_index xs i) (a.sound i h) in
    let back = a.complete (slice_index ys i) (b.sound i k) in
    elim (cases_lt there.index i) [
      | inl lo ↦
          let e : slice_index xs there.index ≡ slice_index xs i = before there.index lo ∙ there.here in
          absurd
          (before_irreflexive file (entry_place directory (slice_index xs i))
          (subst (λ x. EntryBefore file (entry_place directory x) (entry_place directory (slice_index xs i))) e
          (a.order there.index i lo h)))
      | inr hi ↦ elim (cases_eq there.index i) [
        | inl same ↦ sym there.here ∙ ap (λ k. slice_index ys k) same
        | inr apart ↦ elim (cases_lt back.index i) [
          | inl lo ↦
              let e : slice_index ys back.index ≡ slice_index ys i = sym (before back.index lo) ∙ back.here in
              absurd
              (before_irreflexive file (entry_place directory (slice_index ys i))
              (subst (λ x. EntryBefore file (entry_place directory x) (entry_place directory (slice_index ys i))) e
              (b.order back.index i lo k)))
          | inr top ↦ elim (cases_eq back.index i) [
            | inl same ↦ sym (ap (λ k. slice_index xs k) same) ∙ back.here
            | inr other ↦
                let up = subst
                (λ x. EntryBefore file (entry_place directory (slice_index ys i)) (entry_place directory x))
                there.here (b.order i there.index (omega arith) there.inside) in
                let down = subst
                (λ x. EntryBefore file (entry_place directory (slice_index xs i)) (entry_place directory x)) back.here
                (a.order i back.index (omega arith) back.inside) in
                absurd
                (before_irreflexive file (entry_place directory (slice_index xs i))
                (before_trans file (entry_place directory (slice_index xs i))
                (entry_place directory (slice_index ys i)) (entry_place directory (slice_index xs i)) down up))
          ]
        ]
      ]
    ]

-- one list is no longer than the other
lists_short : (file directory : List ℕ) (kind : ℕ → Type 0) (xs ys : List ℕ) → ListsKind file directory kind xs →
    ListsKind file directory kind ys →
    length ys ≤ length xs
lists_short file directory kind xs ys a b = elim (cases_lt (length xs) (length ys)) [
  | inr h ↦ h
  | inl h ↦
      let there = a.complete (slice_index ys (length xs)) (b.sound (length xs) h) in
      let inside = there.inside in
      let same = lists_agree file directory kind xs ys a b (suc there.index) there.index (omega arith) inside
      (omega arith) in
      let e : slice_index ys there.index ≡ slice_index ys (length xs) = sym same ∙ there.here in
      absurd
      (before_irreflexive file (entry_place directory (slice_index ys (length xs)))
      (subst (λ x. EntryBefore file (entry_place directory x) (entry_place directory (slice_index ys (length xs)))) e
      (b.order there.index (length xs) inside h)))
]

-- there is one list of them in their order
pub kind_unique : (file directory : List ℕ) (kind : ℕ → Type 0) (xs ys : List ℕ) → ListsKind file directory kind xs →
    ListsKind file directory kind ys →
    xs ≡ ys
kind_unique file directory kind xs ys a b =
    let short = lists_short file directory kind xs ys a b in
    let long = lists_short file directory kind ys xs b a in
    let len : length xs ≡ length ys = omega arith in
    ext_get_or 0 xs ys len (λ i h. lists_agree file directory kind xs ys a b (suc i) i (omega arith) h (omega arith))

pub lists_unique : (file directory xs ys : List ℕ) → ListsStreams file directory xs → ListsStreams file directory ys →
    xs ≡ ys
lists_unique file directory = kind_unique file directory (IsStreamEntry file directory)

-- an entry has one name
name_unique : (file : List ℕ) (at : ℕ) (xs ys : List ℕ) → IsEntryName file at xs → IsEntryName file at ys → xs ≡ ys
name_unique file at xs ys a b =
    let x = a.long in let y = b.long in
    let len : length xs ≡ length ys = omega arith in
    ext_get_or 0 xs ys len (λ i h. a.units i h ∙ sym (b.units i (omega arith)))

-- a stream is its name, its bytes and its chain
stream_eq : (s t : Stream) → s.name ≡ t.name → s.bytes ≡ t.bytes → s.chain ≡ t.chain → s ≡ t
stream_eq s t a b c =
    let first : s ≡ record { name = t.name; bytes = s.bytes; chain = s.chain } =
    ap (λ n. record { name = n; bytes = s.bytes; chain = s.chain }) a in
    let second : record { name = t.name; bytes = s.bytes; chain = s.chain } ≡ record
    { name = t.name; bytes = t.bytes; chain = s.chain } =
    ap (λ n. record { name = t.name; bytes = n; chain = s.chain }) b in
    let third : record { name = t.name; bytes = t.bytes; chain = s.chain } ≡ t =
    ap (λ n. record { name = t.name; bytes = t.bytes; chain = n }) c in
    first ∙ (second ∙ third)

-- an entry has one stream
pub stream_unique : (file : List ℕ) (parts : Parts) (entry : ℕ) (s t : Stream) → IsStreamOf file parts entry s →
    IsStreamOf file parts entry t → s ≡ t
stream_unique file parts entry s t a b =
    let name = name_unique file (entry_place parts.directory entry) s.name t.name a.name b.name in
    elim a.holds [
      | inl empty ↦ elim b.holds [
        | inl other ↦ stream_eq s t name (empty.bytes ∙ sym other.bytes) (empty.chain ∙ sym other.chain)
        | inr rest ↦ elim rest [
          | inl short ↦ let none = empty.empty in let some = short.body.is_small.some in absurd (omega arith)
          | inr long ↦ let none = empty.empty in let some = long.body.is_large.large in absurd (omega arith)
        ]
      ]
      | inr more ↦ elim more [
        | inl short ↦ elim b.holds [
          | inl empty ↦ let none = empty.empty in let some = short.body.is_small.some in absurd (omega arith)
          | inr rest ↦ elim rest [
            | inl other ↦
                let e = holds_unique (mini_table_of file parts.directory parts.mini_fat)
                (stream_head file 64 (entry_place parts.directory entry)) short.body.sectors other.body.sectors
                short.body.holds other.body.holds in
                stream_eq s t name
                (short.body.joined ∙ (ap (λ xs. take (entry_stream_size file (entry_place parts.directory entry))
                (flat_map (sector_bytes 0 64 (mini_bytes file parts)) xs)) e ∙ sym other.body.joined))
                (short.chain ∙ sym other.chain)
            | inr long ↦ let small = short.body.is_small.small in let large = long.body.is_large.large in absurd
                (omega arith)
          ]
        ]
        | inr long ↦ elim b.holds [
          | inl empty ↦ let none = empty.empty in let some = long.body.is_large.large in absurd (omega arith)
          | inr rest ↦ elim rest [
            | inl short ↦ let small = short.body.is_small.small in let large = long.body.is_large.large in absurd
                (omega arith)
            | inr other ↦
                let e = holds_unique (fat_table file) (stream_head file 512 (entry_place parts.directory entry))
                long.sectors other.sectors long.body.holds other.body.holds in
                stream_eq s t name
                (long.body.joined ∙ (ap (λ xs. take (entry_stream_size file (entry_place parts.directory entry))
                (flat_map (sector_bytes 512 512 file) xs)) e ∙ sym other.body.joined))
                (long.chain ∙ (ap Some e ∙ sym other.chain))
          ]
        ]
      ]
    ]

-- lists with equal elements at each place are equal
same_lists : {A : Type 0} (xs ys : List A) → length xs ≡ length ys →
    ((i : ℕ) (s t : A) → slice_get xs i ≡ Some s → slice_get ys i ≡ Some t → s ≡ t) → xs ≡ ys
same_lists [] [] len each = refl
same_lists [] (y ∷ ys) len each = absurd (omega arith)
same_lists (x ∷ xs) [] len each = absurd (omega arith)
same_lists (x ∷ xs) (y ∷ ys) len each =
    let head : x ≡ y = each zero x y refl refl in
    let tail : xs ≡ ys = same_lists xs ys (omega arith) (λ i s t a b. each (suc i) s t a b) in
    ap (λ z. z ∷ xs) head ∙ ap (λ zs. y ∷ zs) tail

-- the parts of a file are the only ones
pub parts_unique : (file : List ℕ) (a b : Contents) (h : HasContents file a) (k : HasContents file b) →
    h.parts ≡ k.parts
parts_unique file a b h k =
    let d = directory_unique file h.parts.directory k.parts.directory h.directory k.directory in
    let m = mini_fat_unique file h.parts.mini_fat k.parts.mini_fat h.mini_fat k.mini_fat in
    let s = mini_stream_unique file k.parts.directory h.parts.mini_stream k.parts.mini_stream
    (subst (λ x. IsMiniStream file x h.parts.mini_stream) d h.mini_stream) k.mini_stream in
    let first : h.parts ≡ record
    { directory = k.parts.directory; mini_fat = h.parts.mini_fat; mini_stream = h.parts.mini_stream } =
    ap (λ n. record { directory = n; mini_fat = h.parts.mini_fat; mini_stream = h.parts.mini_stream }) d in
    let second : record
    { directory = k.parts.directory; mini_fat = h.parts.mini_fat; mini_stream = h.parts.mini_stream } ≡ record
    { directory = k.parts.directory; mini_fat = k.parts.mini_fat; mini_stream = h.parts.mini_stream } =
    ap (λ n. record { directory = k.parts.directory; mini_fat = n; mini_stream = h.parts.mini_stream }) m in
    let third : record
    { directory = k.parts.directory; mini_fat = k.parts.mini_fat; mini_stream = h.parts.mini_stream } ≡ k.parts =
    ap (λ n. record { directory = k.parts.directory; mini_fat = k.parts.mini_fat; mini_stream = n }) s in
    first ∙ (second ∙ third)

-- a file has one answer
pub contents_unique : (file : List ℕ) (a b : Contents) → HasContents file a → HasContents file b → a ≡ b
contents_unique file a b h k =
    let parts = parts_unique file a b h k in
    let lists = subst (λ p. ListsStreams file p.directory h.entries) parts h.lists in
    let entries = lists_unique file k.parts.directory h.entries k.entries lists k.lists in
    let n = h.streams.len in
    let m = k.streams.len in
    let len = ap length entries in
    let streams = same_lists a.streams b.streams (omega arith) (λ i s t x y.
    stream_unique file k.parts (slice_index k.entries i) s t
    (subst (λ xs. IsStreamOf file k.parts (slice_index xs i) s) entries
    (subst (λ p. IsStreamOf file p (slice_index h.entries i) s) parts (h.streams.each i s x)))
    (k.streams.each i t y)) in
    let clsid : a.clsid ≡ b.clsid = h.clsid
    ∙ (ap (λ p. entry_clsid file (entry_place p.directory 0)) parts ∙ sym k.clsid) in
    let first : a ≡ record { streams = b.streams; clsid = a.clsid } =
    ap (λ xs. record { streams = xs; clsid = a.clsid }) streams in
    let second : record { streams = b.streams; clsid = a.clsid } ≡ b =
    ap (λ xs. record { streams = b.streams; clsid = xs }) clsid in
    first ∙ second

-- a file has one list of the storages that have something
pub storages_unique : (file : List ℕ) (names other : List (List ℕ)) → ListsStorages file names →
    ListsStorages file other → names ≡ other
storages_unique file names other a b =
    let same = directory_unique file a.directory b.directory a.is_directory b.is_directory in
    let lists = subst (λ d. ListsFilled file d a.entries) same a.lists in
    let entries = kind_unique file b.directory (IsFilledStorage file b.directory) a.entries b.entries lists b.lists in
    let named = subst (λ xs. AreNamesOf file b.directory xs (length xs) names) entries
    (subst (λ d. AreNamesOf file d a.entries (length a.entries) names) same a.named) in
    let n = named.len in
    let m = b.named.len in
    same_lists names other (omega arith) (λ i x y at here.
    name_unique file (entry_place b.directory (slice_index b.entries i)) x y (named.each i x at)
    (b.named.each i y here))
