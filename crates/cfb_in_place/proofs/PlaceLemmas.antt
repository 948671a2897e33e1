-- A stream that stays in its place.
use Rattle.std.proofs.Common.{◌≡◌, inl, inr, ℕ, ◌+◌, ◌-◌, ◌*◌, ◌/◌, ◌%◌, ◌<◌, ◌≤◌, List, ◌++◌, length, take}
use Rattle.std.proofs.Common.{drop, slice_index, slice_get, Some, refl, sym, ap, ◌∙◌, subst, arith}
use Rattle.std.proofs.Common.{length-append, length-take, length-drop}
use Rattle.std.specs.List.{flat_map, range_with_len}
use Rattle.std.proofs.lemmas.List.{get_or-take, get_or-drop, take-take, take-append-le, get_or_append_left}
use Rattle.std.proofs.lemmas.List.{get_or-append_right}
use Rattle.std.proofs.lemmas.List.Concat.{get_or-flat_map}
use Rattle.cfb_sectors.specs.Header.{sector_bytes}
use Rattle.cfb_sectors.specs.Chain.{AreSectorsOf}
use Rattle.cfb_sectors.proofs.Public.{length-sector, length-joined}
use Rattle.cfb_directory.specs.Directory.{entry_stream_size}
use Rattle.cfb_directory.specs.Reach.{entry_place}
use Rattle.cfb_directory.specs.StreamEntries.{stream_head}
use Rattle.cfb_streams.specs.Contents.{Stream, Contents}
use Rattle.cfb_streams.specs.Container.{IsLongBody}
pub use Rattle.cfb_streams.proofs.Public.{named_once, named_place}
use Rattle.cfb_streams.proofs.Public.{contents_unique, chain_inside}
use Rattle.cfb_layout.specs.Sectors.{units_for}
use Rattle.cfb_layout.proofs.Public.{accepted}
use Rattle.cfb_in_place.specs.Change.{StreamChange, grown_bytes, OldChains, Added}
use Rattle.cfb_in_place.specs.Appended.{joined, chain_after}
use Rattle.cfb_in_place.specs.InPlace.{HasLongStream, StaysInPlace, byte_place}

-- a byte of joined sectors
pub joined_at : (file sectors : List ℕ) (x : ℕ) → AreSectorsOf file sectors → x < 512 * length sectors →
    slice_index (joined file sectors) x ≡ slice_index file (byte_place sectors x)
joined_at file sectors x are low =
    let i = x / 512 in
    let sector = slice_index sectors (x / 512) in
    let inside = are.inside (x / 512) (omega arith) in
    let front = length-joined (sector_bytes 512 512 file) 512 sectors (x / 512) (omega arith) (λ k h. let room =
    are.inside k (omega arith) in length-sector 512 512 file (slice_index sectors k) (omega arith)) in
    let len = length-sector 512 512 file sector (omega arith) in
    let at : x ≡ length (flat_map (sector_bytes 512 512 file) (take (x / 512) sectors)) + x % 512 = omega arith in
    let from = 512 + sector * 512 in
    let place : from + x % 512 ≡ byte_place sectors x = omega arith in
    ap (λ k. slice_index (joined file sectors) k) at
    ∙ (get_or-flat_map (sector_bytes 512 512 file) sectors (x / 512) (x % 512) 0 0 (omega arith) (omega arith)
    ∙ (get_or-take (from + 512 - from) (drop from file) (x % 512) 0 (omega arith)
    ∙ (get_or-drop from file (x % 512) 0 ∙ ap (λ k. slice_index file k) place)))

-- where the stream's entry is, with its body
pub record HasBody (file bytes sectors : List ℕ) : Type 0 where
  pub directory : List ℕ
  pub entry : ℕ
  pub are : AreSectorsOf file sectors
  pub body : IsLongBody file directory entry bytes sectors

pub long_body : (file name bytes sectors : List ℕ) → HasLongStream file name bytes sectors → HasBody file bytes sectors
long_body file name bytes sectors h =
    let is = h.has.streams.each h.index h.stream h.here in
    let ok = accepted file h.contents h.whole h.has in
    elim is.holds [
      | inl empty ↦ absurd (let none = empty.chain in let some = h.chain_is in cc)
      | inr rest ↦ elim rest [
        | inl short ↦ absurd (let none = short.chain in let some = h.chain_is in cc)
        | inr long ↦
            let directory = h.has.parts.directory in
            let entry = slice_index h.has.entries h.index in
            let one = long.chain in
            let two = h.chain_is in
            let same : long.sectors ≡ sectors = cc in
            let moved = subst (λ xs. IsLongBody file directory entry h.stream.bytes xs) same long.body in
            let body = subst (λ xs. IsLongBody file directory entry xs sectors) h.bytes_are moved in
            record {
              directory = directory;
              entry = entry;
              are = chain_inside file (stream_head file 512 (entry_place directory entry)) sectors ok.whole body.holds;
              body = body;
            }
      ]
    ]

pub bytes_short : (file bytes sectors : List ℕ) → HasBody file bytes sectors → length bytes ≤ 512 * length sectors
bytes_short file bytes sectors h =
    let size = entry_stream_size file (entry_place h.directory h.entry) in
    let len = ap length h.body.joined in
    let cut = length-take size (joined file sectors) in
    let enough = h.body.holds.enough in
    omega arith

-- a byte of the stream is at its place in the file
pub stream_byte : (file bytes sectors : List ℕ) (x : ℕ) → HasBody file bytes sectors → x < length bytes →
    slice_index bytes x ≡ slice_index file (byte_place sectors x)
stream_byte file bytes sectors x h low =
    let size = entry_stream_size file (entry_place h.directory h.entry) in
    let len = ap length h.body.joined in
    let cut = length-take size (joined file sectors) in
    let short = bytes_short file bytes sectors h in
    ap (λ xs. slice_index xs x) h.body.joined
    ∙ (get_or-take size (joined file sectors) x 0 (omega arith) ∙ joined_at file sectors x h.are (omega arith))

-- a file has one stream of a name
pub long_one : (file name bytes sectors others more : List ℕ) → HasLongStream file name bytes sectors →
    HasLongStream file name others more → (bytes ≡ others) × (sectors ≡ more)
long_one file name bytes sectors others more a b =
    let same = contents_unique file a.contents b.contents a.has b.has in
    let there = ap (λ (c : Contents). slice_get c.streams b.index) same ∙ b.here in
    let index = named_place file a.contents a.has name a.index b.index a.stream b.stream a.here there a.named b.named in
    let here = ap (λ i. slice_get a.contents.streams i) index ∙ there in
    let one = a.here in
    let stream : a.stream ≡ b.stream = cc in
    let x = a.bytes_are in
    let y = b.bytes_are in
    let u = a.chain_is in
    let v = b.chain_is in
    let chains : Some sectors ≡ Some more = sym u ∙ (ap (λ (s : Stream). s.chain) stream ∙ v) in
    (sym x ∙ (ap (λ (s : Stream). s.bytes) stream ∙ y), cc)

-- the first sectors are the same, so each byte within them has the same place
same_place : (xs ys : List ℕ) (k x : ℕ) → take k xs ≡ take k ys → x / 512 < k → byte_place xs x ≡ byte_place ys x
same_place xs ys k x e low =
    let a = get_or-take k xs (x / 512) 0 low in
    let b = get_or-take k ys (x / 512) 0 low in
    let same : slice_index xs (x / 512) ≡ slice_index ys (x / 512) =
    sym a ∙ (ap (λ zs. slice_index zs (x / 512)) e ∙ b) in
    ap (λ sector. (sector + 1) * 512 + x % 512) same

-- a prefix of a prefix
shorter_front : (xs ys : List ℕ) (few many : ℕ) → few ≤ many → take many xs ≡ take many ys → take few xs ≡ take few ys
shorter_front xs ys few many h e =
    sym (take-take few many xs h) ∙ (ap (λ zs. take few zs) e ∙ take-take few many ys h)

pub twice_in_place : (name : List ℕ) (from later : ℕ) (old middle new bytes : List ℕ) (first : StaysInPlace name from
    old middle bytes) → StaysInPlace name later middle new first.bytes_after → later ≤ from →
    StaysInPlace name from old new bytes
twice_in_place name from later old middle new bytes first next h =
    let k = units_for 512 (length bytes) in
    let more = units_for 512 (length first.bytes_after) in
    let longer = first.longer in
    let longest = next.longer in
    let one = long_one middle name first.bytes_after next.sectors first.bytes_after first.sectors_after next.was
    first.is in
    let front = shorter_front next.sectors_after next.sectors k more (omega arith) next.first
    ∙ (ap (λ xs. take k xs) one.1 ∙ first.first) in
    let places : (x : ℕ) → x < length bytes → byte_place next.sectors x ≡ byte_place first.sectors x = λ x low.
    same_place next.sectors first.sectors k x (ap (λ xs. take k xs) one.1 ∙ first.first) (omega arith) in
    record {
      sectors = first.sectors;
      was = first.was;
      bytes_after = next.bytes_after;
      sectors_after = next.sectors_after;
      is = next.is;
      longer = omega arith;
      first = front;
      same = λ x from_it low.
          let place = places x low in
          let later_same = next.same x (omega arith) (omega arith) in
          sym (ap (λ at. slice_index new at) place)
          ∙ (later_same ∙ (ap (λ at. slice_index middle at) place ∙ first.same x from_it low));
    }

-- a stream whose sectors begin with the old ones, and whose bytes are the old ones from a byte on
pub kept_in_place : (name : List ℕ) (from : ℕ) (old new bytes sectors later more : List ℕ) → HasLongStream old name
    bytes sectors → HasLongStream new name later more → length bytes ≤ length later →
    take (units_for 512 (length bytes)) more ≡ take (units_for 512 (length bytes)) sectors → ((x : ℕ) → from ≤ x →
    x < length bytes → slice_index later x ≡ slice_index bytes x) → StaysInPlace name from old new bytes
kept_in_place name from old new bytes sectors later more was is longer first kept =
    let a = long_body old name bytes sectors was in
    let b = long_body new name later more is in
    record {
      sectors = sectors;
      was = was;
      bytes_after = later;
      sectors_after = more;
      is = is;
      longer = longer;
      first = first;
      same = λ x from_it low.
          let place = same_place more sectors (units_for 512 (length bytes)) x first (omega arith) in
          sym (ap (λ at. slice_index new at) place)
          ∙ (sym (stream_byte new later more x b (omega arith)) ∙ (kept x from_it low ∙ stream_byte old bytes sectors
          x a low));
    }

-- the stream that grows
grown_at : (change : StreamChange) (bytes : List ℕ) (x : ℕ) → length change.fib ≤ x → x < length bytes →
    slice_index (grown_bytes change bytes) x ≡ slice_index bytes x
grown_at change bytes x from low =
    let fib = length change.fib in
    let rest = drop fib bytes in
    let len = length-drop fib bytes in
    let place : fib + (x - fib) ≡ x = omega arith in
    get_or-append_right change.fib (rest ++ change.tail) fib x 0 refl from
    ∙ (get_or_append_left rest change.tail 0 (x - fib) (omega arith)
    ∙ (get_or-drop fib bytes (x - fib) 0 ∙ ap (λ k. slice_index bytes k) place))

pub save_in_place : (name old new : List ℕ) (chains : OldChains) (added : Added) (change : StreamChange) →
    length change.fib ≤ length chains.bytes → HasLongStream old name chains.bytes chains.grown →
    HasLongStream new name (grown_bytes change chains.bytes) (chain_after chains added) →
    StaysInPlace name (length change.fib) old new chains.bytes
save_in_place name old new chains added change fib was is =
    let bytes = chains.bytes in
    let a = long_body old name bytes chains.grown was in
    let short = bytes_short old bytes chains.grown a in
    let len = length-append change.fib (drop (length change.fib) bytes ++ change.tail) in
    let more = length-append (drop (length change.fib) bytes) change.tail in
    let rest = length-drop (length change.fib) bytes in
    kept_in_place name (length change.fib) old new bytes chains.grown (grown_bytes change bytes) (chain_after chains
    added) was is (omega arith) (take-append-le (units_for 512 (length bytes)) chains.grown (range_with_len added.from
    added.grown) (omega arith)) (grown_at change bytes)
