-- The streams of a file that breaks no rule of its container are within bounds.
use Rattle.std.proofs.Common.{◌≡◌, inl, inr, ℕ, ◌<◌, ◌≤◌, List, [], ◌∷◌, ◌++◌, length, slice_index, sym}
use Rattle.std.proofs.Common.{ap, ◌∙◌, subst, arith}
use Rattle.std.proofs.lemmas.Bool.{cases_lt}
use Rattle.std.proofs.lemmas.List.{length-take}
use Rattle.std.proofs.lemmas.Option.{slice_get_within}
use Rattle.doc_bits.specs.Rules.{Nowhere, Hold}
use Rattle.cfb_sectors.specs.Opening.{HasRightLength}
use Rattle.cfb_sectors.specs.Header.{valid_below}
use Rattle.cfb_sectors.specs.Chain.{fat_table}
use Rattle.cfb_directory.specs.Directory.{entry_name_length}
use Rattle.cfb_directory.specs.Reach.{entry_place, IsLinkedEntry, BreaksName}
use Rattle.cfb_streams.specs.StreamRules.{Parts}
use Rattle.cfb_directory.specs.StreamEntries.{stream_head}
use Rattle.cfb_directory.specs.Order.{ListsStreams}
use Rattle.cfb_streams.specs.Contents.{Stream, Contents}
use Rattle.cfb_streams.specs.Container.{container_rules, IsStreamOf, HasContents}
use Rattle.cfb_sectors.proofs.Public.{pushed_before, pushed_last, length_pushed, path_short, length-cut, whole_length}
use Rattle.doc_bits.proofs.Public.{length_below}
use Rattle.cfb_directory.proofs.Public.{reached_there, ComesBefore-entries, streams_apart, name_length, name_short}
use Rattle.cfb_directory.proofs.Public.{name_some}
use Rattle.cfb_streams.proofs.Public.{chain_inside, directory_unique}
use Rattle.doc_read.specs.CarriedParts.{AreWithinBounds}

-- a directory has at most 1,024 entries, and entry 0 is the root
entries-few : (file directory entries : List ℕ) → length directory ≤ 256 → ListsStreams file directory entries →
    length entries ≤ 1023
entries-few file directory entries short lists =
    let there : (i : ℕ) → i < length entries → IsLinkedEntry directory (slice_index entries i) =
    λ i below. reached_there file directory (lists.sound i below).reached in
    let more = length_pushed entries 0 in
    let most = length_below (entries ++ 0 ∷ []) 1024
    (λ i below. elim (cases_lt i (length entries)) [
      | inl low ↦ rw (pushed_before entries 0 i low) (let entry = (there i low).1 in omega arith)
      | inr high ↦ rw (pushed_last entries 0 i (omega arith)) (omega arith)
    ])
    (λ i j less below same. elim (cases_lt j (length entries)) [
      | inl low ↦ streams_apart file directory entries lists i j less low
          (sym (pushed_before entries 0 i (omega arith)) ∙ (same ∙ pushed_before entries 0 j low))
      | inr high ↦
          let low : i < length entries = omega arith in
          let zero : slice_index entries i ≡ 0 =
          sym (pushed_before entries 0 i low) ∙ (same ∙ pushed_last entries 0 j (omega arith)) in
          let above = (there i low).0 in
          omega arith
    ]) in
    omega arith

-- a stream is no longer than the file
stream-short : (file : List ℕ) (parts : Parts) (entry : ℕ) (stream : Stream) → HasRightLength file →
    IsStreamOf file parts entry stream → length stream.bytes ≤ 7143936
stream-short file parts entry stream whole is =
    elim is.holds [
      | inl empty ↦ let none = ap length empty.bytes in omega arith
      | inr (inl short) ↦
          let small = short.body.is_small.small in
          let cut = ap length short.body.joined in
          omega (arith, cut, length-take {A = ℕ})
      | inr (inr long) ↦
          let head = stream_head file 512 (entry_place parts.directory entry) in
          let inside = chain_inside file head long.sectors whole long.body.holds in
          let few =
          path_short (fat_table file).entry (valid_below file) head.start long.sectors long.body.holds.chain.path in
          let cut = length-cut 512 512 file long.sectors stream.bytes _ (λ i below. let within = inside.inside i below
          in omega arith) long.body.joined in
          let most = whole.most in
          omega arith
    ]

-- the length of a stream's name in bytes, with its terminator
stream-name : (file : List ℕ) (parts : Parts) (entry : ℕ) (stream : Stream) →
    Nowhere (BreaksName file parts.directory) → IsStreamOf file parts entry stream →
    (1 ≤ length stream.name) × (length stream.name ≤ 31)
stream-name file parts entry stream names is =
    let right = name_length file parts.directory entry names is.is_entry.reached in
    let most = name_short (entry_name_length file (entry_place parts.directory entry)) right in
    let least = name_some (entry_name_length file (entry_place parts.directory entry)) right in
    let long = is.name.long in
    (omega arith, omega arith)

-- the streams of a whole file whose names break no rule
pub bounded : (file : List ℕ) (contents : Contents) → HasRightLength file → (has : HasContents file contents) →
    Nowhere (BreaksName file has.parts.directory) → AreWithinBounds contents
bounded file contents whole has names =
    let directory = has.parts.directory in
    let entries = has.entries in
    let count = has.streams.len in
    record {
      few = (let few = entries-few file directory entries has.directory.short has.lists in omega arith);
      short = λ i stream here. stream-short file has.parts (slice_index entries i) stream whole (has.streams.each i
          stream here);
      some = λ i stream here. (stream-name file has.parts (slice_index entries i) stream names (has.streams.each i
          stream here)).0;
      fit = λ i stream here. (stream-name file has.parts (slice_index entries i) stream names (has.streams.each i
          stream here)).1;
      order = λ i j stream later less here there.
          ComesBefore-entries file (entry_place directory (slice_index entries i)) (entry_place directory (slice_index
          entries j)) stream.name later.name
          (has.streams.each i stream here).name (has.streams.each j later there).name
          (has.lists.order i j less (let within = slice_get_within contents.streams j later there in omega arith));
    }

pub contents-bounded : (file : List ℕ) (contents : Contents) → Hold (container_rules file) → HasContents file contents →
    AreWithinBounds contents
contents-bounded file contents holds has =
    let same = directory_unique file holds.1.1.1.0 has.parts.directory holds.1.1.1.1.0 has.directory in
    bounded file contents (whole_length file holds.0.0) has
    (subst (λ sectors. Nowhere (BreaksName file sectors)) same holds.1.1.1.1.1.1.1.0)
