-- What is read of the file after a save.
use Rattle.std.proofs.Common.{◌≡◌, ◌≢◌, inl, inr, ℕ, suc, ◌+◌, ◌-◌, ◌*◌, ◌/◌, ◌<◌, ◌≤◌, List, [], ◌∷◌, ◌++◌, length}
use Rattle.std.proofs.Common.{take, drop}
use Rattle.std.proofs.Common.{slice_index, slice_get, slice_range, Some, refl, sym, ap, ◌∙◌, subst, arith}
use Rattle.std.specs.List.{flat_map, range_with_len}
use Rattle.std.proofs.lemmas.Bool.{cases_lt, cases_eq}
use Rattle.std.proofs.lemmas.List.{ext_get_or, get_or-take, get_or-drop, take-append-le, take_all, get_or_past}
use Rattle.std.proofs.lemmas.Option.{slice_get_within}
use Rattle.doc_bits.specs.Number.{zeros}
use Rattle.doc_bits.proofs.Public.{length-range, there_is}
use Rattle.cfb_sectors.specs.Header.{sector_count, sector_bytes, valid_below}
use Rattle.cfb_sectors.specs.SectorChain.{HasSector}
use Rattle.cfb_sectors.specs.Chain.{ChainHead, fat_table, HoldsChain}
use Rattle.cfb_sectors.proofs.Public.{holds_unique}
use Rattle.cfb_directory.specs.Directory.{IsEntryName, EntryBefore, upper_case, entry_stream_size, entry_clsid}
use Rattle.cfb_directory.specs.Directory.{entry_name_units, AreSameNames}
use Rattle.cfb_directory.specs.Reach.{entry_place, IsReachedEntry}
use Rattle.cfb_directory.specs.Order.{ListsStreams}
use Rattle.cfb_directory.specs.StreamEntries.{stream_head}
use Rattle.cfb_directory.proofs.Public.{reached_there}
use Rattle.cfb_streams.specs.StreamRules.{Owner, of_fat, of_directory, of_mini_fat, of_mini_stream, of_stream, Owns}
use Rattle.cfb_streams.specs.Contents.{Stream, Contents}
use Rattle.cfb_streams.specs.Container.{mini_bytes, IsStreamOf, HasContents}
use Rattle.cfb_layout.specs.Sectors.{padded_to_unit}
use Rattle.cfb_layout.proofs.Public.{owners_apart, entries_apart}
use Rattle.cfb_in_place.specs.Change.{StreamChange, OldChains, grown_bytes, added_sectors, fresh_from}
use Rattle.cfb_in_place.specs.Appended.{SameBytes, joined, chain_after, IsTouched, in_grown, in_fat, in_mini_fat}
use Rattle.cfb_in_place.specs.Appended.{in_directory, in_added}
use Rattle.cfb_in_place.specs.Save.{IsSave, AreContentsAfter}
use Rattle.cfb_in_place.specs.InPlace.{StaysInPlace}
use Rattle.cfb_in_place.proofs.Saved.{Save, save_accepted, counts_of, same_byte}
use Rattle.cfb_in_place.proofs.ChainsAgain.{no_sector, directory_again, table_again, grown_again, streams_apart}
use Rattle.cfb_in_place.proofs.TreeAgain.{stream_before, stream_after, name_length_again, unit_again, name_long}
use Rattle.cfb_in_place.proofs.TreeAgain.{root_there}
use Rattle.cfb_in_place.proofs.StreamsAgain.{mini_fat_again, mini_stream_again, size_again, large_again, small_again}
use Rattle.cfb_in_place.proofs.StreamsAgain.{old_long, grown_long}
use Rattle.cfb_in_place.proofs.SavedHolds.{save_of, saved_holds}
use Rattle.cfb_in_place.proofs.PlaceLemmas.{save_in_place}

-- a range of bytes that are the same
range_same : (old new : List ℕ) (at count from to : ℕ) → SameBytes old new at count → at ≤ from → from ≤ to → to ≤ at +
    count → to ≤ length old → to ≤ length new → slice_range new from to ≡ slice_range old from to
range_same old new at count from to same low order high a b =
    let one = length-range new from to b in
    let two = length-range old from to a in
    ext_get_or 0 (slice_range new from to) (slice_range old from to) (omega arith) (λ i h.
    get_or-take (to - from) (drop from new) i 0 (omega arith)
    ∙ (get_or-drop from new i 0
    ∙ (same_byte old new at count (from + i) same (omega arith) (omega arith)
    ∙ sym (get_or-take (to - from) (drop from old) i 0 (omega arith) ∙ get_or-drop from old i 0))))

-- a sector that is not touched
sector_again : (s : Save) (x : ℕ) → x < sector_count s.old → ¬ IsTouched s.old s.has.parts s.chains s.added x →
    sector_bytes 512 512 s.new x ≡ sector_bytes 512 512 s.old x
sector_again s x low quiet =
    let len = s.saved.header.len in
    range_same s.old s.new ((x + 1) * 512) 512 (512 + x * 512) (512 + x * 512 + 512) (s.saved.sectors.kept x low quiet)
    (omega arith) (omega arith) (omega arith) (omega arith) (omega arith)

joined_all : (f g : ℕ → List ℕ) (xs : List ℕ) → ((i : ℕ) → i < length xs → f (slice_index xs i) ≡ g (slice_index xs i))
    → flat_map f xs ≡ flat_map g xs
joined_all f g [] same = refl
joined_all f g (x ∷ xs) same =
    rw (same 0 (omega arith), joined_all f g xs (λ i h. same (suc i) (omega arith))) refl

-- the sectors of an owner of which nothing changes
record IsQuiet (s : Save) (owner : Owner) : Type 0 where
  not_grown : owner ≢ of_stream s.chains.grown_entry
  not_fat : owner ≢ of_fat
  not_mini_fat : owner ≢ of_mini_fat
  not_directory : owner ≢ of_directory

owns_of_grown : (s : Save) (x : ℕ) → HasSector s.chains.grown x → Owns s.old s.has.parts (of_stream
    s.chains.grown_entry) x
owns_of_grown s x has = record {
  is_large = s.are.grown.is_large;
  sectors = s.chains.grown;
  holds = s.are.grown.holds;
  has = has;
}

quiet_of : (s : Save) (owner : Owner) (x : ℕ) → IsQuiet s owner → Owns s.old s.has.parts owner x → x < valid_below
    s.old → ¬ IsTouched s.old s.has.parts s.chains s.added x
quiet_of s owner x quiet own low (in_grown has) = owners_apart s.old s.has.parts owner (of_stream
    s.chains.grown_entry) x (save_accepted s) quiet.not_grown own (owns_of_grown s x has)
quiet_of s owner x quiet own low (in_fat has) = owners_apart s.old s.has.parts owner of_fat x (save_accepted s)
    quiet.not_fat own has
quiet_of s owner x quiet own low (in_mini_fat has) = owners_apart s.old s.has.parts owner of_mini_fat x
    (save_accepted s) quiet.not_mini_fat own has
quiet_of s owner x quiet own low (in_directory has) = owners_apart s.old s.has.parts owner of_directory x
    (save_accepted s) quiet.not_directory own has
quiet_of s owner x quiet own low (in_added from below) = let is = (counts_of s).from in omega arith

joined_again : (s : Save) (owner : Owner) (head : ChainHead) (xs : List ℕ) → IsQuiet s owner → HoldsChain (fat_table
    s.old)
    head xs → ((x : ℕ) → HasSector xs x → Owns s.old s.has.parts owner x) → joined s.new xs ≡ joined s.old xs
joined_again s owner head xs quiet holds own = joined_all (sector_bytes 512 512 s.new) (sector_bytes 512 512 s.old) xs
    (λ i h.
    let low = holds.chain.path.within i h in
    let valid : slice_index xs i < valid_below s.old = low in
    sector_again s (slice_index xs i) (omega arith) (λ touched. quiet_of s owner (slice_index xs i) quiet
    (own (slice_index xs i) (record { index = i; inside = h; here = refl })) valid touched))

mini_bytes_again : (s : Save) → mini_bytes s.new s.has.parts ≡ mini_bytes s.old s.has.parts
mini_bytes_again s = elim s.has.mini_stream [
  | inl none ↦ joined_all (sector_bytes 512 512 s.new) (sector_bytes 512 512 s.old) s.has.parts.mini_stream (λ i h.
      absurd (no_sector s.has.parts.mini_stream (slice_index s.has.parts.mini_stream i) none.1
      (record { index = i; inside = h; here = refl })))
  | inr some ↦ joined_again s of_mini_stream _ s.has.parts.mini_stream (record {
    not_grown = λ e. cc;
    not_fat = λ e. cc;
    not_mini_fat = λ e. cc;
    not_directory = λ e. cc;
  }) some.1 (λ x h. h)
]

-- names and their order
name_again : (s : Save) (k : ℕ) (name : List ℕ) → IsReachedEntry s.old s.has.parts.directory k → IsEntryName s.old
    (entry_place
    s.has.parts.directory k) name → IsEntryName s.new (entry_place s.has.parts.directory k) name
name_again s k name reached is =
    let inside = (reached_there s.old s.has.parts.directory reached).1 in
    let len = name_length_again s k inside in
    let long = name_long s k reached in
    let was = is.long in
    record {
      long = omega arith;
      units = λ i h. is.units i h ∙ sym (unit_again s k i inside (omega arith));
    }

before_again : (s : Save) (k other : ℕ) → IsReachedEntry s.old s.has.parts.directory k → IsReachedEntry s.old
    s.has.parts.directory other → EntryBefore s.old (entry_place s.has.parts.directory k) (entry_place
    s.has.parts.directory other) → EntryBefore s.new (entry_place s.has.parts.directory k) (entry_place
    s.has.parts.directory other)
before_again s k other one another before =
    let here = (reached_there s.old s.has.parts.directory one).1 in
    let there = (reached_there s.old s.has.parts.directory another).1 in
    let a = name_length_again s k here in
    let b = name_length_again s other there in
    let long = name_long s k one in
    elim before [
      | inl short ↦ inl (omega arith)
      | inr same ↦
          let place = same.1.0 in
          let least = same.1.1 in
          let inside = least.inside in
          let e : entry_name_units s.new (entry_place s.has.parts.directory k) ≡ entry_name_units s.old (entry_place
          s.has.parts.directory k) = ap (λ n. n / 2 - 1) a in
          let less = least.less in
          let u = ap upper_case (unit_again s k place here (omega arith)) in
          let v = ap upper_case (unit_again s other place there (omega arith)) in
          inr (
            a ∙ (same.0 ∙ sym b),
            (
              place,
              record {
                inside = omega arith;
                front = λ i h.
                    ap upper_case (unit_again s k i here (omega arith))
                    ∙ (least.front i h ∙ sym (ap upper_case (unit_again s other i there (omega arith))));
                less = omega arith;
              },
            ),
          )
    ]

lists_again : (s : Save) → ListsStreams s.new s.has.parts.directory s.has.entries
lists_again s = record {
  sound = λ i h. stream_after s (slice_index s.has.entries i) (s.has.lists.sound i h);
  complete = λ k is. s.has.lists.complete k (stream_before s k is);
  order = λ i j less h.
      let one = s.has.lists.sound i (omega arith) in
      let another = s.has.lists.sound j h in
      before_again s (slice_index s.has.entries i) (slice_index s.has.entries j) one.reached another.reached
      (s.has.lists.order i j less h);
}

-- the first of joined lists
front_of : (xs ys : List ℕ) (n : ℕ) → n ≡ length xs → xs ≡ take n (xs ++ ys)
front_of xs ys n is = sym (take-append-le n xs ys (omega arith) ∙ take_all n xs (omega arith))

-- a stream that is none of the two
stream_kept : (s : Save) (k : ℕ) (stream : Stream) → k ≢ s.chains.grown_entry → k ≢ s.chains.table_entry → IsStreamOf
    s.old s.has.parts k stream → IsStreamOf s.new s.has.parts k stream
stream_kept s k stream one another is =
    let directory = s.has.parts.directory in
    let inside = (reached_there s.old directory is.is_entry.reached).1 in
    let size = size_again s k inside one another in
    let entry = stream_after s k is.is_entry in
    record {
      is_entry = entry;
      name = name_again s k stream.name is.is_entry.reached is.name;
      holds = elim is.holds [
        | inl empty ↦ inl (record { empty = size ∙ empty.empty; bytes = empty.bytes; chain = empty.chain })
        | inr rest ↦ elim rest [
          | inl short ↦
              let some = short.body.is_small.some in
              let small = short.body.is_small.small in
              let joined_small = ap (λ stored. flat_map (sector_bytes 0 64 stored) short.body.sectors)
              (mini_bytes_again s) in
              inr (inl (record {
                body = record {
                  is_small = record { is_entry = entry; some = omega arith; small = omega arith };
                  sectors = short.body.sectors;
                  holds = small_again s k short.body.sectors one another short.body.is_small short.body.holds;
                  joined = short.body.joined ∙ (ap (λ n. take n (flat_map (sector_bytes 0 64 (mini_bytes s.old
                      s.has.parts)) short.body.sectors)) (sym size) ∙ ap (λ xs. take (entry_stream_size s.new
                      (entry_place
                      directory k)) xs) (sym joined_small));
                };
                chain = short.chain;
              }))
          | inr long ↦
              let large = long.body.is_large.large in
              let quiet : IsQuiet s (of_stream k) = record {
                not_grown = streams_apart k s.chains.grown_entry one;
                not_fat = λ e. cc;
                not_mini_fat = λ e. cc;
                not_directory = λ e. cc;
              } in
              let bytes = joined_again s (of_stream k) (stream_head s.old 512 (entry_place directory k)) long.sectors
              quiet long.body.holds (λ x h. record {
                is_large = long.body.is_large;
                sectors = long.sectors;
                holds = long.body.holds;
                has = h;
              }) in
              inr (inr (record {
                sectors = long.sectors;
                body = record {
                  is_large = record { is_entry = entry; large = omega arith };
                  holds = large_again s k long.sectors one another long.body.is_large long.body.holds;
                  joined = long.body.joined ∙ (ap (λ n. take n (joined s.old long.sectors)) (sym size) ∙ ap (λ xs.
                      take (entry_stream_size s.new (entry_place directory k)) xs) (sym bytes));
                };
                chain = long.chain;
              }))
        ]
      ];
    }

-- the stream that grows
abbrev grown_stream : Save → Stream → Stream
grown_stream s stream = record {
  name = stream.name;
  bytes = grown_bytes s.change s.chains.bytes;
  chain = Some (chain_after s.chains s.added);
}

stream_grown : (s : Save) (stream : Stream) → IsStreamOf s.old s.has.parts s.chains.grown_entry stream → IsStreamOf
    s.new s.has.parts s.chains.grown_entry (grown_stream s stream)
stream_grown s stream is =
    let bytes = grown_bytes s.change s.chains.bytes in
    let at = entry_place s.has.parts.directory s.chains.grown_entry in
    let size = s.saved.directory.grown.size_is in
    let long = grown_long s in
    let entry = stream_after s s.chains.grown_entry is.is_entry in
    let rest = drop (length bytes) (joined s.old s.chains.grown ++ zeros (512 * s.added.grown)) in
    record {
      is_entry = entry;
      name = name_again s s.chains.grown_entry stream.name is.is_entry.reached is.name;
      holds = inr (inr (record {
        sectors = chain_after s.chains s.added;
        body = record {
          is_large = record { is_entry = entry; large = omega arith };
          holds = grown_again s;
          joined = front_of bytes rest (entry_stream_size s.new at) size ∙ ap (λ xs. take (entry_stream_size s.new at)
              xs)
              (sym s.saved.sectors.grown);
        };
        chain = refl;
      }));
    }

-- the stream that is written anew
abbrev table_stream : Save → Stream → Stream
table_stream s stream = record {
  name = stream.name;
  bytes = s.change.table;
  chain = Some (range_with_len (fresh_from s.added) s.added.fresh);
}

padded_front : (xs : List ℕ) (n : ℕ) → n ≡ length xs → xs ≡ take n (padded_to_unit 512 0 xs)
unfolding padded_to_unit
padded_front xs n is = front_of xs _ n is

stream_table : (s : Save) (stream : Stream) → IsStreamOf s.old s.has.parts s.chains.table_entry stream → IsStreamOf
    s.new s.has.parts s.chains.table_entry (table_stream s stream)
stream_table s stream is =
    let at = entry_place s.has.parts.directory s.chains.table_entry in
    let size = s.saved.directory.table.size_is in
    let long = s.put.table in
    let entry = stream_after s s.chains.table_entry is.is_entry in
    record {
      is_entry = entry;
      name = name_again s s.chains.table_entry stream.name is.is_entry.reached is.name;
      holds = inr (inr (record {
        sectors = range_with_len (fresh_from s.added) s.added.fresh;
        body = record {
          is_large = record { is_entry = entry; large = omega arith };
          holds = table_again s;
          joined = padded_front s.change.table (entry_stream_size s.new at) size ∙ ap (λ xs. take (entry_stream_size
              s.new at) xs)
              (sym s.saved.sectors.table);
        };
        chain = refl;
      }));
    }

-- the CLSID
clsid_again : (s : Save) → entry_clsid s.new (entry_place s.has.parts.directory 0) ≡ entry_clsid s.old (entry_place
    s.has.parts.directory 0)
clsid_again s =
    let path = s.has.directory.holds.chain.path in
    let low = path.within 0 path.some in
    let valid : slice_index s.has.parts.directory 0 < valid_below s.old = low in
    let at = entry_place s.has.parts.directory 0 in
    let len = s.saved.header.len in
    range_same s.old s.new at 116 (at + 80) (at + 96) (s.saved.directory.front 0 (root_there s)) (omega arith)
    (omega arith) (omega arith) (omega arith) (omega arith)

-- what is read after, of a save
abbrev AreAfter : Save → Contents → Type 0
AreAfter s after = AreContentsAfter s.contents after s.has.entries s.chains s.added s.change

entries_same : (s : Save) (i j : ℕ) → i < length s.has.entries → j < length s.has.entries → slice_index s.has.entries i
    ≡ slice_index s.has.entries j → i ≡ j
entries_same s i j low below e = elim (cases_lt i j) [
  | inl less ↦ absurd (entries_apart s.old s.contents s.has i j less below e)
  | inr more ↦ elim (cases_eq i j) [
    | inl same ↦ same
    | inr other ↦ absurd (entries_apart s.old s.contents s.has j i (omega arith) low (sym e))
  ]
]

-- an entry above 0 is in the list where it is read from it
index_inside : (s : Save) (i k : ℕ) → slice_index s.has.entries i ≡ k → 0 < k → i < length s.has.entries
index_inside s i k is above = elim (cases_lt i (length s.has.entries)) [
  | inl h ↦ h
  | inr past ↦ absurd (let none = get_or_past s.has.entries i 0 past in omega arith)
]

stream_at : (s : Save) (after : Contents) (i : ℕ) (stream : Stream) → AreAfter s after → slice_get after.streams i ≡
    Some stream → IsStreamOf s.new s.has.parts (slice_index s.has.entries i) stream
stream_at s after i stream at here =
    let are = at.streams in
    let low = slice_get_within after.streams i stream here in
    let len = are.len in
    let all = s.has.streams.len in
    let there = there_is s.contents.streams i (omega arith) in
    let was = s.has.streams.each i there.0 there.1 in
    let above = (reached_there s.old s.has.parts.directory s.are.grown.is_large.is_entry.reached).0 in
    let also = (reached_there s.old s.has.parts.directory s.are.table.reached).0 in
    elim (cases_eq i at.grown) [
      | inl is ↦
          let got = ap (λ j. slice_get s.contents.streams j) (sym is) ∙ there.1 in
          let new = are.grown_is there.0 got in
          let found = ap (λ j. slice_get after.streams j) (sym is) ∙ here in
          let same : grown_stream s there.0 ≡ stream = cc in
          let entry : slice_index s.has.entries i ≡ s.chains.grown_entry = ap (λ j. slice_index s.has.entries j) is ∙
          at.grown_is in
          let made = stream_grown s there.0 (subst (λ k. IsStreamOf s.old s.has.parts k there.0) entry was) in
          subst (λ k. IsStreamOf s.new s.has.parts k stream) (sym entry) (subst (λ x. IsStreamOf s.new s.has.parts
          s.chains.grown_entry x) same made)
      | inr one ↦ elim (cases_eq i at.table) [
        | inl is ↦
            let got = ap (λ j. slice_get s.contents.streams j) (sym is) ∙ there.1 in
            let new = are.table_is there.0 got in
            let found = ap (λ j. slice_get after.streams j) (sym is) ∙ here in
            let same : table_stream s there.0 ≡ stream = cc in
            let entry : slice_index s.has.entries i ≡ s.chains.table_entry = ap (λ j. slice_index s.has.entries j) is
            ∙ at.table_is in
            let made = stream_table s there.0 (subst (λ k. IsStreamOf s.old s.has.parts k there.0) entry was) in
            subst (λ k. IsStreamOf s.new s.has.parts k stream) (sym entry) (subst (λ x. IsStreamOf s.new s.has.parts
            s.chains.table_entry x) same made)
        | inr another ↦
            let same = are.others i one another in
            let old = sym same ∙ here in
            let first = index_inside s at.grown s.chains.grown_entry at.grown_is above in
            let second = index_inside s at.table s.chains.table_entry at.table_is also in
            stream_kept s (slice_index s.has.entries i) stream
            (λ e. one (entries_same s i at.grown (omega arith) first (e ∙ sym at.grown_is)))
            (λ e. another (entries_same s i at.table (omega arith) second (e ∙ sym at.table_is)))
            (s.has.streams.each i stream old)
      ]
    ]

saved_contents : (s : Save) (after : Contents) → AreAfter s after → HasContents s.new after
saved_contents s after at =
    let len = at.streams.len in
    let all = s.has.streams.len in
    record {
      parts = s.has.parts;
      directory = directory_again s;
      mini_fat = mini_fat_again s;
      mini_stream = mini_stream_again s;
      entries = s.has.entries;
      lists = lists_again s;
      streams = record { len = omega arith; each = λ i stream here. stream_at s after i stream at here };
      clsid = at.clsid ∙ (s.has.clsid ∙ sym (clsid_again s));
    }

pub save_contents : (old new : List ℕ) (contents after : Contents) (has : HasContents old contents) (chains :
    OldChains) (change : StreamChange) → IsSave old new contents has chains change → AreContentsAfter contents after
    has.entries chains (added_sectors old chains change) change → HasContents new after
unfolding save_of
save_contents old new contents after has chains change is at = saved_contents (save_of old new contents has chains
    change is) after at

-- the old stream is the one of the save
record IsGrownStream (s : Save) (stream : Stream) : Type 0 where
  bytes_are : stream.bytes ≡ s.chains.bytes
  chain_is : stream.chain ≡ Some s.chains.grown

grown_stream_is : (s : Save) (stream : Stream) → IsStreamOf s.old s.has.parts s.chains.grown_entry stream →
    IsGrownStream s stream
grown_stream_is s stream is =
    let directory = s.has.parts.directory in
    let large = s.are.grown.is_large.large in
    elim is.holds [
      | inl empty ↦ absurd (let none = empty.empty in omega arith)
      | inr rest ↦ elim rest [
        | inl short ↦ absurd (let small = short.body.is_small.small in omega arith)
        | inr long ↦
            let at = entry_place directory s.chains.grown_entry in
            let same = holds_unique (fat_table s.old) (stream_head s.old 512 at) long.sectors s.chains.grown
            long.body.holds s.are.grown.holds in
            record {
              bytes_are = long.body.joined ∙ (ap (λ xs. take (entry_stream_size s.old at) (joined s.old xs)) same ∙ sym
                  s.are.grown.joined);
              chain_is = long.chain ∙ ap (λ xs. Some xs) same;
            }
      ]
    ]

saved_in_place : (s : Save) (after : Contents) (at : AreAfter s after) (name : List ℕ) (stream : Stream) → slice_get
    s.contents.streams at.grown ≡ Some stream → AreSameNames stream.name name → StaysInPlace name (length s.change.fib)
    s.old s.new s.chains.bytes
saved_in_place s after at name stream here named =
    let was = subst (λ k. IsStreamOf s.old s.has.parts k stream) at.grown_is (s.has.streams.each at.grown stream here)
    in
    let is = grown_stream_is s stream was in
    let fib = s.put.fib in
    let long = old_long s in
    save_in_place name s.old s.new s.chains s.added s.change (omega arith)
    (record {
      whole = s.hold;
      contents = s.contents;
      has = s.has;
      index = at.grown;
      stream = stream;
      here = here;
      named = named;
      bytes_are = is.bytes_are;
      chain_is = is.chain_is;
    })
    (record {
      whole = saved_holds s;
      contents = after;
      has = saved_contents s after at;
      index = at.grown;
      stream = grown_stream s stream;
      here = at.streams.grown_is stream here;
      named = named;
      bytes_are = refl;
      chain_is = refl;
    })

pub save_stays : (old new : List ℕ) (contents after : Contents) (has : HasContents old contents) (chains : OldChains)
    (change : StreamChange) → IsSave old new contents has chains change → (are : AreContentsAfter contents after
    has.entries chains (added_sectors old chains change) change) → (name : List ℕ) (stream : Stream) → slice_get
    contents.streams are.grown ≡ Some stream → AreSameNames stream.name name → StaysInPlace name (length change.fib)
    old new stream.bytes
unfolding save_of
save_stays old new contents after has chains change is are name stream here named =
    let s = save_of old new contents has chains change is in
    let was = subst (λ k. IsStreamOf old has.parts k stream) are.grown_is (has.streams.each are.grown stream here) in
    subst (λ bytes. StaysInPlace name (length change.fib) old new bytes) (sym (grown_stream_is s stream was).bytes_are)
    (saved_in_place s after are name stream here named)

-- the stream that grew had the bytes of the save
pub grown_bytes_are : (old new : List ℕ) (contents after : Contents) (has : HasContents old contents) (chains :
    OldChains) (change : StreamChange) → IsSave old new contents has chains change → (are : AreContentsAfter contents
    after has.entries chains (added_sectors old chains change) change) → (stream : Stream) → slice_get contents.streams
    are.grown ≡ Some stream → stream.bytes ≡ chains.bytes
unfolding save_of
grown_bytes_are old new contents after has chains change is are stream here =
    let s = save_of old new contents has chains change is in
    let was = subst (λ k. IsStreamOf old has.parts k stream) are.grown_is (has.streams.each are.grown stream here) in
    (grown_stream_is s stream was).bytes_are
