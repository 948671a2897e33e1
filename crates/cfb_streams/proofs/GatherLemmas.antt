-- One pass over the streams: their sectors are taken one stream after another.
use Rattle.std.proofs.Common.{◌≡◌, ◌⊎◌, inl, inr, ℕ, ◌+◌, ◌*◌, ◌^◌, ◌<◌, ◌≤◌, min, Option, Some, None, MatchOption}
use Rattle.std.proofs.Common.{List, length, slice_index, refl, sym, ap, ◌∙◌, subst, arith}
use Rattle.std.specs.List.{flat_map}
use Rattle.doc_bits.specs.Rules.{Nowhere, LeastOrNone, lesser_of, Among}
use Rattle.doc_bits.proofs.Public.{least_either, least_same}
use Rattle.cfb_streams.specs.declared.gather.Taken.{Taken}
use Rattle.cfb_sectors.specs.Header.{fat_sectors, sector_bytes}
use Rattle.cfb_sectors.specs.Opening.{HasRightLength}
use Rattle.cfb_sectors.specs.Marks.{IsMarked}
use Rattle.cfb_sectors.specs.Tables.{TablePlace, table_at, fat_place}
use Rattle.cfb_streams.specs.FoundParts.{mini_place}
use Rattle.cfb_sectors.specs.Chain.{Table, ChainHead, fat_table, HoldsChain, BreaksChain}
use Rattle.cfb_sectors.specs.SectorChain.{HasSector, IsSectorChain}
use Rattle.cfb_sectors.specs.declared.chain.Walked.{Walked}
use Rattle.cfb_directory.specs.Directory.{entry_stream_size, entry_clsid, IsEntryName}
use Rattle.cfb_directory.specs.Reach.{entry_place}
use Rattle.cfb_streams.specs.StreamRules.{Owns, IsSharedSector, HasLargeSector, HasSmallSector}
use Rattle.cfb_directory.specs.StreamEntries.{IsLargeStream, IsSmallStream}
use Rattle.cfb_streams.specs.StreamRules.{IsWrongStream, BreaksStream, BreaksSharing, IsMiniStream}
use Rattle.cfb_directory.specs.StreamEntries.{IsStreamEntry}
use Rattle.cfb_streams.specs.StreamRules.{mini_table_of}
use Rattle.cfb_directory.specs.StreamEntries.{stream_head}
use Rattle.cfb_streams.specs.StreamRules.{of_fat, of_directory, of_mini_fat, of_mini_stream, of_stream}
use Rattle.cfb_directory.specs.Order.{ListsStreams}
use Rattle.cfb_sectors.specs.Claims.{HasFront, Claimed, IsUnshared, TakesSectors, IsClosedClaim, IsSharedPlace}
use Rattle.cfb_streams.specs.Sharing.{IsOwnerDone}
use Rattle.cfb_sectors.specs.Claims.{TakesWalked}
use Rattle.cfb_streams.specs.Layout.{LayoutPlaces, IsSoundLayout}
use Rattle.cfb_streams.specs.Contents.{Stream}
use Rattle.cfb_streams.specs.Container.{mini_bytes, IsStreamOf, AreStreamsOf, HasContents}
use Rattle.cfb_streams.specs.Gathered.{IsRead, TakesChain, TakesStream, HasMarks, AreUnshared, with_some, IsTakenFront}
use Rattle.cfb_sectors.proofs.Public.{holds_unique, takes_closed, closed_none, whole_chain, takes_same}
use Rattle.cfb_streams.proofs.SharingLemmas.{takes_none, share_none, share_step, share_same, share_all}
use Rattle.cfb_streams.proofs.SharingLemmas.{front_more, front_split, front_fresh, done_more, done_split, AreParts}
use Rattle.cfb_streams.proofs.SharingLemmas.{parts_done, done_parts, all_done, minis_done, holds_closed}
use Rattle.cfb_streams.proofs.SharingLemmas.{mini_fat_closed, mini_stream_closed}
use Rattle.cfb_streams.proofs.ContentLemmas.{streams_push, stored_length, stored_room, mini_stream_inside}

-- one stream more
pub taken_step : (places : LayoutPlaces) (count : ℕ) (old new : Taken) →
    ListsStreams places.file places.parts.directory places.streams → count < length places.streams →
    IsTakenFront places count old → TakesStream places (slice_index places.streams count) old new →
    HasMarks places new → IsTakenFront places (count + 1) new
taken_step places count old new lists low front takes marks =
    let owns = Owns places.file places.parts in
    let small = HasSmallSector places.file places.parts.directory places.parts.mini_fat in
    let entry = slice_index places.streams count in
    let fresh = front_fresh places.file places.parts.directory places.streams count lists low in
    record {
      marks = marks;
      of_sectors = share_same owns (λ y. IsOwnerDone places.streams count y ⊎ (y ≡ of_stream entry))
          (IsOwnerDone places.streams (count + 1)) new.sectors (done_more places.streams count)
          (done_split places.streams count)
          (share_step owns (IsOwnerDone places.streams count) (of_stream entry) old.sectors new.sectors fresh
          front.of_sectors takes.sectors_taken);
      of_minis = share_same small (λ y. HasFront places.streams count y ⊎ (y ≡ entry))
          (HasFront places.streams (count + 1)) new.minis (front_more places.streams count)
          (front_split places.streams count)
          (share_step small (HasFront places.streams count) entry old.minis new.minis fresh front.of_minis
          takes.minis_taken);
    }

-- all streams, and the FAT: the least place of a sector that two have
pub taken_all : (places : LayoutPlaces) (fat mini : TablePlace) (xs : List ℕ) (taken : Taken) (sectors : Claimed)
    (a b : Option ℕ) → ListsStreams places.file places.parts.directory places.streams →
    IsTakenFront places (length places.streams) taken → fat ≡ fat_place places.file →
    mini ≡ mini_place places.file places.parts.directory places.parts.mini_fat → xs ≡ fat.sectors →
    TakesSectors (HasSector xs) taken.sectors sectors → LeastOrNone (IsSharedPlace sectors (table_at fat).place) a →
    LeastOrNone (IsSharedPlace taken.minis (table_at mini).place) b →
    LeastOrNone (BreaksSharing places.file places.parts) (lesser_of a b)
taken_all places fat mini xs taken sectors a b lists front is_fat is_mini same takes first second =
    let owns = Owns places.file places.parts in
    let small = HasSmallSector places.file places.parts.directory places.parts.mini_fat in
    let place : ℕ → ℕ = (fat_table places.file).place in
    let mini_place_of : ℕ → ℕ = (mini_table_of places.file places.parts.directory places.parts.mini_fat).place in
    let fat_takes : TakesSectors (HasSector (fat_sectors places.file)) taken.sectors sectors =
    subst (λ ys. TakesSectors (HasSector ys) taken.sectors sectors) (same ∙ ap (λ t. t.sectors) is_fat) takes in
    let all = share_step owns (IsOwnerDone places.streams (length places.streams)) of_fat taken.sectors sectors
    (λ never. never)
    front.of_sectors fat_takes in
    least_either (IsSharedSector owns place) (IsSharedSector small mini_place_of) a b
    (share_all owns (λ x. IsOwnerDone places.streams (length places.streams) x ⊎ (x ≡ of_fat)) place sectors a
    (all_done places.file places.parts places.streams lists) all
    (subst (λ t. LeastOrNone (IsSharedPlace sectors (table_at t).place) a) is_fat first))
    (share_all small (HasFront places.streams (length places.streams)) mini_place_of taken.minis b
    (minis_done places.file places.parts.directory places.parts.mini_fat places.streams lists) front.of_minis
    (subst (λ t. LeastOrNone (IsSharedPlace taken.minis (table_at t).place) b) is_mini second))

-- what the chain of a stream takes, the stream takes
pub long_takes : (file directory : List ℕ) (entry : ℕ) (xs : List ℕ) (old new : Claimed) →
    IsLargeStream file directory entry →
    HoldsChain (fat_table file) (stream_head file 512 (entry_place directory entry)) xs →
    TakesSectors (HasSector xs) old new → TakesSectors (HasLargeSector file directory entry) old new
long_takes file directory entry xs old new is holds =
    takes_same (HasSector xs) (HasLargeSector file directory entry) old new
    (λ s h. record { is_large = is; sectors = xs; holds = holds; has = h })
    (λ s h. subst (λ ys. HasSector ys s)
    (holds_unique (fat_table file) (stream_head file 512 (entry_place directory entry)) h.sectors xs h.holds holds)
    h.has)

pub short_takes : (file directory mini_fat : List ℕ) (entry : ℕ) (xs : List ℕ) (old new : Claimed) →
    IsSmallStream file directory entry →
    HoldsChain (mini_table_of file directory mini_fat) (stream_head file 64 (entry_place directory entry)) xs →
    TakesSectors (HasSector xs) old new → TakesSectors (HasSmallSector file directory mini_fat entry) old new
short_takes file directory mini_fat entry xs old new is holds =
    takes_same (HasSector xs) (HasSmallSector file directory mini_fat entry) old new
    (λ s h. record { is_small = is; sectors = xs; holds = holds; has = h })
    (λ s h. subst (λ ys. HasSector ys s)
    (holds_unique (mini_table_of file directory mini_fat) (stream_head file 64 (entry_place directory entry))
    h.sectors xs h.holds holds) h.has)

-- no chain of a right stream is broken
pub long_right : (file directory mini_fat : List ℕ) (entry : ℕ) →
    Nowhere (IsWrongStream file directory mini_fat entry) → IsLargeStream file directory entry →
    Nowhere (BreaksChain (fat_table file) (stream_head file 512 (entry_place directory entry)))
long_right file directory mini_fat entry none is = λ p w. none p (inl (record { is_large = is; broken = w }))

pub short_right : (file directory mini_fat : List ℕ) (entry : ℕ) →
    Nowhere (IsWrongStream file directory mini_fat entry) → IsSmallStream file directory entry →
    Nowhere (BreaksChain (mini_table_of file directory mini_fat) (stream_head file 64 (entry_place directory entry)))
short_right file directory mini_fat entry none is = λ p w. none p (inr (record { is_small = is; broken = w }))

-- what the passes over the streams keep of one of them
pub takes_nothing : (places : LayoutPlaces) (entry : ℕ) (old : Taken) →
    entry_stream_size places.file (entry_place places.parts.directory entry) ≡ 0 → TakesStream places entry old old
takes_nothing places entry old empty = record {
  sectors_taken = takes_none (HasLargeSector places.file places.parts.directory entry) old.sectors
      (λ s h. let large = h.is_large.large in omega arith);
  minis_taken = takes_none (HasSmallSector places.file places.parts.directory places.parts.mini_fat entry) old.minis
      (λ s h. let some = h.is_small.some in omega arith);
}

pub takes_short : (places : LayoutPlaces) (mini : TablePlace) (claim : ChainHead) (entry : ℕ) (old : Taken) (minis :
    Claimed) →
    mini ≡ mini_place places.file places.parts.directory places.parts.mini_fat →
    IsSmallStream places.file places.parts.directory entry →
    claim ≡ stream_head places.file 64 (entry_place places.parts.directory entry) →
    TakesChain (table_at mini) claim old.minis minis →
    TakesStream places entry old (record { sectors = old.sectors; minis = minis })
takes_short places mini claim entry old minis is_mini is e t = record {
  sectors_taken = takes_none (HasLargeSector places.file places.parts.directory entry) old.sectors
      (λ s h. let large = h.is_large.large in let small = is.small in omega arith);
  minis_taken = short_takes places.file places.parts.directory places.parts.mini_fat entry t.sectors old.minis minis is
      (subst (λ k. HoldsChain (table_at k) (stream_head places.file 64 (entry_place places.parts.directory entry))
      t.sectors) is_mini (subst (λ h. HoldsChain (table_at mini) h t.sectors) e t.holds))
      t.takes;
}

pub takes_long : (places : LayoutPlaces) (fat : TablePlace) (claim : ChainHead) (entry : ℕ) (old : Taken) (sectors :
    Claimed) →
    fat ≡ fat_place places.file → IsLargeStream places.file places.parts.directory entry →
    claim ≡ stream_head places.file 512 (entry_place places.parts.directory entry) →
    TakesChain (table_at fat) claim old.sectors sectors →
    TakesStream places entry old (record { sectors = sectors; minis = old.minis })
takes_long places fat claim entry old sectors is_fat is e t = record {
  sectors_taken = long_takes places.file places.parts.directory entry t.sectors old.sectors sectors is
      (subst (λ k. HoldsChain (table_at k) (stream_head places.file 512 (entry_place places.parts.directory entry))
      t.sectors) is_fat (subst (λ h. HoldsChain (table_at fat) h t.sectors) e t.holds))
      t.takes;
  minis_taken = takes_none (HasSmallSector places.file places.parts.directory places.parts.mini_fat entry) old.minis
      (λ s h. let small = h.is_small.small in let large = is.large in omega arith);
}

-- a chain that is taken leaves what is taken closed
chain_leaves : (table : Table) (head : ChainHead) (old new : Claimed) → TakesChain table head old new → IsClosedClaim
    table old →
    IsClosedClaim table new
chain_leaves table head old new t =
    takes_closed table (HasSector t.sectors) old new (holds_closed table head t.sectors t.holds) t.takes

-- the marks after the chain of a stream
pub short_marks : (places : LayoutPlaces) (mini : TablePlace) (claim : ChainHead) (old : Taken) (minis : Claimed) →
    mini ≡ mini_place places.file places.parts.directory places.parts.mini_fat →
    TakesChain (table_at mini) claim old.minis minis → length minis.taken ≡ length old.minis.taken →
    HasMarks places old → HasMarks places (record { sectors = old.sectors; minis = minis })
short_marks places mini claim old minis is_mini t len marks = record {
  for_sectors = marks.for_sectors;
  for_minis = len ∙ marks.for_minis;
  sectors_closed = marks.sectors_closed;
  minis_closed = chain_leaves (mini_table_of places.file places.parts.directory places.parts.mini_fat) claim old.minis
      minis (subst (λ k. TakesChain (table_at k) claim old.minis minis) is_mini t) marks.minis_closed;
}

pub long_marks : (places : LayoutPlaces) (fat : TablePlace) (claim : ChainHead) (old : Taken) (sectors : Claimed) →
    fat ≡ fat_place places.file → TakesChain (table_at fat) claim old.sectors sectors →
    length sectors.taken ≡ length old.sectors.taken → HasMarks places old →
    HasMarks places (record { sectors = sectors; minis = old.minis })
long_marks places fat claim old sectors is_fat t len marks = record {
  for_sectors = len ∙ marks.for_sectors;
  for_minis = marks.for_minis;
  sectors_closed = chain_leaves (fat_table places.file) claim old.sectors sectors
      (subst (λ k. TakesChain (table_at k) claim old.sectors sectors) is_fat t) marks.sectors_closed;
  minis_closed = marks.minis_closed;
}

-- the valid mini sectors are in the mini stream
pub mini_inside : (file directory mini_fat mini_stream stored : List ℕ) (s : ℕ) → HasRightLength file →
    IsMiniStream file directory mini_stream → stored ≡ flat_map (sector_bytes 512 512 file) mini_stream →
    s < (mini_place file directory mini_fat).valid → s * 64 + 64 ≤ length stored
mini_inside file directory mini_fat mini_stream stored s whole is joined low =
    let len = stored_length file mini_stream stored (mini_stream_inside file directory mini_stream whole is) joined in
    let room = stored_room file directory mini_stream is in
    omega arith

-- so many bytes are joined
pub whole_size : (count size room : ℕ) → count ≡ min size room → size ≤ room → count ≡ size
whole_size count size room is enough = omega arith

-- the sectors of the directory, of the mini FAT and of the mini stream are taken
pub parts_taken : (places : LayoutPlaces) (b c d : List ℕ) (s0 s1 s2 s3 minis : Claimed) → IsSoundLayout places →
    b ≡ places.parts.directory → c ≡ places.parts.mini_fat → d ≡ places.parts.mini_stream →
    ((s : ℕ) → ¬ IsMarked s0.taken s) → IsUnshared s0 → ((s : ℕ) → ¬ IsMarked minis.taken s) → IsUnshared minis →
    length s3.taken ≡ (fat_table places.file).valid →
    length minis.taken ≡ (mini_table_of places.file places.parts.directory places.parts.mini_fat).valid →
    TakesSectors (HasSector b) s0 s1 → TakesSectors (HasSector c) s1 s2 → TakesSectors (HasSector d) s2 s3 →
    IsTakenFront places 0 (record { sectors = s3; minis = minis })
parts_taken places b c d s0 s1 s2 s3 minis is eb ec ed none unshared no_minis minis_unshared len minis_len tb tc td =
    let owns = Owns places.file places.parts in
    let small = HasSmallSector places.file places.parts.directory places.parts.mini_fat in
    let t1 = subst (λ xs. TakesSectors (HasSector xs) s0 s1) eb tb in
    let t2 = subst (λ xs. TakesSectors (HasSector xs) s1 s2) ec tc in
    let t3 = subst (λ xs. TakesSectors (HasSector xs) s2 s3) ed td in
    let f1 = share_step owns (λ x. ⊥) of_directory s0 s1 (λ never. never) (share_none owns s0 none unshared) t1 in
    let f2 = share_step owns (λ x. ⊥ ⊎ (x ≡ of_directory)) of_mini_fat s1 s2
    (λ h. elim h [ inl never ↦ never | inr e ↦ cc e ]) f1 t2 in
    let f3 = share_step owns (λ x. (⊥ ⊎ (x ≡ of_directory)) ⊎ (x ≡ of_mini_fat)) of_mini_stream s2 s3
    (λ h. elim h [ inl rest ↦ elim rest [ inl never ↦ never | inr e ↦ cc e ] | inr e ↦ cc e ]) f2 t3 in
    let directory = is.are_entries.is_directory.holds in
    let c1 = takes_closed (fat_table places.file) (HasSector places.parts.directory) s0 s1
    (holds_closed (fat_table places.file) _ places.parts.directory directory) t1
    (closed_none (fat_table places.file) s0 none unshared) in
    let c2 = takes_closed (fat_table places.file) (HasSector places.parts.mini_fat) s1 s2
    (mini_fat_closed places.file places.parts.mini_fat is.mini_fat) t2 c1 in
    let c3 = takes_closed (fat_table places.file) (HasSector places.parts.mini_stream) s2 s3
    (mini_stream_closed places.file places.parts.directory places.parts.mini_stream is.mini_stream) t3 c2 in
    record {
      marks = record {
        for_sectors = len;
        for_minis = minis_len;
        sectors_closed = c3;
        minis_closed = closed_none (mini_table_of places.file places.parts.directory places.parts.mini_fat) minis
            no_minis minis_unshared;
      };
      of_sectors = share_same owns AreParts (IsOwnerDone places.streams 0) s3 (parts_done places.streams)
          (done_parts places.streams) f3;
      of_minis = share_same small (λ x. ⊥) (HasFront places.streams 0) minis (λ x never. absurd never)
          (λ x h. let low = h.below in omega arith) (share_none small minis no_minis minis_unshared);
    }

-- the stream of an entry of a file whose streams are right
pub stream_right : (places : LayoutPlaces) (i : ℕ) → ListsStreams places.file places.parts.directory places.streams →
    i < length places.streams → Nowhere (BreaksStream places.file places.parts.directory places.parts.mini_fat) →
    Nowhere (IsWrongStream places.file places.parts.directory places.parts.mini_fat (slice_index places.streams i))
stream_right places i lists low none = λ p w. none p
    (record { entry = slice_index places.streams i; reached = (lists.sound i low).reached; broken = w })

-- a stream that is wrong is an entry
wrong_entry : (file directory mini_fat : List ℕ) (entry place : ℕ) → IsWrongStream file directory mini_fat entry place →
    IsStreamEntry file directory entry
wrong_entry file directory mini_fat entry place w = elim w
    [ inl large ↦ large.is_large.is_entry | inr small ↦ small.is_small.is_entry ]

-- the least wrong place of the listed streams is that of all
pub streams_least : (places : LayoutPlaces) (count : ℕ) (o : Option ℕ) →
    ListsStreams places.file places.parts.directory places.streams → count ≡ length places.streams →
    LeastOrNone
    (Among count (λ k. IsWrongStream places.file places.parts.directory places.parts.mini_fat
    (slice_index places.streams k))) o →
    LeastOrNone (BreaksStream places.file places.parts.directory places.parts.mini_fat) o
streams_least places count o lists e =
    let wrong : ℕ → ℕ → Type 0 = IsWrongStream places.file places.parts.directory places.parts.mini_fat in
    least_same
    (Among count (λ k. IsWrongStream places.file places.parts.directory places.parts.mini_fat
    (slice_index places.streams k))) (BreaksStream places.file places.parts.directory places.parts.mini_fat) o
    (λ p w. let low = w.below in record {
      entry = slice_index places.streams w.entry;
      reached = (lists.sound w.entry (omega arith)).reached;
      broken =
          w.broken;
    })
    (λ p w.
    let has = lists.complete w.entry
    (wrong_entry places.file places.parts.directory places.parts.mini_fat w.entry p w.broken) in
    let inside = has.inside in
    record { entry = has.index; below = omega arith; broken = subst (λ k. wrong k p) (sym has.here) w.broken })

-- what the passes read is what the file holds
pub has_contents : (places : LayoutPlaces) (streams : List Stream) (clsid : List ℕ) → IsSoundLayout places →
    AreStreamsOf places.file places.parts places.streams (length places.streams) streams →
    clsid ≡ entry_clsid places.file (entry_place places.parts.directory 0) →
    HasContents places.file (record { streams = streams; clsid = clsid })
has_contents places streams clsid is are e = record {
  parts = places.parts;
  directory = is.are_entries.is_directory;
  mini_fat = is.mini_fat;
  mini_stream = is.mini_stream;
  entries = places.streams;
  lists = is.are_entries.in_order;
  streams = are;
  clsid = e;
}

-- what was not shared after a stream was not shared before it
pub takes_unshared : (owns : ℕ → Type 0) (old new : Claimed) → TakesSectors owns old new → IsUnshared new → IsUnshared
    old
takes_unshared owns old new t un = λ s h. un s (t.kept_shared s h)

before_unshared : (places : LayoutPlaces) (entry : ℕ) (old new : Taken) → TakesStream places entry old new → AreUnshared
    new →
    AreUnshared old
before_unshared places entry old new takes un = (
  takes_unshared (HasLargeSector places.file places.parts.directory entry) old.sectors new.sectors takes.sectors_taken
      un.0,
  takes_unshared (HasSmallSector places.file places.parts.directory places.parts.mini_fat entry) old.minis new.minis
      takes.minis_taken un.1,
)

-- the chain of a claim, and what taking it does
pub read_holds : (table : Table) (head : ChainHead) (start : ℕ) (old new : Claimed) (walked : Walked) →
    table.valid < 2 ^ 31 → Nowhere (BreaksChain table head) → start ≡ head.start →
    ((chain : List ℕ) → IsSectorChain table.entry table.valid start chain →
    TakesWalked chain table.valid old new walked) →
    (xs : List ℕ) × (HoldsChain table head xs × TakesWalked xs table.valid old new walked)
read_holds table head start old new walked range none same takes =
    let whole = whole_chain table head (omega arith) none in (
      whole.0,
      (
        whole.1,
        takes whole.0 (subst (λ s. IsSectorChain table.entry table.valid s whole.0) (sym same) whole.1.chain),
      ),
    )

-- the path that is walked to its end is the chain
pub walked_holds : (table : Table) (head : ChainHead) (start : ℕ) (old new : Claimed) (walked : Walked) →
    table.valid < 2 ^ 31 → Nowhere (BreaksChain table head) → start ≡ head.start →
    ((chain : List ℕ) → IsSectorChain table.entry table.valid start chain →
    TakesWalked chain table.valid old new walked) → table.valid ≤ walked.next →
    HoldsChain table head walked.path.items
walked_holds table head start old new walked range none same takes out =
    let holds = read_holds table head start old new walked range none same takes in
    subst (HoldsChain table head) (sym (holds.1.1.free out)) holds.1.0

-- one stream more is read, where no sector is shared
pub read_step : (places : LayoutPlaces) (count : ℕ) (old new : Taken) (streams : List Stream) (stream : Option Stream) →
    (AreUnshared old → AreStreamsOf places.file places.parts places.streams count streams) →
    TakesStream places (slice_index places.streams count) old new →
    MatchOption stream (¬ AreUnshared new) (IsStreamOf places.file places.parts (slice_index places.streams count)) →
    AreUnshared new → AreStreamsOf places.file places.parts places.streams (count + 1) (with_some streams stream)
read_step places count old new streams None read takes shared un = absurd (shared un)
read_step places count old new streams (Some stream) read takes is un =
    streams_push places.file places.parts places.streams count streams stream
    (read (before_unshared places (slice_index places.streams count) old new takes un)) is

-- the stream that is read of an entry, from mini sectors or from sectors
pub short_stream : (places : LayoutPlaces) (mini : TablePlace) (claim : ChainHead) (entry : ℕ)
    (stored name bytes sectors : List ℕ) → mini ≡ mini_place places.file places.parts.directory places.parts.mini_fat →
    claim ≡ stream_head places.file 64 (entry_place places.parts.directory entry) →
    stored ≡ mini_bytes places.file places.parts → IsStreamEntry places.file places.parts.directory entry →
    IsEntryName places.file (entry_place places.parts.directory entry) name →
    IsSmallStream places.file places.parts.directory entry → IsRead (table_at mini) claim 0 stored bytes sectors →
    IsStreamOf places.file places.parts entry (record { name = name; bytes = bytes; chain = None })
short_stream places mini claim entry stored name bytes sectors is_mini is_claim is_stored is_entry named small read =
    let r1 = subst (λ t. IsRead (table_at t) claim 0 stored bytes sectors) is_mini read in
    let r2 = subst
    (λ h. IsRead (table_at (mini_place places.file places.parts.directory places.parts.mini_fat)) h 0 stored bytes
    sectors) is_claim r1 in
    let r3 = subst
    (λ b. IsRead (table_at (mini_place places.file places.parts.directory places.parts.mini_fat))
    (stream_head places.file 64 (entry_place places.parts.directory entry)) 0 b bytes sectors) is_stored r2 in
    record {
      is_entry = is_entry;
      name = named;
      holds = inr
          (inl (record {
            body = record { is_small = small; sectors = sectors; holds = r3.holds; joined = r3.joined };
            chain = refl;
          }));
    }

pub long_stream : (places : LayoutPlaces) (fat : TablePlace) (claim : ChainHead) (entry : ℕ) (stored name bytes sectors
    : List ℕ) →
    fat ≡ fat_place places.file → claim ≡ stream_head places.file 512 (entry_place places.parts.directory entry) →
    stored ≡ places.file → IsStreamEntry places.file places.parts.directory entry →
    IsEntryName places.file (entry_place places.parts.directory entry) name →
    IsLargeStream places.file places.parts.directory entry → IsRead (table_at fat) claim 512 stored bytes sectors →
    IsStreamOf places.file places.parts entry (record { name = name; bytes = bytes; chain = Some sectors })
long_stream places fat claim entry stored name bytes sectors is_fat is_claim is_stored is_entry named large read =
    let r1 = subst (λ t. IsRead (table_at t) claim 512 stored bytes sectors) is_fat read in
    let r2 = subst (λ h. IsRead (table_at (fat_place places.file)) h 512 stored bytes sectors) is_claim r1 in
    let r3 = subst
    (λ b. IsRead (table_at (fat_place places.file))
    (stream_head places.file 512 (entry_place places.parts.directory entry)) 512 b bytes sectors) is_stored r2 in
    record {
      is_entry = is_entry;
      name = named;
      holds = inr
          (inr (record {
            sectors = sectors;
            body = record { is_large = large; holds = r3.holds; joined = r3.joined };
            chain = refl;
          }));
    }
