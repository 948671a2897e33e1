-- The mini FAT, the mini stream and the streams after a save.
use Rattle.std.proofs.Common.{◌≡◌, ◌≢◌, inl, inr, ℕ, ◌+◌, ◌-◌, ◌*◌, ◌/◌, ◌<◌, ◌≤◌, min, List, length, slice_index}
use Rattle.std.proofs.Common.{drop, ◌++◌, refl, sym, ap, ◌∙◌, subst, arith, length-append, length-drop}
use Rattle.std.specs.List.{range_with_len}
use Rattle.std.proofs.lemmas.Bool.{cases_eq}
use Rattle.doc_bits.specs.Rules.{Nowhere}
use Rattle.doc_bits.specs.Number.{u32_at}
use Rattle.doc_bits.proofs.Public.{there_is}
use Rattle.cfb_sectors.specs.SectorChain.{HasSector}
use Rattle.cfb_sectors.specs.Chain.{Table, ChainHead, fat_table, HoldsChain}
use Rattle.cfb_sectors.proofs.Public.{holds_none, length-cut, full_unique, chain_full}
use Rattle.cfb_directory.specs.Directory.{entry_start, entry_stream_size}
use Rattle.cfb_directory.specs.Reach.{entry_place, entry_count, BreaksDirectory, directory_head}
use Rattle.cfb_directory.specs.StreamEntries.{IsStreamEntry, IsLargeStream, IsSmallStream, stream_head}
use Rattle.cfb_directory.proofs.Public.{reached_there}
use Rattle.cfb_streams.specs.StreamRules.{of_mini_fat, of_mini_stream, of_stream, HasSmallSector}
use Rattle.cfb_streams.specs.StreamRules.{IsMiniFat, IsMiniStream, BreaksMiniFat, BreaksMiniStream, BreaksStream}
use Rattle.cfb_streams.specs.StreamRules.{mini_fat_head, mini_table_of}
use Rattle.cfb_streams.specs.Contents.{Stream}
use Rattle.cfb_streams.specs.Container.{IsStreamOf}
use Rattle.cfb_streams.proofs.Public.{chain_inside}
use Rattle.cfb_in_place.specs.Change.{grown_bytes, fresh_from}
use Rattle.cfb_in_place.specs.Appended.{chain_after}
use Rattle.cfb_in_place.specs.Save.{LeavesSectors, nothing, mini_sectors, sectors}
use Rattle.cfb_in_place.proofs.Saved.{Save, save_accepted, middle_number, same_number}
use Rattle.cfb_in_place.proofs.ChainsAgain.{no_sector, chain_again, head_again, holds_again, directory_again}
use Rattle.cfb_in_place.proofs.ChainsAgain.{table_again, grown_again, streams_apart}
use Rattle.cfb_in_place.proofs.TreeAgain.{reached_inside, stream_before, root_there}

-- the start and the size of another entry stay
pub start_again : (s : Save) (k : ℕ) → k < entry_count s.has.parts.directory → k ≢ s.chains.grown_entry → k ≢
    s.chains.table_entry → entry_start s.new (entry_place s.has.parts.directory k) ≡ entry_start s.old (entry_place
    s.has.parts.directory k)
start_again s k low one another =
    let at = entry_place s.has.parts.directory k in
    same_number s.old s.new at 128 (at + 116) 4 (s.saved.directory.others k low one another) (omega arith)
    (omega arith)

pub size_again : (s : Save) (k : ℕ) → k < entry_count s.has.parts.directory → k ≢ s.chains.grown_entry → k ≢
    s.chains.table_entry → entry_stream_size s.new (entry_place s.has.parts.directory k) ≡ entry_stream_size s.old
    (entry_place
    s.has.parts.directory k)
size_again s k low one another =
    let at = entry_place s.has.parts.directory k in
    same_number s.old s.new at 128 (at + 120) 4 (s.saved.directory.others k low one another) (omega arith)
    (omega arith)

-- the root is none of the two
root_not_grown : (s : Save) → 0 ≢ s.chains.grown_entry
root_not_grown s =
    let there = reached_there s.old s.has.parts.directory s.are.grown.is_large.is_entry.reached in
    let above = there.0 in λ e. omega arith

root_not_table : (s : Save) → 0 ≢ s.chains.table_entry
root_not_table s =
    let there = reached_there s.old s.has.parts.directory s.are.table.reached in
    let above = there.0 in λ e. omega arith

pub root_size : (s : Save) → entry_stream_size s.new (entry_place s.has.parts.directory 0) ≡ entry_stream_size s.old
    (entry_place
    s.has.parts.directory 0)
root_size s = size_again s 0 (root_there s) (root_not_grown s) (root_not_table s)

pub root_start : (s : Save) → entry_start s.new (entry_place s.has.parts.directory 0) ≡ entry_start s.old (entry_place
    s.has.parts.directory 0)
root_start s = start_again s 0 (root_there s) (root_not_grown s) (root_not_table s)

-- rule 6
pub directory_holds : (s : Save) → Nowhere (BreaksDirectory s.new)
directory_holds s = λ p b.
    let is = directory_again s in
    let table = fat_table s.new in
    elim b [
      | inl many ↦
          let same = full_unique table.entry table.valid (u32_at s.new 48) s.has.parts.directory many.sectors
          (chain_full table.entry table.valid (u32_at s.new 48) s.has.parts.directory is.holds.range is.holds.chain)
          many.full in
          let len = ap length same in
          let more = many.long in
          let short = is.short in omega arith
      | inr broken ↦ holds_none table (directory_head s.new) s.has.parts.directory is.holds p broken
    ]

-- rule 11
pub mini_fat_again : (s : Save) → IsMiniFat s.new s.has.parts.mini_fat
mini_fat_again s =
    let count = middle_number s 64 (omega arith) (omega arith) in
    elim s.has.mini_fat [
      | inl none ↦ inl (count ∙ none.0, none.1)
      | inr some ↦ inr (
        λ e. some.0 (sym count ∙ e),
        holds_again s of_mini_fat (mini_fat_head s.old) (mini_fat_head
            s.new) s.has.parts.mini_fat (λ e. cc) (λ e. cc) (λ x h. h) (middle_number s 60 (omega arith) (omega arith))
            refl refl some.1,
      )
    ]

pub mini_fat_holds : (s : Save) → Nowhere (BreaksMiniFat s.new)
mini_fat_holds s = λ p b. elim (mini_fat_again s) [
  | inl none ↦ b.there none.0
  | inr some ↦ holds_none (fat_table s.new) (mini_fat_head s.new) s.has.parts.mini_fat some.1 p b.broken
]

-- rule 12
pub mini_stream_again : (s : Save) → IsMiniStream s.new s.has.parts.directory s.has.parts.mini_stream
mini_stream_again s =
    let at = entry_place s.has.parts.directory 0 in
    let size = root_size s in
    elim s.has.mini_stream [
      | inl none ↦ inl (size ∙ none.0, none.1)
      | inr some ↦ inr (
        λ e. some.0 (sym size ∙ e),
        holds_again s of_mini_stream (stream_head s.old 512 at)
            (stream_head s.new 512 at) s.has.parts.mini_stream (λ e. cc) (λ e. cc) (λ x h. h) (root_start s) size refl
            some.1,
      )
    ]

pub mini_stream_holds : (s : Save) → Nowhere (BreaksMiniStream s.new s.has.parts.directory)
mini_stream_holds s = λ p b. elim (mini_stream_again s) [
  | inl none ↦ b.there none.0
  | inr some ↦ holds_none (fat_table s.new) (stream_head s.new 512 (entry_place s.has.parts.directory 0))
      s.has.parts.mini_stream some.1 p b.broken
]

-- each stream of the old file
pub record IsOldStream (s : Save) (k : ℕ) : Type 0 where
  pub stream : Stream
  pub is : IsStreamOf s.old s.has.parts k stream

pub old_stream : (s : Save) (k : ℕ) → IsStreamEntry s.old s.has.parts.directory k → IsOldStream s k
old_stream s k entry =
    let listed = s.has.lists.complete k entry in
    let inside = listed.inside in
    let len = s.has.streams.len in
    let there = there_is s.contents.streams listed.index (omega arith) in
    record {
      stream = there.0;
      is = subst (λ e. IsStreamOf s.old s.has.parts e there.0) listed.here (s.has.streams.each listed.index there.0
          there.1);
    }

-- its chain
pub record HasOldChain (table : Table) (head : ChainHead) : Type 0 where
  pub sectors : List ℕ
  pub holds : HoldsChain table head sectors

pub large_chain : (s : Save) (k : ℕ) → IsLargeStream s.old s.has.parts.directory k → HasOldChain (fat_table s.old)
    (stream_head s.old 512 (entry_place s.has.parts.directory k))
large_chain s k large =
    let old = old_stream s k large.is_entry in
    let size = large.large in
    elim old.is.holds [
      | inl empty ↦ absurd (let none = empty.empty in omega arith)
      | inr rest ↦ elim rest [
        | inl short ↦ absurd (let small = short.body.is_small.small in omega arith)
        | inr long ↦ record { sectors = long.sectors; holds = long.body.holds }
      ]
    ]

pub small_chain : (s : Save) (k : ℕ) → IsSmallStream s.old s.has.parts.directory k → HasOldChain (mini_table_of s.old
    s.has.parts.directory s.has.parts.mini_fat) (stream_head s.old 64 (entry_place s.has.parts.directory k))
small_chain s k small =
    let old = old_stream s k small.is_entry in
    let some = small.some in
    let size = small.small in
    elim old.is.holds [
      | inl empty ↦ absurd (let none = empty.empty in omega arith)
      | inr rest ↦ elim rest [
        | inl short ↦ record { sectors = short.body.sectors; holds = short.body.holds }
        | inr long ↦ absurd (let large = long.body.is_large.large in omega arith)
      ]
    ]

-- the sectors of another large stream
pub large_before : (s : Save) (k : ℕ) → k ≢ s.chains.grown_entry → k ≢ s.chains.table_entry → IsLargeStream s.new
    s.has.parts.directory k → IsLargeStream s.old s.has.parts.directory k
large_before s k one another large =
    let size = size_again s k (reached_inside s k large.is_entry.reached) one another in
    let long = large.large in
    record { is_entry = stream_before s k large.is_entry; large = omega arith }

pub large_again : (s : Save) (k : ℕ) (xs : List ℕ) → k ≢ s.chains.grown_entry → k ≢ s.chains.table_entry →
    IsLargeStream s.old s.has.parts.directory k → HoldsChain (fat_table s.old) (stream_head s.old 512 (entry_place
    s.has.parts.directory k)) xs → HoldsChain (fat_table s.new) (stream_head s.new 512 (entry_place
    s.has.parts.directory k)) xs
large_again s k xs one another large holds =
    let at = entry_place s.has.parts.directory k in
    let low = (reached_there s.old s.has.parts.directory large.is_entry.reached).1 in
    holds_again s (of_stream k) (stream_head s.old 512 at) (stream_head s.new 512 at) xs
    (streams_apart k s.chains.grown_entry one) (streams_apart k s.chains.table_entry another)
    (λ x h. record { is_large = large; sectors = xs; holds = holds; has = h })
    (start_again s k low one another) (size_again s k low one another) refl holds

-- the stream that grows has 4,096 bytes or more, before and after
pub old_long : (s : Save) → 4096 ≤ length s.chains.bytes
old_long s =
    let directory = s.has.parts.directory in
    let size = entry_stream_size s.old (entry_place directory s.chains.grown_entry) in
    let inside = chain_inside s.old (stream_head s.old 512 (entry_place directory s.chains.grown_entry))
    s.chains.grown (save_accepted s).whole s.are.grown.holds in
    let len = length-cut 512 512 s.old s.chains.grown s.chains.bytes size (λ k h. let room = inside.inside k h in
    omega arith) s.are.grown.joined in
    let enough = s.are.grown.holds.enough in
    let large = s.are.grown.is_large.large in
    omega arith

pub grown_long : (s : Save) → 4096 ≤ length (grown_bytes s.change s.chains.bytes)
grown_long s =
    let old = old_long s in
    let fib = s.put.fib in
    let all = length-append s.change.fib (drop (length s.change.fib) s.chains.bytes ++ s.change.tail) in
    let more = length-append (drop (length s.change.fib) s.chains.bytes) s.change.tail in
    let rest = length-drop (length s.change.fib) s.chains.bytes in
    omega arith

-- a small stream is none of the two
pub small_other : (s : Save) (k : ℕ) → IsSmallStream s.new s.has.parts.directory k → (k ≢ s.chains.grown_entry) × (k ≢
    s.chains.table_entry)
small_other s k small =
    let short = small.small in
    let grown = s.saved.directory.grown.size_is in
    let table = s.saved.directory.table.size_is in
    let long = s.put.table in
    let more = grown_long s in
    let place : (e : ℕ) → k ≡ e → entry_stream_size s.new (entry_place s.has.parts.directory k) ≡ entry_stream_size
    s.new (entry_place
    s.has.parts.directory e) = λ e same. ap (λ j. entry_stream_size s.new (entry_place s.has.parts.directory j)) same in (
      λ e. let at = place s.chains.grown_entry e in omega arith,
      λ e. let at = place s.chains.table_entry e in
          omega arith,
    )

pub small_before : (s : Save) (k : ℕ) → IsSmallStream s.new s.has.parts.directory k → IsSmallStream s.old
    s.has.parts.directory k
small_before s k small =
    let other = small_other s k small in
    let size = size_again s k (reached_inside s k small.is_entry.reached) other.0 other.1 in
    let some = small.some in
    let short = small.small in
    record { is_entry = stream_before s k small.is_entry; some = omega arith; small = omega arith }

freed_mini_of : (s : Save) (x : ℕ) → LeavesSectors s.old s.has.parts s.chains → HasSector s.chains.freed_mini x →
    HasSmallSector s.old s.has.parts.directory s.has.parts.mini_fat s.chains.table_entry x
freed_mini_of s x (nothing empty none minis) has = absurd (no_sector s.chains.freed_mini x minis has)
freed_mini_of s x (mini_sectors small holds none) has = record {
  is_small = small;
  sectors = s.chains.freed_mini;
  holds = holds;
  has = has;
}
freed_mini_of s x (sectors large holds none) has = absurd (no_sector s.chains.freed_mini x none has)

-- two streams have no mini sector in common
pub minis_apart : (s : Save) (a b x : ℕ) → a ≢ b → HasSmallSector s.old s.has.parts.directory s.has.parts.mini_fat a x
    → ¬ HasSmallSector s.old s.has.parts.directory s.has.parts.mini_fat b x
minis_apart s a b x apart one other =
    (save_accepted s).sharing ((mini_table_of s.old s.has.parts.directory s.has.parts.mini_fat).place x) (inr (record {
      one = a;
      other = b;
      apart = apart;
      sector = x;
      first = one;
      second = other;
      here = refl;
    }))

pub small_again : (s : Save) (k : ℕ) (xs : List ℕ) → k ≢ s.chains.grown_entry → k ≢ s.chains.table_entry →
    IsSmallStream s.old s.has.parts.directory k → HoldsChain (mini_table_of s.old s.has.parts.directory
    s.has.parts.mini_fat) (stream_head s.old 64 (entry_place s.has.parts.directory k)) xs → HoldsChain
    (mini_table_of s.new s.has.parts.directory s.has.parts.mini_fat) (stream_head s.new 64 (entry_place
    s.has.parts.directory k)) xs
small_again s k xs one another small holds =
    let directory = s.has.parts.directory in
    let mini_fat = s.has.parts.mini_fat in
    let at = entry_place directory k in
    let low = (reached_there s.old directory small.is_entry.reached).1 in
    let old = mini_table_of s.old directory mini_fat in
    let new = mini_table_of s.new directory mini_fat in
    let valid : new.valid ≡ old.valid = ap (λ n. min (128 * length mini_fat) ((n + 63) / 64)) (root_size s) in
    let range = holds.range in
    head_again new (stream_head s.old 64 at) (stream_head s.new 64 at) xs (start_again s k low one another)
    (size_again s k low one another) refl (record {
      range = omega arith;
      chain = chain_again old.entry new.entry old.valid new.valid (entry_start s.old at) xs (omega arith) (λ i h.
          let inside = holds.chain.path.within i h in
          let x = slice_index xs i in
          s.saved.tables.kept_mini x (omega arith) (λ free. minis_apart s k s.chains.table_entry x another (record {
            is_small = small;
            sectors = xs;
            holds = holds;
            has = record { index = i; inside = h; here = refl };
          }) (freed_mini_of s x s.are.leaves free))) holds.chain;
      enough = holds.enough;
    })

-- rule 13
pub streams_again : (s : Save) → Nowhere (BreaksStream s.new s.has.parts.directory s.has.parts.mini_fat)
streams_again s = λ p b.
    let k = b.entry in
    let directory = s.has.parts.directory in
    elim b.broken [
      | inl large ↦ elim (cases_eq k s.chains.grown_entry) [
        | inl grown ↦ holds_none (fat_table s.new) (stream_head s.new 512 (entry_place directory k)) (chain_after
            s.chains s.added) (subst (λ e. HoldsChain (fat_table s.new) (stream_head s.new 512 (entry_place directory
            e)) (chain_after s.chains s.added)) (sym grown) (grown_again s)) p large.broken
        | inr one ↦ elim (cases_eq k s.chains.table_entry) [
          | inl table ↦
              let run = range_with_len (fresh_from s.added) s.added.fresh in
              holds_none (fat_table s.new) (stream_head s.new 512 (entry_place directory k)) run (subst (λ e.
              HoldsChain (fat_table s.new) (stream_head s.new 512 (entry_place directory e)) run) (sym table)
              (table_again s)) p large.broken
          | inr another ↦
              let before = large_before s k one another large.is_large in
              let chain = large_chain s k before in
              holds_none (fat_table s.new) (stream_head s.new 512 (entry_place directory k)) chain.sectors
              (large_again s k chain.sectors one another before chain.holds) p large.broken
        ]
      ]
      | inr small ↦
          let other = small_other s k small.is_small in
          let before = small_before s k small.is_small in
          let chain = small_chain s k before in
          holds_none (mini_table_of s.new directory s.has.parts.mini_fat) (stream_head s.new 64 (entry_place directory
          k)) chain.sectors (small_again s k chain.sectors other.0 other.1 before chain.holds) p small.broken
    ]
