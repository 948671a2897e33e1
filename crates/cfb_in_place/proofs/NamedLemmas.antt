-- The two streams of a file by their names.
use Rattle.std.proofs.Common.{◌≡◌, ◌≢◌, inl, inr, ℕ, ◌^◌, ◌<◌, ◌≤◌, List, [], Some, length, take, slice_index}
use Rattle.std.proofs.Common.{slice_get, refl, sym, ap, ◌∙◌, subst, arith, length-take}
use Rattle.std.specs.Prelude.{unwrap_or, option_map}
use Rattle.std.specs.List.{flat_map}
use Rattle.cfb_sectors.specs.Header.{sector_bytes}
use Rattle.std.proofs.lemmas.Bool.{cases_order}
use Rattle.std.proofs.lemmas.Option.{slice_get_within}
use Rattle.cfb_sectors.specs.Chain.{fat_table, HoldsChain}
use Rattle.cfb_directory.specs.Directory.{entry_stream_size}
use Rattle.cfb_directory.specs.Order.{ListsStreams}
use Rattle.cfb_directory.specs.Reach.{entry_place, IsDirectory}
use Rattle.cfb_streams.specs.StreamRules.{Parts, IsMiniFat, IsMiniStream}
use Rattle.cfb_streams.specs.Contents.{Stream, Contents}
use Rattle.cfb_streams.specs.Layout.{LayoutPlaces, IsSoundLayout}
use Rattle.cfb_streams.specs.Container.{HasContents, IsStreamOf, mini_bytes}
use Rattle.cfb_streams.proofs.Public.{directory_unique, mini_fat_unique, mini_stream_unique, lists_unique}
use Rattle.cfb_streams.specs.Names.{wd_name}
use Rattle.cfb_layout.proofs.Public.{entries_apart}
use Rattle.cfb_in_place.specs.Change.{StreamChange, OldChains, grown_bytes}
use Rattle.cfb_in_place.specs.Contract.{IsNamed, AreTwoStreams, CanBePutInPlace, AreNamedChains}
use Rattle.cfb_in_place.specs.Save.{LeavesSectors, nothing, mini_sectors, sectors, AreOldChains, IsMiniChain}
use Rattle.cfb_in_place.specs.Save.{CanBePut}

-- the parts are those of the file's contents
pub there_parts : (file : List ℕ) (contents : Contents) (has : HasContents file contents) (places : LayoutPlaces) →
    places.file
    ≡ file → IsSoundLayout places → places.parts ≡ has.parts
there_parts file contents has places same layout =
    let parts = places.parts in
    let d = directory_unique file parts.directory has.parts.directory (subst (λ f. IsDirectory f parts.directory) same
    layout.are_entries.is_directory) has.directory in
    let m = mini_fat_unique file parts.mini_fat has.parts.mini_fat (subst (λ f. IsMiniFat f parts.mini_fat) same
    layout.mini_fat) has.mini_fat in
    let stored = subst (λ f. IsMiniStream f parts.directory parts.mini_stream) same layout.mini_stream in
    let s = mini_stream_unique file has.parts.directory parts.mini_stream has.parts.mini_stream
    (subst (λ x. IsMiniStream file x parts.mini_stream) d stored) has.mini_stream in
    let first : parts ≡ record
    { directory = has.parts.directory; mini_fat = parts.mini_fat; mini_stream = parts.mini_stream } =
    ap (λ n. record { directory = n; mini_fat = parts.mini_fat; mini_stream = parts.mini_stream }) d in
    let second : record
    { directory = has.parts.directory; mini_fat = parts.mini_fat; mini_stream = parts.mini_stream } ≡ record
    { directory = has.parts.directory; mini_fat = has.parts.mini_fat; mini_stream = parts.mini_stream } =
    ap (λ n. record { directory = has.parts.directory; mini_fat = n; mini_stream = parts.mini_stream }) m in
    let third : record
    { directory = has.parts.directory; mini_fat = has.parts.mini_fat; mini_stream = parts.mini_stream } ≡ has.parts =
    ap (λ n. record { directory = has.parts.directory; mini_fat = has.parts.mini_fat; mini_stream = n }) s in
    first ∙ (second ∙ third)

-- and the entries of the streams are those
pub there_entries : (file : List ℕ) (contents : Contents) (has : HasContents file contents) (places : LayoutPlaces) →
    places.file ≡ file → IsSoundLayout places → places.streams ≡ has.entries
there_entries file contents has places same layout =
    let parts = there_parts file contents has places same layout in
    let first = subst (λ f. ListsStreams f places.parts.directory places.streams) same layout.are_entries.in_order in
    let lists = subst (λ (p : Parts). ListsStreams file p.directory places.streams) parts first in
    lists_unique file has.parts.directory places.streams has.entries lists has.lists

-- a stream has a mini chain where it is short
pub mini_there : (file : List ℕ) (parts : Parts) (entry : ℕ) (stream : Stream) → IsStreamOf file parts entry stream →
    (xs : List ℕ) × IsMiniChain file parts entry xs
mini_there file parts entry stream is = elim is.holds [
  | inl empty ↦ (
    [],
    record {
      short = λ small. absurd (let none = empty.empty in let some = small.some in omega arith);
      none = λ no. refl;
    },
  )
  | inr rest ↦ elim rest [
    | inl short ↦ (
      short.body.sectors,
      record {
        short = λ small. short.body.holds;
        none = λ no. absurd (no short.body.is_small);
      },
    )
    | inr long ↦ (
      [],
      record {
        short = λ small. absurd (let large = long.body.is_large.large in let low = small.small in omega arith);
        none = λ no. refl;
      },
    )
  ]
]

-- what the code finds
pub record AreFound (file : List ℕ) (parts : Parts) (chains : OldChains) (one other : Stream) : Type 0 where
  pub is_one : IsStreamOf file parts chains.grown_entry one
  pub is_other : IsStreamOf file parts chains.table_entry other
  pub long : 4096 ≤ length one.bytes
  pub apart : chains.grown_entry ≢ chains.table_entry
  pub bytes_are : chains.bytes ≡ one.bytes
  pub grown_is : chains.grown ≡ unwrap_or one.chain []
  pub freed_is : chains.freed ≡ unwrap_or other.chain []
  pub mini_is : IsMiniChain file parts chains.table_entry chains.freed_mini

leaves_sectors : (file : List ℕ) (parts : Parts) (chains : OldChains) (one other : Stream) → AreFound file parts chains
    one other → LeavesSectors file parts chains
leaves_sectors file parts chains one other found =
    let chain = found.freed_is in
    elim found.is_other.holds [
      | inl empty ↦ nothing empty.empty (chain ∙ ap (λ c. unwrap_or c []) empty.chain) (found.mini_is.none (λ small.
          let none = empty.empty in let some = small.some in omega arith))
      | inr rest ↦ elim rest [
        | inl short ↦ mini_sectors short.body.is_small (found.mini_is.short short.body.is_small)
            (chain ∙ ap (λ c. unwrap_or c []) short.chain)
        | inr long ↦
            let same : chains.freed ≡ long.sectors = chain ∙ ap (λ c. unwrap_or c []) long.chain in
            sectors long.body.is_large
            (subst (λ (xs : List ℕ). HoldsChain (fat_table file) _ xs) (sym same) long.body.holds)
            (found.mini_is.none (λ small. let large = long.body.is_large.large in let low = small.small in omega
            arith))
      ]
    ]

pub old_chains : (file : List ℕ) (parts : Parts) (chains : OldChains) (one other : Stream) → AreFound file parts chains
    one other → AreOldChains file parts chains
old_chains file parts chains one other found =
    let wide = found.long in
    record {
      grown = elim found.is_one.holds [
        | inl empty ↦ absurd (let none = ap (λ (xs : List ℕ). length xs) empty.bytes in omega arith)
        | inr rest ↦ elim rest [
          | inl short ↦ absurd (let cut = ap (λ (xs : List ℕ). length xs) short.body.joined in let less = length-take
              (entry_stream_size file (entry_place parts.directory chains.grown_entry)) (flat_map (sector_bytes 0 64
              (mini_bytes file parts)) short.body.sectors) in let small =
              short.body.is_small.small in omega arith)
          | inr long ↦
              let same : chains.grown ≡ long.sectors = found.grown_is ∙ ap (λ c. unwrap_or c []) long.chain in
              record {
                is_large = long.body.is_large;
                holds = subst (λ (xs : List ℕ). HoldsChain (fat_table file) _ xs) (sym same) long.body.holds;
                joined = found.bytes_are ∙ (long.body.joined ∙ ap (λ (xs : List ℕ). take (entry_stream_size file
                    (entry_place parts.directory chains.grown_entry)) (flat_map (sector_bytes 512 512 file) xs)) (sym
                    same));
              }
        ]
      ];
      table = found.is_other.is_entry;
      apart = found.apart;
      leaves = leaves_sectors file parts chains one other found;
    }

-- a stream that is there has an entry
pub entry_inside : (file : List ℕ) (contents : Contents) (has : HasContents file contents) (places : LayoutPlaces) →
    places.file ≡ file → IsSoundLayout places → (i : ℕ) → i < length contents.streams → i < length places.streams
entry_inside file contents has places same layout i h =
    let entries = ap (λ (xs : List ℕ). length xs) (there_entries file contents has places same layout) in
    let len = has.streams.len in
    omega arith

-- two streams have two entries
entries_differ : (file : List ℕ) (contents : Contents) (has : HasContents file contents) (i j : ℕ) → i ≢ j → i < length
    has.entries → j < length has.entries → slice_index has.entries i ≢ slice_index has.entries j
entries_differ file contents has i j ne h k e = elim (cases_order i j) [
  | inl same ↦ ne same
  | inr apart ↦ elim apart [
    | inl less ↦ entries_apart file contents has i j less k e
    | inr more ↦ entries_apart file contents has j i more h (sym e)
  ]
]

-- what is read of a stream that is there
pub read_of : {X : Type 0} (f : Stream → X) (streams : List Stream) (i : ℕ) (stream : Stream) (x : X) → option_map f
    (slice_get streams i) ≡ Some x → slice_get streams i ≡ Some stream → x ≡ f stream
read_of f streams i stream x a b = cc

-- the chains of the two streams that have the names
pub named_chains : (file : List ℕ) (contents : Contents) (name : List ℕ) (chains : OldChains) (has : HasContents file
    contents) → AreTwoStreams contents name → (i j : ℕ) (one : IsNamed contents i wd_name) (other : IsNamed contents j
    name) → chains.grown_entry ≡ slice_index has.entries i → chains.table_entry ≡ slice_index has.entries j →
    option_map (λ s. s.bytes) (slice_get contents.streams i) ≡ Some chains.bytes → option_map (λ s. unwrap_or s.chain
    []) (slice_get contents.streams i) ≡ Some chains.grown → option_map (λ s. unwrap_or s.chain []) (slice_get
    contents.streams j) ≡ Some chains.freed → IsMiniChain file has.parts chains.table_entry chains.freed_mini →
    AreNamedChains file contents name chains
named_chains file contents name chains has two i j one other grown table bytes own freed mini =
    let all = has.streams.len in
    let low = slice_get_within contents.streams i one.stream one.here in
    let under = slice_get_within contents.streams j other.stream other.here in
    let ne = entries_differ file contents has i j (two.apart i j one other) (omega arith) (omega arith) in
    record {
      has = has;
      are = old_chains file has.parts chains one.stream other.stream (record {
        is_one = subst (λ k. IsStreamOf file has.parts k one.stream) (sym grown) (has.streams.each i one.stream
            one.here);
        is_other = subst (λ k. IsStreamOf file has.parts k other.stream) (sym table) (has.streams.each j other.stream
            other.here);
        long = two.long i one;
        apart = λ e. ne (sym grown ∙ (e ∙ table));
        bytes_are = read_of (λ s. s.bytes) contents.streams i one.stream chains.bytes bytes one.here;
        grown_is = read_of (λ s. unwrap_or s.chain []) contents.streams i one.stream chains.grown own one.here;
        freed_is = read_of (λ s. unwrap_or s.chain []) contents.streams j other.stream chains.freed freed other.here;
        mini_is = mini;
      });
      main = record { index = i; is = one; here = sym grown };
      other = record { index = j; is = other; here = sym table };
      main_bytes = read_of (λ s. s.bytes) contents.streams i one.stream chains.bytes bytes one.here;
    }

-- the change may be put there
pub put_there : (file : List ℕ) (contents : Contents) (change : StreamChange) (name : List ℕ) (chains : OldChains) →
    CanBePutInPlace contents change name → AreNamedChains file contents name chains → CanBePut chains change
put_there file contents change name chains can named = record {
  fib = can.fib;
  table = can.table;
  grown_short = subst (λ (bytes : List ℕ). length (grown_bytes change bytes) < 2 ^ 31) (sym named.main_bytes)
      (can.grown_short named.main.index named.main.is);
  table_short = can.table_short;
}

-- what the other stream's entry is for its mini chain
pub other_stream : (file : List ℕ) (contents : Contents) (name : List ℕ) (has : HasContents file contents) (places :
    LayoutPlaces) → places.file ≡ file → IsSoundLayout places → (j entry : ℕ) (other : IsNamed contents j name) → entry
    ≡
    slice_index places.streams j → IsStreamOf file places.parts entry other.stream
other_stream file contents name has places same layout j entry other is =
    let parts = there_parts file contents has places same layout in
    let entries = there_entries file contents has places same layout in
    let at : entry ≡ slice_index has.entries j = is ∙ ap (λ xs. slice_index xs j) entries in
    subst (λ (p : Parts). IsStreamOf file p entry other.stream) (sym parts)
    (subst (λ k. IsStreamOf file has.parts k other.stream) (sym at) (has.streams.each j other.stream other.here))
