-- What the steps of a save ask for.
use Rattle.std.proofs.Common.{◌≡◌, ℕ, ◌+◌, ◌*◌, ◌^◌, ◌<◌, ◌≤◌, List, length, slice_index, refl, sym, ap, ◌∙◌, subst}
use Rattle.std.proofs.Common.{arith}
use Rattle.std.proofs.Common.{length-take}
use Rattle.std.specs.List.{range_with_len}
use Rattle.doc_bits.specs.Number.{AreBytes}
use Rattle.cfb_sectors.specs.Header.{fat_sector_count, fat_sectors}
use Rattle.cfb_sectors.specs.Chain.{AreSectorsOf}
use Rattle.cfb_sectors.specs.Claims.{AreDistinctBelow}
use Rattle.cfb_sectors.proofs.Public.{fat_inside}
use Rattle.cfb_directory.specs.Directory.{entry_stream_size}
use Rattle.cfb_directory.specs.Reach.{entry_place, entry_count, directory_head}
use Rattle.cfb_directory.specs.StreamEntries.{stream_head}
use Rattle.cfb_streams.specs.StreamRules.{Parts}
use Rattle.cfb_streams.proofs.Public.{chain_inside, mini_fat_inside, mini_fat_apart}
use Rattle.cfb_layout.proofs.Public.{accepted, IsRun}
use Rattle.cfb_in_place.specs.Change.{StreamChange, OldChains, Added, grown_bytes, added_sectors, sectors_after}
use Rattle.cfb_in_place.specs.Change.{fresh_from, fat_from, end_of}
use Rattle.cfb_in_place.specs.Tables.{CanChangeFat}
use Rattle.cfb_in_place.specs.Appended.{joined, chain_after}
use Rattle.cfb_in_place.specs.Save.{CanSave, IsReady}
use Rattle.cfb_in_place.specs.Sources.{NewHead}
use Rattle.cfb_in_place.specs.Roles.{ArePartsBelow, sectors_of_parts}
use Rattle.cfb_in_place.proofs.FileAfter.{Before, added_of, before_accepted, sizes_of, fats_after}
use Rattle.cfb_in_place.proofs.TablesThere.{range_run, fats_run, can_change, freed_mini_low, grown_inside, mini_low}
use Rattle.cfb_in_place.proofs.TablesThere.{directory_low}
use Rattle.cfb_in_place.proofs.SectorsThere.{chain_run_after, length_joined}

-- the file before, and the change
abbrev pub before_of : (old : List ℕ) (parts : Parts) (chains : OldChains) (change : StreamChange) (added : Added) →
    IsReady old parts chains change added → AreBytes old → Before
before_of old parts chains change added ready bytes = record {
  old = old;
  contents = ready.can.contents;
  has = ready.can.has;
  chains = chains;
  change = change;
  hold = ready.can.hold;
  are = ready.can.are;
  put = ready.can.put;
  fits = ready.fits;
  bytes = bytes;
}

-- what holds of its parts and of what is added holds of these
pub of_ready : (old : List ℕ) (parts : Parts) (chains : OldChains) (change : StreamChange) (added : Added) (ready :
    IsReady old parts chains change added) (P : Parts → Added → Type 0) → P ready.can.has.parts (added_sectors old
    chains change) → P parts added
of_ready old parts chains change added ready P x = subst (λ (p : Parts). P p added) (sym ready.can.same) (subst
    (λ (a : Added). P ready.can.has.parts a) (sym ready.is) x)

-- distinct sectors below a number are below a greater one
run_below : (count most : ℕ) (xs : List ℕ) → IsRun count xs → count ≤ most → AreDistinctBelow most xs
run_below count most xs run h = record {
  inside = λ i low. let w = run.within i low in omega arith;
  distinct = run.distinct;
}

-- the sectors of the parts are in the file after
parts_below : (b : Before) → ArePartsBelow (sectors_after b.old (added_of b)) (sectors_of_parts b.old b.has.parts
    b.chains (added_of b))
unfolding fats_after
parts_below b =
    let from = (sizes_of b).from in
    let most = sectors_after b.old (added_of b) in
    record {
      fats = run_below (end_of (added_of b)) most (fats_after b) (fats_run b) (omega arith);
      minis = record {
        inside = λ i h. let low = mini_low b i h in omega arith;
        distinct = (mini_fat_apart b.old b.has.parts.mini_fat b.has.mini_fat).distinct;
      };
      entries = record {
        inside = λ i h. let low = directory_low b i h in omega arith;
        distinct = b.has.directory.holds.chain.path.distinct;
      };
      grown = run_below (fresh_from (added_of b)) most (chain_after b.chains (added_of b)) (chain_run_after b)
          (omega arith);
      fresh = run_below (fat_from (added_of b)) most (range_with_len (fresh_from (added_of b)) (added_of b).fresh)
          (range_run (fresh_from (added_of b)) (added_of b).fresh (fat_from (added_of b)) (omega arith)) (omega arith);
    }

-- the stream that grows is no shorter than its new front
pub front_of : (old : List ℕ) (parts : Parts) (chains : OldChains) (change : StreamChange) → CanSave old parts chains
    change → length change.fib ≤ length chains.bytes
front_of old parts chains change can =
    let at = entry_place can.has.parts.directory chains.grown_entry in
    let whole = (accepted old can.contents can.hold can.has).whole in
    let inside = chain_inside old (stream_head old 512 at) chains.grown whole can.are.grown.holds in
    let joined_len = length_joined old chains.grown inside in
    let fib = can.put.fib in
    let large = can.are.grown.is_large.large in
    let enough = can.are.grown.holds.enough in
    let cut = ap (λ (xs : List ℕ). length xs) can.are.grown.joined in
    let len = length-take (entry_stream_size old at) (joined old chains.grown) in
    omega arith

-- and its sectors hold it
record AreRooms (b : Before) : Type 0 where
  inside : AreSectorsOf b.old b.chains.grown
  within : length (grown_bytes b.change b.chains.bytes) ≤ length (joined b.old b.chains.grown) + 512 * (added_of
      b).grown
  room : length (joined b.old b.chains.grown) + 512 * (added_of b).grown < 2 ^ 63

rooms_of : (b : Before) → AreRooms b
rooms_of b =
    let at = entry_place b.has.parts.directory b.chains.grown_entry in
    let inside = chain_inside b.old (stream_head b.old 512 at) b.chains.grown (before_accepted b).whole
    b.are.grown.holds in
    let joined_len = length_joined b.old b.chains.grown inside in
    let few = inside.few in
    let grown = (sizes_of b).grown in
    let short = b.put.grown_short in
    record { inside = inside; within = omega arith; room = omega arith }

-- what is asked for
pub record AreAsked (old : List ℕ) (chains : OldChains) (change : StreamChange) (parts : Parts) (added : Added) : Type 0
  where
    pub header : 512 ≤ length old
    pub few : fat_sector_count old + added.fat ≤ 109
    pub below : ArePartsBelow (sectors_after old added) (sectors_of_parts old parts chains added)
    pub fats : AreSectorsOf old (fat_sectors old)
    pub can : (entries : List ℕ) → length entries ≡ 128 * fat_sector_count old
        → CanChangeFat entries chains added (128 * (fat_sector_count old + added.fat))
    pub minis : AreSectorsOf old parts.mini_fat
    pub freed : (i : ℕ) → i < length chains.freed_mini
        → slice_index chains.freed_mini i < 128 * length parts.mini_fat
    pub inside : AreSectorsOf old chains.grown
    pub front : length change.fib ≤ length chains.bytes
    pub within : length (grown_bytes change chains.bytes) ≤ length (joined old chains.grown) + 512 * added.grown
    pub room : length (joined old chains.grown) + 512 * added.grown < 2 ^ 63
    pub entries : AreSectorsOf old parts.directory
    pub there : chains.grown_entry < entry_count parts.directory

asked_before : (b : Before) → AreAsked b.old b.chains b.change b.has.parts (added_of b)
asked_before b =
    let ok = before_accepted b in
    let least = ok.whole.least in
    let rooms = rooms_of b in
    record {
      header = omega arith;
      few = (sizes_of b).few;
      below = parts_below b;
      fats = fat_inside b.old ok.whole ok.fat;
      can = can_change b;
      minis = mini_fat_inside b.old b.has.parts.mini_fat ok.whole b.has.mini_fat;
      freed = λ i h. freed_mini_low b (slice_index b.chains.freed_mini i) b.are.leaves (record {
        index = i;
        inside = h;
        here = refl;
      });
      inside = rooms.inside;
      front = front_of b.old b.has.parts b.chains b.change (record {
        contents = b.contents;
        has = b.has;
        same = refl;
        hold = b.hold;
        are = b.are;
        put = b.put;
      });
      within = rooms.within;
      room = rooms.room;
      entries = chain_inside b.old (directory_head b.old) b.has.parts.directory ok.whole b.has.directory.holds;
      there = grown_inside b;
    }

pub asked_of : (old : List ℕ) (parts : Parts) (chains : OldChains) (change : StreamChange) (added : Added) → IsReady old
    parts chains change added → AreBytes old → AreAsked old chains change parts added
asked_of old parts chains change added ready bytes = of_ready old parts chains change added ready (λ p a. AreAsked old
    chains change p a) (asked_before (before_of old parts chains change added ready bytes))

-- a head by its numbers
pub head_is : (head : NewHead) (entry start size : ℕ) → head.entry ≡ entry → head.start ≡ start → head.size ≡ size →
    head ≡ record { entry = entry; start = start; size = size }
head_is head entry start size a b c =
    ap (λ n. record { entry = n; start = head.start; size = head.size }) a
    ∙ (ap (λ n. record { entry = entry; start = n; size = head.size }) b ∙ ap (λ n. record
    { entry = entry; start = start; size = n }) c)
