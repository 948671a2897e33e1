-- The file after a save, byte by byte.
use Rattle.std.proofs.Common.{◌≡◌, inl, inr, ℕ, ◌+◌, ◌-◌, ◌*◌, ◌/◌, ◌%◌, ◌<◌, ◌≤◌, List, [], ◌∷◌, ◌++◌, length}
use Rattle.std.proofs.Common.{map, drop, slice_index, refl, sym, ap, ◌∙◌, arith}
use Rattle.std.specs.List.{range_with_len}
use Rattle.std.proofs.lemmas.Bool.{cases_lt}
use Rattle.std.proofs.lemmas.List.{ext_get_or}
use Rattle.std.proofs.lemmas.List.FromFn.{get_or-map-range_with_len, length-map-range_with_len}
use Rattle.doc_bits.specs.Rules.{Hold}
use Rattle.doc_bits.specs.Number.{AreBytes, number_bytes, zeros}
use Rattle.cfb_sectors.specs.Header.{fat_sector_count, fat_sectors, valid_below}
use Rattle.cfb_sectors.specs.SectorChain.{last_of}
use Rattle.cfb_sectors.specs.Chain.{fat_table}
use Rattle.cfb_sectors.proofs.Public.{fat_few}
use Rattle.cfb_streams.specs.Contents.{Contents}
use Rattle.cfb_streams.specs.Container.{container_rules, HasContents}
use Rattle.cfb_layout.specs.Sectors.{chains_from, free_sector, fat_sector_mark, padded_to_unit}
use Rattle.cfb_layout.proofs.Public.{IsAccepted, accepted}
use Rattle.cfb_in_place.specs.Change.{StreamChange, OldChains, Added}
use Rattle.cfb_in_place.specs.Change.{added_sectors, grown_count, fresh_count, grown_bytes}
use Rattle.cfb_in_place.specs.Change.{fresh_from, fat_from, end_of, sectors_after}
use Rattle.cfb_in_place.specs.Tables.{mini_entry}
use Rattle.cfb_in_place.specs.Appended.{ChangesHeader, joined, chain_after}
use Rattle.cfb_in_place.specs.Save.{AreOldChains, CanBePut, FitsAfter}
use Rattle.cfb_in_place.proofs.PickLemmas.{pick, pick_low, pick_high, place_in, spelled}

-- a file, and a change that may be put there
pub record Before : Type 0 where
  pub old : List ℕ
  pub contents : Contents
  pub has : HasContents old contents
  pub chains : OldChains
  pub change : StreamChange
  pub hold : Hold (container_rules old)
  pub are : AreOldChains old has.parts chains
  pub put : CanBePut chains change
  pub fits : FitsAfter old (added_sectors old chains change)
  pub bytes : AreBytes old

abbrev pub added_of : Before → Added
added_of b = added_sectors b.old b.chains b.change

pub before_accepted : (b : Before) → IsAccepted b.old b.has.parts
before_accepted b = accepted b.old b.contents b.hold b.has

-- the counts
pub record AreSizes (b : Before) : Type 0 where
  pub from : (added_of b).from ≡ valid_below b.old
  pub grown : (added_of b).grown ≡ grown_count b.chains b.change
  pub fresh : (added_of b).fresh ≡ fresh_count b.change
  pub holds : end_of (added_of b) ≤ 128 * (fat_sector_count b.old + (added_of b).fat)
  pub some : 0 < fat_sector_count b.old
  pub few : fat_sector_count b.old + (added_of b).fat ≤ 109

pub sizes_of : (b : Before) → AreSizes b
unfolding added_sectors
sizes_of b =
    let ok = before_accepted b in
    let few = fat_few b.old ok.fat in
    let fits = b.fits in
    let some : 0 < fat_sector_count b.old = elim (cases_lt 0 (fat_sector_count b.old)) [
      | inl h ↦ h
      | inr none ↦ absurd (ok.fat 44 (inl (refl, inl (omega arith))))
    ] in
    record { from = refl; grown = refl; fresh = refl; holds = omega arith; some = some; few = omega arith }

-- the FAT's entries
unfoldable pub entry_old : Before → ℕ → ℕ
entry_old b s =
    pick (place_in b.chains.freed s) (length b.chains.freed) free_sector
    (pick 0 (added_of b).grown (pick s (last_of b.chains.grown) ((fat_table b.old).entry s) (pick (last_of
    b.chains.grown) s ((fat_table b.old).entry s) (added_of b).from)) ((fat_table b.old).entry s))

unfoldable pub entry_new : Before → ℕ → ℕ
entry_new b s =
    pick s (fat_from (added_of b)) (slice_index (chains_from (added_of b).from ((added_of b).grown ∷ ((added_of
    b).fresh ∷ []))) (s - (added_of b).from)) (pick s (end_of (added_of b)) fat_sector_mark free_sector)

unfoldable pub entry_after : Before → ℕ → ℕ
entry_after b s = pick s (added_of b).from (entry_old b s) (entry_new b s)

unfoldable pub mini_after : Before → ℕ → ℕ
mini_after b s = pick (place_in b.chains.freed_mini s) (length b.chains.freed_mini) free_sector
    (mini_entry b.old b.has.parts.mini_fat s)

-- the FAT's sectors
unfoldable pub fats_after : Before → List ℕ
fats_after b = fat_sectors b.old ++ range_with_len (fat_from (added_of b)) (added_of b).fat

-- the bytes of the stream that grows with what is behind it
unfoldable pub grown_joined : Before → List ℕ
grown_joined b = grown_bytes b.change b.chains.bytes ++ drop (length (grown_bytes b.change b.chains.bytes))
    (joined b.old b.chains.grown ++ zeros (512 * (added_of b).grown))

-- a byte of an entry of the directory
unfoldable pub size_byte : ℕ → ℕ → ℕ
size_byte size o = pick o 124 (slice_index (number_bytes 4 size) (o - 120)) (slice_index (number_bytes 4 0) (o - 124))

unfoldable pub directory_byte : Before → ℕ → ℕ → ℕ → ℕ
directory_byte b k o old =
    pick o 116 old
    (pick k b.chains.grown_entry (pick k b.chains.table_entry old (pick b.chains.table_entry k old (pick o 120
    (slice_index (number_bytes 4 (fresh_from (added_of b))) (o - 116)) (size_byte (length b.change.table) o))))
    (pick b.chains.grown_entry k (pick k b.chains.table_entry old (pick b.chains.table_entry k old (pick o 120
    (slice_index (number_bytes 4 (fresh_from (added_of b))) (o - 116)) (size_byte (length b.change.table) o))))
    (pick o 120 old (size_byte (length (grown_bytes b.change b.chains.bytes)) o))))

-- a byte of a sector
unfoldable pub byte_in : Before → ℕ → ℕ → ℕ
byte_in b x o =
    let old = slice_index b.old ((x + 1) * 512 + o) in
    pick (place_in (fats_after b) x) (length (fats_after b)) (slice_index (number_bytes 4 (entry_after b (128 *
    place_in (fats_after b) x + o / 4))) (o % 4))
    (pick (place_in b.has.parts.mini_fat x) (length b.has.parts.mini_fat) (slice_index (number_bytes 4 (mini_after b
    (128 * place_in b.has.parts.mini_fat x + o / 4))) (o % 4))
    (pick (place_in b.has.parts.directory x) (length b.has.parts.directory) (directory_byte b (4 * place_in
    b.has.parts.directory x + o / 128) (o % 128) old)
    (pick (place_in (chain_after b.chains (added_of b)) x) (length (chain_after b.chains (added_of b))) (slice_index
    (grown_joined b) (512 * place_in (chain_after b.chains (added_of b)) x + o))
    (pick x (fresh_from (added_of b)) old (pick x (fat_from (added_of b)) (slice_index (padded_to_unit 512 0
    b.change.table)
    (512 * (x - fresh_from (added_of b)) + o)) old)))))

-- a byte of the header
pub header_byte : Before → ℕ → ℕ
header_byte b at =
    let nf = fat_sector_count b.old in
    let old = slice_index b.old at in
    pick at 44 old (pick at 48 (slice_index (number_bytes 4 (nf + (added_of b).fat)) (at - 44)) (pick at (76 + 4 * nf)
    old (pick at (76 + 4 * (nf + (added_of b).fat)) (slice_index (number_bytes 4 (fat_from (added_of b) + ((at - 76) /
    4 - nf))) ((at - 76) % 4)) old)))

pub byte_after : Before → ℕ → ℕ
byte_after b at = pick at 512 (header_byte b at) (byte_in b (at / 512 - 1) (at % 512))

pub file_after : Before → List ℕ
file_after b = map (byte_after b) (range_with_len 0 (512 * (sectors_after b.old (added_of b) + 1)))

pub length-file_after : (b : Before) → length (file_after b) ≡ 512 * (sectors_after b.old (added_of b) + 1)
unfolding file_after
length-file_after b = length-map-range_with_len (byte_after b) 0 (512 * (sectors_after b.old (added_of b) + 1))

pub file_at : (b : Before) (at : ℕ) → at < 512 * (sectors_after b.old (added_of b) + 1) → slice_index (file_after b) at
    ≡ byte_after b at
unfolding file_after
file_at b at h = get_or-map-range_with_len (byte_after b) 0 (512 * (sectors_after b.old (added_of b) + 1)) at at 0 h
    (omega arith)

-- the header's bytes, and those of a sector
header_at : (b : Before) (at : ℕ) → at < 512 → slice_index (file_after b) at ≡ header_byte b at
unfolding byte_after
header_at b at h = file_at b at (omega arith) ∙ pick_low at 512 (header_byte b at) (byte_in b (at / 512 - 1) (at %
    512)) h

pub sector_at : (b : Before) (x o at : ℕ) → x < sectors_after b.old (added_of b) → o < 512 → at ≡ (x + 1) * 512 + o →
    slice_index (file_after b) at ≡ byte_in b x o
unfolding byte_after
sector_at b x o at low h is =
    let sector : at / 512 - 1 ≡ x = omega arith in
    let rest : at % 512 ≡ o = omega arith in
    file_at b at (omega arith)
    ∙ (pick_high at 512 (header_byte b at) (byte_in b (at / 512 - 1) (at % 512)) (omega arith)
    ∙ (ap (λ k. byte_in b k (at % 512)) sector ∙ ap (λ k. byte_in b x k) rest))

-- a file with this header and these sectors is that one
pub file_by_sectors : (b : Before) (new : List ℕ) → length new ≡ 512 * (sectors_after b.old (added_of b) + 1) → ((at :
    ℕ)
    → at < 512 → slice_index new at ≡ header_byte b at) → ((x o : ℕ) → x < sectors_after b.old (added_of b) → o < 512 →
    slice_index new ((x + 1) * 512 + o) ≡ byte_in b x o) → new ≡ file_after b
file_by_sectors b new len front each =
    let all = length-file_after b in
    ext_get_or 0 new (file_after b) (len ∙ sym all) (λ at h. elim (cases_lt at 512) [
      | inl low ↦ front at low ∙ sym (header_at b at low)
      | inr high ↦
          let x = at / 512 - 1 in
          let o = at % 512 in
          let place : at ≡ (x + 1) * 512 + o = omega arith in
          ap (λ k. slice_index new k) place ∙ (each x o (omega arith) (omega arith) ∙ sym (sector_at b x o at
          (omega arith) (omega arith) place))
    ])

-- the four parts of the header
pub header_front : (b : Before) (at : ℕ) → at < 44 → header_byte b at ≡ slice_index b.old at
unfolding header_byte
header_front b at h = pick_low at 44 _ _ h

pub header_count : (b : Before) (i : ℕ) → i < 4 → header_byte b (44 + i) ≡ slice_index (number_bytes 4 (fat_sector_count
    b.old + (added_of b).fat)) i
unfolding header_byte
header_count b i h =
    let place : 44 + i - 44 ≡ i = omega arith in
    pick_high (44 + i) 44 _ _ (omega arith) ∙ (pick_low (44 + i) 48 _ _ (omega arith) ∙ ap (λ k. slice_index
    (number_bytes 4 (fat_sector_count b.old + (added_of b).fat)) k) place)

pub header_middle : (b : Before) (at : ℕ) → 48 ≤ at → at < 76 + 4 * fat_sector_count b.old → header_byte b at ≡
    slice_index
    b.old at
unfolding header_byte
header_middle b at from h = pick_high at 44 _ _ (omega arith) ∙ (pick_high at 48 _ _ from ∙ pick_low at (76 + 4 *
    fat_sector_count b.old) _ _ h)

pub header_list : (b : Before) (k i : ℕ) → k < (added_of b).fat → i < 4 → header_byte b (76 + 4 * (fat_sector_count
    b.old +
    k) + i) ≡ slice_index (number_bytes 4 (fat_from (added_of b) + k)) i
unfolding header_byte
header_list b k i h low =
    let nf = fat_sector_count b.old in
    let at = 76 + 4 * (nf + k) + i in
    let number : (at - 76) / 4 - nf ≡ k = omega arith in
    let rest : (at - 76) % 4 ≡ i = omega arith in
    pick_high at 44 _ _ (omega arith)
    ∙ (pick_high at 48 _ _ (omega arith)
    ∙ (pick_high at (76 + 4 * nf) _ _ (omega arith)
    ∙ (pick_low at (76 + 4 * (nf + (added_of b).fat)) _ _ (omega arith)
    ∙ (ap (λ n. slice_index (number_bytes 4 (fat_from (added_of b) + n)) ((at - 76) % 4)) number ∙ ap (λ n.
    slice_index (number_bytes 4 (fat_from (added_of b) + k)) n) rest))))

pub header_rest : (b : Before) (at : ℕ) → 76 + 4 * (fat_sector_count b.old + (added_of b).fat) ≤ at → header_byte b at ≡
    slice_index b.old at
unfolding header_byte
header_rest b at from = pick_high at 44 _ _ (omega arith) ∙ (pick_high at 48 _ _ (omega arith) ∙ (pick_high at (76 + 4 *
    fat_sector_count b.old) _ _ (omega arith) ∙ pick_high at (76 + 4 * (fat_sector_count b.old + (added_of b).fat)) _ _
    from))

pub header_changes : (b : Before) → ChangesHeader b.old (file_after b) (added_of b)
header_changes b =
    let n = sizes_of b in
    let few = n.few in
    let fits = b.fits in
    let count : fat_sector_count (file_after b) ≡ fat_sector_count b.old + (added_of b).fat =
    spelled (file_after b) 44 (fat_sector_count b.old + (added_of b).fat) (omega arith) (λ i h. header_at b (44 + i)
    (omega arith) ∙ header_count b i h) in
    record {
      len = length-file_after b;
      fat_count = count;
      fat_list = λ k h. spelled (file_after b) (76 + 4 * (fat_sector_count b.old + k)) (fat_from (added_of b) + k)
          (omega arith) (λ i low. header_at b (76 + 4 * (fat_sector_count b.old + k) + i) (omega arith) ∙ header_list b
          k i h low);
      front = λ i h. header_at b (0 + i) (omega arith) ∙ header_front b (0 + i) (omega arith);
      middle = λ i h. header_at b (48 + i) (omega arith) ∙ header_middle b (48 + i) (omega arith) (omega arith);
      rest = λ at from h. header_at b at h ∙ header_rest b at (omega arith);
    }
