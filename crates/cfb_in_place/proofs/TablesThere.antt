-- The tables and the directory of the file after a save, as it is made byte by byte.
use Rattle.std.proofs.Common.{◌≡◌, ◌≢◌, inl, inr, ℕ, ◌+◌, ◌-◌, ◌*◌, ◌/◌, ◌%◌, ◌^◌, ◌<◌, ◌≤◌, List, [], ◌∷◌, length}
use Rattle.std.proofs.Common.{slice_index, refl, sym, ap, ◌∙◌, arith, length-append}
use Rattle.std.specs.List.{range_with_len}
use Rattle.std.proofs.lemmas.Bool.{cases_lt, cases_order}
use Rattle.std.proofs.lemmas.List.{get_or_append_left, get_or-append_right}
use Rattle.std.proofs.lemmas.List.FromFn.{length-range_with_len, get_or-range_with_len}
use Rattle.doc_bits.specs.Number.{number_bytes, u32_at}
use Rattle.doc_bits.proofs.Public.{number_at-same, number_at-bound}
use Rattle.cfb_sectors.specs.Header.{fat_sector_count, fat_sector, fat_sectors, valid_below, table_place}
use Rattle.cfb_sectors.specs.SectorChain.{HasSector, last_of}
use Rattle.cfb_sectors.specs.Chain.{fat_table}
use Rattle.cfb_sectors.proofs.Public.{length-fat_sectors, fat_sectors-at, fat_apart}
use Rattle.cfb_directory.specs.Directory.{entry_start}
use Rattle.cfb_directory.specs.Reach.{entry_place, entry_count}
use Rattle.cfb_directory.proofs.Public.{reached_there}
use Rattle.cfb_streams.specs.StreamRules.{Owner, of_fat, of_directory, of_mini_fat, of_stream, Owns}
use Rattle.cfb_streams.proofs.Public.{mini_fat_apart}
use Rattle.cfb_layout.specs.Sectors.{chains_from, free_sector, fat_sector_mark}
use Rattle.cfb_layout.proofs.Public.{chains_below, owners_apart, run_sector, IsRun, run_join, has_either}
use Rattle.cfb_in_place.specs.Change.{grown_bytes, fresh_from, fat_from, end_of}
use Rattle.cfb_in_place.specs.Tables.{ChangesFat, ChangesTables, mini_entry, CanChangeFat}
use Rattle.cfb_in_place.specs.Appended.{HasStart, ChangesDirectory}
use Rattle.cfb_in_place.specs.Save.{LeavesSectors, nothing, mini_sectors, sectors}
use Rattle.cfb_in_place.proofs.PickLemmas.{pick, pick_low, pick_high, place_in, place_has, place_none, place_is}
use Rattle.cfb_in_place.proofs.PickLemmas.{spelled}
use Rattle.cfb_in_place.proofs.Saved.{same_number}
use Rattle.cfb_in_place.proofs.ChainsAgain.{no_sector, streams_apart}
use Rattle.cfb_in_place.proofs.FileAfter.{Before, added_of, before_accepted, sizes_of, entry_old, entry_new}
use Rattle.cfb_in_place.proofs.FileAfter.{entry_after}
use Rattle.cfb_in_place.proofs.FileAfter.{mini_after, fats_after, size_byte, directory_byte, byte_in, file_after}
use Rattle.cfb_in_place.proofs.FileAfter.{sector_at, header_changes}

-- sectors in a row
pub range_run : (start count bound : ℕ) → start + count ≤ bound → IsRun bound (range_with_len start count)
range_run start count bound h =
    let len = length-range_with_len start count in
    record {
      within = λ i low. let at = get_or-range_with_len start count i 0 (omega arith) in omega arith;
      distinct = λ i j less low e.
          let a = get_or-range_with_len start count i 0 (omega arith) in
          let b = get_or-range_with_len start count j 0 (omega arith) in
          omega arith;
    }

-- the sectors of the FAT after
pub fats_run : (b : Before) → IsRun (end_of (added_of b)) (fats_after b)
unfolding fats_after
fats_run b =
    let n = sizes_of b in
    let from = n.from in
    let apart = fat_apart b.old (before_accepted b).fat in
    let old : IsRun (end_of (added_of b)) (fat_sectors b.old) = record {
      within = λ i h. let low = apart.inside i h in omega arith;
      distinct = apart.distinct;
    } in
    run_join (end_of (added_of b)) (fat_sectors b.old) (range_with_len (fat_from (added_of b)) (added_of b).fat) old
    (range_run (fat_from (added_of b)) (added_of b).fat (end_of (added_of b)) (omega arith))
    (λ s has new.
    let r = run_sector (fat_from (added_of b)) (added_of b).fat s new in
    let low = apart.inside has.index has.inside in
    let here = has.here in
    let above = r.0 in
    omega arith)

pub length-fats_after : (b : Before) → length (fats_after b) ≡ fat_sector_count b.old + (added_of b).fat
unfolding fats_after
length-fats_after b =
    let all = length-append (fat_sectors b.old) (range_with_len (fat_from (added_of b)) (added_of b).fat) in
    let old = length-fat_sectors b.old in
    let run = length-range_with_len (fat_from (added_of b)) (added_of b).fat in
    omega arith

-- they are those of the header
fat_sector_new : (b : Before) (k : ℕ) → k < fat_sector_count b.old + (added_of b).fat → fat_sector (file_after b) k ≡
    slice_index (fats_after b) k
unfolding fats_after
fat_sector_new b k h =
    let head = header_changes b in
    let old = length-fat_sectors b.old in
    let nf = fat_sector_count b.old in
    let range = range_with_len (fat_from (added_of b)) (added_of b).fat in
    elim (cases_lt k nf) [
      | inl low ↦
          same_number b.old (file_after b) 48 (28 + 4 * nf) (76 + 4 * k) 4 head.middle (omega arith) (omega arith)
          ∙ (sym (fat_sectors-at b.old k low) ∙ sym (get_or_append_left (fat_sectors b.old) range 0 k (omega arith)))
      | inr high ↦
          let place : nf + (k - nf) ≡ k = omega arith in
          sym (ap (λ i. fat_sector (file_after b) i) place)
          ∙ (head.fat_list (k - nf) (omega arith)
          ∙ (sym (get_or-range_with_len (fat_from (added_of b)) (added_of b).fat (k - nf) 0 (omega arith)) ∙ sym
          (get_or-append_right (fat_sectors b.old) range nf k 0 old high)))
    ]

fats_new : (b : Before) (k : ℕ) → k < fat_sector_count b.old + (added_of b).fat → slice_index (fat_sectors (file_after
    b)) k ≡ slice_index (fats_after b) k
fats_new b k h =
    let count = (header_changes b).fat_count in
    fat_sectors-at (file_after b) k (omega arith) ∙ fat_sector_new b k h

-- 32-bit numbers
pick_below : (a b x y bound : ℕ) → x < bound → y < bound → pick a b x y < bound
pick_below a b x y bound h k = elim (cases_lt a b) [
  | inl low ↦ let e = pick_low a b x y low in omega arith
  | inr high ↦ let e = pick_high a b x y high in omega arith
]

old_below : (b : Before) (at : ℕ) → u32_at b.old at < 2 ^ 32
old_below b at = let h = number_at-bound b.old at 4 b.bytes in omega arith

entry_below : (b : Before) (s : ℕ) → entry_after b s < 2 ^ 32
unfolding entry_after entry_old entry_new
entry_below b s =
    let n = sizes_of b in
    let holds = n.holds in
    let few = n.few in
    let old : (fat_table b.old).entry s < 2 ^ 32 = old_below b _ in
    let chain = chains_below (added_of b).from ((added_of b).grown ∷ ((added_of b).fresh ∷ [])) (s - (added_of b).from)
    (omega arith) in
    pick_below s (added_of b).from _ _ (2 ^ 32)
    (pick_below _ _ _ _ (2 ^ 32) (omega arith) (pick_below _ _ _ _ (2 ^ 32) (pick_below _ _ _ _ (2 ^ 32) old
    (pick_below _ _ _ _ (2 ^ 32) old (omega arith))) old))
    (pick_below _ _ _ _ (2 ^ 32) chain (pick_below _ _ _ _ (2 ^ 32) (omega arith) (omega arith)))

mini_below : (b : Before) (s : ℕ) → mini_after b s < 2 ^ 32
unfolding mini_after
mini_below b s = pick_below _ _ _ _ (2 ^ 32) (omega arith) (old_below b _)

-- an entry of the FAT after
pub fat_byte : (b : Before) (s i : ℕ) → s < 128 * (fat_sector_count b.old + (added_of b).fat) → i < 4 → byte_in b
    (slice_index (fats_after b) (s / 128)) (4 * (s % 128) + i) ≡ slice_index (number_bytes 4 (entry_after b s)) i
unfolding byte_in
fat_byte b s i h low =
    let x = slice_index (fats_after b) (s / 128) in
    let o = 4 * (s % 128) + i in
    let len = length-fats_after b in
    let place = place_is (fats_after b) (s / 128) (fats_run b).distinct (omega arith) in
    let number : 128 * place_in (fats_after b) x + o / 4 ≡ s = omega arith in
    let rest : o % 4 ≡ i = omega arith in
    pick_low (place_in (fats_after b) x) (length (fats_after b)) _ _ (omega arith)
    ∙ (ap (λ k. slice_index (number_bytes 4 (entry_after b k)) (o % 4)) number ∙ ap (λ k. slice_index (number_bytes 4
    (entry_after b s)) k) rest)

fat_entry : (b : Before) (s : ℕ) → s < 128 * (fat_sector_count b.old + (added_of b).fat) → (fat_table (file_after
    b)).entry s ≡ entry_after b s
fat_entry b s h =
    let len = length-fats_after b in
    let x = slice_index (fats_after b) (s / 128) in
    let low = (fats_run b).within (s / 128) (omega arith) in
    let same = fats_new b (s / 128) (omega arith) in
    let place : table_place (λ k. slice_index (fat_sectors (file_after b)) k) s ≡ (x + 1) * 512 + 4 * (s % 128) =
    omega arith in
    ap (λ k. u32_at (file_after b) k) place
    ∙ spelled (file_after b) ((x + 1) * 512 + 4 * (s % 128)) (entry_after b s) (entry_below b s) (λ i h2. sector_at b x
    (4 * (s % 128) + i) ((x + 1) * 512 + 4 * (s % 128) + i) (omega arith) (omega arith) (omega arith) ∙ fat_byte b s i
    h h2)

-- whose the changed sectors are
pub owns_grown : (b : Before) (x : ℕ) → HasSector b.chains.grown x → Owns b.old b.has.parts (of_stream
    b.chains.grown_entry) x
owns_grown b x has = record {
  is_large = b.are.grown.is_large;
  sectors = b.chains.grown;
  holds = b.are.grown.holds;
  has = has;
}

record IsFreed (b : Before) (x : ℕ) : Type 0 where
  own : Owns b.old b.has.parts (of_stream b.chains.table_entry) x
  low : x < valid_below b.old

freed_of : (b : Before) (x : ℕ) → LeavesSectors b.old b.has.parts b.chains → HasSector b.chains.freed x → IsFreed b x
freed_of b x (nothing empty none minis) has = absurd (no_sector b.chains.freed x none has)
freed_of b x (mini_sectors small holds none) has = absurd (no_sector b.chains.freed x none has)
freed_of b x (sectors large holds none) has = record {
  own = record { is_large = large; sectors = b.chains.freed; holds = holds; has = has };
  low = let low = holds.chain.path.within has.index has.inside in let here = has.here in omega arith;
}

last_grown : (b : Before) → HasSector b.chains.grown (last_of b.chains.grown)
last_grown b =
    let some = b.are.grown.holds.chain.path.some in record
    { index = length b.chains.grown - 1; inside = omega arith; here = refl }

last_low : (b : Before) → last_of b.chains.grown < (added_of b).from
last_low b =
    let some = b.are.grown.holds.chain.path.some in
    let low = b.are.grown.holds.chain.path.within (length b.chains.grown - 1) (omega arith) in
    let from = (sizes_of b).from in omega arith

last_not_freed : (b : Before) → ¬ HasSector b.chains.freed (last_of b.chains.grown)
last_not_freed b free = owners_apart b.old b.has.parts (of_stream b.chains.grown_entry) (of_stream
    b.chains.table_entry) (last_of b.chains.grown) (before_accepted b) (streams_apart b.chains.grown_entry
    b.chains.table_entry b.are.apart) (owns_grown b (last_of b.chains.grown) (last_grown b)) (freed_of b (last_of
    b.chains.grown) b.are.leaves free).own

entry_kept : (b : Before) (s : ℕ) → s < (added_of b).from → (0 < (added_of b).grown → s ≢ last_of b.chains.grown) →
    ¬ HasSector b.chains.freed s → entry_after b s ≡ (fat_table b.old).entry s
unfolding entry_after entry_old
entry_kept b s low other quiet =
    let freed = place_none b.chains.freed s quiet in
    pick_low s (added_of b).from _ _ low
    ∙ (pick_high (place_in b.chains.freed s) (length b.chains.freed) _ _ freed
    ∙ elim (cases_lt 0 (added_of b).grown) [
      | inl some ↦
          pick_low 0 (added_of b).grown _ _ some
          ∙ elim (cases_order s (last_of b.chains.grown)) [
            | inl e ↦ absurd (other some e)
            | inr apart ↦ elim apart [
              | inl less ↦ pick_low s (last_of b.chains.grown) _ _ less
              | inr more ↦ pick_high s (last_of b.chains.grown) _ _ (omega arith) ∙ pick_low (last_of b.chains.grown) s
                  _ _ more
            ]
          ]
      | inr none ↦ pick_high 0 (added_of b).grown _ _ none
    ])

entry_free : (b : Before) (s : ℕ) → HasSector b.chains.freed s → entry_after b s ≡ free_sector
unfolding entry_after entry_old
entry_free b s has =
    let free = (freed_of b s b.are.leaves has).low in
    let from = (sizes_of b).from in
    pick_low s (added_of b).from _ _ (omega arith) ∙ pick_low (place_in b.chains.freed s) (length b.chains.freed) _ _
    (place_has b.chains.freed s has.index has.inside has.here)

entry_joined : (b : Before) → 0 < (added_of b).grown → entry_after b (last_of b.chains.grown) ≡ (added_of b).from
unfolding entry_after entry_old
entry_joined b some =
    let last = last_of b.chains.grown in
    pick_low last (added_of b).from _ _ (last_low b)
    ∙ (pick_high (place_in b.chains.freed last) (length b.chains.freed) _ _ (place_none b.chains.freed last
    (last_not_freed b))
    ∙ (pick_low 0 (added_of b).grown _ _ some ∙ (pick_high last last _ _ (omega arith) ∙ pick_high last last _ _
    (omega arith))))

entry_added : (b : Before) (s t : ℕ) → s < (added_of b).grown + (added_of b).fresh → t ≡ (added_of b).from + s →
    entry_after b t ≡ slice_index (chains_from (added_of b).from ((added_of b).grown ∷ ((added_of b).fresh ∷ []))) s
unfolding entry_after entry_new
entry_added b s t h is =
    let place : t - (added_of b).from ≡ s = omega arith in
    pick_high t (added_of b).from _ _ (omega arith)
    ∙ (pick_low t (fat_from (added_of b)) _ _ (omega arith) ∙ ap (λ k. slice_index (chains_from (added_of b).from
    ((added_of b).grown ∷ ((added_of b).fresh ∷ []))) k) place)

entry_mark : (b : Before) (s : ℕ) → fat_from (added_of b) ≤ s → s < end_of (added_of b) → entry_after b s ≡
    fat_sector_mark
unfolding entry_after entry_new
entry_mark b s from h = pick_high s (added_of b).from _ _ (omega arith) ∙ (pick_high s (fat_from (added_of b)) _ _ from
    ∙ pick_low s (end_of (added_of b)) _ _ h)

entry_unused : (b : Before) (s : ℕ) → end_of (added_of b) ≤ s → entry_after b s ≡ free_sector
unfolding entry_after entry_new
entry_unused b s from = pick_high s (added_of b).from _ _ (omega arith) ∙ (pick_high s (fat_from (added_of b)) _ _
    (omega arith) ∙ pick_high s (end_of (added_of b)) _ _ from)

pub entries_change : (b : Before) (covered : ℕ) → ChangesFat (fat_table b.old).entry (entry_after b) b.chains (added_of
    b) covered
entries_change b covered = record {
  kept = entry_kept b;
  free = entry_free b;
  joined = entry_joined b;
  chained = entry_added b;
  marks = entry_mark b;
  unused = λ s from h. entry_unused b s from;
}

-- the entries that are there can be changed
pub can_change : (b : Before) (entries : List ℕ) → length entries ≡ 128 * fat_sector_count b.old → CanChangeFat entries
    b.chains (added_of b) (128 * (fat_sector_count b.old + (added_of b).fat))
can_change b entries len =
    let from = (sizes_of b).from in
    record {
      some = b.are.grown.holds.chain.path.some;
      last = last_low b;
      freed = λ s has. let low = (freed_of b s b.are.leaves has).low in omega arith;
      apart = last_not_freed b;
      from = omega arith;
      holds = (sizes_of b).holds;
    }

fat_changes : (b : Before) → ChangesFat (fat_table b.old).entry (fat_table (file_after b)).entry b.chains (added_of b)
    (128 * fat_sector_count (file_after b))
fat_changes b =
    let n = sizes_of b in
    let from = n.from in
    let holds = n.holds in
    let count = (header_changes b).fat_count in
    record {
      kept = λ s low other quiet. fat_entry b s (omega arith) ∙ entry_kept b s low other quiet;
      free = λ s has. let low = (freed_of b s b.are.leaves has).low in fat_entry b s (omega arith) ∙ entry_free b s has;
      joined = λ some. let low = last_low b in fat_entry b (last_of b.chains.grown) (omega arith) ∙ entry_joined b some;
      chained = λ s t h is. fat_entry b t (omega arith) ∙ entry_added b s t h is;
      marks = λ s low h. fat_entry b s (omega arith) ∙ entry_mark b s low h;
      unused = λ s low h. fat_entry b s (omega arith) ∙ entry_unused b s low;
    }

-- an old sector of another owner is none of the FAT's
pub not_fat : (b : Before) (owner : Owner) (x : ℕ) → owner ≢ of_fat → Owns b.old b.has.parts owner x → x <
    (added_of b).from → length (fats_after b) ≤ place_in (fats_after b) x
unfolding fats_after
not_fat b owner x other own low = place_none (fats_after b) x (λ has.
    elim (has_either (fat_sectors b.old) (range_with_len (fat_from (added_of b)) (added_of b).fat) x has) [
      | inl old ↦ owners_apart b.old b.has.parts owner of_fat x (before_accepted b) other own old
      | inr new ↦ let r = run_sector (fat_from (added_of b)) (added_of b).fat x new in let above = r.0 in omega arith
    ])

-- the mini FAT
pub mini_low : (b : Before) (k : ℕ) → k < length b.has.parts.mini_fat → slice_index b.has.parts.mini_fat k <
    (added_of b).from
mini_low b k h = let low = (mini_fat_apart b.old b.has.parts.mini_fat b.has.mini_fat).inside k h in let from =
    (sizes_of b).from in omega arith

pub mini_byte : (b : Before) (s i : ℕ) → s < 128 * length b.has.parts.mini_fat → i < 4 → byte_in b (slice_index
    b.has.parts.mini_fat (s / 128)) (4 * (s % 128) + i) ≡ slice_index (number_bytes 4 (mini_after b s)) i
unfolding byte_in
mini_byte b s i h low =
    let mini_fat = b.has.parts.mini_fat in
    let x = slice_index mini_fat (s / 128) in
    let o = 4 * (s % 128) + i in
    let inside = mini_low b (s / 128) (omega arith) in
    let place = place_is mini_fat (s / 128) (mini_fat_apart b.old mini_fat b.has.mini_fat).distinct (omega arith) in
    let number : 128 * place_in mini_fat x + o / 4 ≡ s = omega arith in
    let rest : o % 4 ≡ i = omega arith in
    pick_high (place_in (fats_after b) x) (length (fats_after b)) _ _ (not_fat b of_mini_fat x (λ e. cc)
    (record { index = s / 128; inside = omega arith; here = refl }) inside)
    ∙ (pick_low (place_in mini_fat x) (length mini_fat) _ _ (omega arith)
    ∙ (ap (λ k. slice_index (number_bytes 4 (mini_after b k)) (o % 4)) number ∙ ap (λ k. slice_index (number_bytes 4
    (mini_after b s)) k) rest))

mini_entry_is : (b : Before) (s : ℕ) → s < 128 * length b.has.parts.mini_fat → mini_entry (file_after b)
    b.has.parts.mini_fat s ≡ mini_after b s
mini_entry_is b s h =
    let x = slice_index b.has.parts.mini_fat (s / 128) in
    let low = mini_low b (s / 128) (omega arith) in
    spelled (file_after b) ((x + 1) * 512 + 4 * (s % 128)) (mini_after b s) (mini_below b s) (λ i h2. sector_at b x
    (4 * (s % 128) + i) ((x + 1) * 512 + 4 * (s % 128) + i) (omega arith) (omega arith) (omega arith) ∙ mini_byte b s i
    h h2)

pub freed_mini_low : (b : Before) (x : ℕ) → LeavesSectors b.old b.has.parts b.chains → HasSector b.chains.freed_mini x
    → x <
    128 * length b.has.parts.mini_fat
freed_mini_low b x (nothing empty none minis) has = absurd (no_sector b.chains.freed_mini x minis has)
freed_mini_low b x (mini_sectors small holds none) has =
    let low = holds.chain.path.within has.index has.inside in let here = has.here in omega arith
freed_mini_low b x (sectors large holds none) has = absurd (no_sector b.chains.freed_mini x none has)

pub mini_free : (b : Before) (s : ℕ) → HasSector b.chains.freed_mini s → mini_after b s ≡ free_sector
unfolding mini_after
mini_free b s has = pick_low (place_in b.chains.freed_mini s) (length b.chains.freed_mini) _ _ (place_has
    b.chains.freed_mini s has.index has.inside has.here)

pub mini_kept : (b : Before) (s : ℕ) → ¬ HasSector b.chains.freed_mini s → mini_after b s ≡ mini_entry b.old
    b.has.parts.mini_fat s
unfolding mini_after
mini_kept b s none = pick_high (place_in b.chains.freed_mini s) (length b.chains.freed_mini) _ _ (place_none
    b.chains.freed_mini s none)

pub tables_change : (b : Before) → ChangesTables b.old (file_after b) b.has.parts.mini_fat b.chains (added_of b)
tables_change b = record {
  fat = fat_changes b;
  free_mini = λ s has. mini_entry_is b s (freed_mini_low b s b.are.leaves has) ∙ mini_free b s has;
  kept_mini = λ s h none. mini_entry_is b s h ∙ mini_kept b s none;
}

-- the directory
pub directory_low : (b : Before) (k : ℕ) → k < length b.has.parts.directory → slice_index b.has.parts.directory k <
    (added_of b).from
directory_low b k h = let low = b.has.directory.holds.chain.path.within k h in let from = (sizes_of b).from in omega
    arith

-- an old sector of another owner is none of the mini FAT's, and none of the directory's
pub not_mini_fat : (b : Before) (owner : Owner) (x : ℕ) → owner ≢ of_mini_fat → Owns b.old b.has.parts owner x → length
    b.has.parts.mini_fat ≤ place_in b.has.parts.mini_fat x
not_mini_fat b owner x other own = place_none b.has.parts.mini_fat x (λ has. owners_apart b.old b.has.parts owner
    of_mini_fat x (before_accepted b) other own has)

pub not_directory : (b : Before) (owner : Owner) (x : ℕ) → owner ≢ of_directory → Owns b.old b.has.parts owner x →
    length b.has.parts.directory ≤ place_in b.has.parts.directory x
not_directory b owner x other own = place_none b.has.parts.directory x (λ has. owners_apart b.old b.has.parts owner
    of_directory x (before_accepted b) other own has)

pub entry_byte : (b : Before) (k o : ℕ) → k < entry_count b.has.parts.directory → o < 128 → byte_in b (slice_index
    b.has.parts.directory (k / 4)) (128 * (k % 4) + o) ≡ directory_byte b k o (slice_index b.old (entry_place
    b.has.parts.directory k + o))
unfolding byte_in
entry_byte b k o h low =
    let directory = b.has.parts.directory in
    let x = slice_index directory (k / 4) in
    let at = 128 * (k % 4) + o in
    let inside = directory_low b (k / 4) (omega arith) in
    let own : HasSector directory x = record { index = k / 4; inside = omega arith; here = refl } in
    let place = place_is directory (k / 4) b.has.directory.holds.chain.path.distinct (omega arith) in
    let number : 4 * place_in directory x + at / 128 ≡ k = omega arith in
    let rest : at % 128 ≡ o = omega arith in
    let there : (x + 1) * 512 + at ≡ entry_place directory k + o = omega arith in
    let old = slice_index b.old ((x + 1) * 512 + at) in
    pick_high (place_in (fats_after b) x) (length (fats_after b)) _ _ (not_fat b of_directory x (λ e. cc) own inside)
    ∙ (pick_high (place_in b.has.parts.mini_fat x) (length b.has.parts.mini_fat) _ _ (not_mini_fat b of_directory x
    (λ e. cc) own)
    ∙ (pick_low (place_in directory x) (length directory) _ _ (omega arith)
    ∙ (ap (λ n. directory_byte b n (at % 128) old) number
    ∙ (ap (λ n. directory_byte b k n old) rest ∙ ap (λ n. directory_byte b k o (slice_index b.old n)) there))))

entry_at : (b : Before) (k o : ℕ) → k < entry_count b.has.parts.directory → o < 128 → slice_index (file_after b)
    (entry_place b.has.parts.directory k + o) ≡ directory_byte b k o (slice_index b.old (entry_place
    b.has.parts.directory k + o))
entry_at b k o h low =
    let x = slice_index b.has.parts.directory (k / 4) in
    let inside = directory_low b (k / 4) (omega arith) in
    let from = (sizes_of b).from in
    sector_at b x (128 * (k % 4) + o) (entry_place b.has.parts.directory k + o) (omega arith) (omega arith)
    (omega arith) ∙ entry_byte b k o h low

pub byte_front : (b : Before) (k o old : ℕ) → o < 116 → directory_byte b k o old ≡ old
unfolding directory_byte
byte_front b k o old h = pick_low o 116 _ _ h

-- a test for a number that is another one
pick_other : (a b x y : ℕ) → a ≢ b → pick a b x (pick b a x y) ≡ x
pick_other a b x y ne = elim (cases_order a b) [
  | inl e ↦ absurd (ne e)
  | inr apart ↦ elim apart [
    | inl less ↦ pick_low a b x _ less
    | inr more ↦ pick_high a b x _ (omega arith) ∙ pick_low b a x y more
  ]
]

pick_same : (a b x y : ℕ) → a ≡ b → pick a b x (pick b a x y) ≡ y
pick_same a b x y e = pick_high a b x _ (omega arith) ∙ pick_high b a x y (omega arith)

pub byte_other : (b : Before) (k o old : ℕ) → k ≢ b.chains.grown_entry → k ≢ b.chains.table_entry → directory_byte b k o
    old ≡ old
unfolding directory_byte
byte_other b k o old one another = elim (cases_lt o 116) [
  | inl low ↦ pick_low o 116 _ _ low
  | inr high ↦ pick_high o 116 _ _ high ∙ (pick_other k b.chains.grown_entry _ _ one ∙ pick_other k
      b.chains.table_entry _ _ another)
]

pub byte_grown : (b : Before) (o old : ℕ) → 116 ≤ o → directory_byte b b.chains.grown_entry o old ≡ pick o 120 old
    (size_byte (length (grown_bytes b.change b.chains.bytes)) o)
unfolding directory_byte
byte_grown b o old h = pick_high o 116 _ _ h ∙ pick_same b.chains.grown_entry b.chains.grown_entry _ _ refl

pub byte_table : (b : Before) (o old : ℕ) → 116 ≤ o → directory_byte b b.chains.table_entry o old ≡ pick o 120
    (slice_index (number_bytes 4 (fresh_from (added_of b))) (o - 116)) (size_byte (length b.change.table) o)
unfolding directory_byte
byte_table b o old h = pick_high o 116 _ _ h ∙ (pick_other b.chains.table_entry b.chains.grown_entry _ _
    (λ e. b.are.apart (sym e)) ∙ pick_same b.chains.table_entry b.chains.table_entry _ _ refl)

pub size_low : (size i : ℕ) → i < 4 → size_byte size (120 + i) ≡ slice_index (number_bytes 4 size) i
unfolding size_byte
size_low size i h = let place : 120 + i - 120 ≡ i = omega arith in pick_low (120 + i) 124 _ _ (omega arith) ∙ ap (λ k.
    slice_index (number_bytes 4 size) k) place

pub size_high : (size i : ℕ) → i < 4 → size_byte size (124 + i) ≡ slice_index (number_bytes 4 0) i
unfolding size_byte
size_high size i h = let place : 124 + i - 124 ≡ i = omega arith in pick_high (124 + i) 124 _ _ (omega arith) ∙ ap (λ k.
    slice_index (number_bytes 4 0) k) place

-- the start and the size of an entry whose last bytes are these
pub grown_inside : (b : Before) → b.chains.grown_entry < entry_count b.has.parts.directory
grown_inside b = (reached_there b.old b.has.parts.directory b.are.grown.is_large.is_entry.reached).1

table_inside : (b : Before) → b.chains.table_entry < entry_count b.has.parts.directory
table_inside b = (reached_there b.old b.has.parts.directory b.are.table.reached).1

grown_start : (b : Before) → HasStart (file_after b) (entry_place b.has.parts.directory b.chains.grown_entry)
    (entry_start b.old (entry_place b.has.parts.directory b.chains.grown_entry)) (length (grown_bytes b.change
    b.chains.bytes))
grown_start b =
    let k = b.chains.grown_entry in
    let at = entry_place b.has.parts.directory k in
    let size = length (grown_bytes b.change b.chains.bytes) in
    let inside = grown_inside b in
    let short = b.put.grown_short in
    let byte : (o x : ℕ) → 116 ≤ o → o < 128 → x ≡ at + o → slice_index (file_after b) x ≡ pick o 120 (slice_index
    b.old (at + o)) (size_byte size o) = λ o x from h is. ap (λ n. slice_index (file_after b) n) is ∙ (entry_at b k o
    inside h ∙ byte_grown b o (slice_index b.old (at + o)) from) in
    record {
      start_is = number_at-same (file_after b) b.old (at + 116) (at + 116) 4 (λ i h.
          let place : at + (116 + i) ≡ at + 116 + i = omega arith in
          byte (116 + i) (at + 116 + i) (omega arith) (omega arith) (omega arith) ∙ (pick_low (116 + i) 120 _ _
          (omega arith) ∙ ap (λ n. slice_index b.old n) place));
      size_is = spelled (file_after b) (at + 120) size (omega arith) (λ i h. byte (120 + i) (at + 120 + i) (omega arith)
          (omega arith) (omega arith) ∙ (pick_high (120 + i) 120 _ _ (omega arith) ∙ size_low size i h));
      upper = spelled (file_after b) (at + 124) 0 (omega arith) (λ i h. byte (124 + i) (at + 124 + i) (omega arith)
          (omega arith) (omega arith) ∙ (pick_high (124 + i) 120 _ _ (omega arith) ∙ size_high size i h));
    }

table_start : (b : Before) → HasStart (file_after b) (entry_place b.has.parts.directory b.chains.table_entry)
    (fresh_from (added_of b)) (length b.change.table)
table_start b =
    let k = b.chains.table_entry in
    let at = entry_place b.has.parts.directory k in
    let size = length b.change.table in
    let start = fresh_from (added_of b) in
    let inside = table_inside b in
    let short = b.put.table_short in
    let n = sizes_of b in
    let holds = n.holds in
    let few = n.few in
    let byte : (o x : ℕ) → 116 ≤ o → o < 128 → x ≡ at + o → slice_index (file_after b) x ≡ pick o 120 (slice_index
    (number_bytes 4 start) (o - 116)) (size_byte size o) = λ o x from h is. ap (λ n. slice_index (file_after b) n) is ∙
    (entry_at b k o inside h ∙ byte_table b o (slice_index b.old (at + o)) from) in
    record {
      start_is = spelled (file_after b) (at + 116) start (omega arith) (λ i h.
          let place : 116 + i - 116 ≡ i = omega arith in
          byte (116 + i) (at + 116 + i) (omega arith) (omega arith) (omega arith) ∙ (pick_low (116 + i) 120 _ _
          (omega arith) ∙ ap (λ n. slice_index (number_bytes 4 start) n) place));
      size_is = spelled (file_after b) (at + 120) size (omega arith) (λ i h. byte (120 + i) (at + 120 + i) (omega arith)
          (omega arith) (omega arith) ∙ (pick_high (120 + i) 120 _ _ (omega arith) ∙ size_low size i h));
      upper = spelled (file_after b) (at + 124) 0 (omega arith) (λ i h. byte (124 + i) (at + 124 + i) (omega arith)
          (omega arith) (omega arith) ∙ (pick_high (124 + i) 120 _ _ (omega arith) ∙ size_high size i h));
    }

pub directory_changes : (b : Before) → ChangesDirectory b.old (file_after b) b.has.parts.directory b.chains (added_of b)
    b.change
directory_changes b = record {
  grown = grown_start b;
  table = table_start b;
  front = λ k h i low. entry_at b k i h (omega arith) ∙ byte_front b k i (slice_index b.old (entry_place
      b.has.parts.directory k + i)) low;
  others = λ k h one another i low. entry_at b k i h low ∙ byte_other b k i (slice_index b.old (entry_place
      b.has.parts.directory k + i)) one another;
}
