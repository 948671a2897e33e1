-- The sectors of the file after a save, as it is made byte by byte.
use Rattle.std.proofs.Common.{◌≡◌, inl, inr, ℕ, ◌+◌, ◌-◌, ◌*◌, ◌/◌, ◌%◌, ◌^◌, ◌<◌, ◌≤◌, List, ◌++◌, length, drop}
use Rattle.std.proofs.Common.{slice_index, refl, sym, ap, ◌∙◌, arith, length-append, length-drop}
use Rattle.std.specs.List.{range_with_len}
use Rattle.std.proofs.lemmas.Bool.{cases_lt}
use Rattle.std.proofs.lemmas.List.{ext_get_or, get_or_append_left, get_or-append_right}
use Rattle.std.proofs.lemmas.List.FromFn.{length-range_with_len, get_or-range_with_len}
use Rattle.doc_bits.specs.Number.{zeros, AreBytes}
use Rattle.doc_bits.specs.Rules.{Hold}
use Rattle.doc_bits.proofs.Public.{length_below, length-zeros}
use Rattle.cfb_sectors.specs.Header.{sector_bytes, fat_sectors}
use Rattle.cfb_sectors.specs.SectorChain.{HasSector}
use Rattle.cfb_sectors.specs.Chain.{AreSectorsOf}
use Rattle.cfb_sectors.proofs.Public.{fat_apart, length-sector, length_all}
use Rattle.cfb_directory.specs.Reach.{entry_place}
use Rattle.cfb_directory.specs.StreamEntries.{stream_head}
use Rattle.cfb_streams.specs.StreamRules.{of_stream}
use Rattle.cfb_streams.specs.Contents.{Contents}
use Rattle.cfb_streams.specs.Container.{container_rules, HasContents}
use Rattle.cfb_streams.proofs.Public.{chain_inside}
use Rattle.cfb_layout.specs.Sectors.{padded_to_unit}
use Rattle.cfb_layout.proofs.Public.{length-padded, run_sector, IsRun, run_join, has_either}
use Rattle.cfb_in_place.specs.Change.{StreamChange, OldChains, grown_bytes, added_sectors, fresh_from, fat_from}
use Rattle.cfb_in_place.specs.Change.{sectors_after}
use Rattle.cfb_in_place.specs.Appended.{joined, chain_after, IsTouched, in_grown, in_fat, in_mini_fat}
use Rattle.cfb_in_place.specs.Appended.{in_directory, in_added, ChangesSectors, IsSavedBehind}
use Rattle.cfb_in_place.specs.Save.{AreOldChains, CanBePut, FitsAfter, IsSave}
use Rattle.cfb_in_place.specs.InPlace.{byte_place}
use Rattle.cfb_in_place.proofs.PickLemmas.{pick_low, pick_high, place_in, place_none, place_is}
use Rattle.cfb_in_place.proofs.PlaceLemmas.{joined_at}
use Rattle.cfb_in_place.proofs.FileAfter.{Before, added_of, before_accepted, sizes_of, fats_after, grown_joined}
use Rattle.cfb_in_place.proofs.FileAfter.{byte_in}
use Rattle.cfb_in_place.proofs.FileAfter.{file_after, length-file_after, sector_at, header_changes}
use Rattle.cfb_in_place.proofs.TablesThere.{range_run, owns_grown, not_fat, not_mini_fat, not_directory, tables_change}
use Rattle.cfb_in_place.proofs.TablesThere.{directory_changes, mini_low, directory_low}

-- the sectors of the stream that grows
pub chain_run_after : (b : Before) → IsRun (fresh_from (added_of b)) (chain_after b.chains (added_of b))
chain_run_after b =
    let from = (sizes_of b).from in
    let path = b.are.grown.holds.chain.path in
    let old : IsRun (fresh_from (added_of b)) b.chains.grown = record {
      within = λ i h. let low = path.within i h in omega arith;
      distinct = path.distinct;
    } in
    run_join (fresh_from (added_of b)) b.chains.grown (range_with_len (added_of b).from (added_of b).grown) old
    (range_run (added_of b).from (added_of b).grown (fresh_from (added_of b)) (omega arith))
    (λ s has new.
    let r = run_sector (added_of b).from (added_of b).grown s new in
    let low = path.within has.index has.inside in
    let here = has.here in
    let above = r.0 in
    omega arith)

-- an added sector that is none of the FAT's is in none of the other lists
added_not_fat : (b : Before) (x : ℕ) → (added_of b).from ≤ x → x < fat_from (added_of b) → length (fats_after b) ≤
    place_in (fats_after b) x
unfolding fats_after
added_not_fat b x from h =
    let first = (sizes_of b).from in
    place_none (fats_after b) x (λ has. elim (has_either (fat_sectors b.old) (range_with_len (fat_from (added_of b))
    (added_of b).fat) x has) [
      | inl old ↦
          let low = (fat_apart b.old (before_accepted b).fat).inside old.index old.inside in
          let here = old.here in omega arith
      | inr new ↦ let r = run_sector (fat_from (added_of b)) (added_of b).fat x new in let above = r.0 in omega arith
    ])

added_not_mini : (b : Before) (x : ℕ) → (added_of b).from ≤ x → length b.has.parts.mini_fat ≤ place_in
    b.has.parts.mini_fat x
added_not_mini b x from = place_none b.has.parts.mini_fat x (λ has. let low = mini_low b has.index has.inside in let
    here = has.here in omega arith)

added_not_directory : (b : Before) (x : ℕ) → (added_of b).from ≤ x → length b.has.parts.directory ≤ place_in
    b.has.parts.directory x
added_not_directory b x from = place_none b.has.parts.directory x (λ has. let low = directory_low b has.index has.inside
    in let here = has.here in omega arith)

-- a sector of the stream that grows is none of the tables'
record IsApart (b : Before) (x : ℕ) : Type 0 where
  fats : length (fats_after b) ≤ place_in (fats_after b) x
  minis : length b.has.parts.mini_fat ≤ place_in b.has.parts.mini_fat x
  entries : length b.has.parts.directory ≤ place_in b.has.parts.directory x

added_apart : (b : Before) (x : ℕ) → (added_of b).from ≤ x → x < fat_from (added_of b) → IsApart b x
added_apart b x from h = record {
  fats = added_not_fat b x from h;
  minis = added_not_mini b x from;
  entries = added_not_directory b x from;
}

chain_apart_of : (b : Before) (k : ℕ) → k < length (chain_after b.chains (added_of b)) → IsApart b (slice_index
    (chain_after b.chains (added_of b)) k)
chain_apart_of b k h =
    let range = range_with_len (added_of b).from (added_of b).grown in
    let all = length-append b.chains.grown range in
    let len = length-range_with_len (added_of b).from (added_of b).grown in
    let x = slice_index (chain_after b.chains (added_of b)) k in
    elim (cases_lt k (length b.chains.grown)) [
      | inl low ↦
          let here = get_or_append_left b.chains.grown range 0 k low in
          let has : HasSector b.chains.grown x = record { index = k; inside = low; here = sym here } in
          let own = owns_grown b x has in
          let valid = b.are.grown.holds.chain.path.within k low in
          let from = (sizes_of b).from in
          let owner = of_stream b.chains.grown_entry in
          record {
            fats = not_fat b owner x (λ e. cc) own (omega arith);
            minis = not_mini_fat b owner x (λ e. cc) own;
            entries = not_directory b owner x (λ e. cc) own;
          }
      | inr high ↦
          let here = get_or-append_right b.chains.grown range (length b.chains.grown) k 0 refl high in
          let at = get_or-range_with_len (added_of b).from (added_of b).grown (k - length b.chains.grown) 0
          (omega arith) in
          added_apart b x (omega arith) (omega arith)
    ]

pub grown_byte : (b : Before) (k o : ℕ) → k < length (chain_after b.chains (added_of b)) → byte_in b (slice_index
    (chain_after b.chains (added_of b)) k) o ≡ slice_index (grown_joined b) (512 * k + o)
unfolding byte_in
grown_byte b k o h =
    let chain = chain_after b.chains (added_of b) in
    let x = slice_index chain k in
    let apart = chain_apart_of b k h in
    let place = place_is chain k (chain_run_after b).distinct h in
    let at : 512 * place_in chain x + o ≡ 512 * k + o = omega arith in
    pick_high (place_in (fats_after b) x) (length (fats_after b)) _ _ apart.fats
    ∙ (pick_high (place_in b.has.parts.mini_fat x) (length b.has.parts.mini_fat) _ _ apart.minis
    ∙ (pick_high (place_in b.has.parts.directory x) (length b.has.parts.directory) _ _ apart.entries
    ∙ (pick_low (place_in chain x) (length chain) _ _ (omega arith) ∙ ap (λ n. slice_index (grown_joined b) n) at)))

-- sectors below the end are in the file
inside_of : (b : Before) (xs : List ℕ) → length xs < 2 ^ 24 → ((i : ℕ) → i < length xs → slice_index xs i <
    sectors_after b.old (added_of b)) → AreSectorsOf (file_after b) xs
inside_of b xs few low =
    let len = length-file_after b in
    let fits = b.fits in
    record { short = omega arith; few = few; inside = λ i h. let below = low i h in omega arith }

pub length_joined : (file xs : List ℕ) → AreSectorsOf file xs → length (joined file xs) ≡ length xs * 512
length_joined file xs are = length_all (sector_bytes 512 512 file) 512 xs (λ k h. let room = are.inside k h in
    length-sector 512 512 file (slice_index xs k) (omega arith))

-- joined sectors by their bytes
joined_is : (b : Before) (xs ys : List ℕ) → AreSectorsOf (file_after b) xs → length ys ≡ length xs * 512 → ((i : ℕ) → i
    < length xs → slice_index xs i < sectors_after b.old (added_of b)) → ((k o : ℕ) → k < length xs → o < 512 → byte_in
    b (slice_index xs k) o ≡ slice_index ys (512 * k + o)) → joined (file_after b) xs ≡ ys
joined_is b xs ys are len low each =
    let all = length_joined (file_after b) xs are in
    ext_get_or 0 (joined (file_after b) xs) ys (omega arith) (λ x h.
    let place : 512 * (x / 512) + x % 512 ≡ x = omega arith in
    joined_at (file_after b) xs x are (omega arith)
    ∙ (sector_at b (slice_index xs (x / 512)) (x % 512) (byte_place xs x) (low (x / 512) (omega arith)) (omega arith)
    refl
    ∙ (each (x / 512) (x % 512) (omega arith) (omega arith) ∙ ap (λ n. slice_index ys n) place)))

pub length_grown_joined : (b : Before) → length (grown_joined b) ≡ length (chain_after b.chains (added_of b)) * 512
unfolding grown_joined
length_grown_joined b =
    let bytes = grown_bytes b.change b.chains.bytes in
    let old = joined b.old b.chains.grown in
    let more = zeros (512 * (added_of b).grown) in
    let grown = (sizes_of b).grown in
    let a = length-append bytes (drop (length bytes) (old ++ more)) in
    let c = length-drop (length bytes) (old ++ more) in
    let d = length-append old more in
    let e = length-zeros (512 * (added_of b).grown) in
    let f = length_joined b.old b.chains.grown (chain_inside b.old (stream_head b.old 512 (entry_place
    b.has.parts.directory b.chains.grown_entry)) b.chains.grown (before_accepted b).whole b.are.grown.holds) in
    let g = length-append b.chains.grown (range_with_len (added_of b).from (added_of b).grown) in
    let h = length-range_with_len (added_of b).from (added_of b).grown in
    omega arith

grown_is : (b : Before) → joined (file_after b) (chain_after b.chains (added_of b)) ≡ grown_joined b
grown_is b =
    let chain = chain_after b.chains (added_of b) in
    let run = chain_run_after b in
    let short = length_below chain (fresh_from (added_of b)) run.within run.distinct in
    let fits = b.fits in
    let low : (i : ℕ) → i < length chain → slice_index chain i < sectors_after b.old (added_of b) = λ i h. let w =
    run.within i h in omega arith in
    joined_is b chain (grown_joined b) (inside_of b chain (omega arith) low) (length_grown_joined b) low
    (λ k o h less. grown_byte b k o h)

-- the stream that is written anew
fresh_not_grown : (b : Before) (x : ℕ) → fresh_from (added_of b) ≤ x → length (chain_after b.chains (added_of b)) ≤
    place_in (chain_after b.chains (added_of b)) x
fresh_not_grown b x from = place_none (chain_after b.chains (added_of b)) x (λ has. let low = (chain_run_after b).within
    has.index has.inside in let here = has.here in omega arith)

pub fresh_byte : (b : Before) (k o : ℕ) → k < (added_of b).fresh → byte_in b (slice_index (range_with_len (fresh_from
    (added_of b)) (added_of b).fresh) k) o ≡ slice_index (padded_to_unit 512 0 b.change.table) (512 * k + o)
unfolding byte_in
fresh_byte b k o h =
    let chain = chain_after b.chains (added_of b) in
    let x = slice_index (range_with_len (fresh_from (added_of b)) (added_of b).fresh) k in
    let here = get_or-range_with_len (fresh_from (added_of b)) (added_of b).fresh k 0 h in
    let apart = added_apart b x (omega arith) (omega arith) in
    let at : 512 * (x - fresh_from (added_of b)) + o ≡ 512 * k + o = omega arith in
    pick_high (place_in (fats_after b) x) (length (fats_after b)) _ _ apart.fats
    ∙ (pick_high (place_in b.has.parts.mini_fat x) (length b.has.parts.mini_fat) _ _ apart.minis
    ∙ (pick_high (place_in b.has.parts.directory x) (length b.has.parts.directory) _ _ apart.entries
    ∙ (pick_high (place_in chain x) (length chain) _ _ (fresh_not_grown b x (omega arith))
    ∙ (pick_high x (fresh_from (added_of b)) _ _ (omega arith)
    ∙ (pick_low x (fat_from (added_of b)) _ _ (omega arith) ∙ ap (λ n. slice_index (padded_to_unit 512 0 b.change.table)
    n)
    at)))))

table_is : (b : Before) → joined (file_after b) (range_with_len (fresh_from (added_of b)) (added_of b).fresh) ≡
    padded_to_unit
    512 0 b.change.table
table_is b =
    let run = range_with_len (fresh_from (added_of b)) (added_of b).fresh in
    let len = length-range_with_len (fresh_from (added_of b)) (added_of b).fresh in
    let fresh = (sizes_of b).fresh in
    let whole = length-padded 512 0 b.change.table (omega arith) in
    let fits = b.fits in
    let low : (i : ℕ) → i < length run → slice_index run i < sectors_after b.old (added_of b) = λ i h. let at =
    get_or-range_with_len (fresh_from (added_of b)) (added_of b).fresh i 0 (omega arith) in omega arith in
    joined_is b run (padded_to_unit 512 0 b.change.table) (inside_of b run (omega arith) low) (omega arith) low
    (λ k o h less. fresh_byte b k o (omega arith))

-- all other sectors
pub kept_byte : (b : Before) (x o : ℕ) → ¬ IsTouched b.old b.has.parts b.chains (added_of b) x → byte_in b x o ≡
    slice_index
    b.old ((x + 1) * 512 + o)
unfolding byte_in fats_after
kept_byte b x o quiet =
    let chain = chain_after b.chains (added_of b) in
    let fats = place_none (fats_after b) x (λ has. elim (has_either (fat_sectors b.old) (range_with_len (fat_from
    (added_of b)) (added_of b).fat) x has) [
      | inl old ↦ quiet (in_fat old)
      | inr new ↦ let r = run_sector (fat_from (added_of b)) (added_of b).fat x new in let above = r.0 in quiet
          (in_added (omega arith) r.1)
    ]) in
    let minis = place_none b.has.parts.mini_fat x (λ has. quiet (in_mini_fat has)) in
    let entries = place_none b.has.parts.directory x (λ has. quiet (in_directory has)) in
    let grown = place_none chain x (λ has. elim (has_either b.chains.grown (range_with_len (added_of b).from (added_of
    b).grown) x has) [
      | inl old ↦ quiet (in_grown old)
      | inr new ↦ let r = run_sector (added_of b).from (added_of b).grown x new in let below = r.1 in quiet (in_added
          r.0 (omega arith))
    ]) in
    pick_high (place_in (fats_after b) x) (length (fats_after b)) _ _ fats
    ∙ (pick_high (place_in b.has.parts.mini_fat x) (length b.has.parts.mini_fat) _ _ minis
    ∙ (pick_high (place_in b.has.parts.directory x) (length b.has.parts.directory) _ _ entries
    ∙ (pick_high (place_in chain x) (length chain) _ _ grown
    ∙ elim (cases_lt x (fresh_from (added_of b))) [
      | inl low ↦ pick_low x (fresh_from (added_of b)) _ _ low
      | inr high ↦
          pick_high x (fresh_from (added_of b)) _ _ high
          ∙ pick_high x (fat_from (added_of b)) _ _ (elim (cases_lt x (fat_from (added_of b))) [
            | inl less ↦ absurd (quiet (in_added (omega arith) (omega arith)))
            | inr more ↦ more
          ])
    ])))

pub sectors_change : (b : Before) → ChangesSectors b.old (file_after b) b.has.parts b.chains (added_of b) b.change
unfolding grown_joined
sectors_change b = record {
  grown = grown_is b;
  table = table_is b;
  kept = λ s low quiet i h. sector_at b s i ((s + 1) * 512 + i) (omega arith) h refl ∙ kept_byte b s i quiet;
}

pub saved_behind : (b : Before) → IsSavedBehind b.old (file_after b) b.has.parts b.chains (added_of b) b.change
saved_behind b = record {
  header = header_changes b;
  tables = tables_change b;
  directory = directory_changes b;
  sectors = sectors_change b;
}

-- there is a file after each save
pub save_there : (old : List ℕ) (contents : Contents) (has : HasContents old contents) (chains : OldChains) (change :
    StreamChange) → Hold (container_rules old) → AreOldChains old has.parts chains → CanBePut chains change → FitsAfter
    old (added_sectors old chains change) → AreBytes old → (new : List ℕ) × IsSave old new contents has chains change
save_there old contents has chains change hold are put fits bytes =
    let b : Before = record {
      old = old;
      contents = contents;
      has = has;
      chains = chains;
      change = change;
      hold = hold;
      are = are;
      put = put;
      fits = fits;
      bytes = bytes;
    } in
    (file_after b, record { hold = hold; are = are; put = put; fits = fits; saved = saved_behind b })
