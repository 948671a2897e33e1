-- No two owners share a sector after a save.
use Rattle.std.proofs.Common.{◌≡◌, ◌≢◌, ◌⊎◌, inl, inr, ℕ, ◌-◌, ◌<◌, ◌≤◌, List}
use Rattle.std.proofs.Common.{refl, sym, ap, ◌∙◌, subst, arith}
use Rattle.std.specs.List.{range_with_len}
use Rattle.std.proofs.lemmas.Bool.{cases_lt, cases_eq}
use Rattle.doc_bits.specs.Rules.{Nowhere}
use Rattle.cfb_sectors.specs.Header.{fat_sector_count, fat_sectors}
use Rattle.cfb_sectors.specs.SectorChain.{HasSector}
use Rattle.cfb_sectors.specs.Chain.{ChainHead, fat_table, HoldsChain}
use Rattle.cfb_sectors.proofs.Public.{length-fat_sectors, fat_sectors-at, fat_valid, holds_unique}
use Rattle.cfb_directory.specs.Reach.{entry_place}
use Rattle.cfb_directory.specs.StreamEntries.{stream_head}
use Rattle.cfb_streams.specs.StreamRules.{Owner, of_fat, of_directory, of_mini_fat, of_mini_stream, of_stream, Owns}
use Rattle.cfb_streams.specs.StreamRules.{HasLargeSector, HasSmallSector, BreaksSharing, mini_table_of}
use Rattle.cfb_layout.proofs.Public.{owners_apart, run_sector, has_either}
use Rattle.cfb_in_place.specs.Change.{fresh_from, fat_from}
use Rattle.cfb_in_place.specs.Appended.{chain_after}
use Rattle.cfb_in_place.proofs.Saved.{Save, save_accepted, counts_of, old_fat_sector, new_fat_sector}
use Rattle.cfb_in_place.proofs.ChainsAgain.{no_sector, owns_grown, table_again, grown_again}
use Rattle.cfb_in_place.proofs.StreamsAgain.{large_before, large_chain, large_again, small_other, small_before}
use Rattle.cfb_in_place.proofs.StreamsAgain.{small_chain, small_again, minis_apart}

-- an added sector and whose it is
pub data IsAdded (s : Save) (owner : Owner) (x : ℕ) : Type 0 where
  to_grown : owner ≡ of_stream s.chains.grown_entry → s.added.from ≤ x → x < fresh_from s.added → IsAdded s owner x
  to_table : owner ≡ of_stream s.chains.table_entry → fresh_from s.added ≤ x → x < fat_from s.added → IsAdded s owner x
  to_fat : owner ≡ of_fat → fat_from s.added ≤ x → IsAdded s owner x

-- an old sector and whose it was
pub record IsOld (s : Save) (owner : Owner) (x : ℕ) : Type 0 where
  pub own : Owns s.old s.has.parts owner x
  pub low : x < s.added.from

held_low : (s : Save) (head : ChainHead) (xs : List ℕ) (x : ℕ) → HoldsChain (fat_table s.old) head xs → HasSector xs x →
    x <
    s.added.from
held_low s head xs x holds has =
    let from = (counts_of s).from in
    let low = holds.chain.path.within has.index has.inside in
    let here = has.here in
    omega arith

added_from : (s : Save) (owner : Owner) (x : ℕ) → IsAdded s owner x → s.added.from ≤ x
added_from s owner x (to_grown is from below) = from
added_from s owner x (to_table is from below) = omega arith
added_from s owner x (to_fat is from) = omega arith

added_one : (s : Save) (a b : Owner) (x : ℕ) → IsAdded s a x → IsAdded s b x → a ≡ b
added_one s a b x (to_grown is from below) (to_grown other at under) = is ∙ sym other
added_one s a b x (to_grown is from below) (to_table other at under) = absurd (omega arith)
added_one s a b x (to_grown is from below) (to_fat other at) = absurd (omega arith)
added_one s a b x (to_table is from below) (to_grown other at under) = absurd (omega arith)
added_one s a b x (to_table is from below) (to_table other at under) = is ∙ sym other
added_one s a b x (to_table is from below) (to_fat other at) = absurd (omega arith)
added_one s a b x (to_fat is from) (to_grown other at under) = absurd (omega arith)
added_one s a b x (to_fat is from) (to_table other at under) = absurd (omega arith)
added_one s a b x (to_fat is from) (to_fat other at) = is ∙ sym other

-- a sector of a stream after the save
stream_owner : (s : Save) (k x : ℕ) → HasLargeSector s.new s.has.parts.directory k x → IsOld s (of_stream k) x ⊎
    IsAdded s (of_stream k) x
stream_owner s k x has =
    let directory = s.has.parts.directory in
    let head = stream_head s.new 512 (entry_place directory k) in
    elim (cases_eq k s.chains.grown_entry) [
      | inl grown ↦
          let ours = subst (λ e. HoldsChain (fat_table s.new) (stream_head s.new 512 (entry_place directory e))
          (chain_after s.chains s.added)) (sym grown) (grown_again s) in
          let same = holds_unique (fat_table s.new) head has.sectors (chain_after s.chains s.added) has.holds ours in
          let owner = ap of_stream grown in
          elim (has_either s.chains.grown (range_with_len s.added.from s.added.grown) x (subst (λ xs. HasSector xs x)
          same has.has)) [
            | inl old ↦ inl (record {
              own = subst (λ o. Owns s.old s.has.parts o x) (sym owner) (owns_grown s x old);
              low = held_low s (stream_head s.old 512 (entry_place directory s.chains.grown_entry)) s.chains.grown x
                  s.are.grown.holds old;
            })
            | inr new ↦ let r = run_sector s.added.from s.added.grown x new in inr (to_grown owner r.0 r.1)
          ]
      | inr one ↦ elim (cases_eq k s.chains.table_entry) [
        | inl table ↦
            let run = range_with_len (fresh_from s.added) s.added.fresh in
            let ours = subst (λ e. HoldsChain (fat_table s.new) (stream_head s.new 512 (entry_place directory e)) run)
            (sym table) (table_again s) in
            let same = holds_unique (fat_table s.new) head has.sectors run has.holds ours in
            let r = run_sector (fresh_from s.added) s.added.fresh x (subst (λ xs. HasSector xs x) same has.has) in
            inr (to_table (ap of_stream table) r.0 r.1)
        | inr another ↦
            let before = large_before s k one another has.is_large in
            let chain = large_chain s k before in
            let ours = large_again s k chain.sectors one another before chain.holds in
            let same = holds_unique (fat_table s.new) head has.sectors chain.sectors has.holds ours in
            let there = subst (λ xs. HasSector xs x) same has.has in
            inl (record {
              own = record { is_large = before; sectors = chain.sectors; holds = chain.holds; has = there };
              low = held_low s (stream_head s.old 512 (entry_place directory k)) chain.sectors x chain.holds there;
            })
      ]
    ]

-- a sector of the FAT
fat_owner : (s : Save) (x : ℕ) → HasSector (fat_sectors s.new) x → IsOld s of_fat x ⊎ IsAdded s of_fat x
fat_owner s x has =
    let len = length-fat_sectors s.new in
    let before = length-fat_sectors s.old in
    let inside = has.inside in
    let k = has.index in
    let here = has.here in
    let at = fat_sectors-at s.new k (omega arith) in
    let from = (counts_of s).from in
    elim (cases_lt k (fat_sector_count s.old)) [
      | inl low ↦
          let same = old_fat_sector s k low in
          let valid = fat_valid s.old k (save_accepted s).fat low in
          let there = fat_sectors-at s.old k low in
          inl (record {
            own = record { index = k; inside = omega arith; here = there ∙ (sym same ∙ (sym at ∙ here)) };
            low = omega arith;
          })
      | inr high ↦
          let same = new_fat_sector s k high (omega arith) in
          inr (to_fat refl (omega arith))
    ]

owner_before : (s : Save) (owner : Owner) (x : ℕ) → Owns s.new s.has.parts owner x → IsOld s owner x ⊎ IsAdded s owner
    x
owner_before s of_fat x has = fat_owner s x has
owner_before s of_directory x has = inl (record {
  own = has;
  low = held_low s _ s.has.parts.directory x s.has.directory.holds has;
})
owner_before s of_mini_fat x has = elim s.has.mini_fat [
  | inl none ↦ absurd (no_sector s.has.parts.mini_fat x none.1 has)
  | inr some ↦ inl (record { own = has; low = held_low s _ s.has.parts.mini_fat x some.1 has })
]
owner_before s of_mini_stream x has = elim s.has.mini_stream [
  | inl none ↦ absurd (no_sector s.has.parts.mini_stream x none.1 has)
  | inr some ↦ inl (record { own = has; low = held_low s _ s.has.parts.mini_stream x some.1 has })
]
owner_before s (of_stream k) x has = stream_owner s k x has

-- two owners of one sector are one
owners_same : (s : Save) (a b : Owner) (x : ℕ) → a ≢ b → IsOld s a x ⊎ IsAdded s a x → ¬ (IsOld s b x ⊎ IsAdded s b x)
owners_same s a b x apart one other = elim one [
  | inl old ↦ elim other [
    | inl both ↦ owners_apart s.old s.has.parts a b x (save_accepted s) apart old.own both.own
    | inr new ↦ let low = old.low in let from = added_from s b x new in omega arith
  ]
  | inr new ↦ elim other [
    | inl old ↦ let low = old.low in let from = added_from s a x new in omega arith
    | inr both ↦ apart (added_one s a b x new both)
  ]
]

-- a mini sector is that of the old stream
mini_before : (s : Save) (k x : ℕ) → HasSmallSector s.new s.has.parts.directory s.has.parts.mini_fat k x →
    HasSmallSector s.old s.has.parts.directory s.has.parts.mini_fat k x
mini_before s k x has =
    let directory = s.has.parts.directory in
    let other = small_other s k has.is_small in
    let before = small_before s k has.is_small in
    let chain = small_chain s k before in
    let ours = small_again s k chain.sectors other.0 other.1 before chain.holds in
    let same = holds_unique (mini_table_of s.new directory s.has.parts.mini_fat) (stream_head s.new 64 (entry_place
    directory k)) has.sectors chain.sectors has.holds ours in
    record {
      is_small = before;
      sectors = chain.sectors;
      holds = chain.holds;
      has = subst (λ xs. HasSector xs x) same has.has;
    }

-- rule 14
pub sharing_again : (s : Save) → Nowhere (BreaksSharing s.new s.has.parts)
sharing_again s = λ p b. elim b [
  | inl sector ↦ owners_same s sector.one sector.other sector.sector sector.apart (owner_before s sector.one
      sector.sector sector.first) (owner_before s sector.other sector.sector sector.second)
  | inr mini ↦ minis_apart s mini.one mini.other mini.sector mini.apart (mini_before s mini.one mini.sector mini.first)
      (mini_before s mini.other mini.sector mini.second)
]
