-- The lists of which the file after is made are those of its bytes.
use Rattle.std.proofs.Common.{◌≡◌, ℕ, ◌<◌, List, length, slice_index, refl, sym, ap, ◌∙◌, arith}
use Rattle.cfb_sectors.specs.Header.{fat_sectors}
use Rattle.cfb_sectors.specs.Chain.{fat_table, IsTable}
use Rattle.cfb_sectors.proofs.Public.{length-fat_sectors}
use Rattle.cfb_in_place.specs.Change.{StreamChange, OldChains, Added, added_for, added_sectors, grown_bytes}
use Rattle.cfb_in_place.specs.Tables.{ChangesFat}
use Rattle.cfb_in_place.proofs.FileAfter.{Before, added_of, sizes_of, entry_after}
use Rattle.cfb_in_place.proofs.TableLemmas.{changes_one}
use Rattle.cfb_in_place.proofs.TablesThere.{entries_change}

-- what is added, by lengths
pub added_is : (file : List ℕ) (chains : OldChains) (change : StreamChange) → added_sectors file chains change ≡
    added_for file (length chains.grown) (length (grown_bytes change chains.bytes)) (length change.table)
unfolding added_sectors
added_is file chains change = refl

-- the same by other numbers that are these lengths
pub added_by : (file : List ℕ) (chains : OldChains) (change : StreamChange) (added : Added) (chain grown table : ℕ) →
    added ≡ added_for file chain grown table → chain ≡ length chains.grown → grown ≡ length (grown_bytes change
    chains.bytes) → table ≡ length change.table → added ≡ added_sectors file chains change
added_by file chains change added chain grown table is a b c =
    is
    ∙ (ap (λ n. added_for file n grown table) a
    ∙ (ap (λ n. added_for file (length chains.grown) n table) b
    ∙ (ap (λ n. added_for file (length chains.grown) (length (grown_bytes change chains.bytes)) n) c
    ∙ sym (added_is file chains change))))

-- the list of the FAT's entries
pub fat_is : (b : Before) (entries fat : List ℕ) (covered : ℕ) → IsTable b.old (fat_sectors b.old) entries → ChangesFat
    (λ s. slice_index entries s) (λ s. slice_index fat s) b.chains (added_of b) covered → (s : ℕ) → s < covered →
    slice_index fat s ≡ entry_after b s
fat_is b entries fat covered table is =
    let from = (sizes_of b).from in
    let len = table.len in
    let fats = length-fat_sectors b.old in
    changes_one (λ s. slice_index entries s) (fat_table b.old).entry (λ s. slice_index fat s) (entry_after b) b.chains
    (added_of b) covered (λ s low. table.each s (omega arith)) is (entries_change b covered)
