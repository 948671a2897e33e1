use Rattle.std.proofs.Common.{◌≡◌, ◌+◌, ◌*◌, List, ℕ, length, slice_index, sym, ap, ◌∙◌, subst, arith}
use Rattle.cfb_sectors.specs.Header.{fat_sector_count}
use Rattle.cfb_sectors.specs.Chain.{IsTable}
use Rattle.cfb_sectors.proofs.Public.{length-fat_sectors}
use Rattle.cfb_in_place.specs.Change.{Added}
use Rattle.cfb_in_place.specs.Tables.{CanChangeFat, ChangesFat}
use Rattle.cfb_in_place.proofs.tables.fat_entries.Goals as goal

pub fat_after-requires : goal.fat_after-requires
fat_after-requires c =
    let old = c.args.old.now in
    let count = c.get32.ensures in
    let more = ap (λ (a : Added). a.fat) c.added.view_is in
    let all : 128 * (fat_sector_count old + c.args.added.now.fat) ≡ 128 * (c.get32.result + c.added.inside.fat) =
    omega arith in
    let fats = length-fat_sectors old in
    let same = ap (λ (xs : List ℕ). length xs) (c.deref.ensures.value ∙ c.in_ok-sectors.ensures) in
    let len = c.in_ok-entries.ensures.len in
    let items = ap (λ (xs : List ℕ). length xs) c.deref_mut.ensures.value in
    subst (λ n. CanChangeFat c.deref_mut.result.now c.args.chains.now c.args.added.now n) all
    (c.requires.can c.deref_mut.result.now (omega arith))

pub returns : goal.returns
returns c =
    let old = c.args.old.now in
    let count = c.get32.ensures in
    let more = ap (λ (a : Added). a.fat) c.added.view_is in
    let all : 128 * (c.get32.result + c.added.inside.fat) ≡ 128 * (fat_sector_count old + c.args.added.now.fat) =
    omega arith in
    let same = c.deref.ensures.value ∙ c.in_ok-sectors.ensures in
    record {
      entries = c.deref_mut.result.now;
      table = subst (λ (xs : List ℕ). IsTable old xs c.deref_mut.result.now) same
          (subst (λ (xs : List ℕ). IsTable old c.deref.result.now xs) (sym c.deref_mut.ensures.value)
          c.in_ok-entries.ensures);
      len = c.in_ok-fat.ensures.len ∙ all;
      changes = subst (λ n. ChangesFat (λ s. slice_index c.deref_mut.result.now s) (λ s. slice_index
          c.in_ok-fat.fat.items s) c.args.chains.now c.args.added.now n) all c.in_ok-fat.ensures.entries;
    }
