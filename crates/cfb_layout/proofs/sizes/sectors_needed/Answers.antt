use Rattle.std.proofs.Common.{◌≡◌, ℕ, ◌+◌, ◌*◌, sum, sym, ap, ◌∙◌, arith}
use Rattle.std.proofs.lemmas.List.{take_all}
use Rattle.std.proofs.lemmas.List.Sums.{sum_by_more}
use Rattle.cfb_layout.specs.Sectors.{units_for}
use Rattle.cfb_layout.specs.Counts.{large_counts, mini_counts, sector_counts}
use Rattle.cfb_layout.proofs.CountLemmas.{sectors-needed}
use Rattle.cfb_layout.proofs.HeldLemmas.{sum_counts}
use Rattle.cfb_layout.proofs.JoinLemmas.{large_first, mini_first, large_more, mini_more}
use Rattle.cfb_layout.proofs.sizes.sectors_needed.Goals as goal

pub loop-len-init : goal.loop-len-init
loop-len-init c = record {
  large_are = sym (large_first c.args.lengths.now);
  minis_are = sym
      (mini_first c.args.lengths.now);
  large_few = omega arith;
  minis_few = omega arith;
}

pub loop-len-preserved : goal.loop-len-preserved
loop-len-preserved c =
    let lengths = c.args.lengths.now in
    let i = c.loop-len.len-index in
    let low = c.loop-len-test.true in
    let before = c.loop-len.invariant in
    let a = before.large_are in
    let b = before.minis_are in
    let d = before.large_few in
    let e = before.minis_few in
    let large = large_more lengths i low in
    let mini = mini_more lengths i low in
    let all = sum_by_more (λ (x : ℕ). x) lengths i 0 low in
    let f = c.large_sectors-large.ensures.is in
    let g = c.large_sectors-large.ensures.few in
    let h = c.mini_sectors-minis.ensures.is in
    let k = c.mini_sectors-minis.ensures.few in
    record { large_are = omega arith; minis_are = omega arith; large_few = omega arith; minis_few = omega arith }

pub returns : goal.returns
returns c =
    let lengths = c.args.lengths.now in
    let before = c.loop-len.invariant in
    let whole = take_all c.loop-len.len-index lengths c.loop-len-test.false in
    let a : c.loop-len.large ≡ sum (large_counts lengths) = before.large_are ∙ ap (λ xs. sum (large_counts xs)) whole in
    let b : c.loop-len.minis ≡ sum (mini_counts lengths) = before.minis_are ∙ ap (λ xs. sum (mini_counts xs)) whole in
    let stored = c.units_for-stored.ensures ∙ ap (λ n. units_for 512 (64 * n)) b in
    let table = c.units_for-table.ensures ∙ ap (λ n. units_for 128 n) b in
    let directory = c.units_for-directory.ensures in
    let total = sum_counts lengths in
    let needed = sectors-needed lengths in
    let same : c.loop-len.large + c.units_for-stored.result + c.units_for-table.result + c.units_for-directory.result
    ≡ sum (sector_counts lengths) = omega arith in
    let fats = c.units_for.ensures ∙ ap (λ n. units_for 127 n) same in
    omega arith
