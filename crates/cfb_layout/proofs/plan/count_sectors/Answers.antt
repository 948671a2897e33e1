use Rattle.std.proofs.Common.{◌≡◌, ◌+◌, ◌*◌, ◌^◌, ◌<◌, [], ◌∷◌, ◌++◌, length, map, sum, ap, ◌∙◌, arith, rules}
use Rattle.std.proofs.lemmas.List.{take_all}
use Rattle.cfb_layout.specs.Sectors.{units_for}
use Rattle.cfb_layout.specs.Counts.{large_len, mini_counts, large_counts, sector_counts}
use Rattle.cfb_layout.proofs.WritableLemmas.{bounded}
use Rattle.cfb_layout.proofs.JoinLemmas.{four_join}
use Rattle.cfb_layout.proofs.plan.count_sectors.Goals as goal

pub large_sectors-requires : goal.large_sectors-requires
large_sectors-requires c =
    let b = bounded c.args.lengths.now c.requires.fits in
    let small = b.each c.loop-len.len-index c.loop-len-test.true in
    omega arith

pub overflow_cast-large_sectors : goal.overflow_cast-large_sectors
overflow_cast-large_sectors c =
    let b = bounded c.args.lengths.now c.requires.fits in
    let small = b.each c.loop-len.len-index c.loop-len-test.true in
    let few = c.large_sectors.ensures.few in
    let h : c.large_sectors.result < 2 ^ 32 = omega arith in
    search rules

pub returns : goal.returns
unfolding sector_counts large_counts
returns c =
    let streams : c.loop-len.counts.items ≡ large_counts c.args.lengths.now =
    c.loop-len.invariant ∙ ap (λ lengths. map (λ len. units_for 512 (large_len len)) lengths)
    (take_all c.loop-len.len-index c.args.lengths.now c.loop-len-test.false) in
    let stored = c.requires.stored in
    let first : c.units_for.result ≡ units_for 512 (64 * sum (mini_counts c.args.lengths.now)) = c.units_for.ensures ∙
    ap (λ n. units_for 512 (64 * n)) stored in
    let second : c.units_for-2.result ≡ units_for 128 (sum (mini_counts c.args.lengths.now)) = c.units_for-2.ensures ∙
    ap (λ n. units_for 128 n) stored in
    let third : c.units_for-3.result ≡ units_for 4 (length c.args.lengths.now + 1) = c.units_for-3.ensures in
    four_join [] c.loop-len.counts.items c.push-2.new.self.items c.push-3.new.self.items c.push-4.new.self.items
    (large_counts c.args.lengths.now)
    (units_for 512 (64 * sum (mini_counts c.args.lengths.now)) ∷ [])
    (units_for 128 (sum (mini_counts c.args.lengths.now)) ∷ [])
    (units_for 4 (length c.args.lengths.now + 1) ∷ [])
    streams
    (c.in_ok-push-2.ensures.items ∙ ap (λ n. c.loop-len.counts.items ++ n ∷ []) first)
    (c.in_ok-push-3.ensures.items ∙ ap (λ n. c.push-2.new.self.items ++ n ∷ []) second)
    (c.in_ok-push-4.ensures.items ∙ ap (λ n. c.push-3.new.self.items ++ n ∷ []) third)
