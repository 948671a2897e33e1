use Rattle.std.proofs.Common.{◌≡◌, ◌+◌, ◌-◌, ◌*◌, ◌++◌, replicate, sum, ap, ◌∙◌, arith}
use Rattle.std.specs.List.{flat_map}
use Rattle.doc_bits.specs.Number.{number_bytes}
use Rattle.cfb_layout.specs.Sectors.{units_for, chains_from, fat_sector_mark}
use Rattle.cfb_layout.specs.Counts.{sector_counts, fat_count}
use Rattle.cfb_layout.proofs.JoinLemmas.{fat_join}
use Rattle.cfb_layout.proofs.writing.push_fat.Goals as goal

pub returns : goal.returns
returns c =
    let lengths = c.args.plan.now in
    let counts : c.counts.result.now ≡ sector_counts lengths = c.counts.ensures.is ∙ c.sectors-sectors.ensures.is in
    let chains = c.in_ok-push_chains.ensures ∙ ap (λ xs. c.args.out.now ++ flat_map (number_bytes 4) (chains_from 0
    xs)) counts in
    let fats : c.fats-fats.result ≡ fat_count lengths = c.fats-fats.ensures.is in
    let marks = c.in_ok-push_repeated.ensures ∙ ap (λ n. c.push_chains.new.out ++ flat_map (number_bytes 4)
    (replicate n fat_sector_mark)) fats in
    let total : c.total.result + c.fats-fats.result ≡ sum (sector_counts lengths) + fat_count lengths =
    let t = c.total.ensures ∙ ap sum c.sectors-sectors.ensures.is in omega arith in
    fat_join lengths c.rest_of.result c.args.out.now c.push_chains.new.out c.push_repeated.new.out
    c.push_repeated-2.new.out
    chains marks c.in_ok-push_repeated-2.ensures (c.rest_of.ensures.is ∙ ap (λ n. units_for 128 n * 128 - n) total)
