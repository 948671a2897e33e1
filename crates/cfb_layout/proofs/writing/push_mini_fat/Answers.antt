use Rattle.std.proofs.Common.{◌≡◌, ◌-◌, ◌*◌, ◌++◌, length, sum, sym, ap, ◌∙◌}
use Rattle.std.specs.List.{flat_map}
use Rattle.doc_bits.specs.Number.{number_bytes}
use Rattle.cfb_layout.specs.Sectors.{units_for, chains_from}
use Rattle.cfb_layout.specs.Counts.{mini_counts}
use Rattle.cfb_layout.proofs.SectorLemmas.{length-chains_from}
use Rattle.cfb_layout.proofs.JoinLemmas.{table_padded}
use Rattle.cfb_layout.proofs.writing.push_mini_fat.Goals as goal

pub returns : goal.returns
returns c =
    let lengths = c.args.plan.now in
    let counts : c.counts.result.now ≡ mini_counts lengths = c.counts.ensures.is ∙ c.minis-minis.ensures in
    let chains = c.in_ok-push_chains.ensures ∙ ap (λ xs. c.args.out.now ++ flat_map (number_bytes 4) (chains_from 0
    xs)) counts in
    let total : c.total.result ≡ length (chains_from 0 (mini_counts lengths)) =
    c.total.ensures ∙ (ap sum c.minis-minis.ensures ∙ sym (length-chains_from 0 (mini_counts lengths))) in
    table_padded c.args.out.now c.push_chains.new.out c.push_repeated.new.out (chains_from 0 (mini_counts lengths))
    c.rest_of.result
    chains c.in_ok-push_repeated.ensures (c.rest_of.ensures.is ∙ ap (λ n. units_for 128 n * 128 - n) total)
