use Rattle.std.proofs.Common.{◌≡◌, ◌+◌, ◌-◌, ◌++◌, length, slice_index, sum, ap, ◌∙◌}
use Rattle.std.specs.List.{flat_map, range_with_len}
use Rattle.doc_bits.specs.Number.{number_bytes}
use Rattle.cfb_layout.specs.Fields.{fields_bytes}
use Rattle.cfb_layout.specs.Counts.{sector_counts, first_sector}
use Rattle.cfb_layout.proofs.JoinLemmas.{header_same, header_join}
use Rattle.cfb_layout.proofs.writing.push_header.Goals as goal

pub returns : goal.returns
returns c =
    let lengths = c.args.plan.now in
    let counts = sector_counts lengths in
    let count : c.count-count.result ≡ length lengths = c.count-count.ensures.is in
    let are : c.sectors-sectors.result.now ≡ counts = c.sectors-sectors.ensures.is in
    let directory : c.first_sector.result ≡ first_sector counts (length lengths + 2) =
    c.first_sector.ensures ∙ (ap (λ xs. first_sector xs (c.count-count.result + 2)) are ∙ ap (λ n. first_sector counts
    (n + 2)) count) in
    let mini_fat : c.first_sector-2.result ≡ first_sector counts (length lengths + 1) =
    c.first_sector-2.ensures ∙ (ap (λ xs. first_sector xs (c.count-count.result + 1)) are ∙ ap (λ n. first_sector
    counts (n + 1)) count) in
    let mini_fats : c.count.result ≡ slice_index counts (length lengths + 1) =
    c.count.ensures ∙ (ap (λ xs. slice_index xs (c.count-count.result + 1)) are ∙ ap (λ n. slice_index counts (n + 1))
    count) in
    let fields = header_same lengths c.fats.result c.first_sector.result c.first_sector-2.result c.count.result
    c.fats.ensures.is directory mini_fat mini_fats in
    let total : c.total.result ≡ sum counts = c.total.ensures ∙ ap sum are in
    let row = ap (λ n. range_with_len n c.fats-2.result) total ∙ ap (λ n. range_with_len (sum counts) n)
    c.fats-2.ensures.is in
    header_join lengths c.args.out.now c.push_all.new.self c.push_fields.new.out c.push_row.new.out
    c.push_repeated.new.out (109 - c.fats-3.result)
    c.in_ok-push_all.ensures.ok
    (c.in_ok-push_fields.ensures ∙ ap (λ fs. c.push_all.new.self ++ fields_bytes fs) fields)
    (c.in_ok-push_row.ensures ∙ ap (λ xs. c.push_fields.new.out ++ flat_map (number_bytes 4) xs) row)
    c.in_ok-push_repeated.ensures
    (ap (λ n. 109 - n) c.fats-3.ensures.is)
