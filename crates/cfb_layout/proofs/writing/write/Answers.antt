use Rattle.std.proofs.Common.{[], ◌++◌, ap, ◌∙◌}
use Rattle.cfb_layout.specs.Sectors.{chains_from, table_bytes}
use Rattle.cfb_layout.specs.Counts.{mini_counts}
use Rattle.cfb_layout.specs.Layout.{header_bytes, fat}
use Rattle.cfb_layout.proofs.JoinLemmas.{file_join}
use Rattle.cfb_layout.proofs.writing.write.Goals as goal

pub returns : goal.returns
returns c =
    let same = c.requires in
    let start = c.in_ok-push_header.ensures ∙ (ap (λ xs. xs ++ header_bytes c.args.plan.now) c.new-out.ensures ∙ ap
    (λ lengths. [] ++ header_bytes lengths) same) in
    let minis = c.in_ok-push_mini_fat.ensures ∙ ap (λ lengths. c.push_mini_stream.new.out ++ table_bytes (chains_from
    0 (mini_counts lengths))) same in
    let table = c.in_ok-push_fat.ensures ∙ ap (λ lengths. c.push_directory.new.out ++ table_bytes (fat lengths)) same in
    file_join c.args.streams.now c.args.clsid.now c.push_header.new.out c.push_large.new.out
    c.push_mini_stream.new.out c.push_mini_fat.new.out c.push_directory.new.out c.push_fat.new.out
    start c.in_ok-push_large.ensures c.in_ok-push_mini_stream.ensures minis c.in_ok-push_directory.ensures table
