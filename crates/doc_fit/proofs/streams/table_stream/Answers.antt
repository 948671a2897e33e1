use Rattle.std.proofs.Common.{◌∙◌, ap, subst, ℕ, List}
use Rattle.cfb_streams.specs.Contents.{Contents, HasNamed, HasNoNamed}
use Rattle.cfb_streams.specs.Names.{table_name}
use Rattle.doc_fit.proofs.streams.table_stream.Goals as goal

pub unreachable-requires : goal.unreachable-requires
unreachable-requires c =
    let contents = c.args.outer.now.container in
    let named = c.requires.named in
    let name = c.table_name.ensures ∙ ap table_name c.which_table.ensures.value in
    let none = subst (λ (k : Contents). HasNoNamed k.streams c.table_name.result.now) c.container.ensures
    c.in-None.ensures in
    let none_so = subst (λ (n : List ℕ). HasNoNamed contents.streams n) name none in
    none_so named.index named.stream named.here named.named

pub returns : goal.returns
returns c =
    let contents = c.args.outer.now.container in
    let name = c.table_name.ensures ∙ ap table_name c.which_table.ensures.value in
    let there = subst (λ (k : Contents). HasNamed k.streams c.table_name.result.now c.in-Some.table.now)
    c.container.ensures c.in-Some.ensures in
    subst (λ (n : List ℕ). HasNamed contents.streams n c.in-Some.table.now) name there
