use Rattle.std.proofs.Common.{subst}
use Rattle.cfb_streams.specs.Contents.{Contents, HasNoNamed}
use Rattle.cfb_streams.specs.Names.{wd_name}
use Rattle.doc_fit.proofs.streams.main_stream.Goals as goal

pub unreachable-requires : goal.unreachable-requires
unreachable-requires c =
    let named = c.requires.named in
    let none = subst (λ (k : Contents). HasNoNamed k.streams wd_name) c.container.ensures c.in-None.ensures in
    none named.index named.stream named.here named.named
