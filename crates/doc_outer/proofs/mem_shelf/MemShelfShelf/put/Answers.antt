use Rattle.doc_outer.specs.Store.{entry_files}
use Rattle.doc_outer.proofs.HeldLemmas.{OthersStay-with_file}
use Rattle.doc_outer.proofs.mem_shelf.MemShelfShelf.put.Goals as goal

pub returns-clause-others : goal.returns-clause-others
returns-clause-others c other apart =
    let files = entry_files c.self.inside.entries.items in
    rw (c.in_ok-give.ensures.ok, ← c.self.view_is) (OthersStay-with_file files c.args.name.now c.args.bytes.now other
    apart)
