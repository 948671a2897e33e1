use Rattle.doc_read.proofs.PartsLemmas.{cuts_fit, made_from}
use Rattle.doc_read.proofs.column_file.read_found.Goals as goal

pub found_of-requires-clause-units : goal.found_of-requires-clause-units
found_of-requires-clause-units c = c.in_ok-read.ensures.1.are.columns_are.fit

pub found_of-requires-clause-cuts : goal.found_of-requires-clause-cuts
found_of-requires-clause-cuts c =
    let read = c.in_ok-read.ensures.1 in
    cuts_fit c.args.container.now c.args.text read.lists c.in_ok-read.read c.requires.room read.has_lists read.are

pub returns : goal.returns
returns c =
    let read = c.in_ok-read.ensures.1 in
    let found = c.in_ok-found in (
      c.in_ok-read.ensures.0,
      record {
        lists = read.lists;
        has_lists = read.has_lists;
        document_is = made_from c.args.container.now c.args.text read.lists c.in_ok-read.read found.found.document
            read.has_lists read.are found.ensures.document;
      },
      found.ensures.fib,
      found.ensures.pieces,
    )
