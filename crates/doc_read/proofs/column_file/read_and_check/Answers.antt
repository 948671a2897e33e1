use Rattle.std.proofs.lemmas.Result.{err_from_is_err_and}
use Rattle.doc_read.specs.Opened.{OpenedFile}
use Rattle.doc_read.proofs.FormedBookmarks.{held_formed}
use Rattle.doc_read.proofs.OpeningLemmas.{file-refused-contents, file-refused-document, holds-found, opened-found}
use Rattle.doc_read.proofs.column_file.read_and_check.Goals as goal

pub check_document-requires : goal.check_document-requires
check_document-requires c =
    let found = c.in_ok-found.found in
    let of_file = c.requires.of_file in
    let read = c.in_ok-found.ensures in
    held_formed of_file.file found.document (holds-found of_file.file c.args.container.now found.document found.fib
    found.pieces.pieces of_file.holds of_file.has read.0 read.1)

pub returns-in_err-found : goal.returns-in_err-found
returns-in_err-found c = λ file holds has.
    let p = err_from_is_err_and c.from_residual.result c.from_residual.ensures.1 in
    rw (p.1, p.2)
    (file-refused-contents file c.args.container.now c.in_err-found.field-0.0 holds has c.in_err-found.ensures)

pub returns-in-Err : goal.returns-in-Err
returns-in-Err c = λ file holds has.
    let found = c.in_ok-found.found in
    let read = c.in_ok-found.ensures in
    let held = holds-found file c.args.container.now found.document found.fib found.pieces.pieces holds has read.0
    read.1 in
    rw c.drop_then.ensures (file-refused-document file found.document c.in-Err.fault held c.in-Err.ensures)

pub returns-in-Ok : goal.returns-in-Ok
returns-in-Ok c = λ file holds has.
    let found = c.in_ok-found.found in
    let read = c.in_ok-found.ensures in
    let opened : OpenedFile = record {
      document = found.document;
      fib = found.fib;
      contents = c.args.container.now;
      pieces = found.pieces.pieces;
    } in
    opened-found file opened holds has read.0 read.1 c.in-Ok.ensures
