use Rattle.std.proofs.lemmas.Result.{err_from_is_err_and}
use Rattle.doc_bits.specs.Rules.{given}
use Rattle.file_rules.specs.PartRules.{part_rules}
use Rattle.file_rules.specs.FileRules.{FileText, HasFileText, doc_source_of, loading_rules}
use Rattle.file_rules.proofs.Public.{refused-next, refused-given}
use Rattle.doc_read.proofs.FewLemmas.{leaves_room}
use Rattle.doc_read.proofs.column_file.read_contents.Goals as goal

pub read_found-requires-clause-room : goal.read_found-requires-clause-room
read_found-requires-clause-room c =
    leaves_room c.args.container.now c.in_ok-text.text c.requires c.in_ok-text.ensures.1

pub returns-in_err-found : goal.returns-in_err-found
returns-in_err-found c =
    let contents = c.args.container.now in
    let fault = c.in_err-found.field-0.0 in
    let p = err_from_is_err_and c.from_residual-in_err-found.result c.from_residual-in_err-found.ensures.1 in
    let text = c.in_ok-text.ensures in
    let parts = λ (text : FileText). part_rules (doc_source_of text) in
    rw (p.1, p.2)
    (refused-next (loading_rules contents) (given (HasFileText contents) parts) fault text.0
    (refused-given (HasFileText contents) parts c.in_ok-text.text fault text.1 c.in_err-found.ensures))

pub returns : goal.returns
returns c =
    let text = c.in_ok-text.text in
    let found = c.in_ok-found.ensures in (
      (c.in_ok-text.ensures.0, (text, (c.in_ok-text.ensures.1, found.0))),
      record {
        text = text;
        has_text = c.in_ok-text.ensures.1;
        lists = found.1.lists;
        has_lists = found.1.has_lists;
        document_is = found.1.document_is;
        fib_is = found.2;
        pieces_are = found.3;
      },
    )
