use Rattle.std.proofs.Common.{◌≡◌, ◌∙◌, sym, length, List}
use Rattle.std.proofs.lemmas.Bool.{eqb-true}
use Rattle.doc_mends.specs.declared.mends.BrokenRow.{BrokenRow}
use Rattle.doc_mends.proofs.TableLemmas.{document_stays}
use Rattle.doc_mends.proofs.tables.make_where_found.Goals as goal
use Rattle.doc_bits.proofs.Public.{nil_from_length}

pub returns-then-is_empty-clause-ok : goal.returns-then-is_empty-clause-ok
returns-then-is_empty-clause-ok c =
    let found : List BrokenRow = c.args.found.now in
    let none : length found ≡ 0 =
    eqb-true (length found) 0 (sym c.is_empty.ensures ∙ c.if-is_empty.true) in
    sym (document_stays c.args.document.now (sym c.requires ∙ nil_from_length found none))
