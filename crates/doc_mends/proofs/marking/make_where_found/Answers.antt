use Rattle.std.proofs.Common.{◌≡◌, ◌∙◌, sym, length, List}
use Rattle.std.proofs.lemmas.Bool.{eqb-true}
use Rattle.doc_mends.specs.declared.mends.WrongMark.{WrongMark}
use Rattle.doc_mends.proofs.NormalLemmas.{right_document}
use Rattle.doc_mends.proofs.marking.make_where_found.Goals as goal
use Rattle.doc_bits.proofs.Public.{nil_from_length}

pub returns-then-is_empty-clause-ok : goal.returns-then-is_empty-clause-ok
returns-then-is_empty-clause-ok c =
    let found : List WrongMark = c.args.found.now in
    let none : length found ≡ 0 =
    eqb-true (length found) 0 (sym c.is_empty.ensures ∙ c.if-is_empty.true) in
    sym (right_document c.args.document.now (sym c.requires ∙ nil_from_length found none))
