use Rattle.plain_doc.specs.TextRules.{BreaksText}
use Rattle.plain_doc.proofs.TextPlaceLemmas.{first_in_main, first_in_notes, first_in_heads}
use Rattle.plain_doc.proofs.rules_texts.first_in_texts.Goals as goal

pub returns-in-Some : goal.returns-in-Some
returns-in-Some c =
    first_in_main c.args.document.now (BreaksText c.args.rule c.args.document.now.sheet) c.in-Some.at
    (rw c.as_slice.ensures.items at c.in-Some.ensures)

pub returns-in-Some-first_in_list : goal.returns-in-Some-first_in_list
returns-in-Some-first_in_list c =
    first_in_notes c.args.document.now (BreaksText c.args.rule c.args.document.now.sheet)
    c.in-Some-first_in_list.place (rw c.as_slice.ensures.items at c.in_default.ensures)
    c.in-Some-first_in_list.ensures

pub returns : goal.returns
returns c =
    first_in_heads c.args.document.now (BreaksText c.args.rule c.args.document.now.sheet) c.first_in_list-2.result
    (rw c.as_slice.ensures.items at c.in_default.ensures)
    c.in_default-first_in_list.ensures
    c.first_in_list-2.ensures
