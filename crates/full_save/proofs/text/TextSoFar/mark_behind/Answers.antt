use Rattle.std.proofs.Common.{◌≤◌, [], ap, sym, arith}
use Rattle.std.specs.Prelude.{nat_lt}
use Rattle.full_save.specs.Text.{mark_if}
use Rattle.full_save.proofs.TextLemmas.{goes_on_none, goes_on_by}
use Rattle.full_save.proofs.text.TextSoFar.mark_behind.Goals as goal
use Rattle.doc_bits.proofs.Public.{ltb_false}

pub returns-clause-text : goal.returns-clause-text
returns-clause-text c =
    let text = c.args.self.now in
    let test = c.if-before-self.false in
    let low : text.len ≤ c.args.before = omega arith in
    goes_on_by [] (mark_if (nat_lt c.args.before (text.len))) text text
    (ap mark_if (sym (ltb_false c.args.before (text.len) low))) (goes_on_none text)
