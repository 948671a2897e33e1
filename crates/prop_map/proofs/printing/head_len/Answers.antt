use Rattle.std.proofs.Common.{sym, arith}
use Rattle.prop_map.proofs.PrintLemmas.{length-spelling_of}
use Rattle.prop_map.proofs.printing.head_len.Goals as goal

pub returns-in-Fixed-clause-len : goal.returns-in-Fixed-clause-len
returns-in-Fixed-clause-len c = λ value. length-spelling_of (c.args.code.0, value) _ (sym c.in-Fixed.ensures)

pub returns-in-CountedByByte-clause-len : goal.returns-in-CountedByByte-clause-len
returns-in-CountedByByte-clause-len c = λ value. let len = length-spelling_of (c.args.code.0, value) _
    (sym c.in-CountedByByte.ensures) in omega arith

pub returns-in-CountedByWord-clause-len : goal.returns-in-CountedByWord-clause-len
returns-in-CountedByWord-clause-len c = λ value. let len = length-spelling_of (c.args.code.0, value) _
    (sym c.in-CountedByWord.ensures) in omega arith
