use Rattle.std.proofs.Common.{length, ap, subst, arith}
use Rattle.std.specs.List.{flat_map}
use Rattle.style_sheet.specs.Formed.{IsFormedKind}
use Rattle.style_sheet.specs.Counted.{written_counted}
use Rattle.style_sheet.specs.Written.{written_upxes}
use Rattle.style_sheet.proofs.LengthLemmas.{para_len, char_len}
use Rattle.style_sheet.proofs.styles.Kind.upxes_len.Goals as goal

pub printed_len-requires : goal.printed_len-requires
printed_len-requires c = (0x22, (subst IsFormedKind c.in-Para.is c.requires).0)

pub printed_len-requires-in-Para : goal.printed_len-requires-in-Para
printed_len-requires-in-Para c = (0x04, (subst IsFormedKind c.in-Para.is c.requires).1)

pub printed_len-requires-in-Char : goal.printed_len-requires-in-Char
printed_len-requires-in-Char c = (0x04, subst IsFormedKind c.in-Char.is c.requires)

pub returns-in-Para : goal.returns-in-Para
returns-in-Para c =
    let same = ap (λ kind. length (flat_map written_counted (written_upxes c.args.istd kind))) c.in-Para.is in
    let len = para_len c.args.istd c.in-Para.pap c.in-Para.chp in
    omega arith

pub returns-in-Char : goal.returns-in-Char
returns-in-Char c =
    let same = ap (λ kind. length (flat_map written_counted (written_upxes c.args.istd kind))) c.in-Char.is in
    let len = char_len c.args.istd c.in-Char.chp in
    omega arith
