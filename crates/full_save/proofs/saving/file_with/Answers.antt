use Rattle.std.proofs.Common.{arith}
use Rattle.full_save.proofs.saving.file_with.Goals as goal

pub returns-then-sectors-gt-MAX_SECTORS : goal.returns-then-sectors-gt-MAX_SECTORS
returns-then-sectors-gt-MAX_SECTORS c =
    let needed = c.in_ok-sectors.ensures in
    let test = c.if-sectors-gt-MAX_SECTORS.true in
    (omega arith, needed)

pub file_of-requires-clause-fits : goal.file_of-requires-clause-fits
file_of-requires-clause-fits c =
    let needed = c.in_ok-sectors.ensures in
    let test = c.if-sectors-gt-MAX_SECTORS.false in
    omega arith

pub returns : goal.returns
returns c =
    let needed = c.in_ok-sectors.ensures in
    let test = c.if-sectors-gt-MAX_SECTORS.false in
    (c.in_ok-file.ensures, omega arith)
