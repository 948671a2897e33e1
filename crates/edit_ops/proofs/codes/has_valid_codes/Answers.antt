use Rattle.edit_ops.proofs.codes.has_valid_codes.Goals as goal

pub returns-in-Char : goal.returns-in-Char
returns-in-Char c = rw c.in-Char.is c.is_held.ensures

pub returns-in-Para : goal.returns-in-Para
returns-in-Para c = rw c.in-Para.is c.is_held-in-Para.ensures

pub returns-in-Sect : goal.returns-in-Sect
returns-in-Sect c = rw c.in-Sect.is c.is_held-in-Sect.ensures

pub returns-in-StyleChar : goal.returns-in-StyleChar
returns-in-StyleChar c = rw c.in-StyleChar.is c.is_held-in-StyleChar.ensures

pub returns-in-StylePara : goal.returns-in-StylePara
returns-in-StylePara c = rw c.in-StylePara.is c.is_held-in-StylePara.ensures
