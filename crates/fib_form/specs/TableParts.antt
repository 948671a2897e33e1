-- [MS-DOC] FibRgFcLcb97: the parts of the table stream, by the numbers of their pairs.
use Rattle.std.specs.Prelude.{ℕ}
use Rattle.fib_form.specs.declared.table_parts.TablePart.{TablePart}
use Rattle.fib_form.specs.declared.table_parts.TablePart.TheVariants.{Stshf, PlcffndRef, PlcffndTxt, PlcfSed, PlcfHdd}
use Rattle.fib_form.specs.declared.table_parts.TablePart.TheVariants.{PlcfBteChpx, PlcfBtePapx, SttbfFfn, PlcfFldMom}
use Rattle.fib_form.specs.declared.table_parts.TablePart.TheVariants.{PlcfFldHdr, PlcfFldFtn, SttbfBkmk, PlcfBkf}
use Rattle.fib_form.specs.declared.table_parts.TablePart.TheVariants.{PlcfBkl}
use Rattle.fib_form.specs.declared.table_parts.TablePart.TheVariants.{Dop, SttbfAssoc, Clx}
use Rattle.fib_form.specs.declared.table_parts.TablePart.TheVariants.{PlfLst, PlfLfo}

-- the number of the pair of a part
abbrev pub pair_number : TablePart → ℕ
pair_number Stshf = 1
pair_number PlcffndRef = 2
pair_number PlcffndTxt = 3
pair_number PlcfSed = 6
pair_number PlcfHdd = 11
pair_number PlcfBteChpx = 12
pair_number PlcfBtePapx = 13
pair_number SttbfFfn = 15
pair_number PlcfFldMom = 16
pair_number PlcfFldHdr = 17
pair_number PlcfFldFtn = 18
pair_number SttbfBkmk = 21
pair_number PlcfBkf = 22
pair_number PlcfBkl = 23
pair_number Dop = 31
pair_number SttbfAssoc = 32
pair_number Clx = 33
pair_number PlfLst = 73
pair_number PlfLfo = 74
