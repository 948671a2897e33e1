use Rattle.std.proofs.Common.{◌-◌, length, arith}
use Rattle.doc_bits.proofs.Public.{length-range}
use Rattle.part_skips.proofs.SheetLemmas.{sheet_put}
use Rattle.part_skips.proofs.sheets.skip_sheet_in.Goals as goal

pub skip_sheet-requires : goal.skip_sheet-requires
skip_sheet-requires c =
    omega (
      arith,
      length-range c.args.stream.now c.args.from c.args.to c.requires.within,
      c.requires.ordered,
      c.requires.within,
      c.requires.small,
    )

pub returns : goal.returns
returns c =
    sheet_put c.args.stream.now c.skip_sheet.new.stsh c.args.from c.args.to c.requires.ordered c.requires.within
    c.skip_sheet.ensures c.skip_sheet.auto.stsh
