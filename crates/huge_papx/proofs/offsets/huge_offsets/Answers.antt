use Rattle.std.proofs.Common.{refl}
use Rattle.std.proofs.lemmas.Result.{IfOk-weaker}
use Rattle.fkp_pages.specs.Bin.{IsBinTable}
use Rattle.huge_papx.specs.Offsets.{AreOffsets}
use Rattle.huge_papx.proofs.offsets.huge_offsets.Goals as goal

pub returns-then-not-is_bin_table : goal.returns-then-not-is_bin_table
returns-then-not-is_bin_table c = λ table. absurd (cc (c.if-not-is_bin_table.ensures.1 table))

pub offsets_of-requires : goal.offsets_of-requires
offsets_of-requires c = c.if-not-is_bin_table.ensures.0 refl

pub returns : goal.returns
returns c =
    let wd = c.args.wd.now in
    let bin = c.args.bin.now in
    let places = c.args.places.now in
    let units = c.args.units.now in
    IfOk-weaker c.offsets_of.result (λ offsets. AreOffsets wd bin places units offsets.items)
    (λ offsets. IsBinTable bin → AreOffsets wd bin places units offsets.items) (λ offsets are table. are)
    c.offsets_of.ensures
