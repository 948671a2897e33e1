use Rattle.std.proofs.Common.{◌+◌, ◌*◌, ap, length, arith}
use Rattle.doc_bits.proofs.Public.{length-range}
use Rattle.huge_papx.proofs.OffsetLemmas.{in_page, no_bin, no_page, listed}
use Rattle.huge_papx.proofs.offsets.list_at.Goals as goal

pub returns-in_default : goal.returns-in_default
returns-in_default c = no_bin c.args.wd.now c.args.bin.now c.args.fc c.in_default.ensures

pub returns-in_default-page_in : goal.returns-in_default-page_in
returns-in_default-page_in c =
    no_page c.args.wd.now c.args.bin.now c.args.fc c.in-Some.number c.requires c.in-Some.ensures
    c.in_default-page_in.ensures

pub list_of-requires : goal.list_of-requires
list_of-requires c =
    let there = c.in-Some-page_in.ensures in
    let number = c.in-Some.number in
    in_page c.in-Some-page_in.page.now c.args.fc c.papx_at.result (omega (
      arith,
      ap length there.1,
      length-range c.args.wd.now (512 * number) (512 * number + 512) there.0,
    )) c.papx_at.ensures

pub returns : goal.returns
returns c =
    let there = c.in-Some-page_in.ensures in
    listed (λ list. list.now) c.args.wd.now c.args.bin.now c.args.fc c.in-Some.number c.in-Some-page_in.page.now
    c.papx_at.result there.1 c.requires c.in-Some.ensures there.0 c.papx_at.ensures c.list_of.result c.list_of.ensures
