use Rattle.std.specs.Prelude.{replicate}
use Rattle.std.proofs.Common.{◌≡◌, false, refl}
use Rattle.std.proofs.lemmas.Result.{IfOk-weaker}
use Rattle.fkp_pages.specs.Bin.{IsBinTable}
use Rattle.deleted_text.specs.Places.{AreDeletions}
use Rattle.deleted_text.proofs.CodeLemmas.{silent_flags}
use Rattle.deleted_text.proofs.places.deleted_places.Goals as goal

pub returns-then-not-is_bin_table : goal.returns-then-not-is_bin_table
returns-then-not-is_bin_table c = λ table. absurd (cc (c.if-not-is_bin_table.ensures.1 table))

pub returns-then-silent : goal.returns-then-silent
returns-then-silent c =
    let wd = c.args.wd.now in
    let bin = c.args.bin.now in
    let places = c.args.places.now in
    let count = c.len.result in
    IfOk-weaker c.no_flags.result (λ flags. flags.items ≡ replicate count false)
    (λ flags. IsBinTable bin → AreDeletions wd bin places flags.items)
    (λ flags are table.
    silent_flags wd bin places flags.items count c.len.ensures.len are (c.in_ok-silent.ensures c.if-silent.true))
    c.no_flags.ensures

pub flags_of-requires : goal.flags_of-requires
flags_of-requires c = c.if-not-is_bin_table.ensures.0 refl

pub returns : goal.returns
returns c =
    let wd = c.args.wd.now in
    let bin = c.args.bin.now in
    let places = c.args.places.now in
    IfOk-weaker c.flags_of.result (λ flags. AreDeletions wd bin places flags.items)
    (λ flags. IsBinTable bin → AreDeletions wd bin places flags.items) (λ flags are table. are) c.flags_of.ensures
