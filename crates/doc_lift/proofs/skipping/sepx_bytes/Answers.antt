use Rattle.std.specs.Prelude.{slice_range}
use Rattle.std.proofs.Common.{◌≡◌, ◌∙◌, ◌+◌, min, length, ap, sym, arith}
use Rattle.file_rules.proofs.Public.{range_within}
use Rattle.doc_lift.proofs.skipping.sepx_bytes.Goals as goal

pub returns : goal.returns
returns c =
    let wd = c.args.wd.now in
    let from = c.args.at + 2 in
    let to = from + c.args.count in
    let first : min (length wd) from ≡ from = omega (arith, c.requires) in
    ap (slice_range wd from) c.min-to.ensures
    ∙ (ap (λ n. slice_range wd n (min (length wd) to)) (sym first) ∙ range_within wd from to)
