use Rattle.std.proofs.Common.{◌<◌}
use Rattle.style_sheet.specs.Chain.{style_kind_at}
use Rattle.doc_mends.proofs.BaseLemmas.{judged_one, kinds_one}
use Rattle.doc_mends.proofs.bases.endless_bases.Goals as goal

pub loop-istd-preserved : goal.loop-istd-preserved
loop-istd-preserved c =
    let sheet = c.args.sheet.now in
    let istd = c.loop-istd.istd in
    let is = c.is_endless.result in
    record {
      are = rw c.in_ok-add_where.ensures (judged_one sheet istd c.loop-istd.istds.items is c.loop-istd.invariant.are
          c.is_endless.ensures);
      kinds = rw c.in_ok-add_where.ensures (kinds_one (λ istd. 0 < style_kind_at sheet istd) c.loop-istd.istds.items
          istd is
          c.loop-istd.invariant.kinds (λ yes. (c.is_endless.ensures.0 yes).properties));
    }
