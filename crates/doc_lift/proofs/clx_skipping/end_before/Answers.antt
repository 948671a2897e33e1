use Rattle.std.proofs.Common.{◌≤◌, arith}
use Rattle.doc_bits.proofs.Public.{hold_or_first}
use Rattle.doc_parts.specs.Levels.{level_rules}
use Rattle.doc_lift.proofs.clx_skipping.end_before.Goals as goal

pub returns-in-None : goal.returns-in-None
returns-in-None c =
    let pair = c.args.pair in (
      λ t. absurd (cc t),
      λ ends. absurd (hold_or_first (λ a b. a ≤ b) (level_rules c.args.table.now pair.0 pair.1) 56
          c.in-None.ensures.0 tt ends.whole c.in-None.ensures.1),
    )

pub returns-in-Some : goal.returns-in-Some
returns-in-Some c =
    let have = c.in-Some.ensures in (
      λ t. record {
        within = omega (arith, c.if-table_len-from.false);
        whole = have.0;
        before =
            let low = c.is_up_to.ensures.0 t in
            omega (arith, have.1, low);
      },
      λ ends. let before = ends.before in
          c.is_up_to.ensures.1 (omega (arith, have.1, before)),
    )
