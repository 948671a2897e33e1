use Rattle.std.proofs.Common.{inl, inr, refl, subst, arith}
use Rattle.part_skips.specs.Prcs.{PutsPrcs}
use Rattle.doc_meaning.specs.Apart.{clx_from}
use Rattle.doc_lift.proofs.clx_skipping.skip_clx.Goals as goal

pub returns-then-not-is_clx_apart : goal.returns-then-not-is_clx_apart
returns-then-not-is_clx_apart c =
    inr ((λ apart. absurd (cc (c.if-not-is_clx_apart.ensures.1 apart))), refl)

pub skip_prcs_in-requires-clause-ordered : goal.skip_prcs_in-requires-clause-ordered
skip_prcs_in-requires-clause-ordered c = omega (arith, c.clx_start.ensures, c.clx_end.ensures)

pub skip_prcs_in-requires-clause-within : goal.skip_prcs_in-requires-clause-within
skip_prcs_in-requires-clause-within c =
    let within = (c.if-not-is_clx_apart.ensures.0 refl).within in omega (arith, within, c.clx_end.ensures)

pub returns : goal.returns
returns c =
    let old = c.args.table.now in
    let new = c.skip_prcs_in.new.stream in
    inl (record {
      apart = c.if-not-is_clx_apart.ensures.0 refl;
      puts = subst (λ to. PutsPrcs (clx_from c.args.early.now.pairs) to old new) c.clx_end.ensures
          (subst (λ from. PutsPrcs from c.clx_end.result old new) c.clx_start.ensures c.skip_prcs_in.ensures);
    })
