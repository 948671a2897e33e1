use Rattle.std.proofs.Common.{◌∙◌, sym, subst, arith, le-leb}
use Rattle.std.proofs.lemmas.Bool.{leb-true}
use Rattle.prop_map.specs.Formed.{IsPropertyMap}
use Rattle.fkp_pages.proofs.writable.is_writable.Goals as goal

pub returns-then-not-is_held : goal.returns-then-not-is_held
returns-then-not-is_held c = (
  λ t. absurd (cc),
  λ h. sym c.if-not-is_held.true ∙ c.is_held.ensures.1 (subst (λ g. IsPropertyMap g c.args.run.now.map)
      (sym c.groups_of_runs.ensures) h.formed),
)

pub printed_len-requires : goal.printed_len-requires
printed_len-requires c = (c.groups_of_runs.result, c.is_held.ensures.0 c.if-not-is_held.false)

pub returns : goal.returns
returns c =
    let len = c.printed_len.ensures.len in
    let most = c.most_printed.ensures in
    let formed = subst (λ g. IsPropertyMap g c.args.run.now.map) c.groups_of_runs.ensures (c.is_held.ensures.0
    c.if-not-is_held.false) in (
      λ t. let upto = leb-true c.printed_len.result c.most_printed.result t in record {
        order = omega arith;
        formed = formed;
        short = omega arith;
      },
      λ h. let short = h.short in le-leb _ _ (omega arith),
    )
