use Rattle.std.proofs.Common.{sym, subst, arith}
use Rattle.style_sheet.specs.Formed.{IsFormedStyle, IsFormedSheet}
use Rattle.style_sheet.proofs.OneChainLemmas.{there}
use Rattle.style_sheet.proofs.ChangeLemmas.{paragraphs_formed, style_formed, kind_formed}
use Rattle.style_sheet.proofs.sheet.StyleSheet.set_para.Goals as goal

pub put-requires-clause-formed : goal.put-requires-clause-formed
put-requires-clause-formed c =
    let sheet = c.args.self.now in
    let style = c.unwrap-style.result.now in
    let kind = c.in_ok-kind.kind in
    let formed = subst IsFormedSheet c.self.view_is c.self.invariant in
    let properties = c.requires.properties in
    let found = rw c.unwrap-style.ensures at c.get.ensures.style in
    let old = style_formed sheet c.args.istd style (there sheet c.args.istd (omega arith)) formed.styles found in
    subst IsFormedStyle (sym c.with_kind-style.ensures) (kind_formed style kind old (paragraphs_formed c.args.set.now
    style.kind kind c.requires.formed old.kind c.in_ok-kind.ensures))
