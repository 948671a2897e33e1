use Rattle.std.proofs.Common.{refl, sym, subst}
use Rattle.style_sheet.specs.Changes.{HasParagraphsOver}
use Rattle.style_sheet.proofs.ChangeLemmas.{char_paragraphs, other_paragraphs}
use Rattle.style_sheet.proofs.styles.Kind.with_paragraphs.Goals as goal

pub returns-in_ok-both-in-Para : goal.returns-in_ok-both-in-Para
returns-in_ok-both-in-Para c =
    subst (λ kind. HasParagraphsOver kind c.args.set.now c.in_ok-both-in-Para.both) (sym c.in-Para.is)
    c.in_ok-both-in-Para.ensures

pub returns-in_ok-chp-in-Char : goal.returns-in_ok-chp-in-Char
returns-in_ok-chp-in-Char c =
    char_paragraphs c.args.self.now c.in-Char.chp c.args.set.now c.in_ok-chp-in-Char.chp c.in-Char.is
    c.in_ok-chp-in-Char.ensures

pub returns-in_ok-other-in-Other : goal.returns-in_ok-other-in-Other
returns-in_ok-other-in-Other c =
    subst (λ kind. HasParagraphsOver c.args.self.now c.args.set.now kind) (sym c.in_ok-other-in-Other.ensures)
    (other_paragraphs c.args.self.now c.in-Other.stk c.in-Other.upxes c.in-Other.upxes c.args.set.now c.in-Other.is refl)
