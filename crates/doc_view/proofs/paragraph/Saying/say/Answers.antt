use Rattle.std.proofs.Common.{[], subst, sym}
use Rattle.doc_view.specs.declared.paragraph.Saying.{Saying}
use Rattle.doc_view.specs.Lines.{Says, shown_said}
use Rattle.std.proofs.Common.{◌∷◌}
use Rattle.page_out.proofs.Public.{put_none}
use Rattle.doc_view.proofs.SayingLemmas.{says_hidden, says_shown}
use Rattle.doc_view.proofs.paragraph.Saying.say.Goals as goal

pub returns-then-not-seen : goal.returns-then-not-seen
returns-then-not-seen g c =
    ([], (put_none g.K.Sink c.args.out.now c.args.page.now, says_hidden c.args.self.now c.args.seen.now c.requires (cc)))

pub returns : goal.returns
returns g c =
    let old = c.args.self.now in
    let seen = c.args.seen.now in (
      shown_said old seen.glyph,
      (
        c.show.ensures.said,
        subst (λ (s : Saying). Says old (seen ∷ []) s
            (shown_said old seen.glyph)) (sym c.show.ensures.after) (says_shown old seen c.requires (cc)),
      ),
    )
