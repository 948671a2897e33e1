use Rattle.std.proofs.Common.{◌∙◌, sym, refl}
use Rattle.std.proofs.lemmas.Option.{none-some}
use Rattle.prl_skips.proofs.Public.{spelt_accepted}
use Rattle.deleted_text.proofs.CodeLemmas.{lacks_says}
use Rattle.deleted_text.proofs.lists.says_deleted.Goals as goal

pub returns-in-None : goal.returns-in-None
returns-in-None c =
    let accepted = c.in-None.ensures.accepted.0 refl in (
      λ t. record {
        prls = accepted.list;
        spelt = accepted.spelt;
        deleted = sym (c.last_says.ensures accepted.list accepted.spelt) ∙ t;
      },
      λ says. c.last_says.ensures says.prls says.spelt ∙ says.deleted,
    )

pub returns-in-Some : goal.returns-in-Some
returns-in-Some c = (
  λ t. absurd (cc t),
  λ says. absurd (none-some _
      (sym (c.in-Some.ensures.accepted.1 (spelt_accepted c.args.list.now says.prls says.spelt)))),
)

pub returns-then-lacks_code : goal.returns-then-lacks_code
returns-then-lacks_code c = (
  λ t. absurd (cc t),
  λ says. absurd (lacks_says c.args.list.now (c.if-lacks_code.ensures refl) says),
)
