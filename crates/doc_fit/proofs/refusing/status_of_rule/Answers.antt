use Rattle.std.proofs.Common.{inl, inr, refl}
use Rattle.doc_fit.proofs.refusing.status_of_rule.Goals as goal

pub returns-then-tells_program : goal.returns-then-tells_program
returns-then-tells_program c = inl (c.tells_program.ensures.0 c.if-tells_program.true, refl)

pub returns-then-rule-eq-RULE_ENCRYPTED : goal.returns-then-rule-eq-RULE_ENCRYPTED
returns-then-rule-eq-RULE_ENCRYPTED c = inr (inl (c.if-rule-eq-RULE_ENCRYPTED.true, refl))

pub returns : goal.returns
returns c =
    let tells = c.tells_program.ensures.1 in
    let never = c.if-tells_program.false in
    inr (inr (
      record {
        not_ident = λ here. absurd (cc (never, tells (inl here)));
        not_version = λ here. absurd (cc (never, tells (inr here)));
        not_encrypted = c.if-rule-eq-RULE_ENCRYPTED.false;
      },
      refl,
    ))
