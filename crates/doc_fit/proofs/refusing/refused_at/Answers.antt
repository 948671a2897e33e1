use Rattle.std.proofs.Common.{◌≡◌, inl, inr}
use Rattle.std.proofs.lemmas.Result.{IfOk-weaker}
use Rattle.run_stages.specs.Lines.{rule_line}
use Rattle.run_stages.specs.Outcomes.{says}
use Rattle.doc_fit.specs.Lines.{encrypted_line}
use Rattle.doc_fit.specs.Refusals.{IsFitRefused, IsOtherProgram}
use Rattle.doc_fit.proofs.RefusalLemmas.{above_main, has_main}
use Rattle.doc_fit.proofs.refusing.refused_at.Goals as goal

pub other_program-requires : goal.other_program-requires
other_program-requires c =
    let tells = c.tells_program.ensures.0 c.if-tells_program.true in
    has_main c.args.file.now c.args.rule c.args.place (above_main c.args.rule tells) c.requires

pub returns-then-tells_program : goal.returns-then-tells_program
returns-then-tells_program c =
    let file = c.args.file.now in
    let name = c.args.name.now in
    let tells = c.tells_program.ensures.0 c.if-tells_program.true in
    IfOk-weaker c.other_program.result (λ e. IsOtherProgram file name e) (λ e. IsFitRefused file name e)
    (λ e is. record { rule = c.args.rule; place = c.args.place; first = c.requires; ends = inl (tells, is) })
    c.other_program.ensures

pub returns-then-rule-eq-RULE_ENCRYPTED : goal.returns-then-rule-eq-RULE_ENCRYPTED
returns-then-rule-eq-RULE_ENCRYPTED c =
    let file = c.args.file.now in
    let name = c.args.name.now in
    IfOk-weaker c.encrypted_ending.result (λ e. e ≡ says 16 (encrypted_line name)) (λ e. IsFitRefused file name e)
    (λ e is. record {
      rule = c.args.rule;
      place = c.args.place;
      first = c.requires;
      ends = inr (inl (c.if-rule-eq-RULE_ENCRYPTED.true, is));
    }) c.encrypted_ending.ensures

pub returns : goal.returns
returns c =
    let file = c.args.file.now in
    let name = c.args.name.now in
    let rule = c.args.rule in
    let tells = c.tells_program.ensures.1 in
    let never = c.if-tells_program.false in
    IfOk-weaker c.rule_broken.result (λ e. e ≡ says 1 (rule_line name rule c.args.place))
    (λ e. IsFitRefused file name e)
    (λ e is. record {
      rule = rule;
      place = c.args.place;
      first = c.requires;
      ends = inr (inr (
        record {
          not_ident = λ here. absurd (cc (never, tells (inl here)));
          not_version = λ here. absurd (cc (never, tells (inr here)));
          not_encrypted = c.if-rule-eq-RULE_ENCRYPTED.false;
        },
        is,
      ));
    }) c.rule_broken.ensures
