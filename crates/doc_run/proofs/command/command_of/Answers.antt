use Rattle.std.proofs.Common.{◌≡◌, ◌∙◌, sym, subst, ◌∷◌, [], length, MatchOption, arith}
use Rattle.std.specs.String.{string_bytes}
use Rattle.doc_run.specs.Commands.{request_of, IsCommand, IsNoCommand}
use Rattle.doc_run.proofs.CommandLemmas.{four_spelt}
use Rattle.doc_run.proofs.command.command_of.Goals as goal

pub returns-in-len4 : goal.returns-in-len4
returns-in-len4 c =
    let words = c.args.words.now in
    let four : length words ≡ 4 = omega (arith, c.in-len4.len_at_least, c.in-len4.len_below) in
    let word = c.as_str-in-len4.ensures.value in
    let file = c.as_str-in-len4-2.ensures.value in
    let script = c.as_str-in-len4-3.ensures.value in
    let out = c.as_str-in-len4-4.ensures.value in
    let spelt =
    four_spelt string_bytes words _ _ _ _ four c.word-item-then-words-lt5.is c.file-item-then-words-lt5.is
    c.script-item.is c.out-item.is in
    subst (λ ws. MatchOption c.command_on_three.result (IsNoCommand ws) (λ command. IsCommand ws (request_of command)))
    (sym (spelt ∙ (λ i. sym word i ∷ sym file i ∷ sym script i ∷ sym out i ∷ []))) c.command_on_three.ensures
