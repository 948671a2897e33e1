use Rattle.std.proofs.Common.{◌≡◌, ◌∙◌, ap, ℕ, List}
use Rattle.std.proofs.lemmas.Result.{IfOk-weaker}
use Rattle.doc_bits.specs.Number.{u16_at}
use Rattle.run_stages.specs.Outcomes.{says}
use Rattle.doc_fit.specs.Lines.{not_word_line}
use Rattle.doc_fit.specs.Refusals.{IsOtherProgram}
use Rattle.doc_fit.proofs.refusing.other_program.Goals as goal

pub returns : goal.returns
returns c =
    let name = c.args.name.now in
    let text = c.in_ok-text.text in
    let found = c.in_ok-found.found in
    let is = c.in_ok-found.ensures in
    IfOk-weaker c.ending_of_name.result (λ e. e ≡ says 15 text) (λ e. IsOtherProgram c.args.file.now name e)
    (λ e ends. record {
      stream = is.stream;
      ends = ends ∙ ap (λ (t : List ℕ). says 15 t)
          (c.in_ok-text.ensures
          ∙ (ap (λ (n : ℕ). not_word_line name n found.version) is.ident
          ∙ ap (λ (n : ℕ). not_word_line name (u16_at is.stream.wd 0) n) is.version));
    }) c.ending_of_name.ensures
