use Rattle.std.proofs.lemmas.Result.{err_from_is_err_and}
use Rattle.file_rules.specs.SectionRules.{rules_of_sections}
use Rattle.file_rules.specs.FormatRules.{rules_of_formats}
use Rattle.file_rules.proofs.OneLemmas.{sections_single}
use Rattle.file_rules.proofs.RefusalLemmas.{none-refused}
use Rattle.file_rules.proofs.formats.check_formats.Goals as goal

pub returns-in_err-sections : goal.returns-in_err-sections
returns-in_err-sections c =
    let source = c.args.source.now in
    let fault = c.in_err-sections.field-0.0 in
    let p = err_from_is_err_and c.from_residual.result c.from_residual.ensures.1 in
    rw (p.1, p.2)
    (none-refused (rules_of_sections source) (rules_of_formats source) fault (sections_single source) c.requires.0
    c.in_err-sections.ensures)
