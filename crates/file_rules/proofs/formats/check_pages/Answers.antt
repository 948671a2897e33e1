use Rattle.std.proofs.lemmas.Result.{err_from_is_err_and, MatchResult-weaker}
use Rattle.file_rules.specs.SectionRules.{HasSections}
use Rattle.file_rules.specs.FormatRules.{character_rules, format_rules, mark_rules}
use Rattle.file_rules.proofs.RefusalLemmas.{refused-first, refused-given, refused-next}
use Rattle.file_rules.proofs.formats.check_pages.Goals as goal

pub returns-in_err-check_characters : goal.returns-in_err-check_characters
returns-in_err-check_characters c =
    let source = c.args.source.now in
    let sections = c.args.sections.now in
    let fault = c.in_err-check_characters.field-0.0 in
    let p = err_from_is_err_and c.from_residual.result c.from_residual.ensures.1 in
    rw (p.1, p.2)
    (refused-given (HasSections source) (format_rules source) sections fault c.requires.sections
    (refused-first (character_rules source) (mark_rules source sections) fault c.in_err-check_characters.ensures))

pub returns : goal.returns
returns c =
    let source = c.args.source.now in
    let sections = c.args.sections.now in
    let characters = c.in_ok-check_characters.ensures in
    MatchResult-weaker c.check_marks.result c.check_marks.ensures
    (λ _ marks. (sections, (c.requires.sections, (characters, marks))))
    (λ fault refused. refused-given (HasSections source) (format_rules source) sections fault c.requires.sections
    (refused-next (character_rules source) (mark_rules source sections) fault characters refused))
