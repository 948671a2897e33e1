use Rattle.std.proofs.lemmas.Result.{err_from_is_err_and, MatchResult-weaker}
use Rattle.file_rules.specs.SheetRules.{rules_of_sheet}
use Rattle.file_rules.specs.PartRules.{story_rules}
use Rattle.file_rules.proofs.RefusalLemmas.{refused-first, refused-next}
use Rattle.file_rules.proofs.parts.read_rest.Goals as goal

pub returns-in_err-sheet : goal.returns-in_err-sheet
returns-in_err-sheet c =
    let source = c.args.source.now in
    let fault = c.in_err-sheet.field-0.0 in
    let p = err_from_is_err_and c.from_residual.result c.from_residual.ensures.1 in
    rw (p.1, p.2) (refused-first (rules_of_sheet source) (story_rules source) fault c.in_err-sheet.ensures)

pub returns : goal.returns
returns c =
    let source = c.args.source.now in
    let sheet = c.in_ok-sheet.ensures.0 in
    MatchResult-weaker c.read_stories.result c.read_stories.ensures
    (λ parts read. ((sheet, read.0), read.1))
    (λ fault refused. refused-next (rules_of_sheet source) (story_rules source) fault sheet refused)
