use Rattle.file_mends.proofs.SheetLemmas.{refused_sheet}
use Rattle.file_mends.proofs.mended_sheets.mended_sheet.Goals as goal

pub returns-in-Err-Rule : goal.returns-in-Err-Rule
returns-in-Err-Rule c =
    refused_sheet c.args.file.now c.args.rule c.args.offset c.in-Err-Rule.field-0 c.in-Err-Rule.field-0-0
    c.in-Err-Rule.field-0-1 c.in-Err-Rule.field-0-is c.in-Err-Rule.ensures
