use Rattle.doc_fit.proofs.ReadAsLemmas.{refused_not_accepted}
use Rattle.doc_fit.proofs.file_opening.is_accepted.Goals as goal

pub returns-in-Err-Refused : goal.returns-in-Err-Refused
returns-in-Err-Refused c =
    let refused = c.in-Err-Refused in
    let first = rw refused.field-0-is at refused.ensures in (
      (λ e. absurd (cc e)),
      (λ accepted. absurd
          (refused_not_accepted c.args.file.now refused.field-0-0 (refused.field-0-1, refused.field-0-2) first
          accepted)),
    )
