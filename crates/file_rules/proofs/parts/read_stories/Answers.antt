use Rattle.std.proofs.lemmas.Result.{err_from_is_err_and}
use Rattle.file_rules.specs.FieldRules.{rules_of_fields}
use Rattle.file_rules.specs.PartRules.{other_rules}
use Rattle.file_rules.proofs.RefusalLemmas.{refused-next}
use Rattle.file_rules.proofs.parts.read_stories.Goals as goal

pub returns-in_err-others : goal.returns-in_err-others
returns-in_err-others c =
    let source = c.args.source.now in
    let fault = c.in_err-others.field-0.0 in
    let p = err_from_is_err_and c.from_residual-in_err-others.result c.from_residual-in_err-others.ensures.1 in
    rw (p.1, p.2)
    (refused-next (rules_of_fields source) (other_rules source) fault c.in_ok-fields.ensures.0 c.in_err-others.ensures)

pub returns : goal.returns
returns c =
    let fields = c.in_ok-fields.ensures in
    let others = c.in_ok-others.ensures in (
      (fields.0, others.0),
      record {
        has_sections = c.requires.sections;
        has_sheet = c.requires.sheet;
        has_main_fields = fields.1.0;
        has_note_fields = fields.1.1.0;
        has_head_fields = fields.1.1.1;
        has_refs = others.1.0;
        has_notes = others.1.1.0;
        has_heads = others.1.1.1.0;
        has_levels = others.1.1.1.1.0;
        has_bookmarks = others.1.1.1.1.1;
      },
    )
