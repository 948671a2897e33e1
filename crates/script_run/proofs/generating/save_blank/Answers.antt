use Rattle.std.proofs.Common.{refl}
use Rattle.full_save.specs.Layout.{full_save_image}
use Rattle.script_run.proofs.GeneratedStartLemmas.{never_large, started_blank, again_in_full}
use Rattle.doc_model.specs.Blank.{blank_document}
use Rattle.script_run.proofs.generating.save_blank.Goals as goal

pub returns-in-Ok : goal.returns-in-Ok
returns-in-Ok c = again_in_full c.args.session.now c.full.new.self c.requires c.in-Ok.ensures.ok.1.1

pub unreachable-requires : goal.unreachable-requires
unreachable-requires c =
    never_large c.args.session.now.document c.in-Err-TooLarge.field-0 c.in-Err-TooLarge.field-0-0
    (started_blank (full_save_image blank_document) c.args.session.now refl c.requires) c.in-Err-TooLarge.ensures.err.1
    c.in-Err-TooLarge.field-0-is
