use Rattle.std.proofs.Common.{sym, subst}
use Rattle.plain_doc.specs.Sound.{IsSound}
use Rattle.script_run.proofs.GeneratedStartLemmas.{blank_sound, never_large, file_is}
use Rattle.script_run.proofs.generating.saved_blank.Goals as goal

pub full-requires : goal.full-requires
full-requires c = subst IsSound (sym c.requires) blank_sound

pub unreachable-requires : goal.unreachable-requires
unreachable-requires c =
    never_large c.args.document.now c.in-Err-TooLarge.field-0 c.in-Err-TooLarge.field-0-0 c.requires
    c.in-Err-TooLarge.ensures c.in-Err-TooLarge.field-0-is

pub returns-in-Ok : goal.returns-in-Ok
returns-in-Ok c = file_is c.args.document.now c.in-Ok.file c.requires c.in-Ok.ensures.0
