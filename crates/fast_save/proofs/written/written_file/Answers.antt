use Rattle.std.proofs.Common.{subst, Option, Some}
use Rattle.session_text.specs.declared.session_text.SessionText.{SessionText}
use Rattle.fast_save.specs.Written.{IsTextToWrite}
use Rattle.fast_save.proofs.WrittenLemmas.{can_written}
use Rattle.fast_save.proofs.written.written_file.Goals as goal

pub append_text-requires : goal.append_text-requires
append_text-requires c =
    let document = c.args.document.now in
    let parts = c.args.parts.now in
    let counts = c.args.counts.now in
    can_written c.args.bytes.now document parts counts (Some c.in-Some.text) c.requires
    (subst (λ (o : Option SessionText). IsTextToWrite document parts counts o) c.in-Some.is c.in_ok-text.ensures)
