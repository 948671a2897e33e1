use Rattle.std.proofs.Common.{◌∙◌, refl, sym}
use Rattle.deleted_text.proofs.NoneLemmas.{ranges_none}
use Rattle.deleted_text.proofs.ranges.deleted_ranges.Goals as goal

pub returns-then-not-has_deleted : goal.returns-then-not-has_deleted
returns-then-not-has_deleted c =
    c.new-ranges.ensures.items
    ∙ sym (ranges_none c.args.begins c.args.flags.now c.args.document.now
    (c.if-not-has_deleted.ensures refl))
