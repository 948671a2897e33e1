-- What is behind the Rc is the whole columns.
use Rattle.std.proofs.Common.{sym, subst, length, ◌≤◌}
use Rattle.doc_columns.specs.declared.window.Whole.{Whole}
use Rattle.doc_columns.specs.Windows.{column_items, AreWhole, IsWalkOver}
use Rattle.doc_columns.proofs.shared_text.cut_from.Goals as goal

pub walk_before-start-requires : goal.walk_before-start-requires
walk_before-start-requires c =
    subst (λ (w : Whole). IsWalkOver w c.args.walk.now) (sym c.as_ref-columns.ensures) c.requires.walk

pub spans-requires-clause-whole : goal.spans-requires-clause-whole
spans-requires-clause-whole c = subst AreWhole (sym c.as_ref-columns.ensures) c.requires.whole

pub spans-requires-clause-within : goal.spans-requires-clause-within
spans-requires-clause-within c =
    subst (λ (w : Whole). c.args.to ≤ length (column_items w)) (sym c.as_ref-columns.ensures) c.requires.within

pub copy_range-requires-clause-whole : goal.copy_range-requires-clause-whole
copy_range-requires-clause-whole c = subst AreWhole (sym c.as_ref-columns.ensures) c.requires.whole

pub copy_range-requires-clause-within : goal.copy_range-requires-clause-within
copy_range-requires-clause-within c =
    subst (λ (w : Whole). c.args.to ≤ length (column_items w)) (sym c.as_ref-columns.ensures) c.requires.within
