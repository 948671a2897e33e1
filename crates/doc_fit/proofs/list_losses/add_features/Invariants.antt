use Rattle.std.proofs.Common.{◌≡◌, ◌++◌, drop, map}
use Rattle.text_losses.specs.Lines.{feature_line}
use Rattle.doc_fit.proofs.list_losses.add_features.Given as goal

-- with the lines of the features that are left they are all
abbrev pub invariant-loop-i : goal.invariant-loop-i
invariant-loop-i l = l.lines ++ map feature_line (drop l.i l.features) ≡ l.fn.lines ++ map feature_line l.features
