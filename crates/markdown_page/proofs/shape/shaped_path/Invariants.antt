use Rattle.std.proofs.Common.{◌≡◌, ◌≤◌, length, take}
use Rattle.std.specs.Prelude.{filter}
use Rattle.markdown_page.specs.Shape.{keeps, element_kind}
use Rattle.markdown_page.proofs.shape.shaped_path.Given as goal

-- the elements so far were gone through
abbrev pub invariant-loop-i : goal.invariant-loop-i
invariant-loop-i l = record {
  kept : l.path ≡ filter (λ element. keeps l.inner l.space (element_kind element)) (take l.i l.to);
  few : length l.path ≤ l.i;
}
