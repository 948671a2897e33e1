use Rattle.std.proofs.Common.{◌≡◌, take, false}
use Rattle.markdown_page.specs.Runs.{has_emphasis}
use Rattle.markdown_page.proofs.shape.has_emphasis.Given as goal

-- none so far has white space outside of it
abbrev pub invariant-loop-i : goal.invariant-loop-i
invariant-loop-i l = has_emphasis (take l.i l.path) ≡ false
