use Rattle.std.proofs.Common.{◌≡◌, take, false}
use Rattle.doc_html.specs.Head.{is_title_text}
use Rattle.doc_html.proofs.title.is_title.Given as goal

-- none so far is more than a space
abbrev pub invariant-loop-unit : goal.invariant-loop-unit
invariant-loop-unit l = is_title_text (take l.unit-index l.units) ≡ false
