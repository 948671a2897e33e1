use Rattle.std.proofs.Common.{◌≡◌, ◌++◌, ℕ, List, length}
use Rattle.page_out.specs.Printed.{Prints}
use Rattle.html_text.specs.Tokens.{escaped_text}
use Rattle.html_page.proofs.attributes.push_value.Given as goal

-- the characters that were taken were put
abbrev pub invariant-loop-character : goal.invariant-loop-character
invariant-loop-character g l = record {
  front : List ℕ;
  all : l.fn.text ≡ front ++ l.left;
  prints : Prints g.K.Sink l.fn.out l.fn.page l.out l.page (escaped_text front);
}

abbrev pub decreases-loop-character : goal.decreases-loop-character
decreases-loop-character g l = length l.left
