use Rattle.std.proofs.Common.{◌≡◌, ◌++◌, ℕ, List, length}
use Rattle.page_out.specs.Printed.{Prints}
use Rattle.markdown_text.specs.Tokens.{destination_text}
use Rattle.markdown_page.proofs.pen.Pen.put_url.Given as goal

-- the characters that were taken were put
abbrev pub invariant-loop-character : goal.invariant-loop-character
invariant-loop-character g l = record {
  front : List ℕ;
  all : l.fn.url ≡ front ++ l.left;
  prints : Prints g.K.Sink l.fn.out l.fn.self.page l.out l.self.page (destination_text front);
  line : l.self.line ≡ l.fn.self.line;
}

abbrev pub decreases-loop-character : goal.decreases-loop-character
decreases-loop-character g l = length l.left
