use Rattle.std.proofs.Common.{take}
use Rattle.page_out.specs.Printed.{Prints}
use Rattle.html_text.specs.Tokens.{escaped_text}
use Rattle.html_page.specs.Images.{path_url}
use Rattle.html_page.proofs.images.push_path.Given as goal

-- the bytes so far were put
abbrev pub invariant-loop-byte : goal.invariant-loop-byte
invariant-loop-byte g l =
    Prints g.K.Sink l.fn.out l.fn.page l.out l.page (escaped_text (path_url (take l.byte-index l.path)))
