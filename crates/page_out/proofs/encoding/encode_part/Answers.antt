use Rattle.std.proofs.Common.{◌≡◌, ◌∙◌, ◌++◌, ℕ, List, take, ap, sym, arith}
use Rattle.page_out.proofs.EncodingLemmas.{ascii_encoded}
use Rattle.page_out.proofs.encoding.encode_part.Goals as goal

pub returns-then-are_ascii-clause-bytes : goal.returns-then-are_ascii-clause-bytes
returns-then-are_ascii-clause-bytes c =
    c.put_ascii.ensures.bytes
    ∙ ap (λ (bytes : List ℕ). take c.args.len c.args.block.now ++ bytes)
    (sym (ascii_encoded c.args.units.now 8 (omega arith) (c.are_ascii.ensures c.if-are_ascii.true)))
