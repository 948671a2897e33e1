use Rattle.std.proofs.Common.{◌∙◌, ◌%◌, ◌+◌, ◌==◌, length, ap, sym}
use Rattle.full_save.proofs.MeasureLemmas.{sepx_long}
use Rattle.full_save.proofs.measures.sepx_len.Goals as goal

pub returns-clause-is : goal.returns-clause-is
returns-clause-is c =
    let plain = sym (c.is_empty.ensures ∙ ap (λ xs. length xs == 0) c.entries.ensures) in
    ap (λ n. 2 + n + n % 2) c.printed_len-len.ensures.len
    ∙ sym (sepx_long c.args.properties.now c.is_empty.result plain (sym c.if-is_empty.false))
