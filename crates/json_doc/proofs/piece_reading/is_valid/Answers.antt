use Rattle.std.proofs.Common.{rules}
use Rattle.json_doc.proofs.piece_reading.is_valid.Goals as goal

pub returns : goal.returns
returns c =
    let chp = c.is_held.ensures.0 (search rules) in
    let pap = c.has_valid_mark.ensures.0 (search rules) in
    let sect = c.has_valid_section.ensures.0 (search rules) in (
      (λ e.
          let len = c.has_valid_len.ensures.0 e in
          record { chp = chp; pap = pap; sect = sect; some = len.0; alone = len.1 }),
      λ right. c.has_valid_len.ensures.1 (right.some, right.alone),
    )
