use Rattle.std.proofs.Common.{◌+◌, ◌*◌, ◌<◌, arith}
use Rattle.std.proofs.lemmas.List.Elements.{All-from_get_or}
use Rattle.doc_bits.proofs.Public.{number_at-bound}
use Rattle.style_sheet.proofs.decoding.read_style.Goals as goal

pub returns-clause-formed : goal.returns-clause-formed
returns-clause-formed c =
    let std = c.args.std.now in
    let name = c.in_ok-read_name.ensures in
    let count = name.count in
    let first = c.get16-first.type_inv in
    let second = c.get16.type_inv in
    let third = c.get16-2.type_inv in
    record {
      sti = omega arith;
      flags = omega arith;
      base = c.base_of.ensures.formed;
      next = omega arith;
      grfstd = c.get16-3.type_inv;
      name = All-from_get_or (λ unit. unit < 65536) c.in_ok-read_name.field-0 0 (λ i below.
          let e = name.each i (omega arith) in
          let low = number_at-bound std (c.args.base + 2 + 2 * i) 2 (λ k. omega (arith, c.type_inv.std k)) in
          rw e low);
      kind = c.in_ok-read_kind.ensures.formed;
    }
