use Rattle.std.proofs.Common.{◌≡◌, None, sym, ◌∙◌, arith}
use Rattle.char_formats.specs.Formats.{font_of, is_nonzero_value, position_of, symbol_of, format_in}
use Rattle.char_formats.proofs.ChangeLemmas.{on-after, instead-unwrap}
use Rattle.char_formats.proofs.change.Change.format.Goals as goal

pub returns : goal.returns
unfolding format_in
returns c = λ act h.
    let change = c.args.self.now in
    let bold : c.is_on.result ≡ is_nonzero_value (act 0x0835 None) = c.is_on.ensures ∙ on-after act change h 2 (omega
    arith) in
    let italic : c.is_on-2.result ≡ is_nonzero_value (act 0x0836 None) =
    c.is_on-2.ensures ∙ on-after act change h 3 (omega arith) in
    let underline : c.is_on-3.result ≡ is_nonzero_value (act 0x2A3E None) =
    c.is_on-3.ensures ∙ on-after act change h 10 (omega arith) in
    let strike : c.is_on-4.result ≡ is_nonzero_value (act 0x0837 None) =
    c.is_on-4.ensures ∙ on-after act change h 4 (omega arith) in
    let twice : c.is_on-5.result ≡ is_nonzero_value (act 0x2A53 None) =
    c.is_on-5.ensures ∙ on-after act change h 11 (omega arith) in
    let small_caps : c.is_on-6.result ≡ is_nonzero_value (act 0x083A None) =
    c.is_on-6.ensures ∙ on-after act change h 5 (omega arith) in
    let caps : c.is_on-7.result ≡ is_nonzero_value (act 0x083B None) =
    c.is_on-7.ensures ∙ on-after act change h 6 (omega arith) in
    let position : c.unwrap_or.result ≡ position_of (act 0x2A48 None) =
    c.unwrap_or.ensures ∙ (instead-unwrap change.position _ ∙ sym (h.position None)) in
    let hidden : c.is_on-8.result ≡ is_nonzero_value (act 0x083C None) =
    c.is_on-8.ensures ∙ on-after act change h 7 (omega arith) in
    let special : c.is_on-9.result ≡ is_nonzero_value (act 0x0855 None) =
    c.is_on-9.ensures ∙ on-after act change h 8 (omega arith) in
    let of_field : c.is_on-10.result ≡ is_nonzero_value (act 0x0806 None) =
    c.is_on-10.ensures ∙ on-after act change h 0 (omega arith) in
    let ole : c.is_on-11.result ≡ is_nonzero_value (act 0x080A None) =
    c.is_on-11.ensures ∙ on-after act change h 1 (omega arith) in
    let object : c.is_on-12.result ≡ is_nonzero_value (act 0x0856 None) =
    c.is_on-12.ensures ∙ on-after act change h 9 (omega arith) in
    let symbol : c.unwrap_or-2.result ≡ symbol_of (act 0x6A09 None) =
    c.unwrap_or-2.ensures ∙ (instead-unwrap change.symbol _ ∙ sym (h.symbol None)) in
    let font : c.unwrap_or-3.result ≡ font_of (act 0x4A51 None) =
    c.unwrap_or-3.ensures ∙ (instead-unwrap change.font _ ∙ sym (h.font None)) in
    rw (
      bold,
      italic,
      underline,
      strike,
      twice,
      small_caps,
      caps,
      position,
      hidden,
      special,
      of_field,
      ole,
      object,
      symbol,
      font,
    )
