use Rattle.std.proofs.Common.{◌≡◌, ◌∙◌, ap, sym, refl, arith, ℕ, ◌+◌, [], ◌∷◌}
use Rattle.std.specs.Prelude.{nat_lt}
use Rattle.std.specs.List.{count_by}
use Rattle.doc_bits.specs.Number.{u16_at}
use Rattle.doc_parts.specs.Tabulated.{tabulate}
use Rattle.doc_parts.proofs.Public.{tabulate-next}
use Rattle.style_sheet.specs.Counted.{even_up}
use Rattle.style_sheet.specs.Stsh.{slot_place}
use Rattle.doc_losses.proofs.NumberLemmas.{count_by-append, slot_next}
use Rattle.doc_losses.proofs.sheet.sheet_beyond.Goals as goal

pub loop-istd-init : goal.loop-istd-init
unfolding tabulate
loop-istd-init c = record {
  place = c.even_up-place.ensures ∙ ap (λ (n : ℕ). even_up (2 + n)) c.word_at.ensures;
  low = omega (arith, c.even_up-place.ensures, c.word_at.type_inv);
  styles = refl;
  few = omega arith;
}

pub loop-istd-preserved : goal.loop-istd-preserved
loop-istd-preserved c =
    let part = c.args.part.now in
    let istd = c.loop-istd._istd in
    let before = c.loop-istd.invariant in
    let f : ℕ → ℕ = λ n. u16_at part (slot_place part n) in
    let len : c.word_at-len.result ≡ u16_at part (slot_place part istd) =
    c.word_at-len.ensures ∙ ap (u16_at part) before.place in
    record {
      place = c.even_up-place-in-loop-istd.ensures
          ∙ (ap (λ (n : ℕ). even_up (c.loop-istd.place + 2 + n)) len
          ∙ (ap (λ (p : ℕ). even_up (p + 2 + u16_at part (slot_place part istd))) before.place
          ∙ sym (slot_next part istd)));
      low = omega (arith, c.even_up-place-in-loop-istd.ensures, c.word_at-len.type_inv, before.low);
      styles = ap (λ (n : ℕ). n + c.count_if_filled-styles.result) before.styles
          ∙ (ap (λ (n : ℕ). count_by (nat_lt 0) (tabulate f istd) + n) (c.count_if_filled-styles.ensures.count
          ∙ ap (λ (n : ℕ). count_by (nat_lt 0) (n ∷ [])) len)
          ∙ (sym (count_by-append (nat_lt 0) (tabulate f istd) (f istd ∷ []))
          ∙ ap (count_by (nat_lt 0)) (sym (tabulate-next f istd))));
      few = omega (arith, before.few, c.count_if_filled-styles.ensures.few);
    }
