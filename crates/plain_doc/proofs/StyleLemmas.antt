-- The styles that a rule speaks of are within the sheet.
use Rattle.std.proofs.Common.{◌≡◌, ℕ, ◌<◌, ◌≤◌, length, None, sym, ◌∙◌, inl, inr, subst, arith}
use Rattle.std.proofs.lemmas.Bool.{cases_lt}
use Rattle.std.proofs.lemmas.List.{get_or_past}
use Rattle.std.proofs.lemmas.Option.{none-some}
use Rattle.doc_bits.specs.Rules.{Nowhere}
use Rattle.style_sheet.specs.Sheet.{Sheet, style_at}
use Rattle.style_sheet.specs.Written.{written_slot}
use Rattle.plain_doc.specs.declared.rules_sheet.StyleRule.{StyleRule}
use Rattle.plain_doc.specs.declared.rules_sheet.StyleRule.TheVariants.{Properties, Written}
use Rattle.plain_doc.specs.StyleRules.{IsValidStyle, IsWrongStyle}

right_past : (rule : StyleRule) (sheet : Sheet) (istd : ℕ) → style_at sheet istd ≡ None → IsValidStyle rule sheet istd
right_past Properties sheet istd none = λ style is. absurd (none-some style (sym none ∙ is))
right_past Written sheet istd none = subst (λ slot. length (written_slot istd slot) ≤ 32767) (sym none) (omega arith)

wrong_within : (rule : StyleRule) (sheet : Sheet) (istd : ℕ) → IsWrongStyle rule sheet istd → istd < length sheet.styles
wrong_within rule sheet istd wrong = elim (cases_lt istd (length sheet.styles)) [
  | inl low ↦ low
  | inr past ↦ absurd (wrong (right_past rule sheet istd (get_or_past sheet.styles istd None past)))
]

pub none_wrong : (rule : StyleRule) (sheet : Sheet) (n : ℕ) → length sheet.styles ≤ n →
    ((k : ℕ) → k < n → IsWrongStyle rule sheet k → ⊥) → Nowhere (IsWrongStyle rule sheet)
none_wrong rule sheet n all before =
    λ p wrong. let within = wrong_within rule sheet p wrong in before p (omega arith) wrong
