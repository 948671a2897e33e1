use Rattle.std.proofs.Common.{sym, subst}
use Rattle.prop_map.specs.Formed.{IsPropertyMap, paragraph_groups}
use Rattle.style_sheet.specs.Formed.{IsFormedKind}
use Rattle.json_doc.proofs.style_reading.is_valid_kind.Goals as goal

pub returns-then-is_held : goal.returns-then-is_held
returns-then-is_held c =
    let pap : IsPropertyMap paragraph_groups c.in-Para.pap = c.is_held.ensures.0 c.if-is_held.true in (
      (λ e. subst IsFormedKind (sym c.in-Para.is) (pap, c.is_held-then-is_held.ensures.0 e)),
      λ formed. c.is_held-then-is_held.ensures.1 (subst IsFormedKind c.in-Para.is formed).1,
    )

pub returns-in-Char : goal.returns-in-Char
returns-in-Char c = (
  (λ e. subst IsFormedKind (sym c.in-Char.is) (c.is_held-in-Char.ensures.0 e)),
  λ formed. c.is_held-in-Char.ensures.1 (subst IsFormedKind c.in-Char.is formed),
)
