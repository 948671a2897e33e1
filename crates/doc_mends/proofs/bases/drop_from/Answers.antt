use Rattle.std.proofs.Common.{◌≡◌, ◌∙◌, ◌++◌, ◌<◌, ap, sym, subst, ℕ, List, length}
use Rattle.std.specs.Prelude.{All}
use Rattle.style_sheet.specs.Sheet.{Sheet}
use Rattle.style_sheet.specs.Chain.{style_kind_at}
use Rattle.doc_mends.specs.Bases.{other_bases, bases_dropped, AreEndless}
use Rattle.doc_mends.proofs.BaseLemmas.{slots_stay, drops_joined}
use Rattle.doc_mends.proofs.bases.drop_from.Goals as goal

pub drop_each-requires : goal.drop_each-requires
drop_each-requires c =
    subst (All (λ istd. 0 < style_kind_at c.args.sheet.now istd)) (sym c.deref.ensures.value)
    c.in_ok-istds.ensures.kinds

pub drop_each-requires-2 : goal.drop_each-requires-2
drop_each-requires-2 c =
    subst (All (λ istd. 0 < style_kind_at c.drop_each.new.sheet istd)) (sym c.deref-2.ensures.value)
    c.in_ok-endless.ensures.kinds

pub returns-clause-drop : goal.returns-clause-drop
returns-clause-drop c =
    let old : Sheet = c.args.sheet.now in
    let made : Sheet = c.drop_each.new.sheet in
    let first : List ℕ = c.in_ok-istds.istds.items in
    let endless : List ℕ = c.in_ok-endless.endless.items in
    let others = c.in_ok-istds.ensures.list in
    let is : made ≡ bases_dropped (other_bases old) old =
    c.in_ok-drop_each.ensures ∙ ap (λ (l : List ℕ). bases_dropped l old) (c.deref.ensures.value ∙ others) in
    record {
      endless = endless;
      are = subst (λ (n : ℕ). AreEndless (bases_dropped (other_bases old) old) n endless)
          (slots_stay (other_bases old) old)
          (subst (λ (s : Sheet). AreEndless s (length s.styles) endless) is c.in_ok-endless.ensures.list);
      list = c.in_ok-extend_from_slice.ensures.items
          ∙ (ap (λ (l : List ℕ). l ++ c.deref-3.result.now) others
          ∙ ap (λ (l : List ℕ). other_bases old ++ l) c.deref-3.ensures.value);
    }

pub returns-clause-sheet : goal.returns-clause-sheet
returns-clause-sheet c =
    let old : Sheet = c.args.sheet.now in
    let made : Sheet = c.drop_each.new.sheet in
    let first : List ℕ = c.in_ok-istds.istds.items in
    let endless : List ℕ = c.in_ok-endless.endless.items in
    let is : made ≡ bases_dropped first old =
    c.in_ok-drop_each.ensures ∙ ap (λ (l : List ℕ). bases_dropped l old) c.deref.ensures.value in
    c.in_ok-drop_each-2.ensures
    ∙ (ap (λ (l : List ℕ). bases_dropped l made) c.deref-2.ensures.value
    ∙ (ap (bases_dropped endless) is
    ∙ (sym (drops_joined first endless old)
    ∙ ap (λ (l : List ℕ). bases_dropped l old) (sym (c.in_ok-extend_from_slice.ensures.items
    ∙ ap (λ (l : List ℕ). first ++ l) c.deref-3.ensures.value)))))
