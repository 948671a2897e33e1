use Rattle.std.proofs.Common.{◌∙◌, ◌<◌, ◌++◌, ap, sym, subst, List, ℕ}
use Rattle.std.proofs.lemmas.List.Elements.{All-nil}
use Rattle.std.specs.Prelude.{All, filter, if◌then◌else◌, [], ◌∷◌}
use Rattle.doc_parts.specs.Tabulated.{tabulate}
use Rattle.doc_parts.proofs.Public.{kept-next}
use Rattle.style_sheet.specs.Chain.{style_kind_at}
use Rattle.doc_mends.specs.Bases.{has_other_base}
use Rattle.doc_mends.proofs.BaseLemmas.{kinds_one, one_filtered, other_kind}
use Rattle.doc_mends.proofs.bases.other_bases.Goals as goal

pub loop-istd-init : goal.loop-istd-init
unfolding tabulate
loop-istd-init c = record {
  list = c.new-istds.ensures.items;
  kinds = subst (All (λ istd. 0 < style_kind_at c.args.sheet.now istd)) (sym c.new-istds.ensures.items)
      (All-nil (λ (istd : ℕ). 0 < style_kind_at c.args.sheet.now istd));
}

pub loop-istd-preserved : goal.loop-istd-preserved
loop-istd-preserved c =
    let sheet = c.args.sheet.now in
    let istd = c.loop-istd.istd in
    let is = c.has_other_base.result in
    let p = has_other_base sheet in
    record {
      list = c.in_ok-add_where.ensures
          ∙ (ap (λ (l : List ℕ). l ++ (if is then istd ∷ [] else [])) c.loop-istd.invariant.list
          ∙ (ap (λ (l : List ℕ). filter p (tabulate (λ istd. istd) istd) ++ l) (one_filtered p istd is
          c.has_other_base.ensures)
          ∙ sym (kept-next p (λ istd. istd) istd)));
      kinds = rw c.in_ok-add_where.ensures (kinds_one (λ istd. 0 < style_kind_at sheet istd) c.loop-istd.istds.items
          istd is
          c.loop-istd.invariant.kinds (λ yes. other_kind sheet istd (sym c.has_other_base.ensures ∙ yes)));
    }
