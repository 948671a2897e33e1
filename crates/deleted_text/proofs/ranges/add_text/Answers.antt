use Rattle.std.proofs.Common.{◌≡◌, ◌∙◌, ap, sym, arith, ℕ, List, [], ◌∷◌, ◌++◌, Option, length, append_assoc}
use Rattle.std.specs.List.{filter_map}
use Rattle.std.proofs.lemmas.List.{append-nil}
use Rattle.doc_parts.specs.Tabulated.{tabulate}
use Rattle.doc_losses.proofs.Public.{listed_more}
use Rattle.doc_mends.specs.declared.mends.DeletedRange.{DeletedRange}
use Rattle.deleted_text.specs.Ranges.{range_at}
use Rattle.deleted_text.proofs.ranges.add_text.Goals as goal

pub loop-at-init : goal.loop-at-init
unfolding tabulate
loop-at-init c = sym (append-nil c.args.ranges.now.items)

pub loop-at-preserved : goal.loop-at-preserved
loop-at-preserved c =
    let at = c.loop-at.at in
    let front : List DeletedRange = c.args.ranges.now.items in
    let f : ℕ → Option DeletedRange = range_at c.args.story c.args.flags.now in
    let pick : List (Option DeletedRange) → List DeletedRange = filter_map (λ (o : Option DeletedRange). o) in
    c.in_ok-add_found.ensures
    ∙ (ap (λ (l : List DeletedRange). l ++ pick (c.range_at.result ∷ [])) c.loop-at.invariant
    ∙ (append_assoc front (pick (tabulate f at)) (pick (c.range_at.result ∷ []))
    ∙ (ap (λ (o : Option DeletedRange). front ++ (pick (tabulate f at) ++ pick (o ∷ []))) c.range_at.ensures
    ∙ ap (λ (l : List DeletedRange). front ++ l) (sym (listed_more f at)))))

pub returns : goal.returns
returns c =
    let front : List DeletedRange = c.args.ranges.now.items in
    let f : ℕ → Option DeletedRange = range_at c.args.story c.args.flags.now in
    let all : c.loop-at.at ≡ length c.args.flags.now = omega (arith, c.loop-at-test.false) in
    c.loop-at.invariant
    ∙ ap (λ (n : ℕ). front ++ filter_map (λ (o : Option DeletedRange). o) (tabulate f n)) all
