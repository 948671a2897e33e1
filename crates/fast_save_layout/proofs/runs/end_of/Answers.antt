use Rattle.std.specs.Prelude.{slice_get}
use Rattle.std.proofs.Common.{◌≡◌, ◌∙◌, ◌-◌, ◌<◌, length, map, Some, sym, ap, subst, arith}
use Rattle.std.proofs.lemmas.Option.{get_or_from_slice_get}
use Rattle.doc_bits.proofs.Public.{there_is, get-map}
use Rattle.fkp_pages.specs.declared.lists.Run.{Run}
use Rattle.fast_save_layout.proofs.MarkLemmas.{end_is}
use Rattle.fast_save_layout.proofs.runs.end_of.Goals as goal

pub returns : goal.returns
returns c =
    let runs = c.args.runs.now in
    let count = c.len-count.ensures.count in
    let other = c.if-count-eq0.false in
    let some : 0 < length runs = omega (arith, count, other) in
    let found = there_is runs (length runs - 1) (omega (arith, some)) in
    let at : c.len-count.result - 1 ≡ length runs - 1 = omega (arith, count) in
    let here = subst (λ n. slice_get runs n ≡ Some found.0) (sym at) found.1 in
    let own = get_or_from_slice_get runs (c.len-count.result - 1) found.0 found.0 here in
    let tos = map (λ (run : Run). run.to) runs in
    let last = get_or_from_slice_get tos (length runs - 1) found.0.to 0
    (get-map (λ (run : Run). run.to) runs (length runs - 1) found.0 found.1) in
    (c.get-to.ensures found.0).1.0 ∙ (ap (λ (run : Run). run.to) own ∙ (sym last ∙ end_is c.args.start runs some))
