use Rattle.std.proofs.Common.{◌≡◌, ◌∙◌, ◌++◌, ◌∷◌, [], length, sym, arith, rules}
use Rattle.std.specs.Vec.{vec_len}
use Rattle.std.proofs.lemmas.Result.{IfOk-weaker}
use Rattle.full_save.specs.Text.{extra_mark, with_mark}
use Rattle.doc_columns.proofs.Public.{text_long}
use Rattle.session_text.proofs.GatherLemmas.{marked_some}
use Rattle.session_text.proofs.gathered.TextBuilder.with_last.Goals as goal

pub returns : goal.returns
returns c =
    let own = c.self.inside in
    let all = c.args.self in
    let long = text_long own.units.items own.chps own.attachments all c.self.invariant c.self.view_is in
    let len : vec_len own.units ≡ length own.units.items = search rules in
    IfOk-weaker c.with_mark.result (λ made. made ≡ all ++ extra_mark ∷ []) (λ made. made ≡ with_mark all)
    (λ made is. is ∙ sym (marked_some all (omega (arith, long, len, c.len-count.ensures, c.if-count-eq0.false))))
    c.with_mark.ensures
