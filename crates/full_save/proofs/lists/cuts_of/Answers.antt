use Rattle.std.proofs.Common.{◌≤◌, ◌<◌, ◌≡◌, ◌+◌, length, get_or, [], arith, sym, ap, subst, ◌∙◌}
use Rattle.doc_model.specs.Collected.{joined_texts}
use Rattle.std.proofs.lemmas.Option.{get_or_from_slice_get}
use Rattle.full_save.proofs.ListLemmas.{IsAtText, IsCutUpTo, text_fits, at_next, at_last, cut_next, cut_last, some_cut}
use Rattle.full_save.proofs.lists.cuts_of.Goals as goal

pub overflow_add-cp : goal.overflow_add-cp
overflow_add-cp c =
    let texts = c.args.texts.now in
    let end = c.len-k-end.ensures.len in
    let low : c.loop-k.k < length texts = let test = c.loop-k-test.true in omega arith in
    let here = get_or_from_slice_get texts c.loop-k.k c.get.result.now [] c.get.ensures in
    let size = ap length here in
    let fits = text_fits texts c.loop-k.k c.loop-k.cp low c.loop-k.invariant.0 in
    let count = c.len.ensures.len in
    let small = c.requires in
    omega arith

pub loop-k-preserved : goal.loop-k-preserved
loop-k-preserved c =
    let texts = c.args.texts.now in
    let k = c.loop-k.k in
    let cp = c.loop-k.cp in
    let end = c.len-k-end.ensures.len in
    let low : k < length texts = let test = c.loop-k-test.true in omega arith in
    let here = get_or_from_slice_get texts k c.get.result.now [] c.get.ensures in
    let size : length (get_or texts k []) ≡ c.len.result = ap length here ∙ sym c.len.ensures.len in (
      subst (λ n. IsAtText texts (k + 1) (cp + n)) size (at_next texts k cp low c.loop-k.invariant.0),
      subst (λ n. IsCutUpTo texts (k + 1) (cp + n) c.add.new.self) size
          (cut_next texts k cp c.loop-k.cuts c.add.new.self low c.in_ok-add.ensures.ok c.loop-k.invariant.1),
    )

pub returns : goal.returns
returns c =
    let texts = c.args.texts.now in
    let len = c.len-k-end.ensures.len in
    let test = c.loop-k-test.false in
    let past : length texts ≤ c.loop-k.k = omega arith in
    let last = at_last texts c.loop-k.k c.loop-k.cp past c.loop-k.invariant.0 in
    let other = c.if-cp-eq0.false in
    let some : 1 ≤ length (joined_texts texts) = omega arith in
    c.in_ok-add-2.ensures.ok
    ∙ (cut_last texts c.loop-k.k c.loop-k.cp c.loop-k.cuts past c.loop-k.invariant.1
    ∙ sym (some_cut (joined_texts texts) texts some))
