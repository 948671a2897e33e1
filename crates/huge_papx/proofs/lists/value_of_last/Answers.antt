use Rattle.std.specs.Prelude.{option_map}
use Rattle.std.specs.Option.{option_or}
use Rattle.std.proofs.Common.{◌∙◌, ap, sym, ◌∷◌, [], slice_range, List, ℕ}
use Rattle.huge_papx.specs.Lists.{last_value}
use Rattle.huge_papx.proofs.ListLemmas.{found_none, found_more, found_all}
use Rattle.huge_papx.proofs.lists.value_of_last.Goals as goal

pub loop-code-init : goal.loop-code-init
loop-code-init c = record {
  bytes = ap (λ s. s.bytes) c.new-prls.ensures;
  so_far = λ prls spelt. found_none c.args.sought prls c.args.list.now c.new-prls.result c.new-prls.ensures spelt;
}

pub loop-code-preserved : goal.loop-code-preserved
loop-code-preserved c =
    let inv = c.loop-code.invariant in
    let from = c.in-Some.from in
    let to = c.in-Some.to in
    let before = option_map (λ value. value.now) c.loop-code.last in
    record {
      bytes = c.in-Some.ensures.given.bytes ∙ inv.bytes;
      so_far = λ prls spelt.
          let so_far = inv.so_far prls spelt in
          found_more c.args.sought prls c.loop-code.prls c.next.new.self before
          (option_map (λ value. value.now) c.after_sprm-last.result) c.in-Some.code.0 from to so_far
          (c.in-Some.ensures.taken so_far.others so_far.spelt)
          (c.after_sprm-last.ensures
          ∙ ap (λ (bytes : List ℕ). option_or (last_value c.args.sought
          ((c.in-Some.code.0, slice_range bytes from to) ∷ [])) before) (sym inv.bytes));
    }

pub returns : goal.returns
returns c = λ prls spelt.
    let so_far = c.loop-code.invariant.so_far prls spelt in
    found_all c.args.sought prls c.loop-code.prls (option_map (λ value. value.now) c.loop-code.last) so_far
    (c.in_default.ensures.taken so_far.others so_far.spelt)
