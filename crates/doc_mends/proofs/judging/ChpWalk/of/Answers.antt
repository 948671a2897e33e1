use Rattle.std.proofs.Common.{◌≡◌, ◌∙◌, length, ap, sym, subst, arith}
use Rattle.std.proofs.lemmas.List.{length-map}
use Rattle.prop_map.specs.Settings.{Properties}
use Rattle.doc_model.specs.declared.item.Item.{Item}
use Rattle.run_lists.specs.Places.{IsAtRunBegin}
use Rattle.run_lists.specs.Spread.{expanded, total_len}
use Rattle.run_lists.proofs.Public.{extent-nil, length-spread}
use Rattle.doc_columns.proofs.Public.{chps_formed}
use Rattle.doc_mends.proofs.judging.ChpWalk.of.Goals as goal

pub returns-clause-walk : goal.returns-clause-walk
returns-clause-walk c =
    let text = c.args.text.now in
    let formed = c.len-len.ensures.formed in
    let runs = c.chps.result.now in
    let all : total_len runs ≡ length text =
    sym (length-spread runs) ∙ (ap length c.chps.ensures ∙ length-map text (λ (item : Item). item.chp)) in
    let few = formed.few in
    record {
      runs = c.chps.ensures;
      few = omega (arith, all, few);
      maps = chps_formed text (expanded runs) c.chps.ensures formed.each;
      at = subst (IsAtRunBegin runs) (sym c.new.ensures) (record {
        there = omega arith;
        begins = extent-nil Properties;
      });
    }
