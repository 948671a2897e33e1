use Rattle.std.proofs.Common.{◌≡◌, ◌+◌, ◌<◌, ◌++◌, ◌∷◌, [], List, ℕ, length, take, subst, sym, arith}
use Rattle.std.specs.Prelude.{slice_index_or}
use Rattle.std.proofs.lemmas.List.{take_more}
use Rattle.text_codes.specs.Gathered.{HasTextBehind}
use Rattle.text_codes.proofs.GatherLemmas.{text_alone, behind_more}
use Rattle.text_codes.proofs.gathering.gather_units.Goals as goal

pub loop-count-preserved : goal.loop-count-preserved
loop-count-preserved c =
    let units : List ℕ = c.args.units.now in
    let count : ℕ = c.loop-count.count in
    let unit : ℕ = slice_index_or units count 0 in
    let small : unit < 65536 = (let word = c.type_inv.units count in omega arith) in
    let within : count < length units = omega arith in
    let next : take (count + 1) units ≡ take count units ++ unit ∷ [] = take_more units count 0 within in
    record {
      long = omega (arith, c.put-end.ensures.long, c.loop-count.invariant.long);
      inside = omega arith;
      text =
          subst (λ l. HasTextBehind c.args.lines l (take c.args.len c.args.block.now) c.put-end.new.block c.put-end.result)
          (sym next)
          (behind_more _ _ _ _ _ _ _ _ _ c.loop-count.invariant.text
          (text_alone c.args.lines unit small (c.is_surrogate.ensures c.if-is_surrogate.false)) c.put-end.ensures.bytes
          c.put-end.ensures.inside);
    }
