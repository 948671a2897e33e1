use Rattle.std.specs.Prelude.{slice_range}
use Rattle.std.proofs.Common.{ℕ, ◌+◌, drop, subst, arith}
use Rattle.doc_bits.specs.Number.{AreBytes}
use Rattle.doc_bits.proofs.Public.{rest_is}
use Rattle.piece_table.specs.Front.{IsPrcFront}
use Rattle.piece_table.proofs.Public.{prcs_more}
use Rattle.tab_stops.proofs.PrcLemmas.{front_none, front_more}
use Rattle.tab_stops.proofs.prcs.push_prc_stops.Goals as goal

pub loop-len-init : goal.loop-len-init
loop-len-init c = record {
  within = omega arith;
  front = front_none c.args.clx.now c.args.begin c.args.places.now.items;
}

pub loop-len-preserved : goal.loop-len-preserved
loop-len-preserved c =
    let clx = c.args.clx.now in
    let at = c.loop-len.at in
    let len = c.in-Some.len in
    let inv = c.loop-len.invariant in
    let before = inv.front in
    let bytes : AreBytes clx = λ i. omega (arith, c.type_inv.clx i) in
    let front : IsPrcFront (drop at clx) len =
    subst (λ rest. IsPrcFront rest len) (rest_is clx at) c.in-Some.ensures in
    let are = prcs_more clx before.prcs at len bytes before.are front in
    record {
      within = are.within;
      front = front_more clx c.args.begin at (at + 3 + len) (slice_range clx (at + 3) (at + 3 + len))
          c.args.places.now.items c.loop-len.places.items c.push_list.new.places.items before are
          c.in_ok-push_list.ensures;
    }

pub returns : goal.returns
returns c =
    let clx = c.args.clx.now in
    let at = c.loop-len.at in
    let all = c.loop-len.invariant.front in
    record {
      stops = all.stops.stops;
      are_stops = record {
        prcs = all.prcs;
        end = at;
        are = record {
          are = all.are;
          none = subst (λ rest. (size : ℕ) → ¬ (IsPrcFront rest size)) (rest_is clx at) c.in_default.ensures;
        };
        stops = all.stops.are_stops;
      };
      pushed = all.stops.pushed;
    }
