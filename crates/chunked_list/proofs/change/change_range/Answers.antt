-- A block more has its range exchanged.
use Rattle.std.proofs.Common.{◌≡◌, ◌+◌, ◌-◌, ◌<◌, ◌≤◌, ◌∙◌, List, [], length, refl, sym, ap, arith, length-set}
use Rattle.std.proofs.lemmas.List.{get_or-set_same}
use Rattle.chunked_list.specs.Blocks.{joined, block_at, map_range}
use Rattle.chunked_list.proofs.JoinLemmas.{joined-nil, joined_more_length, joined-take-le}
use Rattle.chunked_list.proofs.RangeLemmas.{map_range_nil, length-map_range}
use Rattle.chunked_list.proofs.ShortLemmas.{same_size}
use Rattle.chunked_list.proofs.BuildLemmas.{changed_more, rest_same, units_like}
use Rattle.chunked_list.proofs.change.change_range.Goals as goal

pub loop-block-init : goal.loop-block-init
loop-block-init g c =
    let none = joined-nil {T = g.row.T.Denot} in
    let nothing = joined {T = g.row.T.Denot} [] in
    record {
      before = sym (ap length none);
      done = none
          ∙ sym (map_range_nil (g.C.Mapping.image c.args.by.now) nothing c.args.first c.args.last none);
      rest = refl;
      long = refl;
      each = λ k. refl;
      units = refl;
      spare = refl;
    }

pub overflow_add-before : goal.overflow_add-before
overflow_add-before g c =
    let b = c.loop-block.block in
    let old = c.args.row.now.blocks in
    let now = c.loop-block.row.blocks in
    let f = g.C.Mapping.image c.args.by.now in
    let lo = c.saturating_sub.result in
    let hi = c.saturating_sub-in-loop-block.result in
    let x = map_range f (block_at now b) lo hi in
    let there : b < length old = omega (arith, c.count-block-end.ensures) in
    let still : b < length now = omega (arith, c.loop-block.invariant.long) in
    let order : lo ≤ hi =
    omega (arith, c.saturating_sub.ensures, c.saturating_sub-in-loop-block.ensures, c.requires.order) in
    omega (
      arith,
      c.loop-block.invariant.before,
      c.len-before.ensures.value,
      ap (λ (t : List (List g.row.T.Denot)). length (block_at t b)) c.change.ensures.blocks,
      ap length (get_or-set_same now b x [] still),
      length-map_range f (block_at now b) lo hi order,
      c.loop-block.invariant.each b,
      joined_more_length old b there,
      joined-take-le old (b + 1),
      c.requires.few,
    )

pub loop-block-preserved : goal.loop-block-preserved
loop-block-preserved g c =
    let b = c.loop-block.block in
    let old = c.args.row.now.blocks in
    let now = c.loop-block.row.blocks in
    let new = c.change.new.self.blocks in
    let f = g.C.Mapping.image c.args.by.now in
    let lo = c.saturating_sub.result in
    let hi = c.saturating_sub-in-loop-block.result in
    let x = map_range f (block_at now b) lo hi in
    let invariant = c.loop-block.invariant in
    let there : b < length old = omega (arith, c.count-block-end.ensures) in
    let still : b < length now = omega (arith, invariant.long) in
    let is_lo : lo ≡ c.args.first - c.loop-block.before = omega (arith, c.saturating_sub.ensures) in
    let is_hi : hi ≡ c.args.last - c.loop-block.before = omega (arith, c.saturating_sub-in-loop-block.ensures) in
    let order : lo ≤ hi = omega (arith, is_lo, is_hi, c.requires.order) in
    let put = c.change.ensures.blocks in
    let size = length-map_range f (block_at now b) lo hi order in
    record {
      before = omega (
        arith,
        invariant.before,
        c.len-before.ensures.value,
        ap (λ (t : List (List g.row.T.Denot)). length (block_at t b)) put,
        ap length (get_or-set_same now b x [] still),
        size,
        invariant.each b,
        joined_more_length old b there,
      );
      done = changed_more f old now new b c.args.first c.args.last c.loop-block.before lo hi there still
          c.requires.order invariant.before is_lo is_hi invariant.done invariant.rest put;
      rest = rest_same now old new b x invariant.rest put;
      long = ap length put ∙ length-set now b x ∙ invariant.long;
      each = λ k. ap (λ (t : List (List g.row.T.Denot)). length (block_at t k)) put
          ∙ same_size now old b x k still (size ∙ invariant.each b) (invariant.each k);
      units = units_like g.T.Measured.units now new b x still put c.change.ensures.units ∙ invariant.units;
      spare = c.change.ensures.spare ∙ invariant.spare;
    }
