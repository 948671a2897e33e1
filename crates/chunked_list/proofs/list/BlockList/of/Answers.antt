-- Full blocks, and a last one.
use Rattle.std.proofs.Common.{◌≡◌, ◌+◌, ◌*◌, ◌-◌, ◌/◌, ◌≤◌, ◌∙◌, ◌∷◌, ◌++◌, ℕ, List, [], length, take, drop, sym, ap}
use Rattle.std.proofs.Common.{subst}
use Rattle.std.proofs.Common.{arith, length-drop, length-append, length-take-le}
use Rattle.std.specs.Prelude.{slice_range}
use Rattle.std.proofs.lemmas.List.{take_all, take-append-drop}
use Rattle.chunked_list.specs.Blocks.{joined, AreSized}
use Rattle.chunked_list.proofs.JoinLemmas.{joined-nil}
use Rattle.chunked_list.proofs.BuildLemmas.{joined_push, sized_nil, sized_push_full, items_more, units-range-le}
use Rattle.chunked_list.proofs.list.BlockList.of.Goals as goal

pub loop-block-init : goal.loop-block-init
loop-block-init g c =
    let none = c.in_ok-reserve.ensures.blocks ∙ c.new-row.ensures.blocks in
    record {
      items = ap joined none ∙ joined-nil;
      long = ap length none;
      sized = sized_nil c.reserve.new.self.blocks none;
      spare = omega (arith, c.in_ok-reserve.ensures.ok);
    }

pub push-requires-clause-units : goal.push-requires-clause-units
push-requires-clause-units g c =
    let k = 128 * c.loop-block.block in
    omega (arith, units-range-le g.T.Measured.units c.args.items.now k (k + 128), c.requires.units)

pub loop-block-preserved : goal.loop-block-preserved
loop-block-preserved g c =
    let items = c.args.items.now in
    let n = c.loop-block.block in
    let now = c.loop-block.row.blocks in
    let block = slice_range items (128 * n) (128 * n + 128) in
    let put = c.in_ok-push.ensures.blocks in
    let within : 128 * n + 128 ≤ length items = omega arith in
    let enough : 128 * n + 128 - 128 * n ≤ length (drop (128 * n) items) = omega (arith, length-drop (128 * n) items) in
    let whole : length block ≡ 128 =
    length-take-le (128 * n + 128 - 128 * n) (drop (128 * n) items) enough ∙ omega arith in
    record {
      items = ap joined put
          ∙ joined_push now block
          ∙ ap (λ (t : List g.row.T.Denot). t ++ block) c.loop-block.invariant.items
          ∙ items_more items n;
      long = ap length put ∙ length-append now (block ∷ []) ∙ ap (λ (m : ℕ). m + 1) c.loop-block.invariant.long;
      sized = subst (λ (t : List (List g.row.T.Denot)). AreSized t (n + 1)) (sym put)
          (sized_push_full now block n c.loop-block.invariant.sized c.loop-block.invariant.long whole);
      spare = omega (arith, c.in_ok-push.ensures.spare, c.loop-block.invariant.spare);
    }

pub push_rest-requires-clause-units : goal.push_rest-requires-clause-units
push_rest-requires-clause-units g c =
    let items = c.args.items.now in
    omega (
      arith,
      units-range-le g.T.Measured.units items (128 * (length items / 128)) (length items),
      c.requires.units,
    )

pub returns-clause-items : goal.returns-clause-items
returns-clause-items g c =
    let items = c.args.items.now in
    let full = length items / 128 in
    let n = c.loop-block.block in
    let same : n ≡ full = omega arith in
    let rest = drop (128 * full) items in
    let all : length rest ≤ length items - 128 * full = omega (arith, length-drop (128 * full) items) in
    c.from_blocks.ensures.items
    ∙ c.in_ok-push_rest.ensures.items
    ∙ ap (λ (t : List g.row.T.Denot). t ++ take (length items - 128 * full) rest) c.loop-block.invariant.items
    ∙ ap (λ (m : ℕ). take (128 * m) items ++ take (length items - 128 * full) rest) same
    ∙ ap (λ (t : List g.row.T.Denot). take (128 * full) items ++ t) (take_all (length items - 128 * full) rest all)
    ∙ take-append-drop (128 * full) items
