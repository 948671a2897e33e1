-- Items of a block go, and some behind it.
use Rattle.std.proofs.Common.{◌≡◌, ◌+◌, ◌<◌, ◌≤◌, ℕ, ◌++◌, List, [], length, take, drop, subst, ap, arith}
use Rattle.std.proofs.Common.{length-append}
use Rattle.std.specs.List.{splice}
use Rattle.std.proofs.lemmas.List.{drop-set-lt}
use Rattle.chunked_list.specs.Blocks.{joined, total_units, block_at, AreSizedBut}
use Rattle.chunked_list.proofs.JoinLemmas.{units_of_block, joined_at}
use Rattle.chunked_list.proofs.SizeLemmas.{length-splice}
use Rattle.chunked_list.proofs.ShortLemmas.{but_set}
use Rattle.chunked_list.proofs.RemoveLemmas.{units-cut-le, units_shorter, erased_joined}
use Rattle.chunked_list.proofs.remove.erase.Goals as goal

pub cut-requires-clause-units : goal.cut-requires-clause-units
cut-requires-clause-units g c =
    omega (
      arith,
      units_of_block g.T.Measured.units c.args.row.now.blocks c.args.place.block c.requires.place.there,
      c.requires.units,
    )

pub drop_front-requires-clause-within : goal.drop_front-requires-clause-within
drop_front-requires-clause-within g c =
    let old = c.args.row.now.blocks in
    let b = c.args.place.block in
    let within = c.args.place.within in
    let x = splice (block_at old b) within (within + c.min-here.result) [] in
    let front = joined (take b old) in
    let back = joined (drop (b + 1) old) in
    let later : b < b + 1 = omega arith in
    omega (
      arith,
      ap (λ (t : List (List g.row.T.Denot)). length (joined (drop (b + 1) t))) c.cut.ensures.blocks,
      ap (λ (t : List (List g.row.T.Denot)). length (joined t)) (drop-set-lt (b + 1) old b x later),
      ap length (joined_at old b c.requires.place.there),
      length-append front (block_at old b ++ back),
      length-append (block_at old b) back,
      c.len.ensures.value,
      c.min-here.ensures,
      c.requires.within,
      c.requires.place.inside,
    )

pub drop_front-requires-clause-units : goal.drop_front-requires-clause-units
drop_front-requires-clause-units g c =
    let units = g.T.Measured.units in
    let old = c.args.row.now.blocks in
    let b = c.args.place.block in
    let within = c.args.place.within in
    let here = c.min-here.result in
    let x = splice (block_at old b) within (within + here) [] in
    omega (
      arith,
      ap (λ (t : List (List g.row.T.Denot)). total_units units (joined t)) c.cut.ensures.blocks,
      units_shorter units old b x c.requires.place.there
          (units-cut-le units (block_at old b) within (within + here) (omega arith)),
      c.requires.units,
    )

pub returns-clause-items : goal.returns-clause-items
returns-clause-items g c =
    let old = c.args.row.now.blocks in
    let b = c.args.place.block in
    let inside = c.requires.place.inside in
    erased_joined old c.cut.new.self.blocks c.drop_front.new.row.blocks b c.args.place.within c.min-here.result
    c.args.count c.requires.place.there
    (omega (arith, c.len.ensures.value, c.min-here.ensures, inside))
    (omega (arith, c.min-here.ensures))
    (λ less. omega (arith, c.len.ensures.value, c.min-here.ensures, inside))
    c.cut.ensures.blocks c.drop_front.ensures.front c.drop_front.ensures.back

pub returns-clause-sized : goal.returns-clause-sized
returns-clause-sized g c = λ full is.
    let old = c.args.row.now.blocks in
    let b = c.args.place.block in
    let within = c.args.place.within in
    let here = c.min-here.result in
    let last = within + here in
    let x = splice (block_at old b) within last [] in
    let inside : last ≤ length (block_at old b) =
    omega (arith, c.len.ensures.value, c.min-here.ensures, c.requires.place.inside) in
    let order : within ≤ last = omega arith in
    let long : length x ≤ 128 = omega (
      arith,
      length-splice (block_at old b) [] within last order inside,
      c.len.ensures.value,
      c.len.ensures.most,
    ) in
    let same : b ≤ b = omega arith in
    let more : b ≤ b + 1 = omega arith in
    let mid : AreSizedBut c.cut.new.self.blocks full b (b + 1) =
    but_set old c.cut.new.self.blocks b x full b b (b + 1) is c.cut.ensures.blocks c.requires.place.there long same more
    (λ beyond. absurd (omega arith)) in
    let two : b + 1 + 1 ≡ b + 2 = omega arith in
    subst (λ (n : ℕ). AreSizedBut c.drop_front.new.row.blocks full b n) two (c.drop_front.ensures.sized full b more mid)
