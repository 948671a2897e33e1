-- Each turn reads the modifier of one Prc, where a piece names it.
use Rattle.std.proofs.Common.{◌≡◌, ◌≤◌, ◌+◌, length, refl, sym, subst, arith}
use Rattle.std.proofs.lemmas.Option.{slice_get_within}
use Rattle.doc_bits.proofs.Public.{none_among}
use Rattle.doc_bits.specs.Rules.{IsLeast, Among}
use Rattle.prop_map.specs.declared.modifiers.Modifier.{Modifier}
use Rattle.piece_table.specs.declared.pcd.Prm.TheVariants.{Prc}
use Rattle.piece_table.specs.Clx.{ClxParts, prc_place}
use Rattle.piece_table.specs.PrmLists.{IsPrmModifier}
use Rattle.piece_table.specs.ClxRules.{IsNamedPrc, IsLongPrc, FitsPages}
use Rattle.piece_table.proofs.PrcLemmas.{prc_ends, place_more, place_least, first_long, prc_does}
use Rattle.piece_table.proofs.UniqueLemmas.{prm_of_prc, none_long_more}
use Rattle.piece_table.proofs.prcs.prc_modifiers.Goals as goal
use Rattle.piece_table.proofs.prcs.prc_modifiers.Goals.{then-marks-i+in_ok-modifier+else-not-fits_pages+in_ok-put}
use Rattle.piece_table.proofs.prcs.prc_modifiers.Goals.{else-marks-i}

pub returns-then-not-fits_pages : goal.returns-then-not-fits_pages
returns-then-not-fits_pages c =
    let parts : ClxParts = record { prcs = c.args.parts.now.prcs; plc = c.args.parts.now.plc } in
    let i = c.loop-i.i in
    let list = c.list-list.result.now in
    let named = (c.requires.marks.marked i).0 c.if-marks-i.true in
    let within = slice_get_within parts.prcs i list c.list-list.ensures in
    let does = prc_does parts i list c.in_ok-modifier.modifier (c.requires.accepted i list within named
    c.list-list.ensures) c.list-list.ensures c.in_ok-modifier.ensures.parts in
    let long : ¬ (FitsPages c.in_ok-modifier.modifier) = λ fits. let e = c.if-not-fits_pages.ensures.1 fits in
    cc (e) in (
      refl,
      subst (λ p. IsLeast (λ a b. a ≤ b) (Among (length parts.prcs) (IsLongPrc parts c.args.at)) p)
          (sym c.loop-i.invariant.0)
          (first_long parts c.args.at i c.in_ok-modifier.modifier within c.loop-i.invariant.1.0 named does long),
    )

pub put-requires : goal.put-requires
put-requires c =
    let prcs = c.args.parts.now.prcs in
    let place = c.requires.place in
    let within = slice_get_within prcs c.loop-i.i c.list-list.result.now c.list-list.ensures in
    omega (
      arith,
      prc_ends prcs c.loop-i.i c.list-list.result.now c.list-list.ensures,
      place_least prcs c.loop-i.i
          (omega arith),
    )

pub overflow_cast-place : goal.overflow_cast-place
overflow_cast-place c =
    let place = c.requires.place in
    omega (arith, prc_ends c.args.parts.now.prcs c.loop-i.i c.list-list.result.now c.list-list.ensures)

pub overflow_add-place-in-loop-i : goal.overflow_add-place-in-loop-i
overflow_add-place-in-loop-i c =
    let place = c.requires.place in
    let here = c.loop-i.invariant.0 in
    omega (arith, prc_ends c.args.parts.now.prcs c.loop-i.i c.list-list.result.now c.list-list.ensures)

pub loop-i-preserved : goal.loop-i-preserved
loop-i-preserved c =
    let parts : ClxParts = record { prcs = c.args.parts.now.prcs; plc = c.args.parts.now.plc } in
    let at = c.args.at in
    let i = c.loop-i.i in
    let list = c.list-list.result.now in
    let here = c.loop-i.invariant.0 in
    let within = slice_get_within parts.prcs i list c.list-list.ensures in
    let place : c.loop-i.place + (3 + length list) ≡ at + prc_place parts.prcs (i + 1) = omega (
      arith,
      place_more parts.prcs i list c.list-list.ensures,
    ) in
    elim c.if-marks-i.branch [
      | then-marks-i+in_ok-modifier+else-not-fits_pages+in_ok-put w ↦
          let modifier = w.in_ok-modifier.modifier in
          let named = (c.requires.marks.marked i).0 w.if-marks-i.true in
          let does = prc_does parts i list modifier (c.requires.accepted i list within named c.list-list.ensures)
          c.list-list.ensures w.in_ok-modifier.ensures.parts in
          let met = w.in_ok-put.ensures.met parts.prcs w.in_ok-modifier.ensures.formed (subst (λ prm. IsPrmModifier
          parts.prcs prm modifier) (sym (prm_of_prc i)) does) c.loop-i.invariant.1.1 in (
            place,
            (
              none_long_more parts at i c.loop-i.invariant.1.0 (λ _. (
                modifier,
                (does, w.if-not-fits_pages.ensures.0 refl),
              )),
              rw w.table-is met,
            ),
          )
      | else-marks-i w ↦
          let unnamed : IsNamedPrc parts.plc i → (modifier : Modifier) × (IsPrmModifier parts.prcs (Prc i) modifier ×
          FitsPages modifier) = λ named. let marked = (c.requires.marks.marked i).1 named in
          absurd (cc (w.if-marks-i.false, marked)) in
          (place, (none_long_more parts at i c.loop-i.invariant.1.0 unnamed, rw w.table-is c.loop-i.invariant.1.1))
    ]

pub returns : goal.returns
returns c =
    let parts : ClxParts = record { prcs = c.args.parts.now.prcs; plc = c.args.parts.now.plc } in
    let ended = c.loop-i-test.false in (
      none_among (IsLongPrc parts c.args.at) (length parts.prcs) (λ j low. c.loop-i.invariant.1.0 j (omega (
        arith,
        c.len-i-end.ensures,
      ))),
      c.loop-i.invariant.1.1,
    )
