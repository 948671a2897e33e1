use Rattle.std.proofs.Common.{◌∙◌, ◌<◌, ◌++◌, [], ◌∷◌, List, length, take, sym, ap, subst, arith}
use Rattle.cfb_streams.specs.Contents.{NamedBytes, AreStreams}
use Rattle.fast_save_layout.specs.RenewedStreams.{renewed_streams}
use Rattle.fast_save_layout.proofs.StreamSteps.{none_renewed, renewed_more, renewed_next, IsNext, next_wd, next_table}
use Rattle.fast_save_layout.proofs.StreamSteps.{next_other}
use Rattle.fast_save_layout.proofs.renewed.renewed_streams.Goals as goal
use Rattle.fast_save_layout.proofs.renewed.renewed_streams.Goals.{then-equal_names, else-equal_names+then-equal_names-2}
use Rattle.fast_save_layout.proofs.renewed.renewed_streams.Goals.{else-equal_names+else-equal_names-2}

pub loop-i-init : goal.loop-i-init
loop-i-init c = c.new-streams.ensures ∙ sym (none_renewed c.args.name.now c.args.wd.now c.args.table.now)

pub add-requires : goal.add-requires
add-requires c =
    let streams = c.args.container.now.streams in
    let i = c.loop-i.i in
    let name = c.args.name.now in
    let wd = c.args.wd.now in
    let table = c.args.table.now in
    let own = c.name-own.result.now in
    let bytes = c.if-equal_names.bytes.now in
    let count = c.count-i-end.ensures in
    let test = c.loop-i-test.true in
    let below : i < length streams = omega (arith, count, test) in
    let next : IsNext streams i name wd table (record { name = own; bytes = bytes }) =
    elim c.if-equal_names.branch [
      | then-equal_names w ↦
          next_wd streams i name wd table own bytes below c.name-own.ensures w.if-equal_names.ensures.test
          (ap (λ b. b.now) w.bytes-is)
      | else-equal_names+then-equal_names-2 w ↦
          next_table streams i name wd table own bytes below c.name-own.ensures w.if-equal_names.ensures.test
          w.if-equal_names-2.ensures.test (ap (λ b. b.now) w.bytes-is)
      | else-equal_names+else-equal_names-2 w ↦
          next_other streams i name wd table own w.bytes.result.now bytes below c.name-own.ensures
          w.if-equal_names.ensures.test w.if-equal_names-2.ensures.test w.bytes.ensures (ap (λ b. b.now) w.bytes-is)
    ] in
    let front = renewed_streams name wd table (take i streams) in
    subst (λ (xs : List NamedBytes). AreStreams (xs ++ (record { name = own; bytes = bytes }) ∷ []))
    (sym c.loop-i.invariant)
    (subst (λ (x : NamedBytes). AreStreams (front ++ x ∷ [])) next.is
    (renewed_next name wd table streams i next.stream next.here c.requires))

pub loop-i-preserved : goal.loop-i-preserved
loop-i-preserved c =
    let streams = c.args.container.now.streams in
    let i = c.loop-i.i in
    let name = c.args.name.now in
    let wd = c.args.wd.now in
    let table = c.args.table.now in
    let own = c.name-own.result.now in
    let bytes = c.if-equal_names.bytes.now in
    let count = c.count-i-end.ensures in
    let test = c.loop-i-test.true in
    let below : i < length streams = omega (arith, count, test) in
    let next : IsNext streams i name wd table (record { name = own; bytes = bytes }) =
    elim c.if-equal_names.branch [
      | then-equal_names w ↦
          next_wd streams i name wd table own bytes below c.name-own.ensures w.if-equal_names.ensures.test
          (ap (λ b. b.now) w.bytes-is)
      | else-equal_names+then-equal_names-2 w ↦
          next_table streams i name wd table own bytes below c.name-own.ensures w.if-equal_names.ensures.test
          w.if-equal_names-2.ensures.test (ap (λ b. b.now) w.bytes-is)
      | else-equal_names+else-equal_names-2 w ↦
          next_other streams i name wd table own w.bytes.result.now bytes below c.name-own.ensures
          w.if-equal_names.ensures.test w.if-equal_names-2.ensures.test w.bytes.ensures (ap (λ b. b.now) w.bytes-is)
    ] in
    let front = renewed_streams name wd table (take i streams) in
    c.in_ok-add.ensures.ok
    ∙ (ap (λ (xs : List NamedBytes). xs ++ (record { name = own; bytes = bytes }) ∷ []) c.loop-i.invariant
    ∙ (ap (λ (x : NamedBytes). front ++ x ∷ []) (sym next.is)
    ∙ sym (renewed_more name wd table streams i next.stream next.here)))
