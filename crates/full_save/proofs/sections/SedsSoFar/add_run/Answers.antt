use Rattle.std.proofs.Common.{◌≡◌, ◌+◌, ◌≤◌, ◌∙◌, ◌++◌, ℕ, [], ◌∷◌, Option, length, ap, subst, refl, arith}
use Rattle.prop_map.specs.Settings.{Properties}
use Rattle.doc_model.specs.declared.item.Item.{Item}
use Rattle.doc_columns.specs.declared.attached.Attached.{Attached}
use Rattle.doc_columns.specs.Attached.{attached_of}
use Rattle.full_save.specs.Alike.{HaveAlike}
use Rattle.full_save.specs.Sections.{sepx_bytes, IsSavableSection, AreSepxesUpTo}
use Rattle.full_save.proofs.StreamLengths.{length-sepx}
use Rattle.full_save.proofs.AlikeLemmas.{alike_of}
use Rattle.full_save.proofs.ColumnLists.{sepxes_none}
use Rattle.full_save.proofs.ColumnSections.{none_ended, one_ended}
use Rattle.full_save.proofs.sections.SedsSoFar.add_run.Goals as goal

pub returns-in_default : goal.returns-in_default
returns-in_default c = λ main bytes are done.
    let run = c.args.run.now in
    let sect : Item → Option Properties = λ item. item.sect in
    sepxes_none main c.args.base bytes c.args.place run.count _
    (subst (λ (value : Option Properties). HaveAlike sect value main c.args.place run.count) c.in_default.is
    (alike_of attached_of (λ (b : Attached). b.sect) run.value main c.args.place run.count are)) done

pub loop-cp-init : goal.loop-cp-init
loop-cp-init c = none_ended c.args.run.now.value c.args.place c.args.run.now.count c.args.base _

pub append_sepx-requires-clause-section : goal.append_sepx-requires-clause-section
append_sepx-requires-clause-section c =
    let low = c.loop-cp.invariant.low in
    let test = c.loop-cp-test.true in
    c.requires.sections (omega (arith, low, test)) c.in-Some.properties c.in-Some.is

pub append_sepx-requires-clause-room : goal.append_sepx-requires-clause-room
append_sepx-requires-clause-room c =
    let low = c.loop-cp.invariant.low in
    let short = c.loop-cp.invariant.short in
    let test = c.loop-cp-test.true in
    let room = c.requires.room in
    omega (arith, low, short, test, room)

pub loop-cp-preserved : goal.loop-cp-preserved
loop-cp-preserved c =
    let run = c.args.run.now in
    let low = c.loop-cp.invariant.low in
    let test = c.loop-cp-test.true in
    let savable : IsSavableSection c.in-Some.properties =
    c.requires.sections (omega (arith, low, test)) c.in-Some.properties c.in-Some.is in
    let short : length (sepx_bytes c.in-Some.properties) ≤ 504 =
    omega (arith, length-sepx c.in-Some.properties savable.short) in
    one_ended run.value c.args.place run.count c.args.base c.loop-cp.cp c.in-Some.properties _ _ _ test c.in-Some.is
    short
    c.in_ok-fc.ensures.bytes
    (c.in_ok-add.ensures.ok
    ∙ ap (λ (place : ℕ). c.loop-cp.self.seds ++ (record { start = c.loop-cp.self.start; sepx = place }) ∷ [])
    c.in_ok-fc.ensures.place)
    refl c.loop-cp.invariant

pub returns : goal.returns
returns c = λ main bytes are done.
    let run = c.args.run.now in
    let test = c.loop-cp-test.false in
    let high = c.loop-cp.invariant.high in
    let end : c.loop-cp.cp ≡ c.args.place + run.count = omega (arith, test, high) in
    subst (λ (n : ℕ). AreSepxesUpTo main c.args.base bytes n (record {
      start = c.loop-cp.self.start;
      out = c.loop-cp.out;
      seds = c.loop-cp.self.seds;
    })) end (c.loop-cp.invariant.goes main bytes are done)
