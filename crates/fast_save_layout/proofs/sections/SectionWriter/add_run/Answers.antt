use Rattle.std.specs.Prelude.{IsSome}
use Rattle.std.proofs.Common.{◌≡◌, ◌+◌, ◌<◌, ◌∙◌, ◌++◌, ℕ, [], ◌∷◌}
use Rattle.std.proofs.Common.{Option, Some, None, length, ap, sym, subst, refl, arith}
use Rattle.std.proofs.lemmas.Option.{slice_get-get_or}
use Rattle.prop_map.specs.Settings.{Properties}
use Rattle.doc_model.specs.declared.item.Item.{Item}
use Rattle.doc_columns.specs.declared.attached.Attached.{Attached}
use Rattle.doc_columns.specs.Attached.{attached_of}
use Rattle.full_save.specs.Alike.{HaveAlike}
use Rattle.full_save.specs.Sections.{IsSavableSection}
use Rattle.full_save.proofs.Public.{alike_of}
use Rattle.fast_save_layout.specs.PlannedSections.{ArePlannedUpTo}
use Rattle.fast_save_layout.proofs.PlannedLemmas.{length-new}
use Rattle.fast_save_layout.proofs.PlannedRuns.{planned_none, none_in, one_in}
use Rattle.fast_save_layout.proofs.sections.SectionWriter.add_run.Goals as goal

some_there : (o : Option Properties) (properties : Properties) → o ≡ Some properties → IsSome o
some_there o properties is = subst IsSome (sym is) refl

pub returns-in_default : goal.returns-in_default
returns-in_default c = λ main bytes are done.
    let run = c.args.run.now in
    let sect : Item → Option Properties = λ item. item.sect in
    planned_none main c.args.plan.now.places.now c.args.plan.now.base bytes c.args.place run.count _
    (subst (λ (value : Option Properties). HaveAlike sect value main c.args.place run.count) c.in_default.is
    (alike_of attached_of (λ (b : Attached). b.sect) run.value main c.args.place run.count are)) done

pub loop-cp-init : goal.loop-cp-init
loop-cp-init c = none_in c.args.run.now.value c.args.place c.args.run.now.count c.args.plan.now _

pub append_section-requires-clause-section : goal.append_section-requires-clause-section
append_section-requires-clause-section c =
    let low = c.loop-cp.invariant.low in
    let test = c.loop-cp-test.true in
    c.requires.sections (omega (arith, low, test)) c.in-Some.properties c.in-Some.is

pub append_section-requires-clause-room : goal.append_section-requires-clause-room
append_section-requires-clause-room c =
    let low = c.loop-cp.invariant.low in
    let short = c.loop-cp.invariant.short in
    let test = c.loop-cp-test.true in
    let room = c.requires.room in
    omega (arith, low, short, test, room)

pub bounds-plan-self : goal.bounds-plan-self
bounds-plan-self c =
    let low = c.loop-cp.invariant.low in
    let number = c.loop-cp.invariant.number in
    let test = c.loop-cp-test.true in
    let places = c.requires.places (some_there c.args.run.now.value.sect c.in-Some.properties c.in-Some.is) in
    omega (arith, low, number, test, places)

pub loop-cp-preserved : goal.loop-cp-preserved
loop-cp-preserved c =
    let run = c.args.run.now in
    let plan = c.args.plan.now in
    let low = c.loop-cp.invariant.low in
    let counted = c.loop-cp.invariant.number in
    let test = c.loop-cp-test.true in
    let number = c.loop-cp.self.number in
    let places = c.requires.places (some_there run.value.sect c.in-Some.properties c.in-Some.is) in
    let below : number < length plan.places.now = omega (arith, low, counted, test, places) in
    let savable : IsSavableSection c.in-Some.properties =
    c.requires.sections (omega (arith, low, test)) c.in-Some.properties c.in-Some.is in
    one_in run.value c.args.place run.count plan c.loop-cp.cp c.in-Some.properties _ _ _ _ test c.in-Some.is
    (slice_get-get_or plan.places.now number None below) (length-new _ c.in-Some.properties savable.short)
    c.in_ok-fc.ensures.bytes
    (c.in_ok-add.ensures.ok
    ∙ ap (λ (fc : ℕ). c.loop-cp.self.seds ++ (record { start = c.loop-cp.self.start; sepx = fc }) ∷ [])
    c.in_ok-fc.ensures.place)
    refl refl c.loop-cp.invariant

pub returns : goal.returns
returns c = λ main bytes are done.
    let run = c.args.run.now in
    let test = c.loop-cp-test.false in
    let high = c.loop-cp.invariant.high in
    let end : c.loop-cp.cp ≡ c.args.place + run.count = omega (arith, test, high) in
    subst (λ (n : ℕ). ArePlannedUpTo main c.args.plan.now.places.now c.args.plan.now.base bytes n (record {
      number = c.loop-cp.self.number;
      start = c.loop-cp.self.start;
      out = c.loop-cp.out;
      seds = c.loop-cp.self.seds;
    })) end (c.loop-cp.invariant.goes main bytes are done)
