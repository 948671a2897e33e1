use Rattle.std.proofs.Common.{◌≡◌, ◌+◌, ◌∙◌, ◌++◌, [], ◌∷◌, ℕ, Bool, Option, ap, subst, arith}
use Rattle.std.specs.Prelude.{⊤}
use Rattle.doc_model.specs.declared.item.Item.{Item}
use Rattle.doc_model.specs.declared.item.NoteKind.{NoteKind}
use Rattle.doc_columns.specs.declared.attached.Attached.{Attached}
use Rattle.doc_columns.specs.Attached.{attached_of}
use Rattle.full_save.specs.Alike.{HaveAlike}
use Rattle.full_save.specs.Lists.{IsListedUpTo, ref_entry}
use Rattle.full_save.proofs.AlikeLemmas.{alike_of}
use Rattle.full_save.proofs.ColumnLists.{listed_none, none_listed, one_listed}
use Rattle.full_save.proofs.lists.add_ref_run.Goals as goal

pub returns-in_default : goal.returns-in_default
returns-in_default c = λ text are listed.
    let run = c.args.run.now in
    let note : Item → Option NoteKind = λ item. item.note in
    listed_none note ref_entry 0 text c.args.place run.count [] c.args.refs.now
    (subst (λ (value : Option NoteKind). HaveAlike note value text c.args.place run.count) c.in_default.is
    (alike_of attached_of (λ (b : Attached). b.note) run.value text c.args.place run.count are)) listed

pub loop-cp-init : goal.loop-cp-init
loop-cp-init c =
    none_listed (λ (item : Item). item.note) ref_entry 0 (λ text. ⊤) c.args.run.now.value c.args.place
    c.args.run.now.count
    c.args.refs.now

pub loop-cp-preserved : goal.loop-cp-preserved
loop-cp-preserved c =
    let run = c.args.run.now in
    let kind = c.in-Some.kind in
    let zero : c.loop-cp.cp ≡ 0 + c.loop-cp.cp = omega arith in
    one_listed (λ (item : Item). item.note) ref_entry 0 (λ text. ⊤) run.value c.args.place run.count c.loop-cp.cp
    c.args.refs.now
    c.loop-cp.refs c.add.new.self (λ item. kind) c.loop-cp-test.true
    (λ item is. ap (λ (b : Attached). b.note) is ∙ c.in-Some.is)
    (λ text item such here. c.in_ok-add.ensures.ok
    ∙ (ap (λ (b : Bool). c.loop-cp.refs ++ (record { cp = c.loop-cp.cp; auto = b }) ∷ []) c.is_auto.ensures
    ∙ ap (λ (n : ℕ). c.loop-cp.refs ++ ref_entry (n, kind) ∷ []) zero))
    c.loop-cp.invariant

pub returns : goal.returns
returns c = λ text are listed.
    let run = c.args.run.now in
    let test = c.loop-cp-test.false in
    let high = c.loop-cp.invariant.high in
    let end : c.loop-cp.cp ≡ c.args.place + run.count = omega (arith, test, high) in
    subst (λ (n : ℕ). IsListedUpTo (λ (item : Item). item.note) ref_entry 0 text n [] c.loop-cp.refs) end
    (c.loop-cp.invariant.goes text [] tt are listed)
