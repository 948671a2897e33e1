-- Nothing, or a bare stretch.
use Rattle.std.proofs.Common.{◌≡◌, ◌-◌, ◌≤◌, ◌<◌, ◌++◌, ℕ, false, ap, length, length-append, subst, arith}
use Rattle.std.proofs.lemmas.List.{length-replicate}
use Rattle.std.specs.Prelude.{replicate, slice_index}
use Rattle.text_codes.specs.Paragraph.{is_paragraph_end}
use Rattle.doc_columns.specs.declared.attached.Attached.{Attached}
use Rattle.doc_read.specs.Passing.{AddsEach}
use Rattle.doc_read.specs.Reading.{TextView}
use Rattle.doc_read.proofs.AddLemmas.{adds_none}
use Rattle.doc_read.specs.Attached.{IsAttachedAt}
use Rattle.doc_read.proofs.AttachedLemmas.{bare_marks, bare_stretch}
use Rattle.doc_read.proofs.attached.push_bare.Goals as goal

pub bare_until-until-requires : goal.bare_until-until-requires
bare_until-until-requires c =
    omega (arith, ap (λ (v : TextView). length v.units) c.text.ensures.view, c.requires.within, c.min-marked.ensures)

pub returns-then-until-left-clause-attachments : goal.returns-then-until-left-clause-attachments
returns-then-until-left-clause-attachments c modifier =
    let is = IsAttachedAt c.args.part.now.view modifier in
    let none : 0 ≡ c.args.left.cp - c.args.left.cp = omega arith in
    subst (λ n. AddsEach is n c.args.attachments.now c.args.attachments.now) none (adds_none is c.args.attachments.now)

pub returns-then-until-left-clause-few : goal.returns-then-until-left-clause-few
returns-then-until-left-clause-few c =
    let units = ap (λ (v : TextView). length v.units) c.text.ensures.view in
    omega (arith, c.text.ensures.readable.few, units, c.requires.within, c.requires.some)

pub returns-clause-few : goal.returns-clause-few
returns-clause-few c =
    let units = ap (λ (v : TextView). length v.units) c.text.ensures.view in
    let until = c.bare_until-until.ensures.inside (omega arith) in
    omega (arith, c.text.ensures.readable.few, units, c.requires.within, until, c.min-marked.ensures)

pub returns-clause-passed : goal.returns-clause-passed
returns-clause-passed c =
    c.next_marked.ensures c.args.left.cp c.bare_until-until.result c.requires.passed (omega arith) (omega arith)

pub returns-then-until-left-clause-right : goal.returns-then-until-left-clause-right
returns-then-until-left-clause-right c = λ at upper lower _. absurd (omega (arith, upper, lower))

pub returns-clause-right : goal.returns-clause-right
returns-clause-right c =
    let cp = c.args.left.cp in
    let until = c.bare_until-until.result in
    let bare = subst
    (λ (v : TextView). (at : ℕ) → cp ≤ at → at < until → is_paragraph_end (slice_index v.units at) false ≡ false)
    c.text.ensures.view c.bare_until-until.ensures.bare in
    bare_marks c.args.part.now.view c.args.passed.now cp until bare
    (λ at upper lower. c.next_marked.ensures cp at c.requires.passed upper (omega (arith, lower)))

pub returns-clause-here : goal.returns-clause-here
returns-clause-here c =
    let count = c.bare_until-until.result - c.args.left.cp in
    let fresh = replicate count c.none.result in
    omega (
      arith,
      ap length c.in_ok-add.ensures.ok,
      length-append c.args.attachments.now fresh,
      length-replicate count c.none.result,
      c.requires.here,
    )

pub returns-clause-attachments : goal.returns-clause-attachments
returns-clause-attachments c modifier =
    let cp = c.args.left.cp in
    let until = c.bare_until-until.result in
    let old = c.args.attachments.now in
    let is = subst (λ (b : Attached). c.add.new.self ≡ old ++ replicate (until - cp) b) c.none.ensures
    c.in_ok-add.ensures.ok in
    let bare = subst
    (λ (v : TextView). (at : ℕ) → cp ≤ at → at < until → is_paragraph_end (slice_index v.units at) false ≡ false)
    c.text.ensures.view c.bare_until-until.ensures.bare in
    bare_stretch c.args.part.now.view modifier c.args.passed.now cp until old c.add.new.self c.requires.here
    (omega arith) is bare
    (λ at upper lower. c.next_marked.ensures cp at c.requires.passed upper (omega (arith, lower)))
