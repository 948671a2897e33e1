-- What is before a CP, and at it.
use Rattle.std.proofs.Common.{◌≡◌, ℕ, ◌+◌, ◌-◌, ◌≤◌, Option, MatchOption, subst, arith}
use Rattle.prop_map.specs.declared.modifiers.Modifier.{Modifier}
use Rattle.doc_columns.specs.declared.attached.Attached.{Attached}
use Rattle.doc_read.specs.Reading.{HaveValidMarks, TextView}
use Rattle.doc_read.specs.Attached.{IsAttachedAt}
use Rattle.doc_read.proofs.AddLemmas.{adds_more}
use Rattle.doc_read.proofs.AttachedLemmas.{one_attached}
use Rattle.doc_read.proofs.PageLemmas.{marks_join, marks_within}
use Rattle.doc_read.proofs.attached.push_stretch.Goals as goal

-- what is known of what is at a CP
abbrev IsReadAt : TextView → Modifier → ℕ → Option Attached → Type 0
IsReadAt view modifier cp attached =
    MatchOption attached (¬ (HaveValidMarks view cp (cp + 1)))
    (λ (b : Attached). HaveValidMarks view cp (cp + 1) × IsAttachedAt view modifier cp b)

pub returns-then-bare-left-clause-attachments : goal.returns-then-bare-left-clause-attachments
returns-then-bare-left-clause-attachments c = c.in_ok-bare.ensures.attachments c.args.reader.now.characters.modifier

pub returns-in_default-clause-right : goal.returns-in_default-clause-right
returns-in_default-clause-right c = λ all.
    let view = c.args.part.now.view in
    let bare = c.in_ok-bare.bare in
    let none = subst (IsReadAt view c.args.reader.now.characters.modifier bare) c.in_default.is
    c.in_ok-attached.ensures.attached in
    let inside : bare + 1 ≤ c.args.left.end = omega (arith, c.in_ok-bare.ensures.inside) in
    none (marks_within view c.args.left.cp c.args.left.end bare (bare + 1) c.in_ok-bare.ensures.behind inside all)

pub returns-clause-right : goal.returns-clause-right
returns-clause-right c =
    let view = c.args.part.now.view in
    let bare = c.in_ok-bare.bare in
    let here = subst (IsReadAt view c.args.reader.now.characters.modifier bare) c.in-Some.is
    c.in_ok-attached.ensures.attached in
    marks_join view c.args.left.cp bare (bare + 1) c.in_ok-bare.ensures.right here.0

pub returns-clause-attachments : goal.returns-clause-attachments
returns-clause-attachments c =
    let view = c.args.part.now.view in
    let modifier = c.args.reader.now.characters.modifier in
    let cp = c.args.left.cp in
    let bare = c.in_ok-bare.bare in
    let before = c.in_ok-bare.ensures.attachments modifier in
    let here = subst (IsReadAt view modifier bare) c.in-Some.is c.in_ok-attached.ensures.attached in
    let sum : (bare + 1) - cp ≡ (bare - cp) + ((bare + 1) - bare) = omega (arith, c.in_ok-bare.ensures.behind) in
    let one = one_attached view modifier bare c.push_bare.new.attachments c.add.new.self c.in-Some.attached
    c.in_ok-bare.ensures.here c.in_ok-add.ensures.ok here.1 in
    adds_more (IsAttachedAt view modifier) (bare - cp) ((bare + 1) - bare) _ c.args.attachments.now
    c.push_bare.new.attachments c.add.new.self before one sum
