use Rattle.std.proofs.Common.{◌∙◌, sym, ap, subst, List, ℕ, Option}
use Rattle.doc_view.specs.declared.paragraph.Saying.{Saying}
use Rattle.doc_view.specs.Lines.{other_said}
use Rattle.page_out.specs.Printed.{Prints}
use Rattle.page_out.proofs.Public.{put_then}
use Rattle.doc_view.proofs.SayingLemmas.{said_other, said_unit, waits_other, waits_unit}
use Rattle.doc_view.proofs.paragraph.Saying.push_glyph.Goals as goal
use Rattle.text_codes.specs.Halves.{half_text}

pub returns-in-Some-clause-said : goal.returns-in-Some-clause-said
returns-in-Some-clause-said g c =
    let old = c.args.self.now in
    subst (λ (text : List ℕ). Prints g.K.Sink c.args.out.now c.args.page.now c.push_unit.new.out c.push_unit.new.page
    text)
    (sym (said_unit old.in_table old.half c.args.glyph c.in-Some.unit (sym c.unit_in.ensures ∙ c.in-Some.is)))
    c.push_unit.ensures.said

pub returns-in-Some-clause-after : goal.returns-in-Some-clause-after
returns-in-Some-clause-after g c =
    let old = c.args.self.now in
    c.push_unit.ensures.after
    ∙ ap (λ (h : Option ℕ). record old { half = h })
    (sym (waits_unit old.half c.args.glyph c.in-Some.unit (sym c.unit_in.ensures ∙ c.in-Some.is)))

pub returns-in-None-clause-said : goal.returns-in-None-clause-said
returns-in-None-clause-said g c =
    let old = c.args.self.now in
    let half = c.push_half in
    let other = c.push_other in
    let said : Prints g.K.Sink half.new.out half.new.page other.new.out other.new.page
    (other_said old.in_table c.args.glyph) =
    subst (λ (s : Saying). Prints g.K.Sink half.new.out half.new.page other.new.out other.new.page
    (other_said s.in_table c.args.glyph)) half.ensures.after other.ensures in
    subst (λ (text : List ℕ). Prints g.K.Sink c.args.out.now c.args.page.now other.new.out other.new.page text)
    (sym (said_other old.in_table old.half c.args.glyph (sym c.unit_in.ensures ∙ c.in-None.is)))
    (put_then g.K.Sink c.args.out.now half.new.out other.new.out c.args.page.now half.new.page other.new.page
    (half_text old.half) (other_said old.in_table c.args.glyph) half.ensures.said said)

pub returns-in-None-clause-after : goal.returns-in-None-clause-after
returns-in-None-clause-after g c =
    let old = c.args.self.now in
    c.push_half.ensures.after
    ∙ ap (λ (h : Option ℕ). record old { half = h })
    (sym (waits_other old.half c.args.glyph (sym c.unit_in.ensures ∙ c.in-None.is)))
