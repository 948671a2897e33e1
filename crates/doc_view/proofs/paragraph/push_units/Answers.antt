use Rattle.std.proofs.Common.{◌∙◌, ◌+◌, ℕ, Bool, Option, sym, ap, subst, drop}
use Rattle.std.specs.Prelude.{slice_index}
use Rattle.std.proofs.lemmas.Option.{slice_get-get_or}
use Rattle.view_places.specs.declared.glyph.Glyph.TheVariants.{Unit}
use Rattle.page_out.specs.Printed.{Prints}
use Rattle.doc_view.specs.declared.paragraph.Saying.{Saying}
use Rattle.doc_view.specs.Labels.{label_glyph}
use Rattle.doc_view.specs.Lines.{glyph_said, maybe_said}
use Rattle.doc_view.proofs.LabelLemmas.{LabelAt, label_next, label_put, label_start}
use Rattle.doc_view.proofs.paragraph.push_units.Goals as goal

pub loop-unit-init : goal.loop-unit-init
loop-unit-init g c =
    let units = c.args.units.now in
    record {
      table = ap (λ (s : Saying). s.in_table) c.new-saying.ensures;
      label =
          subst (λ (half : Option ℕ). LabelAt g.K.Sink c.args.out.now c.args.page.now c.args.out.now c.args.page.now
          c.args.in_table half units units) (sym (ap (λ (s : Saying). s.half) c.new-saying.ensures))
          (label_start g.K.Sink c.args.out.now c.args.page.now c.args.in_table units);
    }

pub loop-unit-preserved : goal.loop-unit-preserved
loop-unit-preserved g c =
    let units = c.args.units.now in
    let old = c.loop-unit in
    let put = c.push_labelled in
    let unit = slice_index units old.unit-index in
    let said : Prints g.K.Sink old.out old.page put.new.out put.new.page
    (maybe_said c.args.in_table old.saying.half (label_glyph unit)) =
    subst (λ (in_table : Bool). Prints g.K.Sink old.out old.page put.new.out put.new.page
    (maybe_said in_table old.saying.half (label_glyph unit))) old.invariant.table put.ensures.said in
    record {
      table = ap (λ (s : Saying). s.in_table) put.ensures.after ∙ old.invariant.table;
      label =
          subst (λ (half : Option ℕ). LabelAt g.K.Sink c.args.out.now c.args.page.now put.new.out put.new.page
          c.args.in_table half units (drop (old.unit-index + 1) units))
          (sym (ap (λ (s : Saying). s.half) put.ensures.after))
          (label_next g.K.Sink c.args.out.now c.args.page.now old.out old.page put.new.out put.new.page c.args.in_table
          old.saying.half units old.unit-index unit old.invariant.label
          (slice_get-get_or units old.unit-index 0 c.loop-unit-test.true) said);
    }

pub returns : goal.returns
returns g c =
    let units = c.args.units.now in
    let old = c.loop-unit in
    let put = c.push_glyph in
    let said : Prints g.K.Sink old.out old.page put.new.out put.new.page
    (glyph_said c.args.in_table old.saying.half (Unit 0x20)) =
    subst (λ (in_table : Bool). Prints g.K.Sink old.out old.page put.new.out put.new.page
    (glyph_said in_table old.saying.half (Unit 0x20))) old.invariant.table put.ensures.said in
    label_put g.K.Sink c.args.out.now c.args.page.now old.out old.page put.new.out put.new.page c.args.in_table
    old.saying.half units old.unit-index old.invariant.label c.loop-unit-test.false said
