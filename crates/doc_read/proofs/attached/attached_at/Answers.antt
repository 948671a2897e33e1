-- What is at the CP.
use Rattle.std.proofs.Common.{◌≡◌, ◌∙◌, ◌+◌, sym, ap, subst, ℕ, Bool, true, false, Option, Some, None, MatchOption}
use Rattle.std.proofs.Common.{arith}
use Rattle.std.proofs.lemmas.Bool.{true≢false}
use Rattle.std.specs.Prelude.{slice_index, is_some, IfSome}
use Rattle.prop_map.specs.Settings.{Properties}
use Rattle.prop_map.specs.declared.modifiers.Modifier.{Modifier}
use Rattle.prop_map.specs.Formed.{IsPropertyMap, paragraph_groups, section_groups}
use Rattle.fkp_pages.specs.declared.kind.PageKind.TheVariants.{Papx}
use Rattle.direct_props.specs.Direct.{IsDirectMark}
use Rattle.direct_props.specs.PageRules.{IsValidPlace}
use Rattle.text_codes.specs.Paragraph.{is_paragraph_end}
use Rattle.doc_model.specs.declared.item.Mark.{Mark}
use Rattle.doc_model.proofs.Public.{ForSome-from_cases}
use Rattle.doc_columns.specs.declared.attached.Attached.{Attached}
use Rattle.doc_columns.specs.Changes.{HasAttachedMaps}
use Rattle.doc_read.specs.Items.{IsDirectMarkAt}
use Rattle.doc_read.specs.Reading.{ArePassed, HaveValidMarks, TextView, ends_paragraph_at, field_at, note_at}
use Rattle.doc_read.specs.Reading.{section_at}
use Rattle.doc_read.specs.Reading.{text_view}
use Rattle.doc_read.specs.Attached.{IsAttachedAt}
use Rattle.doc_read.proofs.PageLemmas.{one_mark}
use Rattle.doc_read.proofs.attached.attached_at.Goals as goal

pub byte_at-fld-requires-clause-passed : goal.byte_at-fld-requires-clause-passed
byte_at-fld-requires-clause-passed c =
    (subst (λ (v : TextView). ArePassed v.marks c.args.passed.now c.args.cp) (sym c.text-text.ensures.view)
    c.requires.passed).fields

pub kind_at-note-requires-clause-passed : goal.kind_at-note-requires-clause-passed
kind_at-note-requires-clause-passed c =
    (subst (λ (v : TextView). ArePassed v.marks c.args.passed.now c.args.cp) (sym c.text-text.ensures.view)
    c.requires.passed).notes

pub section_at-requires-clause-passed : goal.section_at-requires-clause-passed
section_at-requires-clause-passed c =
    (subst (λ (v : TextView). ArePassed v.marks c.args.passed.now c.args.cp) (sym c.text-text.ensures.view)
    c.requires.passed).sections

-- what is at a CP, by its parts
stands : (view : TextView) (modifier : Modifier) (cp : ℕ) (ends : Bool) (attached : Attached) →
    ends ≡ is_paragraph_end (slice_index view.units cp) (is_some attached.sect) →
    attached.sect ≡ section_at view.marks.section_cps view.maps cp → attached.fld ≡ field_at view.marks cp →
    attached.note ≡ note_at view.marks cp →
    IsDirectMarkAt ends view.wd view.paragraphs (slice_index view.places cp) modifier attached.mark →
    HasAttachedMaps attached → IsAttachedAt view modifier cp attached
stands view modifier cp ends attached ends_are sect fld note mark maps = record {
  sect_is = sect;
  mark_is =
      subst (λ b. IsDirectMarkAt b view.wd view.paragraphs (slice_index view.places cp) modifier attached.mark) ends_are
      mark;
  fld_is = fld;
  note_is = note;
  maps = maps;
}

-- what is known of a mark
abbrev IsMarkOf : TextView → Modifier → ℕ → Option Mark → Type 0
IsMarkOf view modifier cp mark =
    MatchOption mark (¬ (IsValidPlace Papx view.wd view.paragraphs (slice_index view.places cp)))
    (λ (m : Mark). IsValidPlace Papx view.wd view.paragraphs (slice_index view.places cp)
    × IsDirectMark view.wd view.paragraphs (slice_index view.places cp) modifier m.istd m.pap)

pub returns-then-not-ends-clause-attached : goal.returns-then-not-ends-clause-attached
returns-then-not-ends-clause-attached c =
    let text = c.text-text.result.now in
    let view = c.args.part.now.view in
    let cp = c.args.cp in
    let unit = slice_index text.units.now cp in
    let sect = c.in_ok-sect.sect in
    let modifier = c.args.reader.now.characters.modifier in
    let attached : Attached =
    record { fld = c.byte_at-fld.result; note = c.kind_at-note.result; mark = None; sect = sect } in
    let goes_on : is_paragraph_end unit (is_some sect) ≡ false =
    sym (c.ends_paragraph-ends.ensures ∙ ap (is_paragraph_end unit) c.is_some.ensures) ∙ c.if-not-ends.true in
    let here : ends_paragraph_at (text_view text) cp ≡ false =
    ap (λ (o : Option Properties). is_paragraph_end unit (is_some o)) (sym c.in_ok-sect.ensures.section) ∙ goes_on in
    let there = stands (text_view text) modifier cp false attached (sym goes_on) c.in_ok-sect.ensures.section
    c.byte_at-fld.ensures.byte c.kind_at-note.ensures.kind tt
    (record {
      pap = ForSome-from_cases None (λ (mark : Mark). IsPropertyMap paragraph_groups mark.pap) tt;
      sect = ForSome-from_cases sect (IsPropertyMap section_groups) c.in_ok-sect.ensures.formed;
    }) in
    subst (λ (v : TextView). HaveValidMarks v cp (cp + 1) × IsAttachedAt v modifier cp attached)
    c.text-text.ensures.view
    (one_mark (text_view text) cp (λ ends. absurd (true≢false (sym ends ∙ here))), there)

pub returns-in_default-clause-attached : goal.returns-in_default-clause-attached
returns-in_default-clause-attached c = λ all.
    let text = c.text-text.result.now in
    let view = c.args.part.now.view in
    let cp = c.args.cp in
    let unit = slice_index text.units.now cp in
    let ends : is_paragraph_end unit (is_some c.in_ok-sect.sect) ≡ true =
    sym (c.ends_paragraph-ends.ensures ∙ ap (is_paragraph_end unit) c.is_some.ensures) ∙ c.if-not-ends.false in
    let here : ends_paragraph_at (text_view text) cp ≡ true =
    ap (λ (o : Option Properties). is_paragraph_end unit (is_some o)) (sym c.in_ok-sect.ensures.section) ∙ ends in
    let there = subst (λ (v : TextView). ends_paragraph_at v cp ≡ true) c.text-text.ensures.view here in
    subst (IsMarkOf view c.args.reader.now.characters.modifier cp) c.in_default.is c.in_ok-mark.ensures.mark
    (all cp (omega arith) (omega arith) there)

pub returns-clause-attached : goal.returns-clause-attached
returns-clause-attached c =
    let text = c.text-text.result.now in
    let view = c.args.part.now.view in
    let cp = c.args.cp in
    let unit = slice_index text.units.now cp in
    let sect = c.in_ok-sect.sect in
    let mark = c.in-Some.mark in
    let modifier = c.args.reader.now.characters.modifier in
    let attached : Attached =
    record { fld = c.byte_at-fld.result; note = c.kind_at-note.result; mark = Some mark; sect = sect } in
    let ends : is_paragraph_end unit (is_some sect) ≡ true =
    sym (c.ends_paragraph-ends.ensures ∙ ap (is_paragraph_end unit) c.is_some.ensures) ∙ c.if-not-ends.false in
    let known = subst (IsMarkOf view modifier cp) c.in-Some.is c.in_ok-mark.ensures.mark in
    let formed = subst (λ (o : Option Mark). IfSome o (λ (m : Mark). IsPropertyMap paragraph_groups m.pap)) c.in-Some.is
    c.in_ok-mark.ensures.formed in
    let direct = subst
    (λ (v : TextView). IsDirectMark v.wd v.paragraphs (slice_index v.places cp) modifier mark.istd mark.pap)
    (sym c.text-text.ensures.view) known.1 in
    let there = stands (text_view text) modifier cp true attached (sym ends) c.in_ok-sect.ensures.section
    c.byte_at-fld.ensures.byte c.kind_at-note.ensures.kind direct
    (record {
      pap = ForSome-from_cases (Some mark) (λ (mark : Mark). IsPropertyMap paragraph_groups mark.pap) formed;
      sect = ForSome-from_cases sect (IsPropertyMap section_groups) c.in_ok-sect.ensures.formed;
    }) in (
      one_mark view cp (λ _. known.0),
      subst (λ (v : TextView). IsAttachedAt v modifier cp attached) c.text-text.ensures.view there,
    )
