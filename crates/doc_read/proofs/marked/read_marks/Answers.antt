use Rattle.std.proofs.Common.{◌∙◌, sym, ap, ◌++◌, map, slice_get, ℕ, arith}
use Rattle.doc_parts.specs.declared.lists.NoteRef.{NoteRef}
use Rattle.fib_form.specs.declared.stories.StoryKind.TheVariants.{Main, Notes, Heads}
use Rattle.file_rules.specs.Source.{story_length}
use Rattle.file_rules.specs.PartRules.{PartLists}
use Rattle.doc_read.specs.Sections.{section_lasts}
use Rattle.doc_read.specs.Marked.{note_kind}
use Rattle.doc_read.proofs.CollectLemmas.{fields_within, collected}
use Rattle.doc_read.proofs.MarkListLemmas.{note_cps_are, note_kinds_are}
use Rattle.doc_read.proofs.marked.read_marks.Goals as goal

pub push_fields-requires-clause-within : goal.push_fields-requires-clause-within
push_fields-requires-clause-within c = λ k fld here.
    let lists = c.args.parts.now in
    let fields_are = ap (λ (l : PartLists). l.main_fields) c.parts.view_is in
    let low = fields_within (story_length c.args.source.now Main) lists.main_fields
    c.requires.has_main_fields.leading.in_order k fld (ap (λ l. slice_get l k) (sym fields_are) ∙ here) in
    omega (arith, low, c.story_len-main_len.ensures.count)

pub push_fields-requires-2-clause-within : goal.push_fields-requires-2-clause-within
push_fields-requires-2-clause-within c = λ k fld here.
    let lists = c.args.parts.now in
    let fields_are = ap (λ (l : PartLists). l.note_fields) c.parts.view_is in
    let low = fields_within (story_length c.args.source.now Notes) lists.note_fields
    c.requires.has_note_fields.leading.in_order k fld (ap (λ l. slice_get l k) (sym fields_are) ∙ here) in
    omega (arith, low, c.story_len-notes_len.ensures.count)

pub push_fields-requires-3-clause-within : goal.push_fields-requires-3-clause-within
push_fields-requires-3-clause-within c = λ k fld here.
    let lists = c.args.parts.now in
    let fields_are = ap (λ (l : PartLists). l.head_fields) c.parts.view_is in
    let low = fields_within (story_length c.args.source.now Heads) lists.head_fields
    c.requires.has_head_fields.leading.in_order k fld (ap (λ l. slice_get l k) (sym fields_are) ∙ here) in
    omega (arith, low, c.story_len-heads_len.ensures.count)

pub returns : goal.returns
returns c =
    let source = c.args.source.now in
    let lists = c.args.parts.now in
    let parts = c.parts.inside in
    let one = c.story_len-main_len.result in
    let two = c.story_len-notes_len.result in
    let one_is = c.story_len-main_len.ensures.count in
    let two_is = c.story_len-notes_len.ensures.count in
    let main = ap (λ (l : PartLists). l.main_fields) c.parts.view_is in
    let notes = ap (λ (l : PartLists). l.note_fields) c.parts.view_is in
    let heads = ap (λ (l : PartLists). l.head_fields) c.parts.view_is in
    let refs = ap (λ (l : PartLists). l.refs) c.parts.view_is in
    let sections = ap (λ (l : PartLists). l.sections) c.parts.view_is in
    let cp_of : NoteRef → ℕ = λ ref. ref.cp in
    record {
      fields = collected (λ (entry : ℕ × ℕ). entry.0) source lists one two parts.fields.main parts.fields.notes
          parts.fields.heads c.new-field_cps.result.items c.push_fields.new.cps.items c.push_fields-2.new.cps.items
          c.push_fields-3.new.cps.items one_is two_is main notes heads
          c.new-field_cps.ensures.items c.in_ok-push_fields.ensures.cps c.in_ok-push_fields-2.ensures.cps
          c.in_ok-push_fields-3.ensures.cps;
      bytes = collected (λ (entry : ℕ × ℕ). entry.1) source lists one two parts.fields.main parts.fields.notes
          parts.fields.heads c.new-field_bytes.result.items c.push_fields.new.bytes.items
          c.push_fields-2.new.bytes.items c.push_fields-3.new.bytes.items one_is two_is main notes heads
          c.new-field_bytes.ensures.items c.in_ok-push_fields.ensures.bytes c.in_ok-push_fields-2.ensures.bytes
          c.in_ok-push_fields-3.ensures.bytes;
      notes = c.in_ok-push_notes.ensures.cps ∙ (ap (λ l. l ++ map cp_of parts.notes.refs) c.new-note_cps.ensures.items
          ∙ (ap (map cp_of) refs ∙ note_cps_are lists.refs));
      kinds = c.in_ok-push_notes.ensures.kinds ∙ (ap (λ l. l ++ map (λ (ref : NoteRef). note_kind ref.auto)
          parts.notes.refs) c.new-note_kinds.ensures.items ∙ (ap (map (λ (ref : NoteRef). note_kind ref.auto)) refs ∙
          note_kinds_are lists.refs));
      sections = c.in_ok-section_cps.ensures ∙ (ap (λ l. section_lasts l one) sections ∙ ap (section_lasts
          lists.sections) one_is);
    }
