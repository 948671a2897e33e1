use Rattle.std.proofs.Common.{◌≡◌, ◌∙◌, ◌+◌, ◌++◌, ℕ, List, length, ap, sym, subst, arith, length-append}
use Rattle.std.specs.Prelude.{slice_index, nat_lt}
use Rattle.doc_model.specs.declared.item.Item.{Item}
use Rattle.doc_model.specs.declared.document.Document.{Document}
use Rattle.doc_model.specs.Collected.{joined_texts}
use Rattle.doc_columns.proofs.Public.{seen_document}
use Rattle.full_save.specs.Text.{mark_if, note_story, head_story, text_counts}
use Rattle.full_save.specs.WordDocument.{units_bytes, items_bytes, text_bytes}
use Rattle.full_save.proofs.TextLemmas.{text_is, text_sizes, puts_both, story_is}
use Rattle.full_save.proofs.word_document.append_stories.Goals as goal

pub overflow_add-notes : goal.overflow_add-notes
unfolding text_counts
overflow_add-notes c =
    let d = c.args.document.now in
    let sizes = (text_sizes d).stories in
    let few = c.requires.few in
    let notes = ap (λ (cs : List ℕ). slice_index cs 1) c.requires.counts in
    let heads = ap (λ (cs : List ℕ). slice_index cs 2) c.requires.counts in
    omega (arith, sizes, few, notes, heads)

pub returns : goal.returns
unfolding note_story head_story text_counts
returns c =
    let d = seen_document c.document.inside in
    let out = c.args.out.now in
    let counts = c.requires.counts ∙ ap text_counts (sym c.document.view_is) in
    let notes : slice_index c.args.counts 1 ≡ length (note_story d) = ap (λ (cs : List ℕ). slice_index cs 1) counts in
    let heads : slice_index c.args.counts 2 ≡ length (head_story d) = ap (λ (cs : List ℕ). slice_index cs 2) counts in
    let one = c.in_ok-append_units.ensures.ok ∙ ap (λ (units : List ℕ). out ++ units_bytes units) c.units.ensures in
    let two = c.in_ok-append_story.ensures
    ∙ ap (λ (xs : List Item). c.append_units.new.out ++ items_bytes xs)
    (story_is (joined_texts d.notes) (slice_index c.args.counts 1) notes) in
    let three = c.in_ok-append_story-2.ensures
    ∙ ap (λ (xs : List Item). c.append_story.new.out ++ items_bytes xs)
    (story_is (joined_texts d.heads) (slice_index c.args.counts 2) heads) in
    let both : slice_index c.args.counts 1 + slice_index c.args.counts 2 ≡ length (note_story d ++ head_story d) =
    omega (arith, notes, heads, length-append (note_story d) (head_story d)) in
    let four = c.in_ok-append_mark.ensures
    ∙ ap (λ (n : ℕ). c.append_story-2.new.out ++ items_bytes (mark_if (nat_lt 0 n))) both in
    let mark = mark_if (nat_lt 0 (length (note_story d ++ head_story d))) in
    let all =
    puts_both out c.append_story-2.new.out c.append_mark.new.out ((d.main ++ note_story d) ++ head_story d) mark
    (puts_both out c.append_story.new.out c.append_story-2.new.out (d.main ++ note_story d) (head_story d)
    (puts_both out c.append_units.new.out c.append_story.new.out d.main (note_story d) one two) three) four in
    subst (λ (x : Document). c.append_mark.new.out ≡ out ++ text_bytes x) c.document.view_is
    (all ∙ ap (λ (xs : List Item). out ++ items_bytes xs) (sym (text_is d)))
