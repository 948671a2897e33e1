use Rattle.std.proofs.Common.{◌≡◌, ◌≤◌, ◌+◌, ◌-◌, ◌++◌, ℕ, Bool, List, [], ◌∷◌, length, ap, sym, subst, ◌∙◌, arith}
use Rattle.std.specs.Prelude.{nat_lt}
use Rattle.std.proofs.lemmas.List.{length-append}
use Rattle.doc_model.specs.declared.item.Item.{Item}
use Rattle.full_save.specs.Text.{mark_if, note_story, head_story, text_items, text_counts}
use Rattle.doc_model.specs.declared.document.Document.{Document}
use Rattle.full_save.specs.RunsSoFar.{IsTextSoFar, IsWholeText, IsSavedTextOf}
use Rattle.doc_columns.proofs.Public.{seen_document}
use Rattle.full_save.proofs.TextLemmas.{text_is, text_sizes, came_behind, mark_most}
use Rattle.full_save.proofs.text.text_of.Goals as goal

pub push_text-requires : goal.push_text-requires
push_text-requires c =
    let d = seen_document c.document.inside in
    let sizes = text_sizes d in
    let none = c.new-text.ensures.long in
    let small = subst (λ (x : Document). length (text_items x) ≤ 500001) (sym c.document.view_is) c.requires in
    omega (arith, sizes.stories)

pub push_story-requires : goal.push_story-requires
unfolding note_story head_story
push_story-requires c =
    let d = seen_document c.document.inside in
    let sizes = text_sizes d in
    let none = c.new-text.ensures.long in
    let count = c.in_ok-push_text.ensures.count in
    let small = subst (λ (x : Document). length (text_items x) ≤ 500001) (sym c.document.view_is) c.requires in
    omega (arith, sizes.stories, sizes.notes, sizes.heads)

pub push_story-requires-2 : goal.push_story-requires-2
unfolding note_story head_story
push_story-requires-2 c =
    let d = seen_document c.document.inside in
    let sizes = text_sizes d in
    let none = c.new-text.ensures.long in
    let count = c.in_ok-push_text.ensures.count in
    let notes = c.in_ok-push_story.ensures.count in
    let small = subst (λ (x : Document). length (text_items x) ≤ 500001) (sym c.document.view_is) c.requires in
    omega (arith, sizes.stories, sizes.notes, sizes.heads)

pub mark_behind-requires : goal.mark_behind-requires
unfolding note_story head_story
mark_behind-requires c =
    let d = seen_document c.document.inside in
    let sizes = text_sizes d in
    let none = c.new-text.ensures.long in
    let count = c.in_ok-push_text.ensures.count in
    let notes = c.in_ok-push_story.ensures.count in
    let heads = c.in_ok-push_story-2.ensures.count in
    let small = subst (λ (x : Document). length (text_items x) ≤ 500001) (sym c.document.view_is) c.requires in
    omega (arith, sizes.stories, sizes.notes, sizes.heads)

pub finish-requires : goal.finish-requires
unfolding note_story head_story
finish-requires c =
    let d = seen_document c.document.inside in
    let sizes = text_sizes d in
    let none = c.new-text.ensures.long in
    let count = c.in_ok-push_text.ensures.count in
    let notes = c.in_ok-push_story.ensures.count in
    let heads = c.in_ok-push_story-2.ensures.count in
    let mark = c.in_ok-mark_behind.ensures.count in
    let small = subst (λ (x : Document). length (text_items x) ≤ 500001) (sym c.document.view_is) c.requires in
    omega (
      arith,
      sizes.stories,
      sizes.notes,
      sizes.heads,
      mark_most (nat_lt c.push_text.new.self.len
          c.push_story-2.new.self.len),
    )

pub returns : goal.returns
unfolding note_story head_story text_counts
returns c =
    let d = seen_document c.document.inside in
    let notes = note_story d in
    let heads = head_story d in
    let before = c.push_text.new.self.len in
    let between = c.push_story.new.self.len in
    let behind = c.push_story-2.new.self.len in
    let none = c.new-text.ensures.long in
    let one = c.in_ok-push_text.ensures.count in
    let two = c.in_ok-push_story.ensures.count in
    let three = c.in_ok-push_story-2.ensures.count in
    let first : IsTextSoFar d.main c.push_text.new.self =
    c.in_ok-push_text.ensures.text [] c.new-text.ensures in
    let second = c.in_ok-push_story.ensures.text d.main first in
    let third = c.in_ok-push_story-2.ensures.text (d.main ++ notes) second in
    let fourth = c.in_ok-mark_behind.ensures.text ((d.main ++ notes) ++ heads) third in
    let whole = c.in_ok-text.ensures (((d.main ++ notes) ++ heads) ++ mark_if (nat_lt before behind)) fourth in
    let both = length-append notes heads in
    let total : behind ≡ before + length (notes ++ heads) = omega arith in
    let mark : nat_lt before behind ≡ nat_lt 0 (length (notes ++ heads)) =
    ap (λ (n : ℕ). nat_lt before n) total ∙ came_behind before (length (notes ++ heads)) in
    let items = ap (λ (b : Bool). ((d.main ++ notes) ++ heads) ++ mark_if b) mark ∙ sym (text_is d) in
    let a : before ≡ length d.main = omega arith in
    let b : between - before ≡ length notes = omega arith in
    let e : behind - before - (between - before) ≡ length heads = omega arith in
    let given : List ℕ = before ∷ (between - before) ∷ (behind - before - (between - before)) ∷ [] in
    let counts : given ≡ length d.main ∷ length notes ∷ length heads ∷ [] = λ i. a i ∷ b i ∷ e i ∷ [] in
    subst (λ (x : Document). IsSavedTextOf x c.in_ok-text.text) c.document.view_is
    (subst (λ (cs : List ℕ). IsWholeText (text_items d) cs c.in_ok-text.text) counts
    (subst (λ (xs : List Item). IsWholeText xs given c.in_ok-text.text) items whole))
