-- What is carried is well formed.
use Rattle.std.proofs.Common.{◌<◌, ◌^◌, ℕ, List, [], ◌∷◌, length, refl, sym, ap, ◌∙◌, subst, arith}
use Rattle.doc_model.specs.Carried.{AreCarriedStreams}
use Rattle.file_rules.specs.PartRules.{PartLists}
use Rattle.file_rules.specs.FileRules.{doc_source_of}
use Rattle.doc_read.proofs.LevelLemmas.{lists-with_levels, levels-short}
use Rattle.doc_read.proofs.PartLemmas.{short-cons}
use Rattle.doc_read.proofs.StreamLemmas.{carried-fit}
use Rattle.doc_read.proofs.carried.read_carried.Goals as goal

pub invariant_of-result-clause-short : goal.invariant_of-result-clause-short
invariant_of-result-clause-short c =
    let levels = c.in_ok-from_slice.ensures ∙ ap (λ (p : PartLists). p.levels) c.parts.view_is in
    let source = doc_source_of c.args.text.now in
    let few = levels-short source c.args.parts.now.levels c.requires.lists.has_levels in
    let small : length source.table < 2 ^ 32 = rw c.source-source.ensures at c.in_ok-copy_part.ensures.small in
    let levels_few : length c.args.parts.now.levels < 2 ^ 32 = omega (arith, few, small) in
    let none : List (List ℕ) = [] in
    let from_lfo : List (List ℕ) = c.in_ok-copy_part-5.field-0 ∷ none in
    let from_levels : List (List ℕ) = c.in_ok-from_slice.field-0 ∷ from_lfo in
    let from_lst : List (List ℕ) = c.in_ok-copy_part-4.field-0 ∷ from_levels in
    let from_assoc : List (List ℕ) = c.in_ok-copy_part-3.field-0 ∷ from_lst in
    let from_dop : List (List ℕ) = c.in_ok-copy_part-2.field-0 ∷ from_assoc in
    short-cons _ _ from_dop c.in_ok-copy_part.ensures.bytes c.in_ok-copy_part.ensures.short
    (short-cons _ _ from_assoc c.in_ok-copy_part-2.ensures.bytes c.in_ok-copy_part-2.ensures.short
    (short-cons _ _ from_lst c.in_ok-copy_part-3.ensures.bytes c.in_ok-copy_part-3.ensures.short
    (short-cons _ _ from_levels c.in_ok-copy_part-4.ensures.bytes c.in_ok-copy_part-4.ensures.short
    (short-cons _ _ from_lfo levels levels_few
    (short-cons _ _ none c.in_ok-copy_part-5.ensures.bytes c.in_ok-copy_part-5.ensures.short refl)))))

pub invariant_of-result-clause-lists : goal.invariant_of-result-clause-lists
invariant_of-result-clause-lists c =
    rw (
      c.in_ok-copy_part-4.ensures.bytes,
      c.source-source.ensures,
      c.in_ok-from_slice.ensures,
      ap (λ (p : PartLists). p.levels) c.parts.view_is,
    )
    (lists-with_levels (doc_source_of c.args.text.now) c.args.parts.now.levels c.requires.rules.rest.1.1.1.1.1.0
    c.requires.lists.has_levels)

pub invariant_of-result-clause-others : goal.invariant_of-result-clause-others
invariant_of-result-clause-others c =
    subst AreCarriedStreams (sym c.in_ok-copy_streams.ensures) (carried-fit c.args.container.now
    c.args.text.now.table c.requires.bounds c.requires.room)
