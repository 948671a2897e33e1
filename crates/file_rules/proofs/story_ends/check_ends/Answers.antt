use Rattle.std.proofs.Common.{◌≡◌, ◌∙◌, Option, Some, None, ℕ, List, sym}
use Rattle.doc_bits.specs.declared.places.Where.TheVariants.{Wd}
use Rattle.doc_bits.specs.Rules.{LeastOrNone, lesser_of}
use Rattle.doc_bits.proofs.Public.{least_either}
use Rattle.fib_form.specs.declared.stories.StoryKind.TheVariants.{Notes, Heads}
use Rattle.file_rules.specs.Source.{DocSource}
use Rattle.file_rules.specs.EndRules.{BreaksEnd, BreaksEnds}
use Rattle.file_rules.proofs.RefusalLemmas.{refused-rule, holds-rule}
use Rattle.file_rules.proofs.story_ends.check_ends.Goals as goal

-- the least place of both stories
least_of_both : (source : DocSource) (notes heads : List ℕ) (a b found : Option ℕ) → LeastOrNone (BreaksEnd source
    Notes notes) a → LeastOrNone (BreaksEnd source Heads heads) b → found ≡ lesser_of a b →
    LeastOrNone (BreaksEnds source notes heads) found
least_of_both source notes heads a b found ha hb e = rw e (least_either (BreaksEnd source Notes notes)
    (BreaksEnd source Heads heads) a b ha hb)

pub returns-in-None-clause-judged : goal.returns-in-None-clause-judged
returns-in-None-clause-judged c =
    let source = c.args.source.now in
    let notes = c.args.notes.now in
    let heads = c.args.heads.now in
    let least = least_of_both source notes heads c.stray_unit_place-after_notes.result
    c.stray_unit_place-after_heads.result
    None c.stray_unit_place-after_notes.ensures c.stray_unit_place-after_heads.ensures (sym c.in-None.is ∙
    c.lesser.ensures)
    in
    (notes, (c.requires.notes, (heads, (c.requires.heads, holds-rule Wd 55 (BreaksEnds source notes heads) least))))

pub returns-in-Some-clause-judged : goal.returns-in-Some-clause-judged
returns-in-Some-clause-judged c =
    let source = c.args.source.now in
    let notes = c.args.notes.now in
    let heads = c.args.heads.now in
    let least = least_of_both source notes heads c.stray_unit_place-after_notes.result
    c.stray_unit_place-after_heads.result
    (Some c.in-Some.offset) c.stray_unit_place-after_notes.ensures c.stray_unit_place-after_heads.ensures (sym
    c.in-Some.is
    ∙ c.lesser.ensures) in (
      notes,
      (
        c.requires.notes,
        (
          heads,
          (
            c.requires.heads,
            refused-rule Wd 55 (BreaksEnds source notes heads)
                c.in-Some.offset least,
          ),
        ),
      ),
    )
