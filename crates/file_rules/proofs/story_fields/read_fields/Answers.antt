use Rattle.std.proofs.Common.{◌≡◌, ◌⊎◌, ◌∙◌, Option, Some, None, ℕ, sym, refl}
use Rattle.doc_bits.specs.declared.places.Where.TheVariants.{Table}
use Rattle.doc_bits.specs.Rules.{LeastOrNone, lesser_of}
use Rattle.doc_bits.proofs.Public.{least_either, lesser_none}
use Rattle.fib_form.specs.declared.stories.StoryKind.TheVariants.{Main, Notes, Heads}
use Rattle.file_rules.specs.Source.{DocSource}
use Rattle.file_rules.specs.FieldRules.{BreaksStoryFields, BreaksAllFields}
use Rattle.file_rules.proofs.RefusalLemmas.{refused-rule, holds-rule}
use Rattle.file_rules.proofs.story_fields.read_fields.Goals as goal

-- the least place of the three tables
least_of_three : (source : DocSource) (a b d found : Option ℕ) → LeastOrNone (BreaksStoryFields source Main) a →
    LeastOrNone (BreaksStoryFields source Notes) b → LeastOrNone (BreaksStoryFields source Heads) d →
    found ≡ lesser_of a (lesser_of b d) → LeastOrNone (BreaksAllFields source) found
least_of_three source a b d found ha hb hd e =
    rw e (least_either (BreaksStoryFields source Main) (λ p. BreaksStoryFields source Notes p ⊎ BreaksStoryFields
    source Heads p) a (lesser_of b d) ha (least_either (BreaksStoryFields source Notes) (BreaksStoryFields source
    Heads) b d hb hd))

pub returns-in-Some : goal.returns-in-Some
returns-in-Some c =
    let source = c.args.source.now in
    let found = sym c.in-Some.is ∙ (c.lesser-2.ensures ∙ rw c.lesser.ensures refl) in
    refused-rule Table 52 (BreaksAllFields source) c.in-Some.offset
    (least_of_three source c.in_ok-main.main.fault c.in_ok-notes.notes.fault c.in_ok-heads.heads.fault
    (Some c.in-Some.offset) c.in_ok-main.ensures.0 c.in_ok-notes.ensures.0 c.in_ok-heads.ensures.0 found)

pub returns : goal.returns
returns c =
    let source = c.args.source.now in
    let found = sym c.in_default.is ∙ (c.lesser-2.ensures ∙ rw c.lesser.ensures refl) in
    let main = lesser_none c.in_ok-main.main.fault (lesser_of c.in_ok-notes.notes.fault c.in_ok-heads.heads.fault)
    (sym found) in
    let others = lesser_none c.in_ok-notes.notes.fault c.in_ok-heads.heads.fault main.1 in (
      holds-rule Table 52 (BreaksAllFields source)
          (least_of_three source c.in_ok-main.main.fault c.in_ok-notes.notes.fault c.in_ok-heads.heads.fault None
          c.in_ok-main.ensures.0 c.in_ok-notes.ensures.0 c.in_ok-heads.ensures.0 found),
      (c.in_ok-main.ensures.1 main.0, (c.in_ok-notes.ensures.1 others.0, c.in_ok-heads.ensures.1 others.1)),
    )
