use Rattle.std.proofs.Common.{◌≡◌, ◌⊎◌, ◌∙◌, Option, Some, None, ℕ, sym}
use Rattle.doc_bits.specs.declared.places.Where.TheVariants.{Table}
use Rattle.doc_bits.specs.Rules.{LeastOrNone, lesser_of}
use Rattle.doc_bits.proofs.Public.{least_either, lesser_none}
use Rattle.file_rules.specs.Source.{DocSource}
use Rattle.file_rules.specs.NoteRules.{BreaksRefs, BreaksNoteCuts}
use Rattle.file_rules.proofs.RefusalLemmas.{refused-rule, holds-rule}
use Rattle.file_rules.proofs.notes.read_notes.Goals as goal

-- the least place of both parts
least_of_both : (source : DocSource) (a b found : Option ℕ) → LeastOrNone (BreaksRefs source) a →
    LeastOrNone (BreaksNoteCuts source) b → found ≡ lesser_of a b → LeastOrNone (λ place. BreaksRefs source place ⊎
    BreaksNoteCuts source place) found
least_of_both source a b found ha hb e = rw e (least_either (BreaksRefs source) (BreaksNoteCuts source) a b ha hb)

pub returns-in-Some : goal.returns-in-Some
returns-in-Some c =
    let source = c.args.source.now in
    refused-rule Table 53 (λ place. BreaksRefs source place ⊎ BreaksNoteCuts source place) c.in-Some.offset
    (least_of_both source c.in_ok-refs.refs.fault c.in_ok-cuts.cuts.fault (Some c.in-Some.offset)
    c.in_ok-refs.ensures.0 c.in_ok-cuts.ensures.0 (sym c.in-Some.is ∙ c.lesser.ensures))

pub returns : goal.returns
returns c =
    let source = c.args.source.now in
    let found = sym c.in_default.is ∙ c.lesser.ensures in
    let none = lesser_none c.in_ok-refs.refs.fault c.in_ok-cuts.cuts.fault (sym found) in (
      holds-rule Table 53 (λ place. BreaksRefs source place ⊎ BreaksNoteCuts source place)
          (least_of_both source c.in_ok-refs.refs.fault c.in_ok-cuts.cuts.fault None c.in_ok-refs.ensures.0
          c.in_ok-cuts.ensures.0 found),
      (c.in_ok-refs.ensures.1 none.0, c.in_ok-cuts.ensures.1 none.1),
    )
