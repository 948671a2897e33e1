use Rattle.std.proofs.Common.{◌≡◌, sym, subst, None, List, Option}
use Rattle.std.specs.Prelude.{MatchOption, ⊤}
use Rattle.doc_bits.specs.declared.places.Story.{Story}
use Rattle.doc_model.specs.declared.item.Item.{Item}
use Rattle.doc_patch.specs.Places.{items_at, story_text}
use Rattle.doc_patch.proofs.Public.{items_are}
use Rattle.doc_mends.specs.Judging.{IsChpWalk}
use Rattle.doc_mends.proofs.judging.ChpWalk.toward.Goals as goal

pub returns-then-is_next : goal.returns-then-is_next
returns-then-is_next c =
    let next = c.is_next.ensures.0 c.if-is_next.true in
    record {
      walk = subst (λ (s : Story). IsChpWalk (items_at c.args.document.now s) c.args.self) (sym next.story_is)
          c.requires.walk;
      story = sym next.story_is;
      ahead = next.ahead;
    }

pub returns-in-None : goal.returns-in-None
returns-in-None c =
    absurd (subst (λ (o : Option (List Item)). MatchOption o ⊥ (λ _. ⊤)) c.in-None.ensures c.requires.there)

pub returns-in-Some-clause-walk : goal.returns-in-Some-clause-walk
returns-in-Some-clause-walk c =
    let text = c.in-Some.text.now in
    subst (λ (t : List Item). IsChpWalk t c.of.result)
    (sym (items_are c.args.document.now c.args.range.story text c.in-Some.ensures)) c.of.ensures.walk
