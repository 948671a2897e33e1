use Rattle.std.proofs.Common.{◌≡◌, ◌∙◌, ◌++◌, ◌∷◌, [], ap, map}
use Rattle.std.proofs.lemmas.Result.{IfOk-weaker}
use Rattle.full_save.specs.Text.{extra_mark}
use Rattle.save_laws.specs.Slots.{story_slots}
use Rattle.session_text.specs.WrittenAgain.{slot_item}
use Rattle.session_text.proofs.GatherLemmas.{story_ended, story_open}
use Rattle.session_text.proofs.gathered.TextBuilder.with_story.Goals as goal

pub returns-then-end : goal.returns-then-end
returns-then-end c =
    let front = c.args.self in
    let texts = c.args.texts.now in
    IfOk-weaker c.with_mark.result (λ made. made ≡ c.in_ok-made.made ++ extra_mark ∷ [])
    (λ made. made ≡ front ++ map slot_item (story_slots texts c.args.end))
    (λ made is. is ∙ (ap (λ l. l ++ extra_mark ∷ []) c.in_ok-made.ensures ∙ story_ended front texts c.args.end
    c.if-end.true)) c.with_mark.ensures

pub returns : goal.returns
returns c = c.in_ok-made.ensures ∙ story_open c.args.self c.args.texts.now c.args.end c.if-end.false
