use Rattle.std.proofs.Common.{◌∙◌, ap}
use Rattle.session_text.specs.StoryMarks.{nth_text_begin}
use Rattle.session_text.proofs.StepLemmas.{begin_of-all}
use Rattle.session_text.proofs.stories.items_of.Goals as goal

pub returns : goal.returns
returns c =
    c.begin_of_text.ensures.begin
    ∙ (ap (nth_text_begin c.args.texts.now) c.len.ensures.len ∙ begin_of-all c.args.texts.now)
