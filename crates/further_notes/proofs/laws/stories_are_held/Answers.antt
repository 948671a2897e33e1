use Rattle.further_notes.proofs.StoryLemmas.{stories_are_held}
use Rattle.further_notes.proofs.laws.stories_are_held.Goals as goal

pub returns : goal.returns
returns c = stories_are_held
