use Rattle.page_copies.proofs.AnswerLemmas.{copy_answered}
use Rattle.page_copies.proofs.laws.copies_answer_alone.Goals as goal

pub returns : goal.returns
returns c = copy_answered
