use Rattle.page_copies.proofs.AnswerLemmas.{copy_answers}
use Rattle.page_copies.proofs.laws.copies_answer.Goals as goal

pub returns : goal.returns
returns c = copy_answers
