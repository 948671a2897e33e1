use Rattle.list_numbers.proofs.MarkValueLemmas.{word_of_bytes}
use Rattle.list_numbers.proofs.mark_values.word.Goals as goal

pub returns : goal.returns
returns c = rw (c.byte.ensures, c.byte-2.ensures) (word_of_bytes c.args.value.now)
