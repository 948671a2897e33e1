use Rattle.std.proofs.Common.{◌∙◌}
use Rattle.fib_form.proofs.Public.{form_size-most}
use Rattle.full_save.proofs.FrontLemmas.{front_is}
use Rattle.full_save.proofs.word_document.front_of.Goals as goal

pub write-requires : goal.write-requires
write-requires c = form_size-most c.args.fib.now.form

pub returns : goal.returns
returns c =
    c.in_ok-bytes.ensures
    ∙ front_is c.args.fib.now c.write.new.out c.write.ensures.read_back.1 c.write.ensures.written
