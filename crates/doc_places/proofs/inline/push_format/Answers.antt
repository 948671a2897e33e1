use Rattle.doc_places.proofs.PathLemmas.{seven_put}
use Rattle.doc_places.proofs.inline.push_format.Goals as goal

pub returns-clause-is : goal.returns-clause-is
returns-clause-is c =
    seven_put c.args.format.now c.args.path.now c.push_given.new.path c.push_given-2.new.path c.push_given-3.new.path
    c.push_given-4.new.path c.push_given-5.new.path c.push_given-6.new.path c.push_position.new.path
    c.push_given.ensures.is
    c.push_given-2.ensures.is c.push_given-3.ensures.is c.push_given-4.ensures.is c.push_given-5.ensures.is
    c.push_given-6.ensures.is c.push_position.ensures.is
