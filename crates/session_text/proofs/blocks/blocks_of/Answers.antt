use Rattle.std.proofs.Common.{◌∙◌, ◌+◌, ◌*◌, ◌^◌, ◌<◌, length, rules, ap, subst, sym}
use Rattle.session_text.specs.declared.added.Added.{Added}
use Rattle.session_text.specs.Puts.{HavePuts}
use Rattle.session_text.proofs.blocks.blocks_of.Goals as goal

pub put-requires : goal.put-requires
put-requires c = record {
  sound = c.requires.sound;
  steps = c.requires.steps;
  few = c.requires.few;
  none = search rules;
  room =
      subst (λ (a : Added). a.base + (2 * length a.items + 3000000) < 2 ^ 32) (sym c.in_ok-grown.ensures)
      c.requires.room;
}

pub returns-clause-puts : goal.returns-clause-puts
returns-clause-puts c =
    subst (λ (a : Added). HavePuts c.args.document.now c.args.ends c.args.changes.now a c.put.new.self.added
    c.put.new.self.splices.items) c.in_ok-grown.ensures c.in_ok-put.ensures.puts

pub returns-clause-base : goal.returns-clause-base
returns-clause-base c = c.in_ok-put.ensures.base ∙ ap (λ (a : Added). a.base) c.in_ok-grown.ensures
