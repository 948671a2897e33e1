use Rattle.std.proofs.Common.{refl, ap, sym, subst, ◌∙◌, []}
use Rattle.sprm_table.specs.Cursor.{left}
use Rattle.sprm_table.specs.Sprm.{SpellsSprmList}
use Rattle.code_losses.proofs.TallyLemmas.{listing_none, listing_ends}
use Rattle.code_losses.proofs.ListingLemmas.{front_more, front_all}
use Rattle.code_losses.proofs.counts.CodeCounts.count_spelt.Goals as goal

pub loop-code-init : goal.loop-code-init
loop-code-init c =
    let start = c.new-prls.ensures in
    record {
      bytes = ap (λ s. s.bytes) start;
      seen = refl;
      codes = c.requires.codes;
      front = λ prls lists spelt counted. record {
        done = [];
        others = prls;
        joined = refl;
        spelt = subst (λ s. SpellsSprmList (left s) prls) (sym start) spelt;
        listing = listing_none c.args.self.now lists counted;
      };
    }

pub loop-code-preserved : goal.loop-code-preserved
loop-code-preserved c =
    let inv = c.loop-code.invariant in
    record {
      bytes = c.in-Some.ensures.given.bytes ∙ inv.bytes;
      seen = c.meet.ensures.seen ∙ inv.seen;
      codes = c.meet.ensures.codes;
      front = λ prls lists spelt counted.
          let front = inv.front prls lists spelt counted in
          front_more prls c.loop-code.prls c.next.new.self lists c.loop-code.self c.meet.new.self c.in-Some.code.0
          c.in-Some.field-0-1 c.in-Some.field-0-2 front (c.in-Some.ensures.taken front.others front.spelt)
          (λ done value. c.meet.ensures.listing lists done value);
    }

pub returns-clause-counted : goal.returns-clause-counted
returns-clause-counted c = λ lists prls counted spelt.
    let now = c.loop-code.self in
    let front = c.loop-code.invariant.front prls lists spelt counted in
    let none = c.in_default.ensures.taken front.others front.spelt in
    listing_ends now _ lists prls (front_all prls c.loop-code.prls lists now front none) refl refl refl
