use Rattle.std.proofs.Common.{◌∙◌, sym, length, true≢false, arith}
use Rattle.full_save.specs.WordDocument.{table_stream}
use Rattle.fast_save.specs.Written.{can_save}
use Rattle.fast_save.proofs.CanLemmas.{are_small}
use Rattle.fast_save.proofs.WrittenLemmas.{written_count, written_few, written_room, bins_there, pages_there}
use Rattle.fast_save.proofs.written.rewritten_if_it_fits.Goals as goal

pub written_again-requires-clause-count : goal.written_again-requires-clause-count
written_again-requires-clause-count c =
    written_count c.args.bytes.now c.args.document.now c.args.parts.now c.requires.session

pub written_again-requires-clause-room : goal.written_again-requires-clause-room
written_again-requires-clause-room c =
    written_room c.args.bytes.now c.args.document.now c.args.parts.now c.requires.session

pub fits_the_bound-requires : goal.fits_the_bound-requires
fits_the_bound-requires c =
    let can = c.requires in
    let text =
    (are_small c.args.counts.now (length (table_stream c.args.document.now)) can.judged.sectors).text in
    let few = c.in_ok-text.ensures.few in
    let right = c.text_is_formed.ensures in
    record {
      file =
          bins_there c.args.bytes.now c.args.document.now c.args.parts.now (can_save can) right.document right.items
          right.pieces;
      text =
          pages_there c.args.bytes.now c.args.document.now c.args.parts.now c.args.which c.in_ok-text.text can.session
          c.in_ok-text.ensures;
      few = omega (arith, few, written_few c.args.bytes.now c.args.document.now c.args.parts.now can.session);
      runs = omega (arith, text);
      units = omega (arith, text);
    }

pub returns-then-few : goal.returns-then-few
returns-then-few c =
    record { again = c.in_ok-text.ensures; few = c.in_ok-few.ensures.0 c.if-few.true }

pub returns-else-few : goal.returns-else-few
returns-else-few c = record {
  text = c.in_ok-text.text;
  again = c.in_ok-text.ensures;
  much = λ has. absurd (true≢false (sym (c.in_ok-few.ensures.1 has) ∙ c.if-few.false));
}
