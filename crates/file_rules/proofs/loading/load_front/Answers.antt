-- The first CPs of the pieces are left, within the stream, and as many as the FIB counts.
use Rattle.std.proofs.Common.{◌≡◌, ◌∙◌, ap, length, length-take, arith}
use Rattle.fib_form.specs.Fib.{fib_size}
use Rattle.fib_form.specs.FibFields.{FibFields, fib_fields, text_length}
use Rattle.piece_table.specs.Piece.{flat_pieces, total_length}
use Rattle.piece_table.specs.ClxRules.{text_bounds}
use Rattle.piece_table.proofs.Public.{length-flat_pieces}
use Rattle.file_rules.proofs.StandLemmas.{front_ends}
use Rattle.file_rules.proofs.UnitLemmas.{length-text_units, length-text_places}
use Rattle.file_rules.proofs.loading.load_front.Goals as goal

pub read_units-requires-2 : goal.read_units-requires-2
read_units-requires-2 c =
    let wd = c.args.wd.now in
    let left = c.in_ok-truncate.ensures in
    front_ends (text_bounds (fib_size wd) (length wd)) c.in_ok-pieces.pieces.pieces c.truncate.new.self.pieces
    c.text_len.result c.in_ok-pieces.ensures.within left.text left.sound.each

pub invariant_of-result : goal.invariant_of-result
invariant_of-result c =
    let wd = c.args.wd.now in
    let old = c.in_ok-pieces.pieces.pieces in
    let new = c.truncate.new.self.pieces in
    let count = c.text_len.result in
    let len : count ≡ text_length (fib_fields wd).ccps =
    c.text_len.ensures.value ∙ ap (λ (f : FibFields). text_length f.ccps) c.requires.fields in
    let total : total_length new ≡ text_length (fib_fields wd).ccps = omega (
      arith,
      ap length c.in_ok-truncate.ensures.text,
      length-flat_pieces new,
      length-take count (flat_pieces old),
      length-flat_pieces old,
      c.in_ok-pieces.ensures.total,
      len,
      c.requires.front,
    ) in
    record {
      source = record {
        fields = c.requires.fields;
        wd_small = c.requires.small;
        table_small = c.requires.table_small;
        units = length-text_units wd new ∙ total;
        places = length-text_places wd new ∙ total;
      };
      same = c.in_ok-units.ensures;
    }
