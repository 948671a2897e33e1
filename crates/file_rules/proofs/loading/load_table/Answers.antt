use Rattle.std.proofs.Common.{◌≡◌, ◌∙◌, refl, ap}
use Rattle.std.proofs.lemmas.Result.{err_from_is_err_and}
use Rattle.fib_form.specs.FibFields.{FibFields, fib_fields, text_length}
use Rattle.piece_table.specs.Piece.{total_length}
use Rattle.file_rules.proofs.UnitLemmas.{length-text_units, length-text_places}
use Rattle.file_rules.proofs.loading.load_table.Goals as goal

pub returns-in_err-pieces : goal.returns-in_err-pieces
returns-in_err-pieces c =
    let len : c.text_len.result ≡ text_length (fib_fields c.args.wd.now).ccps =
    c.text_len.ensures.value ∙ ap (λ (f : FibFields). text_length f.ccps) c.requires.fields in
    let p = err_from_is_err_and c.from_residual.result c.from_residual.ensures.1 in
    rw (p.1, p.2) (rw len at c.in_err-pieces.ensures.read)

pub invariant_of-result : goal.invariant_of-result
invariant_of-result c =
    let wd = c.args.wd.now in
    let pieces = c.in_ok-pieces.pieces.pieces in
    let len : c.text_len.result ≡ text_length (fib_fields wd).ccps =
    c.text_len.ensures.value ∙ ap (λ (f : FibFields). text_length f.ccps) c.requires.fields in
    let total : total_length pieces ≡ text_length (fib_fields wd).ccps = c.in_ok-pieces.ensures.total ∙ len in
    record {
      source = record {
        fields = c.requires.fields;
        wd_small = c.requires.small;
        table_small = c.requires.table_small;
        units = length-text_units wd pieces ∙ total;
        places = length-text_places wd pieces ∙ total;
      };
      same = c.in_ok-units.ensures;
    }

pub returns : goal.returns
returns c =
    let len : c.text_len.result ≡ text_length (fib_fields c.args.wd.now).ccps =
    c.text_len.ensures.value ∙ ap (λ (f : FibFields). text_length f.ccps) c.requires.fields in
    let read = rw len at c.in_ok-pieces.ensures.read in (read.0, refl, refl, read.1)
