-- From the run of one border to that of the next.
use Rattle.std.proofs.Common.{◌∙◌, ap, take, arith}
use Rattle.run_lists.specs.Spread.{total_len}
use Rattle.doc_columns.proofs.shared_text.span.Goals as goal

pub returns-clause-span : goal.returns-clause-span
returns-clause-span g c =
    let runs = c.args.runs.now in
    let first = c.in-Some.ensures.begins in
    let end = c.in-Some-border.ensures.begins in
    record {
      is_span = record {
        ordered = omega (arith, first.0, end.0, c.border-2.ensures.order);
        within = omega (arith, end.0, c.border-2.ensures.at.there);
      };
      begins = ap (λ n. total_len (take n runs)) first.0 ∙ c.border.ensures.at.begins ∙ first.1;
      ends = ap (λ n. total_len (take n runs)) end.0 ∙ c.border-2.ensures.at.begins ∙ end.1;
    }
