-- The columns are of one length, and their items well formed: the ranges of numbers come from their types.
use Rattle.std.proofs.Common.{ℕ, ◌<◌, ◌^◌, List, subst, arith}
use Rattle.std.specs.List.{All}
use Rattle.doc_columns.specs.declared.attached.Attached.{Attached}
use Rattle.doc_columns.specs.Attached.{IsRanged}
use Rattle.doc_columns.proofs.ItemsOfLemmas.{length-items_of, formed_items}
use Rattle.doc_columns.proofs.own.OwnColumns.from_parts.Goals as goal

pub invariant_of-result : goal.invariant_of-result
invariant_of-result c = record {
  chps_long = c.requires.chps;
  attachments_long = c.requires.attachments;
  formed =
      record {
        few =
            omega (
              arith,
              c.requires.few,
              length-items_of c.args.units.items c.args.chps c.args.attachments c.requires.chps c.requires.attachments,
            );
        each =
            formed_items c.args.units.items c.args.chps c.args.attachments
            (subst (λ (units : List ℕ). All (λ unit. unit < 2 ^ 16) units) c.deref.ensures.value c.are_words.ensures)
            (subst (λ (attachments : List Attached). All IsRanged attachments) c.as_runs.ensures.runs
            c.are_ranged.ensures)
            c.requires.maps;
      };
}
