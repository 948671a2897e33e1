use Rattle.std.proofs.Common.{ℕ, ◌⊎◌}
use Rattle.fib_form.specs.declared.table_parts.TablePart.TheVariants.{SttbfBkmk, PlcfBkf, PlcfBkl}
use Rattle.doc_bits.specs.Rules.{LeastOrNone}
use Rattle.doc_bits.proofs.Public.{least_either}
use Rattle.file_rules.specs.BookmarkRules.{IsLeavingPair}
use Rattle.file_rules.proofs.bookmarks.leaving_pair.Goals as goal

pub returns : goal.returns
returns c =
    let source = c.args.source.now in
    let starts : ℕ → Type 0 = IsLeavingPair source PlcfBkf in
    let ends : ℕ → Type 0 = IsLeavingPair source PlcfBkl in
    let behind : LeastOrNone (λ place. starts place ⊎ ends place) c.lesser.result =
    rw c.lesser.ensures (least_either starts ends c.if_leaving-starts.result c.if_leaving-ends.result
    c.if_leaving-starts.ensures c.if_leaving-ends.ensures) in
    rw c.lesser-2.ensures (least_either (IsLeavingPair source SttbfBkmk) (λ place. starts place ⊎ ends place)
    c.if_leaving-names.result c.lesser.result c.if_leaving-names.ensures behind)
