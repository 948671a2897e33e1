use Rattle.std.proofs.lemmas.Result.{MatchResult-weaker}
use Rattle.doc_bits.specs.Rules.{given}
use Rattle.file_rules.specs.PartRules.{part_rules}
use Rattle.file_rules.specs.FileRules.{FileText, HasFileText, doc_source_of, loading_rules}
use Rattle.file_rules.proofs.RefusalLemmas.{refused-next, refused-given}
use Rattle.file_rules.proofs.judging.check_contents.Goals as goal

pub returns : goal.returns
returns c =
    let contents = c.args.container.now in
    let text = c.in_ok-text.text in
    let read = c.in_ok-text.ensures in
    let parts = λ (text : FileText). part_rules (doc_source_of text) in
    MatchResult-weaker c.check_text-judged.result c.check_text-judged.ensures
    (λ _ holds. (read.0, (text, (read.1, holds))))
    (λ fault refused. refused-next (loading_rules contents) (given (HasFileText contents) parts) fault read.0
    (refused-given (HasFileText contents) parts text fault read.1 refused))
