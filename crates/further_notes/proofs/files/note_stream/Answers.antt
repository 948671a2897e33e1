use Rattle.std.proofs.Common.{◌∙◌, sym, subst, ℕ, List}
use Rattle.doc_bits.specs.Rules.{Hold}
use Rattle.fib_versions.specs.VersionRules.{version_rules}
use Rattle.further_notes.proofs.files.note_stream.Goals as goal

pub put_fields-requires-clause-version : goal.put_fields-requires-clause-version
put_fields-requires-clause-version c =
    subst (λ (w : List ℕ). Hold (version_rules w)) (sym (c.deref_mut.ensures.value ∙ c.in_ok-copy.ensures.items))
    c.requires.version
