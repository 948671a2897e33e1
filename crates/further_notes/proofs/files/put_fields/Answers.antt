use Rattle.std.proofs.Common.{◌≡◌, ◌∙◌, ◌≤◌, ap, sym, subst, arith, ℕ, List, length}
use Rattle.doc_bits.specs.Rules.{Hold}
use Rattle.fib_versions.specs.VersionRules.{version_rules}
use Rattle.fib_versions.proofs.Public.{long_enough}
use Rattle.further_notes.specs.NoteFiles.{count_fields, part_fields, with_numbers, note_wd}
use Rattle.further_notes.proofs.files.put_fields.Goals as goal

pub part_fields-requires : goal.part_fields-requires
part_fields-requires c = subst (λ (w : List ℕ). Hold (version_rules w)) (sym c.requires.same) c.requires.version

pub put_numbers-requires-2-clause-long : goal.put_numbers-requires-2-clause-long
put_numbers-requires-2-clause-long c =
    let long = long_enough c.args.bytes.now c.requires.version in
    omega (arith, long, c.put_numbers.ensures.len)

pub returns-clause-bytes : goal.returns-clause-bytes
unfolding note_wd
returns-clause-bytes c =
    let story = c.args.story in
    let bytes : List ℕ = c.args.bytes.now in
    let first : c.put_numbers.new.bytes ≡ with_numbers (count_fields story bytes) bytes =
    c.put_numbers.ensures.bytes
    ∙ ap (λ (f : List (ℕ × ℕ)). with_numbers f bytes)
    (c.count_fields.ensures ∙ ap (count_fields story) c.requires.same) in
    let parts : c.part_fields.result ≡ part_fields story bytes c.args.refs =
    c.part_fields.ensures ∙ ap (λ (w : List ℕ). part_fields story w c.args.refs) c.requires.same in
    c.put_numbers-2.ensures.bytes ∙ (λ i. with_numbers (parts i) (first i))
