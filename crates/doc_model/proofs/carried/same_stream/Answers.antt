-- Streams are the same where their names and bytes are.
use Rattle.std.proofs.Common.{rules, ◌≡◌, ◌↔◌}
use Rattle.std.specs.Prelude.{IsTrue}
use Rattle.doc_model.proofs.StreamLemmas.{stream_of_parts, same_by_parts, same_field}
use Rattle.doc_model.proofs.carried.same_stream.Goals as goal

pub returns-then-eq : goal.returns-then-eq
returns-then-eq c =
    let names : c.name.result.now ≡ c.name-2.result.now = search rules in
    let bytes : IsTrue c.eq-then-eq.result ↔ c.bytes.result.now ≡ c.bytes-then-eq.result.now = search rules in (
      (λ same.
          same_by_parts _ _ _ _ _ _ (stream_of_parts _ _ _ c.name.ensures c.bytes.ensures)
          (stream_of_parts _ _ _ c.name-2.ensures c.bytes-then-eq.ensures) names (bytes.0 same)),
      λ same. bytes.1 (same_field (λ s. s.bytes) _ _ _ _ c.bytes.ensures c.bytes-then-eq.ensures same),
    )

pub returns-else-eq : goal.returns-else-eq
returns-else-eq c =
    let names : IsTrue c.eq.result ↔ c.name.result.now ≡ c.name-2.result.now = search rules in
    ((λ same. search rules), λ same. names.1 (same_field (λ s. s.name) _ _ _ _ c.name.ensures c.name-2.ensures same))
