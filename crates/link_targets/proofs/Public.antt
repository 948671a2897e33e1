-- What other crates may cite of these proofs.

-- Where the links of a document may lead.
pub use Rattle.link_targets.proofs.UrlLemmas.{known_url}
