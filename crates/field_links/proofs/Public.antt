-- What other crates may cite of these proofs.

-- Fields that are open behind the front of a text.
pub use Rattle.field_links.proofs.OpenLemmas.{open_fields-more}
-- What characters a URL has, and where it leads.
pub use Rattle.field_links.proofs.UrlLemmas.{allowed}
