-- What other crates may cite of these proofs.

-- Files that are written one behind the other.
pub use Rattle.doc_pictures.proofs.AlbumLemmas.{pictures-within}
-- Pictures one behind the other: there is one such list, and its files are short.
pub use Rattle.doc_pictures.proofs.OrderLemmas.{pictures-one}
