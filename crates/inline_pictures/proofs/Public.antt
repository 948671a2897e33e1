-- What other crates may cite of these proofs.

-- A picture is one, and what is found in the block behind the shape is the picture.
pub use Rattle.inline_pictures.proofs.PictureLemmas.{picture-unique}
