-- A picture is one, and what is found in the block behind the shape is the picture.
use Rattle.std.proofs.Common.{◌≡◌, ℕ, List, ◌⊎◌, inl, inr, Option, None, Some, MatchOption, sym, ap, ◌∙◌}
use Rattle.std.proofs.Common.{subst}
use Rattle.std.proofs.lemmas.Option.{same_Some}
use Rattle.inline_pictures.specs.Records.{record_type, record_end, IsRecordAt}
use Rattle.inline_pictures.specs.Picf.{IsPicfAt, picf_end, art_at}
use Rattle.inline_pictures.specs.InlinePictures.{IsInlinePicture, InlinePictureIsOne}
use Rattle.inline_pictures.specs.Blips.{IsBlip, IsFileBlock, embedded_at}
use Rattle.inline_pictures.specs.declared.picture.PictureFile.{PictureFile}

-- a file is told by its kind and its range
same_file : (one other : PictureFile) → one.kind ≡ other.kind → one.from ≡ other.from → one.to ≡ other.to → one ≡ other
same_file one other kind from to =
    let first : one ≡ record { kind = other.kind; from = one.from; to = one.to } =
    ap (λ k. record { kind = k; from = one.from; to = one.to }) kind in
    let second : record { kind = other.kind; from = one.from; to = one.to } ≡ record
    { kind = other.kind; from = other.from; to = one.to } =
    ap (λ place. record { kind = other.kind; from = place; to = one.to }) from in
    let third : record { kind = other.kind; from = other.from; to = one.to } ≡ other =
    ap (λ place. record { kind = other.kind; from = other.from; to = place }) to in
    first ∙ (second ∙ third)

-- a blip has one file
blip-unique : (stream : List ℕ) (at limit : ℕ) (one other : PictureFile) → IsBlip stream at limit one
    → IsBlip stream at limit other → one ≡ other
blip-unique stream at limit one other a b =
    same_file one other (same_Some one.kind other.kind (sym a.kind ∙ b.kind)) (a.from ∙ sym b.from) (a.to ∙ sym b.to)

-- a block has one file
block-unique : (stream : List ℕ) (at limit : ℕ) (one other : PictureFile) → IsFileBlock stream at limit one
    → IsFileBlock stream at limit other → one ≡ other
block-unique stream at limit one other (inl a) (inl b) =
    blip-unique stream (embedded_at stream at) (record_end stream at) one other a.blip b.blip
block-unique stream at limit one other (inl a) (inr b) = absurd (b.bare a.fbse)
block-unique stream at limit one other (inr a) (inl b) = absurd (a.bare b.fbse)
block-unique stream at limit one other (inr a) (inr b) = blip-unique stream at limit one other a.blip b.blip

-- an offset has one picture
pub picture-unique : InlinePictureIsOne
picture-unique stream offset one other a b =
    block-unique stream (record_end stream (art_at stream offset)) (picf_end stream offset) one other a.block b.block

-- what is found in the block behind the shape is the picture
pub picture-of_block : (stream : List ℕ) (offset end shape blocks : ℕ) (found : Option PictureFile)
    → IsPicfAt stream offset → end ≡ picf_end stream offset → shape ≡ art_at stream offset → IsRecordAt stream shape end
    → blocks ≡ record_end stream shape → record_type stream shape ≡ 0xF004
    → MatchOption found ((file : PictureFile) → ¬ (IsFileBlock stream blocks end file)) (IsFileBlock stream blocks end)
    → MatchOption found ((file : PictureFile) → ¬ (IsInlinePicture stream offset file)) (IsInlinePicture stream offset)
picture-of_block stream offset end shape blocks None picf ends begins drawing behind container none = λ file picture.
    none file (
    subst (λ place. IsFileBlock stream place end file) (sym (behind ∙ ap (λ place. record_end stream place) begins))
    (subst (λ limit. IsFileBlock stream (record_end stream (art_at stream offset)) limit file) (sym ends) picture.block))
picture-of_block stream offset end shape blocks (Some file) picf ends begins drawing behind container block = record {
  picf = picf;
  shape = subst (λ limit. IsRecordAt stream (art_at stream offset) limit) ends
      (subst (λ place. IsRecordAt stream place end) begins drawing);
  container = subst (λ place. record_type stream place ≡ 0xF004) begins container;
  block = subst (λ limit. IsFileBlock stream (record_end stream (art_at stream offset)) limit file) ends
      (subst (λ place. IsFileBlock stream place end file) (behind ∙ ap (λ place. record_end stream place) begins) block);
}
