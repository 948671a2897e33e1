-- Where the file of a picture lies.
use Rattle.std.proofs.Common.{◌≡◌, ◌∙◌, ap, true≢false, ℕ, ◌+◌, ◌*◌, ◌%◌, ◌<◌, ◌≤◌, Bool, true, false, List, length, inl, inr, sym, subst, arith}
use Rattle.std.specs.Prelude.{◌==◌, slice_index, if◌then◌else◌}
use Rattle.std.proofs.Math.Nat.{le_trans}
use Rattle.doc_bits.specs.Number.{u16_at, u32_at}
use Rattle.inline_pictures.specs.Kinds.{is_metafile}
use Rattle.inline_pictures.specs.Blips.{IsBlip, IsFileBlock, embedded_at}
use Rattle.inline_pictures.specs.InlinePictures.{IsInlinePicture}
use Rattle.inline_pictures.specs.Picf.{art_at, picf_end}
use Rattle.inline_pictures.specs.Records.{record_end, record_instance, record_type}
use Rattle.inline_pictures.specs.declared.picture.PictureFile.{PictureFile}
use Rattle.inline_pictures.proofs.Public.{picture-unique}
use Rattle.doc_pictures.specs.Names.{is_whole_file}
use Rattle.doc_pictures.specs.Pictures.{HasFile}

-- the file is some bytes from a place on, and before another one
pub record LiesIn (from to : ℕ) (file : PictureFile) : Type 0 where
  pub begins : from ≤ file.from
  pub some : file.from < file.to
  pub ends : file.to ≤ to

file-low : (at uids head : ℕ) → at ≤ at + 8 + 16 * (1 + uids) + head
file-low at uids head = omega arith

blip-lies : (stream : List ℕ) (at limit : ℕ) (file : PictureFile) → IsBlip stream at limit file → LiesIn at limit file
blip-lies stream at limit file is = record {
  begins = subst (λ (n : ℕ). at ≤ n) (sym is.from)
      (file-low at (record_instance stream at % 2) (if is_metafile (record_type stream at) then 34 else 1));
  some = is.some;
  ends = subst (λ (n : ℕ). n ≤ limit) (sym is.to) is.blip.within;
}

block-low : (at name from : ℕ) → at + 44 + name ≤ from → at ≤ from
block-low at name from low = omega (arith, low)

block-lies : (stream : List ℕ) (at limit : ℕ) (file : PictureFile) → IsFileBlock stream at limit file →
    LiesIn at limit file
block-lies stream at limit file (inl in_it) =
    let lies = blip-lies stream (embedded_at stream at) (record_end stream at) file in_it.blip in
    record {
      begins = block-low at (slice_index stream (at + 41)) file.from lies.begins;
      some = lies.some;
      ends = le_trans lies.ends in_it.block.within;
    }
block-lies stream at limit file (inr bare) = blip-lies stream at limit file bare.blip

behind-name : (named : Bool) (at name : ℕ) → at ≤ (if named then at + 69 + name else at + 68)
behind-name true at name = omega arith
behind-name false at name = omega arith

art-behind : (stream : List ℕ) (at : ℕ) → at ≤ art_at stream at
art-behind stream at = behind-name (u16_at stream (at + 6) == 0x66) at (slice_index stream (at + 68))

art-low : (place art len from : ℕ) → place ≤ art → art + 8 + len ≤ from → place ≤ from
art-low place art len from low high = omega (arith, low, high)

-- the file of a picture lies behind its place, and in the stream
pub picture-lies : (stream : List ℕ) (place : ℕ) (file : PictureFile) → IsInlinePicture stream place file →
    LiesIn place (length stream) file
picture-lies stream place file is =
    let art = art_at stream place in
    let lies = block-lies stream (record_end stream art) (picf_end stream place) file is.block in
    record {
      begins = art-low place art (u32_at stream (art + 4)) file.from (art-behind stream place) lies.begins;
      some = lies.some;
      ends = le_trans lies.ends is.picf.within;
    }

-- a picture that is no whole file has none
pub no-file : (stream : List ℕ) (place : ℕ) (file : PictureFile) → IsInlinePicture stream place file →
    is_whole_file file.kind ≡ false → (other : PictureFile) → ¬ (HasFile stream place other)
no-file stream place file is part other has =
    let same : other ≡ file = picture-unique stream place other file has.picture is in
    true≢false (sym has.whole ∙ (ap (λ (f : PictureFile). is_whole_file f.kind) same ∙ part))
