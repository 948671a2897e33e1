-- The streams of a file are short enough for 32-bit offsets.
use Rattle.std.proofs.Common.{◌≡◌, ◌<◌, ◌∙◌, ap, inl, inr, ℕ, List, take, length, slice_index, arith}
use Rattle.std.proofs.lemmas.List.{length-take}
use Rattle.doc_bits.specs.Number.{u32_at}
use Rattle.doc_bits.proofs.Public.{number_at-bound}
use Rattle.cfb_streams.specs.Contents.{Contents}
use Rattle.cfb_streams.specs.Container.{HasContents}
use Rattle.file_rules.specs.FileRules.{AreSmall}

-- bytes of at most a 32-bit size
small_front : (file bytes all : List ℕ) (at : ℕ) → ((i : ℕ) → slice_index file i < 256) →
    bytes ≡ take (u32_at file at) all → length bytes < 4294967296
small_front file bytes all at are_bytes e =
    let bound : u32_at file at < 4294967296 = number_at-bound file at 4 are_bytes in
    let len = ap length e ∙ length-take (u32_at file at) all in
    omega arith

pub streams-small : (file : List ℕ) (contents : Contents) → ((i : ℕ) → slice_index file i < 256) → HasContents file
    contents → AreSmall contents
streams-small file contents are_bytes has i stream here =
    elim (has.streams.each i stream here).holds [
      | inl empty ↦ let none = ap length empty.bytes in omega arith
      | inr (inl short) ↦ small_front file stream.bytes _ _ are_bytes short.body.joined
      | inr (inr long) ↦ small_front file stream.bytes _ _ are_bytes long.body.joined
    ]
