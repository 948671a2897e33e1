-- The names of an image, in their order.
use Rattle.std.proofs.Common.{◌≡◌, inl, inr, ℕ, ◌+◌, ◌-◌, ◌<◌, ◌≤◌, List, length, slice_index_or, sym}
use Rattle.std.proofs.Common.{ap, arith}
use Rattle.std.proofs.lemmas.Bool.{cases_order}
use Rattle.std.proofs.lemmas.Option.{slice_get-get_or}
use Rattle.doc_bits.specs.Rules.{Nowhere}
use Rattle.cfb_streams.specs.Contents.{NamedBytes, AreStreams}
use Rattle.cfb_directory.specs.Directory.{IsEntryName, EntryBefore}
use Rattle.cfb_directory.specs.Reach.{BreaksName}
use Rattle.cfb_directory.proofs.Public.{EntryBefore-names, before_apart, one_name-sym}
use Rattle.cfb_layout.specs.Layout.{no_stream}
use Rattle.cfb_layout.proofs.Image.{IsImage}
use Rattle.cfb_layout.proofs.ImageTree.{directory_of, place_in, image_stream, reached_only}

-- the name of an entry
pub image_name : (file : List ℕ) (streams : List NamedBytes) (clsid : List ℕ) (i k : ℕ) → IsImage file streams clsid →
    i < length streams → k ≡ i + 1 → IsEntryName file (place_in streams k) (slice_index_or streams i no_stream).name
image_name file streams clsid i k im low is =
    let e = image_stream file streams clsid i k im low is in
    record { long = e.long; units = λ j h. sym (e.units j h) }

-- the entries are in the order of their names
pub image_order : (file : List ℕ) (streams : List NamedBytes) (clsid : List ℕ) (e k : ℕ) → IsImage file streams
    clsid → AreStreams streams → 1 ≤ e → e < k → k ≤ length streams → EntryBefore file (place_in streams e)
    (place_in streams k)
image_order file streams clsid e k im are some less low =
    let a = image_name file streams clsid (e - 1) e im (omega arith) (omega arith) in
    let b = image_name file streams clsid (k - 1) k im (omega arith) (omega arith) in
    EntryBefore-names file (place_in streams e) (place_in streams k) (slice_index_or streams (e - 1) no_stream).name
    (slice_index_or streams (k - 1) no_stream).name a b
    (are.order (e - 1) (k - 1) (slice_index_or streams (e - 1) no_stream) (slice_index_or streams (k - 1) no_stream)
    (omega arith) (slice_get-get_or streams (e - 1) no_stream (omega arith)) (slice_get-get_or streams (k - 1)
    no_stream (omega arith)))

-- rule 9
pub names_hold : (file : List ℕ) (streams : List NamedBytes) (clsid : List ℕ) → IsImage file streams clsid →
    AreStreams streams → length streams ≤ 1023 → Nowhere (BreaksName file (directory_of streams))
names_hold file streams clsid im are few = λ p h.
    let k = h.entry in
    let w = reached_only file streams clsid k im few h.reached in
    let from = w.from in
    let below = w.below in
    let stream = slice_index_or streams (k - 1) no_stream in
    let there = slice_get-get_or streams (k - 1) no_stream (omega arith) in
    let name = image_name file streams clsid (k - 1) k im (omega arith) (omega arith) in
    let long = name.long in
    let some = are.some (k - 1) stream there in
    let short = are.short (k - 1) stream there in
    elim h.broken.wrong [
      | inl wrong ↦ elim wrong [
        | inl odd ↦ odd (omega arith)
        | inr size ↦ elim size [
          | inl low ↦ omega arith
          | inr
              high ↦ omega arith
        ]
      ]
      | inr taken ↦
          let v = reached_only file streams clsid taken.earlier im few taken.reached in
          let x = v.from in
          let y = v.below in
          elim (cases_order taken.earlier k) [
            | inl same ↦ let e = ap (λ j. place_in streams j) same in let less = taken.below in omega arith
            | inr apart ↦ elim apart [
              | inl less ↦ before_apart file (place_in streams taken.earlier) (place_in streams k) (image_order file
                  streams clsid taken.earlier k im are x less (omega arith)) taken.same
              | inr more ↦ before_apart file (place_in streams k) (place_in streams taken.earlier) (image_order file
                  streams clsid k taken.earlier im are from more (omega arith)) (one_name-sym file (place_in streams
                  taken.earlier) (place_in streams k) taken.same)
            ]
          ]
    ]
