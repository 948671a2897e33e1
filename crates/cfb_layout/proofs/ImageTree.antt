-- The directory of an image: its entries and its tree.
use Rattle.std.proofs.Common.{◌≡◌, ◌≢◌, inl, inr, ℕ, suc, ◌+◌, ◌-◌, ◌*◌, ◌/◌, ◌%◌, ◌<◌, ◌≤◌, ltb, List, length}
use Rattle.std.proofs.Common.{slice_index, slice_index_or, refl, sym, ap, ◌∙◌, subst, arith}
use Rattle.std.proofs.lemmas.Bool.{cases_lt, lt-ltb, cond-true}
use Rattle.std.proofs.lemmas.List.FromFn.{length-range_with_len}
use Rattle.doc_bits.specs.Number.{u32_at}
use Rattle.doc_bits.specs.Rules.{Nowhere}
use Rattle.cfb_streams.specs.Contents.{NamedBytes}
use Rattle.cfb_directory.specs.Directory.{no_stream_entry, entry_left, entry_right, entry_child, entry_type}
use Rattle.cfb_directory.specs.Reach.{entry_place, IsLinkedEntry, IsReachedEntry, child, left, right, IsLink}
use Rattle.cfb_directory.specs.Reach.{BreaksRoot}
use Rattle.cfb_directory.specs.Reach.{BreaksTree, BreaksStorage}
use Rattle.cfb_layout.specs.declared.tree.Span.{Span}
use Rattle.cfb_layout.specs.Sectors.{units_for, chain_start}
use Rattle.cfb_layout.specs.Tree.{middle, lower, upper, top, all_entries, span_of_entry, left_of, right_of}
use Rattle.cfb_layout.specs.Counts.{sector_counts}
use Rattle.cfb_layout.specs.Entries.{unused_entry}
use Rattle.cfb_layout.specs.Layout.{lengths_of, no_stream, stream_entry, directory_entry}
use Rattle.cfb_layout.proofs.CountLemmas.{counts_directory, length-lengths_of}
use Rattle.cfb_layout.proofs.TreeLemmas.{IsWithin, part_is, middle_within, top_none, top_some, all_reached, link_of}
use Rattle.cfb_layout.proofs.TreeLemmas.{link_mid, link_left, link_right}
use Rattle.cfb_layout.proofs.Image.{IsEntryAt, IsImage}
use Rattle.cfb_layout.proofs.ImageChains.{sectors_of, entry_here}

-- the directory's sectors
abbrev pub directory_of : List NamedBytes → List ℕ
directory_of streams = sectors_of (sector_counts (lengths_of streams)) (length (lengths_of streams) + 2)

abbrev pub place_in : List NamedBytes → ℕ → ℕ
place_in streams k = entry_place (directory_of streams) k

pub length-directory_of : (streams : List NamedBytes) → length (directory_of streams) ≡ units_for 4 (length streams + 1)
length-directory_of streams =
    let counts = sector_counts (lengths_of streams) in
    let n = length-lengths_of streams in
    let count = counts_directory (lengths_of streams) in
    let len = length-range_with_len (chain_start counts (length (lengths_of streams) + 2)) (slice_index counts
    (length (lengths_of streams) + 2)) in
    omega arith

-- an entry of the directory
pub image_entry : (file : List ℕ) (streams : List NamedBytes) (clsid : List ℕ) (k : ℕ) → IsImage file streams clsid →
    k ≤ length streams → IsEntryAt file (directory_entry streams clsid k) (place_in streams k)
image_entry file streams clsid k im low =
    let n = length-lengths_of streams in
    let count = counts_directory (lengths_of streams) in
    let room : k < 4 * slice_index (sector_counts (lengths_of streams)) (length (lengths_of streams) + 2) =
    omega arith in
    subst (λ at. IsEntryAt file (directory_entry streams clsid k) at) (sym (entry_here (lengths_of streams) k room))
    (im.entries k room)

-- the entry of a stream
pub image_stream : (file : List ℕ) (streams : List NamedBytes) (clsid : List ℕ) (i k : ℕ) → IsImage file streams
    clsid → i < length streams → k ≡ i + 1 → IsEntryAt file (stream_entry (lengths_of streams) i (slice_index_or
    streams i no_stream)) (place_in streams k)
image_stream file streams clsid i k im low is =
    let same : suc i ≡ k = omega arith in
    let entry : directory_entry streams clsid (suc i) ≡ stream_entry (lengths_of streams) i (slice_index_or streams i
    no_stream) =
    cond-true (ltb i (length streams)) (stream_entry (lengths_of streams) i (slice_index_or streams i no_stream))
    unused_entry (lt-ltb i (length streams) low) in
    subst (λ j. IsEntryAt file (stream_entry (lengths_of streams) i (slice_index_or streams i no_stream))
    (place_in streams j)) same
    (subst (λ e. IsEntryAt file e (place_in streams (suc i))) entry (image_entry file streams clsid (suc i) im
    (omega arith)))

-- what an entry of the tree says
pub record IsNodeAt (file : List ℕ) (streams : List NamedBytes) (k : ℕ) : Type 0 where
  pub left : entry_left file (place_in streams k) ≡ left_of (length streams) k
  pub right : entry_right file (place_in streams k) ≡ right_of (length streams) k
  pub kind : entry_type file (place_in streams k) ≡ 2

pub image_node : (file : List ℕ) (streams : List NamedBytes) (clsid : List ℕ) (k : ℕ) → IsImage file streams clsid →
    IsWithin (all_entries (length streams)) k → IsNodeAt file streams k
image_node file streams clsid k im w =
    let a = w.from in
    let b = w.below in
    let n = length-lengths_of streams in
    let e = image_stream file streams clsid (k - 1) k im (omega arith) (omega arith) in
    let same : k - 1 + 1 ≡ k = omega arith in
    record {
      left = e.left ∙ (ap (λ j. left_of (length (lengths_of streams)) j) same ∙ ap (λ m. left_of m k) n);
      right = e.right ∙ (ap (λ j. right_of (length (lengths_of streams)) j) same ∙ ap (λ m. right_of m k) n);
      kind = e.kind;
    }

pub image_child : (file : List ℕ) (streams : List NamedBytes) (clsid : List ℕ) → IsImage file streams clsid →
    entry_child file (place_in streams 0) ≡ top (all_entries (length streams))
image_child file streams clsid im = (image_entry file streams clsid 0 im (omega arith)).child ∙ ap
    (λ m. top (all_entries m)) (length-lengths_of streams)

-- a link that names an entry names the middle of a span that is not empty
top_cases : (span : Span) (k : ℕ) → top span ≡ k → k ≢ no_stream_entry → (0 < span.count) × (k ≡ middle span)
top_cases span k h some = elim (cases_lt 0 span.count) [
  | inl more ↦ (more, sym h ∙ top_some span more)
  | inr none ↦ absurd (some (sym h ∙ top_none span (omega arith)))
]

-- the spans left and right of an entry are within all
left_within : (count k e : ℕ) → IsWithin (all_entries count) e →
    0 < (lower (span_of_entry count e (all_entries count))).count → k ≡ middle (lower (span_of_entry count e
    (all_entries count)))
    → IsWithin (all_entries count) k
left_within count k e w some is =
    let part = part_is count e (all_entries count) (omega arith) w in
    let a = part.from in
    let b = part.end in
    record { from = omega arith; below = omega arith }

right_within : (count k e : ℕ) → IsWithin (all_entries count) e →
    0 < (upper (span_of_entry count e (all_entries count))).count → k ≡ middle (upper (span_of_entry count e
    (all_entries count)))
    → IsWithin (all_entries count) k
right_within count k e w some is =
    let part = part_is count e (all_entries count) (omega arith) w in
    let a = part.from in
    let b = part.end in
    record { from = omega arith; below = omega arith }

-- an entry that is there is none but one of the streams'
entry_some : (streams : List NamedBytes) (k : ℕ) → length streams ≤ 1023 → IsLinkedEntry (directory_of streams) k →
    k ≢ no_stream_entry
entry_some streams k few is = let below = is.1 in let len = length-directory_of streams in λ e. omega arith

-- nothing else is reached
pub reached_only : (file : List ℕ) (streams : List NamedBytes) (clsid : List ℕ) (k : ℕ) → IsImage file streams clsid →
    length streams ≤ 1023 → IsReachedEntry file (directory_of streams) k → IsWithin (all_entries (length streams)) k
reached_only file streams clsid _ im few (child k link there) =
    let all = all_entries (length streams) in
    let t = top_cases all k (sym (image_child file streams clsid im) ∙ link) (entry_some streams k few there) in
    subst (λ x. IsWithin all x) (sym t.1) (middle_within all t.0)
reached_only file streams clsid _ im few (left from k reached link there) =
    let w = reached_only file streams clsid from im few reached in
    let node = image_node file streams clsid from im w in
    let t = top_cases (lower (span_of_entry (length streams) from (all_entries (length streams)))) k (sym node.left ∙
    link)
    (entry_some streams k few there) in
    left_within (length streams) k from w t.0 t.1
reached_only file streams clsid _ im few (right from k reached link there) =
    let w = reached_only file streams clsid from im few reached in
    let node = image_node file streams clsid from im w in
    let t = top_cases (upper (span_of_entry (length streams) from (all_entries (length streams)))) k (sym node.right ∙
    link)
    (entry_some streams k few there) in
    right_within (length streams) k from w t.0 t.1

pub within_entry : (streams : List NamedBytes) (k : ℕ) → IsWithin (all_entries (length streams)) k →
    IsLinkedEntry (directory_of streams) k
within_entry streams k w = let a = w.from in let b = w.below in let len = length-directory_of streams in
    (omega arith, omega arith)

-- each stream is reached
pub reached_each : (file : List ℕ) (streams : List NamedBytes) (clsid : List ℕ) (k : ℕ) → IsImage file streams clsid →
    IsWithin (all_entries (length streams)) k → IsReachedEntry file (directory_of streams) k
reached_each file streams clsid k im w =
    let n = length streams in
    let all = all_entries n in
    all_reached (λ e. IsReachedEntry file (directory_of streams) e) all
    (record {
      left = λ e v p some. left e (middle (lower (span_of_entry n e all))) p ((image_node file streams clsid e im
          v).left ∙
          top_some (lower (span_of_entry n e all)) some) (within_entry streams (middle (lower (span_of_entry n e all)))
          (left_within n (middle (lower (span_of_entry n e all))) e v some refl));
      right = λ e v p some. right e (middle (upper (span_of_entry n e all))) p ((image_node file streams clsid e im
          v).right
          ∙ top_some (upper (span_of_entry n e all)) some) (within_entry streams (middle (upper (span_of_entry n e
          all)))
          (right_within n (middle (upper (span_of_entry n e all))) e v some refl));
    })
    n all (omega arith) (λ e v. v) (λ e v. refl)
    (λ some. child (middle all) (image_child file streams clsid im ∙ top_some all some) (within_entry streams
    (middle all) (middle_within all some)))
    k w

-- where the link of a number is
abbrev pub link_place : List NamedBytes → ℕ → ℕ
link_place streams number = place_in streams (number / 3) + 68 + 4 * (number % 3)

-- a link that names an entry is at its one place
pub record IsTarget (streams : List NamedBytes) (place k : ℕ) : Type 0 where
  pub within : IsWithin (all_entries (length streams)) k
  pub here : place ≡ link_place streams (link_of (length streams) k (all_entries (length streams)) 2)

target_at : (streams : List NamedBytes) (place k e side number : ℕ) → IsWithin (all_entries (length streams)) k →
    link_of (length streams) k (all_entries (length streams)) 2 ≡ number → number ≡ 3 * e + side → side < 3 →
    place ≡ place_in streams e + 68 + 4 * side → IsTarget streams place k
target_at streams place k e side number w is split less here =
    let third : e ≡ number / 3 = omega arith in
    let rest : side ≡ number % 3 = omega arith in
    let at : place_in streams e ≡ place_in streams (number / 3) = ap (λ j. place_in streams j) third in
    let there : place ≡ link_place streams number = omega arith in
    record { within = w; here = there ∙ ap (λ x. link_place streams x) (sym is) }

pub link_target : (file : List ℕ) (streams : List NamedBytes) (clsid : List ℕ) (place : ℕ) → IsImage file streams
    clsid → length streams ≤ 1023 → IsLink file (directory_of streams) place → u32_at file place ≢ no_stream_entry →
    IsTarget streams place (u32_at file place)
link_target file streams clsid place im few link some =
    let n = length streams in
    let all = all_entries n in
    let k = u32_at file place in
    elim link [
      | inl at ↦
          let t = top_cases all k (sym (image_child file streams clsid im) ∙ ap (λ p. u32_at file p) (sym at)) some in
          target_at streams place k 0 2 2 (subst (λ x. IsWithin all x) (sym t.1) (middle_within all t.0))
          (link_mid n k all 2 t.1) (omega arith) (omega arith) (omega arith)
      | inr side ↦
          let e = side.entry in
          let w = reached_only file streams clsid e im few side.reached in
          let node = image_node file streams clsid e im w in
          elim side.here [
            | inl at ↦
                let t = top_cases (lower (span_of_entry n e all)) k (sym node.left ∙ ap (λ p. u32_at file p) (sym at))
                some in
                target_at streams place k e 0 (3 * e) (left_within n k e w t.0 t.1) (link_left n e k all 2
                (omega arith) w t.0 t.1) (omega arith) (omega arith) (omega arith)
            | inr at ↦
                let t = top_cases (upper (span_of_entry n e all)) k (sym node.right ∙ ap (λ p. u32_at file p) (sym at))
                some
                in
                target_at streams place k e 1 (3 * e + 1) (right_within n k e w t.0 t.1) (link_right n e k all 2
                (omega arith) w t.0 t.1) (omega arith) (omega arith) (omega arith)
          ]
    ]

-- rule 7
pub root_holds : (file : List ℕ) (streams : List NamedBytes) (clsid : List ℕ) → IsImage file streams clsid →
    Nowhere (BreaksRoot file (directory_of streams))
root_holds file streams clsid im = λ p h. h.1 (image_entry file streams clsid 0 im (omega arith)).kind

-- rule 8
pub tree_holds : (file : List ℕ) (streams : List NamedBytes) (clsid : List ℕ) → IsImage file streams clsid →
    length streams ≤ 1023 → Nowhere (BreaksTree file (directory_of streams))
tree_holds file streams clsid im few = λ p h. elim h [
  | inl broken ↦
      let t = link_target file streams clsid p im few broken.link broken.wrong.names in
      elim broken.wrong.wrong [
        | inl missing ↦ missing (within_entry streams (u32_at file p) t.within)
        | inr before ↦
            let same = before.same in
            let u = link_target file streams clsid before.earlier im few before.link (λ e. broken.wrong.names
            (sym same ∙ e)) in
            let e : before.earlier ≡ p =
            u.here ∙ (ap (λ k. link_place streams (link_of (length streams) k (all_entries (length streams)) 2)) same
            ∙ sym t.here) in
            let less = before.below in omega arith
      ]
  | inr other ↦
      let node = image_node file streams clsid other.entry im (reached_only file streams clsid other.entry im few
      other.reached) in
      other.broken.not_stream node.kind
]

-- rule 10
pub storage_holds : (file : List ℕ) (streams : List NamedBytes) (clsid : List ℕ) → IsImage file streams clsid →
    length streams ≤ 1023 → Nowhere (BreaksStorage file (directory_of streams))
storage_holds file streams clsid im few = λ p h.
    let node = image_node file streams clsid h.entry im (reached_only file streams clsid h.entry im few h.reached) in
    let kind = node.kind in
    let storage = h.broken.storage in omega arith
