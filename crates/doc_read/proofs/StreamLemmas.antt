-- The carried streams of a container that is within bounds, and of its first streams.
use Rattle.std.proofs.Common.{◌≡◌, inl, inr, ℕ, ◌+◌, ◌<◌, ◌≤◌, ◌^◌, ◌==◌, if◌then◌else◌, Bool, true, false}
use Rattle.std.proofs.Common.{cond, List, [], ◌∷◌, ◌++◌, Some, None, length, get_or, take, map, filter, sum_by}
use Rattle.std.proofs.Common.{All, slice_get, option_map, codes, refl, sym, ap, ◌∙◌, subst, arith, append-nil}
use Rattle.std.proofs.Common.{length-take}
use Rattle.std.proofs.lemmas.Bool.{cases_lt}
use Rattle.std.proofs.lemmas.List.{map-append}
use Rattle.std.proofs.lemmas.List.Elements.{All-from_get_or, filter_more}
use Rattle.std.proofs.lemmas.List.Sums.{sum_by-le}
use Rattle.std.proofs.lemmas.Option.{same_Some, slice_get-get_or}
use Rattle.std.specs.Prelude.{slice_index}
use Rattle.doc_bits.specs.Number.{AreBytes}
use Rattle.fib_form.specs.Fib.{fib_which_table}
use Rattle.cfb_streams.specs.Contents.{Stream, Contents, NamedBytes, AreStreams, IsStored, AreStored}
use Rattle.doc_model.specs.Carried.{IsCarriedName, AreCarriedStreams}
use Rattle.doc_bits.proofs.Public.{slice_get-take}
use Rattle.file_rules.specs.FileRules.{FileText, HasFileText}
use Rattle.doc_read.specs.CarriedParts.{is_carried, carried_streams, AreWithinBounds, LeavesRoom}
use Rattle.doc_read.proofs.CarriedLemmas.{without_chain, carried-from, carried-order, carried-count, left_out-two}
use Rattle.doc_read.proofs.NameLemmas.{carried_name, wd-not_carried, table-not_carried}

-- fewer than 2^40 bytes in all
carried-total : (contents : Contents) → AreWithinBounds contents →
    sum_by (λ named. length named.bytes) (carried_streams contents.streams) < 2 ^ 40
carried-total contents bounds =
    let streams = carried_streams contents.streams in
    let none : NamedBytes = record { name = []; bytes = [] } in
    let short : All (λ named. length named.bytes ≤ 7143936) (carried_streams contents.streams) =
    All-from_get_or (λ named. length named.bytes ≤ 7143936) streams none (λ i below.
    let from = carried-from contents.streams i (get_or streams i none) (slice_get-get_or streams i none below) in
    let most = bounds.short from.index from.stream from.here in
    let same = ap length from.bytes in
    omega arith) in
    let sum = sum_by-le (λ named. length named.bytes) 7143936 streams short in
    let count = carried-count contents.streams in
    let few = bounds.few in
    omega arith

-- the carried streams of a container that is within bounds can be put into another
pub carried-are_streams : (contents : Contents) → AreWithinBounds contents →
    AreStreams (carried_streams contents.streams)
carried-are_streams contents bounds = record {
  some = λ i stream here.
      let from = carried-from contents.streams i stream here in
      let some = bounds.some from.index from.stream from.here in
      let same = ap length from.name in
      omega arith;
  short = λ i stream here.
      let from = carried-from contents.streams i stream here in
      let fit = bounds.fit from.index from.stream from.here in
      let same = ap length from.name in
      omega arith;
  order = carried-order contents.streams bounds.order;
  total = (let total = carried-total contents bounds in omega arith);
}

-- what is carried can be stored, where all streams can
pub carried-stored : (contents : Contents) →
    ((i : ℕ) (stream : Stream) → slice_get contents.streams i ≡ Some stream → IsStored stream.name stream.bytes) →
    AreStored (carried_streams contents.streams)
carried-stored contents stored = λ i named here.
    let from = carried-from contents.streams i named here in
    let is = stored from.index from.stream from.here in
    record {
      units = λ k. subst (λ (name : List ℕ). slice_index name k < 2 ^ 16) (sym from.name) (is.units k);
      small = subst AreBytes (sym from.bytes) is.small;
    }

-- the names of the two table streams have six units
table_name-length : (first : Bool) → length (if first then codes "1Table" else codes "0Table") ≡ 6
table_name-length true = refl
table_name-length false = refl

-- two streams of the document are not carried
pub carried-few : (contents : Contents) (text : FileText) → HasFileText contents text →
    length (carried_streams contents.streams) + 2 ≤ length contents.streams
carried-few contents text has =
    let wd = has.has_wd in
    let table = has.has_table in
    let no_wd = wd-not_carried wd.stream.name wd.named in
    let no_table = table-not_carried table.stream.name (fib_which_table text.wd == 1) table.named in
    elim (cases_lt wd.index table.index) [
      | inl less ↦ left_out-two contents.streams wd.index table.index wd.stream table.stream less wd.here table.here
          no_wd no_table
      | inr rest ↦ elim (cases_lt table.index wd.index) [
        | inl less ↦ left_out-two contents.streams table.index wd.index table.stream wd.stream less table.here wd.here
            no_table no_wd
        | inr more ↦
            let same : wd.index ≡ table.index = omega arith in
            let one : wd.stream ≡ table.stream =
            same_Some _ _ (sym wd.here ∙ (ap (slice_get contents.streams) same ∙ table.here)) in
            let long : length wd.stream.name ≡ 12 = wd.named.long in
            let short : length table.stream.name ≡ 6 =
            table.named.long ∙ table_name-length (fib_which_table text.wd == 1) in
            let names = ap (λ (s : Stream). length s.name) one in
            absurd (omega arith)
      ]
    ]

-- a document carries fewer streams than its file has
pub carried-fit : (contents : Contents) (table : List ℕ) → AreWithinBounds contents → LeavesRoom contents table →
    AreCarriedStreams (carried_streams contents.streams)
carried-fit contents table bounds room = record {
  few = (let count = room.few in let few = bounds.few in omega arith);
  total = carried-total contents bounds;
  names = λ i stream here.
      let from = carried-from contents.streams i stream here in
      subst IsCarriedName (sym from.name) (carried_name from.stream.name from.carried);
}

-- one more stream, which is carried or left out
carried-more : (streams : List Stream) (i : ℕ) (none : Stream) → i < length streams
    → carried_streams (take (i + 1) streams) ≡ carried_streams (take i streams) ++ map without_chain
    (cond (is_carried (get_or streams i none).name) (get_or streams i none ∷ []) [])
carried-more streams i none within =
    ap (map without_chain) (filter_more (λ s. is_carried s.name) streams i none within)
    ∙ map-append without_chain (filter (λ s. is_carried s.name) (take i streams))
    (cond (is_carried (get_or streams i none).name) (get_or streams i none ∷ []) [])

-- a field of what is at a place
field-at : {X : Type 0} (streams : List Stream) (i : ℕ) (none : Stream) (field : Stream → X) (x : X) →
    i < length streams → option_map field (slice_get streams i) ≡ Some x → field (get_or streams i none) ≡ x
field-at streams i none field x within p =
    same_Some _ _ (sym (ap (option_map field) (slice_get-get_or streams i none within)) ∙ p)

pub carried-next : (streams : List Stream) (i : ℕ) (name bytes : List ℕ) → i < length streams →
    option_map (λ s. s.name) (slice_get streams i) ≡ Some name →
    option_map (λ s. s.bytes) (slice_get streams i) ≡ Some bytes → is_carried name ≡ true
    → carried_streams (take i streams) ++ (record { name = name; bytes = bytes }) ∷ [] ≡ carried_streams (take (i + 1)
    streams)
carried-next streams i name bytes within p q carried =
    let none : Stream = record { name = []; bytes = []; chain = None } in
    let stream = get_or streams i none in
    let name_is : (get_or streams i none).name ≡ name = field-at streams i none (λ s. s.name) name within p in
    let bytes_is : (get_or streams i none).bytes ≡ bytes = field-at streams i none (λ s. s.bytes) bytes within q in
    let same : without_chain (get_or streams i none) ≡ record { name = name; bytes = bytes } =
    λ k. record { name = name_is k; bytes = bytes_is k } in
    let is : is_carried (get_or streams i none).name ≡ true = ap is_carried name_is ∙ carried in
    sym (carried-more streams i none within ∙ (ap (λ b. carried_streams (take i streams) ++ map without_chain
    (cond b (stream ∷ []) [])) is ∙ ap (λ named. carried_streams (take i streams) ++ named ∷ []) same))

pub carried-skip : (streams : List Stream) (i : ℕ) (name : List ℕ) → i < length streams →
    option_map (λ s. s.name) (slice_get streams i) ≡ Some name → is_carried name ≡ false
    → carried_streams (take i streams) ≡ carried_streams (take (i + 1) streams)
carried-skip streams i name within p left =
    let none : Stream = record { name = []; bytes = []; chain = None } in
    let stream = get_or streams i none in
    let left_out : is_carried (get_or streams i none).name ≡ false =
    ap is_carried (field-at streams i none (λ s. s.name) name within p) ∙ left in
    sym (carried-more streams i none within ∙ (ap (λ b. carried_streams (take i streams) ++ map without_chain
    (cond b (stream ∷ []) [])) left_out ∙ append-nil (carried_streams (take i streams))))

-- the first streams of a container are within bounds
pub bounds-take : (count : ℕ) (contents : Contents) → AreWithinBounds contents →
    AreWithinBounds (record { streams = take count contents.streams; clsid = contents.clsid })
bounds-take count contents bounds = record {
  few = (let few = bounds.few in omega (arith, few, length-take {A = Stream}));
  short = λ i stream here. bounds.short i stream (slice_get-take count contents.streams i stream here);
  some = λ i stream here. bounds.some i stream (slice_get-take count contents.streams i stream here);
  fit = λ i stream here. bounds.fit i stream (slice_get-take count contents.streams i stream here);
  order = λ i j stream later less here there.
      bounds.order i j stream later less (slice_get-take count contents.streams i stream here) (slice_get-take count
      contents.streams j later there);
}

-- with the next stream they can still be put into another container
pub next-are_streams : (contents : Contents) (copied : List NamedBytes) (i : ℕ) (name bytes : List ℕ) →
    AreWithinBounds contents → copied ≡ carried_streams (take i contents.streams) → i < length contents.streams
    → option_map (λ s. s.name) (slice_get contents.streams i) ≡ Some name →
    option_map (λ s. s.bytes) (slice_get contents.streams i) ≡ Some bytes → is_carried name ≡ true
    → AreStreams (copied ++ (record { name = name; bytes = bytes }) ∷ [])
next-are_streams contents copied i name bytes bounds so_far within p q carried =
    let more : copied ++ (record { name = name; bytes = bytes }) ∷ [] ≡ carried_streams (take (i + 1)
    contents.streams) =
    ap (λ xs. xs ++ (record { name = name; bytes = bytes }) ∷ []) so_far ∙ carried-next contents.streams i name bytes
    within p q carried in
    subst AreStreams (sym more) (carried-are_streams (record {
      streams = take (i + 1) contents.streams;
      clsid = contents.clsid;
    }) (bounds-take (i + 1) contents bounds))
