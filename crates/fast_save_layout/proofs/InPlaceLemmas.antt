-- A save in the file's own sectors: what is changed there, and what is read of the file after.
use Rattle.std.specs.Prelude.{slice_get, slice_index}
use Rattle.std.specs.Option.{unwrap_or}
use Rattle.std.proofs.Common.{◌≡◌, ◌∙◌, refl, sym, ap, subst, inl, inr, ◌⊎◌, ℕ, suc, ◌*◌, ◌≤◌, true, false}
use Rattle.std.proofs.Common.{cond, eqb, min, List, [], ◌∷◌, length, map, filter, take, Some, length-take, arith}
use Rattle.std.proofs.lemmas.Bool.{cases_eq}
use Rattle.std.proofs.lemmas.Option.{same_Some}
use Rattle.cfb_sectors.specs.Chain.{fat_table}
use Rattle.cfb_sectors.proofs.Public.{holds_unique}
use Rattle.cfb_directory.specs.Directory.{AreSameNames}
use Rattle.cfb_directory.specs.Reach.{entry_place}
use Rattle.cfb_directory.specs.StreamEntries.{stream_head}
use Rattle.cfb_streams.specs.Contents.{Stream, NamedBytes, Contents, HasNamed}
use Rattle.cfb_streams.specs.Container.{HasContents, IsStreamOf, IsLongStream}
use Rattle.cfb_streams.specs.Names.{wd_name, table_name}
use Rattle.cfb_in_place.specs.Change.{StreamChange, OldChains}
use Rattle.cfb_in_place.specs.Contract.{AreNamedChains, IsSavedInPlace}
use Rattle.file_rules.proofs.Public.{one_stream}
use Rattle.doc_read.specs.CarriedParts.{is_carried, carried_streams}
use Rattle.doc_read.proofs.Public.{without_chain, wd-not_carried, table-not_carried}
use Rattle.fast_save_layout.specs.RenewedStreams.{chain_named}
use Rattle.fast_save_layout.proofs.StreamLemmas.{first_named}

-- ---- the chain of a stream by its name

chain_is : (file : List ℕ) (contents : Contents) (name : List ℕ) (i : ℕ) (stream : Stream) →
    HasContents file contents → slice_get contents.streams i ≡ Some stream → AreSameNames stream.name name →
    chain_named contents.streams name ≡ unwrap_or stream.chain []
chain_is file contents name i stream has here named =
    let first = first_named contents.streams name i stream here named in
    first.chain
    ∙ ap (λ (s : Stream). unwrap_or s.chain [])
    (one_stream file contents name first.index i first.stream stream has first.here here first.named named)

-- ---- a stream of 4,096 bytes or more has sectors of its own, which hold it

cut_short : (bytes xs : List ℕ) (n : ℕ) → bytes ≡ take n xs → length bytes ≤ min n (length xs)
cut_short bytes xs n is = omega (arith, ap length is, length-take n xs)

long_stream : (file : List ℕ) (contents : Contents) (has : HasContents file contents) (i : ℕ) (stream : Stream) →
    slice_get contents.streams i ≡ Some stream → 4096 ≤ length stream.bytes →
    IsLongStream file has.parts (slice_index has.entries i) stream
long_stream file contents has i stream here long =
    elim (has.streams.each i stream here).holds [
      | inl empty ↦ absurd (omega (arith, long, ap length empty.bytes))
      | inr rest ↦ elim rest [
        | inl short ↦
            let small = short.body.is_small.small in
            let cut = cut_short stream.bytes _ _ short.body.joined in
            absurd (omega (arith, long, small, cut))
        | inr is ↦ is
      ]
    ]

pub chain_holds : (file : List ℕ) (contents : Contents) (wd : List ℕ) → HasContents file contents →
    HasNamed contents.streams wd_name wd → 4096 ≤ length wd →
    length wd ≤ 512 * length (chain_named contents.streams wd_name)
chain_holds file contents wd has named long =
    let bytes = ap length named.same in
    let is = long_stream file contents has named.index named.stream named.here (omega (arith, bytes, long)) in
    let chain = chain_is file contents wd_name named.index named.stream has named.here named.named
    ∙ ap (λ c. unwrap_or c []) is.chain in
    let enough = is.body.holds.enough in
    let cut = cut_short named.stream.bytes _ _ is.body.joined in
    omega (arith, bytes, ap length chain, enough, cut)

-- the chain of the change is that one
pub named_chain : (file : List ℕ) (contents : Contents) (name : List ℕ) (chains : OldChains) →
    AreNamedChains file contents name chains → chain_named contents.streams wd_name ≡ chains.grown
named_chain file contents name chains named =
    let has = named.has in
    let main = named.main in
    let stream = main.is.stream in
    let at = entry_place has.parts.directory chains.grown_entry in
    let large = named.are.grown.is_large.large in
    let is : IsStreamOf file has.parts chains.grown_entry stream =
    subst (λ (k : ℕ). IsStreamOf file has.parts k stream) main.here
    (has.streams.each main.index stream main.is.here) in
    chain_is file contents wd_name main.index stream has main.is.here main.is.named
    ∙ elim is.holds [
      | inl empty ↦ absurd (let none = empty.empty in omega (arith, none, large))
      | inr rest ↦ elim rest [
        | inl short ↦ absurd (let small = short.body.is_small.small in omega (arith, small, large))
        | inr long ↦
            ap (λ c. unwrap_or c []) long.chain
            ∙ holds_unique (fat_table file) (stream_head file 512 at) long.sectors chains.grown long.body.holds
            named.are.grown.holds
      ]
    ]

-- ---- the other streams stay

-- two streams that are alike, or of which neither is carried
abbrev IsAlike : Stream → Stream → Type 0
IsAlike one other = (one ≡ other) ⊎ ((is_carried one.name ≡ false) × (is_carried other.name ≡ false))

abbrev carried_with : Stream → List NamedBytes → List NamedBytes
carried_with stream rest = cond (is_carried stream.name) (without_chain stream ∷ rest) rest

carried_cons : (stream : Stream) (streams : List Stream) →
    carried_streams (stream ∷ streams) ≡ carried_with stream (carried_streams streams)
carried_cons stream streams =
    let rest = filter (λ (s : Stream). is_carried s.name) streams in
    elim (is_carried stream.name)
    as (λ b. map without_chain (cond b (stream ∷ rest) rest) ≡ cond b (without_chain stream ∷ map without_chain rest)
    (map without_chain rest)) [ true ↦ refl | false ↦ refl ]

alike_carried : (one other : Stream) (rest : List NamedBytes) → IsAlike one other →
    carried_with one rest ≡ carried_with other rest
alike_carried one other rest (inl same) = ap (λ (s : Stream). carried_with s rest) same
alike_carried one other rest (inr neither) =
    ap (λ b. cond b (without_chain one ∷ rest) rest) neither.0
    ∙ sym (ap (λ b. cond b (without_chain other ∷ rest) rest) neither.1)

carried_alike : (before after : List Stream) → length after ≡ length before →
    ((i : ℕ) (one other : Stream) → slice_get before i ≡ Some one → slice_get after i ≡ Some other →
    IsAlike one other) → carried_streams after ≡ carried_streams before
carried_alike [] [] same each = refl
carried_alike [] (other ∷ after) same each = absurd (omega (arith, same))
carried_alike (one ∷ before) [] same each = absurd (omega (arith, same))
carried_alike (one ∷ before) (other ∷ after) same each =
    carried_cons other after
    ∙ (sym (alike_carried one other (carried_streams after) (each 0 one other refl refl))
    ∙ (ap (λ (xs : List NamedBytes). carried_with one xs) (carried_alike before after (omega (arith, same))
    (λ i x y here there. each (suc i) x y here there))
    ∙ sym (carried_cons one before)))

-- the table stream of a FIB is no carried one
no_table : (which : ℕ) (name : List ℕ) → AreSameNames name (table_name which) → is_carried name ≡ false
no_table which name same = table-not_carried name (eqb which 1) same

pub carried_stay : (old new : List ℕ) (contents : Contents) (change : StreamChange) (which : ℕ)
    (is : IsSavedInPlace old new contents change (table_name which)) →
    carried_streams is.after.streams ≡ carried_streams contents.streams
carried_stay old new contents change which is =
    let streams = is.are.streams in
    let main = is.main.stream in
    let table = is.other.stream in
    let no_wd = wd-not_carried main.name is.main.named in
    let none = no_table which table.name is.other.named in
    carried_alike contents.streams is.after.streams streams.len
    (λ i one other here there. elim (cases_eq i is.are.grown) [
      | inl first ↦
          let own : main ≡ one = same_Some main one (sym is.main.here
          ∙ (ap (λ (k : ℕ). slice_get contents.streams k) (sym first) ∙ here)) in
          let new_one = same_Some other _ (sym there ∙ (ap (λ (k : ℕ). slice_get is.after.streams k) first
          ∙ streams.grown_is main is.main.here)) in
          inr (
            ap (λ (s : Stream). is_carried s.name) (sym own) ∙ no_wd,
            ap (λ (s : Stream). is_carried s.name) new_one ∙ no_wd,
          )
      | inr not_first ↦ elim (cases_eq i is.are.table) [
        | inl second ↦
            let own : table ≡ one = same_Some table one (sym is.other.here
            ∙ (ap (λ (k : ℕ). slice_get contents.streams k) (sym second) ∙ here)) in
            let new_one = same_Some other _ (sym there ∙ (ap (λ (k : ℕ). slice_get is.after.streams k) second
            ∙ streams.table_is table is.other.here)) in
            inr (
              ap (λ (s : Stream). is_carried s.name) (sym own) ∙ none,
              ap (λ (s : Stream). is_carried s.name) new_one ∙ none,
            )
        | inr not_second ↦
            inl (same_Some one other (sym here ∙ (sym (streams.others i not_first not_second) ∙ there)))
      ]
    ])
