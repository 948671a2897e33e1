-- The save of the two streams that have the names, and what is read of the file after.
use Rattle.std.proofs.Common.{◌≡◌, ◌≢◌, ℕ, List, Some, slice_get, slice_set, refl, sym, ap}
use Rattle.std.proofs.Common.{◌∙◌, subst, arith, length-set}
use Rattle.std.proofs.lemmas.Option.{slice_get_within}
use Rattle.std.specs.List.{range_with_len}
use Rattle.std.proofs.Common.{Result, Ok, Err, IfOk}
use Rattle.doc_bits.specs.Number.{AreBytes}
use Rattle.doc_bits.specs.Rules.{Hold}
use Rattle.cfb_streams.specs.StreamRules.{Parts}
use Rattle.cfb_streams.specs.Contents.{Stream, Contents}
use Rattle.cfb_streams.specs.Layout.{LayoutPlaces, IsSoundLayout}
use Rattle.cfb_streams.specs.Container.{container_rules}
use Rattle.cfb_layout.specs.declared.faults.LayoutFault.{LayoutFault}
use Rattle.cfb_layout.specs.declared.faults.LayoutFault.TheVariants.{TooLarge, Memory}
use Rattle.cfb_in_place.specs.Change.{StreamChange, OldChains, Added, grown_bytes, added_sectors, fresh_from}
use Rattle.cfb_in_place.specs.Appended.{IsSavedBehind, chain_after}
use Rattle.cfb_in_place.specs.Save.{CanSave, IsReady, FitsAfter, IsSave, IsSaveFault, AreStreamsAfter, AreContentsAfter}
use Rattle.cfb_in_place.specs.Contract.{CanBePutInPlace, AreNamedChains, IsSavedInPlace, IsInPlaceFault}
use Rattle.cfb_in_place.specs.Sources.{Sources, HasAllParts, AreSources, written_sectors}
use Rattle.cfb_in_place.proofs.FileAfter.{added_of, file_after}
use Rattle.cfb_in_place.proofs.SectorsThere.{saved_behind}
use Rattle.cfb_in_place.proofs.ReadyLemmas.{before_of, of_ready}
use Rattle.cfb_in_place.proofs.WrittenLemmas.{parts_there, written_is}
use Rattle.cfb_in_place.proofs.NamedLemmas.{there_parts, put_there}
use Rattle.cfb_in_place.proofs.SavedHolds.{save_holds}
use Rattle.cfb_in_place.proofs.ContentsAgain.{save_contents}
use Rattle.doc_bits.proofs.Public.{set_here, set_other}

-- the sources are those of the file before and of the change
sources_of : (old : List ℕ) (parts : Parts) (chains : OldChains) (change : StreamChange) (added : Added) (ready :
    IsReady
    old parts chains change added) (sources : Sources) → AreSources old parts chains added change sources → AreSources
    old ready.can.has.parts chains (added_sectors old chains change) change sources
sources_of old parts chains change added ready sources are = subst (λ (p : Parts). AreSources old p chains
    (added_sectors old chains change) change sources) ready.can.same (subst (λ (a : Added). AreSources old parts
    chains a
    change sources) ready.is are)

pub has_all_parts : (old : List ℕ) (parts : Parts) (chains : OldChains) (change : StreamChange) (added : Added) →
    IsReady old parts chains change added → AreBytes old → (sources : Sources) → AreSources old parts chains added
    change
    sources → HasAllParts old sources
has_all_parts old parts chains change added ready bytes sources are = parts_there (before_of old parts chains change
    added ready bytes) sources (sources_of old parts chains change added ready sources are)

-- what is written is the file of the places
pub saved_is : (old new : List ℕ) (parts : Parts) (chains : OldChains) (change : StreamChange) (added : Added) → IsReady
    old parts chains change added → AreBytes old → (sources : Sources) → AreSources old parts chains added change
    sources
    → new ≡ written_sectors old added sources → IsSavedBehind old new parts chains added change
saved_is old new parts chains change added ready bytes sources are e =
    let b = before_of old parts chains change added ready bytes in
    let same : new ≡ file_after b = e ∙ (ap (λ (a : Added). written_sectors old a sources) ready.is ∙ written_is b
    sources
    (sources_of old parts chains change added ready sources are)) in
    of_ready old parts chains change added ready (λ p a. IsSavedBehind old new p chains a change)
    (subst (λ (f : List ℕ). IsSavedBehind old f b.has.parts chains (added_of b) change) (sym same) (saved_behind b))

-- the change may be put into the file
pub can_save : (old : List ℕ) (contents : Contents) (change : StreamChange) (name : List ℕ) (chains : OldChains) (places
    : LayoutPlaces) → Hold (container_rules old) → CanBePutInPlace contents change name → places.file ≡ old →
    IsSoundLayout places →
    AreNamedChains old contents name chains → CanSave old places.parts chains change
can_save old contents change name chains places hold can same layout named = record {
  contents = contents;
  has = named.has;
  same = there_parts old contents named.has places same layout;
  hold = hold;
  are = named.are;
  put = put_there old contents change name chains can named;
}

-- the two streams after
abbrev grown_stream : Stream → OldChains → Added → StreamChange → Stream
grown_stream stream chains added change = record {
  name = stream.name;
  bytes = grown_bytes change chains.bytes;
  chain = Some (chain_after chains added);
}

abbrev table_stream : Stream → Added → StreamChange → Stream
table_stream stream added change = record {
  name = stream.name;
  bytes = change.table;
  chain = Some (range_with_len (fresh_from added) added.fresh);
}

abbrev streams_with : List Stream → ℕ → ℕ → Stream → Stream → List Stream
streams_with streams i j one other = slice_set (slice_set streams i one) j other

-- one of two that are there
pub same_stream : (streams : List Stream) (i : ℕ) (one other : Stream) → slice_get streams i ≡ Some one → slice_get
    streams i
    ≡ Some other → one ≡ other
same_stream streams i one other a b = cc

streams_after : (streams : List Stream) (i j : ℕ) (one other : Stream) (chains : OldChains) (added : Added) (change :
    StreamChange) → slice_get streams i ≡ Some one → slice_get streams j ≡ Some other → i ≢ j → AreStreamsAfter streams
    (streams_with streams i j (grown_stream one chains added change) (table_stream other added change)) i j chains added
    change
streams_after streams i j one other chains added change a b ne =
    let grown = grown_stream one chains added change in
    let table = table_stream other added change in
    let mid = slice_set streams i grown in
    let low = slice_get_within streams i one a in
    let under = slice_get_within streams j other b in
    let len = length-set streams i grown in
    record {
      len = length-set mid j table ∙ len;
      grown_is = λ stream here.
          set_other mid j i table ne
          ∙ (set_here streams i grown low
          ∙ ap (λ s. Some (grown_stream s chains added change)) (same_stream streams i one stream a here));
      table_is = λ stream here.
          set_here mid j table (omega arith)
          ∙ ap (λ s. Some (table_stream s added change)) (same_stream streams j other stream b here);
      others = λ k first second. set_other mid j k table second ∙ set_other streams i k grown first;
    }

-- the file after is accepted and read
pub in_place : (old new : List ℕ) (contents : Contents) (change : StreamChange) (name : List ℕ) (chains : OldChains)
    (places : LayoutPlaces) → Hold (container_rules old) → CanBePutInPlace contents change name → places.file ≡ old →
    IsSoundLayout
    places → AreNamedChains old contents name chains → FitsAfter old (added_sectors old chains change) → IsSavedBehind
    old new places.parts chains (added_sectors old chains change) change → IsSavedInPlace old new contents change name
in_place old new contents change name chains places hold can same layout named fits saved =
    let added = added_sectors old chains change in
    let has = named.has in
    let one = named.main.is.stream in
    let other = named.other.is.stream in
    let i = named.main.index in
    let j = named.other.index in
    let save : IsSave old new contents has chains change = record {
      hold = hold;
      are = named.are;
      put = put_there old contents change name chains can named;
      fits = fits;
      saved = subst (λ (p : Parts). IsSavedBehind old new p chains added change) (there_parts old contents has places
          same layout) saved;
    } in
    let after : Contents = record {
      streams = streams_with contents.streams i j (grown_stream one chains added change) (table_stream other added
          change);
      clsid = contents.clsid;
    } in
    let are : AreContentsAfter contents after has.entries chains added change = record {
      grown = i;
      table = j;
      grown_is = named.main.here;
      table_is = named.other.here;
      streams = streams_after contents.streams i j one other chains added change named.main.is.here
          named.other.is.here (can.two.apart i j named.main.is named.other.is);
      clsid = refl;
    } in
    record {
      has = has;
      chains = chains;
      save = save;
      after = after;
      are = are;
      main = named.main.is;
      other = named.other.is;
      holds = save_holds old new contents has chains change save;
      read = save_contents old new contents after has chains change save are;
    }

-- too many sectors
pub too_many : (old : List ℕ) (contents : Contents) (change : StreamChange) (name : List ℕ) (chains : OldChains)
    (fault :
    LayoutFault) → CanBePutInPlace contents change name → AreNamedChains old contents name chains → IsSaveFault old
    chains
    change fault → IsInPlaceFault old contents change name fault
too_many old contents change name chains (TooLarge count) can named is = record {
  chains = chains;
  named = named;
  put = put_there old contents change name chains can named;
  many = is.many;
  number = is.number;
}
too_many old contents change name chains Memory can named is = is

-- what holds of a value holds in another way
pub ok_more : {T E : Type 0} (r : Result T E) (P Q : T → Type 0) → ((x : T) → P x → Q x) → IfOk r P → IfOk r Q
ok_more (Ok x) P Q f h = f x h
ok_more (Err e) P Q f h = h
