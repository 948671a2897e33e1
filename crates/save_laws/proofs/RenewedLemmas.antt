-- The streams of a file of which two have new bytes: names are apart, so each of the two is one stream.
use Rattle.std.specs.Prelude.{slice_get, if◌then◌else◌, ◌==◌}
use Rattle.std.proofs.Common.{◌≡◌, ◌≢◌, ◌∙◌, inl, inr, refl, sym, ap, subst, ℕ, zero, suc, ◌<◌, true}
use Rattle.std.proofs.Common.{false, List, [], ◌∷◌, length, Some, option_map, arith}
use Rattle.std.proofs.lemmas.Bool.{cases_lt}
use Rattle.std.proofs.lemmas.List.{length-map}
use Rattle.std.proofs.lemmas.Option.{slice_get_within, slice_get-map, slice_get_past, same_Some}
use Rattle.cfb_streams.specs.Contents.{Stream, NamedBytes, Contents}
use Rattle.cfb_streams.specs.Container.{HasContents}
use Rattle.cfb_directory.specs.Directory.{AreSameNames}
use Rattle.cfb_streams.specs.Names.{wd_name, first_table_name, second_table_name, table_name}
use Rattle.cfb_streams.proofs.Public.{named_place}
use Rattle.cfb_layout.specs.Layout.{lengths_of}
use Rattle.save_laws.specs.SectorCounts.{AreAnew, lengths_in, NamedStreamsAreRenewed}

-- ---- names

-- a table stream's name has six units
pub name_six : (which : ℕ) → length (table_name which) ≡ 6
name_six which =
    elim (which == 1) as (λ b. length (if b then second_table_name else first_table_name) ≡ 6)
    [ true ↦ refl | false ↦ refl ]

-- the two names have not one length
pub two_names : (name : List ℕ) (which : ℕ) → AreSameNames name wd_name → AreSameNames name (table_name which) → ⊥
two_names name which wd table =
    let twelve : length wd_name ≡ 12 = refl in
    omega (arith, wd.long, table.long, twelve, name_six which)

-- ---- lengths

length_of_old : (contents : Contents) (k : ℕ) (stream : Stream) → slice_get contents.streams k ≡ Some stream →
    slice_get (lengths_in contents) k ≡ Some (length stream.bytes)
length_of_old contents k stream here =
    slice_get-map (λ (s : Stream). length s.bytes) contents.streams k
    ∙ ap (option_map (λ (s : Stream). length s.bytes)) here

length_of_new : (streams : List NamedBytes) (k : ℕ) (stream : NamedBytes) → slice_get streams k ≡ Some stream →
    slice_get (lengths_of streams) k ≡ Some (length stream.bytes)
length_of_new streams k stream here =
    slice_get-map (λ (s : NamedBytes). length s.bytes) streams k
    ∙ ap (option_map (λ (s : NamedBytes). length s.bytes)) here

record Stands {A : Type 0} (xs : List A) (k : ℕ) : Type 0 where
  value : A
  here : slice_get xs k ≡ Some value

stands : {A : Type 0} (xs : List A) (k : ℕ) → k < length xs → Stands xs k
stands [] k low = absurd (omega (arith, low))
stands (x ∷ xs) zero low = record { value = x; here = refl }
stands (x ∷ xs) (suc k) low =
    let rest = stands xs k (omega (arith, low)) in
    record { value = rest.value; here = rest.here }

other_kept : (file : List ℕ) (contents : Contents) (streams : List NamedBytes) → HasContents file contents →
    (anew : AreAnew contents.streams streams) → (k : ℕ) → k ≢ anew.have.has_wd.index →
    k ≢ anew.have.has_table.index → slice_get (lengths_of streams) k ≡ slice_get (lengths_in contents) k
other_kept file contents streams has anew k no_wd no_table =
    let wd = anew.have.has_wd in
    let table = anew.have.has_table in
    let len = anew.bytes.len in
    let lens = length-map contents.streams (λ (s : Stream). length s.bytes) in
    let new_lens = length-map streams (λ (s : NamedBytes). length s.bytes) in
    elim (cases_lt k (length streams)) [
      | inl low ↦
          let new = stands streams k low in
          let old = stands contents.streams k (omega (arith, low, len)) in
          let same : new.value.bytes ≡ old.value.bytes =
          (anew.bytes.each k old.value new.value old.here new.here).own
          (λ named. no_wd (named_place file contents has wd_name k wd.index old.value wd.stream old.here wd.here named
          wd.named))
          (λ named. no_table (named_place file contents has (table_name anew.which) k table.index old.value table.stream
          old.here table.here named table.named)) in
          length_of_new streams k new.value new.here
          ∙ (ap (λ (bytes : List ℕ). Some (length bytes)) same ∙ sym (length_of_old contents k old.value old.here))
      | inr past ↦
          slice_get_past (lengths_of streams) k (omega (arith, past, new_lens))
          ∙ sym (slice_get_past (lengths_in contents) k (omega (arith, past, len, lens)))
    ]

pub named_streams_are_renewed : NamedStreamsAreRenewed
named_streams_are_renewed file contents streams has anew =
    let which = anew.which in
    let wd = anew.have.has_wd in
    let table = anew.have.has_table in
    let len = anew.bytes.len in
    let lens = length-map contents.streams (λ (s : Stream). length s.bytes) in
    let new_lens = length-map streams (λ (s : NamedBytes). length s.bytes) in
    let wd_in : wd.index < length contents.streams = slice_get_within contents.streams wd.index wd.stream wd.here in
    let table_in : table.index < length contents.streams =
    slice_get_within contents.streams table.index table.stream table.here in
    let new_wd = stands streams wd.index (omega (arith, wd_in, len)) in
    let new_table = stands streams table.index (omega (arith, table_in, len)) in
    let wd_is : new_wd.value.bytes ≡ anew.after.wd =
    (anew.bytes.each wd.index wd.stream new_wd.value wd.here new_wd.here).wd_is wd.named in
    let table_is : new_table.value.bytes ≡ anew.after.table =
    (anew.bytes.each table.index table.stream new_table.value table.here new_table.here).table_is table.named in
    record {
      len = omega (arith, len, lens, new_lens);
      wd_at = wd.index;
      table_at = table.index;
      apart = λ e.
          let there : slice_get contents.streams wd.index ≡ Some table.stream =
          ap (slice_get contents.streams) e ∙ table.here in
          let one : wd.stream ≡ table.stream = same_Some wd.stream table.stream (sym wd.here ∙ there) in
          two_names wd.stream.name which wd.named
          (subst (λ (s : Stream). AreSameNames s.name (table_name which)) (sym one) table.named);
      old_two = record {
        wd_is =
            length_of_old contents wd.index wd.stream wd.here
            ∙ ap (λ (bytes : List ℕ). Some (length bytes)) (sym wd.same);
        table_is =
            length_of_old contents table.index table.stream table.here
            ∙ ap (λ (bytes : List ℕ). Some (length bytes)) (sym table.same);
      };
      new_two = record {
        wd_is =
            length_of_new streams wd.index new_wd.value new_wd.here
            ∙ ap (λ (bytes : List ℕ). Some (length bytes)) wd_is;
        table_is =
            length_of_new streams table.index new_table.value new_table.here
            ∙ ap (λ (bytes : List ℕ). Some (length bytes)) table_is;
      };
      others = other_kept file contents streams has anew;
    }
