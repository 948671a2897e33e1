-- Where the part of a broken rule is.
use Rattle.std.proofs.Common.{◌≡◌, ◌⊎◌, ◌∙◌, inl, inr, sym, subst, ℕ, List, Option, Some, None, MatchOption, arith}
use Rattle.std.proofs.Common.{◌+◌, ◌-◌, ◌<◌, ◌≤◌, [], ◌∷◌, ◌++◌, slice_get, option_map, length, take, drop, refl, ap}
use Rattle.std.proofs.Common.{length-take, length-drop}
use borrow.Rule.Slice.PartMut.{put_mid}
use Rattle.std.specs.Prelude.{replicate}
use Rattle.std.proofs.lemmas.List.{drop-drop}
use Rattle.std.proofs.lemmas.Option.{same_Some, none-some, slice_get_within}
use Rattle.doc_bits.specs.Number.{zeros}
use Rattle.doc_bits.specs.Rules.{Hold}
use Rattle.doc_bits.proofs.Public.{hold_or_first}
use Rattle.cfb_sectors.specs.Judged.{IsCfbFault}
use Rattle.cfb_sectors.specs.declared.faults.CfbFault.{CfbFault}
use Rattle.cfb_sectors.specs.declared.faults.CfbFault.TheVariants.{Rule}
use Rattle.cfb_directory.specs.Directory.{AreSameNames}
use Rattle.cfb_streams.specs.Contents.{Contents, Stream}
use Rattle.cfb_streams.specs.Container.{HasContents, outer_rules}
use Rattle.cfb_streams.proofs.Public.{outer_single, contents_unique}
use Rattle.cfb_streams.specs.Names.{wd_name}
use Rattle.file_mends.specs.declared.part_places.PartPlace.{PartPlace}
use Rattle.file_mends.specs.Parts.{IsFieldPart, IsPartOfRule}
use Rattle.file_mends.specs.Places.{ArePairsAt, IsPartPlaceIn, IsPlaceAmong, IsPartPlace, zeroed}
use Rattle.file_mends.specs.declared.mends.FileMend.{FileMend}
use Rattle.file_mends.specs.declared.mends.FileMend.TheVariants.{PartEmptied}
use Rattle.file_mends.specs.SheetChanges.{IsSheetRule}
use Rattle.file_mends.specs.Mends.{FileCopy, MendsPart, MendsSheet, IsMendedBy, StaysUnmended, bytes_read}
use Rattle.file_mends.proofs.OneLemmas.{part_one, place_no_sheet}

-- two facts that are not
neither_mend : {P Q : Type 0} → ¬ P → ¬ Q → ¬ (P ⊎ Q)
neither_mend no_one no_other (inl one) = no_one one
neither_mend no_one no_other (inr other) = no_other other

-- the part of rule 52 is a table of fields
only_field : (wd : List ℕ) (rule offset n : ℕ) → rule ≡ 52 → IsPartOfRule wd rule offset n → IsFieldPart wd offset n
only_field wd rule offset n is (inl x) = x.1
only_field wd rule offset n is (inr (inl x)) = let other = x.0 in absurd (omega (arith, is, other))
only_field wd rule offset n is (inr (inr (inl x))) = let other = x.0 in absurd (omega (arith, is, other))
only_field wd rule offset n is (inr (inr (inr x))) = let other = x.0 in absurd (omega (arith, is, other))

pub field_of_rule : (wd : List ℕ) (rule offset : ℕ) (found : Option ℕ) → rule ≡ 52 →
    MatchOption found ((n : ℕ) → ¬ IsFieldPart wd offset n) (IsFieldPart wd offset) →
    MatchOption found ((n : ℕ) → ¬ IsPartOfRule wd rule offset n) (IsPartOfRule wd rule offset)
field_of_rule wd rule offset None is none = λ n part. none n (only_field wd rule offset n is part)
field_of_rule wd rule offset (Some n) is here = inl (is, here)

-- what a call told of a stream
pub record IsStreamWith (found : Option Stream) (name bytes : List ℕ) (chain : Option (List ℕ)) : Type 0 where
  pub name_is : option_map (λ (s : Stream). s.name) found ≡ Some name
  pub bytes_are : option_map (λ (s : Stream). s.bytes) found ≡ Some bytes
  pub chain_is : option_map (λ (s : Stream). s.chain) found ≡ Some chain

-- WordDocument has no such part
pub no_part : (found : Option Stream) (bytes : List ℕ) (file_len rule offset : ℕ) →
    option_map (λ (s : Stream). s.bytes) found ≡ Some bytes → ((n : ℕ) → ¬ IsPartOfRule bytes rule offset n) →
    (stream : Stream) (place : PartPlace) → found ≡ Some stream → ¬ IsPartPlaceIn stream file_len rule offset place
no_part found bytes file_len rule offset is none stream place there here =
    let same : stream.bytes ≡ bytes =
    same_Some stream.bytes bytes (sym (ap (option_map (λ (s : Stream). s.bytes)) there) ∙ is) in
    none place.pair (subst (λ b. IsPartOfRule b rule offset place.pair) same here.part)

-- the pairs of the part have one place
abbrev ArePairsOf : List ℕ → ℕ → ℕ → Option PartPlace → Type 0
ArePairsOf sectors pair file_len result =
    MatchOption result ((place : PartPlace) → place.pair ≡ pair → ¬ ArePairsAt sectors file_len place)
    (λ place. (place.pair ≡ pair) × ArePairsAt sectors file_len place)

-- the sectors, the bytes and the name of the stream are these
pub record IsNamedStream (stream : Stream) (bytes sectors : List ℕ) : Type 0 where
  pub named : AreSameNames stream.name wd_name
  pub bytes_are : stream.bytes ≡ bytes
  pub chain : stream.chain ≡ Some sectors

stream_with : (found : Option Stream) (name bytes sectors : List ℕ) (stream : Stream) →
    IsStreamWith found name bytes (Some sectors) → AreSameNames name wd_name → found ≡ Some stream →
    IsNamedStream stream bytes sectors
stream_with found name bytes sectors stream is named there =
    let name_same : stream.name ≡ name =
    same_Some stream.name name (sym (ap (option_map (λ (s : Stream). s.name)) there) ∙ is.name_is) in
    record {
      named = subst (λ n. AreSameNames n wd_name) (sym name_same) named;
      bytes_are =
          same_Some stream.bytes bytes (sym (ap (option_map (λ (s : Stream). s.bytes)) there) ∙ is.bytes_are);
      chain =
          same_Some stream.chain (Some sectors)
          (sym (ap (option_map (λ (s : Stream). s.chain)) there) ∙ is.chain_is);
    }

stream_there : (found : Option Stream) (name : List ℕ) → option_map (λ (s : Stream). s.name) found ≡ Some name →
    (stream : Stream) × (found ≡ Some stream)
stream_there None name is = absurd (none-some name is)
stream_there (Some stream) name is = (stream, refl)

-- the pairs are not in the file
pub not_placed : (found : Option Stream) (name bytes sectors : List ℕ) (pair file_len rule offset : ℕ) →
    IsStreamWith found name bytes (Some sectors) → AreSameNames name wd_name → IsPartOfRule bytes rule offset pair →
    ((place : PartPlace) → place.pair ≡ pair → ¬ ArePairsAt sectors file_len place) →
    (stream : Stream) (place : PartPlace) → found ≡ Some stream → ¬ IsPartPlaceIn stream file_len rule offset place
not_placed found name bytes sectors pair file_len rule offset is named part none stream place there here =
    let with = stream_with found name bytes sectors stream is named there in
    let same : here.sectors ≡ sectors = same_Some here.sectors sectors (sym here.chain ∙ with.chain) in
    none place
    (part_one bytes rule offset place.pair pair
    (subst (λ b. IsPartOfRule b rule offset place.pair) with.bytes_are here.part) part)
    (subst (λ t. ArePairsAt t file_len place) same here.pairs)

-- they are
pub placed : (contents : Contents) (i : ℕ) (name bytes sectors : List ℕ) (pair file_len rule offset : ℕ)
    (place : PartPlace) →
    IsStreamWith (slice_get contents.streams i) name bytes (Some sectors) → AreSameNames name wd_name →
    IsPartOfRule bytes rule offset pair → place.pair ≡ pair → ArePairsAt sectors file_len place →
    IsPlaceAmong contents file_len rule offset place
placed contents i name bytes sectors pair file_len rule offset place is named part pair_is pairs =
    let there = stream_there (slice_get contents.streams i) name is.name_is in
    let with = stream_with (slice_get contents.streams i) name bytes sectors there.0 is named there.1 in
    record {
      index = i;
      stream = there.0;
      here = there.1;
      is = record {
        named = with.named;
        sectors = sectors;
        chain = with.chain;
        part =
            subst (λ b. IsPartOfRule b rule offset place.pair) (sym with.bytes_are)
            (subst (λ n. IsPartOfRule bytes rule offset n) (sym pair_is) part);
        pairs = pairs;
      };
    }

pub pairs_placed : (contents : Contents) (i : ℕ) (name bytes sectors : List ℕ) (pair file_len rule offset : ℕ)
    (result : Option PartPlace) →
    IsStreamWith (slice_get contents.streams i) name bytes (Some sectors) → AreSameNames name wd_name →
    IsPartOfRule bytes rule offset pair → ArePairsOf sectors pair file_len result →
    MatchOption result
    ((stream : Stream) (place : PartPlace) → slice_get contents.streams i ≡ Some stream →
    ¬ IsPartPlaceIn stream file_len rule offset place)
    (IsPlaceAmong contents file_len rule offset)
pairs_placed contents i name bytes sectors pair file_len rule offset None is named part none =
    not_placed (slice_get contents.streams i) name bytes sectors pair file_len rule offset is named part none
pairs_placed contents i name bytes sectors pair file_len rule offset (Some place) is named part pairs =
    placed contents i name bytes sectors pair file_len rule offset place is named part pairs.0 pairs.1

-- none of the streams has it
pub none_among : (contents : Contents) (file_len rule offset count : ℕ) → count ≡ length contents.streams →
    ((k : ℕ) (stream : Stream) (place : PartPlace) → k < count → slice_get contents.streams k ≡ Some stream →
    ¬ IsPartPlaceIn stream file_len rule offset place) →
    (place : PartPlace) → ¬ IsPlaceAmong contents file_len rule offset place
none_among contents file_len rule offset count all none place is =
    let within = slice_get_within contents.streams is.index is.stream is.here in
    none is.index is.stream place (omega (arith, within, all)) is.here is.is

-- what is found among the streams of a file is found in the file
pub found_in_file : (file : List ℕ) (contents : Contents) (rule offset : ℕ) (found : Option PartPlace) →
    Hold (outer_rules file) → HasContents file contents →
    MatchOption found ((place : PartPlace) → ¬ IsPlaceAmong contents (length file) rule offset place)
    (IsPlaceAmong contents (length file) rule offset) →
    MatchOption found ((place : PartPlace) → ¬ IsPartPlace file rule offset place) (IsPartPlace file rule offset)
found_in_file file contents rule offset None hold has none = λ place here.
    let same : here.contents ≡ contents = contents_unique file here.contents contents here.has has in
    none place (subst (λ (c : Contents). IsPlaceAmong c (length file) rule offset place) same here.among)
found_in_file file contents rule offset (Some place) hold has is =
    record { hold = hold; contents = contents; has = has; among = is }

-- a file that breaks one of the rules 1 to 14 has none
pub refused_file : (file : List ℕ) (rule offset : ℕ) (fault : CfbFault) (number at : ℕ) → fault ≡ Rule number at →
    IsCfbFault (outer_rules file) fault → (place : PartPlace) → ¬ IsPartPlace file rule offset place
refused_file file rule offset fault number at is refused place here =
    hold_or_first (λ a b. a ≤ b) (outer_rules file) number at (outer_single file) here.hold
    (subst (IsCfbFault (outer_rules file)) is refused)

-- zeros over a range
pub put_zeros_is : (at count : ℕ) (bytes filled : List ℕ) → at + count ≤ length bytes →
    filled ≡ replicate (length (take (at + count - at) (drop at bytes))) 0 →
    put_mid at (at + count - at) bytes filled ≡ zeroed at count bytes
unfolding zeros
put_zeros_is at count bytes filled within is =
    let width : at + count - at ≡ count = omega arith in
    let room = length-take count (drop at bytes) in
    let left = length-drop at bytes in
    let len : length (take count (drop at bytes)) ≡ count = omega (arith, room, left, within) in
    rw (is, width, len, drop-drop count at bytes) refl

-- ---- what is read

-- it is no rule on a part, and none on slots
pub stays : (file read : List ℕ) (rule offset : ℕ) (old : FileCopy) → read ≡ bytes_read file old → ¬ IsSheetRule rule →
    ((place : PartPlace) → ¬ IsPartPlace read rule offset place) → StaysUnmended file rule offset old old
stays file read rule offset old is no_sheet none =
    let no_part : (mend : FileMend) (mended : List ℕ) → ¬ MendsPart (bytes_read file old) rule offset mend mended =
    λ mend mended here. none here.place
    (subst (λ b. IsPartPlace b rule offset here.place) (sym is) here.is_place) in
    let no_slot : (mend : FileMend) (mended : List ℕ) → ¬ MendsSheet (bytes_read file old) rule offset mend mended =
    λ mend mended here. let changes = here.changes in no_sheet changes.rule_is in
    record { same = refl; none = λ mend mended. neither_mend (no_part mend mended) (no_slot mend mended) }

-- it is one on slots, and the sheet stays
pub sheet_stays : (file read : List ℕ) (rule offset : ℕ) (old : FileCopy) → read ≡ bytes_read file old →
    IsSheetRule rule → ((mend : FileMend) (mended : List ℕ) → ¬ MendsSheet read rule offset mend mended) →
    StaysUnmended file rule offset old old
sheet_stays file read rule offset old is rule_is none =
    let no_part : (mend : FileMend) (mended : List ℕ) → ¬ MendsPart (bytes_read file old) rule offset mend mended =
    λ mend mended here. place_no_sheet (bytes_read file old) rule offset here.place here.is_place rule_is in
    let no_slot : (mend : FileMend) (mended : List ℕ) → ¬ MendsSheet (bytes_read file old) rule offset mend mended =
    λ mend mended. subst (λ b. ¬ MendsSheet b rule offset mend mended) is (none mend mended) in
    record { same = refl; none = λ mend mended. neither_mend (no_part mend mended) (no_slot mend mended) }

-- the part is emptied
pub emptied : (file read : List ℕ) (rule offset : ℕ) (old new : FileCopy) (place : PartPlace) (mend : FileMend) →
    read ≡ bytes_read file old → IsPartPlace read rule offset place →
    bytes_read file new ≡ zeroed place.at place.len (bytes_read file old) → new.mends ≡ old.mends ++ mend ∷ [] →
    mend ≡ PartEmptied place.pair → IsMendedBy file rule offset old new mend
emptied file read rule offset old new place mend is place_is bytes list mend_is = record {
  mends = inl (record {
    place = place;
    is_place = subst (λ b. IsPartPlace b rule offset place) is place_is;
    mend_is = mend_is;
    mended_is = bytes;
  });
  list = list;
}

-- the sheet is changed
pub sheet_renewed : (file read copy : List ℕ) (rule offset : ℕ) (old new : FileCopy) (mend : FileMend) →
    read ≡ bytes_read file old → MendsSheet read rule offset mend copy →
    new ≡ record { copy = Some copy; mends = old.mends ++ mend ∷ [] } → IsMendedBy file rule offset old new mend
sheet_renewed file read copy rule offset old new mend is mends new_is =
    subst (λ (n : FileCopy). IsMendedBy file rule offset old n mend) (sym new_is)
    (record { mends = inr (subst (λ b. MendsSheet b rule offset mend copy) is mends); list = refl })

-- it is within the file
pub place_within : (file : List ℕ) (rule offset : ℕ) (place : PartPlace) → IsPartPlace file rule offset place →
    place.at + place.len ≤ length file
place_within file rule offset place is =
    let among = is.among in let one = among.is in let pairs = one.pairs in pairs.within
