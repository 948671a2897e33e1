-- Streams and what else is carried are read as what they were written for, and from no other value.
use Rattle.std.proofs.Common.{◌≡◌, ◌≢◌, ◌+◌, ◌<◌, ◌^◌, ℕ, zero, suc, List, [], ◌∷◌, ◌++◌, Option, Some, None}
use Rattle.std.proofs.Common.{length, map, take, get_or, refl, sym, ap, ◌∙◌, subst, arith, All}
use Rattle.std.specs.Prelude.{codes}
use Rattle.std.proofs.lemmas.List.{length-map, get_or-map, take_more}
use Rattle.std.proofs.lemmas.List.Elements.{All-take}
use Rattle.std.proofs.lemmas.Option.{none-some, same_Some, slice_get-get_or}
use Rattle.fib_form.specs.FibFields.{IsKeptFlags}
use Rattle.json_values.proofs.Public.{digits_one, object_is, step_found}
use Rattle.serde_json.specs.Data.{Data, null, array, object, Items, no_items, item, Members, no_members, member}
use Rattle.serde_json.specs.Find.{as_array, as_object}
use Rattle.serde_json.specs.View.{items_of, items_view}
use Rattle.serde_json.specs.declared.value.Value.{Value}
use Rattle.doc_bits.specs.Number.{AreBytes}
use Rattle.edit_script.specs.Json.{◌>>=◌}
use Rattle.edit_script.specs.Values.{bytes_of, short_number}
use Rattle.cfb_streams.specs.Contents.{NamedBytes, AreStreams, AreStored, IsStored}
use Rattle.doc_model.specs.declared.carried.Carried.{Carried}
use Rattle.doc_model.specs.Formed.{IsFormedCarried}
use Rattle.doc_model.proofs.Public.{AreStreams-take}
use Rattle.json_values.specs.Digits.{bytes_json, units_json, hex_units_of}
use Rattle.json_values.specs.Plain.{HasKeysInOrder, MembersHaveKeysInOrder}
use Rattle.json_values.specs.Rows.{number_json, taken, need, no_member_left}
use Rattle.json_doc.specs.declared.carried_reading.CarriedFields.{CarriedFields}
use Rattle.json_doc.specs.CarriedParts.{stream_json, streams_json, carried_json}
use Rattle.json_doc.specs.CarriedReading.{stream_of_items, stream_of_value, AreFormedStreams, carried_values}
use Rattle.json_doc.specs.CarriedReading.{HasCarriedFields}
use Rattle.json_doc.specs.CarriedReading.{AreValidFields, IsStreamAdded, IsNoStream}
use Rattle.json_doc.proofs.FieldLemmas.{numbers_one, bytes_are_one, units_are_one}
use Rattle.json_doc.proofs.ListLemmas.{array_is, AreGiven, given_more, given_one, given_same}
use Rattle.json_doc.proofs.ReadLemmas.{same_items}
use Rattle.json_doc.proofs.RowLemmas.{AreOne, then_found, need_one, need_back, taken_is, ended_is}

-- ---- a stream

stream_back : (s : NamedBytes) → IsStored s.name s.bytes → stream_of_value (stream_json s) ≡ Some s
stream_back s is =
    then_found (hex_units_of (units_json s.name)) _ s.name s (units_are_one.back s.name is.units)
    (then_found (bytes_of (bytes_json s.bytes)) _ s.bytes s (bytes_are_one.back s.bytes is.small) refl)

stream_items_one : (items : Items) (s : NamedBytes) → stream_of_items items ≡ Some s →
    IsStored s.name s.bytes × (array items ≡ stream_json s)
stream_items_one no_items s e = absurd (none-some s e)
stream_items_one (item a no_items) s e = absurd (none-some s e)
stream_items_one (item a (item b (item c more))) s e = absurd (none-some s e)
stream_items_one (item a (item b no_items)) s e =
    let k = step_found (hex_units_of a) _ s e in
    let l = step_found (bytes_of b) _ s k.2 in
    let found : NamedBytes = record { name = k.0; bytes = l.0 } in
    let made : found ≡ s = same_Some found s l.2 in
    let name = digits_one.units_one a k.0 k.1 in
    let bytes = digits_one.bytes_one b l.0 l.1 in
    subst (λ t. IsStored t.name t.bytes × (array (item a (item b no_items)) ≡ stream_json t)) made
    (record { units = name.0; small = bytes.0 }, λ t. array (item (name.1 t) (item (bytes.1 t) no_items)))

pub streams_are_one : AreOne stream_of_value stream_json (λ s. IsStored s.name s.bytes)
streams_are_one = record {
  back = stream_back;
  one = λ value s order e.
      let a = step_found (as_array value) stream_of_items s e in
      let is = array_is value a.0 a.1 in
      let one = stream_items_one a.0 s a.2 in (one.0, is ∙ one.1);
}

-- more or fewer values than two
pub not_two : (values : List Value) → (length values ≡ 2 → ⊥) → stream_of_items (items_view values) ≡ None
not_two [] other = refl
not_two (a ∷ []) other = refl
not_two (a ∷ b ∷ []) other = absurd (other refl)
not_two (a ∷ b ∷ c ∷ more) other = refl

-- ---- the streams of an array

pub one_added : (ds : List Data) (old new : List NamedBytes) (d : Data) → AreGiven stream_of_value ds old →
    IsStreamAdded d old new → AreGiven stream_of_value (ds ++ d ∷ []) new
one_added ds old new d before added =
    subst (λ xs. AreGiven stream_of_value (ds ++ d ∷ []) xs) (sym added.grown)
    (given_more stream_of_value ds old d added.stream before added.read)

all_stored : (xs : List NamedBytes) → AreFormedStreams xs → All (λ s. IsStored s.name s.bytes) xs
all_stored xs formed = formed.stored

take-map : (i : ℕ) (xs : List NamedBytes) → take i (map stream_json xs) ≡ map stream_json (take i xs)
take-map zero xs = refl
take-map (suc i) [] = refl
take-map (suc i) (x ∷ xs) = ap (λ more. stream_json x ∷ more) (take-map i xs)

pub streams_unread : (ds : List Data) (i : ℕ) (old : List NamedBytes) → i < length ds →
    AreGiven stream_of_value (take i ds) old → IsNoStream (get_or ds i null) old → (xs : List NamedBytes) →
    AreFormedStreams xs → array (items_of ds) ≢ streams_json xs
streams_unread ds i old within given none xs formed e =
    let same = same_items ds (map stream_json xs) e in
    let len = ap length same in
    let less : i < length xs = omega (arith, within, len, length-map {B = Data} xs) in
    let nothing : NamedBytes = record { name = []; bytes = [] } in
    let x = get_or xs i nothing in
    let front : take i ds ≡ map stream_json (take i xs) = ap (take i) same ∙ take-map i xs in
    let before = given_same streams_are_one (take i ds) old (take i xs) given
    (All-take (λ s. IsStored s.name s.bytes) i xs formed.stored) front in
    let value : get_or ds i null ≡ stream_json x =
    ap (λ l. get_or l i null) same ∙ get_or-map stream_json xs i nothing null less in
    let read : stream_of_value (get_or ds i null) ≡ Some x =
    ap stream_of_value value ∙ streams_are_one.back x (formed.stored i nothing less) in
    none x read (subst AreStreams (take_more xs i nothing less ∙ ap (λ l. l ++ x ∷ []) (sym before))
    (AreStreams-take (i + 1) xs formed.ordered))

pub streams_same : (ds : List Data) (streams xs : List NamedBytes) → AreGiven stream_of_value ds streams →
    AreFormedStreams xs → array (items_of ds) ≡ streams_json xs → streams ≡ xs
streams_same ds streams xs given formed e =
    given_same streams_are_one ds streams xs given formed.stored (same_items ds (map stream_json xs) e)

pub streams_read : (ds : List Data) (streams : List NamedBytes) → AreGiven stream_of_value ds streams →
    HasKeysInOrder (array (items_of ds)) → array (items_of ds) ≡ streams_json streams
streams_read ds streams given order = (given_one streams_are_one ds streams given order).1

pub stored_all : (streams : List NamedBytes) → AreStored streams → All (λ s. IsStored s.name s.bytes) streams
stored_all streams stored k d less = stored k (get_or streams k d) (slice_get-get_or streams k d less)

-- ---- the fields

-- the fields of what is carried
abbrev pub fields_of : Carried → CarriedFields
fields_of c = record {
  assoc = c.assoc;
  clsid = c.clsid;
  dop = c.dop;
  flags = c.flags;
  fonts = c.fonts;
  levels = c.levels;
  lfo = c.lfo;
  lid = c.lid;
  lid_fe = c.lid_fe;
  lst = c.lst;
}

abbrev from_levels : CarriedFields → Data → Members
from_levels f streams =
    member (codes "levels") (bytes_json f.levels)
    (member (codes "lfo") (bytes_json f.lfo)
    (member (codes "lid") (number_json f.lid)
    (member (codes "lidfe") (number_json f.lid_fe)
    (member (codes "lst") (bytes_json f.lst)
    (member (codes "streams") streams no_members)))))

abbrev from_assoc : CarriedFields → Data → Members
from_assoc f streams =
    member (codes "assoc") (bytes_json f.assoc)
    (member (codes "clsid") (bytes_json f.clsid)
    (member (codes "dop") (bytes_json f.dop)
    (member (codes "flags") (number_json f.flags)
    (member (codes "fonts") (bytes_json f.fonts) (from_levels f streams)))))

pub record HasBytes (f : CarriedFields) : Type 0 where
  pub assoc : AreBytes f.assoc
  pub clsid : AreBytes f.clsid
  pub dop : AreBytes f.dop
  pub flags : f.flags < 2 ^ 16
  pub fonts : AreBytes f.fonts
  pub levels : AreBytes f.levels
  pub lfo : AreBytes f.lfo
  pub lid : f.lid < 2 ^ 16
  pub lid_fe : f.lid_fe < 2 ^ 16
  pub lst : AreBytes f.lst

fields_back : (f : CarriedFields) (streams : Data) → HasBytes f →
    carried_values (object (from_assoc f streams)) ≡ Some (f, streams)
fields_back f streams is =
    let made : CarriedFields × Data = (f, streams) in
    let at_streams = member (codes "streams") streams no_members in
    let at_lst = member (codes "lst") (bytes_json f.lst) at_streams in
    let at_lid_fe = member (codes "lidfe") (number_json f.lid_fe) at_lst in
    let at_lid = member (codes "lid") (number_json f.lid) at_lid_fe in
    let at_lfo = member (codes "lfo") (bytes_json f.lfo) at_lid in
    let at_levels = member (codes "levels") (bytes_json f.levels) at_lfo in
    let at_fonts = member (codes "fonts") (bytes_json f.fonts) at_levels in
    let at_flags = member (codes "flags") (number_json f.flags) at_fonts in
    let at_dop = member (codes "dop") (bytes_json f.dop) at_flags in
    let at_clsid = member (codes "clsid") (bytes_json f.clsid) at_dop in
    then_found (need (codes "assoc") bytes_of (from_assoc f streams)) _ (f.assoc, at_clsid) made
    (need_back bytes_are_one (codes "assoc") f.assoc at_clsid is.assoc)
    (then_found (need (codes "clsid") bytes_of at_clsid) _ (f.clsid, at_dop) made
    (need_back bytes_are_one (codes "clsid") f.clsid at_dop is.clsid)
    (then_found (need (codes "dop") bytes_of at_dop) _ (f.dop, at_flags) made
    (need_back bytes_are_one (codes "dop") f.dop at_flags is.dop)
    (then_found (need (codes "flags") short_number at_flags) _ (f.flags, at_fonts) made
    (need_back (numbers_one (2 ^ 16)) (codes "flags") f.flags at_fonts is.flags)
    (then_found (need (codes "fonts") bytes_of at_fonts) _ (f.fonts, at_levels) made
    (need_back bytes_are_one (codes "fonts") f.fonts at_levels is.fonts)
    (then_found (need (codes "levels") bytes_of at_levels) _ (f.levels, at_lfo) made
    (need_back bytes_are_one (codes "levels") f.levels at_lfo is.levels)
    (then_found (need (codes "lfo") bytes_of at_lfo) _ (f.lfo, at_lid) made
    (need_back bytes_are_one (codes "lfo") f.lfo at_lid is.lfo)
    (then_found (need (codes "lid") short_number at_lid) _ (f.lid, at_lid_fe) made
    (need_back (numbers_one (2 ^ 16)) (codes "lid") f.lid at_lid_fe is.lid)
    (then_found (need (codes "lidfe") short_number at_lid_fe) _ (f.lid_fe, at_lst) made
    (need_back (numbers_one (2 ^ 16)) (codes "lidfe") f.lid_fe at_lst is.lid_fe)
    (then_found (need (codes "lst") bytes_of at_lst) _ (f.lst, at_streams) made
    (need_back bytes_are_one (codes "lst") f.lst at_streams is.lst) refl)))))))))

-- what was read up to the fonts
record Front : Type 0 where
  assoc : List ℕ
  clsid : List ℕ
  dop : List ℕ
  flags : ℕ
  fonts : List ℕ

abbrev rest_of : Front → Members → Option (CarriedFields × Data)
rest_of front ms = do
  levels ← need (codes "levels") bytes_of ms
  lfo ← need (codes "lfo") bytes_of levels.1
  lid ← need (codes "lid") short_number lfo.1
  lid_fe ← need (codes "lidfe") short_number lid.1
  lst ← need (codes "lst") bytes_of lid_fe.1
  streams ← taken (codes "streams") lst.1
  end ← no_member_left streams.1
  Some (
    record {
      assoc = front.assoc;
      clsid = front.clsid;
      dop = front.dop;
      flags = front.flags;
      fonts = front.fonts;
      levels = levels.0;
      lfo = lfo.0;
      lid = lid.0;
      lid_fe = lid_fe.0;
      lst = lst.0;
    },
    streams.0,
  )

record IsRest (front : Front) (ms : Members) (p : CarriedFields × Data) : Type 0 where
  assoc : front.assoc ≡ p.0.assoc
  clsid : front.clsid ≡ p.0.clsid
  dop : front.dop ≡ p.0.dop
  flags : front.flags ≡ p.0.flags
  fonts : front.fonts ≡ p.0.fonts
  members : ms ≡ from_levels p.0 p.1
  order : HasKeysInOrder p.1

rest_one : (front : Front) (ms : Members) (p : CarriedFields × Data) → MembersHaveKeysInOrder ms →
    rest_of front ms ≡ Some p → IsRest front ms p
rest_one front ms p order e =
    let a = step_found (need (codes "levels") bytes_of ms) _ p e in
    let levels = need_one bytes_are_one (codes "levels") ms a.0 order a.1 in
    let b = step_found (need (codes "lfo") bytes_of a.0.1) _ p a.2 in
    let lfo = need_one bytes_are_one (codes "lfo") a.0.1 b.0 levels.order b.1 in
    let c = step_found (need (codes "lid") short_number b.0.1) _ p b.2 in
    let lid = need_one (numbers_one (2 ^ 16)) (codes "lid") b.0.1 c.0 lfo.order c.1 in
    let d = step_found (need (codes "lidfe") short_number c.0.1) _ p c.2 in
    let lid_fe = need_one (numbers_one (2 ^ 16)) (codes "lidfe") c.0.1 d.0 lid.order d.1 in
    let f = step_found (need (codes "lst") bytes_of d.0.1) _ p d.2 in
    let lst = need_one bytes_are_one (codes "lst") d.0.1 f.0 lid_fe.order f.1 in
    let g = step_found (taken (codes "streams") f.0.1) _ p f.2 in
    let streams = taken_is (codes "streams") f.0.1 g.0.0 g.0.1 g.1 in
    let h = step_found (no_member_left g.0.1) _ p g.2 in
    let last = ended_is g.0.1 h.0 h.1 in
    let ordered : MembersHaveKeysInOrder (member (codes "streams") g.0.0 g.0.1) =
    subst MembersHaveKeysInOrder streams lst.order in
    let found : CarriedFields = record {
      assoc = front.assoc;
      clsid = front.clsid;
      dop = front.dop;
      flags = front.flags;
      fonts = front.fonts;
      levels = a.0.0;
      lfo = b.0.0;
      lid = c.0.0;
      lid_fe = d.0.0;
      lst = f.0.0;
    } in
    let made : (found, g.0.0) ≡ p = same_Some (found, g.0.0) p h.2 in
    subst (IsRest front ms) made (record {
      assoc = refl;
      clsid = refl;
      dop = refl;
      flags = refl;
      fonts = refl;
      members =
          levels.members ∙ ap (member (codes "levels") (bytes_json a.0.0))
          (lfo.members ∙ ap (member (codes "lfo") (bytes_json b.0.0))
          (lid.members ∙ ap (member (codes "lid") (number_json c.0.0))
          (lid_fe.members ∙ ap (member (codes "lidfe") (number_json d.0.0))
          (lst.members ∙ ap (member (codes "lst") (bytes_json f.0.0))
          (streams ∙ ap (member (codes "streams") g.0.0) last)))));
      order = ordered.0;
    })

-- the value has these fields and this value of the streams
pub record AreFieldsOf (value : Data) (p : CarriedFields × Data) : Type 0 where
  pub is : value ≡ object (from_assoc p.0 p.1)
  pub order : HasKeysInOrder p.1

pub fields_one : (value : Data) (p : CarriedFields × Data) → HasKeysInOrder value → carried_values value ≡ Some p →
    AreFieldsOf value p
fields_one value p order e =
    let start = step_found (as_object value) _ p e in
    let is = object_is value start.0 start.1 in
    let ordered : MembersHaveKeysInOrder start.0 = (subst HasKeysInOrder is order).0 in
    let a = step_found (need (codes "assoc") bytes_of start.0) _ p start.2 in
    let assoc = need_one bytes_are_one (codes "assoc") start.0 a.0 ordered a.1 in
    let b = step_found (need (codes "clsid") bytes_of a.0.1) _ p a.2 in
    let clsid = need_one bytes_are_one (codes "clsid") a.0.1 b.0 assoc.order b.1 in
    let c = step_found (need (codes "dop") bytes_of b.0.1) _ p b.2 in
    let dop = need_one bytes_are_one (codes "dop") b.0.1 c.0 clsid.order c.1 in
    let d = step_found (need (codes "flags") short_number c.0.1) _ p c.2 in
    let flags = need_one (numbers_one (2 ^ 16)) (codes "flags") c.0.1 d.0 dop.order d.1 in
    let f = step_found (need (codes "fonts") bytes_of d.0.1) _ p d.2 in
    let fonts = need_one bytes_are_one (codes "fonts") d.0.1 f.0 flags.order f.1 in
    let front : Front = record { assoc = a.0.0; clsid = b.0.0; dop = c.0.0; flags = d.0.0; fonts = f.0.0 } in
    let rest = rest_one front f.0.1 p fonts.order f.2 in
    let raw : value ≡ object (member (codes "assoc") (bytes_json a.0.0)
    (member (codes "clsid") (bytes_json b.0.0)
    (member (codes "dop") (bytes_json c.0.0)
    (member (codes "flags") (number_json d.0.0)
    (member (codes "fonts") (bytes_json f.0.0) (from_levels p.0 p.1)))))) =
    is ∙ ap object (assoc.members ∙ ap (member (codes "assoc") (bytes_json a.0.0))
    (clsid.members ∙ ap (member (codes "clsid") (bytes_json b.0.0))
    (dop.members ∙ ap (member (codes "dop") (bytes_json c.0.0))
    (flags.members ∙ ap (member (codes "flags") (number_json d.0.0))
    (fonts.members ∙ ap (member (codes "fonts") (bytes_json f.0.0)) rest.members))))) in
    record {
      is = raw ∙ (λ t. object (member (codes "assoc") (bytes_json (rest.assoc t))
          (member (codes "clsid") (bytes_json (rest.clsid t))
          (member (codes "dop") (bytes_json (rest.dop t))
          (member (codes "flags") (number_json (rest.flags t))
          (member (codes "fonts") (bytes_json (rest.fonts t)) (from_levels p.0 p.1)))))));
      order = rest.order;
    }

-- ---- what is carried

kept_small : (flags : ℕ) → IsKeptFlags flags → flags < 2 ^ 16
kept_small flags kept = omega (arith, kept)

pub carried_bytes : (c : Carried) → IsFormedCarried c → HasBytes (fields_of c)
carried_bytes c formed =
    let each : (k : ℕ) → k < 7 → AreBytes (get_or (c.clsid ∷ c.fonts ∷ c.dop ∷ c.assoc ∷ c.lst ∷ c.levels ∷ c.lfo ∷ [])
    k []) = λ k less. formed.bytes k [] less in
    record {
      assoc = each 3 (omega arith);
      clsid = each 0 (omega arith);
      dop = each 2 (omega arith);
      flags = kept_small c.flags formed.flags;
      fonts = each 1 (omega arith);
      levels = each 5 (omega arith);
      lfo = each 6 (omega arith);
      lid = formed.languages.0;
      lid_fe = formed.languages.1;
      lst = each 4 (omega arith);
    }

pub carried_known : (value : Data) (c : Carried) → IsFormedCarried c → value ≡ carried_json c →
    carried_values value ≡ Some (fields_of c, streams_json c.streams)
carried_known value c formed e =
    ap carried_values e ∙ fields_back (fields_of c) (streams_json c.streams) (carried_bytes c formed)

pub no_carried : (value : Data) → carried_values value ≡ None → (c : Carried) → IsFormedCarried c →
    value ≢ carried_json c
no_carried value none c formed e = none-some _ (sym none ∙ carried_known value c formed e)

right_fields : (c : Carried) → IsFormedCarried c → AreValidFields (fields_of c)
right_fields c formed = record {
  but = record { short = formed.parts; clsid = formed.clsid; flags = formed.flags };
  lists = formed.lists;
}

formed_streams : (c : Carried) → IsFormedCarried c → AreFormedStreams c.streams
formed_streams c formed = record {
  ordered = formed.ordered;
  stored = stored_all c.streams formed.stored;
  carried = formed.streams;
}

pub carried_unread : (value : Data) (f : CarriedFields) (d : Data) → carried_values value ≡ Some (f, d) →
    ((streams : List NamedBytes) → AreValidFields f → AreFormedStreams streams → d ≢ streams_json streams) →
    (c : Carried) → IsFormedCarried c → value ≢ carried_json c
carried_unread value f d read none c formed e =
    let same = same_Some (fields_of c, streams_json c.streams) (f, d) (sym (carried_known value c formed e) ∙ read) in
    none c.streams (subst (λ q. AreValidFields q.0) same (right_fields c formed)) (formed_streams c formed)
    (ap (λ q. q.1) (sym same))

pub carried_told : (value : Data) (f : CarriedFields) (d : Data) (streams : List NamedBytes) (c : Carried) →
    carried_values value ≡ Some (f, d) → (HasKeysInOrder d → d ≡ streams_json streams) → HasCarriedFields f streams c →
    HasKeysInOrder value → value ≡ carried_json c
carried_told value f d streams c read told has order =
    let fields = fields_one value (f, d) order read in
    let same : f ≡ fields_of c = λ t. record {
      assoc = sym has.assoc t;
      clsid = sym has.clsid t;
      dop = sym has.dop t;
      flags = sym has.flags t;
      fonts = sym has.fonts t;
      levels = sym has.levels t;
      lfo = sym has.lfo t;
      lid = sym has.lid t;
      lid_fe = sym has.lid_fe t;
      lst = sym has.lst t;
    } in
    fields.is ∙ (λ t. object (from_assoc (same t) ((told fields.order ∙ ap streams_json (sym has.others)) t)))
