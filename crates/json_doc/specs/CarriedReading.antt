-- What the values of what is carried are read as.
use Rattle.std.specs.Prelude.{◌≡◌, List, [], ◌∷◌, ◌++◌, length, codes, Option, Some, None, All}
use Rattle.serde_json.specs.Data.{Data, Items, no_items, item}
use Rattle.serde_json.specs.Find.{as_array, as_object}
use Rattle.edit_script.specs.Json.{◌>>=◌}
use Rattle.edit_script.specs.Values.{bytes_of, short_number}
use Rattle.fib_form.specs.FibFields.{IsKeptFlags}
use Rattle.cfb_streams.specs.Contents.{NamedBytes, AreStreams, IsStored}
use Rattle.doc_model.specs.declared.carried.Carried.{Carried}
use Rattle.doc_model.specs.Carried.{ArePartsShort, AreListsWithLevels, AreCarriedStreams}
use Rattle.json_values.specs.Digits.{hex_units_of}
use Rattle.json_values.specs.Rows.{taken, need, no_member_left}
use Rattle.json_doc.specs.declared.carried_reading.CarriedFields.{CarriedFields}

-- a name and bytes
abbrev pub stream_of_items : Items → Option NamedBytes
stream_of_items no_items = None
stream_of_items (item name no_items) = None
stream_of_items (item name (item bytes no_items)) = do
  units ← hex_units_of name
  content ← bytes_of bytes
  Some (record { name = units; bytes = content })
stream_of_items (item name (item bytes (item other more))) = None

abbrev pub stream_of_value : Data → Option NamedBytes
stream_of_value value = as_array value >>= stream_of_items

-- streams that a document may carry
pub record AreFormedStreams (streams : List NamedBytes) : Type 0 where
  pub ordered : AreStreams streams
  pub stored : All (λ stream. IsStored stream.name stream.bytes) streams
  pub carried : AreCarriedStreams streams

-- the fields, and the value that has the streams
abbrev pub carried_values : Data → Option (CarriedFields × Data)
carried_values value = do
  start ← as_object value
  assoc ← need (codes "assoc") bytes_of start
  clsid ← need (codes "clsid") bytes_of assoc.1
  dop ← need (codes "dop") bytes_of clsid.1
  flags ← need (codes "flags") short_number dop.1
  fonts ← need (codes "fonts") bytes_of flags.1
  levels ← need (codes "levels") bytes_of fonts.1
  lfo ← need (codes "lfo") bytes_of levels.1
  lid ← need (codes "lid") short_number lfo.1
  lid_fe ← need (codes "lidfe") short_number lid.1
  lst ← need (codes "lst") bytes_of lid_fe.1
  streams ← taken (codes "streams") lst.1
  end ← no_member_left streams.1
  Some (
    record {
      assoc = assoc.0;
      clsid = clsid.0;
      dop = dop.0;
      flags = flags.0;
      fonts = fonts.0;
      levels = levels.0;
      lfo = lfo.0;
      lid = lid.0;
      lid_fe = lid_fe.0;
      lst = lst.0;
    },
    streams.0,
  )

-- what a document may carry of these, but for the levels of its lists
pub record AreValidBut (fields : CarriedFields) : Type 0 where
  pub short :
      ArePartsShort
      (fields.fonts ∷ fields.dop ∷ fields.assoc ∷ fields.lst ∷ fields.levels ∷ fields.lfo ∷ [])
  pub clsid : length fields.clsid ≡ 16
  pub flags : IsKeptFlags fields.flags

-- what a document may carry of these
pub record AreValidFields (fields : CarriedFields) : Type 0 where
  pub but : AreValidBut fields
  pub lists : AreListsWithLevels fields.lst fields.levels

-- what is carried has these fields and streams
pub record HasCarriedFields (fields : CarriedFields) (streams : List NamedBytes) (carried : Carried) : Type 0 where
  pub assoc : carried.assoc ≡ fields.assoc
  pub clsid : carried.clsid ≡ fields.clsid
  pub dop : carried.dop ≡ fields.dop
  pub flags : carried.flags ≡ fields.flags
  pub fonts : carried.fonts ≡ fields.fonts
  pub levels : carried.levels ≡ fields.levels
  pub lfo : carried.lfo ≡ fields.lfo
  pub lid : carried.lid ≡ fields.lid
  pub lid_fe : carried.lid_fe ≡ fields.lid_fe
  pub lst : carried.lst ≡ fields.lst
  pub others : carried.streams ≡ streams

-- the value is that of a stream, which is behind the others
pub record IsStreamAdded (value : Data) (old new : List NamedBytes) : Type 0 where
  pub stream : NamedBytes
  pub read : stream_of_value value ≡ Some stream
  pub grown : new ≡ old ++ stream ∷ []

-- the value is that of no stream that may be behind the others
abbrev pub IsNoStream : Data → List NamedBytes → Type 0
IsNoStream value old =
    (stream : NamedBytes) → stream_of_value value ≡ Some stream → ¬ AreStreams (old ++ stream ∷ [])
