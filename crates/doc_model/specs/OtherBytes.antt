-- What is carried along, where one stream has other bytes.
use Rattle.std.specs.Prelude.{◌≡◌, ℕ, List}
use Rattle.doc_model.specs.declared.carried.Carried.{Carried}
use Rattle.doc_model.specs.Carried.{AreCarriedStreams, with_bytes}

-- the same, but for the bytes of the stream at a place; the streams are ones that may be carried
abbrev pub carried_with :
    (carried : Carried) (i : ℕ) (bytes : List ℕ) → AreCarriedStreams (with_bytes carried.streams i bytes) → Carried
carried_with carried i bytes fit = record carried { streams = with_bytes carried.streams i bytes; others = fit }

-- the new one is the old one but for the bytes of that stream
abbrev pub HasOtherBytes : (old : Carried) (i : ℕ) (bytes : List ℕ) (new : Carried) → Type 0
HasOtherBytes old i bytes new =
    (fit : AreCarriedStreams (with_bytes old.streams i bytes)) → new ≡ carried_with old i bytes fit
