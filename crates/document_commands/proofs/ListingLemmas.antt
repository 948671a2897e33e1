-- The lines of the streams, one after another.
use Rattle.std.proofs.Common.{◌≡◌, ◌∙◌, ◌+◌, ap, refl, ℕ, List, [], ◌∷◌, ◌++◌, Option, Some, None, option_map}
use Rattle.std.proofs.Common.{slice_get, length, drop, false}
use Rattle.std.specs.Fmt.{decimal}
use Rattle.std.proofs.lemmas.Option.{none-some, slice_get_within, get_or_from_slice_get}
use Rattle.std.proofs.lemmas.List.{drop_more}
use Rattle.text_codes.specs.Shown.{shown_text}
use Rattle.cfb_streams.specs.Contents.{Stream}
use Rattle.text_codes.specs.Shown.{line}
use Rattle.document_commands.specs.Lines.{stream_lines}

-- the value, where there is one
value_of : Option (List ℕ) → List ℕ
value_of None = []
value_of (Some x) = x

-- a stream of this name and these bytes
stream_of :
    (o : Option Stream) (name bytes : List ℕ) → option_map (λ s. s.name) o ≡ Some name →
    option_map (λ s. s.bytes) o ≡ Some bytes → (s : Stream) × ((o ≡ Some s) × ((s.name ≡ name) × (s.bytes ≡ bytes)))
unfolding value_of
stream_of None name bytes n b = absurd (none-some name n)
stream_of (Some s) name bytes n b = (s, (refl, (ap value_of n, ap value_of b)))

-- the lines from a stream on
pub lines-from : (streams : List Stream) (i : ℕ) (name bytes : List ℕ) → option_map (λ s. s.name) (slice_get streams
    i) ≡ Some name → option_map (λ s. s.bytes) (slice_get streams i) ≡ Some bytes → stream_lines (drop i streams) ≡
    line (decimal (length bytes) ++ (32 ∷ [] ++ shown_text false name)) ++ stream_lines (drop (i + 1) streams)
lines-from streams i name bytes n b =
    let it = stream_of (slice_get streams i) name bytes n b in
    let here : drop i streams ≡ it.0 ∷ drop (i + 1) streams =
    drop_more streams i it.0 (slice_get_within streams i it.0 it.1.0)
    ∙ ap (λ s. s ∷ drop (i + 1) streams) (get_or_from_slice_get streams i it.0 it.0 it.1.0) in
    rw (here, it.1.1.0, it.1.1.1) refl
