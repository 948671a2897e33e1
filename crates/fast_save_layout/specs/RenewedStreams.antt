-- The streams of a container, of which two have new bytes. All keep their names, as they are spelt, and their order.
use Rattle.std.specs.Prelude.{ℕ, List, [], ◌∷◌, map, if◌then◌else◌}
use Rattle.std.specs.Option.{unwrap_or}
use Rattle.cfb_streams.specs.Contents.{Stream, NamedBytes}
use Rattle.cfb_streams.specs.Names.{wd_name, is_same_name}

-- the bytes of the first stream with a name; none where there is no such stream
unfoldable pub bytes_named : List Stream → List ℕ → List ℕ
bytes_named [] name = []
bytes_named (stream ∷ streams) name = if is_same_name stream.name name then stream.bytes else bytes_named streams name

-- its sectors; none where it has no sectors of its own
unfoldable pub chain_named : List Stream → List ℕ → List ℕ
chain_named [] name = []
chain_named (stream ∷ streams) name =
    if is_same_name stream.name name then unwrap_or stream.chain [] else chain_named streams name

-- WordDocument, and the table stream of this name, with new bytes
abbrev pub renewed_bytes : List ℕ → List ℕ → List ℕ → Stream → List ℕ
renewed_bytes name wd table stream =
    if is_same_name stream.name wd_name then wd else (if is_same_name stream.name name then table else stream.bytes)

unfoldable pub renewed_streams : List ℕ → List ℕ → List ℕ → List Stream → List NamedBytes
renewed_streams name wd table streams =
    map (λ stream. record { name = stream.name; bytes = renewed_bytes name wd table stream }) streams
