-- [MS-OLEPS] PropertySetStream with one PropertySet: where its numbers are. Offsets of the set count from its
-- beginning.
use Rattle.std.specs.Prelude.{ℕ, ◌+◌, ◌*◌, List, map}
use Rattle.std.specs.List.{range_with_len}
use Rattle.doc_bits.specs.Number.{u32_at}
use Rattle.summary_set.specs.declared.set.PropertyPair.{PropertyPair}
use Rattle.summary_set.specs.declared.set.SetHead.{SetHead}

-- Offset0: where the set begins in the stream
abbrev pub first_set_begin : List ℕ → ℕ
first_set_begin b = u32_at b 44

-- [MS-OLEPS] PropertySet: Size
abbrev pub first_set_size : List ℕ → ℕ
first_set_size b = u32_at b (first_set_begin b)

-- [MS-OLEPS] PropertySet: NumProperties
abbrev pub pair_count : List ℕ → ℕ
pair_count b = u32_at b (first_set_begin b + 4)

abbrev pub set_head_of : List ℕ → SetHead
set_head_of b = record { begin = first_set_begin b; size = first_set_size b; count = pair_count b }

-- where a pair is in the stream
abbrev pub pair_place : List ℕ → ℕ → ℕ
pair_place b i = first_set_begin b + 8 + 8 * i

-- [MS-OLEPS] PropertyIdentifierAndOffset
abbrev pub pair_at : List ℕ → ℕ → PropertyPair
pair_at b i = record { id = u32_at b (pair_place b i); offset = u32_at b (pair_place b i + 4) }

-- the pairs, in their order
abbrev pub pairs_in_stream : List ℕ → List PropertyPair
pairs_in_stream b = map (pair_at b) (range_with_len 0 (pair_count b))

abbrev pub offsets_of : List ℕ → List ℕ
offsets_of b = map (λ pair. pair.offset) (pairs_in_stream b)
