-- Cells whose texts may be put, one after another.
use Rattle.std.proofs.Common.{◌≡◌, ◌∙◌, sym, ap, subst, ℕ, ◌+◌, ◌≤◌, List, length, take, Some}
use Rattle.std.specs.Prelude.{slice_get}
use Rattle.std.specs.List.{All, sum_by}
use Rattle.std.proofs.lemmas.List.Elements.{All-more}
use Rattle.std.proofs.lemmas.List.Sums.{sum_by_more, sum_by-take-le}
use Rattle.std.proofs.lemmas.Option.{slice_get_within, get_or_from_slice_get}
use Rattle.edit_ops.specs.Codes.{IsPutUnit}

pub text_there : (cells : List (List ℕ)) (i : ℕ) (text : List ℕ) → slice_get cells i ≡ Some text → All (All IsPutUnit)
    cells → All IsPutUnit text
text_there cells i text there all = subst (All IsPutUnit) (get_or_from_slice_get cells i text text there)
    (all i text (slice_get_within cells i text there))

pub texts_more : (cells : List (List ℕ)) (i : ℕ) (text : List ℕ) → slice_get cells i ≡ Some text → All (All IsPutUnit)
    (take i cells) → All IsPutUnit text → All (All IsPutUnit) (take (i + 1) cells)
texts_more cells i text there before here =
    All-more (All IsPutUnit) cells i text (slice_get_within cells i text there) before (subst (All IsPutUnit)
    (sym (get_or_from_slice_get cells i text text there)) here)

pub units_more : (cells : List (List ℕ)) (i : ℕ) (text : List ℕ) → slice_get cells i ≡ Some text →
    sum_by length (take (i + 1) cells) ≡ sum_by length (take i cells) + length text
units_more cells i text there =
    sum_by_more length cells i text (slice_get_within cells i text there)
    ∙ ap (λ t. sum_by length (take i cells) + length t) (get_or_from_slice_get cells i text text there)

pub units_within : (cells : List (List ℕ)) (i : ℕ) → sum_by length (take i cells) ≤ sum_by length cells
units_within cells i = sum_by-take-le length cells i
