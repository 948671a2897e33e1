-- The properties of a run, a paragraph mark, a section or a style, as contracts see them.
use Rattle.std.specs.Prelude.{ℕ, List, Option, Some, None}
use Rattle.std.specs.Ordering.{nat_cmp}
use Rattle.std.specs.Coded.{Coded, coded_ℕ, coded_list}
use Rattle.std.specs.FinMap.{FinMap, code, empty}
use Rattle.std.specs.declared.rc.Rc.{Rc}

-- from the code of a sprm to the bytes of its operand's value
abbrev pub Properties : Type 0
Properties = FinMap nat_cmp (List ℕ)

-- the code of such maps, which the `impl Model` of a list of them names
abbrev pub properties_code : Coded Properties
properties_code = code coded_ℕ (coded_list coded_ℕ)

-- what is shared, and the empty map where nothing is
abbrev pub shared_or_empty : {A : Type 0} → Option (Rc Properties A) → Properties
shared_or_empty None = empty
shared_or_empty (Some shared) = shared.value
