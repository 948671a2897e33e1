-- The code by which proofs tell sources of places apart.
use Rattle.std.specs.Prelude.{ℕ, List, refl}
use Rattle.std.specs.Coded.{Coded, code_by, coded×, coded_ℕ, coded_list}
use Rattle.prop_map.specs.declared.modifiers.Modifier.{Modifier}
use Rattle.prop_map.specs.contracts.modifiers.Modifier as modifier
use Rattle.fkp_pages.specs.declared.kind.PageKind.{PageKind}
use Rattle.fkp_pages.specs.contracts.kind.PageKind as kind
use Rattle.direct_props.specs.GrpprlCache.{PlaceSource}

abbrev pub source_code : Coded PlaceSource
source_code =
    code_by (PageKind × (List ℕ × (List ℕ × Modifier)))
    (coded× kind.the_row.coded (coded× (coded_list coded_ℕ) (coded× (coded_list coded_ℕ) modifier.the_row.coded)))
    (λ s. (s.kind, (s.wd, (s.bin, s.modifier))))
    (λ p. record { kind = p.0; wd = p.1.0; bin = p.1.1.0; modifier = p.1.1.1 })
    (λ _. refl)
