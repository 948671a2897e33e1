-- The rules on the Clx have one first broken one.
use Rattle.std.proofs.Common.{◌≡◌, ℕ, ◌+◌, ◌*◌, ◌≤◌, ◌⊎◌, Option, Some, None, List, length, refl, inl, inr, ap, subst}
use Rattle.std.proofs.Common.{◌++◌, All, flat_map, length-append, arith, lit<, lit≤}
use Rattle.doc_bits.specs.Rules.{IsSingle, Ascends, IsLeast, IsFirstOffset, Hold, Nowhere, Among, From, rule}
use Rattle.doc_bits.specs.Number.{number_bytes}
use Rattle.doc_bits.proofs.Public.{length-number_bytes, least_of_all}
use Rattle.piece_table.specs.declared.fault.ClxFault.{ClxFault}
use Rattle.piece_table.specs.declared.fault.ClxFault.TheVariants.{Rule, Memory}
use Rattle.sprm_table.specs.Prms.{code_of_isprm}
use Rattle.piece_table.specs.declared.pcd.Prm.{Prm}
use Rattle.piece_table.specs.declared.pcd.Prm.TheVariants.{Nothing, Sprm, Prc}
use Rattle.piece_table.specs.declared.pieces.TextBounds.{TextBounds}
use Rattle.piece_table.specs.Piece.{piece_end}
use Rattle.piece_table.specs.Clx.{ClxParts, plc_place, prc_bytes, pcdt_bytes, pcd_place, pcd_prm}
use Rattle.piece_table.specs.Clx.{clx_piece, clx_pieces}
use Rattle.piece_table.specs.ClxRules.{clx_rules, piece_rules, prc_rules, parts_rules, IsUnread, IsReadPrm}
use Rattle.piece_table.specs.ClxRules.{AreReadPrms, IsFaultyPrc, IsLongPrc, HasWrongCp, IsNoCpAscent, IsOutside}
use Rattle.piece_table.specs.ClxRules.{StaysInStream, IsClxFault, NamesFirst, FirstClxFaultIsLeast}
use Rattle.doc_bits.specs.Plc.{PlcPart, plc_cp}
use Rattle.std.proofs.lemmas.Bool.{cases_lt}
use Rattle.std.specs.Option.{IsSome}
use Rattle.piece_table.specs.Front.{AscendsTo, EndsWithin, AreClxParts}
use Rattle.piece_table.proofs.PieceLemmas.{All-clx_pieces}
use Rattle.piece_table.proofs.ClxLemmas.{parts_unique}

pub clx_rules-IsSingle : (clx : List ℕ) (at : ℕ) (bounds : TextBounds) (text_len : ℕ) →
    IsSingle (clx_rules clx at bounds text_len)
clx_rules-IsSingle clx at bounds text_len = (tt, (parts_unique clx, λ parts spelt. ((tt, (tt, tt)), (tt, tt))))

piece_rules-Ascends : (plc : PlcPart) (base prcs : ℕ) (bounds : TextBounds) (text_len : ℕ) →
    Ascends (piece_rules plc base prcs bounds text_len) 28 31
piece_rules-Ascends plc base prcs bounds text_len = (
  29,
  (
    (lit≤ tt, lit< tt),
    (
      lit≤ tt,
      lit≤ tt,
      (30, ((lit≤ tt, lit< tt), (lit≤ tt, lit≤ tt, (lit≤ tt, lit< tt)))),
    ),
  ),
)

prc_rules-Ascends : (parts : ClxParts) (at : ℕ) → Ascends (prc_rules parts at) 31 33
prc_rules-Ascends parts at = (32, ((lit≤ tt, lit< tt), (lit≤ tt, lit≤ tt, (lit≤ tt, lit< tt))))

pub clx_rules-Ascends : (clx : List ℕ) (at : ℕ) (bounds : TextBounds) (text_len : ℕ) →
    Ascends (clx_rules clx at bounds text_len) 27 33
clx_rules-Ascends clx at bounds text_len = (
  28,
  (
    (lit≤ tt, lit< tt),
    (
      lit≤ tt,
      lit≤ tt,
      (
        lit≤ tt,
        λ parts spelt. (
          31,
          (
            piece_rules-Ascends parts.plc (at + plc_place parts) (length parts.prcs) bounds text_len,
            (lit≤ tt, lit≤ tt, prc_rules-Ascends parts at),
          ),
        ),
      ),
    ),
  ),
)

-- the first broken rule is the least of all broken ones
pub first_clx_fault_least : FirstClxFaultIsLeast
first_clx_fault_least clx at bounds text_len r p first =
    least_of_all (λ a b. a ≤ b) (clx_rules clx at bounds text_len) 27 33 r p (clx_rules-IsSingle clx at bounds
    text_len) (clx_rules-Ascends clx at bounds text_len) first

-- the CPs begin as they should
abbrev pub Starts : PlcPart → Type 0
Starts plc = (plc.count ≤ 16384) × (plc_cp plc.bytes 0 ≡ 0)

pub first_no_ascent : (plc : PlcPart) (base text_len p : ℕ) → Starts plc → IsLeast (λ a b. a ≤ b) (Among plc.count
    (IsNoCpAscent plc base)) p → IsLeast (λ a b. a ≤ b) (HasWrongCp plc base text_len) p
first_no_ascent plc base text_len p starts first =
    let below = first.broken.below in
    let here = first.broken.broken.0 in
    record {
      broken = inr (inl first.broken);
      least = λ q h. elim h [
        | inl start ↦ elim start.1 [
          | inl many ↦ let few = starts.0 in absurd (omega arith)
          | inr other ↦ absurd (other
              starts.1)
        ]
        | inr later ↦ elim later [ inl fall ↦ first.least q fall | inr end ↦ let last = end.0 in omega arith ]
      ];
    }

pub first_wrong_end : (plc : PlcPart) (base text_len : ℕ) → Starts plc → Nowhere (Among plc.count (IsNoCpAscent plc
    base)) → (plc_cp plc.bytes plc.count ≡ text_len → ⊥) → IsLeast (λ a b. a ≤ b) (HasWrongCp plc base text_len)
    (base + 4 * plc.count)
first_wrong_end plc base text_len starts none other = record {
  broken = inr (inr (refl, other));
  least = λ q h. elim h [
    | inl start ↦ elim start.1 [
      | inl many ↦ let few = starts.0 in absurd (omega arith)
      | inr not_zero ↦
          absurd (not_zero starts.1)
    ]
    | inr later ↦ elim later [ inl fall ↦ absurd (none q fall) | inr end ↦ let last = end.0 in omega arith ]
  ];
}

pub no_wrong_cp : (plc : PlcPart) (base text_len : ℕ) → Starts plc → Nowhere (Among plc.count (IsNoCpAscent plc base)) →
    plc_cp plc.bytes plc.count ≡ text_len → Nowhere (HasWrongCp plc base text_len)
no_wrong_cp plc base text_len starts none ends = λ q h. elim h [
  | inl start ↦ elim start.1 [
    | inl many ↦ let few = starts.0 in absurd (omega arith)
    | inr not_zero ↦ absurd (not_zero
        starts.1)
  ]
  | inr later ↦ elim later [ inl fall ↦ absurd (none q fall) | inr end ↦ absurd (end.1 ends) ]
]

-- where no CP is wrong they ascend to the text length
pub ascends_of : (plc : PlcPart) (base text_len : ℕ) → Nowhere (HasWrongCp plc base text_len) → AscendsTo plc text_len
ascends_of plc base text_len none = record {
  first = elim (cases_lt 0 (plc_cp plc.bytes 0)) [
    | inl more ↦ absurd (none base (inl (refl, inr (λ e. omega (arith, e, more)))))
    | inr zero_at_most ↦ omega arith
  ];
  ascends = λ k low. elim (cases_lt (plc_cp plc.bytes k) (plc_cp plc.bytes (k + 1))) [
    | inl up ↦ up
    | inr fall ↦ absurd (none (base + 4 * (k + 1)) (inr (inl (record {
      entry = k;
      below = low;
      broken = (
        refl,
        fall,
      );
    }))))
  ];
  last = elim (cases_lt (plc_cp plc.bytes plc.count) text_len) [
    | inl less ↦ absurd (none (base + 4 * plc.count) (inr (inr (refl, λ e. omega (arith, e, less)))))
    | inr least ↦ elim (cases_lt text_len (plc_cp plc.bytes plc.count)) [
      | inl more ↦ absurd (none (base + 4 * plc.count) (inr (inr (refl, λ e. omega (arith, e, more)))))
      | inr most ↦ omega arith
    ]
  ];
}

-- where no piece leaves the stream all end within it
pub ends_of : (plc : PlcPart) (base : ℕ) (bounds : TextBounds) (limit : ℕ) → bounds.end ≤ limit →
    Nowhere (Among plc.count (IsOutside plc base bounds)) → EndsWithin plc limit
ends_of plc base bounds limit low none = λ k below. elim (cases_lt bounds.end (piece_end (clx_piece plc k))) [
  | inl over ↦ absurd (none (base + (pcd_place plc k + 2)) (record {
    entry = k;
    below = below;
    broken = (
      refl,
      inr over,
    );
  }))
  | inr within ↦ omega arith
]

-- where no piece leaves the stream all stay in it
pub stays_of : (plc : PlcPart) (base : ℕ) (bounds : TextBounds) → Nowhere (Among plc.count (IsOutside plc base
    bounds)) → All (StaysInStream bounds) (clx_pieces plc)
stays_of plc base bounds none = All-clx_pieces plc (StaysInStream bounds) (λ k below. (
  elim (cases_lt (clx_piece plc k).at bounds.from) [
    | inl low ↦ absurd (none (base + (pcd_place plc k + 2)) (record {
      entry = k;
      below = below;
      broken = (
        refl,
        inl low,
      );
    }))
    | inr high ↦ high
  ],
  elim (cases_lt bounds.end (piece_end (clx_piece plc k))) [
    | inl over ↦ absurd (none (base + (pcd_place plc k + 2)) (record {
      entry = k;
      below = below;
      broken = (
        refl,
        inr over,
      );
    }))
    | inr within ↦ within
  ],
))

-- what is not wrong in the Clx is not wrong at its place
pub nowhere_from : (breaks : ℕ → Type 0) (base : ℕ) → Nowhere breaks → Nowhere (From base breaks)
nowhere_from breaks base none = λ p from. none from.offset from.broken

-- ---- the parts

-- a Prm is read or not
read_or_not : (prcs : ℕ) (prm : Prm) → IsReadPrm prcs prm ⊎ ¬ (IsReadPrm prcs prm)
read_or_not prcs Nothing = inl tt
read_or_not prcs (Sprm isprm operand) = some_or_not (code_of_isprm isprm)
  where
    some_or_not : {A : Type 0} (o : Option A) → IsSome o ⊎ ¬ (IsSome o)
    some_or_not None = inr (λ some. cc (some))
    some_or_not (Some x) = inl refl
read_or_not prcs (Prc number) = elim (cases_lt number prcs) [ inl low ↦ inl low | inr high ↦ inr (λ low. omega arith) ]

-- where none is not read all are
pub read_prms : (plc : PlcPart) (base prcs : ℕ) → Nowhere (Among plc.count (IsUnread plc base prcs)) → AreReadPrms plc
    prcs
read_prms plc base prcs none = λ k below. elim (read_or_not prcs (pcd_prm plc k)) [
  | inl read ↦ read
  | inr unread ↦ absurd (none (base + (pcd_place plc k + 6)) (record {
    entry = k;
    below = below;
    broken = (
      refl,
      unread,
    );
  }))
]

-- the rules on the pieces, with the place of their Plc
pub hold_pieces : (parts : ClxParts) (at place : ℕ) (bounds : TextBounds) (text_len : ℕ) → place ≡ plc_place parts →
    Hold (piece_rules parts.plc (at + place) (length parts.prcs) bounds text_len) → Hold (piece_rules parts.plc
    (at + plc_place parts) (length parts.prcs) bounds text_len)
hold_pieces parts at place bounds text_len is holds = subst (λ p. Hold (piece_rules parts.plc (at + p)
    (length parts.prcs) bounds text_len)) is holds

pub fault_pieces : (parts : ClxParts) (at place : ℕ) (bounds : TextBounds) (text_len : ℕ) (fault : ClxFault) →
    place ≡ plc_place parts → NamesFirst (piece_rules parts.plc (at + place) (length parts.prcs) bounds text_len)
    fault → IsClxFault (parts_rules parts at bounds text_len) fault
fault_pieces parts at place bounds text_len (Rule r p) is first = inl (subst (λ q. IsFirstOffset (piece_rules parts.plc
    (at + q) (length parts.prcs) bounds text_len) r p) is first)
fault_pieces parts at place bounds text_len Memory is first = absurd first

-- rule 32, where those before it hold
pub fault_long : (parts : ClxParts) (at : ℕ) (bounds : TextBounds) (text_len : ℕ) (fault : ClxFault) →
    Hold (piece_rules parts.plc (at + plc_place parts) (length parts.prcs) bounds text_len) →
    Nowhere (Among (length parts.prcs) (IsFaultyPrc parts at)) → IsClxFault (rule 32 (Among (length parts.prcs)
    (IsLongPrc parts at))) fault → IsClxFault (parts_rules parts at bounds text_len) fault
fault_long parts at bounds text_len (Rule r p) holds none first = inr (holds, inr (none, first))
fault_long parts at bounds text_len Memory holds none first = tt

-- the Plc is within the Clx
pub parts_within : (clx : List ℕ) (place : ℕ) (parts : ClxParts) → AreClxParts clx parts place →
    place + length parts.plc.bytes ≤ length clx
parts_within clx place parts are =
    let spelt = are.spelt in
    let place_is = are.place_is in
    let front = flat_map prc_bytes parts.prcs in
    let body = parts.plc.bytes in
    omega (
      arith,
      ap length spelt.spelt,
      length-append front (pcdt_bytes body ++ spelt.more),
      length-append (pcdt_bytes body) spelt.more,
      length-append (number_bytes 4 (length body)) body,
      length-number_bytes 4 (length body),
    )
