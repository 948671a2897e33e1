-- A Clx that was printed breaks no rule, and is read as the pieces.
use Rattle.std.proofs.Common.{◌≡◌, ℕ, ◌+◌, ◌-◌, ◌^◌, ◌<◌, ◌≤◌, List, [], ◌∷◌, ◌++◌, length, map, flat_map, All}
use Rattle.std.proofs.Common.{get_or, slice_get, Some, true, refl, inl, inr, sym, ap, subst, ◌∙◌, arith}
use Rattle.std.specs.List.{sum}
use Rattle.std.proofs.Math.ListN.{get_or-map, length-map}
use Rattle.std.proofs.lemmas.List.{get_or_default}
use Rattle.std.proofs.lemmas.List.Sums.{sum-map}
use Rattle.std.proofs.lemmas.Option.{slice_get_within, slice_get-get_or, get_or_from_slice_get, slice_get-map}
use Rattle.doc_bits.specs.Plc.{plc_cp}
use Rattle.std.specs.Option.{option_map}
use Rattle.sprm_table.specs.Sprm.{IsAcceptedList}
use Rattle.prop_map.specs.Formed.{prc_groups}
use Rattle.prop_map.specs.declared.modifiers.Modifier.{Modifier}
use Rattle.prop_map.specs.Modifiers.{no_modifier, printed_modifier}
use Rattle.piece_table.specs.declared.pcd.Prm.TheVariants.{Prc}
use Rattle.piece_table.specs.Piece.{TextPiece, bare_piece, ArePieces}
use Rattle.piece_table.specs.Clx.{ClxParts, IsGrpprl, prc_bytes, prm_of, pcd_prm, clx_piece}
use Rattle.piece_table.specs.PrmLists.{IsPrmModifier}
use Rattle.piece_table.specs.ClxRules.{FitsPages, IsReadPrm}
use Rattle.piece_table.specs.Numbering.{AreAccepted}
use Rattle.piece_table.specs.Printing.{IsPrintable, IsPrintedClx, IsPrintedPrc, NamesModifier, printed_prcs}
use Rattle.piece_table.proofs.SprmModifierLemmas.{none_does}
use Rattle.piece_table.proofs.UniqueLemmas.{prm_of_prc}
use Rattle.piece_table.proofs.PrcPrintLemmas.{printed_short}
use Rattle.piece_table.proofs.PlcPrintLemmas.{sum_more, length-pcd_bytes}
use Rattle.piece_table.proofs.PlcBackLemmas.{printed_part, cp_back, pcd_back}

abbrev pub lens : List TextPiece → List ℕ
lens pieces = map (λ piece. piece.len) pieces

-- the parts that are printed
abbrev pub parts_of : List TextPiece → List Modifier → List (List ℕ) → ClxParts
parts_of pieces prcs pcds = record { prcs = map printed_modifier prcs; plc = printed_part (lens pieces) pcds }

-- ---- the Pcds

pub sized : (pieces : List TextPiece) (bytes : List ℕ) (printed : IsPrintedClx pieces bytes) →
    All (λ pcd. length pcd ≡ 8) printed.pcds
sized pieces bytes printed = λ k d low.
    let none : TextPiece = record { at = 0; wide = true; len = 0; modifier = no_modifier } in
    let count = printed.count in
    let pcd = printed.pcd k (get_or pieces k none) (slice_get-get_or pieces k none (omega arith)) in
    ap length (get_or_default printed.pcds k d [] low ∙ pcd.spelt) ∙ length-pcd_bytes (bare_piece (get_or pieces k
    none)) pcd.prm

prm_small : (prcs : List Modifier) (prm most : ℕ) (modifier : Modifier) → length prcs ≤ most → most ≤ 16384 →
    NamesModifier prcs prm modifier → prm < 2 ^ 16
prm_small prcs prm most modifier few low (inl none) = let z = none.0 in omega arith
prm_small prcs prm most modifier few low (inr prc) =
    let is = prc.1.0 in
    let within = slice_get_within prcs prc.0 modifier prc.1.1 in
    omega arith

len_at : (pieces : List TextPiece) (k : ℕ) (piece : TextPiece) → slice_get pieces k ≡ Some piece →
    get_or (lens pieces) k piece.len ≡ piece.len
len_at pieces k piece there = get_or-map (λ (p : TextPiece). p.len) pieces k piece ∙ ap (λ (p : TextPiece). p.len)
    (get_or_from_slice_get pieces k piece piece there)

-- ---- what is read of one piece

pub record Back (pieces : List TextPiece) (prcs : List Modifier) (pcds : List (List ℕ)) (k : ℕ) (piece : TextPiece) :
    Type 0 where
  pub bare : clx_piece (printed_part (lens pieces) pcds) k ≡ bare_piece piece
  pub ascends : plc_cp (printed_part (lens pieces) pcds).bytes k + piece.len ≡ plc_cp (printed_part (lens pieces)
      pcds).bytes (k + 1)
  pub prm : ℕ
  pub names : NamesModifier prcs prm piece.modifier
  pub word : pcd_prm (printed_part (lens pieces) pcds) k ≡ prm_of prm

pub piece_back : (pieces : List TextPiece) (bytes : List ℕ) (printed : IsPrintedClx pieces bytes) (k : ℕ)
    (piece : TextPiece) → ArePieces pieces → IsPrintable pieces → slice_get pieces k ≡ Some piece →
    Back pieces printed.prcs printed.pcds k piece
piece_back pieces bytes printed k piece are printable there =
    let ls = lens pieces in
    let pcds = printed.pcds in
    let part = printed_part ls pcds in
    let within = slice_get_within pieces k piece there in
    let long = length-map pieces (λ (p : TextPiece). p.len) in
    let few = printable.few in
    let most = are.total in
    let count = printed.count in
    let small : sum ls < 2 ^ 32 = omega (arith, sum-map (λ (p : TextPiece). p.len) pieces) in
    let some : 0 < length ls = omega arith in
    let each = sized pieces bytes printed in
    let pcd = printed.pcd k piece there in
    let place = subst (λ (p : TextPiece). p.at < 2 ^ 29) (get_or_from_slice_get pieces k piece piece there)
    (printable.places k piece within) in
    let word = prm_small printed.prcs pcd.prm (length pieces) piece.modifier printed.few few pcd.names in
    let read = pcd_back ls pcds k (bare_piece piece) pcd.prm some small (omega arith) (omega arith) each (omega arith)
    place word pcd.spelt in
    let cp = cp_back ls pcds k some small (omega arith) each (omega arith) in
    let next = cp_back ls pcds (k + 1) some small (omega arith) each (omega arith) in
    let more = sum_more ls k piece.len (omega arith) (len_at pieces k piece there) in
    let ascends : plc_cp part.bytes k + piece.len ≡ plc_cp part.bytes (k + 1) = omega arith in
    let len : plc_cp part.bytes (k + 1) - plc_cp part.bytes k ≡ piece.len = omega arith in
    record {
      bare = λ i. record { at = (read.0 i).at; wide = (read.0 i).wide; len = len i };
      ascends = ascends;
      prm = pcd.prm;
      names = pcd.names;
      word = ap prm_of read.1;
    }

-- ---- the Prcs

-- each fits
pub prc_fits : (pieces : List TextPiece) (m : Modifier) → IsPrintable pieces → IsPrintedPrc pieces m → FitsPages m
prc_fits pieces m printable prc =
    let k = prc.used.0 in
    let d : TextPiece = record { at = 0; wide = true; len = 0; modifier = m } in
    let low : k < length pieces = let within = prc.used.1 in omega (
      arith,
      length-map pieces (λ (p : TextPiece).
          p.modifier),
    ) in
    let is : (get_or pieces k d).modifier ≡ m = sym (get_or-map (λ (p : TextPiece). p.modifier) pieces k d) ∙
    prc.used.2 in
    subst FitsPages is (printable.fit k d low)

pub prc_at : (pieces : List TextPiece) (prcs : List Modifier) (k : ℕ) (m : Modifier) → All (IsPrintedPrc pieces)
    prcs → slice_get prcs k ≡ Some m → IsPrintedPrc pieces m
prc_at pieces prcs k m each there = subst (IsPrintedPrc pieces) (get_or_from_slice_get prcs k m m there)
    (each k m (slice_get_within prcs k m there))

-- the list of one
list_at : (prcs : List Modifier) (k : ℕ) (m : Modifier) → slice_get prcs k ≡ Some m → slice_get (map printed_modifier
    prcs) k ≡ Some (printed_modifier m)
list_at prcs k m there = slice_get-map printed_modifier prcs k ∙ ap (λ o. option_map printed_modifier o) there

-- and the modifier of a list
pub modifier_at : (prcs : List Modifier) (k : ℕ) (grpprl : List ℕ) → slice_get (map printed_modifier prcs) k ≡ Some
    grpprl → (m : Modifier) × ((slice_get prcs k ≡ Some m) × (grpprl ≡ printed_modifier m))
modifier_at prcs k grpprl there =
    let m = get_or prcs k no_modifier in
    let within = slice_get_within (map printed_modifier prcs) k grpprl there in
    let low : k < length prcs = omega (arith, length-map prcs printed_modifier) in
    let is : slice_get prcs k ≡ Some m = slice_get-get_or prcs k no_modifier low in (
      m,
      (
        is,
        sym (get_or_from_slice_get (map printed_modifier prcs) k grpprl [] there) ∙ get_or_from_slice_get
            (map printed_modifier prcs) k (printed_modifier m) [] (list_at prcs k m is),
      ),
    )

pub prc_sizes : (pieces : List TextPiece) (prcs : List Modifier) → IsPrintable pieces → All (IsPrintedPrc pieces)
    prcs → All IsGrpprl (map printed_modifier prcs)
prc_sizes pieces prcs printable each = λ k d low.
    let found = modifier_at prcs k (get_or (map printed_modifier prcs) k d) (slice_get-get_or (map printed_modifier
    prcs) k d low) in
    let short = printed_short found.0 (prc_fits pieces found.0 printable (prc_at pieces prcs k found.0 each
    found.1.0)) in
    subst IsGrpprl (sym found.1.1) (omega arith)

pub prcs_accepted : (pieces : List TextPiece) (prcs : List Modifier) (pcds : List (List ℕ)) →
    All (IsPrintedPrc pieces) prcs → AreAccepted (parts_of pieces prcs pcds) (length (map printed_modifier prcs))
prcs_accepted pieces prcs pcds each = λ number grpprl low named there.
    let found = modifier_at prcs number grpprl there in
    let prc = prc_at pieces prcs number found.0 each found.1.0 in
    subst (λ g. IsAcceptedList g prc_groups) (sym found.1.1) prc.accepted

pub joined_prcs : (prcs : List Modifier) → printed_prcs prcs ≡ flat_map prc_bytes (map printed_modifier prcs)
joined_prcs [] = refl
joined_prcs (m ∷ prcs) = ap (λ l. prc_bytes (printed_modifier m) ++ l) (joined_prcs prcs)

-- the modifier of a Prc is read back
pub prc_does : (pieces : List TextPiece) (prcs : List Modifier) (k : ℕ) (m : Modifier) → IsPrintedPrc pieces m →
    slice_get prcs k ≡ Some m → IsPrmModifier (map printed_modifier prcs) (Prc k) m
prc_does pieces prcs k m prc there =
    let accepted = prc.accepted in
    record {
      sprms = accepted.list;
      named = (printed_modifier m, (list_at prcs k m there, accepted.spelt));
      does = prc.back accepted.list accepted.spelt;
    }

pub names_does : (pieces : List TextPiece) (prcs : List Modifier) (prm : ℕ) (m : Modifier) → All (IsPrintedPrc pieces)
    prcs → NamesModifier prcs prm m → IsPrmModifier (map printed_modifier prcs) (prm_of prm) m
names_does pieces prcs prm m each (inl none) =
    let nothing : IsPrmModifier (map printed_modifier prcs) (prm_of 0) no_modifier = record {
      sprms = [];
      named = refl;
      does = none_does;
    } in
    subst (λ n. IsPrmModifier (map printed_modifier prcs) (prm_of n) m) (sym none.0)
    (subst (IsPrmModifier (map printed_modifier prcs) (prm_of 0)) (sym none.1) nothing)
names_does pieces prcs prm m each (inr prc) =
    let word : prm_of prm ≡ Prc prc.0 = ap prm_of prc.1.0 ∙ prm_of_prc prc.0 in
    subst (λ p. IsPrmModifier (map printed_modifier prcs) p m) (sym word) (prc_does pieces prcs prc.0 m (prc_at pieces
    prcs prc.0 m each prc.1.1) prc.1.1)

pub names_read : (prcs : List Modifier) (prm : ℕ) (m : Modifier) → NamesModifier prcs prm m →
    IsReadPrm (length (map printed_modifier prcs)) (prm_of prm)
names_read prcs prm m (inl none) = subst (λ n. IsReadPrm (length (map printed_modifier prcs)) (prm_of n)) (sym none.0)
    tt
names_read prcs prm m (inr prc) =
    let word : prm_of prm ≡ Prc prc.0 = ap prm_of prc.1.0 ∙ prm_of_prc prc.0 in
    let within = slice_get_within prcs prc.0 m prc.1.1 in
    subst (IsReadPrm (length (map printed_modifier prcs))) (sym word) (omega (arith, length-map prcs printed_modifier))
