-- The parts of a Clx are the only ones, and the walk over its Prcs finds them.
use Rattle.std.proofs.Common.{◌≡◌, ℕ, suc, ◌+◌, ◌-◌, ◌≤◌, List, [], ◌∷◌, ◌++◌, length, take, drop, flat_map, All}
use Rattle.std.proofs.Common.{refl, sym, ap, ◌∙◌, subst, drop-drop, arith, append_assoc, length-append, length-drop}
use Rattle.std.proofs.lemmas.List.{append-nil}
use Rattle.std.proofs.lemmas.Grind.{flat_map-append}
use Rattle.std.proofs.lemmas.List.Elements.{All-push}
use Rattle.doc_bits.specs.Rules.{IsLeast, Nowhere}
use Rattle.doc_bits.specs.Number.{u32_at}
use Rattle.std.specs.Prelude.{slice_range}
use Rattle.doc_bits.specs.Plc.{PlcPart, IsPlcOf}
use Rattle.piece_table.specs.Clx.{prc_bytes, pcdt_bytes, IsGrpprl, IsPlcPcd, BeginsPrc, BeginsPcdt, ClxParts}
use Rattle.piece_table.specs.Clx.{SpellsClx, IsWrongClxAt}
use Rattle.piece_table.specs.Front.{IsPrcFront, IsPcdtFront, ArePrcs, AreAllPrcs, AreClxParts}
use Rattle.doc_bits.specs.Number.{AreBytes}
use Rattle.doc_bits.proofs.Public.{AreBytes-drop}
use Rattle.piece_table.proofs.ByteLemmas.{front_spelt, spelt_front, spelt_body, sized_unique}

pub prc_unique : (a b x y : List ℕ) → IsGrpprl a → IsGrpprl b → prc_bytes a ++ x ≡ prc_bytes b ++ y → (a ≡ b) × (x ≡ y)
prc_unique a b x y short_a short_b e = sized_unique 1 2 a b x y (omega arith) (omega arith) e

-- the Prcs up to where none follows are the only ones
pub prcs_unique : (a b : List (List ℕ)) (x y : List ℕ) → All IsGrpprl a → All IsGrpprl b → flat_map prc_bytes a ++ x ≡
    flat_map prc_bytes b ++ y → ¬ (BeginsPrc x) → ¬ (BeginsPrc y) → (a ≡ b) × (x ≡ y)
prcs_unique [] [] x y short_a short_b e none_x none_y = (refl, e)
prcs_unique [] (q ∷ b) x y short_a short_b e none_x none_y =
    absurd (none_x (record {
      grpprl = q;
      more = flat_map prc_bytes b ++ y;
      size = short_b 0 [] (omega arith);
      spelt = e ∙ append_assoc (prc_bytes q) (flat_map prc_bytes b) y;
    }))
prcs_unique (p ∷ a) [] x y short_a short_b e none_x none_y =
    absurd (none_y (record {
      grpprl = p;
      more = flat_map prc_bytes a ++ x;
      size = short_a 0 [] (omega arith);
      spelt = sym e ∙ append_assoc (prc_bytes p) (flat_map prc_bytes a) x;
    }))
prcs_unique (p ∷ a) (q ∷ b) x y short_a short_b e none_x none_y =
    let apart : prc_bytes p ++ (flat_map prc_bytes a ++ x) ≡ prc_bytes q ++ (flat_map prc_bytes b ++ y) =
    sym (append_assoc (prc_bytes p) (flat_map prc_bytes a) x) ∙ (e ∙ append_assoc (prc_bytes q) (flat_map prc_bytes b)
    y) in
    let first = prc_unique p q (flat_map prc_bytes a ++ x) (flat_map prc_bytes b ++ y) (short_a 0 [] (omega arith))
    (short_b 0 [] (omega arith)) apart in
    let rest = prcs_unique a b x y (λ k d low. short_a (suc k) d (omega arith)) (λ k d low. short_b (suc k) d
    (omega arith)) first.1 none_x none_y in
    (cc (first.0, rest.0), rest.1)

-- a Pcdt is no Prc
pub pcdt_no_prc : (plc more : List ℕ) → ¬ (BeginsPrc (pcdt_bytes plc ++ more))
pcdt_no_prc plc more prc = let e = prc.spelt in cc

-- records by their fields
plc_of_fields : (bytes : List ℕ) (size count : ℕ) (q : PlcPart) → bytes ≡ q.bytes → size ≡ q.size → count ≡ q.count →
    record { bytes = bytes; size = size; count = count } ≡ q
plc_of_fields bytes size count q e f g = rw (e, f, g) refl

parts_of_fields : (prcs : List (List ℕ)) (plc : PlcPart) (q : ClxParts) → prcs ≡ q.prcs → plc ≡ q.plc →
    record { prcs = prcs; plc = plc } ≡ q
parts_of_fields prcs plc q e f = rw (e, f) refl

-- tables of the same bytes are the same
pub plc_same : (p q : PlcPart) → IsPlcPcd p → IsPlcPcd q → p.bytes ≡ q.bytes → p ≡ q
plc_same p q is_p is_q e =
    let table_p = is_p.table in
    let table_q = is_q.table in
    let count : p.count ≡ q.count = omega (arith, ap length e) in
    let size : p.size ≡ q.size = is_p.size ∙ sym is_q.size in
    plc_of_fields p.bytes p.size p.count q e size count

-- the parts of a Clx are the only ones
pub parts_unique : (clx : List ℕ) (p q : ClxParts) → SpellsClx clx p → SpellsClx clx q → p ≡ q
parts_unique clx p q is_p is_q =
    let x = pcdt_bytes p.plc.bytes ++ is_p.more in
    let y = pcdt_bytes q.plc.bytes ++ is_q.more in
    let same = prcs_unique p.prcs q.prcs x y is_p.sizes is_q.sizes (sym is_p.spelt ∙ is_q.spelt) (pcdt_no_prc
    p.plc.bytes is_p.more) (pcdt_no_prc q.plc.bytes is_q.more) in
    let fits_p = is_p.table.fits in
    let fits_q = is_q.table.fits in
    let plcs = sized_unique 2 4 p.plc.bytes q.plc.bytes is_p.more is_q.more fits_p fits_q same.1 in
    parts_of_fields p.prcs p.plc q same.0 (plc_same p.plc q.plc is_p.table is_q.table plcs.0)

-- a Prc at the front, and what is read of it
pub prc_of_front : (bytes : List ℕ) (size : ℕ) → AreBytes bytes → IsPrcFront bytes size →
    (length (take size (drop 3 bytes)) ≡ size) × (bytes ≡ prc_bytes (take size (drop 3 bytes)) ++ drop size
    (drop 3 bytes))
prc_of_front bytes size are front = let within = front.within in front_spelt 1 2 size bytes are (omega arith)
    front.clxt front.count

pub front_of_prc : (bytes : List ℕ) → ((size : ℕ) → ¬ (IsPrcFront bytes size)) → ¬ (BeginsPrc bytes)
front_of_prc bytes none prc =
    let short = prc.size in
    let read = spelt_front 1 2 prc.grpprl prc.more bytes (omega arith) prc.spelt in
    let within = read.1.1 in
    none (length prc.grpprl) (record { clxt = read.0; count = read.1.0; most = short; within = omega arith })

-- one Prc more
pub prcs_more : (clx : List ℕ) (prcs : List (List ℕ)) (at size : ℕ) → AreBytes clx → ArePrcs clx prcs at →
    IsPrcFront (drop at clx) size → ArePrcs clx (prcs ++ slice_range clx (at + 3) (at + 3 + size) ∷ []) (at + 3 + size)
prcs_more clx prcs at size are before front =
    let rest = drop at clx in
    let prc = prc_of_front rest size (AreBytes-drop at clx are) front in
    let most = front.most in
    let long = front.within in
    let within = before.within in
    let grpprl = take size (drop 3 rest) in
    let same : slice_range clx (at + 3) (at + 3 + size) ≡ grpprl =
    let width : at + 3 + size - (at + 3) ≡ size = omega arith in
    ap (λ n. take n (drop (at + 3) clx)) width ∙ ap (take size) (sym (drop-drop 3 at clx)) in
    let behind : drop size (drop 3 rest) ≡ drop (at + 3 + size) clx = ap (drop size) (drop-drop 3 at clx) ∙ drop-drop
    size (at + 3) clx in
    let list = prcs ++ grpprl ∷ [] in
    let end = drop (at + 3 + size) clx in
    let joined : flat_map prc_bytes list ≡ flat_map prc_bytes prcs ++ prc_bytes grpprl =
    flat_map-append prc_bytes prcs (grpprl ∷ []) ∙ ap (λ l. flat_map prc_bytes prcs ++ l)
    (append-nil (prc_bytes grpprl)) in
    let whole : clx ≡ flat_map prc_bytes prcs ++ (prc_bytes grpprl ++ end) =
    before.spelt ∙ ap (λ l. flat_map prc_bytes prcs ++ l) (prc.1 ∙ ap (λ l. prc_bytes grpprl ++ l) behind) in
    let short : IsGrpprl grpprl = omega (arith, prc.0) in
    let more : ArePrcs clx list (at + 3 + size) = record {
      sizes = All-push IsGrpprl prcs grpprl before.sizes short;
      spelt = whole ∙ (sym (append_assoc (flat_map prc_bytes prcs) (prc_bytes grpprl) end) ∙ ap (λ l. l ++ end)
          (sym joined));
      within = omega (arith, length-drop at clx);
    } in
    subst (λ g. ArePrcs clx (prcs ++ g ∷ []) (at + 3 + size)) (sym same) more

-- where the rest begins
pub prcs_place : (clx : List ℕ) (prcs : List (List ℕ)) (at : ℕ) → ArePrcs clx prcs at →
    at ≡ length (flat_map prc_bytes prcs)
prcs_place clx prcs at are =
    let within = are.within in
    omega (arith, ap length are.spelt, length-append (flat_map prc_bytes prcs) (drop at clx), length-drop at clx)

-- a Pcdt at the front
pub pcdt_of_front : (bytes : List ℕ) (plc : PlcPart) → AreBytes bytes → IsPcdtFront bytes plc → bytes ≡ pcdt_bytes
    plc.bytes ++ drop (length plc.bytes) (drop 5 bytes)
pcdt_of_front bytes plc are front =
    let within = front.within in
    let spelt = front_spelt 2 4 (length plc.bytes) bytes are (omega arith) front.clxt front.lcb in
    let size : 5 + length plc.bytes - 5 ≡ length plc.bytes = omega arith in
    let body : take (length plc.bytes) (drop 5 bytes) ≡ plc.bytes = sym (front.bytes_are ∙ ap (λ n. take n
    (drop 5 bytes)) size) in
    subst (λ body. bytes ≡ pcdt_bytes body ++ drop (length plc.bytes) (drop 5 bytes)) body spelt.1

pub front_of_pcdt : (bytes : List ℕ) → ((plc : PlcPart) → ¬ (IsPcdtFront bytes plc)) → ¬ (BeginsPcdt bytes)
front_of_pcdt bytes none pcdt =
    let fits = pcdt.table.fits in
    let read = spelt_front 2 4 pcdt.plc.bytes pcdt.more bytes fits pcdt.spelt in
    let within = read.1.1 in
    let size : 5 + length pcdt.plc.bytes - 5 ≡ length pcdt.plc.bytes = omega arith in
    let body = spelt_body 2 4 pcdt.plc.bytes pcdt.more bytes pcdt.spelt in
    none pcdt.plc (record {
      clxt = read.0;
      lcb = read.1.0;
      within = omega arith;
      bytes_are = sym
          (ap (λ n. take n (drop 5 bytes)) size ∙ body);
      table = pcdt.table;
    })

-- where a Clx is spelled nothing is wrong
pub spells_no_wrong : (clx : List ℕ) (parts : ClxParts) → SpellsClx clx parts → Nowhere (IsWrongClxAt clx)
spells_no_wrong clx parts spells = λ p wrong.
    let pcdt = pcdt_bytes parts.plc.bytes ++ spells.more in
    let same = prcs_unique parts.prcs wrong.prcs pcdt wrong.left spells.sizes wrong.sizes (sym spells.spelt ∙
    wrong.spelt) (pcdt_no_prc parts.plc.bytes spells.more) wrong.no_prc in
    wrong.no_pcdt (record { plc = parts.plc; more = spells.more; table = spells.table; spelt = sym same.1 })

-- a Pcdt follows the Prcs
pub parts_found : (clx : List ℕ) (prcs : List (List ℕ)) (at : ℕ) (plc : PlcPart) → AreBytes clx → ArePrcs clx prcs
    at → IsPcdtFront (drop at clx) plc → Nowhere (IsWrongClxAt clx) × AreClxParts clx (record {
      prcs = prcs;
      plc = plc;
    })
    (at + 5)
parts_found clx prcs at plc bytes are front =
    let rest = drop at clx in
    let pcdt = pcdt_of_front rest plc (AreBytes-drop at clx bytes) front in
    let more = drop (length plc.bytes) (drop 5 rest) in
    let parts : ClxParts = record { prcs = prcs; plc = plc } in
    let spells : SpellsClx clx parts = record {
      more = more;
      sizes = are.sizes;
      table = front.table;
      spelt = are.spelt
          ∙ ap (λ l. flat_map prc_bytes prcs ++ l) pcdt;
    } in (
      spells_no_wrong clx parts spells,
      record {
        spelt = spells;
        place_is = ap (λ n. n + 5) (prcs_place clx prcs at
            are);
      },
    )

-- neither a Prc nor a Pcdt follows them
pub parts_wrong : (clx : List ℕ) (prcs : List (List ℕ)) (at : ℕ) → AreAllPrcs clx prcs at → ((plc : PlcPart) →
    ¬ (IsPcdtFront (drop at clx) plc)) → IsLeast (λ a b. a ≤ b) (IsWrongClxAt clx) at
parts_wrong clx prcs at all none_pcdt =
    let are = all.are in
    let no_prc = front_of_prc (drop at clx) all.none in
    let here = prcs_place clx prcs at are in
    record {
      broken = record {
        prcs = prcs;
        left = drop at clx;
        sizes = are.sizes;
        spelt = are.spelt;
        here = here;
        no_prc = no_prc;
        no_pcdt = front_of_pcdt (drop at clx) none_pcdt;
      };
      least = λ p other.
          let same = prcs_unique prcs other.prcs (drop at clx) other.left are.sizes other.sizes (sym are.spelt ∙
          other.spelt) no_prc other.no_prc in
          let place : p ≡ at = other.here ∙ (ap (λ l. length (flat_map prc_bytes l)) (sym same.0) ∙ sym here) in
          omega arith;
    }

-- a Pcdt at the front has a table of that size
pub pcdt_table : (bytes : List ℕ) (size : ℕ) (plc : PlcPart) → size ≡ u32_at bytes 1 → IsPcdtFront bytes plc →
    IsPlcOf (slice_range bytes 5 (5 + size)) 8 plc.count
pcdt_table bytes size plc is front =
    let range : plc.bytes ≡ slice_range bytes 5 (5 + size) = front.bytes_are ∙ ap (λ n. slice_range bytes 5 (5 + n))
    (sym front.lcb ∙ sym is) in
    subst (λ l. IsPlcOf l 8 plc.count) range front.table.table
