-- The rules on the pieces of a file that docbin accepts, 26 to 32, hold of what is read in place of its table stream.
use Rattle.std.specs.Prelude.{slice_index, slice_range, flat_map}
use Rattle.std.proofs.Common.{◌≡◌, ◌∙◌, sym, ap, subst, refl, inl, inr, ℕ, ◌+◌, ◌*◌, ◌<◌, ◌≤◌, List, [], ◌∷◌}
use Rattle.std.proofs.Common.{◌++◌, length, map, arith}
use Rattle.std.proofs.lemmas.Bool.{cases_eq}
use Rattle.std.proofs.lemmas.List.{length-append}
use Rattle.std.proofs.lemmas.Option.{get_or_from_slice_get}
use Rattle.doc_bits.specs.declared.places.Where.TheVariants.{Wd, Table}
use Rattle.doc_bits.specs.Rules.{Hold, Nowhere, Among, From, rule}
use Rattle.doc_bits.specs.Plc.{PlcPart}
use Rattle.doc_bits.proofs.Public.{there_is, get-map, hold_in}
use Rattle.sprm_table.specs.Sprm.{HasSprmFaultAt}
use Rattle.prop_map.specs.Formed.{prc_groups}
use Rattle.prl_skips.proofs.Public.{right_skips}
use Rattle.part_skips.specs.Prcs.{AreListsSkipped, SkipsPrcs}
use Rattle.part_skips.proofs.Public.{prcs_length, made_sizes, prc_before}
use Rattle.fib_form.specs.declared.form.Form.TheVariants.{Early}
use Rattle.fib_form.specs.declared.table_parts.TablePart.{TablePart}
use Rattle.fib_form.specs.declared.table_parts.TablePart.TheVariants.{Stshf, PlcffndRef, PlcffndTxt, PlcfSed, PlcfHdd}
use Rattle.fib_form.specs.declared.table_parts.TablePart.TheVariants.{PlcfBteChpx, PlcfBtePapx, SttbfFfn, PlcfFldMom}
use Rattle.fib_form.specs.declared.table_parts.TablePart.TheVariants.{PlcfFldHdr, PlcfFldFtn, Dop, SttbfAssoc, Clx}
use Rattle.fib_form.specs.declared.table_parts.TablePart.TheVariants.{PlfLst, PlfLfo}
use Rattle.fib_form.specs.Fib.{CcpAtn, field_offset, fib_pair, fib_size, form_size}
use Rattle.fib_form.specs.FibFields.{FibFields, fib_fields, listed_pair, text_length}
use Rattle.fib_form.specs.FibRules.{HasOtherStory}
use Rattle.fib_form.specs.TableParts.{pair_number}
use Rattle.fib_versions.specs.Early.{early_pairs, early_fields}
use Rattle.fib_versions.specs.Versions.{further_ccp, all_text_length}
use Rattle.piece_table.specs.declared.pcd.Prm.TheVariants.{Prc}
use Rattle.piece_table.specs.Clx.{ClxParts, IsWrongClxAt, BeginsPcdt, prc_bytes, pcdt_bytes}
use Rattle.piece_table.specs.declared.pieces.Piece.{Piece}
use Rattle.piece_table.specs.Piece.{piece_end}
use Rattle.piece_table.specs.Clx.{prc_place, plc_place, clx_piece, pcd_prm}
use Rattle.piece_table.specs.declared.pieces.TextBounds.{TextBounds}
use Rattle.piece_table.specs.ClxRules.{LeavesStream, IsFaultyPrc, IsLongPrc, piece_rules}
use Rattle.piece_table.specs.ClxRules.{parts_rules, clx_rules, text_bounds}
use Rattle.piece_table.proofs.Public.{prcs_unique, pcdt_no_prc}
use Rattle.file_rules.specs.PairRules.{BreaksPairs, IsWrongPart, read_pairs}
use Rattle.file_rules.specs.FileRules.{clx_of, rules_of_pieces, table_rules}
use Rattle.file_rules.proofs.Public.{hold_out}
use Rattle.doc_meaning.specs.Apart.{ReadsClx, clx_from, clx_to}
use Rattle.doc_meaning.proofs.Public.{clx_there, clx_table_len, pair_same, early_part}
use Rattle.doc_lift.specs.LiftedRules.{lifted_wd}
use Rattle.doc_lift.proofs.Public.{length-lifted_wd}

-- ---- pairs

abbrev read_parts : List TablePart
read_parts = Stshf ∷ PlcffndRef ∷ PlcffndTxt ∷ PlcfSed ∷ PlcfHdd ∷ PlcfBteChpx ∷ PlcfBtePapx ∷ SttbfFfn ∷ PlcfFldMom ∷ PlcfFldHdr ∷ PlcfFldFtn ∷ Dop ∷ SttbfAssoc ∷ Clx ∷ PlfLst ∷ PlfLfo ∷ []

read_pair : (wd : List ℕ) (k : ℕ) → k < 16 → fib_fields (lifted_wd wd) ≡ early_fields wd (early_pairs wd) →
    fib_pair (lifted_wd wd) (slice_index read_pairs k) ≡ fib_pair wd (slice_index read_pairs k)
read_pair wd k low fields =
    let found = there_is read_parts k low in
    let here : slice_index read_pairs k ≡ pair_number found.0 =
    get_or_from_slice_get read_pairs k (pair_number found.0) 0 (get-map pair_number read_parts k found.0 found.1) in
    subst (λ n. fib_pair (lifted_wd wd) n ≡ fib_pair wd n) (sym here) (pair_same wd (lifted_wd wd) found.0 fields)

pairs_hold : (wd : List ℕ) (len new_len : ℕ) → fib_fields (lifted_wd wd) ≡ early_fields wd (early_pairs wd) →
    new_len ≡ len → Nowhere (BreaksPairs wd len) → Nowhere (BreaksPairs (lifted_wd wd) new_len)
pairs_hold wd len new_len fields same none = λ p broken.
    let k = broken.entry in
    let n = slice_index read_pairs k in
    let wrong : IsWrongPart (fib_pair (lifted_wd wd) n) n len =
    subst (IsWrongPart (fib_pair (lifted_wd wd) n) n) same broken.broken.1 in
    none p (record {
      entry = k;
      below = broken.below;
      broken = (
        broken.broken.0,
        subst (λ (q : ℕ × ℕ). IsWrongPart q n len) (read_pair wd k broken.below fields) wrong,
      );
    })

-- ---- CPs

pub no_further : (wd : List ℕ) → Nowhere (Among 4 (HasOtherStory wd)) → (k : ℕ) → k < 4 → further_ccp wd k ≡ 0
no_further wd stories k low = elim (cases_eq (further_ccp wd k) 0) [
  | inl same ↦ same
  | inr some ↦
      absurd (stories (field_offset CcpAtn + 4 * k) (record { entry = k; below = low; broken = (refl, some) }))
]

same_len : (wd : List ℕ) → Nowhere (Among 4 (HasOtherStory wd)) →
    text_length (fib_fields wd).ccps ≡ all_text_length wd
same_len wd stories =
    omega (
      arith,
      no_further wd stories 0 (omega arith),
      no_further wd stories 1 (omega arith),
      no_further wd stories 2 (omega arith),
      no_further wd stories 3 (omega arith),
    )

-- ---- Prcs

faulty_prcs : (old new : ClxParts) (at : ℕ) → new.plc ≡ old.plc → AreListsSkipped old.prcs new.prcs →
    Nowhere (Among (length old.prcs) (IsFaultyPrc old at)) → Nowhere (Among (length new.prcs) (IsFaultyPrc new at))
faulty_prcs old new at plc are none = λ p broken.
    let number = broken.entry in
    let faulty = broken.broken in
    let below : number < length old.prcs = omega (arith, broken.below, are.count) in
    let list = there_is old.prcs number below in
    let right : Nowhere (HasSprmFaultAt list.0 prc_groups) = λ place fault.
    none (at + (prc_place old.prcs number + 3) + place) (record {
      entry = number;
      below = below;
      broken = record {
        named = record {
          piece = faulty.named.piece;
          below = subst (λ (q : PlcPart). faulty.named.piece < q.count) plc faulty.named.below;
          names = subst (λ (q : PlcPart). pcd_prm q faulty.named.piece ≡ Prc number) plc faulty.named.names;
        };
        grpprl = list.0;
        there = list.1;
        fault = record { offset = place; here = refl; broken = fault };
      };
    }) in
    right_skips list.0 faulty.grpprl prc_groups ((are.each number list.0 faulty.grpprl list.1 faulty.there).skips)
    right faulty.fault.offset faulty.fault.broken

long_prcs : (old new : ClxParts) (at : ℕ) → new.plc ≡ old.plc → AreListsSkipped old.prcs new.prcs →
    Nowhere (Among (length old.prcs) (IsLongPrc old at)) → Nowhere (Among (length new.prcs) (IsLongPrc new at))
long_prcs old new at plc are none = λ p broken.
    let number = broken.entry in
    let long = broken.broken in
    none (at + prc_place old.prcs number) (record {
      entry = number;
      below = omega (arith, broken.below, are.count);
      broken = record {
        named = record {
          piece = long.named.piece;
          below = subst (λ (q : PlcPart). long.named.piece < q.count) plc long.named.below;
          names = subst (λ (q : PlcPart). pcd_prm q long.named.piece ≡ Prc number) plc long.named.names;
        };
        modifier = long.modifier;
        does = prc_before old.prcs new.prcs number long.modifier are long.does;
        long = long.long;
        here = refl;
      };
    })

-- ---- the Clx

-- text may begin further in front, behind a shorter FIB
piece_bounds : (plc : PlcPart) (base prcs : ℕ) (old new : TextBounds) (text_len : ℕ) → new.from ≤ old.from →
    new.end ≡ old.end → Hold (piece_rules plc base prcs old text_len) → Hold (piece_rules plc base prcs new text_len)
piece_bounds plc base prcs old new text_len from end hold = (
  hold.0,
  (
    λ p broken. hold.1.0 p (record {
      entry = broken.entry;
      below = broken.below;
      broken = (broken.broken.0, leaves (clx_piece plc broken.entry) broken.broken.1);
    }),
    hold.1.1,
  ),
)
  where
    leaves : (piece : Piece) → LeavesStream new piece → LeavesStream old piece
    leaves piece (inl before) = inl (omega (arith, before, from))
    leaves piece (inr beyond) = inr (subst (λ n. n < piece_end piece) end beyond)

-- the Prcs are as long as they were
same_place : (old new : List ℕ) (s : SkipsPrcs old new) → length (flat_map prc_bytes s.made) ≡ length (flat_map prc_bytes s.prcs)
same_place old new s =
    omega (
      arith,
      prcs_length old new s,
      ap length s.was,
      ap length s.is,
      length-append (flat_map prc_bytes s.made) s.rest,
      length-append (flat_map prc_bytes s.prcs) s.rest,
    )

skipped_clx : (old new : List ℕ) (at : ℕ) (bounds : TextBounds) (text_len : ℕ) → SkipsPrcs old new →
    Hold (clx_rules old at bounds text_len) → Hold (clx_rules new at bounds text_len)
skipped_clx old new at bounds text_len s (right, (parts, (spelt, hold))) =
    let pcdt = pcdt_bytes parts.plc.bytes ++ spelt.more in
    let sizes = made_sizes s.prcs s.made s.sizes s.skips in
    let same = prcs_unique parts.prcs s.prcs pcdt s.rest spelt.sizes s.sizes (sym spelt.spelt ∙ s.was)
    (pcdt_no_prc parts.plc.bytes spelt.more) s.no_more in
    let before : ClxParts = record { prcs = s.prcs; plc = parts.plc } in
    let after : ClxParts = record { prcs = s.made; plc = parts.plc } in
    let held : Hold (parts_rules before at bounds text_len) =
    subst (λ (prcs : List (List ℕ)). Hold (parts_rules (record { prcs = prcs; plc = parts.plc }) at bounds text_len))
    same.0 hold in
    let base : plc_place before ≡ plc_place after = ap (λ n. n + 5) (sym (same_place old new s)) in
    let count : length s.prcs ≡ length s.made = sym s.skips.count in (
      λ p wrong. no_wrong right wrong.offset wrong.broken,
      (
        after,
        (
          record {
            more = spelt.more;
            sizes = sizes;
            table = spelt.table;
            spelt = s.is ∙ ap (λ l. flat_map prc_bytes s.made ++ l) (sym same.1);
          },
          (
            subst (λ n. Hold (piece_rules parts.plc (at + plc_place after) n bounds text_len)) count
                (subst (λ n. Hold (piece_rules parts.plc (at + n) (length s.prcs) bounds text_len)) base held.0),
            (
              faulty_prcs before after at refl s.skips held.1.0,
              long_prcs before after at refl s.skips held.1.1,
            ),
          ),
        ),
      ),
    )
  where
    no_wrong : Nowhere (From at (IsWrongClxAt old)) → (offset : ℕ) → ¬ (IsWrongClxAt new offset)
    no_wrong none offset wrong =
        let same = prcs_unique s.made wrong.prcs s.rest wrong.left (made_sizes s.prcs s.made s.sizes s.skips)
        wrong.sizes (sym s.is ∙ wrong.spelt) s.no_more wrong.no_prc in
        let here = length (flat_map prc_bytes s.prcs) in
        none (at + here) (record {
          offset = here;
          here = refl;
          broken = record {
            prcs = s.prcs;
            left = s.rest;
            sizes = s.sizes;
            spelt = s.was;
            here = refl;
            no_prc = s.no_more;
            no_pcdt = subst (λ (l : List ℕ). ¬ (BeginsPcdt l)) (sym same.1) wrong.no_pcdt;
          };
        })

-- the Clx that is read
read_clx : (wd table read : List ℕ) (at : ℕ) (bounds : TextBounds) (text_len : ℕ) → ReadsClx (early_pairs wd) table read →
    Hold (clx_rules (clx_of wd table) at bounds text_len) → Hold (clx_rules (clx_of wd read) at bounds text_len)
read_clx wd table read at bounds text_len (inr stays) hold =
    subst (λ (t : List ℕ). Hold (clx_rules (clx_of wd t) at bounds text_len)) (sym stays.1) hold
read_clx wd table read at bounds text_len (inl skips) hold =
    let pairs = early_pairs wd in
    let pair : listed_pair pairs (pair_number Clx) ≡ fib_pair wd (pair_number Clx) = early_part wd Clx in
    let own : slice_range table (clx_from pairs) (clx_to pairs) ≡ clx_of wd table =
    ap (λ (p : ℕ × ℕ). slice_range table p.0 (p.0 + p.1)) pair in
    let made : slice_range read (clx_from pairs) (clx_to pairs) ≡ clx_of wd read =
    ap (λ (p : ℕ × ℕ). slice_range read p.0 (p.0 + p.1)) pair in
    let put : SkipsPrcs (clx_of wd table) (clx_of wd read) =
    subst (λ (b : List ℕ). SkipsPrcs b (clx_of wd read)) own
    (subst (SkipsPrcs (slice_range table (clx_from pairs) (clx_to pairs)))
    (sym (clx_there pairs table read skips) ∙ made) skips.puts.skips) in
    skipped_clx (clx_of wd table) (clx_of wd read) at bounds text_len put hold

clx_bounds : (clx : List ℕ) (at : ℕ) (old new : TextBounds) (text_len : ℕ) → new.from ≤ old.from →
    new.end ≡ old.end → Hold (clx_rules clx at old text_len) → Hold (clx_rules clx at new text_len)
clx_bounds clx at old new text_len from end (right, (parts, (spelt, hold))) = (
  right,
  (
    parts,
    (
      spelt,
      (
        piece_bounds parts.plc (at + plc_place parts) (length parts.prcs) old new text_len from end hold.0,
        hold.1,
      ),
    ),
  ),
)

-- ---- the table stream

pub pieces_hold : (wd table read : List ℕ) → fib_fields (lifted_wd wd) ≡ early_fields wd (early_pairs wd) →
    Nowhere (Among 4 (HasOtherStory wd)) → form_size Early ≤ fib_size wd → fib_size wd ≤ length wd →
    ReadsClx (early_pairs wd) table read → Hold (table_rules wd table) →
    Hold (rules_of_pieces (lifted_wd wd) read (all_text_length wd))
pieces_hold wd table read fields stories least long clx hold =
    let early = lifted_wd wd in
    let at = (fib_pair wd (pair_number Clx)).0 in
    let own = text_bounds (fib_size wd) (length wd) in
    let new = text_bounds (fib_size early) (length early) in
    let len = text_length (fib_fields wd).ccps in
    let pair = pair_same wd early Clx fields in
    let size : fib_size early ≡ form_size Early = ap (λ (f : FibFields). form_size f.form) fields in
    let bytes : length early ≡ length wd = length-lifted_wd wd (omega (arith, least, long)) in
    let given = hold_out Table (clx_rules (clx_of wd table) at own len) hold.1 in
    let skipped = read_clx wd table read at own len clx given in
    let bounded = clx_bounds (clx_of wd read) at own new len (omega (arith, size, least)) bytes skipped in
    let counted : Hold (clx_rules (clx_of wd read) at new (all_text_length wd)) =
    subst (λ n. Hold (clx_rules (clx_of wd read) at new n)) (same_len wd stories) bounded in
    let there : Hold (clx_rules (clx_of early read) (fib_pair early (pair_number Clx)).0 new (all_text_length wd)) =
    subst (λ (p : ℕ × ℕ). Hold (clx_rules (slice_range read p.0 (p.0 + p.1)) p.0 new (all_text_length wd)))
    (sym pair) counted in (
      λ p broken. pairs_hold wd (length table) (length read) fields (clx_table_len (early_pairs wd) table read clx)
          (hold_out Wd (rule 26 (BreaksPairs wd (length table))) hold.0) p.1 broken.1,
      hold_in Table
          (clx_rules (clx_of early read) (fib_pair early (pair_number Clx)).0 new (all_text_length wd)) there,
    )
