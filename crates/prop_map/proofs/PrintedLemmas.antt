-- The bytes of a modifier: those of its four parts, one after the other.
use Rattle.std.proofs.Common.{◌≡◌, ℕ, ◌+◌, true, List, [], ◌∷◌, ◌++◌, length, Some, refl, sym, ap, ◌∙◌, arith}
use Rattle.std.proofs.Common.{append_assoc, length-append}
use Rattle.std.proofs.lemmas.List.{append-nil}
use Rattle.std.proofs.lemmas.Grind.{flat_map-append}
use Rattle.std.specs.List.{flat_map}
use Rattle.std.specs.FinMap.{entries}
use Rattle.doc_bits.specs.Number.{number_bytes}
use Rattle.doc_bits.proofs.Public.{length-number_bytes}
use Rattle.sprm_table.specs.declared.OperandSize.TheVariants.{Fixed}
use Rattle.sprm_table.specs.Sprm.{spelling}
use Rattle.prop_map.specs.declared.modifiers.Modifier.{Modifier}
use Rattle.prop_map.specs.Printing.{printed_list}
use Rattle.prop_map.specs.Modifiers.{style_prls, clear_prls, printed_modifier}
use Rattle.prop_map.proofs.PrintLemmas.{length-spelling_of}

-- the bytes of the four parts
printed_parts : (m : Modifier) → printed_modifier m ≡ flat_map spelling (style_prls m.istd) ++ (printed_list m.pap ++
    (flat_map spelling (clear_prls m.clear) ++ printed_list m.chp))
printed_parts m =
    let style = style_prls m.istd in
    let pap = entries m.pap in
    let clear = clear_prls m.clear in
    let chp = entries m.chp in
    flat_map-append spelling style (pap ++ (clear ++ chp))
    ∙ ap (λ l. flat_map spelling style ++ l) (flat_map-append spelling pap (clear ++ chp) ∙ ap (λ l. flat_map spelling
    pap ++ l) (flat_map-append spelling clear chp))

-- the bytes as they are appended one after the other
pub printed_steps : (m : Modifier) (none one two three four : List ℕ) → none ≡ [] → one ≡ none ++ flat_map spelling
    (style_prls m.istd) → two ≡ one ++ printed_list m.pap → three ≡ two ++ flat_map spelling (clear_prls m.clear) →
    four ≡ three ++ printed_list m.chp → four ≡ printed_modifier m
printed_steps m none one two three four e f g h i =
    let style = flat_map spelling (style_prls m.istd) in
    let clear = flat_map spelling (clear_prls m.clear) in
    let all : four ≡ ((style ++ printed_list m.pap) ++ clear) ++ printed_list m.chp =
    i ∙ ap (λ l. l ++ printed_list m.chp) (h ∙ ap (λ l. l ++ clear) (g ∙ ap (λ l. l ++ printed_list m.pap)
    (f ∙ ap (λ l. l ++ style) e))) in
    all ∙ (append_assoc (style ++ printed_list m.pap) clear (printed_list m.chp) ∙ (append_assoc style (printed_list
    m.pap) (clear ++ printed_list m.chp) ∙ sym (printed_parts m)))

pub length-printed_modifier : (m : Modifier) → length (printed_modifier m) ≡ length (flat_map spelling
    (style_prls m.istd)) + (length (printed_list m.pap) + (length (flat_map spelling (clear_prls m.clear)) + length
    (printed_list m.chp)))
length-printed_modifier m = ap length (printed_parts m) ∙ simp length-append

pub length-style : (n : ℕ) → length (flat_map spelling (style_prls (Some n))) ≡ 4
length-style n =
    let one = length-spelling_of (0x4600, number_bytes 2 n) (Fixed 2) refl in
    let two = length-number_bytes 2 n in
    ap length (append-nil (spelling (0x4600, number_bytes 2 n))) ∙ omega arith

pub length-clear : length (flat_map spelling (clear_prls true)) ≡ 3
length-clear =
    let one = length-spelling_of (0x2A33, 0 ∷ []) (Fixed 1) refl in
    ap length (append-nil (spelling (0x2A33, 0 ∷ []))) ∙ omega arith
