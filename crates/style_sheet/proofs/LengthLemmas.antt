-- How long what is written is.
use Rattle.std.proofs.Common.{◌≡◌, ℕ, zero, suc, ◌+◌, ◌*◌, ◌<◌, ◌≤◌, List, [], ◌∷◌, ◌++◌, Option, Some, None, length}
use Rattle.std.proofs.Common.{slice_index_or, refl, ◌∙◌, arith, length-append, append_assoc}
use Rattle.std.specs.List.{All, flat_map}
use Rattle.std.specs.Option.{unwrap_or}
use Rattle.prop_map.specs.Settings.{Properties}
use Rattle.prop_map.specs.Printing.{printed_list}
use Rattle.style_sheet.specs.declared.styles.Style.{Style}
use Rattle.style_sheet.specs.declared.styles.Kind.TheVariants.{Para, Char}
use Rattle.style_sheet.specs.Counted.{even_up, written_counted}
use Rattle.style_sheet.specs.Written.{word, written_stk, written_base, written_upxes, written_rest, written_style}
use Rattle.style_sheet.proofs.WordLemmas.{length-word, length-words, length-written}

pub base_word : (base : Option ℕ) → unwrap_or base 4095 ≡ written_base base
base_word None = refl
base_word (Some base) = refl

pub para_len : (istd : ℕ) (pap chp : Properties) → length (flat_map written_counted (written_upxes istd (Para pap chp)))
    ≡ 2 + even_up (2 + length (printed_list pap)) + (2 + even_up (length (printed_list chp)))
para_len istd pap chp =
    let first = word istd ++ printed_list pap in
    let second = printed_list chp in
    let a = length-append (written_counted first) (flat_map written_counted (second ∷ [])) in
    let b = length-append {A = ℕ} (written_counted second) [] in
    let w = length-written first in
    let v = length-written second in
    let n = length-append (word istd) (printed_list pap) in
    let two = length-word istd in
    omega arith

pub char_len : (istd : ℕ) (chp : Properties) → length (flat_map written_counted (written_upxes istd (Char chp))) ≡ 2 +
    even_up (length (printed_list chp))
char_len istd chp =
    let b = length-append {A = ℕ} (written_counted (printed_list chp)) [] in
    let v = length-written (printed_list chp) in
    omega arith

pub rest_len : (istd : ℕ) (style : Style) → length (written_rest istd style) ≡ 4 + 2 * length style.name + length
    (flat_map written_counted (written_upxes istd style.kind))
rest_len istd style =
    let upxes = flat_map written_counted (written_upxes istd style.kind) in
    let a = length-append (word (length style.name)) (flat_map word style.name ++ (word 0 ++ upxes)) in
    let b = length-append (flat_map word style.name) (word 0 ++ upxes) in
    let d = length-append (word 0) upxes in
    let x = length-word (length style.name) in
    let y = length-words style.name in
    let z = length-word 0 in
    omega arith

pub style_len : (istd : ℕ) (style : Style) → length (written_style istd style) ≡ 10 + length (written_rest istd style)
style_len istd style =
    let rest = written_rest istd style in
    let w0 = word (style.sti + 4096 * style.flags) in
    let w1 = word (written_stk style.kind + 16 * written_base style.base) in
    let w2 = word (length (written_upxes istd style.kind) + 16 * style.next) in
    let w3 = word (10 + length rest) in
    let w4 = word style.grfstd in
    let a = length-append w0 (w1 ++ (w2 ++ (w3 ++ (w4 ++ rest)))) in
    let b = length-append w1 (w2 ++ (w3 ++ (w4 ++ rest))) in
    let d = length-append w2 (w3 ++ (w4 ++ rest)) in
    let e = length-append w3 (w4 ++ rest) in
    let f = length-append w4 rest in
    let l0 = length-word (style.sti + 4096 * style.flags) in
    let l1 = length-word (written_stk style.kind + 16 * written_base style.base) in
    let l2 = length-word (length (written_upxes istd style.kind) + 16 * style.next) in
    let l3 = length-word (10 + length rest) in
    let l4 = length-word style.grfstd in
    omega arith

-- each of several items is no longer than all of them written
pub item_len : (items : List (List ℕ)) (k : ℕ) (d : List ℕ) → k < length items → length (slice_index_or items k d) ≤
    length (flat_map written_counted items)
item_len [] k d h = absurd (omega arith)
item_len (x ∷ xs) zero d h =
    let a = length-append (written_counted x) (flat_map written_counted xs) in
    let w = length-written x in
    omega arith
item_len (x ∷ xs) (suc k) d h =
    let a = length-append (written_counted x) (flat_map written_counted xs) in
    let ih = item_len xs k d (omega arith) in
    omega arith

pub items_short : (items : List (List ℕ)) → length (flat_map written_counted items) < 65536 →
    All (λ item. length item < 65536) items
items_short items h = λ k d below. let le = item_len items k d below in omega arith

-- the fields of an STD in their order
pub style_pushed : (istd : ℕ) (style : Style) (first second third len : ℕ) (bytes : List ℕ) →
    first ≡ style.sti + 4096 * style.flags → second ≡ written_stk style.kind + 16 * written_base style.base →
    third ≡ length (written_upxes istd style.kind) + 16 * style.next → len ≡ length (written_style istd style) →
    bytes ≡ (((((((word first ++ word second) ++ word third) ++ word len) ++ word style.grfstd) ++ word
    (length style.name)) ++ flat_map word style.name) ++ word 0) ++ flat_map written_counted (written_upxes istd
    style.kind) →
    bytes ≡ written_style istd style
style_pushed istd style first second third len bytes a b d e pushed =
    pushed ∙ rw (a, b, d, e, style_len istd style) (simp append_assoc)
