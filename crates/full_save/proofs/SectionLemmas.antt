-- Sepxes and Seds that are made as the items of a main text are gone through.
use Rattle.std.proofs.Common.{◌≡◌, ◌<◌, ◌≤◌, ◌+◌, ◌∙◌, ap, sym, ℕ, List, [], ◌∷◌, ◌++◌, length, drop}
use Rattle.std.proofs.Common.{get_or, Option, Some, None, arith}
use Rattle.std.proofs.lemmas.List.{append_assoc, length-append, append-nil, drop_all}
use Rattle.prop_map.specs.Settings.{Properties}
use Rattle.doc_parts.specs.declared.lists.Sed.{Sed}
use Rattle.doc_model.specs.declared.item.Item.{Item}
use Rattle.doc_model.specs.Collected.{collected, entry_before, sections_of}
pub use Rattle.full_save.specs.Sections.{SectionsSoFar}
use Rattle.full_save.specs.Sections.{sepx_bytes, sepxes, fc_sepx, seds_from, SectionsSoFar, left_from, AreSepxesUpTo}
use Rattle.full_save.proofs.ListLemmas.{drop_here}

pub left_here : (main : List Item) (cp : ℕ) (d : Item) → cp < length main →
    left_from main cp ≡ entry_before (get_or main cp d).sect cp (left_from main (cp + 1))
unfolding collected
left_here main cp d h = ap (λ (rest : List Item). collected (λ item. item.sect) cp rest) (drop_here main cp d h)

pub sepxes_skip :
    (main : List Item) (base : ℕ) (old : List ℕ) (cp : ℕ) (d : Item) (so : SectionsSoFar) → cp < length main →
    (get_or main cp d).sect ≡ None → AreSepxesUpTo main base old cp so → AreSepxesUpTo main base old (cp + 1) so
sepxes_skip main base old cp d so h none are =
    let rest = left_from main (cp + 1) in
    let same = sym (left_here main cp d h ∙ ap (λ (o : Option Properties). entry_before o cp rest) none)
    in
    let few = are.few in
    record {
      bytes = ap (λ (rest : List (ℕ × Properties)). so.out ++ sepxes rest) same ∙ are.bytes;
      places = ap (λ (rest : List (ℕ × Properties)). so.seds ++ seds_from so.start (base + length so.out) rest) same ∙
          are.places;
      few = omega arith;
    }

pub sepxes_more :
    (main : List Item) (base : ℕ) (old : List ℕ) (cp : ℕ) (d : Item) (properties : Properties) (so new : SectionsSoFar)
    →
    cp < length main → (get_or main cp d).sect ≡ Some properties → length (sepx_bytes properties) ≤ 504 →
    new.out ≡ so.out ++ sepx_bytes properties →
    new.seds ≡ so.seds ++ (record { start = so.start; sepx = fc_sepx (base + length so.out) properties }) ∷ [] →
    new.start ≡ cp + 1 → AreSepxesUpTo main base old cp so → AreSepxesUpTo main base old (cp + 1) new
unfolding seds_from
sepxes_more main base old cp d properties so new h has short out seds start are =
    let rest = left_from main (cp + 1) in
    let same = sym (left_here main cp d h ∙ ap (λ (o : Option Properties). entry_before o cp rest) has) in
    let sed : Sed = record { start = so.start; sepx = fc_sepx (base + length so.out) properties } in
    let few = are.few in
    let grown = ap length out ∙ length-append so.out (sepx_bytes properties) in
    let place : base + length new.out ≡ base + length so.out + length (sepx_bytes properties) = omega arith in
    record {
      bytes =
          ap (λ (bytes : List ℕ). bytes ++ sepxes rest) out
          ∙ (append_assoc so.out (sepx_bytes properties) (sepxes rest)
          ∙ (ap (λ (all : List (ℕ × Properties)). so.out ++ sepxes all) same ∙ are.bytes));
      places =
          ap (λ (list : List Sed). list ++ seds_from new.start (base + length new.out) rest) seds
          ∙ (append_assoc so.seds (sed ∷ []) (seds_from new.start (base + length new.out) rest)
          ∙ (ap (λ (n : ℕ). so.seds ++ (sed ∷ seds_from n (base + length new.out) rest)) start
          ∙ (ap (λ (n : ℕ). so.seds ++ (sed ∷ seds_from (cp + 1) n rest)) place
          ∙ (ap (λ (all : List (ℕ × Properties)). so.seds ++ seds_from so.start (base + length so.out) all) same ∙
          are.places))));
      few = omega arith;
    }

pub sepxes_all :
    (main : List Item) (base : ℕ) (old : List ℕ) (cp : ℕ) (so : SectionsSoFar) → length main ≤ cp →
    AreSepxesUpTo main base old cp so →
    (so.out ≡ old ++ sepxes (sections_of main)) × (so.seds ≡ seds_from 0 (base + length old) (sections_of main))
unfolding collected seds_from
sepxes_all main base old cp so h are =
    let none : drop cp main ≡ [] = drop_all cp main h in
    let nothing = ap (λ (items : List Item). collected (λ item. item.sect) cp items) none in (
      sym (append-nil so.out) ∙ (ap (λ (all : List (ℕ × Properties)). so.out ++ sepxes all) (sym nothing) ∙ are.bytes),
      sym (append-nil so.seds)
          ∙ (ap (λ (all : List (ℕ × Properties)). so.seds ++ seds_from so.start (base + length so.out) all)
          (sym nothing) ∙ are.places),
    )
