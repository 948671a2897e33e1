-- A label is put unit by unit.
use Rattle.std.proofs.Common.{◌≡◌, ◌∙◌, ℕ, ◌+◌, ◌≤◌, Bool, true, false, List, [], ◌∷◌, ◌++◌, length, drop, refl, sym, ap}
use Rattle.std.proofs.Common.{append_assoc, append-nil, subst, Option, Some, None}
use Rattle.std.specs.Prelude.{if◌then◌else◌, slice_get}
use Rattle.std.specs.List.{cons_option, filter_map}
use Rattle.std.proofs.Math.ListN.{drop_of_length-le}
use Rattle.text_codes.specs.Shown.{is_pair}
use Rattle.run_lists.proofs.Public.{run_and_rest}
use Rattle.doc_outer.specs.declared.sink.Sink.{Ghosts}
use Rattle.view_places.specs.declared.glyph.Glyph.{Glyph}
use Rattle.view_places.specs.declared.glyph.Glyph.TheVariants.{Unit}
use Rattle.page_out.specs.declared.page.Page.{Page}
use Rattle.page_out.specs.Printed.{Prints}
use Rattle.page_out.proofs.Public.{nothing_put, put_then}
use Rattle.doc_view.specs.Glyphs.{glyphs_text}
use Rattle.doc_view.specs.Labels.{label_glyph, label_glyphs}
use Rattle.doc_view.specs.Lines.{glyph_said, maybe_said, maybe_waits, unit_waits, waiting}
use Rattle.doc_view.proofs.SayingLemmas.{IsHalf, glyph_on, glyph_still}
use Rattle.text_codes.specs.Halves.{first_half}

maybe_on : (in_table : Bool) (half : Option ℕ) (glyph : Option Glyph) (rest end : List Glyph) → IsHalf half →
    glyphs_text in_table (waiting half ++ (cons_option glyph rest ++ end))
    ≡ maybe_said in_table half glyph ++ glyphs_text in_table (waiting (maybe_waits half glyph) ++ (rest ++ end))
maybe_on in_table half None rest end is = refl
maybe_on in_table half (Some glyph) rest end is = glyph_on in_table half glyph (rest ++ end) is

maybe_still : (half : Option ℕ) (glyph : Option Glyph) → IsHalf half → IsHalf (maybe_waits half glyph)
maybe_still half None is = is
maybe_still half (Some glyph) is = glyph_still half glyph

-- what was put of a label, where these units are left
pub record LabelAt {K : Type 0} (sink : Ghosts K) (start : K) (page : Page) (out : K) (now : Page) (in_table : Bool)
    (half : Option ℕ) (label left : List ℕ) : Type 0 where
  pub is : IsHalf half
  pub text : List ℕ
  pub prints : Prints sink start page out now text
  pub whole :
      text ++ glyphs_text in_table (waiting half ++ label_glyphs left) ≡ glyphs_text in_table (label_glyphs label)

pub label_start : {K : Type 0} (sink : Ghosts K) (start : K) (page : Page) (in_table : Bool) (label : List ℕ) →
    LabelAt sink start page start page in_table None label label
label_start sink start page in_table label = record {
  is = λ unit same. absurd (cc (same));
  text = [];
  prints = nothing_put sink start page;
  whole = refl;
}

-- one unit more
pub label_next : {K : Type 0} (sink : Ghosts K) (start : K) (page : Page) (out : K) (now : Page) (next : K) (after : Page)
    (in_table : Bool) (half : Option ℕ) (label : List ℕ) (k unit : ℕ) →
    LabelAt sink start page out now in_table half label (drop k label) → slice_get label k ≡ Some unit →
    Prints sink out now next after (maybe_said in_table half (label_glyph unit)) →
    LabelAt sink start page next after in_table (maybe_waits half (label_glyph unit)) label (drop (k + 1) label)
label_next sink start page out now next after in_table half label k unit at here put =
    let said = maybe_said in_table half (label_glyph unit) in
    let left = drop (k + 1) label in
    record {
      is = maybe_still half (label_glyph unit) at.is;
      text = at.text ++ said;
      prints = put_then sink start out next page now after at.text said at.prints put;
      whole =
          append_assoc at.text said
          (glyphs_text in_table (waiting (maybe_waits half (label_glyph unit)) ++ label_glyphs left))
          ∙ ap (λ (x : List ℕ). at.text ++ x)
          (sym (maybe_on in_table half (label_glyph unit) (filter_map label_glyph left) (Unit 0x20 ∷ []) at.is))
          ∙ ap (λ (units : List ℕ). at.text ++ glyphs_text in_table (waiting half ++ label_glyphs units))
          (sym (run_and_rest label k unit here))
          ∙ at.whole;
    }

either_none : (test : Bool) → (if test then None else first_half 0x20) ≡ None
either_none true = refl
either_none false = refl

space_waits : (half : Option ℕ) → unit_waits half 0x20 ≡ None
space_waits None = refl
space_waits (Some first) = either_none (is_pair first 0x20)

nothing_left : (in_table : Bool) (half : Option ℕ) → half ≡ None → glyphs_text in_table (waiting half ++ []) ≡ []
unfolding glyphs_text
nothing_left in_table half none = ap (λ (h : Option ℕ). glyphs_text in_table (waiting h ++ [])) none

-- the space behind it
pub label_put : {K : Type 0} (sink : Ghosts K) (start : K) (page : Page) (out : K) (now : Page) (next : K) (after : Page)
    (in_table : Bool) (half : Option ℕ) (label : List ℕ) (k : ℕ) →
    LabelAt sink start page out now in_table half label (drop k label) → length label ≤ k →
    Prints sink out now next after (glyph_said in_table half (Unit 0x20)) →
    Prints sink start page next after (glyphs_text in_table (label_glyphs label))
label_put sink start page out now next after in_table half label k at past put =
    let said = glyph_said in_table half (Unit 0x20) in
    let end : glyphs_text in_table (waiting half ++ Unit 0x20 ∷ []) ≡ said =
    glyph_on in_table half (Unit 0x20) [] at.is
    ∙ ap (λ (x : List ℕ). said ++ x) (nothing_left in_table (unit_waits half 0x20) (space_waits half))
    ∙ append-nil said in
    subst (λ (text : List ℕ). Prints sink start page next after text)
    (ap (λ (x : List ℕ). at.text ++ x) (sym end)
    ∙ ap (λ (units : List ℕ). at.text ++ glyphs_text in_table (waiting half ++ label_glyphs units))
    (sym (drop_of_length-le label past))
    ∙ at.whole)
    (put_then sink start out next page now after at.text said at.prints put)
