-- Pieces of a paragraph put one behind the other.
use Rattle.std.proofs.Common.{◌≡◌, Option, Some, ℕ, Bool, true, false, [], ◌∷◌, ◌++◌, sym, subst}
use Rattle.std.specs.Prelude.{if◌then◌else◌}
use Rattle.doc_outer.specs.declared.sink.Sink.{Ghosts}
use Rattle.text_codes.specs.Shown.{is_pair, pair_code}
use Rattle.page_out.specs.declared.page.Page.{Page}
use Rattle.page_out.specs.Printed.{Prints}
use Rattle.page_out.proofs.Public.{put_then}
use Rattle.view_places.specs.declared.glyph.Glyph.{Glyph}
use Rattle.doc_view.specs.declared.paragraph.Saying.{Saying}
use Rattle.doc_view.specs.Lines.{begun_front, first_unit_said, glyph_said, shown_said, unit_said}
use Rattle.text_codes.specs.Halves.{replacement}

-- a unit behind a half
pub pair_put : {K : Type 0} (sink : Ghosts K) (a b : K) (p q : Page) (first unit code : ℕ) →
    is_pair first unit ≡ true → code ≡ pair_code first unit → Prints sink a p b q (code ∷ []) →
    Prints sink a p b q (unit_said (Some first) unit)
pair_put sink a b p q first unit code pair is put =
    subst (λ (flag : Bool). Prints sink a p b q
    (if flag then pair_code first unit ∷ [] else replacement ∷ [] ++ first_unit_said unit)) (sym pair)
    (subst (λ (c : ℕ). Prints sink a p b q (c ∷ [])) is put)

pub second_put : {K : Type 0} (sink : Ghosts K) (a b c : K) (p q r : Page) (first unit : ℕ) →
    is_pair first unit ≡ false → Prints sink a p b q (replacement ∷ []) → Prints sink b q c r (first_unit_said unit) →
    Prints sink a p c r (unit_said (Some first) unit)
second_put sink a b c p q r first unit apart one other =
    subst (λ (flag : Bool). Prints sink a p c r
    (if flag then pair_code first unit ∷ [] else replacement ∷ [] ++ first_unit_said unit)) (sym apart)
    (put_then sink a b c p q r (replacement ∷ []) (first_unit_said unit) one other)

-- a glyph behind what is before its paragraph
pub shown_put : {K : Type 0} (sink : Ghosts K) (a b c : K) (p q r : Page) (saying : Saying) (glyph : Option Glyph)
    (g : Glyph) → glyph ≡ Some g → Prints sink a p b q (begun_front saying) →
    Prints sink b q c r (glyph_said saying.in_table saying.half g) → Prints sink a p c r (shown_said saying glyph)
shown_put sink a b c p q r saying glyph g is one other =
    subst (λ (o : Option Glyph). Prints sink a p c r (shown_said saying o)) (sym is)
    (put_then sink a b c p q r (begun_front saying) (glyph_said saying.in_table saying.half g) one other)
