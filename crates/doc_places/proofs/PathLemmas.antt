-- Elements put one after another.
use Rattle.std.proofs.Common.{◌≡◌, Bool, true, false, List, [], ◌∷◌, ◌++◌, ap, ◌∙◌, append_assoc}
use Rattle.view_places.specs.declared.element.Element.{Element}
use Rattle.char_formats.specs.declared.format.CharFormat.{CharFormat}
use Rattle.doc_places.specs.Places.{format_elements, element_if, position_elements}
use Rattle.view_places.specs.declared.element.Element.TheVariants.{Bold, Italic, Underline, Strike, SmallCaps, Caps}

-- some, and then others
pub put_behind : (p q r a b : List Element) → q ≡ p ++ a → r ≡ q ++ b → r ≡ p ++ (a ++ b)
put_behind p q r a b one other = other ∙ (ap (λ (path : List Element). path ++ b) one ∙ append_assoc p a b)

-- those of a format
pub seven_put : (f : CharFormat) (p a b c d e g h : List Element) → a ≡ p ++ element_if f.bold Bold → b ≡ a ++
    element_if
    f.italic Italic →
    c ≡ b ++ element_if f.underline Underline → d ≡ c ++ element_if f.strike Strike → e ≡ d ++ element_if f.small_caps
    SmallCaps → g
    ≡ e ++
    element_if f.caps Caps → h ≡ g ++ position_elements f.position → h ≡ p ++ format_elements f
seven_put f p a b c d e g h one two three four five six seven =
    let position = position_elements f.position in
    let caps = element_if f.caps Caps ++ position in
    let small = element_if f.small_caps SmallCaps ++ caps in
    let strike = element_if f.strike Strike ++ small in
    let under = element_if f.underline Underline ++ strike in
    let italic = element_if f.italic Italic ++ under in
    put_behind p a h (element_if f.bold Bold) italic one (put_behind a b h (element_if f.italic Italic) under two
    (put_behind b
    c h
    (element_if f.underline Underline) strike three (put_behind c d h (element_if f.strike Strike) small four
    (put_behind d e h
    (element_if
    f.small_caps SmallCaps) caps five (put_behind e g h (element_if f.caps Caps) position six seven)))))
