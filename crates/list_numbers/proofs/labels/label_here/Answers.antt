use Rattle.std.proofs.Common.{◌≡◌, ◌∙◌, ◌+◌, ◌*◌, ap, sym, refl, take}
use Rattle.std.specs.Prelude.{map, slice_get, slice_index, slice_range}
use Rattle.list_numbers.specs.Numbers.{number_units}
use Rattle.symbol_fonts.specs.Characters.{shown_unit}
use Rattle.symbol_fonts.specs.Fonts.{symbol_font}
use Rattle.list_numbers.specs.ParagraphValues.{font_of_level, is_bullet_level, label_with, list_level}
use Rattle.list_numbers.proofs.AlikeLemmas.{number_by_counters}
use Rattle.list_numbers.proofs.labels.label_here.Goals as goal

pub returns : goal.returns
returns c =
    let list = c.get-list.result.now in
    let place = c.args.place in
    let counts = c.args.counts.now in
    let own =
    number_units list.levels place.level
    (λ level. slice_index (slice_range counts (9 * place.list) (9 * place.list + 9)) level) in
    let bullet : c.is_bullet_level-bullet.result
    ≡ is_bullet_level (list_level (slice_get c.args.lists.now place.list) place.level) =
    c.is_bullet_level-bullet.ensures
    ∙ ap (λ l. is_bullet_level (list_level l place.level)) (sym c.get-list.ensures) in
    let level = list_level (slice_get c.args.lists.now place.list) place.level in
    let font : c.font-font.result ≡ symbol_font c.args.fonts (font_of_level level) =
    c.font-font.ensures ∙ ap (symbol_font c.args.fonts) (c.font_of_level.ensures
    ∙ ap (λ l. font_of_level (list_level l place.level)) (sym c.get-list.ensures)) in
    let same = number_by_counters c.args.lists.now list place.list place.level counts own c.get-list.ensures refl in
    c.label_with.ensures
    ∙ (λ i. label_with place.level (bullet i)
    ((c.in_ok-shown.ensures ∙ (λ j. map (shown_unit (font j)) ((c.in_ok-units.ensures ∙ ap (take 64) same) j))) i))
