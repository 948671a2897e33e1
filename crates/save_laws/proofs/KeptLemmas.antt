-- A stream that keeps bytes and pages of an older one gives what that one gives.
use Rattle.std.specs.Prelude.{slice_range, ℕ, List}
use Rattle.std.proofs.Common.{◌≡◌, ◌≢◌, ◌∙◌, ◌+◌, ◌-◌, ◌*◌, ◌<◌, ◌≤◌, sym, ap, subst, inl, inr, Bool, true, false}
use Rattle.std.proofs.Common.{length, arith}
use Rattle.std.proofs.lemmas.Bool.{cases_lt}
use Rattle.std.proofs.lemmas.Grind.{same_number_lists}
use Rattle.doc_bits.proofs.Public.{length-range, range_index, number_at-same}
use Rattle.doc_bits.specs.Number.{number_at, u16_at}
use Rattle.sprm_table.specs.Sprm.{IsAcceptedList}
use Rattle.prop_map.specs.Settings.{Properties}
use Rattle.prop_map.specs.Formed.{section_groups}
use Rattle.prop_map.specs.Modifiers.{no_modifier}
use Rattle.fib_form.specs.Fib.{form_size, fib_form}
use Rattle.fib_form.proofs.Public.{form_size-most}
use Rattle.fkp_pages.specs.declared.kind.PageKind.TheVariants.{Chpx, Papx}
use Rattle.fkp_pages.specs.declared.kind.PageKind.{PageKind}
use Rattle.fkp_pages.specs.Fkp.{HasRunAnswer}
use Rattle.fkp_pages.specs.Bin.{IsBinPage, page_at}
use Rattle.fkp_pages.specs.Rows.{KeepsRanges}
use Rattle.fkp_pages.specs.Properties.{IsListAnswered}
use Rattle.direct_props.specs.Direct.{MakesProperties}
use Rattle.direct_props.specs.Stretches.{HasValidList}
use Rattle.direct_props.specs.RightLists.{HasValidListAt}
use Rattle.piece_table.specs.Piece.{unit_bytes}
use Rattle.doc_parts.specs.Sections.{HasSepx}
use Rattle.text_codes.specs.Compressed.{compressed_unit}
use Rattle.file_rules.specs.Units.{unit_at}
use Rattle.file_rules.specs.SectionRules.{sepx_list}
use Rattle.doc_read.specs.Sections.{IsSectionProperties}
use Rattle.save_laws.specs.Places.{PagedStream, fib_end, StandsInside}
use Rattle.save_laws.specs.KeptPages.{KeepsBytes, KeepsPages}
use Rattle.save_laws.specs.Laws.{KeptPropertiesAreThere, KeptPlacesGive}

-- the FIB ends where that of the older stream does
same_end : (old new : List ℕ) → KeepsBytes old new → fib_end new ≡ fib_end old
same_end old new keeps = ap form_size keeps.form

-- ---- bytes

number_kept : (old new : List ℕ) (at k : ℕ) → KeepsBytes old new → fib_end old ≤ at → at + k ≤ length old →
    number_at new at k ≡ number_at old at k
number_kept old new at k keeps low high =
    number_at-same new old at at k (λ i below. keeps.bytes (at + i) (omega (arith, low)) (omega (arith, high, below)))

range_kept : (old new : List ℕ) (from to : ℕ) → KeepsBytes old new → fib_end old ≤ from → to ≤ length old →
    slice_range new from to ≡ slice_range old from to
range_kept old new from to keeps low high =
    let longer = keeps.longer in
    let one = length-range new from to (omega (arith, longer, high)) in
    let two = length-range old from to high in
    same_number_lists (slice_range new from to) (slice_range old from to) (omega (arith, one, two)) (λ i below.
    let within : i < to - from = omega (arith, below, one) in
    range_index new from to i within
    ∙ (keeps.bytes (from + i) (omega (arith, low)) (omega (arith, within, high)) ∙ sym (range_index old from to i
    within)))

-- ---- pages

pub page_kept : (old new : List ℕ) (number : ℕ) → KeepsBytes old new → 2 ≤ number → 512 * number + 512 ≤ length old →
    page_at new number ≡ page_at old number
page_kept old new number keeps low within =
    range_kept old new (512 * number) (512 * number + 512) keeps (omega (arith, low, form_size-most (fib_form old)))
    within

pub named_kept : (old new : List ℕ) (before fc number : ℕ) → KeepsRanges old new before → fc < before →
    IsBinPage old fc number → IsBinPage new fc number
named_kept old new before fc number keeps below page =
    let k = page.entry in
    let from = page.range.from in
    let to = page.range.to in
    let fewer = keeps.fewer in
    let there = keeps.there in
    let inside : k < keeps.count = elim (cases_lt k keeps.count) [
      | inl inside ↦ inside
      | inr behind ↦ let later = keeps.all k page.range.below behind in absurd (omega (arith, later, from, below))
    ] in
    let first = keeps.first k inside in
    record {
      entry = k;
      range = record {
        below = omega (arith, inside, there);
        from = omega (arith, first, from);
        to = elim (keeps.ends k inside) [
          | inl longer ↦ omega (arith, longer, to)
          | inr open_end ↦ omega (arith, open_end, below)
        ];
      };
      page = page.page ∙ sym (keeps.page k inside);
    }

list_kept : (kind : PageKind) (old new old_bin new_bin : List ℕ) (before fc : ℕ) (list : List ℕ) →
    KeepsBytes old new → KeepsRanges old_bin new_bin before → fc < before → HasValidListAt kind old old_bin fc list →
    HasValidListAt kind new new_bin fc list
list_kept kind old new old_bin new_bin before fc list bytes ranges below has =
    let page : page_at old has.number ≡ page_at new has.number =
    sym (page_kept old new has.number bytes has.low has.within) in
    let longer = bytes.longer in
    let within = has.within in
    record {
      number = has.number;
      named = named_kept old_bin new_bin before fc has.number ranges below has.named;
      low = has.low;
      within = omega (arith, within, longer);
      answer = has.answer;
      answers = subst (λ p. HasRunAnswer kind p fc has.answer) page has.answers;
      right = subst (λ p. HasValidList kind p has.answer) page has.right;
      answered = subst (λ p. IsListAnswered kind p has.answer list) page has.answered;
    }

-- ---- places

unit_kept : (old new : List ℕ) (at : ℕ) (wide : Bool) → KeepsBytes old new → fib_end old ≤ at →
    at + unit_bytes wide ≤ length old →
    unit_at old (record { at = at; wide = wide; modifier = no_modifier })
    ≡ unit_at new (record { at = at; wide = wide; modifier = no_modifier })
unit_kept old new at true keeps low within = sym (number_kept old new at 2 keeps low within)
unit_kept old new at false keeps low within =
    ap compressed_unit (sym (keeps.bytes at low (omega (arith, within))))

place_inside : (old new : PagedStream) (before at : ℕ) (wide : Bool) → KeepsPages old new before →
    StandsInside old at wide → (at < before) × StandsInside new at wide
place_inside old new before at true keeps stands =
    let inside = stands.inside in
    let low = stands.behind_fib in
    let within = keeps.within in
    let longer = keeps.bytes.longer in
    let fib = same_end old.wd new.wd keeps.bytes in (
      omega (arith, inside, within),
      record { behind_fib = omega (arith, low, fib); inside = omega (arith, inside, longer) },
    )
place_inside old new before at false keeps stands =
    let inside = stands.inside in
    let low = stands.behind_fib in
    let within = keeps.within in
    let longer = keeps.bytes.longer in
    let fib = same_end old.wd new.wd keeps.bytes in (
      omega (arith, inside, within),
      record { behind_fib = omega (arith, low, fib); inside = omega (arith, inside, longer) },
    )

pub place_kept : (old new : PagedStream) (before at : ℕ) (wide : Bool) → KeepsPages old new before →
    StandsInside old at wide → StandsInside new at wide
place_kept old new before at wide keeps stands = (place_inside old new before at wide keeps stands).1

pub kept_places_give : KeptPlacesGive
kept_places_give old new before at wide given keeps gives =
    let inside = place_inside old new before at wide keeps gives.stands in
    let characters = gives.characters in
    record {
      stands = inside.1;
      unit = gives.unit ∙ unit_kept old.wd new.wd at wide keeps.bytes gives.stands.behind_fib gives.stands.inside;
      characters = record {
        list = characters.list;
        has =
            list_kept Chpx old.wd new.wd old.characters new.characters before at characters.list keeps.bytes
            keeps.characters inside.0 characters.has;
        style = characters.style;
        makes = characters.makes;
      };
      mark = λ mark marked.
          let mark_given = gives.mark mark marked in
          record {
            list = mark_given.list;
            has =
                list_kept Papx old.wd new.wd old.paragraphs new.paragraphs before at mark_given.list keeps.bytes
                keeps.paragraphs inside.0 mark_given.has;
            style = mark_given.style;
            makes = mark_given.makes;
            style_is = mark_given.style_is;
          };
    }

-- ---- properties of sections

-- a Sepx that is in the older stream
record IsKeptSepx (old new : List ℕ) (fc : ℕ) : Type 0 where
  there : HasSepx new fc
  list : sepx_list new fc ≡ sepx_list old fc

sepx_kept : (old new : List ℕ) (fc : ℕ) → KeepsBytes old new → HasSepx old fc → IsKeptSepx old new fc
sepx_kept old new fc keeps there =
    let after = there.after_fib in
    let within = there.within in
    let longer = keeps.longer in
    let most = form_size-most (fib_form old) in
    let count : u16_at new fc ≡ u16_at old fc =
    number_kept old new fc 2 keeps (omega (arith, after, most)) (omega (arith, within)) in
    let same : slice_range new (fc + 2) (fc + 2 + u16_at old fc) ≡ sepx_list old fc =
    range_kept old new (fc + 2) (fc + 2 + u16_at old fc) keeps (omega (arith, after, most)) within in
    record {
      there = record { after_fib = after; within = omega (arith, within, longer, count) };
      list = ap (λ n. slice_range new (fc + 2) (fc + 2 + n)) count ∙ same;
    }

properties_kept : (old new : List ℕ) (fc : ℕ) (properties : Properties) → KeepsBytes old new →
    (fc ≢ 0xFFFFFFFF → HasSepx old fc) → IsSectionProperties old fc properties → IsSectionProperties new fc properties
properties_kept old new fc properties keeps there (inl none) = inl none
properties_kept old new fc properties keeps there (inr made) =
    let kept = sepx_kept old new fc keeps (there made.there) in
    inr (record {
      there = made.there;
      style = made.style;
      makes = subst (λ list. MakesProperties list section_groups properties made.style) (sym kept.list) made.makes;
    })

pub kept_properties_are_there : KeptPropertiesAreThere
kept_properties_are_there old new fc properties keeps has = record {
  is = properties_kept old new fc properties keeps has.there has.is;
  there = λ some. (sepx_kept old new fc keeps (has.there some)).there;
  accepted = λ some.
      subst (λ list. IsAcceptedList list section_groups) (sym (sepx_kept old new fc keeps (has.there some)).list)
      (has.accepted some);
}
