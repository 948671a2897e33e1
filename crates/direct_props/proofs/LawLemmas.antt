-- There is one answer at each place, and one first broken rule.
use Rattle.std.proofs.Common.{◌≡◌, ◌∙◌, ap, sym, subst, ℕ, List, drop, Option, lit<, lit≤, rules}
use Rattle.std.specs.Option.{unwrap_or}
use Rattle.std.specs.FinMap.{empty, get}
use Rattle.doc_bits.specs.Number.{u16_at}
use Rattle.doc_bits.specs.Rules.{IsSingle, Ascends}
use Rattle.sprm_table.proofs.Public.{spelt_unique}
use Rattle.prop_map.specs.Settings.{Properties}
use Rattle.prop_map.specs.Formed.{character_groups, paragraph_groups}
use Rattle.prop_map.specs.Acting.{ArePropertiesAfter, style_named}
use Rattle.prop_map.specs.Modifiers.{character_value, mark_value, mark_style}
use Rattle.prop_map.proofs.Public.{acting_one, same_properties}
use Rattle.fkp_pages.specs.declared.kind.PageKind.{PageKind}
use Rattle.fkp_pages.specs.declared.kind.PageKind.TheVariants.{Chpx, Papx}
use Rattle.fkp_pages.proofs.Public.{list_at_one}
use Rattle.direct_props.specs.Direct.{MakesProperties}
use Rattle.direct_props.specs.Laws.{DirectCharacterIsOne, DirectMarkIsOne}
use Rattle.direct_props.specs.PageRules.{page_rules}

-- a list makes one map and names one style
record MakeOne (one other : Properties) (style named : Option ℕ) : Type 0 where
  map : one ≡ other
  style_is : style ≡ named

makes_one : (list : List ℕ) (groups : ℕ) (one other : Properties) (style named : Option ℕ) → MakesProperties list groups
    one style → MakesProperties list groups other named → MakeOne one other style named
makes_one list groups one other style named a b =
    let prls = spelt_unique list a.prls b.prls a.spelt b.spelt in
    record {
      map = acting_one a.prls groups empty one other a.map (subst (λ ps. ArePropertiesAfter ps groups empty other)
          (sym prls) b.map);
      style_is = a.style_is ∙ (ap (λ ps. style_named ps groups) prls ∙ sym b.style_is);
    }

pub character_one : DirectCharacterIsOne
character_one wd bin fc modifier one other table a b =
    let list = list_at_one Chpx bin wd fc a.list b.list table a.has b.has in
    let made = makes_one b.list character_groups a.made b.made a.style b.style (subst (λ l. MakesProperties l
    character_groups a.made a.style) list a.makes) b.makes in
    same_properties one other (λ code. a.modified code ∙ (ap (λ m. character_value modifier code (get m code)) made.map
    ∙ sym (b.modified code)))

pub mark_one : DirectMarkIsOne
mark_one wd bin fc modifier istd number one other table a b =
    let list = list_at_one Papx bin wd fc a.list b.list table a.has b.has in
    let made = makes_one (drop 2 b.list) paragraph_groups a.made b.made a.style b.style (subst (λ l. MakesProperties
    (drop 2 l) paragraph_groups a.made a.style) list a.makes) b.makes in (
      a.style_is ∙ (ap (λ s. mark_style modifier (unwrap_or s (u16_at a.list 0))) made.style_is ∙
          (ap (λ l. mark_style modifier (unwrap_or b.style (u16_at l 0))) list ∙ sym b.style_is)),
      same_properties one other (λ code. a.modified code ∙ (ap (λ m. mark_value modifier code (get m code)) made.map ∙
          sym (b.modified code))),
    )

pub page_rules-IsSingle : (kind : PageKind) (wd bin places : List ℕ) → IsSingle (page_rules kind wd bin places)
page_rules-IsSingle kind wd bin places = search rules

-- where the numbers of the rules of a kind begin and end
abbrev pub low_rule : PageKind → ℕ
low_rule Chpx = 39
low_rule Papx = 44

abbrev pub high_rule : PageKind → ℕ
high_rule Chpx = 44
high_rule Papx = 49

pub page_rules-Ascends : (kind : PageKind) (wd bin places : List ℕ) → Ascends (page_rules kind wd bin places)
    (low_rule kind) (high_rule kind)
page_rules-Ascends Chpx wd bin places = (
  40,
  (
    (lit≤ tt, lit< tt),
    (
      lit≤ tt,
      lit≤ tt,
      (
        41,
        (
          (lit≤ tt, lit< tt),
          (
            lit≤ tt,
            lit≤ tt,
            (
              42,
              (
                (lit≤ tt, lit< tt),
                (
                  lit≤ tt,
                  lit≤ tt,
                  (
                    43,
                    (
                      (lit≤ tt, lit< tt),
                      (
                        lit≤ tt,
                        lit≤ tt,
                        (lit≤ tt, lit< tt),
                      ),
                    ),
                  ),
                ),
              ),
            ),
          ),
        ),
      ),
    ),
  ),
)
page_rules-Ascends Papx wd bin places = (
  45,
  (
    (lit≤ tt, lit< tt),
    (
      lit≤ tt,
      lit≤ tt,
      (
        46,
        (
          (lit≤ tt, lit< tt),
          (
            lit≤ tt,
            lit≤ tt,
            (
              47,
              (
                (lit≤ tt, lit< tt),
                (
                  lit≤ tt,
                  lit≤ tt,
                  (
                    48,
                    (
                      (lit≤ tt, lit< tt),
                      (
                        lit≤ tt,
                        lit≤ tt,
                        (lit≤ tt, lit< tt),
                      ),
                    ),
                  ),
                ),
              ),
            ),
          ),
        ),
      ),
    ),
  ),
)
