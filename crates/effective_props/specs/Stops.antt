-- The tab stops of a paragraph, by the changes of its layers. No stop is put or taken away: the last layer that says
-- something of a position decides.
use Rattle.std.specs.Prelude.{◌≡◌, ◌↔◌, ℕ, ℤ, ◌<◌, List, map, Some}
use Rattle.std.specs.List.{slice_get, Contains}
use Rattle.std.specs.List.Sorted.{IsStrictlySortedBy}
use Rattle.std.specs.Ordering.{int_cmp}
use Rattle.std.specs.FinMap.{get}
use Rattle.prop_map.specs.Settings.{Properties}
use Rattle.effective_props.specs.declared.tabs.Tab.{Tab}
use Rattle.effective_props.specs.Values.{tabs_code}
use Rattle.effective_props.specs.TabChange.{IsTabChange, AddsTab, Mentions}

-- the layer changes stops by this value
pub record HasTabChange (layer : Properties) (value : List ℕ) : Type 0 where
  pub there : get layer tabs_code ≡ Some value
  pub form : IsTabChange value

-- the layer deletes or adds a stop at the position
pub record MentionsStop (layer : Properties) (position : ℤ) : Type 0 where
  pub value : List ℕ
  pub change : HasTabChange layer value
  pub mentions : Mentions value position

-- the stop is there: some layer adds it, and no later one says anything of its position
-- what a layer deletes goes before it adds, so that it may add what it deletes
pub record HasStop (layers : List Properties) (tab : Tab) : Type 0 where
  pub number : ℕ
  pub layer : Properties
  pub there : slice_get layers number ≡ Some layer
  pub value : List ℕ
  pub change : HasTabChange layer value
  pub adds : AddsTab value tab
  pub last :
      (later : ℕ) (other : Properties) → number < later → slice_get layers later ≡ Some other →
      ¬ (MentionsStop other tab.at)

-- the list of the stops that are there, ascending by position
pub record AreStops (layers : List Properties) (tabs : List Tab) : Type 0 where
  pub ascending : IsStrictlySortedBy int_cmp (map (λ tab. tab.at) tabs)
  pub stops : (tab : Tab) → Contains tabs tab ↔ HasStop layers tab
