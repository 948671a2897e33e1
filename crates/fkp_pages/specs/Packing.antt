-- Profile: how items are put onto pages in their order. No item is gone through: a page is right where it has some
-- items, they
-- fit, and the first item of the next page would not fit with them.
use Rattle.std.specs.Prelude.{◌≡◌, ℕ, ◌+◌, ◌<◌, List, [], ◌++◌, length, take, slice_index_or}
use Rattle.std.specs.List.{flat_map}

-- the items of a page, by its number
abbrev pub page_items : {A : Type 0} → List (List A) → ℕ → List A
page_items pages k = slice_index_or pages k []

-- the items of all pages, page after page
abbrev pub joined_pages : {A : Type 0} → List (List A) → List A
joined_pages pages = flat_map (λ page. page) pages

-- the pages have the items, each has some and they fit, and no page could take the first item of the next one too
pub record IsPacking {A : Type 0} (Fits : List A → Type 0) (items : List A) (pages : List (List A)) : Type 0 where
  pub joined : items ≡ joined_pages pages
  pub some : (k : ℕ) → k < length pages → 0 < length (page_items pages k)
  pub fitting : (k : ℕ) → k < length pages → Fits (page_items pages k)
  pub full : (k : ℕ) → k + 1 < length pages → ¬ (Fits (page_items pages k ++ take 1 (page_items pages (k + 1))))

-- where items fit, the first ones of them do
abbrev pub FitsFromFront : {A : Type 0} → (List A → Type 0) → Type 0
FitsFromFront {A = A} Fits = (front more : List A) → Fits (front ++ more) → Fits front
