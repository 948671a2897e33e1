-- The Prms that are kept beside the lists of printed Prcs.
use Rattle.std.specs.Prelude.{◌≡◌, ◌≢◌, ℕ, List, Option, Some, None}
use Rattle.std.specs.Ordering.{is_eq, nat_cmp}
use Rattle.std.specs.Cmp.Lexicographic.{slice_cmp}
use Rattle.std.specs.Map.{lookup}

-- the Prm beside a list; `bytes` are those of a key
abbrev pub prm_of_list : {K : Type 0} → List (K × ℕ) → (K → List ℕ) → List ℕ → Option ℕ
prm_of_list entries bytes list = lookup (λ key. is_eq (slice_cmp nat_cmp list (bytes key))) entries

-- where nothing is kept
abbrev pub no_prm : List ℕ → Option ℕ
no_prm list = None

-- the Prm is kept beside the list, and others stay
pub record PutsPrm (old new : List ℕ → Option ℕ) (list : List ℕ) (prm : ℕ) : Type 0 where
  pub here : new list ≡ Some prm
  pub others : (other : List ℕ) → other ≢ list → new other ≡ old other
