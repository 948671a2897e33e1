-- On appending one piece after another.
use Rattle.std.proofs.Common.{ℕ, List, [], ◌++◌, sym, append_assoc, append-nil}
use Rattle.std.specs.Prelude.{Option, Some, None}
use Rattle.doc_outer.specs.Written.{Appends}

-- at first nothing was appended
pub Appends-nil : (told : Option (List ℕ)) → Appends told told []
Appends-nil None = tt
Appends-nil (Some old) = sym (append-nil old)

-- one piece was appended, and then another
pub Appends-append : (old mid new : Option (List ℕ)) (first next : List ℕ) → Appends old mid first → Appends mid new
    next → Appends old new (first ++ next)
Appends-append None None None first next a b = tt
Appends-append None None (Some new) first next a b = b
Appends-append None (Some mid) new first next a b = absurd a
Appends-append (Some old) None new first next a b = absurd a
Appends-append (Some old) (Some mid) None first next a b = absurd b
Appends-append (Some old) (Some mid) (Some new) first next a b = rw (b, a) (append_assoc old first next)
