-- A change that may be put into a container.
use Rattle.std.proofs.Common.{ℕ, refl, sym, subst}
use Rattle.cfb_streams.specs.Names.{wd_name}
use Rattle.cfb_streams.specs.Contents.{Contents}
use Rattle.cfb_in_place.specs.Change.{NamedChange}
use Rattle.cfb_in_place.specs.Contract.{IsNamed, CanBePutInPlace, HasLengths, FitsChange}

pub can_be : (contents : Contents) (change : NamedChange) → HasLengths change.change → ((i : ℕ) × IsNamed contents i
    wd_name) → ((i : ℕ) × IsNamed contents i change.name) → ((i : ℕ) → FitsChange contents change i) → CanBePutInPlace
    contents change.change change.name
can_be contents change lengths main other fits = record {
  two = record {
    main = main;
    other = other;
    apart = λ i j one another e. (fits i one).0 (subst (λ n. IsNamed contents n change.name) (sym e) another);
    long = λ i is. (fits i is).1.0;
  };
  fib = lengths.fib;
  table = lengths.table;
  grown_short = λ i is. (fits i is).1.1;
  table_short = lengths.table_short;
}

pub all_fit : (contents : Contents) (change : NamedChange) → CanBePutInPlace contents change.change change.name → (i :
    ℕ) →
    FitsChange contents change i
all_fit contents change can i is = (λ other. can.two.apart i i is other refl, (can.two.long i is, can.grown_short i is))
