-- The in-memory store as a value: its files, the calls that are to fail, and its counts.
use Rattle.std.specs.Prelude.{ℕ, ◌-◌, List, length, min, Option, Some, None, Result, Ok, Err, ⊤, refl}
use Rattle.std.specs.Coded.{Coded, code_by, coded×, coded_ℕ, coded_list}
use Rattle.std.specs.FinMap as map
use Rattle.doc_outer.specs.Held.{Files, no_files, with_file}
use Rattle.doc_outer.specs.Plan.{FaultPlan, no_plan, after_call}
use Rattle.doc_outer.specs.Puts.{faults_putting}
use Rattle.doc_outer.specs.Reads.{faults_after, missed_after}
use Rattle.doc_outer.specs.declared.shelf.PutFault.{PutFault}
use Rattle.doc_outer.specs.declared.shelf.ShelfFault.{ShelfFault}
use Rattle.doc_outer.specs.declared.shelf.ShelfFault.TheVariants.{Missing}

pub record Store : Type 0 where
  -- what each name holds
  pub files : Files
  -- which calls are to fail
  pub plan : FaultPlan
  -- how often a call failed
  pub faults : ℕ
  -- how often a put failed
  pub put_faults : ℕ
  -- how often a name was not there
  pub missed : ℕ

-- a store with no file
abbrev pub empty_store : Store
empty_store = record { files = no_files; plan = no_plan; faults = 0; put_faults = 0; missed = 0 }

-- the files of entries, where the first entry of a name counts
abbrev pub entry_files : List (List ℕ × List ℕ) → Files
entry_files entries = map.from_entries entries

-- what a read answers where its call is not to fail
abbrev pub read_answer : Option (List ℕ) → ℕ → ℕ → Result ℕ ShelfFault
read_answer None at room = Err Missing
read_answer (Some all) at room = Ok (min room (length all - at))

-- the store after a read: its files stay
abbrev pub store_after : Store → Result ℕ ShelfFault → Store
store_after store answer = record {
  files = store.files;
  plan = after_call store.plan;
  faults = faults_after answer store.faults;
  put_faults = store.put_faults;
  missed = missed_after answer store.missed;
}

-- the files after a put: only one that succeeds changes them
abbrev pub files_putting : Files → (name bytes : List ℕ) → Result ⊤ PutFault → Files
files_putting files name bytes (Ok done) = with_file files name bytes
files_putting files name bytes (Err fault) = files

-- the store after a put
abbrev pub store_putting : Store → (name bytes : List ℕ) → Result ⊤ PutFault → Store
store_putting store name bytes answer = record {
  files = files_putting store.files name bytes answer;
  plan = after_call store.plan;
  faults = faults_putting answer store.faults;
  put_faults = faults_putting answer store.put_faults;
  missed = store.missed;
}

-- a store is kept as its parts
abbrev pub store_code : Coded Store
store_code =
    code_by (Files × ((List ℕ × ℕ) × (ℕ × (ℕ × ℕ))))
    (coded× (map.code (coded_list coded_ℕ) (coded_list coded_ℕ)) (coded× (coded× (coded_list coded_ℕ) coded_ℕ)
    (coded× coded_ℕ (coded× coded_ℕ coded_ℕ))))
    (λ s. (s.files, ((s.plan.failing, s.plan.numbered), (s.faults, (s.put_faults, s.missed)))))
    (λ p. record {
      files = p.0;
      plan = record { failing = p.1.0.0; numbered = p.1.0.1 };
      faults = p.1.1.0;
      put_faults = p.1.1.1.0;
      missed = p.1.1.1.1;
    })
    (λ _. refl)
