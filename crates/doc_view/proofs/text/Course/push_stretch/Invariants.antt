use Rattle.std.proofs.Common.{◌≡◌, ℕ, ◌-◌, ◌≤◌}
use Rattle.doc_columns.specs.Walks.{items_in}
use Rattle.doc_view.specs.Course.{HasFormat, IsCourse, PutsItems}
use Rattle.doc_view.specs.Lines.{IsSaying}
use Rattle.doc_view.specs.Seen.{Formats}
use Rattle.doc_view.proofs.RangeLemmas.{seen_range}
use Rattle.doc_view.proofs.text.Course.push_stretch.Given as goal

-- the items so far were put
abbrev pub invariant-loop-self : goal.invariant-loop-self
invariant-loop-self g l = record {
  low : l.fn.self.place ≤ l.self.place;
  within : l.self.place ≤ l.fn.stretch.until;
  walk : l.self.walk ≡ l.fn.self.walk;
  course : IsCourse l.fn.text.manner (items_in l.fn.text.parts) l.self;
  saying : IsSaying l.saying;
  passes : (formats : Formats) (istd : ℕ) → HasFormat formats istd (items_in l.fn.text.parts) l.fn.self.place
      l.fn.stretch.until l.fn.stretch.format → PutsItems g.K.Sink
      (record { out = l.fn.out; page = l.fn.page; saying = l.fn.saying; references = l.fn.self.references.list })
      (record { out = l.out; page = l.page; saying = l.saying; references = l.self.references.list })
      (seen_range formats l.fn.text.manner istd (items_in l.fn.text.parts) l.fn.self.place l.self.place);
}

abbrev pub decreases-loop-self : goal.decreases-loop-self
decreases-loop-self g l = l.fn.stretch.until - l.self.place
