use Rattle.std.proofs.Common.{◌-◌, ◌≤◌}
use Rattle.doc_columns.specs.Walks.{items_in, IsColumnWalk}
use Rattle.doc_view.specs.Course.{IsCourse, PutsItems}
use Rattle.doc_view.specs.Lines.{IsSaying}
use Rattle.doc_view.specs.Page.{AreFormats}
use Rattle.doc_view.specs.Seen.{Formats}
use Rattle.doc_view.proofs.RangeLemmas.{seen_range}
use Rattle.doc_view.proofs.text.Course.push_paragraph.Given as goal

-- the items so far were put
abbrev pub invariant-loop-self : goal.invariant-loop-self
invariant-loop-self g l = record {
  low : l.fn.self.place ≤ l.self.place;
  within : l.self.place ≤ l.bounds.end;
  walk : IsColumnWalk l.fn.text.parts l.self.walk l.self.place;
  course : IsCourse l.fn.text.manner (items_in l.fn.text.parts) l.self;
  saying : IsSaying l.saying;
  passes : (formats : Formats) → AreFormats l.fn.text.formats.now formats → PutsItems g.K.Sink
      (record { out = l.fn.out; page = l.fn.page; saying = l.fn.saying; references = l.fn.self.references.list })
      (record { out = l.out; page = l.page; saying = l.saying; references = l.self.references.list })
      (seen_range formats l.fn.text.manner l.bounds.istd (items_in l.fn.text.parts) l.fn.self.place l.self.place);
}

abbrev pub decreases-loop-self : goal.decreases-loop-self
decreases-loop-self g l = l.bounds.end - l.self.place
