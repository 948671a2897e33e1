-- The CPs of marks, as they are kept to be found.
use Rattle.std.specs.Prelude.{◌≡◌, ℕ, ◌==◌, false, List}
use Rattle.std.specs.List.{list_any}
use Rattle.fib_versions.specs.declared.further.Further.{Further}
use Rattle.fib_versions.specs.declared.further.Further.TheVariants.{Comments, Endnotes, TextBoxes, HeaderTextBoxes}
use Rattle.doc_losses.specs.declared.cps.Marks.{Marks}
use Rattle.doc_losses.specs.References.{Names, names_of}

-- those of a story
abbrev pub cps_in : Marks → Further → List ℕ
cps_in marks Comments = marks.comments
cps_in marks Endnotes = marks.endnotes
cps_in marks TextBoxes = marks.boxes
cps_in marks HeaderTextBoxes = marks.head_boxes

abbrev pub names_of_marks : Marks → Names
names_of_marks marks story cp = list_any (λ named. named == cp) (cps_in marks story)

-- they are those of a file
abbrev pub AreFileMarks : List ℕ → List ℕ → Marks → Type 0
AreFileMarks wd table marks = (story : Further) (cp : ℕ) → names_of_marks marks story cp ≡ names_of wd table story cp

-- no mark of a story is said to be anywhere
abbrev pub NamesNoMark : Names → Type 0
NamesNoMark names = (story : Further) (cp : ℕ) → names story cp ≡ false
