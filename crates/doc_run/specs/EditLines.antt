-- The lines of a run that edits a document.
use Rattle.std.specs.Prelude.{ℕ, List, [], ◌∷◌, ◌++◌, codes}
use Rattle.std.specs.Fmt.{decimal}
use Rattle.doc_bits.specs.Places.{Place}
use Rattle.text_codes.specs.Shown.{line}
use Rattle.edit_script.specs.declared.faults.ScriptFault.{ScriptFault}
use Rattle.edit_script.specs.declared.faults.ScriptFault.TheVariants.{Json, Shape, TooLong, Memory}
use Rattle.edit_ops.specs.declared.faults.EditFault.{EditFault}
use Rattle.edit_ops.specs.declared.faults.EditFault.TheVariants.{Range, Code, Rule, Limit, Memory as NoMemory}
use Rattle.script_run.specs.declared.faults.Stop.{Stop}
use Rattle.script_run.specs.declared.faults.Stop.TheVariants.{Refused, Guarded, Sixteenth, TooManyPieces, TooLarge}
use Rattle.run_stages.specs.Lines.{place_name}

-- why bytes are no script; want of memory has no line
abbrev pub script_line : ScriptFault → List ℕ
script_line Json = line (codes "script: not JSON")
script_line (Shape index) = line (codes "script: command " ++ (decimal index ++ codes " has a wrong shape"))
script_line TooLong = line (codes "script: too long")
script_line Memory = []

-- a rule that is broken, and the place
abbrev pub rule_text : ℕ → Place → List ℕ
rule_text rule place =
    codes "rule " ++ (decimal rule ++ (32 ∷ [] ++ (place_name place.0 ++ (32 ∷ [] ++ decimal place.1))))

-- why an edit is refused
abbrev pub cause_text : EditFault → List ℕ
cause_text Range = codes "range"
cause_text Code = codes "code"
cause_text (Rule rule place at) = rule_text rule (place, at)
cause_text (Limit rule place at) = rule_text rule (place, at)
cause_text NoMemory = []

-- where a script stops, and why
abbrev pub stop_line : ℕ → Stop → List ℕ
stop_line index (Refused fault) = line (codes "edit " ++ (decimal index ++ (codes ": " ++ cause_text fault)))
stop_line index (Guarded guard) = line (codes "edit " ++ (decimal index ++ (codes ": guard " ++ decimal guard)))
stop_line index (Sixteenth count) =
    line (codes "save " ++ (decimal index ++ (codes ": sixteenth, count " ++ decimal count)))
stop_line index (TooManyPieces pieces) =
    line (codes "save " ++ (decimal index ++ (codes ": pieces " ++ decimal pieces)))
stop_line index (TooLarge sectors) =
    line (codes "save " ++ (decimal index ++ (codes ": too large, needs " ++ (decimal sectors ++ codes " sectors"))))

-- how many commands were made, and how many saves of each mode
abbrev pub edited_line : (commands fast full : ℕ) → List ℕ
edited_line commands fast full =
    line
    (codes "edit: "
    ++ (decimal commands ++ (codes " commands, fast " ++ (decimal fast ++ (codes ", full " ++ decimal full)))))
