-- What a page writes of its own: a closed list of markup and tags.
use Rattle.std.specs.Prelude.{ℕ, ◌==◌, List, codes, if◌then◌else◌}
use Rattle.markdown_page.specs.declared.marks.Mark.{Mark}
use Rattle.markdown_page.specs.declared.marks.Mark.TheVariants.{Strong, Emphasis, Strike, NoteFront, ReferenceEnd}
use Rattle.markdown_page.specs.declared.marks.Mark.TheVariants.{NoteEnd, FirstCell, NextCell, RowEnd, RuleFront}
use Rattle.markdown_page.specs.declared.marks.Mark.TheVariants.{RuleColumn, LineEnd, BlockEnd, Indent, Item}
use Rattle.markdown_page.specs.declared.marks.Mark.TheVariants.{Heading1, Heading2, Heading3, Heading4, Heading5}
use Rattle.markdown_page.specs.declared.marks.Mark.TheVariants.{Heading6, Level}
use Rattle.markdown_page.specs.declared.marks.TagName.{TagName}
use Rattle.markdown_page.specs.declared.marks.TagName.TheVariants.{Underline, UnderlineEnd, Raised, RaisedEnd, Lowered}
use Rattle.markdown_page.specs.declared.marks.TagName.TheVariants.{LoweredEnd, LineBreak, Comment}

abbrev pub mark_text : Mark → List ℕ
mark_text Strong = codes "**"
mark_text Emphasis = codes "_"
mark_text Strike = codes "~~"
mark_text NoteFront = codes "[^"
mark_text ReferenceEnd = codes "]"
mark_text NoteEnd = codes "]: "
mark_text FirstCell = codes "| "
mark_text NextCell = codes " | "
mark_text RowEnd = codes " |\n"
mark_text RuleFront = codes "|"
mark_text RuleColumn = codes " --- |"
mark_text LineEnd = codes "\n"
mark_text BlockEnd = codes "\n\n"
mark_text Indent = codes "    "
mark_text Level = codes "  "
mark_text Item = codes "- "
mark_text Heading1 = codes "# "
mark_text Heading2 = codes "## "
mark_text Heading3 = codes "### "
mark_text Heading4 = codes "#### "
mark_text Heading5 = codes "##### "
mark_text Heading6 = codes "###### "

abbrev pub tag_text : TagName → List ℕ
tag_text Underline = codes "u"
tag_text UnderlineEnd = codes "/u"
tag_text Raised = codes "sup"
tag_text RaisedEnd = codes "/sup"
tag_text Lowered = codes "sub"
tag_text LoweredEnd = codes "/sub"
tag_text LineBreak = codes "br"
tag_text Comment = codes "!-- --"

-- a heading below the sixth level is one of the sixth
abbrev pub heading_mark : ℕ → Mark
heading_mark level =
    if level == 1 then Heading1 else
    if level == 2 then Heading2 else
    if level == 3 then Heading3 else
    if level == 4 then Heading4 else
    if level == 5 then Heading5 else Heading6
