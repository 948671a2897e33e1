use Rattle.std.proofs.Common.{length, ◌-◌}
use Rattle.markdown_page.proofs.printer.MarkdownPage.+open_to.Given as goal

abbrev pub decreases-open_to : goal.decreases-open_to
decreases-open_to g l = length l.to.now - length l.self.now.path
