use Rattle.std.proofs.Common.{length}
use Rattle.markdown_page.proofs.printer.MarkdownPage.+close_to.Given as goal

abbrev pub decreases-close_to : goal.decreases-close_to
decreases-close_to g l = length l.self.now.path
