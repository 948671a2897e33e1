use Rattle.std.proofs.Common.{refl}
use Rattle.std.specs.Prelude.{codes}
use Rattle.page_out.proofs.Public.{put_then}
use Rattle.html_page.proofs.PutLemmas.{ascii_all}
use Rattle.html_page.proofs.tokens.push_metas.Goals as goal

pub returns : goal.returns
returns g c =
    put_then g.K.Sink c.args.out.now c.push_ascii.new.out c.push_ascii-2.new.out c.args.page.now c.push_ascii.new.self
    c.push_ascii-2.new.self (codes ">\n<head>\n<meta charset=\"utf-8\">\n") (codes
    "<meta name=\"viewport\" content=\"width=device-width,initial-scale=1\">\n<title>") c.push_ascii.ensures
    c.push_ascii-2.ensures

pub push_ascii-requires : goal.push_ascii-requires
push_ascii-requires g c = ascii_all (codes ">\n<head>\n<meta charset=\"utf-8\">\n") refl

pub push_ascii-requires-2 : goal.push_ascii-requires-2
push_ascii-requires-2 g c = ascii_all (codes
    "<meta name=\"viewport\" content=\"width=device-width,initial-scale=1\">\n<title>") refl
