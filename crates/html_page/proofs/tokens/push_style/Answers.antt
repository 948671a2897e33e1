use Rattle.std.proofs.Common.{◌++◌, ◌∷◌, [], List, ℕ, sym, ap, ◌∙◌, append-nil, refl}
use Rattle.std.specs.Prelude.{codes, if◌then◌else◌}
use Rattle.std.specs.Fmt.{decimal}
use Rattle.page_out.proofs.Public.{put_then, three_put}
use Rattle.html_text.specs.Tokens.{Character, escaped, printed}
use Rattle.html_page.specs.Pages.{back_tokens, characters, close_tokens, end, front_tokens, open_tokens, other_tokens}
use Rattle.html_page.specs.Pages.{style_tokens}
use Rattle.html_page.specs.Tags.{attributes_of, attributes_text, ends_line, element_name}
use Rattle.html_page.proofs.PutLemmas.{end_pieces, four_put, open_pieces, put_as, tokens_then}
use Rattle.html_page.proofs.PutLemmas.{ascii_all}
use Rattle.html_page.proofs.tokens.push_style.Goals as goal

pub returns : goal.returns
returns g c =
    three_put g.K.Sink c.args.out.now c.push_ascii.new.out c.push_ascii-2.new.out c.push_ascii-3.new.out
    c.args.page.now c.push_ascii.new.self c.push_ascii-2.new.self c.push_ascii-3.new.self (codes
    "</title>\n<style>p,h1,h2,h3,h4,h5,h6{white-space:pre-wrap}") (codes
    "td p,th p{margin:0}table{border-collapse:collapse}") (codes
    "td,th{border:1px solid;padding:.2em;vertical-align:top}</style>\n</head>\n<body>\n") c.push_ascii.ensures
    c.push_ascii-2.ensures c.push_ascii-3.ensures

pub push_ascii-requires : goal.push_ascii-requires
push_ascii-requires g c = ascii_all (codes "</title>\n<style>p,h1,h2,h3,h4,h5,h6{white-space:pre-wrap}") refl

pub push_ascii-requires-2 : goal.push_ascii-requires-2
push_ascii-requires-2 g c = ascii_all (codes "td p,th p{margin:0}table{border-collapse:collapse}") refl

pub push_ascii-requires-3 : goal.push_ascii-requires-3
push_ascii-requires-3 g c = ascii_all (codes
    "td,th{border:1px solid;padding:.2em;vertical-align:top}</style>\n</head>\n<body>\n") refl
