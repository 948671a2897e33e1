-- Profile: the tree of the root's entries. Over entries in a row the middle one is on top, those below it are left of
-- it and
-- those above it right. A span of entries is its first one and their number.
use Rattle.std.specs.Prelude.{ℕ, zero, suc, ◌+◌, ◌-◌, ◌/◌, nat_eq, nat_lt, if◌then◌else◌}
use Rattle.cfb_directory.specs.Directory.{no_stream_entry}
use Rattle.cfb_layout.specs.declared.tree.Span.{Span}

abbrev pub middle : Span → ℕ
middle span = span.low + span.count / 2

abbrev pub lower : Span → Span
lower span = record { low = span.low; count = span.count / 2 }

abbrev pub upper : Span → Span
upper span = record { low = span.low + span.count / 2 + 1; count = span.count - span.count / 2 - 1 }

-- the link to a span's entries
abbrev pub top : Span → ℕ
top span = if nat_eq span.count 0 then no_stream_entry else middle span

-- the entries of all streams
abbrev pub all_entries : ℕ → Span
all_entries count = record { low = 1; count = count }

-- the part of a span whose top is the entry, after so many steps at most
abbrev pub span_of_entry : ℕ → ℕ → Span → Span
span_of_entry zero entry span = span
span_of_entry (suc steps) entry span =
    if nat_lt entry (middle span) then span_of_entry steps entry (lower span)
    else (if nat_lt (middle span) entry then span_of_entry steps entry (upper span) else span)

-- the links of an entry among so many streams
abbrev pub left_of : ℕ → ℕ → ℕ
left_of count entry = top (lower (span_of_entry count entry (all_entries count)))

abbrev pub right_of : ℕ → ℕ → ℕ
right_of count entry = top (upper (span_of_entry count entry (all_entries count)))
