use Rattle.std.proofs.Common.{◌≡◌, ◌-◌, ◌<◌, [], ◌++◌, length, get_or, sym, ap, ◌∙◌, subst, arith}
use Rattle.std.specs.Result.{OnOk}
use Rattle.cfb_layout.specs.Entries.{entry_bytes, root_name, no_clsid}
use Rattle.cfb_layout.specs.Layout.{lengths_of, no_stream, root_fields, stream_fields, directory_entry}
use Rattle.cfb_layout.proofs.WritingLemmas.{name_is, stream_is, unused_is}
use Rattle.cfb_layout.proofs.writing.push_directory_entry.Goals as goal

pub returns-then-k-eq0 : goal.returns-then-k-eq0
unfolding root_name
returns-then-k-eq0 c =
    let streams = c.args.streams.now in
    let clsid = c.args.clsid.now in
    let fields = c.root.ensures ∙ ap root_fields c.requires in
    let entry : record { name = root_name; clsid = clsid; fields = c.root.result } ≡ directory_entry streams clsid
    c.args.k =
    ap (λ f. record { name = root_name; clsid = clsid; fields = f }) fields ∙ ap (λ k. directory_entry streams clsid
    k) (sym c.if-k-eq0.true) in
    subst (λ e. OnOk c.push_entry.result (c.push_entry.new.out ≡ c.args.out.now ++ entry_bytes e)) entry
    c.push_entry.ensures

pub returns-then-k-count : goal.returns-then-k-count
unfolding no_clsid
returns-then-k-count c =
    let streams = c.args.streams.now in
    let clsid = c.args.clsid.now in
    let len = c.count.ensures.len in
    let some = c.if-k-eq0.false in
    let most = c.if-k-count.true in
    let low : c.args.k - 1 < length streams = omega arith in
    let name = name_is streams (c.args.k - 1) c.name-name.result.now low c.name-name.ensures in
    let fields : c.stream.result ≡ stream_fields (lengths_of streams) (c.args.k - 1)
    (length (get_or streams (c.args.k - 1) no_stream).name) =
    c.stream.ensures ∙ (ap (λ lengths. stream_fields lengths (c.args.k - 1) (length c.name-name.result.now))
    c.requires ∙ ap (λ n. stream_fields (lengths_of streams) (c.args.k - 1) (length n)) (sym name)) in
    let entry : record { name = c.name-name.result.now; clsid = no_clsid; fields = c.stream.result } ≡ directory_entry
    streams clsid c.args.k =
    ap (λ f. record { name = c.name-name.result.now; clsid = no_clsid; fields = f }) fields
    ∙ (ap (λ n. record {
      name = n;
      clsid = no_clsid;
      fields = stream_fields (lengths_of streams) (c.args.k - 1)
          (length (get_or streams (c.args.k - 1) no_stream).name);
    }) (sym name)
    ∙ stream_is streams clsid c.args.k (c.args.k - 1) low (omega arith)) in
    subst (λ e. OnOk c.push_entry-then-k-count.result (c.push_entry-then-k-count.new.out ≡ c.args.out.now ++
    entry_bytes e)) entry c.push_entry-then-k-count.ensures

pub returns-else-k-count : goal.returns-else-k-count
unfolding no_clsid
returns-else-k-count c =
    let streams = c.args.streams.now in
    let clsid = c.args.clsid.now in
    let len = c.count.ensures.len in
    let more = c.if-k-count.false in
    let entry : record { name = []; clsid = no_clsid; fields = c.unused.result } ≡ directory_entry streams clsid
    c.args.k =
    ap (λ f. record { name = []; clsid = no_clsid; fields = f }) c.unused.ensures ∙ unused_is streams clsid c.args.k
    (omega arith) in
    subst (λ e. OnOk c.push_entry-else-k-count.result (c.push_entry-else-k-count.new.out ≡ c.args.out.now ++
    entry_bytes e)) entry c.push_entry-else-k-count.ensures
