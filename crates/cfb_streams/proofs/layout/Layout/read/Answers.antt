use Rattle.std.proofs.Common.{length, sym, ap, ◌∙◌, subst, arith}
use Rattle.std.specs.List.{flat_map}
use Rattle.cfb_sectors.specs.Header.{sector_bytes}
use Rattle.cfb_sectors.specs.Chain.{AreSectorsOf}
use Rattle.cfb_streams.specs.FoundParts.{mini_place}
use Rattle.cfb_streams.specs.Layout.{IsSoundLayout, layout_places_of}
use Rattle.cfb_streams.proofs.ContentLemmas.{mini_fat_inside, mini_stream_inside, mini_place_is}
use Rattle.cfb_sectors.proofs.Public.{whole_length}
use Rattle.cfb_streams.proofs.layout.Layout.read.Goals as goal

pub mini_sectors-valid-requires-clause-few : goal.mini_sectors-valid-requires-clause-few
mini_sectors-valid-requires-clause-few c =
    let whole = whole_length c.args.entries.file c.requires.is_layout.opening.0 in
    let few = (mini_fat_inside c.args.entries.file c.args.mini_fat.items whole c.requires.is_layout.mini_fat).few in
    let len = ap length c.deref.ensures.value in omega arith

pub read-requires-clause-inside : goal.read-requires-clause-inside
read-requires-clause-inside c =
    let whole = whole_length c.args.entries.file c.requires.is_layout.opening.0 in
    subst (λ f. AreSectorsOf f c.args.mini_fat.items) (sym c.file-file.ensures)
    (mini_fat_inside c.args.entries.file c.args.mini_fat.items whole c.requires.is_layout.mini_fat)

pub read_sectors-requires : goal.read_sectors-requires
read_sectors-requires c =
    let whole = whole_length c.args.entries.file c.requires.is_layout.opening.0 in
    subst (λ f. AreSectorsOf f c.deref-2.result.now) (sym c.file-file.ensures)
    (subst (AreSectorsOf c.args.entries.file) (sym c.deref-2.ensures.value)
    (mini_stream_inside c.args.entries.file c.args.entries.directory c.args.mini_stream.items whole
    c.requires.is_layout.mini_stream))

pub invariant_of-result : goal.invariant_of-result
invariant_of-result c =
    let mini = mini_place_is c.args.entries.file c.file-file.result.now c.args.entries.directory c.directory.result.now
    c.args.mini_fat.items c.deref.result.now c.mini_sectors-valid.result c.in_ok-mini.mini
    c.file-file.ensures c.directory.ensures.sectors c.deref.ensures.value c.mini_sectors-valid.ensures
    c.in_ok-mini.ensures in
    let sectors = ap (λ t. t.sectors) mini in
    record {
      is_layout = subst (λ m. IsSoundLayout (layout_places_of c.args.entries m c.args.mini_stream.items)) (sym sectors)
          c.requires.is_layout;
      is_fat = c.requires.is_fat;
      is_mini = mini ∙ ap (mini_place c.args.entries.file c.args.entries.directory) (sym sectors);
      joined = c.in_ok-stored.ensures
          ∙ (ap (λ f. flat_map (sector_bytes 512 512 f) c.deref-2.result.now) c.file-file.ensures
          ∙ ap (flat_map (sector_bytes 512 512 c.args.entries.file)) c.deref-2.ensures.value);
    }

pub returns : goal.returns
returns c = ap (λ m. layout_places_of c.args.entries m c.args.mini_stream.items) (ap (λ t. t.sectors)
    c.in_ok-mini.ensures)
