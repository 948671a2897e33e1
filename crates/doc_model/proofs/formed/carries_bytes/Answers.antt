-- Each of the seven is a list of bytes.
use Rattle.std.proofs.Common.{[], ◌∷◌, subst}
use Rattle.std.proofs.lemmas.List.Elements.{All-nil, All-cons}
use Rattle.doc_bits.specs.Number.{AreBytes}
use Rattle.doc_model.proofs.formed.carries_bytes.Goals as goal

pub returns : goal.returns
returns c =
    let carried = c.args.carried.now in
    let lfo =
    All-cons AreBytes carried.lfo [] (subst AreBytes c.as_slice-6.ensures c.are_bytes-7.ensures)
    (All-nil AreBytes) in
    let levels =
    All-cons AreBytes carried.levels (carried.lfo ∷ [])
    (subst AreBytes c.as_slice-5.ensures c.are_bytes-6.ensures) lfo in
    let lst =
    All-cons AreBytes carried.lst (carried.levels ∷ carried.lfo ∷ [])
    (subst AreBytes c.as_slice-4.ensures c.are_bytes-5.ensures) levels in
    let assoc =
    All-cons AreBytes carried.assoc (carried.lst ∷ carried.levels ∷ carried.lfo ∷ [])
    (subst AreBytes c.as_slice-3.ensures c.are_bytes-4.ensures) lst in
    let dop =
    All-cons AreBytes carried.dop (carried.assoc ∷ carried.lst ∷ carried.levels ∷ carried.lfo ∷ [])
    (subst AreBytes c.as_slice-2.ensures c.are_bytes-3.ensures) assoc in
    let fonts =
    All-cons AreBytes carried.fonts (carried.dop ∷ carried.assoc ∷ carried.lst ∷ carried.levels ∷ carried.lfo ∷ [])
    (subst AreBytes c.as_slice.ensures c.are_bytes-2.ensures) dop in
    All-cons AreBytes carried.clsid (carried.fonts ∷ carried.dop ∷ carried.assoc ∷ carried.lst ∷ carried.levels ∷
    carried.lfo ∷ []) c.are_bytes.ensures fonts
