use Rattle.std.proofs.Common.{◌≡◌, ◌∙◌, length, ap, sym, subst}
use Rattle.coltypes.specs.declared.validity.Validity.{Validity}
use Rattle.coltypes.specs.declared.validity.Validity.TheVariants.{Array}
use Rattle.coltypes.specs.Valid.{Covers, validity_and}
use Rattle.colbase.proofs.HiddenRows.{covers_and}
use Rattle.colbase.proofs.Results.{if_ok-map}
use Rattle.colbase.proofs.array.mask.hide_validity.Goals as goal

pub returns-clause-covers : goal.returns-clause-covers
returns-clause-covers c =
    let joined : Validity = validity_and c.args.v.now (Array c.share.result) in
    let IsJoined : Validity → Type 0 = λ w. w ≡ joined in
    let Fits : Validity → Type 0 = λ w. Covers w c.args.len in
    if_ok-map IsJoined Fits c.and.result (λ w e. subst Fits (sym e) (covers_and c.args.v.now c.share.result c.args.len c.requires.covers (ap length c.share.ensures ∙ c.requires.counted))) c.and.ensures.both
