use Rattle.std.proofs.Common.{rules, ◌≡◌, ◌∙◌, ℕ, ◌<◌, ap, sym, subst, Some, None}
use Rattle.std.specs.Prelude.{replicate, slice_get}
use Rattle.coltypes.specs.Cell.{number}
use Rattle.coltypes.specs.Values.{number_at}
use Rattle.colbase.specs.Arrays.{dtype, len}
use Rattle.colbase.specs.Parts.{values_of}
use Rattle.rowelems.specs.Elements.{shown_number}
use Rattle.rowelems.proofs.Numbers.{numbers-count, numbers-shown, number-shown, get-replicate}
use Rattle.colbase.proofs.Results.{if_ok-map}
use Rattle.rowelems.specs.Unmasked.{unmasked}
use Rattle.rowelems.proofs.Types.{integer-unmasked, integer-stored, integer-layouts}
use Rattle.rowelems.proofs.element.integer.stored_numbers.Goals as goal

pub stored_number-requires-clause-accepted : goal.stored_number-requires-clause-accepted
stored_number-requires-clause-accepted g c = rw c.below_masks-stored.ensures (integer-stored g.T.NativeInt.ptype (dtype (unmasked c.args.array.now)) (integer-unmasked g.T.NativeInt.ptype c.args.array.now c.requires))

pub stored_number-requires-clause-constant : goal.stored_number-requires-clause-constant
stored_number-requires-clause-constant g c =
    let e = c.values_of.ensures in
    let i = c.in-None.is in
    let s = c.below_masks-stored.ensures in
    let n : g.T.NativeInt.lent (values_of c.below_masks-stored.result.now) ≡ None = search rules in
    rw s (integer-layouts g.T.NativeInt.ptype g.T.NativeInt.lent g.met.T.NativeInt.lent_by_type c.args.array.now c.requires (ap (λ a. g.T.NativeInt.lent (values_of a)) (sym s) ∙ n))

pub returns-in-Some-clause-len : goal.returns-in-Some-clause-len
returns-in-Some-clause-len g c =
    let n : g.T.NativeInt.lent (values_of c.below_masks-stored.result.now) ≡ Some c.in-Some.values.now = search rules in
    let w = g.met.T.NativeInt.lent_is_stored (values_of c.below_masks-stored.result.now) c.in-Some.values.now n in
    rw c.share.ensures (sym (g.met.T.NativeInt.counted c.in-Some.values.now) ∙ numbers-count c.args.array.now c.below_masks-stored.result.now (g.T.NativeInt.stored c.in-Some.values.now) c.below_masks-stored.ensures w)

pub returns-in-Some-clause-same : goal.returns-in-Some-clause-same
returns-in-Some-clause-same g c i h =
    let n : g.T.NativeInt.lent (values_of c.below_masks-stored.result.now) ≡ Some c.in-Some.values.now = search rules in
    let w = g.met.T.NativeInt.lent_is_stored (values_of c.below_masks-stored.result.now) c.in-Some.values.now n in
    rw c.share.ensures (numbers-shown c.args.array.now c.below_masks-stored.result.now (g.T.NativeInt.stored c.in-Some.values.now) c.below_masks-stored.ensures w i)

pub returns-in-None-clause-same : goal.returns-in-None-clause-same
returns-in-None-clause-same g c =
    if_ok-map
    (λ b. b ≡ replicate c.len.result c.stored_number.result)
    (λ b. (i : ℕ) → i < len c.args.array.now → number (number_at (g.T.NativeInt.stored b) i) ≡ shown_number c.args.array.now i)
    c.filled.result
    (λ b e i h. number-shown c.args.array.now c.below_masks-stored.result.now (g.T.NativeInt.number c.stored_number.result) (number_at (g.T.NativeInt.stored b) i) i c.below_masks-stored.ensures c.stored_number.ensures (g.met.T.NativeInt.numbered b i c.stored_number.result (ap (λ xs. slice_get xs i) e ∙ get-replicate c.len.result c.stored_number.result i (subst (λ n. i < n) (sym c.len.ensures) h))))
    c.filled.ensures.value
