use Rattle.std.proofs.Common.{rules, ◌≡◌, ◌∙◌, ℕ, ◌<◌, ap, Some}
use Rattle.std.specs.Prelude.{replicate}
use Rattle.bitlane.specs.Bits.{bit}
use Rattle.coltypes.specs.Cell.{Cell, truth}
use Rattle.colbase.specs.Arrays.{len, MustRead}
use Rattle.colbase.specs.Parts.{bits_of}
use Rattle.rowelems.specs.Elements.{shown_truth}
use Rattle.rowelems.specs.Reading.{IsTruth}
use Rattle.rowelems.proofs.Bits.{bits-len, bits-shown, filled-shown, truths-read}
use Rattle.colbase.proofs.Results.{if_ok-map}
use Rattle.rowelems.proofs.Types.{bool-unmasked, bool-layouts}
use Rattle.rowelems.proofs.element.boolean.decode_bits.Goals as goal

pub returns-in-Some-clause-len : goal.returns-in-Some-clause-len
returns-in-Some-clause-len c =
    let e : bits_of c.below_masks-stored.result.now ≡ Some c.in-Some.bits.now = search rules in
    rw c.share.ensures (bits-len c.args.array.now c.below_masks-stored.result.now c.in-Some.bits.now c.below_masks-stored.ensures e)

pub returns-in-Some-clause-same : goal.returns-in-Some-clause-same
returns-in-Some-clause-same c i h =
    let e : bits_of c.below_masks-stored.result.now ≡ Some c.in-Some.bits.now = search rules in
    rw c.share.ensures (bits-shown c.args.array.now c.below_masks-stored.result.now c.in-Some.bits.now c.below_masks-stored.ensures e i)

pub returns-in-Some-clause-read : goal.returns-in-Some-clause-read
returns-in-Some-clause-read c =
    let e : bits_of c.below_masks-stored.result.now ≡ Some c.in-Some.bits.now = search rules in
    truths-read c.args.array.now c.in-Some.bits.now (λ i h. bits-shown c.args.array.now c.below_masks-stored.result.now c.in-Some.bits.now c.below_masks-stored.ensures e i)

pub stored_bit-requires-clause-accepted : goal.stored_bit-requires-clause-accepted
stored_bit-requires-clause-accepted c = rw c.below_masks-stored.ensures (bool-unmasked c.args.array.now c.requires)

pub stored_bit-requires-clause-constant : goal.stored_bit-requires-clause-constant
stored_bit-requires-clause-constant c =
    rw c.below_masks-stored.ensures (bool-layouts c.args.array.now c.requires (let e = c.bits.ensures in let i = c.in-None.is in let s = c.below_masks-stored.ensures in search rules))

pub returns-in-None-clause-same : goal.returns-in-None-clause-same
returns-in-None-clause-same c =
    if_ok-map
    (λ b. b ≡ replicate c.len.result c.stored_bit.result)
    (λ b. (i : ℕ) → i < len c.args.array.now → truth (bit b i) ≡ shown_truth c.args.array.now i)
    c.filled_bits.result
    (λ b e. filled-shown c.args.array.now c.below_masks-stored.result.now c.stored_bit.result b c.below_masks-stored.ensures c.stored_bit.ensures (e ∙ ap (λ n. replicate n c.stored_bit.result) c.len.ensures))
    c.filled_bits.ensures.value

pub returns-in-None-clause-read : goal.returns-in-None-clause-read
returns-in-None-clause-read c =
    if_ok-map
    (λ b. b ≡ replicate c.len.result c.stored_bit.result)
    (λ b. (x : Cell) → MustRead c.args.array.now x → IsTruth x)
    c.filled_bits.result
    (λ b e. truths-read c.args.array.now b (filled-shown c.args.array.now c.below_masks-stored.result.now c.stored_bit.result b c.below_masks-stored.ensures c.stored_bit.ensures (e ∙ ap (λ n. replicate n c.stored_bit.result) c.len.ensures)))
    c.filled_bits.ensures.value
