use Rattle.std.proofs.Common.{rules, ◌≡◌, ◌∙◌, ℕ, ◌<◌, ◌≤◌, true, List, length, slice_index_or, refl, sym, subst}
use Rattle.std.specs.Prelude.{pos, ◌⊎◌}
use Rattle.coltypes.specs.declared.fault.Fault.TheVariants.{Memory}
use Rattle.bitlane.specs.Bits.{bit}
use Rattle.coltypes.specs.Cell.{Cell, number}
use Rattle.colbase.specs.Arrays.{len, MustRead}
use Rattle.coltypes.specs.Masks.{mask_bits}
use Rattle.rowelems.specs.Elements.{shown_scale}
use Rattle.rowelems.specs.Reading.{DecodeCause, IsScale}
use Rattle.rowelems.specs.Scales.{ScaleCause, number_or_zero}
use Rattle.rowelems.proofs.ReadNumbers.{all-read, scale-fails, decode-fails, scales-read, scales-shown}
use Rattle.colbase.proofs.Results.{if_ok-map}
use Rattle.rowelems.proofs.Results.{err-then, ok-both-then}
use Rattle.rowelems.proofs.element.decimal_scale.decode_scales.Goals as goal

pub returns-in_err-check_scales-clause-errors : goal.returns-in_err-check_scales-clause-errors
returns-in_err-check_scales-clause-errors c =
    let a = c.args.array.now in
    let xs = c.in_ok-numbers.numbers in
    let each = all-read a c.in-AllTrue.field-0 c.in-AllTrue.ensures.rows c.in-AllTrue.ensures.tells in
    let cause = scale-fails a (λ i. true) xs c.in_ok-numbers.ensures.len each c.in_ok-numbers.ensures.same c.in_err-check_scales.field-0.0 (rw c.as_slice.ensures at c.in_err-check_scales.ensures.errors) in
    search (rules, cause)

pub returns-in-AllTrue-clause-same : goal.returns-in-AllTrue-clause-same
returns-in-AllTrue-clause-same c =
    let a = c.args.array.now in
    let xs = c.in_ok-numbers.numbers in
    let each = all-read a c.in-AllTrue.field-0 c.in-AllTrue.ensures.rows c.in-AllTrue.ensures.tells in
    scales-shown a (λ i. true) xs xs each c.in_ok-numbers.ensures.same (λ i lt. refl)

pub returns-in-AllTrue-clause-read : goal.returns-in-AllTrue-clause-read
returns-in-AllTrue-clause-read c =
    let a = c.args.array.now in
    let xs = c.in_ok-numbers.numbers in
    let each = all-read a c.in-AllTrue.field-0 c.in-AllTrue.ensures.rows c.in-AllTrue.ensures.tells in
    let within = rw c.as_slice.ensures at c.in_ok-check_scales.ensures.read in
    scales-read a xs (scales-shown a (λ i. true) xs xs each c.in_ok-numbers.ensures.same (λ i lt. refl)) (λ i lt. within i (subst (λ n. i < n) (sym c.in_ok-numbers.ensures.len) lt))

pub returns : goal.returns
returns c =
    let a = c.args.array.now in
    let xs = c.in_ok-numbers.numbers in
    let bits = mask_bits c.read_rows-read.result in
    let read = λ (i : ℕ). bit bits i in
    let r = c.scales_of.result in
    let many = c.in_ok-numbers.ensures.len in
    let inside = λ (i : ℕ) (lt : i < len a). subst (λ n. i < n) (sym many) lt in
    let places = rw c.as_slice-2.ensures at c.scales_of.ensures.len in
    let same = rw c.as_slice-2.ensures at c.scales_of.ensures.same in
    let within = rw c.as_slice-2.ensures at c.scales_of.ensures.read in
    let fails = rw c.as_slice-2.ensures at c.scales_of.ensures.errors in
    let Same : List ℕ → Type 0 = λ ys. (i : ℕ) → i < length xs → slice_index_or ys i 0 ≡ number_or_zero (bit bits i) (slice_index_or xs i 0) in
    let Within : List ℕ → Type 0 = λ ys. (i : ℕ) → i < length xs → slice_index_or ys i 0 ≤ 18 in
    let shown = λ (ys : List ℕ) (s : Same ys). scales-shown a read xs ys c.read_rows-read.ensures.tells c.in_ok-numbers.ensures.same (λ i lt. s i (inside i lt)) in
    record {
      len = if_ok-map (λ ys. length ys ≡ length xs) (λ ys. length ys ≡ len a) r (λ ys e. e ∙ many) places;
      same = if_ok-map Same (λ ys. (i : ℕ) → i < len a → number (pos (slice_index_or ys i 0)) ≡ shown_scale a i) r shown same;
      read = ok-both-then Same Within (λ ys. (x : Cell) → MustRead a x → IsScale x) r same within (λ ys s w. scales-read a ys (shown ys s) (λ i lt. w i (inside i lt)));
      errors = err-then (λ e. (e ≡ Memory) ⊎ ScaleCause read xs e) (λ e. DecodeCause IsScale a e) r fails (decode-fails a read xs many c.read_rows-read.ensures.tells c.in_ok-numbers.ensures.same);
    }
