-- A part of a part of a list.
use Rattle.std.proofs.Common.{◌≡◌, ◌∙◌, ℕ, ◌+◌, ◌-◌, ◌≤◌, List, length, take, drop, slice_range, ap, sym, arith}
use Rattle.std.proofs.lemmas.Grind.{common_steps}
use Rattle.std.proofs.lemmas.List.{take-take, drop-drop, drop-take}

pub length-slice_range : {X : Type 0} (xs : List X) (a b : ℕ) → a ≤ b → b ≤ length xs → length (slice_range xs a b) ≡ b - a
length-slice_range xs a b h k = grind (arith, common_steps)

pub slice_range-slice_range : {X : Type 0} (xs : List X) (a b i j : ℕ) → i ≤ j → j ≤ b - a → slice_range xs (a + i) (a + j) ≡ slice_range (slice_range xs a b) i j
slice_range-slice_range xs a b i j h2 h3 =
    let m : (a + j) - (a + i) ≡ j - i = omega arith in
    let k : i + ((b - a) - i) ≡ b - a = omega arith in
    let le : j - i ≤ (b - a) - i = omega arith in
    ap (λ n. take n (drop (a + i) xs)) m
    ∙ ap (λ l. take (j - i) l) (sym (drop-drop i a xs))
    ∙ sym (take-take (j - i) ((b - a) - i) (drop i (drop a xs)) le)
    ∙ ap (λ l. take (j - i) l) (sym (drop-take i ((b - a) - i) (drop a xs)))
    ∙ ap (λ n. take (j - i) (drop i (take n (drop a xs)))) k
