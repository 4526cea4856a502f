use Rattle.std.proofs.Common.{rules, w64, SFits, ◌≡◌, ◌∙◌, ℕ, ◌<◌, ap, sym, subst, length, Some, None}
use Rattle.std.proofs.lemmas.Int.{to_z-of_z}
use Rattle.std.specs.Prelude.{pos, replicate, slice_get, slice_index_or}
use Rattle.coltypes.specs.Cell.{number}
use Rattle.colbase.specs.Natives.{signed_at}
use Rattle.colbase.specs.Arrays.{len}
use Rattle.colbase.specs.Parts.{storage_of}
use Rattle.rowelems.specs.Elements.{shown_number}
use Rattle.rowelems.proofs.Numbers.{number-shown, get-replicate}
use Rattle.colbase.proofs.Results.{if_ok-map}
use Rattle.rowelems.proofs.Timestamps.{timestamp-layouts, timestamp-storage, timestamp-stored, storage-len, storage-shown}
use Rattle.rowelems.proofs.element.timestamp_row.stored_timestamps.Goals as goal

pub stored_numbers-requires : goal.stored_numbers-requires
stored_numbers-requires c =
    let o : storage_of c.below_masks-outer.result.now ≡ Some c.in-Some.storage.now = search rules in
    timestamp-storage c.args.array.now c.below_masks-outer.result.now c.in-Some.storage.now c.below_masks-outer.ensures c.checks.ensures o c.requires

pub stored_number-requires-clause-accepted : goal.stored_number-requires-clause-accepted
stored_number-requires-clause-accepted c = timestamp-stored c.args.array.now c.below_masks-outer.result.now c.below_masks-outer.ensures c.requires

pub stored_number-requires-clause-constant : goal.stored_number-requires-clause-constant
stored_number-requires-clause-constant c =
    let o : storage_of c.below_masks-outer.result.now ≡ None = search rules in
    let s = c.below_masks-outer.ensures in
    rw s (timestamp-layouts c.args.array.now c.requires (ap storage_of (sym s) ∙ o))

pub returns-in-Some-clause-len : goal.returns-in-Some-clause-len
returns-in-Some-clause-len c =
    let o : storage_of c.below_masks-outer.result.now ≡ Some c.in-Some.storage.now = search rules in
    let many = storage-len c.args.array.now c.below_masks-outer.result.now c.in-Some.storage.now c.below_masks-outer.ensures o in
    if_ok-map (λ b. length b ≡ len c.in-Some.storage.now) (λ b. length b ≡ len c.args.array.now) c.stored_numbers.result (λ b e. e ∙ many) c.stored_numbers.ensures.len

pub returns-in-Some-clause-same : goal.returns-in-Some-clause-same
returns-in-Some-clause-same c =
    let a = c.args.array.now in
    let x = c.in-Some.storage.now in
    let o : storage_of c.below_masks-outer.result.now ≡ Some x = search rules in
    let many = storage-len a c.below_masks-outer.result.now x c.below_masks-outer.ensures o in
    let shown = storage-shown a c.below_masks-outer.result.now x c.below_masks-outer.ensures o in
    if_ok-map
    (λ b. (i : ℕ) → i < len x → number (slice_index_or b i (pos 0)) ≡ shown_number x i)
    (λ b. (i : ℕ) → i < len a → number (slice_index_or b i (pos 0)) ≡ shown_number a i)
    c.stored_numbers.result
    (λ b e i h. e i (subst (λ n. i < n) (sym many) h) ∙ shown i)
    c.stored_numbers.ensures.same

pub returns-in-None-clause-same : goal.returns-in-None-clause-same
returns-in-None-clause-same c =
    let fits : SFits w64 c.stored_number.result = search rules in
    if_ok-map
    (λ b. b ≡ replicate c.len.result c.stored_number.result)
    (λ b. (i : ℕ) → i < len c.args.array.now → number (slice_index_or b i (pos 0)) ≡ shown_number c.args.array.now i)
    c.filled.result
    (λ b e i h. number-shown c.args.array.now c.below_masks-outer.result.now c.stored_number.result (slice_index_or b i (pos 0)) i c.below_masks-outer.ensures c.stored_number.ensures (signed_at b i c.stored_number.result (ap (λ xs. slice_get xs i) e ∙ get-replicate c.len.result c.stored_number.result i (subst (λ n. i < n) (sym c.len.ensures) h))))
    (simp (to_z-of_z, fits) at c.filled.ensures.value)
