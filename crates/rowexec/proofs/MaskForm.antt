-- The mask of the full rows has the form that their number determines.
use Rattle.std.proofs.Common.{◌≡◌, ◌∙◌, ◌==◌, ◌<◌, ℕ, Bool, true, false, List, length, ap, subst, sym, arith, eq-eqb}
use Rattle.std.proofs.lemmas.Bool.Decides.{nat_tests}
use Rattle.std.specs.Prelude.{Ok, count_by, if◌then◌else◌, is_some}
use Rattle.bitlane.specs.Bits.{bit}
use Rattle.bitlane.proofs.Tables.{length-tabulate}
use Rattle.colbase.proofs.KeptRows.{trues-count_by}
use Rattle.colbase.specs.Arrays.{Array}
use Rattle.coltypes.specs.Keep.{trues}
use Rattle.coltypes.specs.Masks.{mask_bits, mask_of_bits, validity_mask}
use Rattle.coltypes.specs.Valid.{Covers, valid_at}
use Rattle.coltypes.specs.declared.mask.Mask.{Mask}
use Rattle.coltypes.specs.declared.mask.Mask.TheVariants as m
use Rattle.coltypes.specs.declared.validity.Validity.{Validity}
use Rattle.coltypes.specs.declared.validity.Validity.TheVariants as v
use Rattle.rowexec.specs.Batch.{Fits, MarksFull}
use Rattle.rowexec.specs.Counts.{full_bits}
use Rattle.rowexec.specs.Rows.{full_cells}
use Rattle.rowexec.proofs.Selected.{marks_are, trues_all, trues_none}

all_marked : (bits : List Bool) (n : ℕ) → length bits ≡ n → trues bits ≡ n → m.AllTrue n ≡ mask_of_bits bits (trues bits)
all_marked bits n counted each =
    let whole : (trues bits == length bits) ≡ true = eq-eqb (trues bits) (length bits) (each ∙ sym counted) in
    sym (ap (λ (b : Bool). if b then m.AllTrue (length bits) else if trues bits == 0 then m.AllFalse (length bits) else m.Values bits) whole ∙ ap m.AllTrue counted)

none_marked : (bits : List Bool) (n : ℕ) → 0 < n → length bits ≡ n → trues bits ≡ 0 → m.AllFalse n ≡ mask_of_bits bits (trues bits)
none_marked bits n some counted none =
    let other : (trues bits == length bits) ≡ false = grind (arith, nat_tests, some, counted, none) in
    let empty : (trues bits == 0) ≡ true = eq-eqb (trues bits) 0 none in
    sym (ap (λ (b : Bool). if b then m.AllTrue (length bits) else if trues bits == 0 then m.AllFalse (length bits) else m.Values bits) other
    ∙ ap (λ (b : Bool). if b then m.AllFalse (length bits) else m.Values bits) empty ∙ ap m.AllFalse counted)

some_marked : (bits marks : List Bool) → bits ≡ marks → mask_of_bits marks (count_by (λ b. b) marks) ≡ mask_of_bits bits (trues bits)
some_marked bits marks same = ap (mask_of_bits marks) (trues-count_by marks) ∙ ap (λ (bs : List Bool). mask_of_bits bs (trues bs)) (sym same)

pub mask_form : (full : Validity) (n : ℕ) (columns : List Array) → 0 < n → Covers full n → ((i : ℕ) → i < n → valid_at full i ≡ is_some (full_cells columns i)) → validity_mask full n ≡ mask_of_bits (full_bits n columns) (trues (full_bits n columns))
mask_form v.NonNullable n columns some covers tells = all_marked (full_bits n columns) n (length-tabulate _ n) (trues_all _ n (λ i h. sym (tells i h)))
mask_form v.AllValid n columns some covers tells = all_marked (full_bits n columns) n (length-tabulate _ n) (trues_all _ n (λ i h. sym (tells i h)))
mask_form v.AllInvalid n columns some covers tells = none_marked (full_bits n columns) n some (length-tabulate _ n) (trues_none _ n (λ i h. sym (tells i h)))
mask_form (v.Array marks) n columns some covers tells = some_marked (full_bits n columns) marks (marks_are _ n marks covers tells)

-- a mask that says what the validity of the full rows says
pub marks_full : (arity n m k : ℕ) (columns told : List Array) (full : Validity) (mask : Mask) → told ≡ columns → m ≡ n → k ≡ n → Fits arity n columns → Covers full m → ((i : ℕ) → i < m → valid_at full i ≡ is_some (full_cells told i))
    → mask ≡ validity_mask full k → length (mask_bits mask) ≡ k → ((i : ℕ) → i < k → bit (mask_bits mask) i ≡ valid_at full i) → MarksFull arity columns n (Ok mask)
marks_full arity n m k columns told full mask e f g fits covers tells is counted each =
    let Of : ℕ → Type 0 = λ x. Covers full x in
    let covers_all : Covers full n = subst Of f covers in
    let tells_all : (i : ℕ) → i < n → valid_at full i ≡ is_some (full_cells columns i) = λ i h. tells i (subst (λ x. i < x) (sym f) h) ∙ ap (λ (xs : List Array). is_some (full_cells xs i)) e in
    record {
      fits = fits;
      len = counted ∙ g;
      rows = λ i h. each i (subst (λ x. i < x) (sym g) h) ∙ tells_all i h;
      form = λ some. is ∙ ap (validity_mask full) g ∙ mask_form full n columns some covers_all tells_all;
      errors = tt;
    }
