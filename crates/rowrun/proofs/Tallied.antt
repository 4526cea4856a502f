-- Nulls that are counted and numbers that are added up, row by row.
use Rattle.std.proofs.Common.{◌≡◌, ◌∙◌, ℕ, ℤ, pos, zero, suc, ◌+◌, ◌*◌, ◌<◌, ◌≤◌, ◌+ℤ◌, Bool, true, false, Option, Some, None, refl, ap, sym, subst, arith, add-one, ◌^◌, SFits, w64}
use Rattle.std.specs.Prelude.{is_some, unwrap_or, if◌then◌else◌, IfSome}
use Rattle.rowrun.specs.Generator.{IsSmall, most_rows, nulls_of, total_of}

-- the counts are of the first i rows, and the sum is no greater than so many small numbers may make
pub record Tallied (rows : ℕ → Option ℤ) (i nulls : ℕ) (sum : ℤ) : Type 0 where
  pub nulls_so_far : nulls ≡ nulls_of rows i
  pub sum_so_far : sum ≡ total_of rows i
  pub few : nulls ≤ i
  pub size : ℕ
  pub is : sum ≡ pos size
  pub bounded : size ≤ 4096 * i

pub none_tallied : (rows : ℕ → Option ℤ) → Tallied rows 0 0 (pos 0)
none_tallied rows = record { nulls_so_far = refl; sum_so_far = refl; few = omega arith; size = 0; is = refl; bounded = omega arith }

nulls_more : (rows : ℕ → Option ℤ) (i : ℕ) → nulls_of rows (i + 1) ≡ nulls_of rows i + (if is_some (rows i) then 0 else 1)
nulls_more rows i = rw add-one refl

total_more : (rows : ℕ → Option ℤ) (i : ℕ) → total_of rows (i + 1) ≡ total_of rows i +ℤ unwrap_or (rows i) (pos 0)
total_more rows i = rw add-one refl

-- one more null row
null_tallied : (rows : ℕ → Option ℤ) (i nulls more : ℕ) (sum total : ℤ) → Tallied rows i nulls sum → rows i ≡ None → more ≡ nulls + 1 → total ≡ sum +ℤ pos 0 → Tallied rows (i + 1) more total
null_tallied rows i nulls more sum total so is counted added =
    let count : nulls_of rows (i + 1) ≡ nulls_of rows i + 1 = nulls_more rows i ∙ ap (λ (r : Option ℤ). nulls_of rows i + (if is_some r then 0 else 1)) is in
    let same : total_of rows (i + 1) ≡ total_of rows i +ℤ pos 0 = total_more rows i ∙ ap (λ (r : Option ℤ). total_of rows i +ℤ unwrap_or r (pos 0)) is in
    let zero_more : so.size + 0 ≡ so.size = omega arith in
    record {
      nulls_so_far = omega (arith, counted, count, so.nulls_so_far);
      sum_so_far = added ∙ ap (λ (t : ℤ). t +ℤ pos 0) so.sum_so_far ∙ sym same;
      few = omega (arith, counted, so.few);
      size = so.size;
      is = added ∙ ap (λ (t : ℤ). t +ℤ pos 0) so.is ∙ ap pos zero_more;
      bounded = omega (arith, so.bounded);
    }

-- one more number
number_tallied : (rows : ℕ → Option ℤ) (i nulls more : ℕ) (sum z total : ℤ) → Tallied rows i nulls sum → rows i ≡ Some z → IsSmall z → more ≡ nulls + 0 → total ≡ sum +ℤ z → Tallied rows (i + 1) more total
number_tallied rows i nulls more sum z total so is small counted added =
    let count : nulls_of rows (i + 1) ≡ nulls_of rows i + 0 = nulls_more rows i ∙ ap (λ (r : Option ℤ). nulls_of rows i + (if is_some r then 0 else 1)) is in
    let same : total_of rows (i + 1) ≡ total_of rows i +ℤ z = total_more rows i ∙ ap (λ (r : Option ℤ). total_of rows i +ℤ unwrap_or r (pos 0)) is in
    record {
      nulls_so_far = omega (arith, counted, count, so.nulls_so_far);
      sum_so_far = added ∙ ap (λ (t : ℤ). t +ℤ z) so.sum_so_far ∙ sym same;
      few = omega (arith, counted, so.few);
      size = so.size + small.size;
      is = added ∙ ap (λ (t : ℤ). t +ℤ z) so.is ∙ ap (λ (t : ℤ). pos so.size +ℤ t) small.is;
      bounded = omega (arith, so.bounded, small.small);
    }

-- a small number that is a row's
small_row : (r : Option ℤ) (z : ℤ) → IfSome r IsSmall → r ≡ Some z → IsSmall z
small_row None z small is = cc
small_row (Some y) z small is = subst IsSmall (ap (λ (o : Option ℤ). unwrap_or o (pos 0)) is) small

-- one more row, null or not
pub row_tallied : (rows : ℕ → Option ℤ) (i nulls more : ℕ) (sum z total : ℤ) (mark : Bool) → Tallied rows i nulls sum → rows i ≡ (if mark then Some z else None) → IfSome (rows i) IsSmall
    → more ≡ nulls + (if mark then 0 else 1) → total ≡ sum +ℤ (if mark then z else pos 0) → Tallied rows (i + 1) more total
row_tallied rows i nulls more sum z total true so is small counted added = number_tallied rows i nulls more sum z total so is (small_row (rows i) z small is) counted added
row_tallied rows i nulls more sum z total false so is small counted added = null_tallied rows i nulls more sum total so is counted added

fits_below : (size : ℕ) → size < 2 ^ 63 → SFits w64 (pos size)
fits_below size low = record { sfits = low }

-- the sum with one number more is in range
pub fits_more : (rows : ℕ → Option ℤ) (i nulls : ℕ) (sum z : ℤ) → Tallied rows i nulls sum → rows i ≡ Some z → IfSome (rows i) IsSmall → i < most_rows → SFits w64 (sum +ℤ z)
fits_more rows i nulls sum z so is small within =
    let number = small_row (rows i) z small is in
    let total : sum +ℤ z ≡ pos (so.size + number.size) = ap (λ (t : ℤ). t +ℤ z) so.is ∙ ap (λ (t : ℤ). pos so.size +ℤ t) number.is in
    subst (SFits w64) (sym total) (fits_below (so.size + number.size) (omega (arith, so.bounded, number.small, within)))

-- rows that are the same have the same counts and sums
pub nulls_same : (f g : ℕ → Option ℤ) (n : ℕ) → ((i : ℕ) → i < n → f i ≡ g i) → nulls_of f n ≡ nulls_of g n
nulls_same f g zero same = refl
nulls_same f g (suc n) same =
    ap (λ (k : ℕ). k + (if is_some (f n) then 0 else 1)) (nulls_same f g n (λ i h. same i (omega (arith, h))))
    ∙ ap (λ (r : Option ℤ). nulls_of g n + (if is_some r then 0 else 1)) (same n (omega arith))

pub total_same : (f g : ℕ → Option ℤ) (n : ℕ) → ((i : ℕ) → i < n → f i ≡ g i) → total_of f n ≡ total_of g n
total_same f g zero same = refl
total_same f g (suc n) same =
    ap (λ (t : ℤ). t +ℤ unwrap_or (f n) (pos 0)) (total_same f g n (λ i h. same i (omega (arith, h))))
    ∙ ap (λ (r : Option ℤ). total_of g n +ℤ unwrap_or r (pos 0)) (same n (omega arith))
