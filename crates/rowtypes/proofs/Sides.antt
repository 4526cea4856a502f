-- Two tuples side by side, over their columns one after the other.
use Rattle.std.proofs.Common.{◌≡◌, ℕ, suc, ◌+◌, ◌-◌, ◌<◌, ◌≤◌, Bool, true, false, ◌&&◌, nat_lt, List, [], ◌∷◌, ◌++◌, length, Option, refl, sym, ap, ◌∙◌, subst, arith}
use Rattle.std.proofs.lemmas.Bool.Decides.{nat_tests}
use Rattle.coltypes.specs.Cell.{Cell}
use Rattle.coltypes.specs.LogicalType.{LogicalType}
use Rattle.colbase.specs.Arrays.{Array, dtype, len}
use Rattle.rowelems.specs.Shown.{batch_value}
use Rattle.rowtypes.specs.Rows.{AcceptsFrom, HasRow, ReadsAllFrom, ReadsFrom, all_tolerant, batch_values, decoded_lengths, each_length, shown_from}
use Rattle.rowelems.specs.Argument.{is_length, length_unless}
use Rattle.rowtypes.specs.SideBySide.{choose, side_by_side, choose_reads, reads_side_by_side}

below : (k n : ℕ) → k < n → nat_lt k n ≡ true
below k n h = grind (arith, nat_tests)

above : (k n : ℕ) → n ≤ k → nat_lt k n ≡ false
above k n h = grind (arith, nat_tests)

-- below n a place is of the first, and from n on of the second
pub at_first : {T : Type 0} (n : ℕ) (f g : ℕ → T) (k : ℕ) → k < n → side_by_side n f g k ≡ f k
at_first n f g k h = ap (λ b. choose b (f k) (g (k - n))) (below k n h)

pub at_second : {T : Type 0} (n : ℕ) (f g : ℕ → T) (k j : ℕ) → k ≡ n + j → side_by_side n f g k ≡ g j
at_second n f g k j e =
    let le : n ≤ k = omega arith in
    let s : k - n ≡ j = omega arith in
    ap (λ b. choose b (f k) (g (k - n))) (above k n le) ∙ ap g s

pub shown_first : (n : ℕ) (f g : ℕ → Array → ℕ → Cell) (k : ℕ) (xs : List Array) (i : ℕ) → k + length xs ≤ n → shown_from (side_by_side n f g) k xs i ≡ shown_from f k xs i
shown_first n f g k [] i h = refl
shown_first n f g k (a ∷ xs) i h =
    let lt : k < n = omega arith in
    let le : suc k + length xs ≤ n = omega arith in
    let e : side_by_side n f g k a i ≡ f k a i = ap (λ s. s a i) (at_first n f g k lt) in
    let r = shown_first n f g (suc k) xs i le in
    cc (e, r)

pub shown_second : (n : ℕ) (f g : ℕ → Array → ℕ → Cell) (k j : ℕ) (ys : List Array) (i : ℕ) → k ≡ n + j → shown_from (side_by_side n f g) k ys i ≡ shown_from g j ys i
shown_second n f g k j [] i h = refl
shown_second n f g k j (a ∷ ys) i h =
    let e : side_by_side n f g k a i ≡ g j a i = ap (λ s. s a i) (at_second n f g k j h) in
    let next : suc k ≡ n + suc j = omega arith in
    let r = shown_second n f g (suc k) (suc j) ys i next in
    cc (e, r)

pub shown_joined : (n : ℕ) (f g : ℕ → Array → ℕ → Cell) (k j : ℕ) (xs ys : List Array) (i : ℕ) → k + length xs ≡ n → shown_from (side_by_side n f g) k (xs ++ ys) i ≡ shown_from f k xs i ++ shown_from g 0 ys i
shown_joined n f g k j [] ys i h = shown_second n f g k 0 ys i (omega arith)
shown_joined n f g k j (a ∷ xs) ys i h =
    let lt : k < n = omega arith in
    let next : suc k + length xs ≡ n = omega arith in
    let e : side_by_side n f g k a i ≡ f k a i = ap (λ s. s a i) (at_first n f g k lt) in
    let r = shown_joined n f g (suc k) j xs ys i next in
    cc (e, r)

-- the reading of a place, as an equation of predicates that is used by subst
pub reads_first : (n : ℕ) (f g : ℕ → Cell → Type 0) (k : ℕ) (c : Cell) → k < n → (f k c → reads_side_by_side n f g k c) × (reads_side_by_side n f g k c → f k c)
reads_first n f g k c h =
    let e = below k n h in
    (subst (λ b. choose_reads b (f k) (g (k - n)) c) (sym e), subst (λ b. choose_reads b (f k) (g (k - n)) c) e)

same_place : (k n j : ℕ) → k ≡ n + j → k - n ≡ j
same_place k n j h = omega arith

pub reads_second : (n : ℕ) (f g : ℕ → Cell → Type 0) (k j : ℕ) (c : Cell) → k ≡ n + j → (g j c → reads_side_by_side n f g k c) × (reads_side_by_side n f g k c → g j c)
reads_second n f g k j c h =
    let le : n ≤ k = omega arith in
    let e = above k n le in
    let s = same_place k n j h in
    (λ r. subst (λ b. choose_reads b (f k) (g (k - n)) c) (sym e) (subst (λ m. g m c) (sym s) r), λ r. subst (λ m. g m c) s (subst (λ b. choose_reads b (f k) (g (k - n)) c) e r))

pub all_read_second : (n : ℕ) (f g : ℕ → Cell → Type 0) (k j : ℕ) (ys : List Array) → k ≡ n + j → ReadsAllFrom g j ys → ReadsAllFrom (reads_side_by_side n f g) k ys
all_read_second n f g k j [] h r = tt
all_read_second n f g k j (a ∷ ys) h r = (λ x m. (reads_second n f g k j x h).0 (r.0 x m), all_read_second n f g (suc k) (suc j) ys (omega arith) r.1)

pub all_read : (n : ℕ) (f g : ℕ → Cell → Type 0) (k : ℕ) (xs ys : List Array) → k + length xs ≡ n → ReadsAllFrom f k xs → ReadsAllFrom g 0 ys → ReadsAllFrom (reads_side_by_side n f g) k (xs ++ ys)
all_read n f g k [] ys h r q = all_read_second n f g k 0 ys (omega arith) q
all_read n f g k (a ∷ xs) ys h r q = (λ x m. (reads_first n f g k x (omega arith)).0 (r.0 x m), all_read n f g (suc k) xs ys (omega arith) r.1 q)

pub row_read_second : (n : ℕ) (f g : ℕ → Cell → Type 0) (k j : ℕ) (ys : List Cell) → k ≡ n + j → ReadsFrom g j ys → ReadsFrom (reads_side_by_side n f g) k ys
row_read_second n f g k j [] h r = tt
row_read_second n f g k j (c ∷ ys) h r = ((reads_second n f g k j c h).0 r.0, row_read_second n f g (suc k) (suc j) ys (omega arith) r.1)

pub row_read : (n : ℕ) (f g : ℕ → Cell → Type 0) (k : ℕ) (xs ys : List Cell) → k + length xs ≡ n → ReadsFrom f k xs → ReadsFrom g 0 ys → ReadsFrom (reads_side_by_side n f g) k (xs ++ ys)
row_read n f g k [] ys h r q = row_read_second n f g k 0 ys (omega arith) q
row_read n f g k (c ∷ xs) ys h r q = ((reads_first n f g k c (omega arith)).0 r.0, row_read n f g (suc k) xs ys (omega arith) r.1 q)

pub accepted_first : (n : ℕ) (f g : ℕ → LogicalType → Bool) (k : ℕ) (xs ys : List Array) → k + length xs ≡ n → AcceptsFrom (side_by_side n f g) k (xs ++ ys) → AcceptsFrom f k xs
accepted_first n f g k [] ys h r = tt
accepted_first n f g k (a ∷ xs) ys h r =
    let lt : k < n = omega arith in
    (ap (λ s. s (dtype a)) (sym (at_first n f g k lt)) ∙ r.0, accepted_first n f g (suc k) xs ys (omega arith) r.1)

accepted_later : (n : ℕ) (f g : ℕ → LogicalType → Bool) (k j : ℕ) (ys : List Array) → k ≡ n + j → AcceptsFrom (side_by_side n f g) k ys → AcceptsFrom g j ys
accepted_later n f g k j [] h r = tt
accepted_later n f g k j (a ∷ ys) h r = (ap (λ s. s (dtype a)) (sym (at_second n f g k j h)) ∙ r.0, accepted_later n f g (suc k) (suc j) ys (omega arith) r.1)

pub accepted_second : (n : ℕ) (f g : ℕ → LogicalType → Bool) (k : ℕ) (xs ys : List Array) → k + length xs ≡ n → AcceptsFrom (side_by_side n f g) k (xs ++ ys) → AcceptsFrom g 0 ys
accepted_second n f g k [] ys h r = accepted_later n f g k 0 ys (omega arith) r
accepted_second n f g k (a ∷ xs) ys h r = accepted_second n f g (suc k) xs ys (omega arith) r.1

pub joined_values : (xs ys : List Array) → batch_values (xs ++ ys) ≡ batch_values xs ++ batch_values ys
joined_values [] ys = refl
joined_values (a ∷ xs) ys = ap (λ t. batch_value a ∷ t) (joined_values xs ys)

pub joined_lengths : (xs ys : List Array) → decoded_lengths (xs ++ ys) ≡ decoded_lengths xs ++ decoded_lengths ys
joined_lengths [] ys = refl
joined_lengths (a ∷ xs) ys = ap (λ t. length_unless (batch_value a) (len a) ∷ t) (joined_lengths xs ys)

pub row_of_first : (a b : List (Option ℕ)) (i : ℕ) → HasRow (a ++ b) i → HasRow a i
row_of_first [] b i h = tt
row_of_first (n ∷ a) b i h = (h.0, row_of_first a b i h.1)

pub row_of_second : (a b : List (Option ℕ)) (i : ℕ) → HasRow (a ++ b) i → HasRow b i
row_of_second [] b i h = h
row_of_second (n ∷ a) b i h = row_of_second a b i h.1

and_joins : (p q r : Bool) → (p && (q && r)) ≡ ((p && q) && r)
and_joins true q r = refl
and_joins false q r = refl

pub each_length_joined : (rows : ℕ) (a b : List (Option ℕ)) → each_length rows (a ++ b) ≡ (each_length rows a && each_length rows b)
each_length_joined rows [] b = refl
each_length_joined rows (n ∷ a) b = ap (λ t. is_length rows n && t) (each_length_joined rows a b) ∙ and_joins (is_length rows n) (each_length rows a) (each_length rows b)

pub length_shown : (f : ℕ → Array → ℕ → Cell) (k : ℕ) (xs : List Array) (i : ℕ) → length (shown_from f k xs i) ≡ length xs
length_shown f k [] i = refl
length_shown f k (a ∷ xs) i = let r = length_shown f (suc k) xs i in omega arith

pub tolerant_second : (n : ℕ) (f g : ℕ → Array → Bool) (k j : ℕ) (ys : List Array) → k ≡ n + j → all_tolerant (side_by_side n f g) k ys ≡ all_tolerant g j ys
tolerant_second n f g k j [] h = refl
tolerant_second n f g k j (a ∷ ys) h =
    let e : side_by_side n f g k a ≡ g j a = ap (λ s. s a) (at_second n f g k j h) in
    let next : suc k ≡ n + suc j = omega arith in
    let r = tolerant_second n f g (suc k) (suc j) ys next in
    cc (e, r)

pub tolerant_joined : (n : ℕ) (f g : ℕ → Array → Bool) (k : ℕ) (xs ys : List Array) → k + length xs ≡ n → all_tolerant (side_by_side n f g) k (xs ++ ys) ≡ (all_tolerant f k xs && all_tolerant g 0 ys)
tolerant_joined n f g k [] ys h = tolerant_second n f g k 0 ys (omega arith)
tolerant_joined n f g k (a ∷ xs) ys h =
    let lt : k < n = omega arith in
    let next : suc k + length xs ≡ n = omega arith in
    let e : side_by_side n f g k a ≡ f k a = ap (λ s. s a) (at_first n f g k lt) in
    let r = tolerant_joined n f g (suc k) xs ys next in
    ap (λ t. t && all_tolerant (side_by_side n f g) (suc k) (xs ++ ys)) e ∙ ap (λ t. f k a && t) r ∙ and_joins (f k a) (all_tolerant f (suc k) xs) (all_tolerant g 0 ys)
