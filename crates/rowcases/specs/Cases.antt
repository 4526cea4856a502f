-- What the row functions for tests mean. Each word serves those alone; what a function of the program means stands in rowsample.
use Rattle.std.proofs.Common.{arith}
use native.Mathlib.Nat.{mod-lt, zero-lt-suc}
use Rattle.std.proofs.lemmas.Nat.{le_or_l, le_or_r}
use Rattle.std.specs.Prelude.{◌≡◌, false, int_lt, refl, zero, suc, ℕ, ◌<◌, ◌%◌, bit_or, Option, None, Some, List, [], ◌∷◌, pos}
use Rattle.coltypes.specs.Cell.{Cell, number, truth}
use Rattle.coltypes.specs.LogicalType.{LogicalType, bool, extension, primitive}
use Rattle.coltypes.specs.declared.dtype.Nullability.TheVariants.{NonNullable}
use Rattle.coltypes.specs.declared.dtype.PType.TheVariants.{I32, U8}
use Rattle.rowplan.specs.Constructors.{Stored}
use Rattle.rowplan.specs.Outcomes.{FinishLaws}

abbrev pub first_cell : List Cell → Cell
first_cell [] = truth false
first_cell (c ∷ cells) = c

-- the extension named x over numbers of 32 bits
abbrev pub narrow_label : LogicalType
narrow_label = extension (120 ∷ []) None None (primitive I32 NonNullable)

-- whether the first of two numbers is below the second; no other cells are read
abbrev pub ordered : List Cell → Cell
ordered (number x ∷ number y ∷ []) = truth (int_lt x y)
ordered _ = truth false

-- ---- functions whose failures are evidence

-- the number of the only cell; 0 of other cells
abbrev pub only_number : List Cell → ℕ
only_number (number (pos n) ∷ []) = n
only_number _ = 0

-- a number of 8 bits, as it is; no other cells are read
abbrev pub flag : List Cell → Cell
flag cells = number (pos (only_number cells))

-- outputs of 8 bits and of truth values
abbrev pub u8_stored : Stored
u8_stored = record { type = primitive U8 NonNullable; placeholder = number (pos 0) }

abbrev pub bool_stored : Stored
bool_stored = record { type = bool NonNullable; placeholder = truth false }

pub below_256 : (n : ℕ) → n % 256 < 256
below_256 n = mod-lt n (zero-lt-suc 255)

-- flags that are set are told as the error
abbrev pub flags_told : ℕ → Option ℕ
flags_told zero = None
flags_told (suc n) = Some (suc n)

not_told : (n : ℕ) → flags_told n ≡ None → n ≡ 0
not_told zero h = refl
not_told (suc n) h = absurd (cc)

none_told : (n : ℕ) → n ≡ 0 → flags_told n ≡ None
none_told zero h = refl
none_told (suc n) h = absurd (cc)

none_set : (a b : ℕ) → a ≡ 0 → b ≡ 0 → bit_or a b ≡ 0
none_set zero zero p q = refl
none_set zero (suc b) p q = absurd (cc)
none_set (suc a) b p q = absurd (cc)

-- a law of the function, which its ghost member cites
pub flags_finish : FinishLaws ℕ (λ x. x < 256) bit_or 0 flags_told
flags_finish = record {
  accepts_neutral = refl;
  accepts_parts = λ a b p q h. (
    none_told a (omega (arith, le_or_l a b, not_told (bit_or a b) h)),
    none_told b (omega (arith, le_or_r a b, not_told (bit_or a b) h)),
  );
  accepts_join = λ a b p q h k. none_told (bit_or a b) (none_set a b (not_told a h) (not_told b k));
}
