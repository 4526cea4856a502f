-- The rows of an array whose stored number is read, and the scales that are shown.
use Rattle.std.proofs.Common.{◌≡◌, ◌∙◌, ℕ, ◌<◌, Bool, true, false, ◌||◌, cond, nat_lt, is_some, Option, None, Some, List, length, get_or, inl, inr, refl, ap, sym, subst, arith}
use Rattle.std.proofs.lemmas.Bool.Decides.{nat_tests}
use Rattle.std.specs.Prelude.{pos, ◌≤◌, ◌⊎◌}
use Rattle.bitlane.specs.Bits.{bit, tabulate}
use Rattle.bitlane.proofs.Tables.{length-tabulate, get_or-tabulate}
use Rattle.coltypes.specs.Cell.{Cell, number}
use Rattle.colbase.specs.Arrays.{Array, len, row, constant_cell, MustRead}
use Rattle.coltypes.specs.declared.fault.Fault.{Fault}
use Rattle.coltypes.specs.declared.fault.Fault.TheVariants.{Memory}
use Rattle.rowelems.specs.Shown.{batch_value, cell_or, shown_by, shown_by_constant, shown_by_row, stored_or}
use Rattle.rowelems.specs.Elements.{shown_number, shown_scale}
use Rattle.rowelems.specs.Reading.{DecodeCause, IsScale, Unread}
use Rattle.rowelems.specs.Scales.{HasAbove, ScaleCause, is_read, number_or_zero}
use Rattle.rowelems.proofs.Payload.{constant-stored, row-stored}

either_shown : (b r : Option Cell) (own other : Cell) → (is_some b || is_some r) ≡ true → cell_or b (cell_or r own) ≡ cell_or b (cell_or r other)
either_shown (Some x) r own other e = refl
either_shown None (Some y) own other e = refl
either_shown None None own other e = absurd (cc)

neither_shown : (b r : Option Cell) (own : Cell) → (is_some b || is_some r) ≡ false → cell_or b (cell_or r own) ≡ own
neither_shown (Some x) r own e = absurd (cc)
neither_shown None (Some y) own e = absurd (cc)
neither_shown None None own e = refl

-- an element shows its own cell where nothing is read, and else the same as each other element
pub shown-read : (f g : Array → ℕ → Cell) (a : Array) (i : ℕ) → is_read a i ≡ true → shown_by f a i ≡ shown_by g a i
shown-read f g a i e = either_shown (batch_value a) (row a i) (f a i) (g a i) e

pub shown-unread : (f : Array → ℕ → Cell) (a : Array) (i : ℕ) → is_read a i ≡ false → shown_by f a i ≡ f a i
shown-unread f a i e = neither_shown (batch_value a) (row a i) (f a i) e

chosen : (b : Bool) (o : Option Cell) (x : Cell) → cond b o None ≡ Some x → (b ≡ true) × (o ≡ Some x)
chosen true o x e = (refl, e)
chosen false o x e = absurd (cc)

must_value : (a : Array) (x : Cell) → batch_value a ≡ Some x → MustRead a x
must_value a x e =
    let both = chosen (nat_lt 0 (len a)) (constant_cell a) x e in
    inr (grind (arith, nat_tests, both.0), both.1)

must_shown : (a : Array) (i : ℕ) (b r : Option Cell) (own : Cell) → i < len a → batch_value a ≡ b → row a i ≡ r → (is_some b || is_some r) ≡ true → MustRead a (cell_or b (cell_or r own))
must_shown a i (Some x) r own lt eb er e = must_value a x eb
must_shown a i None (Some y) own lt eb er e = inl (i, lt, er)
must_shown a i None None own lt eb er e = absurd (cc)

-- what is shown at a row that is read must be read
pub shown-must : (f : Array → ℕ → Cell) (a : Array) (i : ℕ) → i < len a → is_read a i ≡ true → MustRead a (shown_by f a i)
shown-must f a i lt e = must_shown a i (batch_value a) (row a i) (f a i) lt refl refl e

same_cell : (o : Option Cell) (x y : Cell) → o ≡ Some y → o ≡ Some x → y ≡ x
same_cell o x y e h = cc

row_shown : (f : Array → ℕ → Cell) (a : Array) (i : ℕ) (x : Cell) (b : Option Cell) → batch_value a ≡ b → row a i ≡ Some x → shown_by f a i ≡ x
row_shown f a i x None eb e = shown_by_row f a i x eb e
row_shown f a i x (Some y) eb e =
    let value = chosen (nat_lt 0 (len a)) (constant_cell a) y eb in
    shown_by_constant f a i y eb ∙ same_cell (Some y) x y refl (sym (constant-stored a i y value.1) ∙ row-stored a i x e)

value_of : (b : Bool) (o : Option Cell) (x : Cell) → b ≡ true → o ≡ Some x → cond b o None ≡ Some x
value_of true o x h e = e
value_of false o x h e = absurd (cc)

value_shown : (f : Array → ℕ → Cell) (a : Array) (x : Cell) → 0 < len a → constant_cell a ≡ Some x → shown_by f a 0 ≡ x
value_shown f a x lt e = shown_by_constant f a 0 x (value_of (nat_lt 0 (len a)) (constant_cell a) x (grind (arith, nat_tests, lt)) e)

-- where each cell that is shown is of a kind, each that must be read is
pub must-shown : (P : Cell → Type 0) (f : Array → ℕ → Cell) (a : Array) → ((i : ℕ) → i < len a → P (shown_by f a i)) → (x : Cell) → MustRead a x → P x
must-shown P f a h x (inl m) = subst P (row_shown f a m.0 x (batch_value a) refl m.2) (h m.0 m.1)
must-shown P f a h x (inr m) = subst P (value_shown f a x m.0 m.1) (h 0 m.0)

abbrev stored_number : Array → ℕ → Cell
stored_number = stored_or (number (pos 0))

abbrev zero_number : Array → ℕ → Cell
zero_number a i = number (pos 0)

scale_at : (a : Array) (i n s : ℕ) (b : Bool) → is_read a i ≡ b → s ≡ number_or_zero b n → number (pos n) ≡ shown_number a i → number (pos s) ≡ shown_scale a i
scale_at a i n s true e h k = ap (λ m. number (pos m)) h ∙ k ∙ shown-read stored_number zero_number a i e
scale_at a i n s false e h k = ap (λ m. number (pos m)) h ∙ sym (shown-unread zero_number a i e)

-- zeros in place of the numbers that are not read are what is shown
pub scales-shown : (a : Array) (read : ℕ → Bool) (xs ys : List ℕ) → ((i : ℕ) → i < len a → read i ≡ is_read a i) → ((i : ℕ) → i < len a → number (pos (get_or xs i 0)) ≡ shown_number a i)
    → ((i : ℕ) → i < len a → get_or ys i 0 ≡ number_or_zero (read i) (get_or xs i 0)) → (i : ℕ) → i < len a → number (pos (get_or ys i 0)) ≡ shown_scale a i
scales-shown a read xs ys r h e i lt = scale_at a i (get_or xs i 0) (get_or ys i 0) (read i) (sym (r i lt)) (e i lt) (h i lt)

pub scales-read : (a : Array) (ys : List ℕ) → ((i : ℕ) → i < len a → number (pos (get_or ys i 0)) ≡ shown_scale a i) → ((i : ℕ) → i < len a → get_or ys i 0 ≤ 18) → (x : Cell) → MustRead a x → IsScale x
scales-read a ys h s = must-shown IsScale zero_number a (λ i lt. subst IsScale (h i lt) (s i lt))

above_unread : (a : Array) (read : ℕ → Bool) (xs : List ℕ) → length xs ≡ len a → ((i : ℕ) → i < len a → read i ≡ is_read a i) → ((i : ℕ) → i < len a → number (pos (get_or xs i 0)) ≡ shown_number a i) → HasAbove read xs → Unread IsScale a
above_unread a read xs n r h w =
    let lt : w.place < len a = subst (λ k. w.place < k) n w.within in
    record {
      cell = number (pos (get_or xs w.place 0));
      must = subst (MustRead a) (sym (h w.place lt)) (shown-must stored_number a w.place lt (sym (r w.place lt) ∙ w.told));
      unread = λ s. let above = w.above in absurd (omega (arith, s, above));
    }

-- why the column is not decoded
pub scale-fails : (a : Array) (read : ℕ → Bool) (xs : List ℕ) → length xs ≡ len a → ((i : ℕ) → i < len a → read i ≡ is_read a i) → ((i : ℕ) → i < len a → number (pos (get_or xs i 0)) ≡ shown_number a i)
    → (e : Fault) → ScaleCause read xs e → DecodeCause IsScale a e
scale-fails a read xs n r h e w = inr (w.0, above_unread a read xs n r h w.1)

pub decode-fails : (a : Array) (read : ℕ → Bool) (xs : List ℕ) → length xs ≡ len a → ((i : ℕ) → i < len a → read i ≡ is_read a i) → ((i : ℕ) → i < len a → number (pos (get_or xs i 0)) ≡ shown_number a i)
    → (e : Fault) → (e ≡ Memory) ⊎ ScaleCause read xs e → DecodeCause IsScale a e
decode-fails a read xs n r h e (inl m) = inl m
decode-fails a read xs n r h e (inr w) = scale-fails a read xs n r h e w

-- a mask of all rows reads each
pub all-read : (a : Array) (n : ℕ) → length (tabulate (λ i. true) n) ≡ len a → ((i : ℕ) → i < len a → bit (tabulate (λ i. true) n) i ≡ is_read a i) → (i : ℕ) → i < len a → true ≡ is_read a i
all-read a n e h i lt =
    sym (get_or-tabulate (λ k. true) n i false (subst (λ k. i < k) (sym e ∙ length-tabulate (λ k. true) n) lt)) ∙ h i lt
