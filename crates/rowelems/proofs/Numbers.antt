-- Numbers that are stored, and a list of one number.
use Rattle.std.proofs.Common.{◌≡◌, ◌∙◌, ℕ, ℤ, zero, suc, ◌<◌, List, [], ◌∷◌, length, get_or, Some, refl, ap, sym, subst, arith}
use Rattle.std.specs.Prelude.{pos, replicate, slice_get, IsTrue}
use Rattle.coltypes.specs.declared.dtype.PType.{PType}
use Rattle.coltypes.specs.declared.values.PrimitiveValues.{PrimitiveValues}
use Rattle.coltypes.specs.Cell.{Cell, number}
use Rattle.coltypes.specs.Fits.{in_range}
use Rattle.coltypes.specs.Values.{count, number_at}
use Rattle.colbase.specs.Parts.{values_of}
use Rattle.colbase.specs.Arrays.{Array, primitive, len, MustRead}
use Rattle.rowelems.specs.Shown.{stored_or}
use Rattle.rowelems.specs.Elements.{shown_number}
use Rattle.rowelems.specs.Unmasked.{unmasked}
use Rattle.rowelems.specs.Reading.{IsNumberOf}
use Rattle.rowelems.proofs.Payload.{len-unmasked, shown-unmasked, reads-shown}

stored-numbers : (a : Array) (w : PrimitiveValues) → values_of a ≡ Some w → (i : ℕ) → stored_or (number (pos 0)) a i ≡ number (number_at w i)
stored-numbers (primitive x v) w e i = ap (λ y. number (number_at y i)) (let h : x ≡ w = cc in h)
stored-numbers _ w e i = absurd (cc)

count-values : (a : Array) (w : PrimitiveValues) → values_of a ≡ Some w → count w ≡ len a
count-values (primitive x v) w e = cc
count-values _ w e = absurd (cc)

pub get-replicate : {X : Type 0} (n : ℕ) (x : X) (i : ℕ) → i < n → slice_get (replicate n x) i ≡ Some x
get-replicate zero x i h = absurd (omega arith)
get-replicate (suc n) x zero h = refl
get-replicate (suc n) x (suc i) h = get-replicate n x i (omega arith)

-- the stored numbers are as many as the rows, and are what is shown
pub numbers-count : (a s : Array) (w : PrimitiveValues) → s ≡ unmasked a → values_of s ≡ Some w → count w ≡ len a
numbers-count a s w e b = count-values s w b ∙ ap len e ∙ len-unmasked a

pub numbers-shown : (a s : Array) (w : PrimitiveValues) → s ≡ unmasked a → values_of s ≡ Some w → (i : ℕ) → number (number_at w i) ≡ shown_number a i
numbers-shown a s w e b i = sym (shown-unmasked (number (pos 0)) a i ∙ ap (λ x. stored_or (number (pos 0)) x i) (sym e) ∙ stored-numbers s w b i)

-- and so is the number of a constant, in each row
pub number-shown : (a s : Array) (z y : ℤ) (i : ℕ) → s ≡ unmasked a → ((k : ℕ) → stored_or (number (pos 0)) s k ≡ number z) → y ≡ z → number y ≡ shown_number a i
number-shown a s z y i e b h = ap number h ∙ sym (shown-unmasked (number (pos 0)) a i ∙ ap (λ x. stored_or (number (pos 0)) x i) (sym e) ∙ b i)

-- numbers in the range of the type are read wherever they are shown
pub numbers-dense : (p : PType) (a : Array) (w : PrimitiveValues) → ((i : ℕ) → i < len a → IsTrue (in_range p (number_at w i))) → ((i : ℕ) → i < len a → number (number_at w i) ≡ shown_number a i) → (i : ℕ) → i < len a → IsNumberOf p (shown_number a i)
numbers-dense p a w r h i k = subst (IsNumberOf p) (h i k) (r i k)

pub numbers-read : (p : PType) (a : Array) → ((i : ℕ) → i < len a → IsNumberOf p (shown_number a i)) → (x : Cell) → MustRead a x → IsNumberOf p x
numbers-read p a h = reads-shown (IsNumberOf p) (number (pos 0)) a h

pub get-some : {X : Type 0} (xs : List X) (i : ℕ) (x : X) → i < length xs → x ≡ get_or xs i x → slice_get xs i ≡ Some x
get-some [] i x h e = absurd (omega (arith, h))
get-some (y ∷ ys) zero x h e = ap Some (sym e)
get-some (y ∷ ys) (suc i) x h e = get-some ys i x (omega (arith, h)) e
