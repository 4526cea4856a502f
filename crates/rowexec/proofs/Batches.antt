-- Lists of arguments: their types, their lengths, and what an element of one place or another reads.
use Rattle.std.proofs.Common.{◌≡◌, ◌∙◌, ℕ, suc, Bool, true, false, ◌&&◌, List, [], ◌∷◌, ◌++◌, length, Option, None, Some, inl, inr, refl, ap, arith}
use Rattle.std.specs.Prelude.{◌↔◌}
use Rattle.std.proofs.lemmas.Bool.Decides.{nat_tests}
use Rattle.colbase.specs.Arrays.{Array, dtype, len}
use Rattle.coltypes.specs.Cell.{Cell}
use Rattle.coltypes.specs.LogicalType.{LogicalType}
use Rattle.coltypes.specs.LogicalTypeOf.{logical_type}
use Rattle.coltypes.specs.declared.dtype.DType.{DType}
use Rattle.coltypes.specs.declared.fault.Fault.{Fault}
use Rattle.rowelems.specs.Reading.{Unread}
use Rattle.rowtypes.specs.Rows.{logical_types, AcceptsFrom, DecodeFails, FirstUnread, all_tolerant, decoded_lengths, each_length, shown_from}
use Rattle.rowelems.specs.Argument.{is_length, length_unless}
use Rattle.rowelems.specs.Shown.{batch_value}
use Rattle.rowexec.specs.Rows.{EachHasRows, types_of}

pub as_many_types : (arrays : List Array) → length (types_of arrays) ≡ length arrays
as_many_types [] = refl
as_many_types (a ∷ arrays) = ap suc (as_many_types arrays)

pub accepts_same : (f g : ℕ → LogicalType → Bool) → ((k : ℕ) (t : LogicalType) → f k t ≡ g k t) → (k : ℕ) (arrays : List Array) → AcceptsFrom g k arrays → AcceptsFrom f k arrays
accepts_same f g h k [] p = tt
accepts_same f g h k (a ∷ arrays) p = (h k (dtype a) ∙ p.0, accepts_same f g h (suc k) arrays p.1)

length_is : (o : Option Cell) (m n : ℕ) → m ≡ n → is_length n (length_unless o m) ≡ true
length_is None m n e = grind (arith, nat_tests)
length_is (Some c) m n e = refl

pub both_are : (a b : Bool) → a ≡ true → b ≡ true → (a && b) ≡ true
both_are a b p q = cc (p, q)

pub both_parts : (a b : Bool) → (a && b) ≡ true → (a ≡ true) × (b ≡ true)
both_parts true b h = (refl, h)
both_parts false b h = absurd (cc)

pub each_decoded : (n : ℕ) (arrays : List Array) → EachHasRows n arrays → each_length n (decoded_lengths arrays) ≡ true
each_decoded n [] h = refl
each_decoded n (a ∷ arrays) h = both_are _ _ (length_is (batch_value a) (len a) n h.0) (each_decoded n arrays h.1)

pub shown_same : (f g : ℕ → Array → ℕ → Cell) → ((k : ℕ) (a : Array) (i : ℕ) → f k a i ≡ g k a i) → (k : ℕ) (arrays : List Array) (i : ℕ) → shown_from f k arrays i ≡ shown_from g k arrays i
shown_same f g h k [] i = refl
shown_same f g h k (a ∷ arrays) i =
    let here = h k a i in
    let later = shown_same f g h (suc k) arrays i in
    cc (here, later)

unread_same : (f g : Cell → Type 0) → ((c : Cell) → f c ↔ g c) → (a : Array) → Unread f a → Unread g a
unread_same f g h a u = record { cell = u.cell; must = u.must; unread = λ r. u.unread ((h u.cell).1 r) }

first_same : (f g : ℕ → Cell → Type 0) → ((k : ℕ) (c : Cell) → f k c ↔ g k c) → (k : ℕ) (arrays : List Array) (j : ℕ) → FirstUnread f k arrays j → FirstUnread g k arrays j
first_same f g h k [] j p = p
first_same f g h k (a ∷ arrays) j (inl p) = inl (p.0, unread_same (f k) (g k) (h k) a p.1)
first_same f g h k (a ∷ arrays) j (inr p) = inr (λ x m. (h k x).0 (p.0 x m), first_same f g h (suc k) arrays j p.1)

pub fails_same : (f g : ℕ → Cell → Type 0) → ((k : ℕ) (c : Cell) → f k c ↔ g k c) → (k : ℕ) (arrays : List Array) (e : Fault) → DecodeFails f k arrays e → DecodeFails g k arrays e
fails_same f g h k arrays e (inl m) = inl m
fails_same f g h k arrays e (inr p) = inr (record { place = p.place; is = p.is; first = first_same f g h k arrays p.place p.first })

-- the types of one more column
pub type_pushed : (types : List DType) (d : DType) (a : Array) (later : List Array) → logical_type d ≡ dtype a → (logical_types (types ++ d ∷ []) ++ types_of later) ≡ (logical_types types ++ types_of (a ∷ later))
type_pushed [] d a later e = ap (λ t. t ∷ types_of later) e
type_pushed (t ∷ types) d a later e = ap (λ ts. logical_type t ∷ ts) (type_pushed types d a later e)

pub tolerant_same : (f g : ℕ → Array → Bool) → ((k : ℕ) (a : Array) → f k a ≡ g k a) → (k : ℕ) (arrays : List Array) → all_tolerant f k arrays ≡ all_tolerant g k arrays
tolerant_same f g h k [] = refl
tolerant_same f g h k (a ∷ arrays) = cc (h k a, tolerant_same f g h (suc k) arrays)
