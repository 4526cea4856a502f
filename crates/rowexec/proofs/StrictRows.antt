-- From dense values to the rows and the type that a batch answers.
use Rattle.std.proofs.Common.{◌≡◌, ◌∙◌, ℕ, suc, Bool, true, false, List, [], ◌∷◌, Option, None, Some, refl, ap, sym}
use Rattle.std.specs.Prelude.{is_some, cond, ◌==◌}
use Rattle.std.proofs.Common.{arith}
use Rattle.std.proofs.lemmas.Bool.Decides.{nat_tests}
use Rattle.colbase.specs.Arrays.{Array, dtype, len}
use Rattle.coltypes.specs.Cell.{Cell}
use Rattle.coltypes.specs.LogicalType.{LogicalType, bool, binary, extension, fixed_size_list, list, null, nullability_of, primitive, utf8, with_nullability}
use Rattle.coltypes.specs.declared.dtype.Nullability.TheVariants.{Nullable, NonNullable}
use Rattle.coltypes.specs.declared.fault.Fault.{Fault}
use Rattle.rowtypes.specs.Rows.{AcceptsFrom, first_refused}
use Rattle.rowplan.specs.Law.{RowLaw}
use Rattle.rowplan.specs.Outputs.{InOrder, any_nullable, made_nullable, output_type, stated_type}
use Rattle.rowexec.specs.Masks.{null_unless}
use Rattle.rowexec.specs.Rows.{Accepted, EachHasRows, StrictRow, types_of, wrong_length}
use Rattle.rowexec.proofs.Masking.{nullable_made}

pub strict_row : {E : Type 0} (law : RowLaw E) (cells : Option (List Cell)) (b : Bool) (r w : Option Cell) → b ≡ is_some cells → r ≡ null_unless b w → ((cs : List Cell) → cells ≡ Some cs → Accepted law cs w) → StrictRow law cells r
strict_row law None b r w hb hr d = hr ∙ ap (λ t. null_unless t w) hb
strict_row law (Some cs) b r w hb hr d = record {
  cell = (d cs refl).cell;
  evidence = (d cs refl).evidence;
  is = hr ∙ ap (λ t. null_unless t w) hb ∙ (d cs refl).is;
  outcome_is = (d cs refl).outcome_is;
  accepted = (d cs refl).accepted;
}

pub null_row : {E : Type 0} (law : RowLaw E) (cells : Option (List Cell)) (r : Option Cell) → cells ≡ None → r ≡ None → StrictRow law cells r
null_row law None r e h = h
null_row law (Some cs) r e h = absurd (cc)

accepted_both : (b : Bool) (rest : Option ℕ) (k : ℕ) → cond b rest (Some k) ≡ None → (b ≡ true) × (rest ≡ None)
accepted_both true rest k h = (refl, h)
accepted_both false rest k h = absurd (cc)

pub accepted_from : (f : ℕ → LogicalType → Bool) (k : ℕ) (arrays : List Array) → first_refused f k (types_of arrays) ≡ None → AcceptsFrom f k arrays
accepted_from f k [] h = tt
accepted_from f k (a ∷ arrays) h =
    let p = accepted_both (f k (dtype a)) (first_refused f (suc k) (types_of arrays)) k h in
    (p.0, accepted_from f (suc k) arrays p.1)

same_or : (b : Bool) (m n : ℕ) (rest : Option Fault) (e : Fault) → (b ≡ true → m ≡ n) → cond b rest (Some e) ≡ None → (m ≡ n) × (rest ≡ None)
same_or true m n rest e q h = (q refl, h)
same_or false m n rest e q h = absurd (cc)

nat_same : (m n : ℕ) → (m == n) ≡ true → m ≡ n
nat_same m n h = grind (arith, nat_tests)

length_both : (m n : ℕ) (rest : Option Fault) (e : Fault) → cond (m == n) rest (Some e) ≡ None → (m ≡ n) × (rest ≡ None)
length_both m n rest e h = same_or (m == n) m n rest e (λ q. nat_same m n q) h

pub rows_from : (n k : ℕ) (arrays : List Array) → wrong_length n k arrays ≡ None → EachHasRows n arrays
rows_from n k [] h = tt
rows_from n k (a ∷ arrays) h =
    let p = length_both (len a) n (wrong_length n (suc k) arrays) _ h in
    (p.0, rows_from n (suc k) arrays p.1)

non_null_with : (t : LogicalType) → nullability_of t ≡ NonNullable → with_nullability t NonNullable ≡ t
non_null_with null h = absurd (cc)
non_null_with (bool n) h = ap bool (sym h)
non_null_with (primitive p n) h = ap (primitive p) (sym h)
non_null_with (utf8 n) h = ap utf8 (sym h)
non_null_with (binary n) h = ap binary (sym h)
non_null_with (list t n) h = ap (list t) (sym h)
non_null_with (fixed_size_list t width n) h = ap (fixed_size_list t width) (sym h)
non_null_with (extension name unit time_zone t) h = ap (extension name unit time_zone) (non_null_with t h)

pub relabel_type : (b : Bool) (s : LogicalType) → nullability_of s ≡ NonNullable → made_nullable b s ≡ with_nullability s (nullability_of (made_nullable b s))
relabel_type false s h = sym (non_null_with s h) ∙ ap (with_nullability s) (sym h)
relabel_type true s h = ap (with_nullability s) (sym (nullable_made s))

pub relabelled_type : (b : Bool) (s t : LogicalType) → nullability_of s ≡ NonNullable → nullability_of t ≡ NonNullable → with_nullability t (nullability_of (made_nullable b s)) ≡ made_nullable b t
relabelled_type false s t h k = ap (with_nullability t) h ∙ non_null_with t k
relabelled_type true s t h k = ap (with_nullability t) (nullable_made s)

pub output_not_null : (s : LogicalType) (label : Option LogicalType) → InOrder (Some s) label → nullability_of (output_type s label) ≡ NonNullable
output_not_null s None h = h.0
output_not_null s (Some l) h = h.1.0

pub stated_nullable : (t : LogicalType) (types : List LogicalType) → any_nullable types ≡ true → nullability_of (stated_type t types) ≡ Nullable
stated_nullable t types h = ap (λ b. nullability_of (made_nullable b t)) h ∙ nullable_made t
