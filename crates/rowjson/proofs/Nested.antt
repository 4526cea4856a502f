-- Columns inside columns, and types inside types.
use Rattle.std.proofs.Common.{◌≡◌, ℕ, ◌+◌, ◌*◌, ◌<◌, ◌≤◌, max, List, Option, Some, refl, ap, arith, codes, Ordering, Less, Equal, Greater}
use Rattle.std.specs.Ordering.{nat_cmp, match_ordering}
use Rattle.std.specs.Cmp.Lexicographic.{slice_cmp}
use Rattle.serde_json.specs.Data.{Data, null, boolean, number, string, array, object, Members, no_members, member, depth, members_depth}
use Rattle.serde_json.specs.Find.{get, get_member}
use Rattle.coltypes.specs.LogicalType.{LogicalType}
use Rattle.rowjson.specs.Objects.{text_in, ◌>>=◌}
use Rattle.rowjson.specs.Columns.{column_in, inner_in, column_over}
use Rattle.rowjson.specs.Types.{type_of, storage_type_in, type_over}

-- ---- what is found in an object is nested less deep

found_by : (o : Ordering) (d e : Data) (rest : Option Data) (n : ℕ) → (rest ≡ Some e → depth e ≤ n) → match_ordering o rest (Some d) rest ≡ Some e → depth e ≤ max (depth d) n
found_by Less d e rest n within is = let h : depth e ≤ n = within is in omega (arith, h)
found_by Equal d e rest n within is = let h : depth d ≡ depth e = ap depth (cc) in omega (arith, h)
found_by Greater d e rest n within is = let h : depth e ≤ n = within is in omega (arith, h)

get_member_within : (key : List ℕ) (ms : Members) (e : Data) → get_member key ms ≡ Some e → depth e ≤ members_depth ms
get_member_within key no_members e is = absurd (cc)
get_member_within key (member k d ms) e is = found_by (slice_cmp nat_cmp key k) d e (get_member key ms) (members_depth ms) (get_member_within key ms e) is

falls : (key : List ℕ) (d e : Data) → get key d ≡ Some e → depth e < depth d
falls key (object ms) e is = let h = get_member_within key ms e is in omega (arith, h)
falls key null e is = absurd (cc)
falls key (boolean b) e is = absurd (cc)
falls key (number n) e is = absurd (cc)
falls key (string s) e is = absurd (cc)
falls key (array ds) e is = absurd (cc)

-- the measures of the two readers that call one another
pub get_falls : (key : List ℕ) (d e : Data) → get key d ≡ Some e → 2 * depth e + 1 < 2 * depth d
get_falls key d e is = omega (arith, falls key d e is)

-- ---- the definitions, told by the members

found_in : {X : Type 0} (f : Data → Option X) (o : Ordering) (d : Data) (rest : Option X) (found : Option Data) → rest ≡ (found >>= f) → match_ordering o rest (f d) rest ≡ (match_ordering o found (Some d) found >>= f)
found_in f Less d rest found e = e
found_in f Equal d rest found e = refl
found_in f Greater d rest found e = e

inner_in-get : (key : List ℕ) (ms : Members) → inner_in key ms ≡ (get_member key ms >>= column_in)
unfolding column_in
inner_in-get key no_members = refl
inner_in-get key (member k d ms) = found_in column_in (slice_cmp nat_cmp key k) d (inner_in key ms) (get_member key ms) (inner_in-get key ms)

pub column_in-inner : (d : Data) → column_in d ≡ column_over d (λ key. get key d >>= column_in)
unfolding column_in column_over text_in
column_in-inner (object ms) = λ i. column_over (object ms) (λ key. inner_in-get key ms i)
column_in-inner null = refl
column_in-inner (boolean b) = refl
column_in-inner (number n) = refl
column_in-inner (string s) = refl
column_in-inner (array ds) = refl

storage_type_in-get : (ms : Members) → storage_type_in ms ≡ (get_member (codes "storage") ms >>= type_of)
unfolding type_of
storage_type_in-get no_members = refl
storage_type_in-get (member k d ms) = found_in type_of (slice_cmp nat_cmp (codes "storage") k) d (storage_type_in ms) (get_member (codes "storage") ms) (storage_type_in-get ms)

pub type_of-storage : (d : Data) → type_of d ≡ type_over d (get (codes "storage") d >>= type_of)
unfolding type_of type_over
type_of-storage (object ms) = ap (λ (storage : Option LogicalType). type_over (object ms) storage) (storage_type_in-get ms)
type_of-storage null = refl
type_of-storage (boolean b) = refl
type_of-storage (number n) = refl
type_of-storage (string s) = refl
type_of-storage (array ds) = refl
