-- Words that ask for rows.
use Rattle.std.proofs.Common.{◌≡◌, ◌∙◌, ℕ, ◌<◌, ◌≤◌, ◌^◌, Bool, true, false, ◌&&◌, List, [], ◌∷◌, Option, Some, None, Result, Ok, Err, refl, ap, sym, subst, arith}
use Rattle.std.specs.Prelude.{if◌then◌else◌, nat_le, codes, decimal, unwrap_or}
use Rattle.std.specs.Str.{bytes_eq}
use Rattle.std.specs.Str.Parse.{ParsesUnsigned, digits_value}
use Rattle.std.proofs.lemmas.Slice.Eq.{bytes_eq-Decides}
use Rattle.std.proofs.lemmas.Bool.{le-leb, leb-true}
use Rattle.std.proofs.lemmas.Fmt.{decimal_is_IsNumeral, parse-decimal}
use Rattle.rowtext.specs.declared.command.Command.TheVariants.{Unknown, WithInput, WithoutInput}
use Rattle.rowtext.specs.Causes.{input_command}
use Rattle.rowrun.specs.Generator.{most_rows}
use Rattle.rowrun.specs.Words.{IsGen, command_by, command_of, count_in, is_run, rows_asked}

-- ---- one word

-- the word is the decimal of the number, which is in range
pub record Counts (word : List ℕ) (n : ℕ) : Type 0 where
  pub spelled : decimal n ≡ word
  pub in_range : n ≤ most_rows

value_is : (word : List ℕ) (n : ℕ) → Counts word n → digits_value 10 word ≡ n
value_is word n counts =
    ap (digits_value 10) (sym counts.spelled) ∙ (decimal_is_IsNumeral n (omega (arith, counts.in_range))).1

pub counted : (word : List ℕ) (n : ℕ) → Counts word n → count_in word ≡ Some n
unfolding count_in
counted word n counts =
    let value = value_is word n counts in
    let same : bytes_eq (decimal (digits_value 10 word)) word ≡ true = (bytes_eq-Decides (decimal (digits_value 10 word)) word).1 (ap decimal value ∙ counts.spelled) in
    let low : nat_le (digits_value 10 word) most_rows ≡ true = ap (λ (k : ℕ). nat_le k most_rows) value ∙ le-leb n most_rows counts.in_range in
    ap (λ (b : Bool). if b && nat_le (digits_value 10 word) most_rows then Some (digits_value 10 word) else None) same
    ∙ ap (λ (b : Bool). if b then Some (digits_value 10 word) else None) low
    ∙ ap Some value

-- where the tests hold, the number is told
told : (spelled low : Bool) (value n : ℕ) → (if spelled && low then Some value else None) ≡ Some n → (spelled ≡ true) × (low ≡ true) × (value ≡ n)
told true true value n e = (refl, refl, ap (λ (o : Option ℕ). unwrap_or o 0) e)
told true false value n e = cc
told false low value n e = cc

pub counts : (word : List ℕ) (n : ℕ) → count_in word ≡ Some n → Counts word n
unfolding count_in
counts word n e =
    let so = told (bytes_eq (decimal (digits_value 10 word)) word) (nat_le (digits_value 10 word) most_rows) (digits_value 10 word) n e in
    record {
      spelled = ap decimal (sym so.2) ∙ (bytes_eq-Decides (decimal (digits_value 10 word)) word).0 so.0;
      in_range = subst (λ (k : ℕ). k ≤ most_rows) so.2 (leb-true (digits_value 10 word) most_rows so.1);
    }

none_or : (o : Option ℕ) → ((n : ℕ) → o ≡ Some n → ⊥) → o ≡ None
none_or None never = refl
none_or (Some n) never = absurd (never n refl)

-- a word that is no number in range
pub uncounted : (word : List ℕ) → ((n : ℕ) → Counts word n → ⊥) → count_in word ≡ None
uncounted word never = none_or (count_in word) (λ n e. never n (counts word n e))

-- ---- the words

pub asked : (words : List (List ℕ)) (n : ℕ) → IsGen words n → rows_asked words ≡ Some n
asked words n gen =
    ap rows_asked gen.spelled
    ∙ ap (λ (b : Bool). if b then count_in (decimal n) else None) ((bytes_eq-Decides (codes "gen") (codes "gen")).1 refl)
    ∙ counted (decimal n) n (record { spelled = refl; in_range = gen.in_range })

named : (same : Bool) (told : Option ℕ) (n : ℕ) → (if same then told else None) ≡ Some n → (same ≡ true) × (told ≡ Some n)
named true told n e = (refl, e)
named false told n e = cc

two_words : (word count : List ℕ) (n : ℕ) → rows_asked (word ∷ count ∷ []) ≡ Some n → IsGen (word ∷ count ∷ []) n
two_words word count n e =
    let so = named (bytes_eq word (codes "gen")) (count_in count) n e in
    let is : word ≡ codes "gen" = (bytes_eq-Decides word (codes "gen")).0 so.0 in
    let number = counts count n so.1 in
    record {
      spelled = ap (λ (w : List ℕ). w ∷ count ∷ []) is ∙ ap (λ (c : List ℕ). codes "gen" ∷ c ∷ []) (sym number.spelled);
      in_range = number.in_range;
    }

pub asks : (words : List (List ℕ)) (n : ℕ) → rows_asked words ≡ Some n → IsGen words n
asks [] n e = cc
asks (word ∷ []) n e = cc
asks (word ∷ count ∷ []) n e = two_words word count n e
asks (word ∷ count ∷ more ∷ words) n e = cc

-- ---- what the words ask for

run_asks : (words : List (List ℕ)) → is_run words ≡ true → rows_asked words ≡ None
run_asks [] e = refl
run_asks (word ∷ []) e = refl
run_asks (word ∷ count ∷ words) e = cc

pub of_run : (words : List (List ℕ)) → is_run words ≡ true → command_of words ≡ WithInput
of_run words is = ap (λ (o : Option ℕ). command_by o (is_run words)) (run_asks words is) ∙ ap input_command is

pub of_gen : (words : List (List ℕ)) (n : ℕ) → rows_asked words ≡ Some n → command_of words ≡ WithoutInput
of_gen words n e = ap (λ (o : Option ℕ). command_by o (is_run words)) e

pub of_others : (words : List (List ℕ)) → is_run words ≡ false → ((n : ℕ) → IsGen words n → ⊥) → command_of words ≡ Unknown
of_others words never none =
    ap (λ (o : Option ℕ). command_by o (is_run words)) (none_or (rows_asked words) (λ n e. none n (asks words n e))) ∙ ap input_command never

input_by : (rows : Option ℕ) (run : Bool) → command_by rows run ≡ WithInput → run ≡ true
input_by None true e = refl
input_by None false e = cc
input_by (Some n) run e = cc

-- an answer to the input is asked for by the word `run`
pub run_of : (words : List (List ℕ)) → command_of words ≡ WithInput → is_run words ≡ true
run_of words e = input_by (rows_asked words) (is_run words) e

-- other words ask for no answer to the input
pub not_input : (words : List (List ℕ)) → is_run words ≡ false → command_of words ≡ WithInput → ⊥
not_input words never is = let impossible : true ≡ false = sym (run_of words is) ∙ never in absurd (cc)

pub gen_not_input : (words : List (List ℕ)) (n : ℕ) → IsGen words n → command_of words ≡ WithInput → ⊥
gen_not_input words n gen is = let impossible : WithInput ≡ WithoutInput = sym is ∙ of_gen words n (asked words n gen) in absurd (cc)

-- ---- a word that is parsed as a number of 64 bits

parsed : {E : Type 0} (word : List ℕ) (r : Result ℕ E) → ParsesUnsigned 64 10 word r → (n : ℕ) → Counts word n → r ≡ Ok n
parsed word r parses n counts =
    let low : n < 2 ^ 64 = omega (arith, counts.in_range) in parse-decimal 64 n word r low low (sym counts.spelled) parses

pub not_parsed : {E : Type 0} (word : List ℕ) (r : Result ℕ E) (e : E) → ParsesUnsigned 64 10 word r → r ≡ Err e → None ≡ count_in word
not_parsed word r e parses is = sym (uncounted word (λ n counts. let read = parsed word r parses n counts in absurd (cc)))

value_of : {E : Type 0} (m n : ℕ) (r : Result ℕ E) → r ≡ Ok m → r ≡ Ok n → n ≡ m
value_of m n r e f = cc

pub other_parsed : {E : Type 0} (word : List ℕ) (r : Result ℕ E) (m : ℕ) → ParsesUnsigned 64 10 word r → r ≡ Ok m → (Counts word m → ⊥) → None ≡ count_in word
other_parsed word r m parses is never =
    sym (uncounted word (λ n counts. never (subst (Counts word) (value_of m n r is (parsed word r parses n counts)) counts)))

pub count_parsed : (word : List ℕ) (m : ℕ) → m ≤ most_rows → decimal m ≡ word → Some m ≡ count_in word
count_parsed word m low is = sym (counted word m (record { spelled = is; in_range = low }))
