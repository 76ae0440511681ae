-- The digits in front of a text are those of its number, and the other way round.
use Rattle.std.proofs.Common.{◌≡◌, ℕ, ◌^◌, ◌≤◌, ◌<◌, Bool, true, false, List, [], ◌∷◌, ◌++◌, length, take, get_or, refl, sym, ap, ◌∙◌, arith, rules, eqb, not, ◌||◌, cond, None, Some, suc, ⊎_elim}
use Rattle.line.specs.Reading.{is_digit, digit_count, value, value_from, is_plain, said}
use borrow.Author.Tests.{eqb-true, eq-eqb, ne_eqb, ltb-true, leb-true, lt-ltb, le-leb}
use Rattle.numbers.proofs.Cases.{cases, clash, by_eq, and-true, or-true, none_some, same_some}
use Rattle.numbers.specs.Lists.{All}
use Rattle.std.proofs.lemmas.Fmt.{digits_value-decimal, decimal-digits_value, decimal_nonempty, first_decimal, decimal_digit}
use Rattle.std.proofs.lemmas.Str.Parse.{IsNumeralModel, numerals_by_fold}
use Rattle.std.specs.Fmt.{decimal}

abbrev pub Digit : ℕ → Type 0
Digit b = is_digit b ≡ true

abbrev pub Digits : List ℕ → Type 0
Digits ds = All Digit ds

pub own : IsNumeralModel Digits value
unfolding value_from
own = numerals_by_fold _ (search rules) value_from (search rules)

-- Those in front.
pub front_digits : (text : List ℕ) → Digits (take (digit_count text) text)
unfolding digit_count
front_digits [] = tt
front_digits (b ∷ bs) = cases (is_digit b) (λ t. simp t (refl, front_digits bs)) (λ f. simp f tt)

-- Digits, and then none.
pub count_digits : (ds rest : List ℕ) → Digits ds → digit_count rest ≡ 0 → digit_count (ds ++ rest) ≡ length ds
unfolding digit_count
count_digits [] rest h z = z
count_digits (d ∷ ds) rest h z = simp h.0 (ap suc (count_digits ds rest h.1 z))

-- What a test has kept.
pub kept : {A : Type 0} {b : Bool} {x y : A} → cond b (Some x) None ≡ Some y → (b ≡ true) × (x ≡ y)
kept {b = true} e = (refl, same_some e)
kept {b = false} e = absurd (none_some e)

plain_first : (ds : List ℕ) → (eqb (length ds) 1 || not (eqb (get_or ds 0 0) 48)) ≡ true → get_or ds 0 0 ≡ 48 → length ds ≡ 1
plain_first ds e z = ⊎_elim (λ t. eqb-true _ _ t) (λ t. let f : not true ≡ true = sym (ap not (eq-eqb _ _ z)) ∙ t in clash {b = true} refl (sym f)) (or-true _ _ e)

pub said_takes : (most n : ℕ) (ds : List ℕ) → most < 2 ^ 64 → Digits ds → said most ds ≡ Some n → (ds ≡ decimal n) × (n ≤ most)
unfolding said is_plain
said_takes most n ds w h e =
    let k = kept e in
    let p = and-true _ _ k.0 in
    let q = and-true _ _ p.0 in
    let v = leb-true _ _ p.1 in
    (sym (decimal-digits_value own ds h (ltb-true _ _ q.0) (plain_first ds q.1) (omega (arith, v, w))) ∙ ap decimal k.1, rw (sym k.1) v)

-- A number is written without a leading zero.
decimal_plain : (n : ℕ) → n < 2 ^ 64 → (eqb (length (decimal n)) 1 || not (eqb (get_or (decimal n) 0 0) 48)) ≡ true
decimal_plain n h =
    by_eq n 0
    (λ z. rw (z, decimal_digit 0 (omega arith)) refl)
    (λ z. let f = first_decimal n (omega (arith, z)) h in rw (ne_eqb (get_or (decimal n) 0 0) 48 (omega (arith, f))) (cases (eqb (length (decimal n)) 1) (λ t. simp t) (λ f. simp f)))

pub said_again : (most n : ℕ) → most < 2 ^ 64 → n ≤ most → said most (decimal n) ≡ Some n
unfolding said is_plain
said_again most n w h =
    let m : n < 2 ^ 64 = omega (arith, w, h) in
    simp (digits_value-decimal own n m, lt-ltb _ _ (decimal_nonempty n m), decimal_plain n m, le-leb _ _ h)
