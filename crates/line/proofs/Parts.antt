-- A word in front of a text, the digits there, and the number that they say.
use Rattle.std.proofs.Common.{◌≡◌, ℕ, ◌+◌, ◌-◌, ◌*◌, ◌≤◌, ◌<◌, true, false, List, [], ◌∷◌, length, take, drop, get_or, refl, sym, ap, ◌∙◌, arith, eqb, Option, None, Some, drop_of_length-le, drop-cons, suc, MatchOption, option_map, unwrap_or, not, le-leb}
use borrow.Author.Tests.{lt-leb}
use denote.Bor.{Bor}
use native.Mathlib.Nat.{zero-add}
use native.Mathlib.Numerals.{add-one}
use lib.Pointwise.{pointwise}
use Rattle.line.specs.Command.{Command}
use Rattle.line.specs.Reading.{behind, is_digit, digit_count, value, value_from, locate_in, grow_in, publish_in, create_in, drop_in, cap_in, open_in, command_in}
use Rattle.numbers.proofs.Cases.{cases}
use Rattle.numbers.proofs.Lists.{pointwise_same}
use Rattle.std.proofs.lemmas.Iterator.Adapters.{position_from-zero}
use Rattle.std.specs.List.{position, position_from}
use Rattle.std.specs.Option.{option_or}
use Rattle.numbers.specs.Sums.{top}

-- What a test of the front tells, and what it leaves.
pub behind_none : (word text : List ℕ) → pointwise eqb (take (length word) text) word ≡ false → None ≡ behind word text
unfolding behind
behind_none word text h = rw (sym (pointwise_same (take (length word) text) word) ∙ h) refl

pub behind_some : (word text rest : List ℕ) → pointwise eqb (take (length word) text) word ≡ true → rest ≡ drop (length word) text → Some rest ≡ behind word text
unfolding behind
behind_some word text rest h e = rw (sym (pointwise_same (take (length word) text) word) ∙ h, e) refl

-- Digits that follow make no less.
pub value_grows : (v : ℕ) (ds : List ℕ) → v ≤ value_from v ds
unfolding value_from
value_grows v [] = omega arith
value_grows v (d ∷ ds) = let h = value_grows (v * 10 + (d - 48)) ds in omega (arith, h)

-- The next digit counts, and the rest follows.
pub value_next : (ds : List ℕ) (i v : ℕ) → i < length ds → value_from v (drop i ds) ≡ value_from (v * 10 + (get_or ds i 0 - 48)) (drop (i + 1) ds)
unfolding value_from
value_next ds i v h = rw (drop-cons ds i 0 h, add-one) refl

-- A digit that can't be counted: none of the number can.
pub value_over : (ds : List ℕ) (i v : ℕ) → i < length ds → value_from v (drop i ds) ≡ value ds → (v * 10 + (get_or ds i 0 - 48) ≤ top → ⊥) → value ds ≤ top → ⊥
value_over ds i v h e f g = let m = value_grows (v * 10 + (get_or ds i 0 - 48)) (drop (i + 1) ds) in let n = sym (value_next ds i v h) ∙ e in f (omega (arith, m, n, g))

-- None is left.
pub value_whole : (ds : List ℕ) (i v : ℕ) → length ds ≤ i → value_from v (drop i ds) ≡ value ds → v ≡ value ds
unfolding value_from
value_whole ds i v h e = sym (ap (value_from v) (drop_of_length-le ds h)) ∙ e

-- ---- the calls' returns

pub behind_told : (word text : List ℕ) (r : Option (Bor (List ℕ)))
    → MatchOption r (pointwise eqb (take (length word) text) word ≡ false) (λ x. (pointwise eqb (take (length word) text) word ≡ true) ×
    (x.now ≡ drop (length word) text) × (length x.now + length word ≡ length text))
    → option_map (λ x. x.now) r ≡ behind word text
behind_told word text None h = behind_none word text h
behind_told word text (Some x) h = behind_some word text x.now h.0 h.1

-- ---- digits

count_from : (n : ℕ) (xs : List ℕ) → unwrap_or (position_from (λ b. not (is_digit b)) n xs) (n + length xs) ≡ n + digit_count xs
unfolding digit_count
count_from n [] = refl
count_from n (x ∷ xs) =
    cases (is_digit x)
    (λ t. let h = count_from (n + 1) xs in let e : n + suc (length xs) ≡ n + 1 + length xs = omega arith in simp (t, e) (h ∙ omega arith))
    (λ f. simp f (omega arith))

pub count_is : (xs : List ℕ) → unwrap_or (position (λ b. not (is_digit b)) xs) (length xs) ≡ digit_count xs
count_is xs = rw (position_from-zero (λ b. not (is_digit b)) xs) (simp zero-add at (count_from 0 xs))

-- ---- commands

-- What one of two calls answers is what one of two definitions has.
pub or_is : {A B : Type 0} (f : A → B) (r a b : Option A) (p q : Option B) → r ≡ option_or a b → option_map f a ≡ p → option_map f b ≡ q → option_map f r ≡ option_or p q
or_is f r None b p q e g h = rw (e, sym g) h
or_is f r (Some x) b p q e g h = rw (e, sym g) refl

pub within : (line : List ℕ) (o : Option Command) → length line ≤ 128
    → o ≡ option_or (option_or (option_or (option_or (option_or (option_or (locate_in line) (grow_in line)) (publish_in line)) (create_in line)) (drop_in line)) (cap_in line)) (open_in line)
    → o ≡ command_in line
unfolding command_in
within line o h e = simp (le-leb _ _ h) e

pub beyond : (line : List ℕ) → 128 < length line → None ≡ command_in line
unfolding command_in
beyond line h = simp (lt-leb _ _ h)
