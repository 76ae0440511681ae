-- How an input falls into lines: in one block or in several, and what is kept of a line that is too long.
use Rattle.std.proofs.Common.{◌≡◌, ℕ, ◌+◌, ◌<◌, false, List, [], ◌∷◌, ◌++◌, length, take, refl, sym, ap, ◌∙◌, arith, append_assoc, append-nil, length-append, length-take, eqb, Option, None, Some, map, subst}
use borrow.Author.Tests.{eqb-true}
use Rattle.std.specs.List.{position, position_from}
use Rattle.std.proofs.lemmas.Iterator.Adapters.{position_from-zero}
use lib.Seq.{length-take-le, take-append-le}
use Rattle.line.proofs.Parts.{beyond}
use Rattle.listing.proofs.Keeping.{front}
use Rattle.std.proofs.lemmas.List.{take_all}
use Rattle.line.specs.Answer.{answer_text}
use Rattle.line.specs.Reading.{command_in}
use Rattle.listing.specs.Feeding.{kept}
use Rattle.listing.specs.Lines.{ended, begun, last_line}
use Rattle.listing.specs.Program.{line_for, after, texts, after_lines}
use Rattle.model.specs.World.{World}
use Rattle.numbers.proofs.Cases.{cases, by_lt}
use Rattle.numbers.specs.Lists.{All}

-- ---- two blocks

pub ended_append : (c x y : List ℕ) → ended c (x ++ y) ≡ ended c x ++ ended (begun c x) y
unfolding ended begun
ended_append c [] y = refl
ended_append c (b ∷ x) y =
    cases (eqb b 10) (λ t. simp t (ap (λ l. c ∷ l) (ended_append [] x y))) (λ f. simp f (ended_append (c ++ (b ∷ [])) x y))

pub begun_append : (c x y : List ℕ) → begun c (x ++ y) ≡ begun (begun c x) y
unfolding begun
begun_append c [] y = refl
begun_append c (b ∷ x) y =
    cases (eqb b 10) (λ t. simp t (begun_append [] x y)) (λ f. simp f (begun_append (c ++ (b ∷ [])) x y))

-- ---- no line end, and one

abbrev pub Inside : ℕ → Type 0
Inside b = eqb b 10 ≡ false

-- Where a search for the first line end has stopped.
pub record EndAt (xs : List ℕ) (n i : ℕ) : Type 0 where
  pub before : List ℕ
  pub behind : List ℕ
  pub whole : xs ≡ before ++ (10 ∷ behind)
  pub inside : All Inside before
  pub at : i ≡ n + length before

abbrev pub Found : List ℕ → ℕ → Option ℕ → Type 0
Found xs n None = All Inside xs
Found xs n (Some i) = EndAt xs n i

pub found_from : (n : ℕ) (xs : List ℕ) → Found xs n (position_from (λ b. eqb b 10) n xs)
found_from n [] = tt
found_from n (x ∷ xs) =
    cases (eqb x 10)
    (λ t. simp t (record { before = []; behind = xs; whole = rw (eqb-true _ _ t) refl; inside = tt; at = omega arith }))
    (λ f. simp f (further f (position_from (λ b. eqb b 10) (n + 1) xs) (found_from (n + 1) xs)))
  where
    further : eqb x 10 ≡ false → (o : Option ℕ) → Found xs (n + 1) o → Found (x ∷ xs) n o
    further f None h = (f, h)
    further f (Some i) e = record { before = x ∷ e.before; behind = e.behind; whole = ap (λ l. x ∷ l) e.whole; inside = (f, e.inside); at = let a = e.at in omega (arith, a) }

pub found : (xs : List ℕ) (o : Option ℕ) → o ≡ position (λ b. eqb b 10) xs → Found xs 0 o
found xs o e = subst (Found xs 0) (sym (e ∙ position_from-zero (λ b. eqb b 10) xs)) (found_from 0 xs)

-- The first n bytes, and one more.
module _ {xs : List ℕ} {i : ℕ} (e : EndAt xs 0 i) where
  pub line_taken : take i xs ≡ e.before
  line_taken = ap (take i) e.whole ∙ front i e.before (10 ∷ e.behind) (let a = e.at in omega (arith, a))

  pub end_taken : take (i + 1) xs ≡ e.before ++ (10 ∷ [])
  end_taken =
      ap (take (i + 1)) (e.whole ∙ sym (append_assoc e.before (10 ∷ []) e.behind))
      ∙ front (i + 1) (e.before ++ (10 ∷ [])) e.behind (let a = e.at in let b = length-append e.before (10 ∷ []) in omega (arith, a, b))

  pub end_inside : i < length xs
  end_inside = let a = e.at in let b = ap length e.whole in let c = length-append e.before (10 ∷ e.behind) in omega (arith, a, b, c)

pub ended_none : (c x : List ℕ) → All Inside x → ended c x ≡ []
unfolding ended
ended_none c [] h = refl
ended_none c (b ∷ x) h = simp h.0 (ended_none (c ++ (b ∷ [])) x h.1)

pub begun_none : (c x : List ℕ) → All Inside x → begun c x ≡ c ++ x
unfolding begun
begun_none c [] h = sym (append-nil c)
begun_none c (b ∷ x) h = simp h.0 (begun_none (c ++ (b ∷ [])) x h.1 ∙ append_assoc c (b ∷ []) x)

pub ended_one : (c x : List ℕ) → All Inside x → ended c (x ++ (10 ∷ [])) ≡ (c ++ x) ∷ []
unfolding ended
ended_one c x h = ended_append c x (10 ∷ []) ∙ rw (ended_none c x h, begun_none c x h) refl

pub begun_one : (c x : List ℕ) → All Inside x → begun c (x ++ (10 ∷ [])) ≡ []
unfolding begun
begun_one c x h = begun_append c x (10 ∷ [])

-- ---- answers to lines one behind the other

pub texts_append : (s : Option World) (x y : List (List ℕ)) → texts s (x ++ y) ≡ texts s x ++ texts (after_lines s x) y
unfolding texts after_lines
texts_append s [] y = refl
texts_append s (l ∷ x) y =
    ap (λ t. answer_text (line_for s (command_in l)) ++ t) (texts_append (after s (command_in l)) x y)
    ∙ sym (append_assoc (answer_text (line_for s (command_in l))) (texts (after s (command_in l)) x) (texts (after_lines (after s (command_in l)) x) y))

pub after_append : (s : Option World) (x y : List (List ℕ)) → after_lines s (x ++ y) ≡ after_lines (after_lines s x) y
unfolding after_lines
after_append s [] y = refl
after_append s (l ∷ x) y = after_append (after s (command_in l)) x y

-- ---- of a line that is too long, no more is kept than tells that it is

module _ (n : ℕ) where
  take_take : (c : List ℕ) → take n (take n c) ≡ take n c
  take_take c = take_all n (take n c) (let e = length-take n c in omega (arith, e))

  take_again : (c y : List ℕ) → take n (take n c ++ y) ≡ take n (c ++ y)
  take_again c y =
      by_lt n (length c)
      (λ h. front n (take n c) y (sym (length-take-le n c (omega (arith, h)))) ∙ sym (take-append-le n c y (omega (arith, h))))
      (λ h. rw (take_all n c h) refl)

pub command_kept : (l : List ℕ) → command_in (kept l) ≡ command_in l
command_kept l =
    by_lt 128 (length l)
    (λ h. sym (beyond (kept l) (let e = length-take 129 l in omega (arith, h, e))) ∙ beyond l h)
    (λ h. ap command_in (take_all 129 l (omega (arith, h))))

texts_kept : (s : Option World) (ls : List (List ℕ)) → texts s (map kept ls) ≡ texts s ls
unfolding texts
texts_kept s [] = refl
texts_kept s (l ∷ ls) = rw (command_kept l, texts_kept (after s (command_in l)) ls) refl

after_kept : (s : Option World) (ls : List (List ℕ)) → after_lines s (map kept ls) ≡ after_lines s ls
unfolding after_lines
after_kept s [] = refl
after_kept s (l ∷ ls) = after_kept (after s (command_in (kept l))) ls ∙ ap (λ c. after_lines (after s c) ls) (command_kept l)

lines_kept : (c y : List ℕ) → map kept (ended (kept c) y) ≡ map kept (ended c y)
unfolding ended
lines_kept c [] = refl
lines_kept c (b ∷ y) =
    cases (eqb b 10)
    (λ t. simp t (ap (λ l. l ∷ map kept (ended [] y)) (take_take 129 c)))
    (λ f. simp f (sym (lines_kept (kept c ++ (b ∷ [])) y) ∙ ap (λ l. map kept (ended l y)) (take_again 129 c (b ∷ [])) ∙ lines_kept (c ++ (b ∷ [])) y))

pub begun_kept : (c y : List ℕ) → kept (begun (kept c) y) ≡ kept (begun c y)
unfolding begun
begun_kept c [] = take_take 129 c
begun_kept c (b ∷ y) =
    cases (eqb b 10)
    (λ t. simp t)
    (λ f. simp f (sym (begun_kept (kept c ++ (b ∷ [])) y) ∙ ap (λ l. kept (begun l y)) (take_again 129 c (b ∷ [])) ∙ begun_kept (c ++ (b ∷ [])) y))

-- Answers are the same.
pub texts_ended : (s : Option World) (c y : List ℕ) → texts s (ended (kept c) y) ≡ texts s (ended c y)
texts_ended s c y = sym (texts_kept s (ended (kept c) y)) ∙ ap (texts s) (lines_kept c y) ∙ texts_kept s (ended c y)

pub after_ended : (s : Option World) (c y : List ℕ) → after_lines s (ended (kept c) y) ≡ after_lines s (ended c y)
after_ended s c y = sym (after_kept s (ended (kept c) y)) ∙ ap (after_lines s) (lines_kept c y) ∙ after_kept s (ended c y)

pub last_kept : (s : Option World) (c : List ℕ) → texts s (last_line (kept c)) ≡ texts s (last_line c)
last_kept s [] = refl
last_kept s (b ∷ c) = texts_kept s ((b ∷ c) ∷ [])
