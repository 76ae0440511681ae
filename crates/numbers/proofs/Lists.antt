-- What holds of every element of a list or of some: of its parts and at each index; what is written over a list's
-- front. Over any element type.
use Prim.Native.Nat.{ℕ, zero, suc, ◌+◌, ◌-◌, ◌≤◌, ◌<◌}
use mathlib.Core.Bool.{Bool, true, false, ◌||◌, ◌&&◌, or-true, or_assoc}
use mathlib.Core.List.{List, [], ◌∷◌, ◌++◌, map, reverse, reverse-cons}
use mathlib.Core.Logic.{◌⊎◌, inl, inr, ⊎_elim}
use mathlib.Core.Path.{◌≡◌, refl, ap, sym, subst, ◌∙◌}
use native.Mathlib.Nat.{le_of_suc-le-suc, not-suc-le-zero}
use native.Mathlib.Omega.{arith}
use lib.Dec.{eqb}
use lib.ListN.{length, get_or, drop, set, length-append, length-drop, length-reverse, length-set, get_or-append}
use lib.Seq.{drop-cons, append_snoc, set_at, get_or_at, get_or-drop, get_or-set_same, get_or-set_other}
use lib.Pointwise.{pointwise}
use Rattle.std.specs.List.{list_any}
use borrow.Author.Tests.{eq-eqb, eqb-true}
use Rattle.numbers.specs.Lists.{All, Any, Pairwise, Distinct, any, any_two, same, written}
use Rattle.numbers.proofs.Cases.{cases, clash, never, by_lt, by_eq, and-true, or-false}

module _ {A : Type 0} (P : A → Type 0) where
  pub all_append : (xs ys : List A) → All P xs → All P ys → All P (xs ++ ys)
  all_append [] ys a b = b
  all_append (x ∷ xs) ys a b = (a.0, all_append xs ys a.1 b)

  pub all_left : (xs ys : List A) → All P (xs ++ ys) → All P xs
  all_left [] ys a = tt
  all_left (x ∷ xs) ys a = (a.0, all_left xs ys a.1)

  pub all_right : (xs ys : List A) → All P (xs ++ ys) → All P ys
  all_right [] ys a = a
  all_right (x ∷ xs) ys a = all_right xs ys a.1

  -- at an index, and from every index
  pub all_at : (l : List A) (i : ℕ) (d : A) → All P l → i < length l → P (get_or l i d)
  all_at [] i d a h = absurd (not-suc-le-zero h)
  all_at (x ∷ xs) zero d a h = a.0
  all_at (x ∷ xs) (suc i) d a h = all_at xs i d a.1 (le_of_suc-le-suc h)

  pub all_of : (l : List A) (d : A) → ((i : ℕ) → i < length l → P (get_or l i d)) → All P l
  all_of [] d f = tt
  all_of (x ∷ xs) d f = (f 0 (omega arith), all_of xs d (λ i h. f (suc i) (omega arith)))

  pub all_imp : (Q : A → Type 0) → ((x : A) → P x → Q x) → (l : List A) → All P l → All Q l
  all_imp Q f [] a = tt
  all_imp Q f (x ∷ xs) a = (f x a.0, all_imp Q f xs a.1)

  pub all_both : (Q R : A → Type 0) → ((x : A) → P x → Q x → R x) → (l : List A) → All P l → All Q l → All R l
  all_both Q R f [] a b = tt
  all_both Q R f (x ∷ xs) a b = (f x a.0 b.0, all_both Q R f xs a.1 b.1)

  -- of a list mapped
  pub all_map : {B : Type 0} (h : B → A) (l : List B) → All (λ (x : B). P (h x)) l → All P (map h l)
  all_map h [] a = tt
  all_map h (x ∷ xs) a = (a.0, all_map h xs a.1)

  pub map_all : {B : Type 0} (h : B → A) (l : List B) → All P (map h l) → All (λ (x : B). P (h x)) l
  map_all h [] a = tt
  map_all h (x ∷ xs) a = (a.0, map_all h xs a.1)

  -- some element: at an index, and not where all are ruled out
  pub any_of : (l : List A) (i : ℕ) (d : A) → i < length l → P (get_or l i d) → Any P l
  any_of [] i d h p = absurd (not-suc-le-zero h)
  any_of (x ∷ xs) zero d h p = inl p
  any_of (x ∷ xs) (suc i) d h p = inr (any_of xs i d (le_of_suc-le-suc h) p)

  pub any_at : (l : List A) (d : A) → Any P l → (i : ℕ) × (i < length l) × P (get_or l i d)
  any_at [] d a = absurd a
  any_at (x ∷ xs) d (inl p) = (0, omega arith, p)
  any_at (x ∷ xs) d (inr a) = let r = any_at xs d a in let h = r.1 in (suc r.0, omega arith, r.2)

  pub any_imp : (Q : A → Type 0) → ((x : A) → P x → Q x) → (l : List A) → Any P l → Any Q l
  any_imp Q f [] a = a
  any_imp Q f (x ∷ xs) (inl p) = inl (f x p)
  any_imp Q f (x ∷ xs) (inr a) = inr (any_imp Q f xs a)

  pub any_left : (xs ys : List A) → Any P xs → Any P (xs ++ ys)
  any_left [] ys a = absurd a
  any_left (x ∷ xs) ys (inl p) = inl p
  any_left (x ∷ xs) ys (inr a) = inr (any_left xs ys a)

  pub any_right : (xs ys : List A) → Any P ys → Any P (xs ++ ys)
  any_right [] ys a = a
  any_right (x ∷ xs) ys a = inr (any_right xs ys a)

  pub any_parts : (xs ys : List A) → Any P (xs ++ ys) → Any P xs ⊎ Any P ys
  any_parts [] ys a = inr a
  any_parts (x ∷ xs) ys (inl p) = inl (inl p)
  any_parts (x ∷ xs) ys (inr a) = ⊎_elim (λ b. inl (inr b)) (λ b. inr b) (any_parts xs ys a)

  pub all_none : (l : List A) → All (λ (x : A). P x → ⊥) l → Any P l → ⊥
  all_none [] f a = a
  all_none (x ∷ xs) f (inl p) = f.0 p
  all_none (x ∷ xs) f (inr a) = all_none xs f.1 a

-- ---- what holds of every two elements, at two places

module _ {A : Type 0} (R : A → A → Type 0) where
  pub pairwise_before : (xs : List A) (d : A) (i j : ℕ) → Pairwise R xs → i < j → j < length xs → R (get_or xs i d) (get_or xs j d)
  pairwise_before [] d i j p l h = absurd (not-suc-le-zero h)
  pairwise_before (x ∷ xs) d i zero p l h = absurd (not-suc-le-zero l)
  pairwise_before (x ∷ xs) d zero (suc j) p l h = all_at (R x) xs j d p.0 (le_of_suc-le-suc h)
  pairwise_before (x ∷ xs) d (suc i) (suc j) p l h = pairwise_before xs d i j p.1 (le_of_suc-le-suc l) (le_of_suc-le-suc h)

  pub at_pairwise : (xs : List A) (d : A) → ((i j : ℕ) → i < j → j < length xs → R (get_or xs i d) (get_or xs j d)) → Pairwise R xs
  at_pairwise [] d f = tt
  at_pairwise (x ∷ xs) d f =
      (all_of (R x) xs d (λ j h. f 0 (suc j) (omega arith) (omega arith)), at_pairwise xs d (λ i j l h. f (suc i) (suc j) (omega arith) (omega arith)))

  -- whichever stands in front
  pub pairwise_at : ((x y : A) → R x y → R y x) → (xs : List A) (d : A) (i j : ℕ) → Pairwise R xs → i < length xs → j < length xs → (i ≡ j → ⊥) → R (get_or xs i d) (get_or xs j d)
  pairwise_at turn xs d i j p a b n =
      by_lt i j (λ l. pairwise_before xs d i j p l b) (λ l. turn (get_or xs j d) (get_or xs i d) (pairwise_before xs d j i p (omega (arith, n)) a))

module _ {A : Type 0} where
  pub distinct_at : (xs : List A) (d : A) (i j : ℕ) → Distinct xs → i < length xs → j < length xs → (i ≡ j → ⊥) → get_or xs i d ≡ get_or xs j d → ⊥
  distinct_at xs d i j = pairwise_at (λ (x y : A). x ≡ y → ⊥) (λ x y n e. n (sym e)) xs d i j

  pub at_distinct : (xs : List A) (d : A) → ((i j : ℕ) → i < j → j < length xs → get_or xs i d ≡ get_or xs j d → ⊥) → Distinct xs
  at_distinct xs d f = at_pairwise (λ (x y : A). x ≡ y → ⊥) xs d f

-- tests change places
pub or_swap : (a b c : Bool) → (a || (b || c)) ≡ (b || (a || c))
or_swap true b c = sym (or-true b)
or_swap false b c = refl

pub or_exchange : (a b c d : Bool) → ((a || b) || (c || d)) ≡ ((a || c) || (b || d))
or_exchange a b c d = simp (or_assoc, or_swap)

module _ {A : Type 0} (f : A → Bool) where
  -- the test of some element says whether there is one
  pub any_true : (l : List A) → any f l ≡ true → Any (λ (x : A). f x ≡ true) l
  unfolding any
  any_true [] e = clash {b = false} e refl
  any_true (x ∷ xs) e = cases (f x) (λ t. inl t) (λ n. inr (any_true xs (sym (simp n) ∙ e)))

  pub any_false : (l : List A) → any f l ≡ false → All (λ (x : A). f x ≡ false) l
  unfolding any
  any_false [] e = tt
  any_false (x ∷ xs) e =
      cases (f x) (λ t. clash {b = f x || any f xs} (simp t) e)
      (λ n. (n, any_false xs (sym (simp n) ∙ e)))

  pub of_any : (l : List A) → Any (λ (x : A). f x ≡ true) l → any f l ≡ true
  unfolding any
  of_any [] a = absurd a
  of_any (x ∷ xs) (inl t) = simp t
  of_any (x ∷ xs) (inr a) = cases (f x) (λ t. simp t) (λ n. simp n (of_any xs a))

  pub of_none : (l : List A) → All (λ (x : A). f x ≡ false) l → any f l ≡ false
  unfolding any
  of_none [] a = refl
  of_none (x ∷ xs) a = simp a.0 (of_none xs a.1)

  pub any_append : (xs ys : List A) → any f (xs ++ ys) ≡ (any f xs || any f ys)
  unfolding any
  any_append [] ys = refl
  any_append (x ∷ xs) ys = ap (λ (b : Bool). f x || b) (any_append xs ys) ∙ sym (or_assoc (f x) (any f xs) (any f ys))

  pub any_map : {B : Type 0} (h : B → A) (l : List B) → any f (map h l) ≡ any (λ (x : B). f (h x)) l
  unfolding any
  any_map h [] = refl
  any_map h (x ∷ xs) = ap (λ (b : Bool). f (h x) || b) (any_map h xs)

  -- a test that agrees on all elements
  pub any_same : (P : A → Type 0) (g : A → Bool) → ((x : A) → P x → f x ≡ g x) → (l : List A) → All P l → any f l ≡ any g l
  unfolding any
  any_same P g e [] a = refl
  any_same P g e (x ∷ xs) a = rw (e x a.0, any_same P g e xs a.1)

-- no two elements pass a test: a fact about every two
module _ {A : Type 0} (f : A → A → Bool) (R : A → A → Type 0) where
  pub two_false : ((x y : A) → f x y ≡ false → R x y) → (l : List A) → any_two f l ≡ false → Pairwise R l
  unfolding any_two
  two_false h [] e = tt
  two_false h (x ∷ xs) e =
      let s = or-false (any (f x) xs) (any_two f xs) e in
      (all_imp (λ (y : A). f x y ≡ false) (R x) (h x) xs (any_false (f x) xs s.0), two_false h xs s.1)

  pub of_no_two : ((x y : A) → R x y → f x y ≡ false) → (l : List A) → Pairwise R l → any_two f l ≡ false
  unfolding any_two
  of_no_two h [] p = refl
  of_no_two h (x ∷ xs) p = simp (of_none (f x) xs (all_imp (R x) (λ (y : A). f x y ≡ false) (h x) xs p.0), of_no_two h xs p.1)

-- two lists compared
pub same_true : (a b : List ℕ) → same a b ≡ true → a ≡ b
unfolding same
same_true [] [] e = refl
same_true [] (y ∷ b) e = clash {b = false} e refl
same_true (x ∷ a) [] e = clash {b = false} e refl
same_true (x ∷ a) (y ∷ b) e = let p = and-true (eqb x y) (same a b) e in rw (eqb-true x y p.0, same_true a b p.1)

pub true_same : (a b : List ℕ) → a ≡ b → same a b ≡ true
unfolding same
true_same a b e = rw e (itself b)
  where
    itself : (l : List ℕ) → same l l ≡ true
    itself [] = refl
    itself (x ∷ l) = simp (eq-eqb x x refl, itself l)

module _ {A : Type 0} where
  pub written_length : (xs s : List A) → length xs ≤ length s → length (written xs s) ≡ length s
  written_length xs s h = rw (length-append, length-drop) (omega arith)

  -- one more, in the next slot
  pub written_next : (xs s : List A) (k : ℕ) (x : A) → length xs ≡ k → k < length s → set (written xs s) k x ≡ written (xs ++ (x ∷ [])) s
  written_next xs s k x e h =
      let n : suc (length xs) ≡ length (xs ++ (x ∷ [])) = sym (length-append xs (x ∷ []) ∙ omega arith) in
      ap (λ (t : List A). set (xs ++ t) k x) (drop-cons s (length xs) x (omega arith))
      ∙ set_at xs (get_or s (length xs) x) (drop (suc (length xs)) s) x k e
      ∙ sym (append_snoc xs x (drop (suc (length xs)) s))
      ∙ ap (λ (m : ℕ). (xs ++ (x ∷ [])) ++ drop m s) n

-- ---- read at an index: after a store, mapped, and backwards

module _ {A : Type 0} where
  pub stored_new : (l m : List A) (i j : ℕ) (a d : A) → m ≡ set l i a → i < length l → j ≡ i → get_or m j d ≡ a
  stored_new l m i j a d e h q = ap (λ (t : List A). get_or t j d) e ∙ ap (λ (k : ℕ). get_or (set l i a) k d) q ∙ get_or-set_same l i a d h

  pub stored_old : (l m : List A) (i j : ℕ) (a d : A) → m ≡ set l i a → (j ≡ i → ⊥) → get_or m j d ≡ get_or l j d
  stored_old l m i j a d e n = ap (λ (t : List A). get_or t j d) e ∙ get_or-set_other l i j a d n

-- a list from i on
module _ {A : Type 0} where
  pub from_here : (l : List A) (i : ℕ) (d : A) → i < length l → drop i l ≡ get_or l i d ∷ drop (i + 1) l
  from_here l i d h = let e : suc i ≡ i + 1 = omega arith in drop-cons l i d h ∙ ap (λ (j : ℕ). get_or l i d ∷ drop j l) e

  pub at_front : (l : List A) (i : ℕ) (d : A) → get_or (drop i l) 0 d ≡ get_or l i d
  at_front l i d = let e : i + 0 ≡ i = omega arith in get_or-drop i l 0 d ∙ ap (λ (j : ℕ). get_or l j d) e

pub reverse_at : {A : Type 0} (l : List A) (t : ℕ) (d : A) → t < length l → get_or (reverse l) t d ≡ get_or l (length l - 1 - t) d
reverse_at [] t d h = absurd (not-suc-le-zero h)
reverse_at {A} (x ∷ xs) t d h =
    let e = length-reverse xs in
    by_lt t (length xs)
    (λ i.
    let f : suc (length xs - 1 - t) ≡ suc (length xs) - 1 - t = omega arith in
    ap (λ (l : List A). get_or l t d) (reverse-cons x xs) ∙ get_or-append (reverse xs) (x ∷ []) d t (omega arith)
    ∙ reverse_at xs t d i ∙ ap (λ (k : ℕ). get_or (x ∷ xs) k d) f)
    (λ i.
    let f : 0 ≡ suc (length xs) - 1 - t = omega arith in
    ap (λ (l : List A). get_or l t d) (reverse-cons x xs) ∙ get_or_at (reverse xs) x [] d t (omega arith)
    ∙ ap (λ (k : ℕ). get_or (x ∷ xs) k d) f)

-- ---- lists mapped, and one element of a list set or moved

pub map_same : {A B : Type 0} (P : A → Type 0) (f g : A → B) → ((x : A) → P x → f x ≡ g x) → (l : List A) → All P l → map f l ≡ map g l
map_same P f g e [] a = refl
map_same P f g e (x ∷ l) a = rw (e x a.0, map_same P f g e l a.1)

module _ {A : Type 0} where
  pub all_set : (P : A → Type 0) (l : List A) (i : ℕ) (x : A) (d : A) → All P l → P x → All P (set l i x)
  all_set P l i x d a p =
      let n = length-set l i x in
      all_of P (set l i x) d
      (λ k h.
      by_eq k i (λ e. subst P (sym (ap (λ (j : ℕ). get_or (set l i x) j d) e ∙ get_or-set_same l i x d (omega arith))) p)
      (λ e. subst P (sym (get_or-set_other l i k x d e)) (all_at P l k d a (omega arith))))

  pub map_set : {B : Type 0} (f : A → B) (l : List A) (i : ℕ) (x : A) → map f (set l i x) ≡ set (map f l) i (f x)
  map_set f [] i x = refl
  map_set f (y ∷ l) zero x = refl
  map_set {B} f (y ∷ l) (suc i) x = ap (λ (t : List B). f y ∷ t) (map_set f l i x)

-- an element moved behind others
module _ {A : Type 0} (R : A → A → Type 0) (turned : (a b : A) → R a b → R b a) where
  sinks : (x : A) (ys zs : List A) → Pairwise R (x ∷ (ys ++ zs)) → Pairwise R (ys ++ (x ∷ zs))
  sinks x [] zs p = p
  sinks x (y ∷ ys) zs p = (
    all_append (R y) ys (x ∷ zs) (all_left (R y) ys zs p.1.0) (turned x y p.0.0, all_right (R y) ys zs p.1.0),
    sinks x ys zs (p.0.1, p.1.1),
  )

  pub pairwise_move : (xs : List A) (x : A) (ys zs : List A) → Pairwise R (xs ++ (x ∷ (ys ++ zs))) → Pairwise R ((xs ++ ys) ++ (x ∷ zs))
  pairwise_move [] x ys zs p = sinks x ys zs p
  pairwise_move (a ∷ xs) x ys zs p =
      let b = all_right (R a) xs (x ∷ (ys ++ zs)) p.0 in (
        all_append (R a) (xs ++ ys) (x ∷ zs)
            (all_append (R a) xs ys (all_left (R a) xs (x ∷ (ys ++ zs)) p.0) (all_left (R a) ys zs b.1))
            (b.0, all_right (R a) ys zs b.1),
        pairwise_move xs x ys zs p.1,
      )

-- past the end
pub past_none : {A : Type 0} (l : List A) (i : ℕ) (d : A) → length l ≤ i → get_or l i d ≡ d
past_none [] i d h = refl
past_none (x ∷ l) zero d h = absurd (omega arith)
past_none (x ∷ l) (suc i) d h = past_none l i d (omega arith)

-- ---- what the library's chains and comparisons compute

pub list_any_is : {A : Type 0} (f : A → Bool) (l : List A) → list_any f l ≡ any f l
unfolding any
list_any_is f [] = refl
list_any_is f (x ∷ xs) = ap (λ (b : Bool). f x || b) (list_any_is f xs)

pub pointwise_same : (a b : List ℕ) → pointwise eqb a b ≡ same a b
unfolding same
pointwise_same [] [] = refl
pointwise_same [] (y ∷ b) = refl
pointwise_same (x ∷ a) [] = refl
pointwise_same (x ∷ a) (y ∷ b) = ap (λ (t : Bool). eqb x y && t) (pointwise_same a b)

pub same_swap : (a b : List ℕ) → same a b ≡ same b a
same_swap a b =
    cases (same a b) (λ t. t ∙ sym (true_same b a (sym (same_true a b t))))
    (λ f. f ∙ sym (never (same b a) (λ t. clash (true_same a b (sym (same_true b a t))) f)))
