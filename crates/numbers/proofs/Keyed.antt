-- The element of a key, and an element put in its place. Over any element type.
use Prim.Native.Nat.{ℕ, zero, suc, ◌+◌, ◌≤◌, ◌<◌}
use mathlib.Core.Bool.{Bool, true, false}
use mathlib.Core.List.{List, [], ◌∷◌, ◌++◌, map}
use mathlib.Core.Logic.{◌⊎◌, inl, inr, ⊎_elim}
use mathlib.Core.Path.{◌≡◌, refl, ap, sym, subst, ◌∙◌}
use native.Mathlib.Nat.{le_of_suc-le-suc, not-suc-le-zero}
use native.Mathlib.Omega.{arith}
use lib.Dec.{eqb, ltb}
use lib.ListN.{length, get_or, take, drop, set, take-append-drop}
use lib.Seq.{set_split, split_at}
use borrow.Author.Tests.{lt-ltb, le-ltb, eq-eqb, ne_eqb, eqb-true, eqb-false}
use Rattle.numbers.specs.Keyed.{HasKey, has_key, InKeyOrder, keyed, put_keyed}
use Rattle.numbers.specs.Lists.{All, Any, any}
use Rattle.numbers.proofs.Cases.{cases, by_lt, by_eq, by_order}
use Rattle.numbers.proofs.Lists.{all_at, all_imp, all_none, any_imp, any_true, any_false, of_any, pairwise_before}

-- all keys are lower than n, or higher
abbrev pub Lower : {A : Type 0} → (A → ℕ) → ℕ → List A → Type 0
Lower {A} key n xs = All (λ (y : A). key y < n) xs

abbrev pub Higher : {A : Type 0} → (A → ℕ) → ℕ → List A → Type 0
Higher {A} key n xs = All (λ (y : A). n < key y) xs

module _ {A : Type 0} (key : A → ℕ) where
  -- the test says whether some element has the key
  module _ (n : ℕ) (xs : List A) where
    abbrev is : A → Bool
    is x = eqb (key x) n

    pub key_true : has_key key n xs ≡ true → HasKey key n xs
    unfolding has_key
    key_true e = any_imp (λ (x : A). is x ≡ true) (λ (x : A). key x ≡ n) (λ x. eqb-true (key x) n) xs (any_true is xs e)

    pub true_key : HasKey key n xs → has_key key n xs ≡ true
    unfolding has_key
    true_key h = of_any is xs (any_imp (λ (x : A). key x ≡ n) (λ (x : A). is x ≡ true) (λ x. eq-eqb (key x) n) xs h)

    pub key_false : has_key key n xs ≡ false → All (λ (x : A). key x ≡ n → ⊥) xs
    unfolding has_key
    key_false e = all_imp (λ (x : A). is x ≡ false) (λ (x : A). key x ≡ n → ⊥) (λ x. eqb-false (key x) n) xs (any_false is xs e)

  -- an element that is not the first is behind it
  pub has_later : (n : ℕ) (x : A) (xs : List A) → (key x ≡ n → ⊥) → HasKey key n (x ∷ xs) → HasKey key n xs
  has_later n x xs d h = ⊎_elim (λ e. absurd (d e)) (λ a. a) h

  -- behind a first element whose key is below all others' stand higher keys
  pub has_higher : (n : ℕ) (x : A) (xs : List A) → Higher key (key x) xs → HasKey key n xs → key x < n
  has_higher n x xs a h =
      by_lt (key x) n (λ l. l)
      (λ l.
      absurd
      (all_none (λ (y : A). key y ≡ n) xs
      (all_imp (λ (y : A). key x < key y) (λ (y : A). key y ≡ n → ⊥) (λ y g e. omega (arith, g, e, l)) xs a)
      h))

  -- ---- the element of a key

  module _ (other : A) (n : ℕ) where
    pub keyed_here : (x : A) (xs : List A) → key x ≡ n → keyed key other n (x ∷ xs) ≡ x
    unfolding keyed
    keyed_here x xs e = simp (eq-eqb (key x) n e)

    pub keyed_later : (x : A) (xs : List A) → (key x ≡ n → ⊥) → keyed key other n (x ∷ xs) ≡ keyed key other n xs
    unfolding keyed
    keyed_later x xs d = simp (ne_eqb (key x) n d)

    pub keyed_cases : (x : A) (xs : List A) (P : A → Type 0) → (key x ≡ n → P x) → ((key x ≡ n → ⊥) → P (keyed key other n xs)) → P (keyed key other n (x ∷ xs))
    keyed_cases x xs P f g = by_eq (key x) n (λ e. subst P (sym (keyed_here x xs e)) (f e)) (λ d. subst P (sym (keyed_later x xs d)) (g d))

    -- it is one of the list where some element has the key, and the other one where none has
    pub keyed_there : (xs : List A) → HasKey key n xs → Any (λ (x : A). x ≡ keyed key other n xs) xs
    keyed_there [] h = h
    keyed_there (x ∷ xs) h =
        keyed_cases x xs (λ (r : A). Any (λ (y : A). y ≡ r) (x ∷ xs)) (λ e. inl refl)
        (λ d. inr (keyed_there xs (has_later n x xs d h)))

    pub keyed_none : (xs : List A) → (HasKey key n xs → ⊥) → keyed key other n xs ≡ other
    unfolding keyed
    keyed_none [] d = refl
    keyed_none (x ∷ xs) d = keyed_later x xs (λ e. d (inl e)) ∙ keyed_none xs (λ a. d (inr a))

    pub keyed_key : (xs : List A) → HasKey key n xs → key (keyed key other n xs) ≡ n
    keyed_key [] h = absurd h
    keyed_key (x ∷ xs) h = keyed_cases x xs (λ (r : A). key r ≡ n) (λ e. e) (λ d. keyed_key xs (has_later n x xs d h))

    -- where the other one has the key itself
    pub keyed_any_key : key other ≡ n → (xs : List A) → key (keyed key other n xs) ≡ n
    unfolding keyed
    keyed_any_key e [] = e
    keyed_any_key e (x ∷ xs) = keyed_cases x xs (λ (r : A). key r ≡ n) (λ f. f) (λ d. keyed_any_key e xs)

    pub keyed_front : (front rest : List A) → Lower key n front → keyed key other n (front ++ rest) ≡ keyed key other n rest
    keyed_front [] rest a = refl
    keyed_front (x ∷ xs) rest a = keyed_later x (xs ++ rest) (λ e. omega (arith, e, a.0)) ∙ keyed_front xs rest a.1

    pub keyed_behind : (xs : List A) → Higher key n xs → keyed key other n xs ≡ other
    unfolding keyed
    keyed_behind [] a = refl
    keyed_behind (x ∷ xs) a = keyed_later x xs (λ e. omega (arith, e, a.0)) ∙ keyed_behind xs a.1

  -- ---- an element put in: before one with a lower key, with the same, and with a higher

  module _ (x y : A) (ys : List A) where
    pub put_lower : key y < key x → put_keyed key x (y ∷ ys) ≡ y ∷ put_keyed key x ys
    unfolding put_keyed
    put_lower h = simp (lt-ltb (key y) (key x) h)

    pub put_here : key y ≡ key x → put_keyed key x (y ∷ ys) ≡ x ∷ ys
    unfolding put_keyed
    put_here e = simp (le-ltb (key y) (key x) (omega arith), eq-eqb (key y) (key x) e)

    pub put_before : key x < key y → put_keyed key x (y ∷ ys) ≡ x ∷ y ∷ ys
    unfolding put_keyed
    put_before h = simp (le-ltb (key y) (key x) (omega arith), ne_eqb (key y) (key x) (λ e. omega (arith, e, h)))

    pub put_cases : (P : List A → Type 0) → (key y < key x → P (y ∷ put_keyed key x ys)) → (key y ≡ key x → P (x ∷ ys)) → (key x < key y → P (x ∷ y ∷ ys)) → P (put_keyed key x (y ∷ ys))
    put_cases P f g h =
        by_order (key y) (key x) (λ l. subst P (sym (put_lower l)) (f l)) (λ e. subst P (sym (put_here e)) (g e)) (λ l. subst P (sym (put_before l)) (h l))

  module _ (x : A) where
    pub put_front : (front rest : List A) → Lower key (key x) front → put_keyed key x (front ++ rest) ≡ front ++ put_keyed key x rest
    put_front [] rest a = refl
    put_front (y ∷ ys) rest a = put_lower x y (ys ++ rest) a.0 ∙ ap (λ (t : List A). y ∷ t) (put_front ys rest a.1)

    pub put_behind : (xs : List A) → Higher key (key x) xs → put_keyed key x xs ≡ x ∷ xs
    unfolding put_keyed
    put_behind [] a = refl
    put_behind (y ∷ ys) a = put_before x y ys a.0

    -- what holds of it and of all others holds of all then
    pub put_all : (P : A → Type 0) → P x → (xs : List A) → All P xs → All P (put_keyed key x xs)
    unfolding put_keyed
    put_all P p [] a = (p, tt)
    put_all P p (y ∷ ys) a = put_cases x y ys (All P) (λ l. (a.0, put_all P p ys a.1)) (λ e. (p, a.1)) (λ l. (p, a))

    pub put_order : (xs : List A) → InKeyOrder key xs → InKeyOrder key (put_keyed key x xs)
    unfolding put_keyed
    put_order [] o = (tt, tt)
    put_order (y ∷ ys) o =
        put_cases x y ys (InKeyOrder key) (λ l. (put_all (λ (z : A). key y < key z) l ys o.0, put_order ys o.1))
        (λ e. (subst (λ (n : ℕ). Higher key n ys) e o.0, o.1))
        (λ l. ((l, all_imp (λ (z : A). key y < key z) (λ (z : A). key x < key z) (λ z g. omega (arith, g, l)) ys o.0), o))

    -- which keys there are then
    pub own_has : (xs : List A) → HasKey key (key x) (put_keyed key x xs)
    unfolding put_keyed
    own_has [] = inl refl
    own_has (y ∷ ys) = put_cases x y ys (HasKey key (key x)) (λ l. inr (own_has ys)) (λ e. inl refl) (λ l. inl refl)

    pub other_has : (n : ℕ) (xs : List A) → HasKey key n xs → HasKey key n (put_keyed key x xs)
    other_has n [] a = absurd a
    other_has n (y ∷ ys) h =
        put_cases x y ys (HasKey key n) (λ l. ⊎_elim (λ e. inl e) (λ a. inr (other_has n ys a)) h)
        (λ e. ⊎_elim (λ f. inl (sym e ∙ f)) (λ a. inr a) h)
        (λ l. inr h)

    pub has_put : (n : ℕ) (xs : List A) → HasKey key n (put_keyed key x xs) → (key x ≡ n) ⊎ HasKey key n xs
    unfolding put_keyed
    has_put n [] (inl e) = inl e
    has_put n [] (inr a) = absurd a
    has_put n (y ∷ ys) h =
        put_cases x y ys (λ (l : List A). HasKey key n l → (key x ≡ n) ⊎ HasKey key n (y ∷ ys))
        (λ l g. ⊎_elim (λ e. inr (inl e)) (λ a. ⊎_elim (λ e. inl e) (λ b. inr (inr b)) (has_put n ys a)) g)
        (λ e g. ⊎_elim (λ f. inl f) (λ a. inr (inr a)) g)
        (λ l g. g)
        h

    -- put twice, it is the last that counts
    pub put_put : (y : A) → key x ≡ key y → (xs : List A) → put_keyed key y (put_keyed key x xs) ≡ put_keyed key y xs
    unfolding put_keyed
    put_put y e [] = put_here y x [] e
    put_put y e (z ∷ zs) =
        put_cases x z zs (λ (l : List A). put_keyed key y l ≡ put_keyed key y (z ∷ zs))
        (λ l. put_lower y z (put_keyed key x zs) (omega (arith, e, l)) ∙ ap (λ (t : List A). z ∷ t) (put_put y e zs) ∙ sym (put_lower y z zs (omega (arith, e, l))))
        (λ f. put_here y x zs e ∙ sym (put_here y z zs (f ∙ e)))
        (λ l. put_here y x (z ∷ zs) e ∙ sym (put_before y z zs (omega (arith, e, l))))

    -- how many elements there are then
    pub length_made : (xs : List A) → (HasKey key (key x) xs → ⊥) → length (put_keyed key x xs) ≡ length xs + 1
    unfolding put_keyed
    length_made [] d = refl
    length_made (y ∷ ys) d =
        put_cases x y ys (λ (l : List A). length l ≡ length (y ∷ ys) + 1) (λ l. let h = length_made ys (λ a. d (inr a)) in omega (arith, h))
        (λ e. absurd (d (inl e)))
        (λ l. omega arith)

    pub length_kept : (xs : List A) → InKeyOrder key xs → HasKey key (key x) xs → length (put_keyed key x xs) ≡ length xs
    length_kept [] o a = absurd a
    length_kept (y ∷ ys) o h =
        put_cases x y ys (λ (l : List A). length l ≡ length (y ∷ ys))
        (λ l. let k = length_kept ys o.1 (has_later (key x) y ys (λ e. omega (arith, e, l)) h) in omega (arith, k))
        (λ e. refl)
        (λ l.
        absurd (⊎_elim (λ e. omega (arith, e, l)) (λ a. let b = has_higher (key x) y ys o.0 a in omega (arith, b, l)) h))

    pub put_more : (xs : List A) → length xs ≤ length (put_keyed key x xs)
    unfolding put_keyed
    put_more [] = omega arith
    put_more (y ∷ ys) = put_cases x y ys (λ (l : List A). length (y ∷ ys) ≤ length l) (λ l. let h = put_more ys in omega (arith, h)) (λ e. omega arith) (λ l. omega arith)

    pub put_least : (xs : List A) → length (put_keyed key x xs) ≤ length xs + 1
    unfolding put_keyed
    put_least [] = omega arith
    put_least (y ∷ ys) = put_cases x y ys (λ (l : List A). length l ≤ length (y ∷ ys) + 1) (λ l. let h = put_least ys in omega (arith, h)) (λ e. omega arith) (λ l. omega arith)

  -- ---- what each key's element is then

  module _ (other x : A) (n : ℕ) where
    pub keyed_own : (xs : List A) → key x ≡ n → keyed key other n (put_keyed key x xs) ≡ x
    unfolding put_keyed
    keyed_own [] e = keyed_here other n x [] e
    keyed_own (y ∷ ys) e =
        put_cases x y ys (λ (l : List A). keyed key other n l ≡ x)
        (λ l. keyed_later other n y (put_keyed key x ys) (λ f. omega (arith, e, f, l)) ∙ keyed_own ys e)
        (λ f. keyed_here other n x ys e)
        (λ l. keyed_here other n x (y ∷ ys) e)

    pub keyed_other : (xs : List A) → (key x ≡ n → ⊥) → keyed key other n (put_keyed key x xs) ≡ keyed key other n xs
    unfolding keyed put_keyed
    keyed_other [] d = keyed_later other n x [] d
    keyed_other (y ∷ ys) d =
        put_cases x y ys (λ (l : List A). keyed key other n l ≡ keyed key other n (y ∷ ys))
        (λ l. rw (keyed_other ys d))
        (λ e. keyed_later other n x ys d ∙ sym (keyed_later other n y ys (λ f. d (sym e ∙ f))))
        (λ l. keyed_later other n x (y ∷ ys) d)

  -- an element put where it stands
  pub put_same : (other : A) (n : ℕ) (xs : List A) → InKeyOrder key xs → HasKey key n xs → put_keyed key (keyed key other n xs) xs ≡ xs
  put_same other n [] o a = absurd a
  put_same other n (x ∷ xs) o h =
      keyed_cases other n x xs (λ (r : A). put_keyed key r (x ∷ xs) ≡ x ∷ xs) (λ e. put_here x x xs refl)
      (λ d.
      let a : HasKey key n xs = has_later n x xs d h in
      let l = has_higher n x xs o.0 a in
      put_lower (keyed key other n xs) x xs (let e = keyed_key other n xs a in omega (arith, e, l))
      ∙ ap (λ (t : List A). x ∷ t) (put_same other n xs o.1 a))

  -- ---- in order, by index

  pub order_front : (xs : List A) → InKeyOrder key xs → (j : ℕ) (d : A) → j < length xs → Lower key (key (get_or xs j d)) (take j xs)
  order_front [] o j d h = absurd (not-suc-le-zero h)
  order_front (x ∷ xs) o zero d h = tt
  order_front (x ∷ xs) o (suc j) d h = (all_at (λ (y : A). key x < key y) xs j d o.0 (le_of_suc-le-suc h), order_front xs o.1 j d (le_of_suc-le-suc h))

  pub order_at : (xs : List A) → InKeyOrder key xs → (i j : ℕ) (d : A) → i < j → j < length xs → key (get_or xs i d) < key (get_or xs j d)
  order_at xs o i j d = pairwise_before (λ (x y : A). key x < key y) xs d i j o

  -- a key that the element at j has
  module _ (xs : List A) (o : InKeyOrder key xs) (j n : ℕ) (d : A) (h : j < length xs) (e : key (get_or xs j d) ≡ n) where
    front : Lower key n (take j xs)
    front = subst (λ (m : ℕ). Lower key m (take j xs)) e (order_front xs o j d h)

    pub keyed_known : (other : A) → keyed key other n xs ≡ get_or xs j d
    keyed_known other =
        ap (keyed key other n) (split_at xs j d h)
        ∙ keyed_front other n (take j xs) (get_or xs j d ∷ drop (suc j) xs) front
        ∙ keyed_here other n (get_or xs j d) (drop (suc j) xs) e

    pub put_known : (x : A) → key x ≡ n → put_keyed key x xs ≡ set xs j x
    put_known x f =
        ap (put_keyed key x) (split_at xs j d h)
        ∙ put_front x (take j xs) (get_or xs j d ∷ drop (suc j) xs) (subst (λ (m : ℕ). Lower key m (take j xs)) (sym f) front)
        ∙ ap (λ (t : List A). take j xs ++ t) (put_here x (get_or xs j d) (drop (suc j) xs) (e ∙ sym f))
        ∙ sym (set_split xs j x h)

  -- one that none has, and that belongs behind the first k
  module _ (xs : List A) (k n : ℕ) (front : Lower key n (take k xs)) (behind : Higher key n (drop k xs)) where
    pub keyed_unknown : (other : A) → keyed key other n xs ≡ other
    keyed_unknown other =
        ap (keyed key other n) (sym (take-append-drop k xs))
        ∙ keyed_front other n (take k xs) (drop k xs) front
        ∙ keyed_behind other n (drop k xs) behind

    pub put_unknown : (x : A) → key x ≡ n → put_keyed key x xs ≡ take k xs ++ (x ∷ drop k xs)
    put_unknown x f =
        ap (put_keyed key x) (sym (take-append-drop k xs))
        ∙ put_front x (take k xs) (drop k xs) (subst (λ (m : ℕ). Lower key m (take k xs)) (sym f) front)
        ∙ ap (λ (t : List A). take k xs ++ t) (put_behind x (drop k xs) (subst (λ (m : ℕ). Higher key m (drop k xs)) (sym f) behind))

-- ---- lists with keys, mapped with their keys kept

module _ {A B : Type 0} (g : A → B) (key : A → ℕ) (key' : B → ℕ) (same : (x : A) → key' (g x) ≡ key x) where
  pub map_keyed : (other : A) (n : ℕ) (xs : List A) → g (keyed key other n xs) ≡ keyed key' (g other) n (map g xs)
  unfolding keyed
  map_keyed other n [] = refl
  map_keyed other n (x ∷ xs) = rw (same x) (cases (eqb (key x) n) (λ t. simp t) (λ t. simp t (map_keyed other n xs)))

  pub map_put : (x : A) (xs : List A) → map g (put_keyed key x xs) ≡ put_keyed key' (g x) (map g xs)
  unfolding put_keyed
  map_put x [] = refl
  map_put x (y ∷ ys) =
      rw (same x, same y)
      (cases (ltb (key y) (key x)) (λ t. simp t (ap (λ (l : List B). g y ∷ l) (map_put x ys)))
      (λ t. cases (eqb (key y) (key x)) (λ q. simp (t, q)) (λ q. simp (t, q))))

  pub map_has : (n : ℕ) (xs : List A) → has_key key' n (map g xs) ≡ has_key key n xs
  unfolding has_key any
  map_has n [] = refl
  map_has n (x ∷ xs) = rw (same x, map_has n xs)
