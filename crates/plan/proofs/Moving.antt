-- The region at a place moved behind the others: what is left in front, and that no row is named twice.
use Prim.Native.Nat.{ℕ, suc, ◌+◌, ◌-◌, ◌≤◌, ◌<◌}
use mathlib.Core.List.{List, [], ◌∷◌, ◌++◌, map, map-append, append_assoc}
use mathlib.Core.Path.{◌≡◌, ap, sym, subst, ◌∙◌}
use native.Mathlib.Numerals.{add-one}
use native.Mathlib.Omega.{arith}
use lib.ListN.{length, take, drop, set, get_or, length-append, length-take, length-drop, length-map, take-append-drop}
use lib.Seq.{drop-cons, set_at, take-suc, get_or-drop, get_or-append-add, length-take-le, take_at, drop_at, take-add}
use Rattle.numbers.specs.Lists.{All, Distinct}
use Rattle.plan_record.specs.Plan.{regions_of, past_region}
use Rattle.plan_record.specs.declared.Plan.{Plan}
use Rattle.plan_record.specs.declared.Region.{Region}
use Rattle.plan.specs.Inner.{moved, rotated}
use Rattle.numbers.proofs.Lists.{pairwise_move, all_append, all_left, all_right}

-- ---- the loop

module _ (rs : List Region) where
  -- those in front of i, and the next m behind it
  abbrev pub front : ℕ → ℕ → List Region
  front i m = take i rs ++ take m (drop (suc i) rs)

  pub front_length : (i m : ℕ) → suc i + m ≤ length rs → length (front i m) ≡ i + m
  front_length i m h = simp (length-append, length-take, length-drop) (omega arith)

  front_next : (i m : ℕ) → suc i + m < length rs → front i (suc m) ≡ front i m ++ (get_or rs (suc i + m) past_region ∷ [])
  front_next i m h =
      let l : m < length (drop (suc i) rs) = simp length-drop (omega arith) in
      ap (λ (t : List Region). take i rs ++ t) (take-suc (drop (suc i) rs) m past_region l ∙ rw (get_or-drop (suc i) rs m past_region))
      ∙ sym (append_assoc (take i rs) (take m (drop (suc i) rs)) (get_or rs (suc i + m) past_region ∷ []))

-- those behind i up to j have moved up by one
pub record Moving (rs₀ rs : List Region) (i j last : ℕ) : Type 0 where
  pub from : i ≤ j
  pub upto : j ≤ last
  pub inside : last < length rs₀
  pub is : rs ≡ front rs₀ i (j - i) ++ drop j rs₀

module _ {rs₀ : List Region} {i last : ℕ} where
  pub moving_begins : i ≤ last → last < length rs₀ → Moving rs₀ rs₀ i i last
  moving_begins h l =
      record {
        from = omega arith;
        upto = h;
        inside = l;
        is =
            let z : i - i ≡ 0 = omega arith in
            sym (rw z (append_assoc (take i rs₀) [] (drop i rs₀) ∙ take-append-drop i rs₀));
      }

  module _ {rs : List Region} {j : ℕ} (g : Moving rs₀ rs i j last) where
    long : length (front rs₀ i (j - i)) ≡ j
    long = let a = g.from in let b = g.upto in let c = g.inside in let e = front_length rs₀ i (j - i) (omega arith) in omega arith

    rest : drop j rs₀ ≡ get_or rs₀ j past_region ∷ drop (suc j) rs₀
    rest = drop-cons rs₀ j past_region (let b = g.upto in let c = g.inside in omega arith)

    set_here : (x : Region) → set rs j x ≡ front rs₀ i (j - i) ++ (x ∷ drop (suc j) rs₀)
    set_here x =
        let f = front rs₀ i (j - i) in
        ap (λ (l : List Region). set l j x) (g.is ∙ ap (λ (l : List Region). f ++ l) rest) ∙ set_at f (get_or rs₀ j past_region) (drop (suc j) rs₀) x j long

    -- what stands behind j has not moved
    next_is : get_or rs (j + 1) past_region ≡ get_or rs₀ (j + 1) past_region
    next_is =
        let e : j + 1 ≡ length (front rs₀ i (j - i)) + 1 = omega (arith, long) in
        ap (λ (l : List Region). get_or l (j + 1) past_region) g.is
        ∙ ap (λ (n : ℕ). get_or (front rs₀ i (j - i) ++ drop j rs₀) n past_region) e
        ∙ get_or-append-add (front rs₀ i (j - i)) (drop j rs₀) 1 past_region
        ∙ get_or-drop j rs₀ 1 past_region

    pub moving_turns : j < last → Moving rs₀ (set rs j (get_or rs (j + 1) past_region)) i (j + 1) last
    moving_turns h =
        let a = g.from in
        let c = g.inside in
        let m : j + 1 - i ≡ suc (j - i) = omega arith in
        let n : suc i + (j - i) ≡ j + 1 = omega arith in
        record {
          from = omega arith;
          upto = omega arith;
          inside = c;
          is =
              set_here (get_or rs (j + 1) past_region)
              ∙ rw (next_is, m, front_next rs₀ i (j - i) (omega arith), n, add-one j)
              (sym (append_assoc (front rs₀ i (j - i)) (get_or rs₀ (suc j) past_region ∷ []) (drop (suc j) rs₀)));
        }

    pub moving_ends : last ≤ j → set rs last (get_or rs₀ i past_region) ≡ moved i (suc last) rs₀
    unfolding moved
    moving_ends h =
        let e : last ≡ j = omega (arith, g.upto) in
        let z : suc j - suc i ≡ j - i = omega arith in
        rw e (rw z (set_here (get_or rs₀ i past_region)))

-- the plan that is handed back
pub rotated_is : (p q : Plan) (i j m : ℕ) → m ≡ length (regions_of p) → 0 < m → Moving p.regions q.regions i j (m - 1) → m - 1 ≤ j
    → q.limits ≡ p.limits → q.last ≡ p.last → q.accounts ≡ p.accounts
    → record { limits = q.limits; last = q.last; count = m - 1; regions = set q.regions (m - 1) (get_or p.regions i past_region); accounts = q.accounts } ≡ rotated p i
rotated_is p q i j m e z g h a b c =
    let k : suc (m - 1) ≡ m = omega arith in
    rw (a, b, c, moving_ends g h, k, e)

-- ---- what is in front, and all of them

module _ (rs : List Region) (i n : ℕ) (h : i < n) (l : n ≤ length rs) where
  abbrev x : Region
  x = get_or rs i past_region

  abbrev between : List Region
  between = take (n - suc i) (drop (suc i) rs)

  pub counted_split : take n rs ≡ take i rs ++ (x ∷ between)
  counted_split =
      let a : n ≡ i + suc (n - suc i) = omega arith in
      ap (λ (k : ℕ). take k rs) a ∙ take-add i (suc (n - suc i)) rs
      ∙ ap (λ (t : List Region). take i rs ++ take (suc (n - suc i)) t) (drop-cons rs i past_region (omega arith))

  whole_split : rs ≡ take i rs ++ (x ∷ (between ++ drop n rs))
  whole_split =
      sym (take-append-drop n rs) ∙ ap (λ (t : List Region). t ++ drop n rs) counted_split ∙ append_assoc (take i rs) (x ∷ between) (drop n rs)

  pub moved_front : take (n - 1) (moved i n rs) ≡ take i rs ++ between
  unfolding moved
  moved_front = let e = front_length rs i (n - suc i) (omega arith) in take_at (take i rs ++ between) (x ∷ drop n rs) (n - 1) (omega arith)

  -- as the model drops one
  pub moved_map : {B : Type 0} (f : Region → B) → map f (take (n - 1) (moved i n rs)) ≡ take i (map f (take n rs)) ++ drop (suc i) (map f (take n rs))
  moved_map {B} f =
      let a = take i rs in
      let k : length (map f a) ≡ i = length-map a f ∙ length-take-le i rs (omega arith) in
      let e : map f (take n rs) ≡ map f a ++ (f x ∷ map f between) = ap (map f) counted_split ∙ map-append f a (x ∷ between) in
      let m : length (map f a ++ (f x ∷ [])) ≡ suc i = length-append (map f a) (f x ∷ []) ∙ omega arith in
      ap (map f) moved_front ∙ map-append f a between
      ∙ sym (rw e (rw (take_at (map f a) (f x ∷ map f between) i k)
      (ap (λ (t : List B). map f a ++ t)
      (ap (drop (suc i)) (sym (append_assoc (map f a) (f x ∷ []) (map f between))) ∙ drop_at (map f a ++ (f x ∷ [])) (map f between) (suc i) m))))

  pub moved_length : length (moved i n rs) ≡ length rs
  unfolding moved
  moved_length =
      let e = front_length rs i (n - suc i) (omega arith) in
      let d = length-append (take i rs ++ between) (x ∷ drop n rs) in
      let k = length-drop n rs in
      omega arith

  pub moved_all : (P : Region → Type 0) → All P rs → All P (moved i n rs)
  unfolding moved
  moved_all P a =
      let b = subst (All P) whole_split a in
      let c = all_right P (take i rs) (x ∷ (between ++ drop n rs)) b in
      all_append P (take i rs ++ between) (x ∷ drop n rs)
      (all_append P (take i rs) between (all_left P (take i rs) (x ∷ (between ++ drop n rs)) b) (all_left P between (drop n rs) c.1))
      (c.0, all_right P between (drop n rs) c.1)

  pub moved_distinct : (f : Region → ℕ) → Distinct (map f rs) → Distinct (map f (moved i n rs))
  unfolding moved
  moved_distinct f d =
      let A = map f (take i rs) in
      let B = map f between in
      let C = map f (drop n rs) in
      let e : map f rs ≡ A ++ (f x ∷ (B ++ C)) =
      ap (map f) whole_split ∙ map-append f (take i rs) (x ∷ (between ++ drop n rs)) ∙ ap (λ (t : List ℕ). A ++ (f x ∷ t)) (map-append f between (drop n rs)) in
      let q : map f ((take i rs ++ between) ++ (x ∷ drop n rs)) ≡ (A ++ B) ++ (f x ∷ C) =
      map-append f (take i rs ++ between) (x ∷ drop n rs) ∙ ap (λ (t : List ℕ). t ++ (f x ∷ C)) (map-append f (take i rs) between) in
      subst Distinct (sym q) (pairwise_move (λ (a b : ℕ). a ≡ b → ⊥) (λ a b u w. u (sym w)) A (f x) B C (subst Distinct e d))
