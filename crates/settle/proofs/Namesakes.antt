-- `renamed` of specs/Settle: another record of the same name has no lower number; what `outdone` tests by index.
use Prim.Native.Nat.{ℕ, zero, suc, ◌+◌, ◌-◌, ◌≤◌, ◌<◌, max}
use mathlib.Core.Bool.{Bool, true, false, ◌&&◌, ◌||◌, and-true, and-false, or-false as or_none, or_assoc}
use mathlib.Core.List.{List, [], ◌∷◌, ◌++◌, append_assoc}
use mathlib.Core.Logic.{◌⊎◌, ⊎_elim}
use mathlib.Core.Path.{◌≡◌, refl, ap, sym, ◌∙◌}
use native.Mathlib.Omega.{arith}
use lib.Dec.{eqb, ltb, leb, leb-suc-suc}
use lib.ListN.{length, get_or, take, drop, length-take, length-drop}
use lib.Seq.{length-take-le, split_at, get_or-take, get_or-drop}
use borrow.Author.Tests.{ltb-true, ltb-false, le-ltb, le-leb, lt-leb, eq-eqb, ne_eqb}
use Rattle.numbers.specs.Lists.{All, any, keep, same}
use Rattle.settle.specs.Inner.{Enough, Short, OwnShort, no_region}
use Rattle.settle.specs.Naming.{name_at, rivals, any_below, outdone}
use Rattle.settle.specs.Regions.{Lent, Region, regions_of}
use Rattle.settle.specs.Settle.{highest, renamed}
use Rattle.numbers.proofs.Cases.{cases, by_eq, both_ways}
use Rattle.numbers.proofs.Lists.{same_true, true_same, all_at, any_true, any_false, of_any, any_imp, any_at, any_of, any_append}
use Rattle.numbers.proofs.Keeping.{keep_append, any_keep, any_kept, any_middle, keep_middle}
use Rattle.settle.proofs.Naming.{rival_itself, rival_longer, below_of, below_true}
use Rattle.settle.proofs.Reading.{length_of, region_of}

-- ---- the highest number, in any order

highest_middle : (xs : List Region) (y : Region) (ys : List Region) → highest (xs ++ (y ∷ ys)) ≡ max y.seq (highest (xs ++ ys))
unfolding highest
highest_middle [] y ys = refl
highest_middle (x ∷ xs) y ys = let i = highest_middle xs y ys in omega arith

-- ---- the highest number, by two records or by another one

above_none : (x : ℕ) (l : List Region) → All (λ (q : Region). ltb x q.seq ≡ false) l → highest l ≤ x
unfolding highest
above_none x [] a = omega arith
above_none x (q ∷ l) a = let i = above_none x l a.1 in omega (arith, ltb-false x q.seq a.0)

not_above_same : (x : ℕ) (l : List Region) → All (λ (q : Region). ltb x q.seq ≡ false) l → any (λ (q : Region). eqb q.seq x) l ≡ any (λ (q : Region). leb x q.seq) l
unfolding any
not_above_same x [] a = refl
not_above_same x (q ∷ l) a =
    let h = ltb-false x q.seq a.0 in
    by_eq q.seq x
    (λ e. simp (eq-eqb q.seq x e, le-leb x q.seq (omega arith)))
    (λ d. simp (ne_eqb q.seq x d, lt-leb x q.seq (omega arith), not_above_same x l a.1))

module _ (xs : List Region) (r : Region) (ys : List Region) where
  abbrev beyond : Region → Bool
  beyond q = ltb r.seq q.seq

  abbrev all : List Region
  all = xs ++ (r ∷ ys)

  abbrev level : List Region → Bool
  level l = any (λ (q : Region). leb r.seq q.seq) l

  or_two : (any beyond all || ltb 1 (length (keep (λ (q : Region). eqb q.seq (highest all)) all))) ≡ level (xs ++ ys)
  unfolding keep
  or_two =
      let none : ltb r.seq r.seq ≡ false = le-ltb r.seq r.seq (omega arith) in
      cases (any beyond (xs ++ ys))
      (λ e. simp (any_middle beyond xs r ys, none, e)
      (sym (of_any (λ (q : Region). leb r.seq q.seq) (xs ++ ys)
      (any_imp (λ (q : Region). beyond q ≡ true) (λ (q : Region). leb r.seq q.seq ≡ true)
      (λ q b. let h = ltb-true r.seq q.seq b in le-leb r.seq q.seq (omega arith)) (xs ++ ys) (any_true beyond (xs ++ ys) e)))))
      (λ e.
      let a = any_false beyond (xs ++ ys) e in
      let h : highest all ≡ r.seq = (let m = above_none r.seq (xs ++ ys) a in highest_middle xs r ys ∙ omega arith) in
      let k : length (keep (λ (q : Region). eqb q.seq r.seq) all) ≡ suc (length (keep (λ (q : Region). eqb q.seq r.seq) (xs ++ ys))) =
      keep_middle (λ (q : Region). eqb q.seq r.seq) xs r ys ∙ simp (eq-eqb r.seq r.seq refl) in
      simp (any_middle beyond xs r ys, none, e, h, k)
      (leb-suc-suc 1 (length (keep (λ (q : Region). eqb q.seq r.seq) (xs ++ ys)))
      ∙ any_kept (λ (q : Region). eqb q.seq r.seq) (xs ++ ys)
      ∙ not_above_same r.seq (xs ++ ys) a))

-- ---- the records in front of i, those behind it, and those of the other kind

abbrev pub named : Region → Bool
named q = q.named

-- q has the name of r and no lower number
abbrev pub alike : Region → Region → Bool
alike r q = same q.name r.name && leb r.seq q.seq

module _ (us un : List Region) (i : ℕ) (h : i < length us) where
  abbrev r : Region
  r = get_or us i no_region

  abbrev its : Region → Bool
  its q = same q.name r.name

  abbrev rest : List Region
  rest = drop (suc i) us ++ keep named un

  -- i itself is among the records of its name
  itself : keep its (us ++ keep named un) ≡ keep its (take i us) ++ (r ∷ keep its rest)
  unfolding keep
  itself =
      ap (λ (l : List Region). keep its (l ++ keep named un)) (split_at us i no_region h)
      ∙ ap (keep its) (append_assoc (take i us) (r ∷ drop (suc i) us) (keep named un))
      ∙ keep_append its (take i us) (r ∷ rest)
      ∙ simp (true_same r.name r.name refl)

  pub renamed_others : renamed us un r ≡ (any (alike r) (take i us) || (any (alike r) (drop (suc i) us) || any (λ (q : Region). named q && alike r q) un))
  unfolding renamed
  renamed_others =
      ap (λ (l : List Region). any (λ (q : Region). ltb r.seq q.seq) l || ltb 1 (length (keep (λ (q : Region). eqb q.seq (highest l)) l))) itself
      ∙ or_two (keep its (take i us)) r (keep its rest)
      ∙ ap (any (λ (q : Region). leb r.seq q.seq)) (sym (keep_append its (take i us) rest))
      ∙ any_keep its (λ (q : Region). leb r.seq q.seq) (take i us ++ rest)
      ∙ simp (any_append (alike r) (take i us) rest, any_append (alike r) (drop (suc i) us) (keep named un), any_keep)

-- ---- the same by index

below_split : (f : ℕ → Bool) (n m : ℕ) → any_below f (n + m) ≡ (any_below f n || any_below (λ (j : ℕ). f (n + j)) m)
unfolding any_below
below_split f n zero = let e : n + 0 ≡ n = omega arith in rw e (sym (or_none (any_below f n)))
below_split f n (suc m) =
    let e : n + suc m ≡ suc (n + m) = omega arith in
    rw e (ap (λ (b : Bool). b || f (n + m)) (below_split f n m) ∙ or_assoc (any_below f n) (any_below (λ (j : ℕ). f (n + j)) m) (f (n + m)))

module _ {A : Type 0} (g : A → Bool) (d : A) where
  by_index : (f : ℕ → Bool) (l : List A) (n : ℕ) → length l ≡ n → ((j : ℕ) → j < n → f j ≡ g (get_or l j d)) → any_below f n ≡ any g l
  by_index f l n z e =
      both_ways (any_below f n) (any g l)
      (λ t. let b = below_true f n t in of_any g l (any_of (λ (x : A). g x ≡ true) l b.0 d (rw z b.1) (sym (e b.0 b.1) ∙ b.2)))
      (λ t. let a = any_at (λ (x : A). g x ≡ true) l d (any_true g l t) in let h : a.0 < n = rw z at a.1 in below_of f n a.0 h (e a.0 h ∙ a.2))

  -- every element but the one at i
  pub others_by_index :
      (f : ℕ → Bool) (l : List A) (n i : ℕ) → length l ≡ n → i < n → f i ≡ false → ((j : ℕ) → j < n → (j ≡ i → ⊥) → f j ≡ g (get_or l j d))
      → any_below f n ≡ (any g (take i l) || any g (drop (suc i) l))
  unfolding any_below
  others_by_index f l n i z h none e =
      let front : any_below f i ≡ any g (take i l) =
      by_index f (take i l) i (length-take-le i l (omega arith)) (λ j k. e j (omega arith) (λ q. omega arith) ∙ ap g (sym (get_or-take i l j d k))) in
      let back : any_below (λ (j : ℕ). f (suc i + j)) (n - suc i) ≡ any g (drop (suc i) l) =
      by_index (λ (j : ℕ). f (suc i + j)) (drop (suc i) l) (n - suc i) (length-drop (suc i) l ∙ omega arith)
      (λ j k. e (suc i + j) (omega arith) (λ q. omega arith) ∙ ap g (sym (get_or-drop (suc i) l j d))) in
      let m : n ≡ suc i + (n - suc i) = omega arith in
      ap (any_below f) m ∙ below_split f (suc i) (n - suc i) ∙ simp (none, or_none, front, back)

-- ---- a record by the lists and as a region

module _ (rs : Lent) (skip seq : ℕ) (name : List ℕ) (j : ℕ) (other : j ≡ skip → ⊥) where
  rival_is : length (name_at rs j) ≡ get_or rs.lens j 0 → rivals rs skip seq name j ≡ (same (name_at rs j) name && leb seq (get_or rs.seqs j 0))
  unfolding rivals
  rival_is e =
      cases (same (name_at rs j) name)
      (λ t.
      let q : get_or rs.lens j 0 ≡ length name = sym e ∙ ap length (same_true (name_at rs j) name t) in
      simp (ne_eqb j skip other, eq-eqb (get_or rs.lens j 0) (length name) q, t, and-true))
      (λ t. simp (t, and-false))

module _ (g : Lent) (enough : Enough g) where
  module _ (j : ℕ) (h : j < g.count) where
    at_len : (P : ℕ → Type 0) → All P (take g.count g.lens) → P (get_or g.lens j 0)
    at_len P a =
        rw get_or-take at (all_at P (take g.count g.lens) j 0 a (rw length-take (omega (arith, enough.lens))))

    pub short_at : Short g → get_or g.lens j 0 ≤ 24
    short_at a = at_len (λ (n : ℕ). n ≤ 24) a

    long_at : get_or g.lens j 0 ≤ 24 → length (name_at g j) ≡ get_or g.lens j 0
    long_at s = simp (length-take, length-drop) (omega (arith, enough.names))

module _ (us un : Lent) (enough : Enough us) (own-enough : Enough un) (short : Short us) (own_short : OwnShort un) (i : ℕ) (h : i < us.count) where
  abbrev it : Region
  it = get_or (regions_of us) i no_region

  abbrev name : List ℕ
  name = name_at us i

  abbrev seq : ℕ
  seq = get_or us.seqs i 0

  -- how the code sees a record of the kind g
  abbrev seen : Lent → ℕ → ℕ → Bool
  seen g skip j = rivals g skip seq name j

  short_us : (j : ℕ) → j < us.count → get_or us.lens j 0 ≤ 24
  short_us j k = short_at us enough j k short

  near : any_below (seen us i) us.count ≡ (any (alike it) (take i (regions_of us)) || any (alike it) (drop (suc i) (regions_of us)))
  near =
      others_by_index (alike it) no_region (seen us i) (regions_of us) us.count i (length_of us) h
      (rival_itself us i seq name i refl)
      (λ j k d.
      rival_is us i seq name j d (long_at us enough j k (short_us j k))
      ∙ rw (region_of us j k, region_of us i h))

  abbrev alike_too : Region → Bool
  alike_too q = named q && alike it q

  far : any_below (seen un un.count) un.count ≡ any alike_too (regions_of un)
  far =
      by_index alike_too no_region (seen un un.count) (regions_of un) un.count (length_of un)
      (λ j k.
      ⊎_elim
      (λ s.
      rival_is un un.count seq name j (λ q. omega arith) (long_at un own-enough j k s)
      ∙ rw (region_of un j k, region_of us i h) (simp (ne_eqb (get_or un.lens j 0) 255 (λ q. omega arith))))
      (λ s.
      rival_longer un un.count seq name j (λ q. omega (arith, long_at us enough i h (short_us i h), short_us i h))
      ∙ rw (region_of un j k) (simp (eq-eqb (get_or un.lens j 0) 255 s)))
      (at_len un own-enough j k (λ (n : ℕ). (n ≤ 24) ⊎ (n ≡ 255)) own_short))

  -- what the code finds
  pub renamed_is :
      outdone us un i
      ≡ renamed (regions_of us) (regions_of un) (get_or (regions_of us) i no_region)
  renamed_is =
      rw (near, far) (or_assoc (any (alike it) (take i (regions_of us))) (any (alike it) (drop (suc i) (regions_of us))) (any alike_too (regions_of un)))
      ∙ sym (renamed_others (regions_of us) (regions_of un) i (rw (length_of us) h))
