-- The tree of greatest numbers: a search upwards from a leaf, and a number put in.
use Prim.Native.Nat.{ℕ, zero, suc, ◌+◌, ◌-◌, ◌*◌, ◌/◌, ◌^◌, ◌≤◌, ◌<◌}
use mathlib.Core.Bool.{true, false, ◌&&◌, ◌||◌, or-true as or_right}
use mathlib.Core.List.{List}
use mathlib.Core.Logic.{⊎_elim}
use mathlib.Core.Path.{◌≡◌, refl, ap, sym, ◌∙◌}
use native.Mathlib.Nat.{pow-suc, le_refl}
use native.Mathlib.Omega.{arith}
use lib.Dec.{ltb, leb}
use lib.ListN.{length, get_or, take, drop, set, replicate, length-take, length-drop, length-set, length-replicate, get_or-eq_default}
use lib.Seq.{drop-cons, get_or-drop, get_or-take, get_or-set_same, get_or-set_other}
use borrow.Author.Tests.{ltb-true, lt-ltb, le-ltb, leb-true, le-leb}
use Rattle.numbers.specs.Lists.{any}
use Rattle.settle.specs.Inner.{Tree, Raised, reach}
use Rattle.std.proofs.lemmas.List.{drop-take}
use Rattle.std.specs.List.{list_any}
use Rattle.numbers.proofs.Lists.{list_any_is}
use Rattle.numbers.proofs.Cases.{clash, by_lt, by_eq, or-true, and-true, both_ways, never}
use Rattle.numbers.proofs.Lists.{any_true, any_at, any_of, of_any}

-- some slot from lo on and below hi holds more than x
pub record Over (t : List ℕ) (x lo hi : ℕ) : Type 0 where
  pub at : ℕ
  pub from : lo ≤ at
  pub below : at < hi
  pub more : x < get_or t at 0

module _ (t : List ℕ) (x lo : ℕ) where
  any_over : any (ltb x) (drop lo t) ≡ true → Over t x lo (length t)
  any_over e =
      let l = drop lo t in
      let a = any_at (λ (y : ℕ). ltb x y ≡ true) l 0 (any_true (ltb x) l e) in
      let m : x < get_or t (lo + a.0) 0 = rw get_or-drop at (ltb-true x (get_or l a.0 0) a.2) in
      record { at = lo + a.0; from = omega arith; below = omega (arith, rw length-drop at a.1); more = m }

  any_slot : (i : ℕ) → lo ≤ i → x < get_or t i 0 → any (ltb x) (drop lo t) ≡ true
  any_slot i l m =
      let e : lo + (i - lo) ≡ i = omega arith in
      let b : i < length t = by_lt i (length t) (λ h. h) (λ h. absurd (omega (arith, get_or-eq_default t 0 h))) in
      of_any (ltb x) (drop lo t)
      (any_of (λ (y : ℕ). ltb x y ≡ true) (drop lo t) (i - lo) 0 (rw length-drop (omega arith)) (rw (get_or-drop, e) (lt-ltb x (get_or t i 0) m)))

  -- the first slot and those behind it
  any_here : lo < length t → any (ltb x) (drop lo t) ≡ (ltb x (get_or t lo 0) || any (ltb x) (drop (lo + 1) t))
  unfolding any
  any_here h = let e : lo + 1 ≡ suc lo = omega arith in rw (e, drop-cons t lo 0 h)

module _ (t : List ℕ) (k x : ℕ) where
  reach_over : reach t k x ≡ true → Over t x (4096 + k) (length t)
  unfolding reach
  reach_over = any_over t x (4096 + k)

  reach_slot : (i : ℕ) → 4096 + k ≤ i → x < get_or t i 0 → reach t k x ≡ true
  unfolding reach
  reach_slot = any_slot t x (4096 + k)

-- ---- blank

abbrev blank : ℕ → List ℕ
blank n = replicate n 0

blank_at : (n i : ℕ) → get_or (blank n) i 0 ≡ 0
blank_at zero i = refl
blank_at (suc n) zero = refl
blank_at (suc n) (suc i) = blank_at n i

pub tree_blank : Tree (replicate 6144 0)
tree_blank =
    record {
      size = length-replicate {A = ℕ} 6144 0;
      under = λ c h. omega (arith, blank_at 6144 c);
      some = λ n l h. (16 * n, omega arith, omega (arith, blank_at 6144 n));
    }

pub reach_blank : (k x : ℕ) → reach (replicate 6144 0) k x ≡ false
reach_blank k x = never _ (λ e. let o = reach_over (blank 6144) k x e in omega (arith, blank_at 6144 o.at))

-- ---- a search in a part of the slots

module _ (t : List ℕ) (x lo hi : ℕ) where
  part_over : any (ltb x) (drop lo (take hi t)) ≡ true → Over t x lo hi
  part_over e =
      let o = any_over (take hi t) x lo e in
      let b : o.at < hi = omega (arith, length-take hi t) in
      record { at = o.at; from = o.from; below = b; more = rw get_or-take at o.more }

  part_slot : (i : ℕ) → lo ≤ i → i < hi → x < get_or t i 0 → any (ltb x) (drop lo (take hi t)) ≡ true
  part_slot i l h m = any_slot (take hi t) x lo i l (rw get_or-take m)

-- the slots from lo up to hi, as the code cuts them
pub slots_above : (t : List ℕ) (lo hi x : ℕ) → lo ≤ hi → list_any (ltb x) (take (hi - lo) (drop lo t)) ≡ any (ltb x) (drop lo (take hi t))
slots_above t lo hi x h =
    let e : lo + (hi - lo) ≡ hi = omega arith in
    list_any_is (ltb x) (take (hi - lo) (drop lo t)) ∙ ap (any (ltb x)) (sym (drop-take lo (hi - lo) t)) ∙ ap (λ (m : ℕ). any (ltb x) (drop lo (take m t))) e

-- ---- a search upwards

-- nothing is more than the number at the top
pub low_reach : {t : List ℕ} → Tree t → (k x : ℕ) → get_or t 1 0 ≤ x → reach t k x ≡ false
low_reach {t} tree k x h =
    never (reach t k x)
    (λ r.
    let o = reach_over t k x r in
    let e : o.at / 16 / 16 / 16 ≡ 1 = omega arith in
    omega (arith, tree.under o.at (omega arith), tree.under (o.at / 16) (omega arith), tree.under (o.at / 16 / 16) (omega arith), ap (λ (m : ℕ). get_or t m 0) e))

-- in the row of n, which begins at 16 ^ row, a node behind n holds more than x if and only if a leaf behind the rank does
pub record Climbed (t : List ℕ) (rank x n : ℕ) : Type 0 where
  pub tree : Tree t
  pub inside : n < 6144
  pub row : ℕ
  pub high : 16 ^ row ≤ 4096
  pub low : 16 ^ row ≤ n
  pub below : n < 2 * 16 ^ row
  pub up : reach t (rank + 1) x ≡ true → Over t x (n + 1) (2 * 16 ^ row)
  pub down : (i : ℕ) → n + 1 ≤ i → i < 2 * 16 ^ row → x < get_or t i 0 → reach t (rank + 1) x ≡ true

pub climb_begins : (t : List ℕ) (rank x : ℕ) → Tree t → rank < 2048 → Climbed t rank x (4096 + rank)
climb_begins t rank x tree h =
    record {
      tree = tree;
      inside = omega arith;
      row = 3;
      high = omega arith;
      low = omega arith;
      below = omega arith;
      up = λ r. let o = reach_over t (rank + 1) x r in record { at = o.at; from = omega arith; below = omega arith; more = o.more };
      down = λ i a b m. reach_slot t (rank + 1) x i (omega arith) m;
    }

-- above the row of the root there is none, above any other one of a sixteenth
upper : (row : ℕ) → 1 < 16 ^ row → (k : ℕ) × (16 ^ row ≡ 16 * 16 ^ k)
upper zero h = absurd (omega arith)
upper (suc k) h = (k, omega (arith, pow-suc 16 k))

module _ {t : List ℕ} {rank x n : ℕ} (g : Climbed t rank x n) where
  -- where the sixteen end among which n stands
  abbrev end : ℕ
  end = n / 16 * 16 + 16

  pub climb_found : 1 < n → any (ltb x) (drop (n + 1) (take end t)) ≡ true → reach t (rank + 1) x ≡ true
  climb_found l e =
      let o = part_over t x (n + 1) end e in
      let u = upper g.row (omega arith) in
      g.down o.at o.from (omega arith) o.more

  pub climb_on : 1 < n → any (ltb x) (drop (n + 1) (take end t)) ≡ false → Climbed t rank x (n / 16)
  climb_on l f =
      let u = upper g.row (omega arith) in
      record {
        tree = g.tree;
        inside = omega arith;
        row = u.0;
        high = omega arith;
        low = omega arith;
        below = omega arith;
        up = λ r. let o = g.up r in
            by_lt o.at end
            (λ h. clash (part_slot t x (n + 1) end o.at o.from h o.more) f)
            (λ h. record { at = o.at / 16; from = omega arith; below = omega arith; more = omega (arith, g.tree.under o.at (omega arith)) });
        down = λ i a b m. let c = g.tree.some i (omega arith) (omega arith) in g.down c.0 (omega arith) (omega arith) (omega arith);
      }

  pub climb_ends : n ≤ 1 → reach t (rank + 1) x ≡ false
  climb_ends h = never _ (λ e. let o = g.up e in omega arith)

-- the rank's own leaf first
module _ {t : List ℕ} (tree : Tree t) (rank x : ℕ) (h : rank < 2048) where
  leaf_first : reach t rank x ≡ (ltb x (get_or t (4096 + rank) 0) || reach t (rank + 1) x)
  unfolding reach
  leaf_first =
      let e : 4096 + (rank + 1) ≡ 4096 + rank + 1 = omega arith in
      rw e (any_here t x (4096 + rank) (omega arith))

  pub from_here : x < get_or t (4096 + rank) 0 → reach t rank x ≡ true
  from_here l = leaf_first ∙ simp (lt-ltb x (get_or t (4096 + rank) 0) l)

  pub from_above : get_or t (4096 + rank) 0 ≤ x → reach t rank x ≡ reach t (rank + 1) x
  from_above l = leaf_first ∙ simp (le-ltb x (get_or t (4096 + rank) 0) l)

-- ---- a number put in

-- t is a tree, but a node below n may hold more than n, up to value; of the leaves only the rank's may have grown, up to
-- value too
pub record Raising (t₀ t : List ℕ) (rank value n : ℕ) : Type 0 where
  pub size : length t ≡ 6144
  pub below : n < 6144
  pub under : (c : ℕ) → 16 ≤ c → get_or t (c / 16) 0 < get_or t c 0 → (c / 16 ≡ n) × (get_or t c 0 ≤ value)
  pub some : (m : ℕ) → 1 ≤ m → m < 4096 → (c : ℕ) × (c / 16 ≡ m) × (get_or t m 0 ≤ get_or t c 0)
  pub put : n < 4096 → (c : ℕ) × (c / 16 ≡ n) × (value ≤ get_or t c 0)
  pub start : 4096 ≤ n → n ≡ 4096 + rank
  pub leaf : n < 4096 → value ≤ get_or t (4096 + rank) 0
  pub leaves : (j : ℕ) → 4096 ≤ j → get_or t₀ j 0 < get_or t j 0 → (j ≡ 4096 + rank) × (get_or t j 0 ≤ value)
  pub grown : (j : ℕ) → get_or t₀ j 0 ≤ get_or t j 0

pub raise_begins : {t : List ℕ} (rank value : ℕ) → Tree t → rank < 2048 → Raising t t rank value (4096 + rank)
raise_begins rank value tree h =
    record {
      size = tree.size;
      below = omega arith;
      under = λ c l d. let u = tree.under c l in absurd (omega arith);
      some = tree.some;
      put = λ l. absurd (omega arith);
      start = λ _. refl;
      leaf = λ l. absurd (omega arith);
      leaves = λ j l d. absurd (omega arith);
      grown = λ j. le_refl _;
    }

module _ {t₀ t : List ℕ} {rank value n : ℕ} (g : Raising t₀ t rank value n) where
  -- n stands where value is not more, or above the tree
  pub raise_tree : (0 < n → value ≤ get_or t n 0) → Tree t
  raise_tree stop =
      record {
        size = g.size;
        under = λ c a. by_lt (get_or t (c / 16) 0) (get_or t c 0)
            (λ l. let p = g.under c a l in omega (arith, stop (omega arith), ap (λ (m : ℕ). get_or t m 0) p.0)) (λ l. l);
        some = g.some;
      }

  pub raise_ends : (0 < n → value ≤ get_or t n 0) → Raised t₀ t rank value
  raise_ends stop k x =
      both_ways _ _
      (λ e.
      let o = reach_over t k x e in
      by_lt x (get_or t₀ o.at 0)
      (λ l. simp (reach_slot t₀ k x o.at o.from l))
      (λ l.
      let p = g.leaves o.at (omega arith) (omega arith) in
      simp (le-leb k rank (omega arith), lt-ltb x value (omega arith), or_right (reach t₀ k x))))
      (λ e.
      ⊎_elim
      (λ a. let o = reach_over t₀ k x a in reach_slot t k x o.at o.from (omega (arith, g.grown o.at)))
      (λ b.
      let p = and-true (leb k rank) (ltb x value) b in
      reach_slot t k x (4096 + rank) (omega (arith, leb-true k rank p.0)) (omega (arith, done, ltb-true x value p.1)))
      (or-true (reach t₀ k x) (leb k rank && ltb x value) e))
    where
      done : value ≤ get_or t (4096 + rank) 0
      done = by_lt n 4096 g.leaf (λ h. omega (arith, stop (omega arith), ap (λ (m : ℕ). get_or t m 0) (g.start h)))

  pub raise_on : 0 < n → get_or t n 0 < value → Raising t₀ (set t n value) rank value (n / 16)
  raise_on l h =
      let s : List ℕ = set t n value in
      let same : get_or s n 0 ≡ value = get_or-set_same t n value 0 (omega arith) in
      let kept : (m : ℕ) → (m ≡ n → ⊥) → get_or s m 0 ≡ get_or t m 0 = λ m d. get_or-set_other t n m value 0 d in
      let new : (m : ℕ) → m ≡ n → get_or s m 0 ≡ value = λ m e. ap (λ (j : ℕ). get_or s j 0) e ∙ same in
      let more : (m : ℕ) → get_or t m 0 ≤ get_or s m 0 = λ m. by_eq m n (λ e. omega (arith, new m e, ap (λ (j : ℕ). get_or t j 0) e)) (λ d. omega (arith, kept m d)) in
      record {
        size = length-set t n value ∙ g.size;
        below = omega arith;
        under = λ c a b.
            by_eq c n (λ e. (ap (λ (m : ℕ). m / 16) e, omega (arith, new c e)))
            (λ d.
            let p = g.under c a (omega (arith, more (c / 16), kept c d)) in
            absurd (omega (arith, new (c / 16) p.0, kept c d)));
        some = λ m a b.
            by_eq m n (λ e. let c = g.put (omega arith) in (c.0, c.1 ∙ sym e, omega (arith, new m e, more c.0)))
            (λ d. let c = g.some m a b in (c.0, c.1, omega (arith, kept m d, more c.0)));
        put = λ a. (n, refl, omega arith);
        start = λ a. absurd (omega arith);
        leaf = λ a. by_lt n 4096 (λ b. omega (arith, g.leaf b, more (4096 + rank))) (λ b. omega (arith, new (4096 + rank) (sym (g.start b))));
        leaves = λ j a b.
            by_eq j n (λ e. (e ∙ g.start (omega arith), omega (arith, new j e)))
            (λ d. let p = g.leaves j a (omega (arith, kept j d)) in (p.0, omega (arith, kept j d)));
        grown = λ j. omega (arith, g.grown j, more j);
      }
