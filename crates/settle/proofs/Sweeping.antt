-- The sweep: what is read on the way, and whom each range on it strikes.
use Prim.Native.Nat.{ℕ, suc, ◌+◌, ◌-◌, ◌/◌, ◌≤◌, ◌<◌}
use mathlib.Core.Bool.{Bool, true, false, ◌&&◌, ◌||◌, or-false, and-false, or_assoc}
use mathlib.Core.List.{List, [], ◌∷◌, ◌++◌, map, reverse, reverse-cons}
use mathlib.Core.Path.{◌≡◌, refl, ap, sym, ◌∙◌}
use native.Mathlib.Omega.{arith}
use lib.Dec.{ltb, leb, eqb}
use lib.ListN.{length, get_or, set, take, replicate, length-map, length-set, length-reverse}
use lib.Seq.{take-suc, take_all}
use borrow.Author.Tests.{lt-ltb, le-ltb, lt-leb, le-leb, eq-eqb, ne_eqb}
use Rattle.numbers.specs.Lists.{All, any}
use Rattle.numbers.specs.Pairs.{pairs}
use Rattle.numbers.specs.Range.{Range}
use Rattle.settle.specs.Inner.{reach, Raised}
use Rattle.settle.specs.Sweeping.{no_item, item_at, items_of, mirror, walk, within, usable_over, own_over, struck, behind, strikes, Arrived, Ready, Swept}
use Rattle.settle.specs.declared.sweep.Item.{Item}
use Rattle.numbers.proofs.Cases.{by_lt, by_eq}
use Rattle.std.proofs.lemmas.List.{get_or-map}
use Rattle.numbers.proofs.Lists.{all_append, all_at, stored_new, stored_old, reverse_at}
use Rattle.numbers.proofs.Pairs.{length_pairs}
use Rattle.settle.proofs.Others.{any_last, behind_last}
use Rattle.settle.proofs.Tree.{reach_blank}

-- ---- what is read

-- ---- the way, forward and back

pub walk_length : (back : Bool) (l : List Item) → length (walk back l) ≡ length l
unfolding walk
walk_length true l = length-reverse (map mirror l) ∙ length-map l mirror
walk_length false l = refl

module _ (order : List ℕ) (facts : List Range) (t : ℕ) (back : Bool) (h : t < length (pairs order)) where
  pub next_forth : back ≡ false → (x : Item) → x ≡ get_or (items_of (pairs order) facts) t no_item → x ≡ get_or (walk back (items_of (pairs order) facts)) t no_item
  unfolding walk
  next_forth b x e = simp b e

  abbrev last : ℕ
  last = length order / 2 - 1 - t

  pub next_back : back ≡ true → (x : Item) → x ≡ get_or (items_of (pairs order) facts) last no_item → mirror x ≡ get_or (walk back (items_of (pairs order) facts)) t no_item
  unfolding walk
  next_back b x e =
      let l = length_pairs order in
      let m = length-map (pairs order) (item_at facts) in
      let n = length-map (items_of (pairs order) facts) mirror in
      let i : length (map mirror (items_of (pairs order) facts)) - 1 - t ≡ last = omega arith in
      simp b (ap mirror e ∙ sym (reverse_at (map mirror (items_of (pairs order) facts)) t no_item (omega arith)
      ∙ ap (λ (k : ℕ). get_or (map mirror (items_of (pairs order) facts)) k no_item) i
      ∙ get_or-map mirror (items_of (pairs order) facts) last no_item no_item (omega arith)))

-- ---- one mark

-- it is set where it was set before, or where the test passes
pub mark_new : (m : List Bool) (i : ℕ) (b r : Bool) → get_or m i false ≡ false → b ≡ r → set m i b ≡ set m i (get_or m i false || r)
mark_new m i b r e f = ap (set m i) (f ∙ simp e)

pub mark_kept : (m : List Bool) (i : ℕ) (r : Bool) → get_or m i false ≡ true → set m i (get_or m i false) ≡ set m i (get_or m i false || r)
mark_kept m i r e = ap (set m i) (simp e)

-- ---- one arrival

-- the marks after the one of x's region was set
marked : (x : Item) (m₀ m : List Bool) (b : Bool) → x.owner < length m₀ → x.start < x.end → m ≡ set m₀ x.owner (get_or m₀ x.owner false || b)
    → (i : ℕ) → get_or m i false ≡ (get_or m₀ i false || (eqb x.owner i && ltb x.start x.end && b))
marked x m₀ m b n h e i =
    by_eq x.owner i
    (λ d. stored_new m₀ m x.owner i (get_or m₀ x.owner false || b) false e n (sym d)
    ∙ ap (λ (k : ℕ). get_or m₀ k false || b) d ∙ sym (simp (eq-eqb x.owner i d, lt-ltb x.start x.end h)))
    (λ d. stored_old m₀ m x.owner i (get_or m₀ x.owner false || b) false e (λ q. d (sym q))
    ∙ sym (simp (ne_eqb x.owner i d, or-false)))

module _ {x : Item} {u rank : ℕ} {held₀ own₀ : List ℕ} {over₀ under₀ : List Bool} where
  -- a usable one
  pub arrives_held : {held : List ℕ} {over under : List Bool} → x.start < x.end → x.owner < u → u ≤ 1024 → length over₀ ≡ 1024 → length under₀ ≡ 1024
      → over ≡ set over₀ x.owner (get_or over₀ x.owner false || reach held₀ rank x.start)
      → under ≡ set under₀ x.owner (get_or under₀ x.owner false || reach own₀ (rank + 1) x.start)
      → Raised held₀ held rank x.end → Arrived x u rank held₀ held own₀ own₀ over₀ over under₀ under
  arrives_held h g n q v o p r =
      let e = lt-ltb x.start x.end h in
      record {
        held_reach = λ k v. r k v ∙ simp (e, lt-ltb x.owner u g);
        own_reach = λ k v. simp (e, lt-leb u x.owner g, or-false);
        over_size = ap length o ∙ length-set over₀ x.owner (get_or over₀ x.owner false || reach held₀ rank x.start);
        over_marks = λ i l. marked x over₀ _ (reach held₀ rank x.start) (omega arith) h o i;
        under_size = ap length p ∙ length-set under₀ x.owner (get_or under₀ x.owner false || reach own₀ (rank + 1) x.start);
        under_marks = λ i l. marked x under₀ _ (reach own₀ (rank + 1) x.start) (omega arith) h p i;
      }

-- ---- one pass

any_ext : {A : Type 0} (f g : A → Bool) → ((x : A) → f x ≡ g x) → (l : List A) → any f l ≡ any g l
unfolding any
any_ext f g e [] = refl
any_ext f g e (x ∷ xs) = rw (e x, any_ext f g e xs)

-- a test on y alone, before one on the others
any_both : {A : Type 0} (b : Bool) (f : A → Bool) (l : List A) → any (λ (x : A). b && f x) l ≡ (b && any f l)
unfolding any
any_both true f l = refl
any_both false f [] = refl
any_both false f (x ∷ xs) = any_both false f xs

shuffle : (a b c s z w : Bool) → (a && (b && c) && (s && z && w)) ≡ (a && s && (z && b && c && w))
shuffle false b c s z w = refl
shuffle true b c false z w = and-false (b && c)
shuffle true b c true false w = and-false (b && c)
shuffle true false c true true w = refl
shuffle true true c true true w = refl

-- y is struck by one of l exactly where the table of those that may strike says so
any_struck : (counts : Item → Item → Bool) (kind : Item → Bool) (ranks : List ℕ) (k i : ℕ) (y : Item) (l : List Item)
    → ((x : Item) → counts y x ≡ (kind x && leb k (get_or ranks x.owner 0)))
    → any (struck counts i y) l ≡ (eqb y.owner i && ltb y.start y.end && any (λ (x : Item). strikes (kind x) (get_or ranks x.owner 0) k y.start x) l)
any_struck counts kind ranks k i y l e =
    any_ext (struck counts i y) (λ (x : Item). eqb y.owner i && ltb y.start y.end && strikes (kind x) (get_or ranks x.owner 0) k y.start x)
    (λ x. ap (λ (b : Bool). eqb y.owner i && b && within y x) (e x)
    ∙ shuffle (eqb y.owner i) (kind x) (leb k (get_or ranks x.owner 0)) (ltb y.start y.end) (ltb x.start x.end) (ltb y.start x.end)) l
    ∙ any_both (eqb y.owner i && ltb y.start y.end) (λ (x : Item). strikes (kind x) (get_or ranks x.owner 0) k y.start x) l

above_leb : (a b : ℕ) → ltb a b ≡ leb (a + 1) b
above_leb a b = by_lt a b (λ h. lt-ltb a b h ∙ sym (le-leb (a + 1) b (omega arith))) (λ h. le-ltb a b h ∙ sym (lt-leb (a + 1) b (omega arith)))

-- what the tables and marks hold after the first t ranges of the way
pub record Sweeping (l : List Item) (u : ℕ) (ranks : List ℕ) (over₀ under₀ : List Bool) (held own : List ℕ) (over under : List Bool) (t : ℕ) : Type 0 where
  pub upto : t ≤ length l
  pub held_reach : (k v : ℕ) → reach held k v ≡ any (λ (x : Item). strikes (ltb x.owner u) (get_or ranks x.owner 0) k v x) (take t l)
  pub own_reach : (k v : ℕ) → reach own k v ≡ any (λ (x : Item). strikes (leb u x.owner) (get_or ranks x.owner 0) k v x) (take t l)
  pub marks : Swept (take t l) u ranks over₀ over under₀ under

pub sweep_begins : (l : List Item) (u : ℕ) (ranks : List ℕ) (over under : List Bool) → Sweeping l u ranks over under (replicate 6144 0) (replicate 6144 0) over under 0
unfolding any behind
sweep_begins l u ranks over under =
    record {
      upto = omega arith;
      held_reach = reach_blank;
      own_reach = reach_blank;
      marks = record {
        over_size = refl;
        over_marks = λ i h. sym (or-false (get_or over i false));
        under_size = refl;
        under_marks = λ i h. sym (or-false (get_or under i false));
      };
    }

module _ {l : List Item} {u : ℕ} {ranks : List ℕ} {over₀ under₀ : List Bool} {held own : List ℕ} {over under : List Bool} {t : ℕ}
    (g : Sweeping l u ranks over₀ under₀ held own over under t) where
  pub sweep_on : {held' own' : List ℕ} {over' under' : List Bool} (y : Item) → y ≡ get_or l t no_item → t < length l
      → Arrived y u (get_or ranks y.owner 0) held held' own own' over over' under under'
      → Sweeping l u ranks over₀ under₀ held' own' over' under' (t + 1)
  sweep_on y e h a =
      record {
        upto = omega arith;
        held_reach = λ k v. a.held_reach k v ∙ table (λ (x : Item). strikes (ltb x.owner u) (get_or ranks x.owner 0) k v x) (reach held k v) (g.held_reach k v);
        own_reach = λ k v. a.own_reach k v ∙ table (λ (x : Item). strikes (leb u x.owner) (get_or ranks x.owner 0) k v x) (reach own k v) (g.own_reach k v);
        marks = record {
          over_size = a.over_size ∙ g.marks.over_size;
          over_marks = λ i n. a.over_marks i n
              ∙ mark (usable_over ranks u) (λ (x : Item). ltb x.owner u) rank i (get_or over₀ i false) (λ x. refl) (g.marks.over_marks i n) (g.held_reach rank y.start);
          under_size = a.under_size ∙ g.marks.under_size;
          under_marks = λ i n. a.under_marks i n
              ∙ mark (own_over ranks u) (λ (x : Item). leb u x.owner) (rank + 1) i (get_or under₀ i false)
              (λ x. ap (λ (b : Bool). leb u x.owner && b) (above_leb rank (get_or ranks x.owner 0))) (g.marks.under_marks i n) (g.own_reach (rank + 1) y.start);
        };
      }
    where
      rank : ℕ
      rank = get_or ranks y.owner 0

      more : take (t + 1) l ≡ take t l ++ (y ∷ [])
      more = let s : t + 1 ≡ suc t = omega arith in ap (λ (k : ℕ). take k l) s ∙ take-suc l t no_item h ∙ ap (λ (x : Item). take t l ++ (x ∷ [])) (sym e)

      table : (f : Item → Bool) (b : Bool) → b ≡ any f (take t l) → (b || f y) ≡ any f (take (t + 1) l)
      table f b d = ap (λ (c : Bool). c || f y) d ∙ sym (ap (any f) more ∙ any_last f (take t l) y)

      mark : (counts : Item → Item → Bool) (kind : Item → Bool) (k i : ℕ) (b : Bool) {m r : Bool}
          → ((x : Item) → counts y x ≡ (kind x && leb k (get_or ranks x.owner 0)))
          → m ≡ (b || behind (struck counts i) (take t l))
          → r ≡ any (λ (x : Item). strikes (kind x) (get_or ranks x.owner 0) k y.start x) (take t l)
          → (m || (eqb y.owner i && ltb y.start y.end && r)) ≡ (b || behind (struck counts i) (take (t + 1) l))
      mark counts kind k i b c d q =
          rw (d, q) (or_assoc b (behind (struck counts i) (take t l)) (eqb y.owner i && ltb y.start y.end && any (λ (x : Item). strikes (kind x) (get_or ranks x.owner 0) k y.start x) (take t l)))
          ∙ ap (λ (z : Bool). b || z)
          (ap (λ (z : Bool). behind (struck counts i) (take t l) || z) (sym (any_struck counts kind ranks k i y (take t l) c))
          ∙ sym (ap (behind (struck counts i)) more ∙ behind_last (struck counts i) (take t l) y))

  pub sweep_ends : length l ≤ t → Swept l u ranks over₀ over under₀ under
  sweep_ends h = rw (sym (take_all t l h)) g.marks

-- ---- what a pass asks, of the ranges on the way

all_reverse : {A : Type 0} (P : A → Type 0) (l : List A) → All P l → All P (reverse l)
all_reverse P [] a = tt
all_reverse P (x ∷ xs) a = rw (reverse-cons x xs) (all_append P (reverse xs) (x ∷ []) (all_reverse P xs a.1) (a.0, tt))

all_mirror : (P : ℕ → Type 0) (l : List Item) → All (λ (x : Item). P x.owner) l → All (λ (x : Item). P x.owner) (map mirror l)
all_mirror P [] a = tt
all_mirror P (x ∷ xs) a = (a.0, all_mirror P xs a.1)

all_walk : (P : ℕ → Type 0) (back : Bool) (l : List Item) → All (λ (x : Item). P x.owner) l → All (λ (x : Item). P x.owner) (walk back l)
unfolding walk
all_walk P true l a = all_reverse (λ (x : Item). P x.owner) (map mirror l) (all_mirror P l a)
all_walk P false l a = a

module _ (order : List ℕ) (facts : List Range) (u : ℕ) (ranks : List ℕ) (r : Ready (pairs order) facts u ranks) (back : Bool) where
  abbrev way : List Item
  way = walk back (items_of (pairs order) facts)

  pub way_length : length way ≡ length (pairs order)
  way_length = walk_length back (items_of (pairs order) facts) ∙ length-map (pairs order) (item_at facts)

  pub way_owner : (t : ℕ) (x : Item) → x ≡ get_or way t no_item → t < length (pairs order) → (x.owner < length ranks) × (get_or ranks x.owner 0 < 2048)
  way_owner t x e h =
      let w = way_length in
      rw e (all_at (λ (y : Item). (y.owner < length ranks) × (get_or ranks y.owner 0 < 2048)) way t no_item
      (all_walk (λ (k : ℕ). (k < length ranks) × (get_or ranks k 0 < 2048)) back (items_of (pairs order) facts) r.owners) (omega arith))

-- ---- both passes
