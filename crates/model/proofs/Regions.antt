-- The region of a number among the others: where it stands, and what changing or dropping it leaves.
use Prim.Native.Nat.{ℕ, ◌+◌, ◌≤◌}
use mathlib.Core.Bool.{true, cond}
use mathlib.Core.List.{List, [], ◌∷◌, ◌++◌, map, append_assoc}
use mathlib.Core.Logic.{inl, inr, ⊎_elim}
use mathlib.Core.Path.{◌≡◌, refl, ap, sym, subst, ◌∙◌}
use native.Mathlib.Omega.{arith}
use lib.Dec.{eqb}
use lib.ListN.{length, length-map}
use borrow.Author.Tests.{eq-eqb, ne_eqb}
use Rattle.footprint.specs.declared.Limits.{Limits}
use Rattle.model.specs.Calls.{known, grown}
use Rattle.model.specs.Region.{Region, footprint, footprint_len, footprints, id_of, region_of, on_region, without}
use Rattle.model.specs.World.{World, of_tag}
use Rattle.numbers.specs.Keyed.{HasKey, keyed}
use Rattle.numbers.specs.Lists.{All, keep, Distinct}
use Rattle.numbers.specs.Range.{Range, range, total}
use Rattle.numbers.specs.Sums.{sum}
use Rattle.numbers.proofs.Cases.{by_eq}
use Rattle.numbers.proofs.Keyed.{key_true, true_key, has_later}
use Rattle.numbers.proofs.Lists.{all_append, all_left, all_right, all_map, map_all}
use Rattle.numbers.proofs.Sums.{total_append}

-- ---- known regions

pub known_true : (w : World) (id : ℕ) → known w id ≡ true → HasKey id_of id w.regions
unfolding known
known_true w id e = key_true id_of id w.regions e

pub true_known : (w : World) (id : ℕ) → HasKey id_of id w.regions → known w id ≡ true
unfolding known
true_known w id h = true_key id_of id w.regions h

-- ---- where it stands

pub record Split (id : ℕ) (rs : List Region) : Type 0 where
  pub front : List Region
  pub behind : List Region
  pub own : (region_of id rs).number ≡ id
  pub is : rs ≡ front ++ (region_of id rs ∷ behind)
  pub changed : (f : Region → Region) → on_region id f rs ≡ front ++ (f (region_of id rs) ∷ behind)
  pub dropped : without id rs ≡ front ++ behind

module _ (id : ℕ) (r : Region) (rs : List Region) where
  split_here : r.number ≡ id → Split id (r ∷ rs)
  unfolding keyed on_region without
  split_here e =
      let t = eq-eqb r.number id e in
      record { front = []; behind = rs; own = simp t e; is = simp t; changed = λ f. simp t; dropped = simp t }

  split_later : (r.number ≡ id → ⊥) → Split id rs → Split id (r ∷ rs)
  unfolding keyed on_region without
  split_later d s =
      let t = ne_eqb r.number id d in
      record {
        front = r ∷ s.front;
        behind = s.behind;
        own = simp t s.own;
        is = simp t (ap (λ (l : List Region). r ∷ l) s.is);
        changed = λ f. simp t (ap (λ (l : List Region). r ∷ l) (s.changed f));
        dropped = simp t (ap (λ (l : List Region). r ∷ l) s.dropped);
      }

pub split : (id : ℕ) (rs : List Region) → HasKey id_of id rs → Split id rs
split id [] h = absurd h
split id (r ∷ rs) h =
    by_eq r.number id (split_here id r rs) (λ d. split_later id r rs d (split id rs (has_later id_of id r rs d h)))

-- ---- what is true of every region

module _ (P : Region → Type 0) where
  pub all_region : (id : ℕ) (rs : List Region) → HasKey id_of id rs → All P rs → P (region_of id rs)
  all_region id rs h a =
      let s = split id rs h in
      (all_right P s.front (region_of id rs ∷ s.behind) (subst (All P) s.is a)).0

  pub all_on : (id : ℕ) (f : Region → Region) (rs : List Region) → HasKey id_of id rs → (P (region_of id rs) → P (f (region_of id rs)))
      → All P rs → All P (on_region id f rs)
  all_on id f rs h g a =
      let s = split id rs h in
      let b : All P (s.front ++ (region_of id rs ∷ s.behind)) = subst (All P) s.is a in
      let c = all_right P s.front (region_of id rs ∷ s.behind) b in
      subst (All P) (sym (s.changed f)) (all_append P s.front (f (region_of id rs) ∷ s.behind) (all_left P s.front (region_of id rs ∷ s.behind) b) (g c.0, c.1))

  pub all_without : (id : ℕ) (rs : List Region) → All P rs → All P (without id rs)
  unfolding without
  all_without id [] a = tt
  all_without id (r ∷ rs) a =
      by_eq r.number id (λ e. simp (eq-eqb _ _ e) a.1) (λ d. simp (ne_eqb _ _ d) (a.0, all_without id rs a.1))

-- ---- fields that a change keeps

module _ {B : Type 0} (g : Region → B) (id : ℕ) where
  pub map_on : (f : Region → Region) → ((r : Region) → g (f r) ≡ g r) → (rs : List Region) → map g (on_region id f rs) ≡ map g rs
  unfolding on_region
  map_on f k [] = refl
  map_on f k (r ∷ rs) =
      by_eq r.number id (λ e. simp (eq-eqb _ _ e) (ap (λ (b : B). b ∷ map g rs) (k r)))
      (λ d. simp (ne_eqb _ _ d) (ap (λ (l : List B). g r ∷ l) (map_on f k rs)))

  pub distinct_without : (rs : List Region) → Distinct (map g rs) → Distinct (map g (without id rs))
  unfolding without
  distinct_without [] d = tt
  distinct_without (r ∷ rs) d =
      by_eq r.number id (λ e. simp (eq-eqb _ _ e) d.1)
      (λ n.
      let P : B → Type 0 = λ y. g r ≡ y → ⊥ in
      simp (ne_eqb _ _ n) (all_map P g (without id rs) (all_without (λ (x : Region). P (g x)) id rs (map_all P g rs d.0)), distinct_without rs d.1))

-- ---- sums over the regions

module _ (h : Region → ℕ) (id : ℕ) where
  pub sum_on : (f : Region → Region) (rs : List Region) → HasKey id_of id rs
      → sum (map h (on_region id f rs)) + h (region_of id rs) ≡ sum (map h rs) + h (f (region_of id rs))
  unfolding keyed on_region sum
  sum_on f [] k = absurd k
  sum_on f (r ∷ rs) k =
      by_eq r.number id (λ e. simp (eq-eqb _ _ e) (omega arith))
      (λ d. let i = sum_on f rs (has_later id_of id r rs d k) in simp (ne_eqb _ _ d) (omega arith))

  pub sum_without : (rs : List Region) → HasKey id_of id rs → sum (map h (without id rs)) + h (region_of id rs) ≡ sum (map h rs)
  unfolding keyed without sum
  sum_without [] k = absurd k
  sum_without (r ∷ rs) k =
      by_eq r.number id (λ e. simp (eq-eqb _ _ e) (omega arith))
      (λ d. let i = sum_without rs (has_later id_of id r rs d k) in simp (ne_eqb _ _ d) (omega arith))

-- n bytes count for the tag t where they are of that tag.
abbrev pub if_tag : (tag t n : ℕ) → ℕ
if_tag tag t n = cond (eqb tag t) n 0

-- a tag's sum counts the other regions as nothing
pub sum_tag : (h : Region → ℕ) (t : ℕ) (rs : List Region) → sum (map h (of_tag t rs)) ≡ sum (map (λ (r : Region). if_tag r.tag t (h r)) rs)
unfolding keep sum
sum_tag h t [] = refl
sum_tag h t (r ∷ rs) =
    let i = sum_tag h t rs in by_eq r.tag t (λ e. simp (eq-eqb _ _ e) (omega arith)) (λ d. simp (ne_eqb _ _ d) (omega arith))

-- ---- footprints

pub footprints_append : (lim : Limits) (rs qs : List Region) → footprints lim (rs ++ qs) ≡ footprints lim rs ++ footprints lim qs
unfolding footprints
footprints_append lim [] qs = refl
footprints_append lim (r ∷ rs) qs =
    ap (λ (l : List Range). footprint lim r ++ l) (footprints_append lim rs qs) ∙ sym (append_assoc (footprint lim r) (footprints lim rs) (footprints lim qs))

-- in the middle of others
pub footprints_middle : (lim : Limits) (rs : List Region) (r : Region) (qs : List Region)
    → footprints lim (rs ++ (r ∷ qs)) ≡ footprints lim rs ++ (footprint lim r ++ footprints lim qs)
unfolding footprints
footprints_middle lim rs r qs = footprints_append lim rs (r ∷ qs)

-- "the sum of footprints" is the sum of their ranges
pub footprints_total : (lim : Limits) (rs : List Region) → total (footprints lim rs) ≡ sum (map (footprint_len lim) rs)
unfolding footprints sum
footprints_total lim [] = refl
footprints_total lim (r ∷ rs) = total_append (footprint lim r) (footprints lim rs) ∙ omega (arith, footprints_total lim rs)

-- what is true of every footprint's ranges
pub all_footprints : (P : Range → Type 0) (lim : Limits) (rs : List Region) → All (λ (r : Region). All P (footprint lim r)) rs → All P (footprints lim rs)
unfolding footprints
all_footprints P lim [] a = tt
all_footprints P lim (r ∷ rs) a = all_append P (footprint lim r) (footprints lim rs) a.0 (all_footprints P lim rs a.1)

-- ---- the region of a number afterwards

module _ (id : ℕ) (f : Region → Region) (keeps : (r : Region) → (f r).number ≡ r.number) where
  pub region_on : (rs : List Region) → HasKey id_of id rs → region_of id (on_region id f rs) ≡ f (region_of id rs)
  unfolding keyed on_region
  region_on [] k = absurd k
  region_on (r ∷ rs) k =
      by_eq r.number id (λ e. simp (eq-eqb _ _ e, eq-eqb _ _ (keeps r ∙ e)))
      (λ d. simp (ne_eqb _ _ d) (region_on rs (has_later id_of id r rs d k)))

  pub other_on : (n : ℕ) → (n ≡ id → ⊥) → (rs : List Region) → region_of n (on_region id f rs) ≡ region_of n rs
  unfolding keyed on_region
  other_on n d [] = refl
  other_on n d (r ∷ rs) =
      by_eq r.number id
      (λ e. simp (eq-eqb _ _ e, ne_eqb (f r).number n (λ q. d (sym q ∙ keeps r ∙ e)), ne_eqb r.number n (λ q. d (sym q ∙ e))))
      (λ e. simp (ne_eqb _ _ e) (ap (cond (eqb r.number n) r) (other_on n d rs)))

  pub has_on : (n : ℕ) (rs : List Region) → HasKey id_of n rs → HasKey id_of n (on_region id f rs)
  unfolding on_region
  has_on n [] h = h
  has_on n (r ∷ rs) h =
      by_eq r.number id (λ e. simp (eq-eqb _ _ e) (⊎_elim (λ q. inl (keeps r ∙ q)) (λ a. inr a) h))
      (λ d. simp (ne_eqb _ _ d) (⊎_elim (λ q. inl q) (λ a. inr (has_on n rs a)) h))

module _ (id n : ℕ) (d : n ≡ id → ⊥) where
  pub other_without : (rs : List Region) → region_of n (without id rs) ≡ region_of n rs
  unfolding keyed without
  other_without [] = refl
  other_without (r ∷ rs) =
      by_eq r.number id (λ e. simp (eq-eqb _ _ e, ne_eqb r.number n (λ q. d (sym q ∙ e))))
      (λ e. simp (ne_eqb _ _ e) (ap (cond (eqb r.number n) r) (other_without rs)))

  pub has_without : (rs : List Region) → HasKey id_of n rs → HasKey id_of n (without id rs)
  unfolding without
  has_without [] h = h
  has_without (r ∷ rs) h =
      by_eq r.number id (λ e. simp (eq-eqb _ _ e) (has_later id_of n r rs (λ q. d (sym q ∙ e)) h))
      (λ e. simp (ne_eqb _ _ e) (⊎_elim (λ q. inl q) (λ a. inr (has_without rs a)) h))

-- with one more behind them
module _ (n : ℕ) (q : Region) where
  pub region_behind : (rs : List Region) → HasKey id_of n rs → region_of n (rs ++ (q ∷ [])) ≡ region_of n rs
  unfolding keyed
  region_behind [] h = absurd h
  region_behind (r ∷ rs) h =
      by_eq r.number n (λ e. simp (eq-eqb _ _ e))
      (λ d. simp (ne_eqb _ _ d) (region_behind rs (has_later id_of n r rs d h)))

  pub has_behind : (rs : List Region) → HasKey id_of n rs → HasKey id_of n (rs ++ (q ∷ []))
  has_behind [] h = absurd h
  has_behind (r ∷ rs) h = ⊎_elim (λ e. inl e) (λ a. inr (has_behind rs a)) h

-- ---- how many there are

pub length_on : (id : ℕ) (f : Region → Region) (rs : List Region) → length (on_region id f rs) ≡ length rs
length_on id f rs =
    let g : Region → ℕ = λ r. 0 in
    sym (length-map (on_region id f rs) g) ∙ ap length (map_on g id f (λ r. refl) rs) ∙ length-map rs g

pub length_without : (id : ℕ) (rs : List Region) → length (without id rs) ≤ length rs
unfolding without
length_without id [] = omega arith
length_without id (r ∷ rs) =
    let i = length_without id rs in by_eq r.number id (λ e. simp (eq-eqb _ _ e) (omega arith)) (λ d. simp (ne_eqb _ _ d) (omega arith))

-- ---- different ones

module _ {B : Type 0} (g : Region → B) (q : Region) where
  pub distinct_behind : (rs : List Region) → Distinct (map g rs) → All (λ (r : Region). g r ≡ g q → ⊥) rs → Distinct (map g (rs ++ (q ∷ [])))
  distinct_behind [] d a = (tt, tt)
  distinct_behind (r ∷ rs) d a =
      let P : B → Type 0 = λ b. g r ≡ b → ⊥ in
      (all_map P g (rs ++ (q ∷ [])) (all_append (λ (x : Region). P (g x)) rs (q ∷ []) (map_all P g rs d.0) (a.0, tt)), distinct_behind rs d.1 a.1)

-- ---- what is held where the region of a number is changed or dropped

module _ (lim : Limits) (id : ℕ) (rs : List Region) (s : Split id rs) where
  abbrev pub held_front : List Range
  held_front = footprints lim s.front ++ footprint lim (region_of id rs)

  abbrev pub held_behind : List Range
  held_behind = footprints lim s.behind

  pub held_parts : footprints lim rs ≡ footprints lim s.front ++ (footprint lim (region_of id rs) ++ held_behind)
  held_parts = ap (footprints lim) s.is ∙ footprints_middle lim s.front (region_of id rs) s.behind

  pub held_split : footprints lim rs ≡ held_front ++ held_behind
  held_split = held_parts ∙ sym (append_assoc (footprints lim s.front) (footprint lim (region_of id rs)) held_behind)

  -- with an extent more
  pub held_grown : (a n : ℕ) → footprints lim (on_region id (grown a n) rs) ≡ held_front ++ (range a n ∷ held_behind)
  held_grown a n =
      ap (footprints lim) (s.changed (grown a n))
      ∙ footprints_middle lim s.front (grown a n (region_of id rs)) s.behind
      ∙ ap (λ (l : List Range). footprints lim s.front ++ l) (append_assoc (footprint lim (region_of id rs)) (range a n ∷ []) held_behind)
      ∙ sym (append_assoc (footprints lim s.front) (footprint lim (region_of id rs)) (range a n ∷ held_behind))

  -- without it
  pub held_dropped : footprints lim (without id rs) ≡ footprints lim s.front ++ held_behind
  held_dropped = ap (footprints lim) s.dropped ∙ footprints_append lim s.front s.behind

-- where the footprint stays, all do
pub held_kept : (lim : Limits) (id : ℕ) (f : Region → Region) → ((r : Region) → footprint lim (f r) ≡ footprint lim r)
    → (rs : List Region) → footprints lim (on_region id f rs) ≡ footprints lim rs
unfolding footprints on_region
held_kept lim id f k [] = refl
held_kept lim id f k (r ∷ rs) =
    by_eq r.number id (λ e. simp (eq-eqb _ _ e) (ap (λ (l : List Range). l ++ footprints lim rs) (k r)))
    (λ d. simp (ne_eqb _ _ d) (ap (λ (l : List Range). footprint lim r ++ l) (held_kept lim id f k rs)))
