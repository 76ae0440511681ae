-- The two loops of `runs`: one goes along a run, the other from run to run.
use Prim.Native.Nat.{ℕ, suc, ◌+◌, ◌≤◌, ◌<◌}
use mathlib.Core.Bool.{true, false}
use mathlib.Core.List.{List, [], ◌∷◌, ◌++◌, map, map-append, append-nil}
use mathlib.Core.Logic.{◌⊎◌, inl, inr}
use mathlib.Core.Path.{◌≡◌, refl, ap, sym, subst, ◌∙◌}
use native.Mathlib.Omega.{arith}
use lib.ListN.{length, get_or, drop, set, length-append, length-map, drop_of_length-le}
use lib.Seq.{drop-cons, append_snoc}
use borrow.Author.Tests.{eq-eqb, ne_eqb, leb-true, eqb-true, le-leb, lt-ltb, le-ltb}
use Rattle.runs.specs.Inner.{Reached, Joined}
use Rattle.runs.specs.declared.Run.{Run}
use Rattle.runs.specs.Runs.{run, not_empty, joins, joined_to, joined, runs_from, runs_of, runs_fail, Listed}
use Rattle.numbers.specs.Lists.{written}
use Rattle.numbers.specs.Pairs.{is_odd, pairs}
use Rattle.numbers.specs.Range.{Range, range, blank}
use Rattle.numbers.specs.Refusals.{accepted, refused}
use Rattle.numbers.specs.Sums.{top, stop}
use Rattle.numbers.proofs.Answers.{one_passes, one_fails}
use Rattle.numbers.proofs.Cases.{and-true}
use Rattle.numbers.proofs.Lists.{written_length, written_next}
use Rattle.numbers.proofs.Sums.{stop_add}

-- the extent i, by its two numbers
module _ (xs : List Range) (i o n : ℕ) (h : i < length xs) (x : get_or xs i blank ≡ range o n) where
  next_extent : drop i xs ≡ range o n ∷ drop (i + 1) xs
  next_extent =
      let e : suc i ≡ i + 1 = omega arith in
      drop-cons xs i blank h ∙ rw (x, e)

  skipped : n ≡ 0 → not_empty (drop i xs) ≡ not_empty (drop (i + 1) xs)
  unfolding not_empty
  skipped z = rw next_extent (simp (eq-eqb _ _ z))

  kept : (n ≡ 0 → ⊥) → not_empty (drop i xs) ≡ range o n ∷ not_empty (drop (i + 1) xs)
  unfolding not_empty
  kept d = rw next_extent (simp (ne_eqb _ _ d))

-- what it means that an extent joins
pub record Joins (r x : Range) : Type 0 where
  pub ends : r.offset + r.len ≡ x.offset
  pub below : r.offset + r.len ≤ top
  pub short : r.len + x.len ≤ top

module _ (r x : Range) where
  pub joins_true : joins r x ≡ true → Joins r x
  unfolding joins
  joins_true e =
      let a = and-true _ _ e in
      let b = and-true _ _ a.0 in
      record { ends = eqb-true _ _ b.0; below = leb-true _ _ b.1; short = leb-true _ _ a.1 }

  pub true_joins : Joins r x → joins r x ≡ true
  unfolding joins
  true_joins m = simp (eq-eqb _ _ m.ends, le-leb _ _ m.below, le-leb _ _ m.short)

-- the run that begins with the extent i is (file, len) up to the extent j
pub record Reaching (xs : List Range) (i file len j : ℕ) : Type 0 where
  pub behind : i < j
  pub inside : j ≤ length xs
  pub from : (get_or xs i blank).offset ≡ file
  pub goes : joined_to (get_or xs i blank) (not_empty (drop (i + 1) xs)) ≡ joined_to (range file len) (not_empty (drop j xs))

pub reach_begins : {xs : List Range} {i o n : ℕ} → i < length xs → get_or xs i blank ≡ range o n → Reaching xs i o n (i + 1)
reach_begins h x = record { behind = omega arith; inside = omega arith; from = rw x; goes = rw x }

module _ {xs : List Range} {i file len j : ℕ} (g : Reaching xs i file len j) where
  module _ {o n : ℕ} (l : j < length xs) (x : get_or xs j blank ≡ range o n) where
    pub reach_skips : n ≡ 0 → Reaching xs i file (len + n) (j + 1)
    reach_skips z =
        let e : len + n ≡ len = omega arith in
        record {
          behind = omega (arith, g.behind);
          inside = omega arith;
          from = g.from;
          goes = rw e (g.goes ∙ ap (joined_to (range file len)) (skipped xs j o n l x z));
        }

    module _ (d : n ≡ 0 → ⊥) where
      pub reach_joins : joins (range file len) (range o n) ≡ true → Reaching xs i file (len + n) (j + 1)
      unfolding joined_to
      reach_joins t =
          record {
            behind = omega (arith, g.behind);
            inside = omega arith;
            from = g.from;
            goes = g.goes ∙ rw (kept xs j o n l x d) (simp t);
          }

      pub reach_stops : joins (range file len) (range o n) ≡ false → Reached xs i len j
      unfolding joined_to joined
      reach_stops f =
          record {
            behind = g.behind;
            inside = omega arith;
            goes = g.goes ∙ rw (g.from, kept xs j o n l x d) (simp f);
          }

  pub reach_ends : length xs ≤ j → Reached xs i len (length xs)
  unfolding joined_to joined not_empty
  reach_ends l =
      record {
        behind = omega (arith, g.behind, g.inside);
        inside = omega arith;
        goes = g.goes ∙ rw (g.from, drop_of_length-le xs {i = j} l, drop_of_length-le xs {i = length xs} (omega arith));
      }

-- the runs of the extents in front of i are written, k of them; the lengths before the next sum to `before`
pub record Joining (xs : List Range) (s₀ s f₀ f l₀ l : List ℕ) (start k i : ℕ) : Type 0 where
  pub inside : i ≤ length xs
  pub room : k ≤ i
  pub rooms : (length xs ≤ length s₀) × (length xs ≤ length f₀) × (length xs ≤ length l₀)
  pub done : List Run
  pub before : ℕ
  pub count : length done ≡ k
  pub from : start ≡ stop before
  pub rest : runs_of xs ≡ done ++ runs_from before (joined (not_empty (drop i xs)))
  pub starts : s ≡ written (map (λ (r : Run). r.start) done) s₀
  pub files : f ≡ written (map (λ (r : Run). r.file) done) f₀
  pub lens : l ≡ written (map (λ (r : Run). r.len) done) l₀

module _ (xs : List Range) (s₀ f₀ l₀ : List ℕ) where
  pub join_begins : (length xs ≤ length s₀) × (length xs ≤ length f₀) × (length xs ≤ length l₀) → Joining xs s₀ s₀ f₀ f₀ l₀ l₀ 0 0 0
  join_begins p =
      record {
        inside = omega arith;
        room = omega arith;
        rooms = p;
        done = [];
        before = 0;
        count = refl;
        from = refl;
        rest = refl;
        starts = refl;
        files = refl;
        lens = refl;
      }

-- one more run in one of the lists
module _ (p : Run → ℕ) (done : List Run) (s₀ s : List ℕ) (k : ℕ) (c : length done ≡ k) (e : s ≡ written (map p done) s₀) where
  pub fills : (r : Run) → k < length s₀ → set s k (p r) ≡ written (map p (done ++ (r ∷ []))) s₀
  fills r h = rw (e, map-append p done (r ∷ [])) (written_next (map p done) s₀ k (p r) (length-map done p ∙ c) h)

  pub same_length : k ≤ length s₀ → length s ≡ length s₀
  same_length h = rw e (written_length (map p done) s₀ (rw (length-map done p, c) h))

module _ {xs : List Range} {s₀ s f₀ f l₀ l : List ℕ} {start k i : ℕ} (g : Joining xs s₀ s f₀ f l₀ l start k i) where
  pub join_lengths : (length s ≡ length s₀) × (length f ≡ length f₀) × (length l ≡ length l₀)
  join_lengths =
      let r = g.rooms in (
        same_length (λ (r : Run). r.start) g.done s₀ s k g.count g.starts (omega (arith, r.0, g.room, g.inside)),
        same_length (λ (r : Run). r.file) g.done f₀ f k g.count g.files (omega (arith, r.1, g.room, g.inside)),
        same_length (λ (r : Run). r.len) g.done l₀ l k g.count g.lens (omega (arith, r.2, g.room, g.inside)),
      )

  module _ (t : i < length xs) where
    pub join_room : (k < length s) × (k < length f) × (k < length l)
    join_room =
        let r = g.rooms in
        let e = join_lengths in
        (omega (arith, r.0, e.0, g.room), omega (arith, r.1, e.1, g.room), omega (arith, r.2, e.2, g.room))

    pub join_skips : {o n : ℕ} → get_or xs i blank ≡ range o n → n ≡ 0 → Joining xs s₀ s f₀ f l₀ l start k (i + 1)
    join_skips {o} {n} x z =
        record {
          inside = omega arith;
          room = omega (arith, g.room);
          rooms = g.rooms;
          done = g.done;
          before = g.before;
          count = g.count;
          from = g.from;
          rest = g.rest ∙ ap (λ (ys : List Range). g.done ++ runs_from g.before (joined ys)) (skipped xs i o n t x z);
          starts = g.starts;
          files = g.files;
          lens = g.lens;
        }

    pub join_writes : {o n len next start' : ℕ} → get_or xs i blank ≡ range o n → (n ≡ 0 → ⊥) → Reached xs i len next → start' ≡ stop (start + len)
        → Joining xs s₀ (set s k start) f₀ (set f k o) l₀ (set l k len) start' (k + 1) next
    unfolding joined runs_from
    join_writes {o} {n} {len} {next} {start'} x d a e =
        let r = run start o len in
        let m = g.rooms in
        let later = runs_from (g.before + len) (joined (not_empty (drop next xs))) in
        let c : length (g.done ++ (r ∷ [])) ≡ k + 1 = length-append g.done (r ∷ []) ∙ omega (arith, g.count) in
        let w : joined (not_empty (drop i xs)) ≡ range o len ∷ joined (not_empty (drop next xs)) =
        rw (kept xs i o n t x d) (subst (λ (x : Range). joined_to x (not_empty (drop (i + 1) xs)) ≡ range x.offset len ∷ joined (not_empty (drop next xs))) x a.goes) in
        record {
          inside = omega (arith, a.inside);
          room = omega (arith, a.behind, g.room);
          rooms = g.rooms;
          done = g.done ++ (r ∷ []);
          before = g.before + len;
          count = c;
          from = e ∙ rw g.from (stop_add g.before len);
          rest =
              g.rest
              ∙ ap (λ (ys : List Range). g.done ++ runs_from g.before ys) w
              ∙ ap (λ (b : ℕ). g.done ++ (run b (o) len ∷ later)) (sym g.from)
              ∙ sym (append_snoc g.done r later);
          starts = fills (λ (r : Run). r.start) g.done s₀ s k g.count g.starts r (omega (arith, m.0, g.room));
          files = fills (λ (r : Run). r.file) g.done f₀ f k g.count g.files r (omega (arith, m.1, g.room));
          lens = fills (λ (r : Run). r.len) g.done l₀ l k g.count g.lens r (omega (arith, m.2, g.room));
        }

  pub join_ends : length xs ≤ i → Joined xs s₀ s f₀ f l₀ l k
  unfolding not_empty joined runs_from
  join_ends t =
      let e : runs_of xs ≡ g.done = g.rest ∙ rw (drop_of_length-le xs {i = i} (omega arith)) (append-nil g.done) in
      record {
        count = sym (ap length e ∙ g.count);
        starts = rw e g.starts;
        files = rw e g.files;
        lens = rw e g.lens;
      }

-- refusal 1, as the code tests it, by the p pairs of a list
pub odd_fails : (xs : List ℕ) (s f l : ℕ) → is_odd xs ≡ true → runs_fail xs s f l ≡ true
unfolding runs_fail
odd_fails xs s f l o = simp o

module _ (xs : List ℕ) (s f l p : ℕ) (n : length (pairs xs) ≡ p) where
  pub short_fails : is_odd xs ≡ false → (s < p) ⊎ ((p ≤ s × f < p) ⊎ (p ≤ s × p ≤ f × l < p)) → runs_fail xs s f l ≡ true
  unfolding runs_fail
  short_fails e (inl h) = rw n (simp (e, lt-ltb _ _ h))
  short_fails e (inr (inl h)) = rw n (simp (e, le-ltb _ _ h.0, lt-ltb _ _ h.1))
  short_fails e (inr (inr h)) = rw n (simp (e, le-ltb _ _ h.0, le-ltb _ _ h.1, lt-ltb _ _ h.2))

  pub enough : is_odd xs ≡ false → p ≤ s → p ≤ f → p ≤ l → runs_fail xs s f l ≡ false
  unfolding runs_fail
  enough e h j k = rw n (simp (e, le-ltb _ _ h, le-ltb _ _ j, le-ltb _ _ k))

-- what `runs` answers
module _ {xs s₀ f₀ l₀ : List ℕ} where
  pub runs_refused : runs_fail xs (length s₀) (length f₀) (length l₀) ≡ true → Listed xs s₀ s₀ f₀ f₀ l₀ l₀ (refused 1)
  runs_refused e = record { answer = sym (one_fails 1 _ _ (omega arith) e); starts = simp e; files = simp e; lens = simp e }

  pub runs_accepted : {s f l : List ℕ} {k : ℕ} → runs_fail xs (length s₀) (length f₀) (length l₀) ≡ false → Joined (pairs xs) s₀ s f₀ f l₀ l k → Listed xs s₀ s f₀ f l₀ l (accepted k)
  runs_accepted e j =
      record {
        answer = ap accepted j.count ∙ sym (one_passes 1 _ _ e);
        starts = simp e j.starts;
        files = simp e j.files;
        lens = simp e j.lens;
      }
