-- One pass over the ranges in order gives the gaps and tail.
use Rattle.std.proofs.Common.{◌≡◌, ℕ, ◌+◌, ◌-◌, ◌*◌, ◌/◌, ◌<◌, ◌≤◌, min, max, Bool, true, false, cond, not, eqb, ◌⊎◌, List, [], ◌∷◌, ◌++◌, length, get_or, drop, set, sym, refl, ap, ◌∙◌, inl, inr, ⊎_elim, append_assoc, append-nil, arith, length-append, drop_of_length-le, le-ltb, lt-ltb, eq-eqb, ne_eqb, Ok, Err, drop-cons, suc}
use mathlib.Core.Bool.{or-true}
use Rattle.freemap.specs.Gaps.{complement_fails, Complemented, covered, free, maximal, gaps_of, tail_of}
use Rattle.freemap.specs.Inner.{gap_to, swept, Noted, Swept}
use Rattle.numbers.specs.declared.refusal.Refusal.TheVariants.{Lists}
use Rattle.freemap.specs.declared.FreeMap.{FreeMap}
use Rattle.numbers.specs.Lists.{written, All, any}
use Rattle.numbers.specs.Order.{InOrder, precedes}
use Rattle.numbers.specs.Pairs.{is_odd, pairs, flat}
use Rattle.numbers.specs.Range.{Range, range, blank, end_of, has}
use Rattle.numbers.specs.Refusals.{Answer, accepted, answer, refuse}
use Rattle.numbers.specs.Sums.{top}
use Rattle.sort.specs.Sort.{Sorted, sorted, insert, Ascending}
use Rattle.freemap.proofs.Maximal.{max_skip, max_take, max_same}
use Rattle.numbers.proofs.Cases.{cases, by_eq, by_lt}
use Rattle.numbers.proofs.Lists.{written_length, all_imp, of_none}
use Rattle.numbers.proofs.Order.{in_offset}
use Rattle.numbers.proofs.Pairs.{length_pairs, pair_in, pair_written, length_flat, same_pairs}
use Rattle.numbers.proofs.Ranges.{none_has, has_false, true_has}
use Rattle.sort.proofs.Laws.{sorted_ascending, sorted_pairs, test_sorted}

-- ---- which bytes are free

module _ (r : Range) (rs : List Range) (b : ℕ) where
  covered_by : has r b ≡ true → free (r ∷ rs) b ≡ false
  unfolding covered any
  covered_by e = simp e

  missed_by : has r b ≡ false → free (r ∷ rs) b ≡ free rs b
  unfolding covered any
  missed_by e = simp e

-- below every offset
before_all : (a : ℕ) (rs : List Range) → All (λ (r : Range). a ≤ r.offset) rs → (b : ℕ) → b < a → free rs b ≡ true
unfolding covered
before_all a rs l b h =
    ap not (of_none (λ (r : Range). has r b) rs
    (all_imp (λ (r : Range). a ≤ r.offset) (λ (r : Range). has r b ≡ false)
    (λ r le. has_false r b (λ p. let f = p.from in omega arith)) rs l))

sorted_free : (rs : List Range) (b : ℕ) → free (sorted rs) b ≡ free rs b
unfolding covered
sorted_free rs b = ap not (test_sorted (λ (r : Range). has r b) rs)

-- ---- the gaps

module _ (len : ℕ) (small : len ≤ top) where
  -- the maximal ranges from a up to len
  abbrev rest : (ℕ → Bool) → ℕ → List Range
  rest f a = maximal f a (len - a)

  module _ (f : ℕ → Bool) where
    none_left : (a : ℕ) → len ≤ a → rest f a ≡ []
    unfolding maximal
    none_left a h = let z : len - a ≡ 0 = omega arith in ap (maximal f a) z

    -- a gap up to c
    take_to : (a c : ℕ) → a < c → c ≤ len → ((x : ℕ) → a ≤ x → x < c → f x ≡ true) → (c ≡ len) ⊎ (f c ≡ false) → rest f a ≡ range a (c - a) ∷ rest f c
    take_to a c h k all s =
        max_take f a c (c - a) (len - a) (len - c) (omega arith) (omega arith) (omega arith) all
        (⊎_elim (λ e. inl (omega arith)) (λ e. inr e) s)

    -- no gap up to c
    skip_to : (a c : ℕ) → a ≤ c → ((x : ℕ) → a ≤ x → x < c → x < len → f x ≡ false) → rest f a ≡ rest f c
    unfolding maximal
    skip_to a c h none =
        by_lt c len
        (λ k. max_skip f a c (c - a) (len - a) (len - c) (omega arith) (omega arith) (λ x l u. none x l u (omega arith)))
        (λ k.
        by_lt a len
        (λ l.
        max_skip f a len (len - a) (len - a) 0 (omega arith) (omega arith) (λ x m u. none x m (omega arith) u)
        ∙ sym (none_left c k))
        (λ l. none_left a l ∙ sym (none_left c k)))

  module _ (r : Range) (rs : List Range) (some : r.len ≡ 0 → ⊥) (behind : All (λ (q : Range). r.offset ≤ q.offset) rs) where
    first_covered : r.offset < len → free (r ∷ rs) (min r.offset len) ≡ false
    unfolding end_of
    first_covered l = covered_by r rs _ (true_has r (min r.offset len) (record { from = omega arith; upto = omega arith }))

    -- up to the range
    up_to : (a : ℕ) → rest (free (r ∷ rs)) a ≡ gap_to a (min r.offset len) ++ rest (free (r ∷ rs)) (max a (min r.offset len))
    up_to a =
        let f = free (r ∷ rs) in
        by_lt a (min r.offset len)
        (λ h.
        let e : max a (min r.offset len) ≡ min r.offset len = omega arith in
        let all : (x : ℕ) → a ≤ x → x < min r.offset len → f x ≡ true = λ x l u. before_all r.offset (r ∷ rs) (omega arith, behind) x (omega arith) in
        let s : (min r.offset len ≡ len) ⊎ (f (min r.offset len) ≡ false) = by_lt r.offset len (λ l. inr (first_covered l)) (λ l. inl (omega arith)) in
        simp (lt-ltb _ _ h, e) (take_to f a (min r.offset len) h (omega arith) all s))
        (λ h. let e : max a (min r.offset len) ≡ a = omega arith in simp (le-ltb _ _ h, e))

    -- over it
    over : (a : ℕ) → rest (free (r ∷ rs)) (max a (min r.offset len)) ≡ rest (free (r ∷ rs)) (max a (end_of r))
    unfolding end_of
    over a =
        skip_to (free (r ∷ rs)) (max a (min r.offset len)) (max a (end_of r)) (omega arith)
        (λ x l u v. covered_by r rs x (true_has r x (record { from = omega arith; upto = omega arith })))

    -- behind it
    past : (a : ℕ) → end_of r ≤ a → rest (free (r ∷ rs)) a ≡ rest (free rs) a
    past a h = max_same _ _ a (len - a) (λ x l u. missed_by r rs x (has_false r x (λ p. let w = p.upto in omega arith)))

  pub swept_gaps : (rs : List Range) → Ascending rs → (a : ℕ) → rest (free rs) a ≡ swept len a rs
  unfolding swept
  swept_gaps [] s a =
      by_lt a len
      (λ h. simp (lt-ltb _ _ h) (take_to (free []) a len h (omega arith) (λ x l u. before_all len [] tt x u) (inl refl) ∙ ap
      (λ (l : List Range). range a (len - a) ∷ l) (none_left (free []) len (omega arith))))
      (λ h. simp (le-ltb _ _ h) (none_left (free []) a h))
  swept_gaps (r ∷ rs) s a =
      by_eq r.len 0
      (λ z.
      simp (eq-eqb _ _ z)
      (max_same _ _ a (len - a) (λ x l u. missed_by r rs x (has_false r x (none_has r x z))) ∙ swept_gaps rs s.1 a))
      (λ d.
      let b = all_imp (InOrder r) (λ (q : Range). r.offset ≤ q.offset) (λ q o. in_offset r q o) rs s.0 in
      simp (ne_eqb _ _ d)
      (up_to r rs d b a ∙ ap (λ (l : List Range). gap_to a (min r.offset len) ++ l)
      (over r rs d b a ∙ past r rs d b (max a (end_of r)) (omega arith) ∙ swept_gaps rs s.1 (max a (end_of r)))))

-- ---- tail

-- what a range adds to it
abbrev ending : Range → ℕ
ending r = cond (eqb r.len 0) 0 (end_of r)

tail_cons : (a : ℕ) (r : Range) (rs : List Range) → tail_of a (r ∷ rs) ≡ max (ending r) (tail_of a rs)
unfolding tail_of
tail_cons a r rs = by_eq r.len 0 (λ z. simp (eq-eqb _ _ z) (omega arith)) (λ d. simp (ne_eqb _ _ d))

tail_later : (a e : ℕ) (rs : List Range) → tail_of (max a e) rs ≡ max e (tail_of a rs)
unfolding tail_of
tail_later a e [] = omega arith
tail_later a e (r ∷ rs) = omega (arith, tail_later a e rs, tail_cons (max a e) r rs, tail_cons a r rs)

-- the next range, empty or not
tail_empty : (a : ℕ) (r : Range) (rs : List Range) → r.len ≡ 0 → tail_of a (r ∷ rs) ≡ tail_of a rs
unfolding tail_of
tail_empty a r rs z = simp (eq-eqb _ _ z)

tail_next : (a : ℕ) (r : Range) (rs : List Range) → (r.len ≡ 0 → ⊥) → tail_of a (r ∷ rs) ≡ tail_of (max a (end_of r)) rs
unfolding tail_of
tail_next a r rs d = simp (ne_eqb _ _ d) (sym (tail_later a (end_of r) rs))

tail_insert : (a : ℕ) (x : Range) (l : List Range) → tail_of a (insert x l) ≡ max (ending x) (tail_of a l)
unfolding insert
tail_insert a x [] = tail_cons a x []
tail_insert a x (y ∷ ys) =
    cases (precedes x y) (λ e. simp e (tail_cons a x (y ∷ ys)))
    (λ e. simp e (omega (arith, tail_cons a y (insert x ys), tail_insert a x ys, tail_cons a y ys)))

tail_sorted : (a : ℕ) (rs : List Range) → tail_of a (sorted rs) ≡ tail_of a rs
unfolding sorted
tail_sorted a [] = refl
tail_sorted a (x ∷ xs) = omega (arith, tail_insert a x (sorted xs), tail_sorted a xs, tail_cons a x xs)

-- ---- the pass: count gaps are written, and the ranges from i on are left, from the byte a on

pub record Sweeping (te len : ℕ) (rs : List Range) (gs₀ gs : List ℕ) (a count i : ℕ) : Type 0 where
  pub room : length rs < length (pairs gs₀)
  pub below : i ≤ length rs
  pub done : List Range
  pub many : length done ≡ count
  pub most : count ≤ i
  pub left : swept len te rs ≡ done ++ swept len a (drop i rs)
  pub tail : tail_of te rs ≡ tail_of a (drop i rs)
  pub slots : gs ≡ written (flat done) gs₀

pub sweep_begins : (te len : ℕ) (rs : List Range) (gs : List ℕ) → length rs < length (pairs gs) → Sweeping te len rs gs gs te 0 0
unfolding flat
sweep_begins te len rs gs h =
    record { room = h; below = omega arith; done = []; many = refl; most = omega arith; left = refl; tail = refl; slots = refl }

-- a gap more
gap_one : (a b : ℕ) → length (gap_to a b) ≤ 1
gap_one a b = by_lt a b (λ l. simp (lt-ltb _ _ l) (omega arith)) (λ l. simp (le-ltb _ _ l) (omega arith))

noted_slots : (done : List Range) (gs₀ gs gs' : List ℕ) (k a b n : ℕ) → length done ≡ k → k < length (pairs gs₀) → gs ≡ written (flat done) gs₀ →
    Noted gs gs' k a b n → gs' ≡ written (flat (done ++ gap_to a b)) gs₀
noted_slots done gs₀ gs gs' k a b n e h w t =
    by_lt a b
    (λ l. simp (lt-ltb _ _ l) ((simp (lt-ltb _ _ l) at t.slots) ∙ ap (λ (s : List ℕ). set (set s (2 * k) a) (2 * k + 1) (b - a)) w ∙ pair_written done gs₀ k a (b - a) e (pair_in gs₀ k h)))
    (λ l. simp (le-ltb _ _ l, append-nil) ((simp (le-ltb _ _ l) at t.slots) ∙ w))

module _ {te len : ℕ} {rs : List Range} {gs₀ gs : List ℕ} {a count i : ℕ} (g : Sweeping te len rs gs₀ gs a count i) where
  room_for : count < length (pairs gs₀)
  room_for = let r = g.room in let b = g.below in let m = g.most in omega arith

  pub sweep_length : length gs ≡ length gs₀
  sweep_length =
      let f = length_flat g.done in
      let m = g.many in
      let h = pair_in gs₀ count room_for in
      ap length g.slots ∙ written_length (flat g.done) gs₀ (omega arith)

  pub sweep_room : count < length (pairs gs)
  sweep_room = let e = same_pairs gs gs₀ sweep_length in let h = room_for in omega arith

  module _ {o n : ℕ} (h : i < length rs) (x : get_or rs i blank ≡ range o n) where
    next : drop i rs ≡ range o n ∷ drop (i + 1) rs
    next = let e : suc i ≡ i + 1 = omega arith in drop-cons rs i blank h ∙ rw (x, e)

    -- an empty range
    pub sweep_empty : n ≡ 0 → Sweeping te len rs gs₀ gs a count (i + 1)
    unfolding swept
    sweep_empty z =
        record {
          room = g.room;
          below = omega arith;
          done = g.done;
          many = g.many;
          most = let m = g.most in omega arith;
          left = g.left ∙ rw next (simp (eq-eqb _ _ z));
          tail = g.tail ∙ ap (tail_of a) next ∙ tail_empty a (range o n) (drop (i + 1) rs) z;
          slots = g.slots;
        }

    -- another one
    pub sweep_on : (n ≡ 0 → ⊥) → {gs' : List ℕ} {k : ℕ} → Noted gs gs' count a (min o len) k → Sweeping te len rs gs₀ gs' (max a (end_of (range o n))) k (i + 1)
    unfolding swept
    sweep_on d {gs'} {k} t =
        let b = min o len in
        record {
          room = g.room;
          below = omega arith;
          done = g.done ++ gap_to a b;
          many = length-append g.done (gap_to a b) ∙ omega (arith, g.many, t.count);
          most = let m = g.most in let l = gap_one a b in omega (arith, t.count);
          left = g.left ∙ rw next (simp (ne_eqb _ _ d, append_assoc));
          tail = g.tail ∙ ap (tail_of a) next ∙ tail_next a (range o n) (drop (i + 1) rs) d;
          slots = noted_slots g.done gs₀ gs gs' count a b k g.many room_for g.slots t;
        }

  -- the gap behind all ranges
  pub sweep_ends : length rs ≤ i → {gs' : List ℕ} {n : ℕ} → Noted gs gs' count a len n → Swept te len rs gs₀ gs' (record { count = n; tail = a })
  unfolding swept tail_of
  sweep_ends h {gs'} {n} t =
      let z = drop_of_length-le rs {i = i} h in
      let w : swept len te rs ≡ g.done ++ gap_to a len = g.left ∙ rw z in
      record {
        count = t.count ∙ omega (arith, g.many, length-append g.done (gap_to a len), ap length w);
        tail = sym (g.tail ∙ ap (tail_of a) z);
        slots = noted_slots g.done gs₀ gs gs' count a len n g.many room_for g.slots t ∙ ap (λ (l : List Range). written (flat l) gs₀) (sym w);
      }

-- ---- the call

pub swept_of : (te len : ℕ) (rs : List Range) → len ≤ top → swept len te (sorted rs) ≡ gaps_of te len rs
swept_of te len rs h =
    sym (swept_gaps len h (sorted rs) (sorted_ascending rs) te) ∙ max_same _ _ te (len - te) (λ x l u. sorted_free rs x)

pub sweep_fits : (rs rs' gs : List ℕ) → length rs' ≡ length rs → length rs / 2 < length gs / 2 → length (pairs rs') < length (pairs gs)
sweep_fits rs rs' gs e h = let a = length_pairs rs' in let b = length_pairs gs in omega arith

module _ (rs gs : List ℕ) where
  pub fails_odd : is_odd rs ≡ true → complement_fails rs gs ≡ true
  unfolding complement_fails
  fails_odd e = simp e

  pub fails_few : length gs / 2 ≤ length rs / 2 → complement_fails rs gs ≡ true
  unfolding complement_fails
  fails_few h =
      let a = length_pairs rs in
      let b = length_pairs gs in
      let t : length (pairs gs) < length (pairs rs) + 1 = omega arith in
      simp (lt-ltb _ _ t, or-true)

  pub passes_both : is_odd rs ≡ false → length rs / 2 < length gs / 2 → complement_fails rs gs ≡ false
  unfolding complement_fails
  passes_both e h =
      let a = length_pairs rs in
      let b = length_pairs gs in
      let t : length (pairs rs) + 1 ≤ length (pairs gs) = omega arith in
      simp (e, le-ltb _ _ t)

  pub complement_refused : (te len : ℕ) → complement_fails rs gs ≡ true → Complemented te len rs rs gs gs (Err Lists)
  unfolding answer refuse
  complement_refused te len e = record { answer = simp e; ranges = simp e; slots = simp e }

  pub complement_done : (te len : ℕ) (rs' gs' : List ℕ) (r : Answer (Unit {0})) (m : FreeMap) → len ≤ top → is_odd rs ≡ false → length rs / 2 < length
      gs / 2 → Sorted rs rs' r → Swept te len (pairs rs') gs gs' m → Complemented te len rs rs' gs gs' (Ok m)
  unfolding answer refuse
  complement_done te len rs' gs' r m h o l s w =
      let f = passes_both o l in
      let p = sorted_pairs rs rs' r s o in
      let e : swept len te (pairs rs') ≡ gaps_of te len (pairs rs) = ap (swept len te) p ∙ swept_of te len (pairs rs) h in
      record {
        answer = simp f (λ i. accepted (record { count = (w.count ∙ ap length e) i; tail = (w.tail ∙ ap (tail_of te) p ∙ tail_sorted te (pairs rs)) i }));
        ranges = simp f (simp o at s.list);
        slots = simp f (w.slots ∙ ap (λ (q : List Range). written (flat q) gs) e);
      }
