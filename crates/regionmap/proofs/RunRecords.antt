-- The lookup among run records: which run is read, and what is answered of it.
use Prim.Native.Nat.{ℕ, zero, suc, ◌+◌, ◌-◌, ◌≤◌, ◌<◌}
use mathlib.Core.Bool.{Bool, true, false, ◌||◌, cond}
use mathlib.Core.List.{List, [], ◌∷◌, map}
use mathlib.Core.Logic.{inl, inr, ⊎_elim}
use mathlib.Core.Path.{◌≡◌, refl, ap, sym, subst, ◌∙◌}
use native.Mathlib.Omega.{arith}
use lib.Dec.{ltb, leb}
use lib.ListN.{length, get_or}
use Rattle.std.specs.Prelude.{Result, Ok, Err}
use borrow.Author.Tests.{leb-true, ltb-true, ltb-false, lt-ltb, le-ltb}
use Rattle.runs.specs.declared.Run.{Run}
use Rattle.runs.specs.Runs.{blank_run, run_byte, byte_of}
use Rattle.numbers.specs.Lists.{Any}
use Rattle.numbers.specs.Refusals.{first, refuse, accepted, answer, told}
use Rattle.numbers.specs.Search.{Found}
use Rattle.numbers.specs.Range.{Range, end_of}
use Rattle.numbers.specs.Sums.{top, stop}
use Rattle.numbers.specs.declared.refusal.Refusal.{Refusal}
use Rattle.numbers.specs.declared.refusal.Refusal.TheVariants.{Lists, Past, Crosses}
use Rattle.regionmap.specs.RunRecords.{data_end, in_file, among_refusal, among, ByStart, RunFor, AnsweredAmong}
use Rattle.regionmap.specs.Map.{Placement, EndToEnd, Sound, Lays, limit, too_few, last_at, run_of, locate_refusal, locate_of}
use Rattle.numbers.proofs.Cases.{cases, both_ways, by_eq, or-false}
use Rattle.std.proofs.lemmas.List.{get_or-map}
use Rattle.numbers.proofs.Answers.{accepted_is}
use Rattle.numbers.proofs.Lists.{any_of, any_at, all_at}
use Rattle.numbers.proofs.Refusals.{first_all, refuse_none}
use Rattle.regionmap.proofs.Bytes.{last_none, run_at}
use Rattle.regionmap.proofs.ByExtents.{locate_one}
use Rattle.regionmap.proofs.Order.{laid_rising, laid_last}

-- ---- which run is read

-- the last run at or below a position is one of them
last_next : (p : ℕ) (r q : Run) (qs : List Run) (b : Bool) → leb q.start p ≡ b → last_at p r (q ∷ qs) ≡ last_at p (cond b q r) qs
unfolding last_at
last_next p r q qs b e = rw e refl

last_listed : (p : ℕ) (r : Run) (rs : List Run) → Any (λ (q : Run). last_at p r rs ≡ q) (r ∷ rs)
last_listed p r [] = inl (last_none p r [] (λ j h. absurd (omega arith)))
last_listed p r (q ∷ qs) =
    let P : Run → Type 0 = λ x. Any (λ (s : Run). x ≡ s) (r ∷ q ∷ qs) in
    cases (leb q.start p) (λ e. subst P (sym (last_next p r q qs true e)) (inr (last_listed p q qs)))
    (λ e. subst P (sym (last_next p r q qs false e)) (⊎_elim inl (λ a. inr (inr a)) (last_listed p r qs)))

last_from : (p : ℕ) (r : Run) (rs : List Run) → r.start ≤ p → (last_at p r rs).start ≤ p
unfolding last_at
last_from p r [] h = h
last_from p r (q ∷ qs) h = cases (leb q.start p) (λ e. simp e (last_from p q qs (leb-true _ _ e))) (λ e. simp e (last_from p r qs h))

module _ (rs : List Run) (p : ℕ) where
  pub last_read : RunFor rs p (run_of rs p)
  last_read = record { listed = last_listed p blank_run rs; from = last_from p blank_run rs (omega arith); right = λ o. refl }

pub empty_read : (rs : List Run) (p : ℕ) → length rs ≡ 0 → RunFor rs p blank_run
unfolding last_at
empty_read [] p e = last_read [] p
empty_read (r ∷ rs) p e = absurd (omega arith)

-- the search among those behind the first finds it, where it starts at or below the position
module _ (r : Run) (qs : List Run) (p k : ℕ) (g : Found (map (λ (q : Run). q.start) qs) (length qs) p k) where
  abbrev at : ℕ → Run
  at j = get_or (r ∷ qs) j blank_run

  start_at : (j : ℕ) → j < length qs → get_or (map (λ (q : Run). q.start) qs) j 0 ≡ (at (suc j)).start
  start_at j h = get_or-map (λ (q : Run). q.start) qs j blank_run 0 h

  rest_by_start : ByStart (r ∷ qs) → ByStart qs
  rest_by_start o i j l h = o (suc i) (suc j) (omega arith) (omega arith)

  -- those behind it start above the position
  behind : ByStart (r ∷ qs) → (j : ℕ) → k < j → j < length (r ∷ qs) → p < (at j).start
  behind o zero l h = absurd (omega arith)
  behind o (suc j) l h = let a = g.above (rest_by_start o) j (omega arith) (omega arith) in omega (arith, a, start_at j (omega arith))

  pub found_read : (at k).start ≤ p → RunFor (r ∷ qs) p (at k)
  found_read s =
      let h : k < length (r ∷ qs) = omega (arith, g.inside) in
      record {
        listed = inr (any_of (λ (q : Run). at k ≡ q) (r ∷ qs) k blank_run h refl);
        from = s;
        right = λ o. sym (run_at (r ∷ qs) p k h s (behind o));
      }

  -- and only the first may start above it
  first_alone : p < (at k).start → k ≡ 0
  first_alone s = by_eq k 0 (λ e. e) (λ d. let b = g.below (omega (arith, d)) in let e : suc (k - 1) ≡ k = omega (arith, d) in absurd
      (omega (arith, b, s, start_at (k - 1) (omega (arith, d, g.inside)), ap (λ (j : ℕ). (at j).start) e)))

  pub none_read : p < (at k).start → RunFor (r ∷ qs) p blank_run
  none_read s =
      let z = first_alone s in
      let t = ap (λ (j : ℕ). (at j).start) z in
      record {
        listed = inl refl;
        from = omega arith;
        right = λ o. sym (last_none p blank_run (r ∷ qs) (λ j h. by_eq j 0 (λ e. omega (arith, s, t, ap (λ (i : ℕ). (at i).start) e)) (λ d. behind o j (omega (arith, z, d)) h)));
      }

-- a u64 passes the sum of two where it passes the sum that stops
pub stop_passed : (s a b len : ℕ) → len ≤ top → s ≡ stop (a + b) → ltb s len ≡ ltb (a + b) len
stop_passed s a b len h e =
    both_ways _ _ (λ t. let l : s < len = ltb-true _ _ t in lt-ltb _ _ (omega (arith, l, h, e)))
    (λ t. let l : a + b < len = ltb-true _ _ t in lt-ltb _ _ (omega (arith, l, h, e)))

-- ---- the answer, test by test

-- how far a range reaches, from the position's run on
into_run : (s f p n : ℕ) → s ≤ p → ltb (s + f) (p + n) ≡ ltb f (p + n - s)
into_run s f p n h =
    both_ways _ _ (λ a. let b : s + f < p + n = ltb-true _ _ a in lt-ltb _ _ (omega (arith, h, b)))
    (λ a. let b : f < p + n - s = ltb-true _ _ a in lt-ltb _ _ (omega (arith, h, b)))

module _ (rs : List Run) (len p n : ℕ) where
  pub among_many : ltb (limit + 1) (length rs) ≡ true → AnsweredAmong rs len p n (Err Lists)
  unfolding among_refusal first refuse answer
  among_many a = record { run = run_of rs p; read = last_read rs p; answer = simp a }

  module _ (a : ltb (limit + 1) (length rs) ≡ false) where
    pub among_past : (ltb (data_end rs) len || ltb len (p + n)) ≡ true → AnsweredAmong rs len p n (Err Past)
    unfolding among_refusal first refuse answer
    among_past b = record { run = run_of rs p; read = last_read rs p; answer = simp (a, b) }

    module _ (b : (ltb (data_end rs) len || ltb len (p + n)) ≡ false) (r : Run) (f : RunFor rs p r) where
      abbrev across : Bool
      across = ltb (in_file r) (p + n - r.start)

      pub among_across : across ≡ true → AnsweredAmong rs len p n (Err Crosses)
      unfolding among_refusal first refuse answer
      among_across c = record { run = r; read = f; answer = simp (a, b, into_run r.start (in_file r) p n f.from, c) }

      pub among_at : across ≡ false → AnsweredAmong rs len p n (Ok (r.file + (p - r.start)))
      unfolding among_refusal first refuse answer
      among_at c = record { run = r; read = f; answer = simp (a, b, into_run r.start (in_file r) p n f.from, c) }

      -- the byte is no more than 2^64 - 1
      pub among_fits : across ≡ false → r.file ≤ top → r.file + (p - r.start) ≤ top
      unfolding end_of
      among_fits c h = let d : p + n - r.start ≤ in_file r = ltb-false _ _ c in omega (arith, h, d, f.from)

-- in whatever order, a byte that is told is that of a run which holds the whole range, below the data's end
pub told_inside : (rs : List Run) (len p n : ℕ) (c : Result ℕ Refusal) (a : AnsweredAmong rs len p n c) (b : ℕ) → told c ≡ accepted b →
    (b ≡ run_byte a.run p) × (p + n ≤ a.run.start + in_file a.run) × (p + n ≤ len)
unfolding among_refusal
told_inside rs len p n c a b e =
    let t = accepted_is _ _ _ (sym a.answer ∙ e) in
    let z = first_all _ t.0 in
    let past = or-false _ _ (refuse_none 23 _ (omega arith) z.1.0) in
    (sym t.1, ltb-false _ _ (refuse_none 24 _ (omega arith) z.1.1.0), ltb-false _ _ past.1)

-- ---- of a map's runs the answer is the map's

all_end : (rs : List Run) (cap : ℕ) → EndToEnd 0 rs cap → data_end rs ≡ cap
unfolding data_end
all_end [] cap l = l
all_end (r ∷ rs) cap l = laid_last (r ∷ rs) 0 cap (length (r ∷ rs) - 1) l (omega arith)

module _ (m : Placement) (s : Sound m) where
  by_start : ByStart m.runs
  by_start i j h k =
      let r = laid_rising m.runs 0 m.capacity i j s.laid h k in
      let a = get_or-map (λ (r : Run). r.start) m.runs i blank_run 0 (omega (arith, h, k)) in
      let b = get_or-map (λ (r : Run). r.start) m.runs j blank_run 0 k in
      omega (arith, r, a, b)

  -- each of its runs is in the file
  whole_in_file : (r : Run) → Any (λ (q : Run). r ≡ q) (blank_run ∷ m.runs) → in_file r ≡ r.len
  unfolding end_of
  whole_in_file r (inl e) = rw e refl
  whole_in_file r (inr a) =
      let k = any_at (λ (q : Run). r ≡ q) m.runs blank_run a in
      let i = all_at (λ (q : Run). q.file + q.len ≤ top) m.runs k.0 blank_run s.inside k.1 in
      let e : r.file + r.len ≤ top = rw k.2 i in
      omega (arith, e)

  module _ (p n : ℕ) (ss fs : List ℕ) (t : too_few m.room ss fs ≡ false) where
    among_same : among m.runs (run_of m.runs p) m.len p n ≡ locate_of m p n ss fs
    unfolding among_refusal locate_refusal first refuse
    among_same =
        simp (
          t,
          le-ltb (limit + 1) (length m.runs) (omega (arith, s.counted, s.limited)),
          all_end m.runs m.capacity s.laid,
          le-ltb m.capacity m.len s.fits,
          whole_in_file (run_of m.runs p) (last_read m.runs p).listed,
        )

    pub among_map : (c : Result ℕ Refusal) → AnsweredAmong m.runs m.len p n c → told c ≡ locate_of m p n ss fs
    among_map c a = a.answer ∙ ap (λ (r : Run). among m.runs r m.len p n) (a.read.right by_start) ∙ among_same

    -- and a position's byte is that of the map's extents laid end to end
    pub among_one : (xs : List Range) → Lays m xs → n ≡ 1 → p < m.len → (c : Result ℕ Refusal) → AnsweredAmong m.runs m.len p n c → told c ≡ accepted (byte_of xs p)
    among_one xs l e h c a = among_map c a ∙ rw e (locate_one m xs l s p ss fs t h)
