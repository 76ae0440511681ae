-- What the calls answer on a map that lays extents, by the extents alone.
use Prim.Native.Nat.{ℕ, suc, ◌+◌, ◌-◌, ◌≤◌, ◌<◌}
use mathlib.Core.Bool.{false, and-false}
use mathlib.Core.List.{List, [], ◌∷◌}
use mathlib.Core.Logic.{⊎_elim}
use mathlib.Core.Path.{◌≡◌, ap, sym, ◌∙◌}
use native.Mathlib.Omega.{arith}
use lib.Dec.{ltb}
use lib.ListN.{length, get_or}
use borrow.Author.Tests.{le-ltb, ne_eqb, le-leb, lt-leb}
use Rattle.runs.specs.declared.Run.{Run}
use Rattle.runs.specs.Runs.{blank_run, runs_of, run_byte, byte_of, Holds}
use Rattle.numbers.specs.Range.{Range, total}
use Rattle.numbers.specs.Refusals.{refuse, first, Answer, accepted, answer}
use Rattle.numbers.specs.Sums.{top}
use Rattle.regionmap.specs.Map.{Placement, EndToEnd, Sound, last_at, Lays, too_few, passes_top, extend_refusal, run_of, locate_refusal, locate_of}
use Rattle.runs.proofs.Bytes.{Ends, runs_some, runs_no_touch}
use Rattle.runs.proofs.Positions.{InOneRun, in_one_run}
use Rattle.numbers.proofs.Answers.{answer_value}
use Rattle.numbers.proofs.Cases.{by_lt}
use Rattle.numbers.proofs.Refusals.{none_first, pass_none}
use Rattle.regionmap.proofs.Bytes.{run_laid, byte_laid, run_holds, run_only}
use Rattle.regionmap.proofs.Extents.{runs_few, runs_laid}
use Rattle.regionmap.proofs.Order.{laid_next, laid_last}

module _ (m : Placement) (xs : List Range) (l : Lays m xs) where
  -- one run more than extents, where the map began with none of them
  pub runs_most : length m.runs ≤ length xs + 1
  runs_most = let f = runs_few xs in ⊎_elim (λ e. omega (arith, ap length e, f)) (λ e. omega (arith, ap length e, f)) l.runs

  -- so that the room is never short for fewer extents than it has places
  pub extend_goes : (f n : ℕ) (ss fs : List ℕ) → too_few m.room ss fs ≡ false → 0 < n → f + n ≤ top → m.capacity + n ≤ top → length xs < m.room → extend_refusal m f n ss fs ≡ 0
  unfolding extend_refusal passes_top
  extend_goes f n ss fs t h e c r =
      none_first _ (
        pass_none 1 _ t,
        (
          pass_none 11 _ (simp (ne_eqb n 0 (λ z. omega arith), le-ltb top (f + n) e)),
          (
            pass_none 12 _ (le-ltb _ _ c),
            (pass_none 19 _ (simp (le-ltb m.room (length m.runs) (omega (arith, runs_most, r)), and-false)), tt),
          ),
        ),
      )

  -- ---- locate

  -- its refusals but 1, and its byte, by the run of the extents
  abbrev pub located : ℕ → ℕ → Answer ℕ
  located p n =
      answer (first (refuse 23 (ltb m.len (p + n)) ∷ refuse 24 (ltb ((run_of (runs_of xs) p).start + (run_of (runs_of xs) p).len) (p + n)) ∷ []))
      (run_byte (run_of (runs_of xs) p) p)

  pub locate_by_extents : (p n : ℕ) (ss fs : List ℕ) → too_few m.room ss fs ≡ false → locate_of m p n ss fs ≡ located p n
  unfolding locate_refusal first refuse
  locate_by_extents p n ss fs t = rw (run_laid m xs p l) (simp t)

  module _ (s : Sound m) where
    holds : (p : ℕ) → p < m.len → Holds (run_of m.runs p) p
    holds p h = run_holds m.runs m.capacity p s.laid (omega (arith, s.fits, h))

    -- a position below the length is located, at the byte of the extents laid end to end
    pub locate_one : (p : ℕ) (ss fs : List ℕ) → too_few m.room ss fs ≡ false → p < m.len → locate_of m p 1 ss fs ≡ accepted (byte_of xs p)
    unfolding locate_refusal
    locate_one p ss fs t h =
        let k = holds p h in
        answer_value _ _ (none_first _ (
          pass_none 1 _ t,
          (
            pass_none 23 _ (le-ltb m.len (p + 1) (omega arith)),
            (pass_none 24 _ (le-ltb ((run_of m.runs p).start + (run_of m.runs p).len) (p + 1) (omega (arith, k.upto))), tt),
          ),
        ))
        ∙ ap accepted (byte_laid m xs p l s.whole (omega (arith, s.fits, h)))

-- ---- 24 by bytes: "The range crosses a run's end" where two neighbouring positions have bytes that are no neighbours

-- the run of a position reaches up to it, at the end of everything too
last_reaches : (p : ℕ) (r : Run) (rs : List Run) (a cap : ℕ) → EndToEnd a rs cap → p ≤ cap → (p ≤ a → p ≤ r.start + r.len) → p ≤ (last_at p r rs).start + (last_at p r rs).len
unfolding last_at
last_reaches p r [] a cap l h k = k (omega arith)
last_reaches p r (q ∷ qs) a cap l h k =
    by_lt p q.start
    (λ b. simp (lt-leb q.start p b) (last_reaches p r qs (a + q.len) cap l.1 h (λ c. k (omega (arith, l.0)))))
    (λ b. simp (le-leb q.start p b) (last_reaches p q qs (a + q.len) cap l.1 h (λ c. omega (arith, l.0))))

module _ (xs : List Range) (ends : Ends xs) (whole : total xs ≤ top) where
  abbrev rs : List Run
  rs = runs_of xs

  laid : EndToEnd 0 rs (total xs)
  laid = runs_laid xs whole

  -- the run that holds a position gives its byte
  byte_run : (i q : ℕ) → i < length rs → q < total xs → Holds (get_or rs i blank_run) q → byte_of xs q ≡ run_byte (get_or rs i blank_run) q
  byte_run i q h k g =
      let o = in_one_run xs q (omega arith) in
      sym o.byte ∙ ap (λ (j : ℕ). run_byte (get_or rs j blank_run) q) (sym (o.only i h g))

  module _ (p : ℕ) (inside : p < total xs) where
    o : InOneRun xs p
    o = in_one_run xs p (omega arith)

    abbrev r : Run
    r = get_or rs o.place blank_run

    is : run_of rs p ≡ r
    is = sym (run_only rs (total xs) p o.place laid o.inside o.holds)

    -- inside a run the bytes of neighbours are neighbours
    pub neighbours : (q : ℕ) → p ≤ q → suc q < (run_of rs p).start + (run_of rs p).len → suc q < total xs → byte_of xs (suc q) ≡ suc (byte_of xs q)
    neighbours q l u t =
        let e = ap (λ (r : Run). r.start + r.len) is in
        let g = o.holds in
        byte_run o.place (suc q) o.inside t (record { from = omega (arith, g.from, l); upto = omega (arith, e, u) })
        ∙ (let n : run_byte r (suc q) ≡ suc (run_byte r q) = omega (arith, g.from, l) in n)
        ∙ ap suc (sym (byte_run o.place q o.inside (omega arith) (record { from = omega (arith, g.from, l); upto = omega (arith, e, u) })))

    -- and at its end, where it is not the last, they are not
    pub no_neighbours : (n : ℕ) → p + n ≤ total xs → (run_of rs p).start + (run_of rs p).len < p + n → (q : ℕ) × (p ≤ q) × (suc q < p + n) × (byte_of xs (suc q) ≡ suc (byte_of xs q) → ⊥)
    no_neighbours n t u =
        let e = ap (λ (r : Run). r.start + r.len) is in
        let g = o.holds in
        let k = o.place in
        let more : suc k < length rs =
        by_lt (suc k) (length rs) (λ h. h) (λ h. let z = laid_last rs 0 (total xs) k laid (omega (arith, o.inside, h)) in absurd (omega (arith, e, u, z))) in
        let q = r.start + r.len - 1 in
        let s = laid_next rs 0 (total xs) k laid more in
        let c : suc q ≡ (get_or rs (suc k) blank_run).start = omega (arith, g.upto, s) in
        let w = runs_some xs (suc k) more in
        let here = byte_run k q o.inside (omega (arith, e, u)) (record { from = omega (arith, g.from, g.upto); upto = omega (arith, g.upto) }) in
        let next = byte_run (suc k) (suc q) more (omega (arith, e, u, g.upto)) (record { from = omega (arith, c); upto = omega (arith, c, w) }) in
        (q, omega (arith, g.upto), omega (arith, e, u, g.upto), λ f. runs_no_touch xs ends whole k more (omega (arith, f, here, next, c, g.from, g.upto)))

  -- a range without a byte crosses no end
  pub reaches : (p : ℕ) → p ≤ total xs → p ≤ (run_of rs p).start + (run_of rs p).len
  reaches p h = last_reaches p blank_run rs 0 (total xs) laid h (λ z. omega arith)
