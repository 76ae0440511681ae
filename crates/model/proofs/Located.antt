-- What locate answers, by the region's extents alone.
use Prim.Native.Nat.{ℕ, suc, ◌+◌, ◌≤◌, ◌<◌}
use mathlib.Core.Bool.{true}
use mathlib.Core.List.{List}
use Rattle.std.specs.Prelude.{Some}
use mathlib.Core.Path.{◌≡◌, ap, sym, ◌∙◌}
use native.Mathlib.Omega.{arith}
use borrow.Author.Tests.{lt-ltb, le-ltb}
use Rattle.model.specs.Calls.{locate, known, region_in, run_at, refusal_to, byte_for, answer_to}
use Rattle.model.specs.Region.{Region, id_of}
use Rattle.model.specs.World.{World}
use Rattle.numbers.specs.Keyed.{HasKey}
use Rattle.numbers.specs.Range.{Range, Within, total}
use Rattle.numbers.specs.Refusals.{accepted, refused, refuse, first}
use Rattle.numbers.specs.Sums.{top}
use Rattle.regionmap.specs.Map.{run_of}
use Rattle.runs.specs.declared.Run.{Run}
use Rattle.runs.specs.Runs.{runs_of, byte_of, run_byte}
use Rattle.model.proofs.Figures.{capacity_most}
use Rattle.model.proofs.Regions.{known_true, all_region}
use Rattle.model.proofs.Sound.{Regular, Sound}
use Rattle.numbers.proofs.Answers.{answer_number, answer_value, not_both}
use Rattle.numbers.proofs.Cases.{by_lt}
use Rattle.numbers.proofs.Lists.{all_imp}
use Rattle.regionmap.proofs.ByExtents.{neighbours, no_neighbours, reaches}
use Rattle.regionmap.proofs.Bytes.{run_only}
use Rattle.regionmap.proofs.Extents.{runs_laid}
use Rattle.runs.proofs.Bytes.{Ends}
use Rattle.runs.proofs.Positions.{in_one_run}

-- the run of a position gives the byte of the extents laid end to end
module _ (xs : List Range) (whole : total xs ≤ top) (p : ℕ) (inside : p < total xs) where
  pub run-byte : run_byte (run_of (runs_of xs) p) p ≡ byte_of xs p
  run-byte =
      let o = in_one_run xs p (omega arith) in
      ap (λ (r : Run). run_byte r p) (sym (run_only (runs_of xs) (total xs) p o.place (runs_laid xs whole) o.inside o.holds)) ∙ o.byte

-- Two neighbouring positions of a range have bytes that are no neighbours.
pub record Jump (xs : List Range) (p n : ℕ) : Type 0 where
  pub at : ℕ
  pub from : p ≤ at
  pub upto : suc at < p + n
  pub apart : byte_of xs (suc at) ≡ suc (byte_of xs at) → ⊥

-- ---- a region's extents

module _ (w : World) (s : Sound w) (id : ℕ) (k : HasKey id_of id w.regions) where
  pub region_regular : Regular w.limits (region_in w id)
  region_regular = all_region (Regular w.limits) id w.regions k s.regular

  -- none passes the end of the container
  pub region_ends : Ends (region_in w id).extents
  region_ends =
      let q = region_regular in
      all_imp (Within (region_in w id).span-start (region_in w id).span-end) (λ (x : Range). x.offset + x.len ≤ top)
      (λ x i. omega (arith, i.upto, q.file, s.container.file)) (region_in w id).extents q.inside.1.1

-- ---- the answer

module _ (w : World) (s : Sound w) (id : ℕ) (k : known w id ≡ true) (p n : ℕ) where
  h : HasKey id_of id w.regions
  h = known_true w id k

  abbrev r : Region
  r = region_in w id

  abbrev xs : List Range
  xs = r.extents

  whole : total xs ≤ top
  whole = capacity_most w s id h

  size : r.published ≤ total xs
  size = (region_regular w s id h).size

  -- 23 where the range passes the published length
  pub past_data : r.published < p + n → answer_to w (locate id p n) ≡ refused 23
  unfolding refusal_to first refuse
  past_data l = let e : refusal_to w (locate id p n) ≡ 23 = simp (k, lt-ltb _ _ l) in rw e (answer_number 23 _ (λ z. omega arith))

  module _ (l : p + n ≤ r.published) where
    abbrev reach : ℕ
    reach = (run_at r p).start + (run_at r p).len

    past_run : reach < p + n → answer_to w (locate id p n) ≡ refused 24
    unfolding refusal_to first refuse
    past_run m = let e : refusal_to w (locate id p n) ≡ 24 = simp (k, le-ltb _ _ l, lt-ltb _ _ m) in rw e (answer_number 24 _ (λ z. omega arith))

    in_run : p + n ≤ reach → answer_to w (locate id p n) ≡ accepted (Some (run_byte (run_at r p) p))
    unfolding refusal_to first refuse byte_for
    in_run m = let e : refusal_to w (locate id p n) ≡ 0 = simp (k, le-ltb _ _ l, le-ltb _ _ m) in answer_value _ _ e

    -- 24 exactly where neighbours of the range have bytes that are no neighbours, else the byte of its first position
    pub jump_refused : Jump xs p n → answer_to w (locate id p n) ≡ refused 24
    jump_refused j =
        by_lt reach (p + n) past_run
        (λ m.
        let a = j.from in
        let b = j.upto in
        absurd (j.apart (neighbours xs (region_ends w s id h) whole p (omega (arith, size)) j.at a (omega arith) (omega (arith, size)))))

    pub refused_jump : answer_to w (locate id p n) ≡ refused 24 → Jump xs p n
    refused_jump e =
        by_lt reach (p + n)
        (λ m.
        by_lt p (total xs)
        (λ i.
        let j = no_neighbours xs (region_ends w s id h) whole p i n (omega (arith, size)) m in
        record { at = j.0; from = j.1; upto = j.2; apart = j.3 })
        (λ i. let u = reaches xs (region_ends w s id h) whole p (omega (arith, size)) in absurd (omega (arith, size))))
        (λ m. absurd (not_both _ 24 (sym (in_run m) ∙ e)))

    pub answered : (Jump xs p n → ⊥) → answer_to w (locate id p n) ≡ accepted (Some (run_byte (run_at r p) p))
    answered d = by_lt reach (p + n) (λ m. absurd (d (refused_jump (past_run m)))) in_run

    pub located_at : p < total xs → (Jump xs p n → ⊥) → answer_to w (locate id p n) ≡ accepted (Some (byte_of xs p))
    located_at i d = answered d ∙ ap (λ (b : ℕ). accepted (Some b)) (run-byte xs whole p i)

-- "`locate` of length 0 at the data's end is answered", and so is every other of length 0
pub none_answered : (w : World) → Sound w → (id : ℕ) → known w id ≡ true → (p : ℕ) → p ≤ (region_in w id).published
    → answer_to w (locate id p 0) ≡ accepted (Some (run_byte (run_at (region_in w id) p) p))
none_answered w s id k p l = answered w s id k p 0 (omega arith) (λ j. omega (arith, j.from, j.upto))
