-- The map of a list of extents: its runs in the record and the lists.
use Rattle.numbers.proofs.Refusals.{reason_above}
use Rattle.numbers.specs.declared.refusal.Refusal.{Refusal}
use Rattle.std.specs.Prelude.{Ok, Err}
use Prim.Native.Nat.{ℕ, ◌+◌, ◌-◌, ◌≤◌, ◌<◌}
use mathlib.Core.Bool.{true, false}
use mathlib.Core.List.{List, [], ◌∷◌, map}
use mathlib.Core.Path.{◌≡◌, refl, ap, sym, subst, ◌∙◌}
use native.Mathlib.Omega.{arith}
use lib.ListN.{length, get_or, take, drop, length-append, length-map, length-drop}
use lib.Seq.{take_at}
use borrow.Author.Tests.{ne_eqb, le-ltb, lt-ltb}
use Rattle.runs.specs.declared.Run.{Run}
use Rattle.runs.specs.Runs.{blank_run, runs_of}
use Rattle.numbers.specs.Lists.{All, written}
use Rattle.numbers.specs.Pairs.{pairs}
use Rattle.numbers.specs.Range.{total}
use Rattle.numbers.specs.Refusals.{first, refuse, each_extent, refusal_number}
use Rattle.numbers.specs.Sums.{top}
use Rattle.regionmap.specs.Inner.{Laid}
use Rattle.regionmap.specs.Map.{runs_to, placement_of, EndToEnd, Sound, limit, extents_fail, passes_top, from_refusal, with_first, placed, Made}
use Rattle.regionmap.specs.declared.RegionMap.{RegionMap}
use Rattle.runs.proofs.Bytes.{runs_inside}
use Rattle.regionmap.proofs.Extents.{each_ends, each_whole, runs_laid, runs_few}
use Rattle.regionmap.proofs.Means.{means_runs}
use Rattle.regionmap.proofs.Records.{refuses, accepts}

-- the refusal, test by test
module _ (xs : List ℕ) (len : ℕ) (ss fs : List ℕ) where
  pub from_lists : extents_fail xs ss fs ≡ true → 1 ≡ from_refusal xs len ss fs
  unfolding from_refusal first refuse
  from_lists a = simp a

  module _ (a : extents_fail xs ss fs ≡ false) where
    pub from_each : (k : ℕ) → k ≡ each_extent passes_top 0 (pairs xs) → (k ≡ 0 → ⊥) → k ≡ from_refusal xs len ss fs
    unfolding from_refusal first refuse
    from_each k e d = rw (← e) (simp (a, ne_eqb _ _ d))

    module _ (b : each_extent passes_top 0 (pairs xs) ≡ 0) where
      pub from_past : total (pairs xs) < len → 23 ≡ from_refusal xs len ss fs
      unfolding from_refusal first refuse
      from_past c = simp (a, b, lt-ltb _ _ c)

      pub from_none : len ≤ total (pairs xs) → from_refusal xs len ss fs ≡ 0
      unfolding from_refusal first refuse
      from_none c = simp (a, b, le-ltb _ _ c)

-- ---- the runs of extents, as a record and its lists have them

means_first : (rs : List Run) (cap : ℕ) → EndToEnd 0 rs cap → runs_to cap 0 (get_or (with_first rs) 0 blank_run).file
    (map (λ (r : Run). r.start) (drop 1 rs)) (map (λ (r : Run). r.file) (drop 1 rs)) ≡ with_first rs
unfolding runs_to
means_first [] cap e = let d : cap - 0 ≡ 0 = omega (arith, e) in rw d
means_first (r ∷ rs) cap e =
    subst (λ (s : ℕ). runs_to cap s r.file (map (λ (q : Run). q.start) rs) (map (λ (q : Run). q.file) rs) ≡ r ∷ rs) e.0
    (means_runs r rs cap (refl, rw e.0 e.1))

laid_first : (rs : List Run) (cap : ℕ) → EndToEnd 0 rs cap → EndToEnd 0 (with_first rs) cap
laid_first [] cap e = (refl, e)
laid_first (r ∷ rs) cap e = e

inside_first : (rs : List Run) → All (λ (r : Run). r.file + r.len ≤ top) rs → All (λ (r : Run). r.file + r.len ≤ top) (with_first rs)
inside_first [] a = (omega arith, tt)
inside_first (r ∷ rs) a = a

count_first : (rs : List Run) → length (with_first rs) ≤ length rs - 1 + 1
count_first [] = omega arith
count_first (r ∷ rs) = omega arith

-- a list with one number for each run after the first in front
module _ (rs : List Run) (p : Run → ℕ) where
  later_length : length (map p (drop 1 rs)) ≡ length rs - 1
  later_length = length-map (drop 1 rs) p ∙ length-drop 1 rs

  front : (s₀ s : List ℕ) (n : ℕ) → n ≡ length rs - 1 → s ≡ written (map p (drop 1 rs)) s₀ → (take n s ≡ map p (drop 1 rs)) × (n ≤ length s)
  front s₀ s n e w =
      let ws = map p (drop 1 rs) in
      (ap (take n) w ∙ take_at ws (drop (length ws) s₀) n (later_length ∙ sym e), rw w (rw (length-append ws (drop (length ws) s₀), later_length) (omega arith)))

module _ (xs : List ℕ) (len : ℕ) (ss₀ fs₀ : List ℕ) where
  pub made_refused : (r : Refusal) → refusal_number r ≡ from_refusal xs len ss₀ fs₀ → Made xs len ss₀ ss₀ fs₀ fs₀ (Err r)
  made_refused r e =
      let d : refusal_number r ≡ 0 → ⊥ = λ z. let p = reason_above r in absurd (omega arith) in
      record {
        answer = refuses r _ (placed (pairs xs) len) ss₀ fs₀ e;
        starts = rw (← e) (simp (ne_eqb _ _ d));
        files = rw (← e) (simp (ne_eqb _ _ d));
        valid = tt;
      }

  module _ (a : extents_fail xs ss₀ fs₀ ≡ false) (b : each_extent passes_top 0 (pairs xs) ≡ 0) (c : len ≤ total (pairs xs)) (few : length (pairs xs) ≤ limit) where
    sound_placed : Sound (placed (pairs xs) len)
    sound_placed =
        record {
          laid = laid_first (runs_of (pairs xs)) (total (pairs xs)) (runs_laid (pairs xs) (each_whole (pairs xs) b));
          inside = inside_first (runs_of (pairs xs)) (runs_inside (pairs xs) (each_ends (pairs xs) b));
          whole = each_whole (pairs xs) b;
          fits = c;
          counted = count_first (runs_of (pairs xs));
          limited = let h = runs_few (pairs xs) in omega arith;
        }

    module _ {ss fs : List ℕ} {from count bytes : ℕ} (s : bytes ≡ total (pairs xs)) (l : Laid (pairs xs) ss₀ ss fs₀ fs from count) where
      starts_front : (take count ss ≡ map (λ (r : Run). r.start) (drop 1 (runs_of (pairs xs)))) × (count ≤ length ss)
      starts_front = front (runs_of (pairs xs)) (λ (r : Run). r.start) ss₀ ss count l.later l.starts

      files_front : (take count fs ≡ map (λ (r : Run). r.file) (drop 1 (runs_of (pairs xs)))) × (count ≤ length fs)
      files_front = front (runs_of (pairs xs)) (λ (r : Run). r.file) fs₀ fs count l.later l.files

      abbrev made_map : RegionMap
      made_map = record { first = from; len = len; capacity = bytes; count = count; room = count }

      made_runs : runs_to bytes 0 from (take count ss) (take count fs) ≡ with_first (runs_of (pairs xs))
      made_runs = rw (starts_front.0, files_front.0, s, l.from) (means_first (runs_of (pairs xs)) (total (pairs xs)) (runs_laid (pairs xs) (each_whole (pairs xs) b)))

      made_means : placement_of made_map ss fs ≡ placed (pairs xs) len
      made_means = λ i. record { runs = made_runs i; capacity = s i; len = len; room = l.later i }

      pub made : Made xs len ss₀ ss fs₀ fs (Ok made_map)
      made =
          let z = from_none xs len ss₀ fs₀ a b c in
          record {
            answer = accepts _ _ (placed (pairs xs) len) z made_means;
            starts = rw z l.starts;
            files = rw z l.files;
            valid = record { starts = starts_front.1; files = files_front.1; sound = subst Sound (sym made_means) sound_placed };
          }
