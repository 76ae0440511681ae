-- The runs of a map written out, one after another.
use Prim.Native.Nat.{ℕ, suc, ◌+◌, ◌-◌, ◌*◌, ◌≤◌, ◌<◌}
use mathlib.Core.Bool.{true, false}
use mathlib.Core.List.{List, [], ◌∷◌, ◌++◌, map-append}
use mathlib.Core.Path.{◌≡◌, refl, ap, sym, ◌∙◌}
use native.Mathlib.Omega.{arith}
use lib.ListN.{length, get_or, take, drop, set, length-append, length-map, drop_of_length-le}
use lib.Seq.{drop-cons, append_snoc, get_or-take, length-take-le}
use Rattle.runs.specs.declared.Run.{Run}
use Rattle.runs.specs.Runs.{run}
use Rattle.numbers.specs.Refusals.{accepted, refused}
use Rattle.numbers.specs.Lists.{written}
use Rattle.numbers.specs.Pairs.{pairs, flat}
use Rattle.numbers.specs.Range.{range}
use Rattle.numbers.specs.Refusals.{accepted}
use Rattle.regionmap.specs.Map.{runs_to, placement_of, ranges_of, runs_fail, Written}
use Rattle.regionmap.specs.declared.RegionMap.{RegionMap}
use Rattle.numbers.proofs.Answers.{one_passes, one_fails}
use Rattle.numbers.proofs.Lists.{written_length}
use Rattle.numbers.proofs.Pairs.{pair_in, pair_written, length_flat}
use Rattle.regionmap.proofs.Lookup.{Enough}
use Rattle.regionmap.proofs.Means.{runs_count}

-- i runs are written; the next one starts at `start`, at the byte `file`
pub record Listing (m : RegionMap) (ss fs out₀ out : List ℕ) (start file i : ℕ) : Type 0 where
  pub enough : (m.count ≤ length ss) × (m.count ≤ length fs)
  pub room : m.count < length (pairs out₀)
  pub below : i ≤ m.count
  pub done : List Run
  pub count : length done ≡ i
  pub rest : (placement_of m ss fs).runs ≡ done ++ runs_to m.capacity start file (drop i (take m.count ss)) (drop i (take m.count fs))
  pub slots : out ≡ written (flat (ranges_of done)) out₀

pub list_begins : (m : RegionMap) (ss fs out : List ℕ) → (m.count ≤ length ss) × (m.count ≤ length fs) × (m.count < length (pairs out)) → Listing m ss fs out out 0 m.first 0
unfolding flat
list_begins m ss fs out p =
    record { enough = (p.0, p.1); room = p.2; below = omega arith; done = []; count = refl; rest = refl; slots = refl }

-- the number at i of the first n
next_of : (n i : ℕ) (l : List ℕ) → i < n → n ≤ length l → drop i (take n l) ≡ get_or l i 0 ∷ drop (i + 1) (take n l)
next_of n i l h e =
    let o : suc i ≡ i + 1 = omega arith in
    drop-cons (take n l) i 0 (rw (length-take-le n l e) h) ∙ rw (get_or-take n l i 0 h, o)

module _ {m : RegionMap} {ss fs out₀ out : List ℕ} {start file i : ℕ} (g : Listing m ss fs out₀ out start file i) where
  -- two slots for each run
  room_at : 2 * i + 1 < length out₀
  room_at = pair_in out₀ i (omega (arith, g.room, g.below))

  many : length (flat (ranges_of g.done)) ≡ 2 * i
  many = length_flat (ranges_of g.done) ∙ rw (length-map g.done (λ (r : Run). range r.file r.len), g.count)

  pub list_length : length out ≡ length out₀
  list_length = rw g.slots (written_length (flat (ranges_of g.done)) out₀ (rw many (let h = room_at in omega arith)))

  pub list_room : 2 * i + 1 < length out
  list_room = rw list_length room_at

  -- the run that is written next
  writes : (len : ℕ) → set (set out (2 * i) file) (2 * i + 1) len ≡ written (flat (ranges_of (g.done ++ (run start file len ∷ [])))) out₀
  writes len =
      rw (g.slots, map-append (λ (r : Run). range r.file r.len) g.done (run start file len ∷ []))
      (pair_written (ranges_of g.done) out₀ i file len (length-map g.done (λ (r : Run). range r.file r.len) ∙ g.count) room_at)

  pub list_on : i < m.count → Listing m ss fs out₀ (set (set out (2 * i) file) (2 * i + 1) (get_or ss i 0 - start)) (get_or ss i 0) (get_or fs i 0) (i + 1)
  unfolding runs_to
  list_on h =
      let r = run start file (get_or ss i 0 - start) in
      let e = g.enough in
      record {
        enough = g.enough;
        room = g.room;
        below = omega arith;
        done = g.done ++ (r ∷ []);
        count = length-append g.done (r ∷ []) ∙ omega (arith, g.count);
        rest =
            g.rest
            ∙ rw (next_of m.count i ss h e.0, next_of m.count i fs h e.1)
            (sym (append_snoc g.done r (runs_to m.capacity (get_or ss i 0) (get_or fs i 0) (drop (i + 1) (take m.count ss)) (drop (i + 1) (take m.count fs)))));
        slots = writes (get_or ss i 0 - start);
      }

  module _ (h : m.count ≤ i) where
    pub list_ends : set (set out (2 * m.count) file) (2 * m.count + 1) (m.capacity - start) ≡ written (flat (ranges_of (placement_of m ss fs).runs)) out₀
    unfolding runs_to
    list_ends =
        let n = drop_of_length-le (take m.count ss) {i = i} (rw (length-take-le m.count ss g.enough.0) h) in
        let e : (placement_of m ss fs).runs ≡ g.done ++ (run start file (m.capacity - start) ∷ []) = g.rest ∙ rw n in
        let k : m.count ≡ i = omega (arith, g.below) in
        rw k (writes (m.capacity - start)) ∙ ap (λ (l : List Run). written (flat (ranges_of l)) out₀) (sym e)

-- what `runs` answers
module _ (m : RegionMap) (ss fs out₀ : List ℕ) where
  pub list_refused : runs_fail m ss fs out₀ ≡ true → Written m ss fs out₀ out₀ (refused 1)
  list_refused e = record { answer = sym (one_fails 1 _ _ (omega arith) e); slots = simp e }

  pub list_written : runs_fail m ss fs out₀ ≡ false → Enough m ss fs → (out : List ℕ) → out ≡ written (flat (ranges_of (placement_of m ss fs).runs))
      out₀ → Written m ss fs out₀ out (accepted (m.count + 1))
  list_written f e out w =
      record { answer = ap accepted (sym (runs_count m ss fs e.starts e.files)) ∙ sym (one_passes 1 _ _ f); slots = simp f w }
