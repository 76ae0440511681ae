-- Extents joined to a map's runs, one extent after another.
use Prim.Native.Nat.{ℕ, suc, ◌+◌, ◌-◌, ◌≤◌, ◌<◌}
use mathlib.Core.List.{List, [], ◌∷◌, ◌++◌, map}
use mathlib.Core.Path.{◌≡◌, refl, ap, sym, subst, ◌∙◌}
use native.Mathlib.Omega.{arith}
use lib.ListN.{length, get_or, take, drop, set, length-append}
use lib.Seq.{take-suc, take_all}
use borrow.Author.Tests.{eq-eqb, ne_eqb}
use Rattle.runs.specs.declared.Run.{Run}
use Rattle.runs.specs.Runs.{run, blank_run, runs_of}
use Rattle.numbers.specs.Lists.{All, written}
use Rattle.numbers.specs.Range.{Range, range, blank, total}
use Rattle.numbers.specs.Refusals.{each_extent}
use Rattle.numbers.specs.Sums.{top, sum}
use Rattle.regionmap.specs.Inner.{Laid}
use Rattle.regionmap.specs.Map.{passes_top, with_first, file_end, longer, extended_runs}
use Rattle.runs.proofs.Joining.{fills, same_length}
use Rattle.numbers.proofs.Lists.{all_at}
use Rattle.numbers.proofs.Sums.{total_one, total_take}
use Rattle.regionmap.proofs.Bytes.{longer_length}
use Rattle.regionmap.proofs.Extents.{each_ends, each_whole, runs_skip, runs_none, none_total, runs_first, runs_next}

-- ---- the last run longer, and one run more

-- what does not look at the length stays
longer_same : (p : Run → ℕ) → ((r : Run) (n : ℕ) → p (run r.start r.file n) ≡ p r) → (n : ℕ) (rs : List Run) → map p (longer n rs) ≡ map p rs
unfolding longer
longer_same p e n [] = refl
longer_same p e n (r ∷ []) = ap (λ (q : ℕ). q ∷ []) (e r (r.len + n))
longer_same p e n (r ∷ q ∷ qs) = ap (λ (l : List ℕ). p r ∷ l) (longer_same p e n (q ∷ qs))

-- the runs with the last one longer, in two parts
record Longer (n : ℕ) (r : Run) (rs : List Run) : Type 0 where
  head : Run
  rest : List Run
  is : longer n (r ∷ rs) ≡ head ∷ rest
  from : head.file ≡ r.file
  starts : map (λ (q : Run). q.start) rest ≡ map (λ (q : Run). q.start) rs
  files : map (λ (q : Run). q.file) rest ≡ map (λ (q : Run). q.file) rs
  count : length rest ≡ length rs

longer_parts : (n : ℕ) (r : Run) (rs : List Run) → Longer n r rs
unfolding longer
longer_parts n r [] = record { head = run r.start r.file (r.len + n); rest = []; is = refl; from = refl; starts = refl; files = refl; count = refl }
longer_parts n r (q ∷ qs) =
    record {
      head = r;
      rest = longer n (q ∷ qs);
      is = refl;
      from = refl;
      starts = longer_same (λ (s : Run). s.start) (λ s k. refl) n (q ∷ qs);
      files = longer_same (λ (s : Run). s.file) (λ s k. refl) n (q ∷ qs);
      count = longer_length n (q ∷ qs);
    }

longer_end : (n : ℕ) (r : Run) (rs : List Run) → file_end (longer n (r ∷ rs)) ≡ file_end (r ∷ rs) + n
unfolding longer file_end
longer_end n r [] = omega arith
longer_end n r (q ∷ []) = omega arith
longer_end n r (q ∷ s ∷ qs) = longer_end n q (s ∷ qs)

more_end : (rs : List Run) (r : Run) → file_end (rs ++ (r ∷ [])) ≡ r.file + r.len
unfolding file_end
more_end [] r = refl
more_end (q ∷ []) r = refl
more_end (q ∷ s ∷ qs) r = more_end (s ∷ qs) r

-- an empty first run stands alone
with_some : (rs : List Run) → (rs ≡ [] → ⊥) → with_first rs ≡ rs
with_some [] d = absurd (d refl)
with_some (r ∷ rs) d = refl

with_rest : (rs : List Run) (r : Run) (qs : List Run) → with_first rs ≡ r ∷ qs → qs ≡ drop 1 rs
with_rest [] r qs e = sym (ap (drop 1) e)
with_rest (q ∷ rs) r qs e = sym (ap (drop 1) e)

with_length : (rs : List Run) (r : Run) (qs : List Run) → with_first rs ≡ r ∷ qs → length qs ≡ length rs - 1
with_length [] r qs e = let l = ap length e in omega arith
with_length (q ∷ rs) r qs e = let l = ap length e in omega arith

-- ---- the loop

-- the extents in front of i are joined: the first run begins at `from`, the last one ends at the position `at` and at the byte `end`
pub record Building (xs : List Range) (ss₀ ss fs₀ fs : List ℕ) (from count at end i : ℕ) : Type 0 where
  pub below : i ≤ length xs
  pub rooms : (length xs ≤ length ss₀) × (length xs ≤ length fs₀)
  pub inside : All (λ (x : Range). x.offset + x.len ≤ top) xs
  pub whole : total xs ≤ top
  pub sums : at ≡ total (take i xs)
  pub head : Run
  pub rest : List Run
  pub runs : with_first (runs_of (take i xs)) ≡ head ∷ rest
  pub begins : head.file ≡ from
  pub ends : file_end (head ∷ rest) ≡ end
  pub later : length rest ≡ count
  pub few : count ≤ i
  pub starts : ss ≡ written (map (λ (r : Run). r.start) rest) ss₀
  pub files : fs ≡ written (map (λ (r : Run). r.file) rest) fs₀

module _ (xs : List Range) (ss₀ fs₀ : List ℕ) where
  pub build_begins : (each_extent passes_top 0 xs ≡ 0) × (length xs ≤ length ss₀) × (length xs ≤ length fs₀) → Building xs ss₀ ss₀ fs₀ fs₀ 0 0 0 0 0
  unfolding sum file_end
  build_begins p =
      record {
        below = omega arith;
        rooms = (p.1, p.2);
        inside = each_ends xs p.0;
        whole = each_whole xs p.0;
        sums = refl;
        head = blank_run;
        rest = [];
        runs = ap with_first (runs_none [] refl);
        begins = refl;
        ends = refl;
        later = refl;
        few = omega arith;
        starts = refl;
        files = refl;
      }

module _ {xs : List Range} {ss₀ ss fs₀ fs : List ℕ} {from count at end i : ℕ} (g : Building xs ss₀ ss fs₀ fs from count at end i) where
  pub build_lengths : (length ss ≡ length ss₀) × (length fs ≡ length fs₀)
  build_lengths =
      let r = g.rooms in (
        same_length (λ (q : Run). q.start) g.rest ss₀ ss count g.later g.starts (omega (arith, r.0, g.few, g.below)),
        same_length (λ (q : Run). q.file) g.rest fs₀ fs count g.later g.files (omega (arith, r.1, g.few, g.below)),
      )

  module _ {o n : ℕ} (inner : i < length xs) (x_at : get_or xs i blank ≡ range o n) where
    abbrev x : Range
    x = range o n

    abbrev ys : List Range
    ys = take i xs

    next : take (i + 1) xs ≡ ys ++ (x ∷ [])
    next = let o : i + 1 ≡ suc i = omega arith in rw o (take-suc xs i blank inner ∙ rw x_at)

    -- no sum passes
    pub build_byte : x.offset + x.len ≤ top
    build_byte = let a = all_at (λ (y : Range). y.offset + y.len ≤ top) xs i blank g.inside inner in subst (λ (y : Range). y.offset + y.len ≤ top) x_at a

    pub build_sum : at + x.len ≤ top
    build_sum =
        let t = total_take (i + 1) xs in
        let e = ap total next ∙ total_one ys x in
        omega (arith, g.whole, g.sums, t, e)

    pub build_room : (count < length ss) × (count < length fs)
    build_room =
        let r = g.rooms in
        let e = build_lengths in
        (omega (arith, r.0, e.0, g.few), omega (arith, r.1, e.1, g.few))

    sums_on : at + x.len ≡ total (take (i + 1) xs)
    sums_on = let e = ap total next ∙ total_one ys x in omega (arith, g.sums, e)

    pub build_skips : x.len ≡ 0 → Building xs ss₀ ss fs₀ fs from count at end (i + 1)
    build_skips z =
        record {
          below = omega arith;
          rooms = g.rooms;
          inside = g.inside;
          whole = g.whole;
          sums = let s = sums_on in omega (arith, s, z);
          head = g.head;
          rest = g.rest;
          runs = ap with_first (ap runs_of next ∙ runs_skip ys x z) ∙ g.runs;
          begins = g.begins;
          ends = g.ends;
          later = g.later;
          few = omega (arith, g.few);
          starts = g.starts;
          files = g.files;
        }

    module _ (d : x.len ≡ 0 → ⊥) where
      long : 0 < x.len
      long = omega (arith, d)

      pub build_first : at ≡ 0 → Building xs ss₀ ss fs₀ fs x.offset count x.len (x.offset + x.len) (i + 1)
      unfolding file_end
      build_first z =
          let t : total ys ≡ 0 = sym g.sums ∙ z in
          let e : g.rest ≡ [] = with_rest (runs_of ys) g.head g.rest g.runs ∙ ap (drop 1) (runs_none ys t) in
          record {
            below = omega arith;
            rooms = g.rooms;
            inside = g.inside;
            whole = g.whole;
            sums = let s = sums_on in omega (arith, s, z);
            head = run 0 x.offset x.len;
            rest = [];
            runs = ap with_first (ap runs_of next ∙ runs_first ys x long t);
            begins = refl;
            ends = refl;
            later = sym (ap length e) ∙ g.later;
            few = omega (arith, g.few);
            starts = g.starts ∙ ap (λ (q : List Run). written (map (λ (r : Run). r.start) q) ss₀) e;
            files = g.files ∙ ap (λ (q : List Run). written (map (λ (r : Run). r.file) q) fs₀) e;
          }

      module _ (z : at ≡ 0 → ⊥) where
        some : runs_of ys ≡ [] → ⊥
        some e = z (g.sums ∙ none_total ys e)

        runs_are : runs_of ys ≡ g.head ∷ g.rest
        runs_are = sym (with_some (runs_of ys) some) ∙ g.runs

        extends : runs_of (take (i + 1) xs) ≡ extended_runs (g.head ∷ g.rest) at x.offset x.len
        extends =
            ap runs_of next
            ∙ runs_next ys x long (omega (arith, g.sums, z)) (omega (arith, g.sums, build_sum)) (omega (arith, build_byte))
            ∙ rw (runs_are, ← g.sums)

        pub build_joins : x.offset ≡ end → Building xs ss₀ ss fs₀ fs from count (at + x.len) (end + x.len) (i + 1)
        unfolding extended_runs
        build_joins j =
            let w = longer_parts x.len g.head g.rest in
            let e : runs_of (take (i + 1) xs) ≡ w.head ∷ w.rest = extends ∙ simp (eq-eqb _ _ (g.ends ∙ sym j)) w.is in
            record {
              below = omega arith;
              rooms = g.rooms;
              inside = g.inside;
              whole = g.whole;
              sums = sums_on;
              head = w.head;
              rest = w.rest;
              runs = ap with_first e;
              begins = w.from ∙ g.begins;
              ends = ap file_end (sym w.is) ∙ longer_end x.len g.head g.rest ∙ rw g.ends;
              later = w.count ∙ g.later;
              few = omega (arith, g.few);
              starts = g.starts ∙ ap (λ (q : List ℕ). written q ss₀) (sym w.starts);
              files = g.files ∙ ap (λ (q : List ℕ). written q fs₀) (sym w.files);
            }

        pub build_adds : (x.offset ≡ end → ⊥) → Building xs ss₀ (set ss count at) fs₀ (set fs count x.offset) from (count + 1) (at + x.len) (x.offset + x.len) (i + 1)
        unfolding extended_runs
        build_adds j =
            let r = run at x.offset x.len in
            let m = g.rooms in
            let ne : file_end (g.head ∷ g.rest) ≡ x.offset → ⊥ = λ q. j (sym q ∙ g.ends) in
            let e : runs_of (take (i + 1) xs) ≡ g.head ∷ (g.rest ++ (r ∷ [])) = extends ∙ simp (ne_eqb _ _ ne) in
            record {
              below = omega arith;
              rooms = g.rooms;
              inside = g.inside;
              whole = g.whole;
              sums = sums_on;
              head = g.head;
              rest = g.rest ++ (r ∷ []);
              runs = ap with_first e;
              begins = g.begins;
              ends = more_end (g.head ∷ g.rest) r;
              later = length-append g.rest (r ∷ []) ∙ omega (arith, g.later);
              few = omega (arith, g.few);
              starts = fills (λ (q : Run). q.start) g.rest ss₀ ss count g.later g.starts r (omega (arith, m.0, g.few));
              files = fills (λ (q : Run). q.file) g.rest fs₀ fs count g.later g.files r (omega (arith, m.1, g.few));
            }

  pub build_ends : length xs ≤ i → Laid xs ss₀ ss fs₀ fs from count
  build_ends l =
      let t = take_all i xs l in
      let e : with_first (runs_of xs) ≡ g.head ∷ g.rest = ap (λ (q : List Range). with_first (runs_of q)) (sym t) ∙ g.runs in
      let w = with_rest (runs_of xs) g.head g.rest e in
      record {
        from = sym (rw e g.begins);
        later = sym g.later ∙ with_length (runs_of xs) g.head g.rest e;
        starts = g.starts ∙ ap (λ (q : List Run). written (map (λ (r : Run). r.start) q) ss₀) w;
        files = g.files ∙ ap (λ (q : List Run). written (map (λ (r : Run). r.file) q) fs₀) w;
      }
