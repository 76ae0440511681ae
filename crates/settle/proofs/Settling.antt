-- The call: what it means that 1 does not apply, and that the marks written are those that are promised.
use Prim.Native.Nat.{ℕ, zero, suc, ◌+◌, ◌-◌, ◌*◌, ◌≤◌, ◌<◌}
use mathlib.Core.Bool.{Bool, true, false}
use mathlib.Core.List.{List, [], ◌∷◌}
use mathlib.Core.Path.{◌≡◌, refl, ap, sym, ◌∙◌}
use native.Mathlib.Nat.{not-suc-le-zero}
use native.Mathlib.Omega.{arith}
use lib.ListN.{length, get_or, take, replicate, length-replicate, get_or-append}
use lib.Seq.{ext_get_or, get_or_at, length-take-le}
use borrow.Author.Tests.{ltb-false, le-ltb}
use Rattle.numbers.specs.Lists.{written}
use Rattle.numbers.specs.Pairs.{is_odd}
use Rattle.numbers.specs.Refusals.{refused, accepted as accepted_of}
use Rattle.numbers.specs.Sums.{stop, sum}
use Rattle.settle.specs.Inner.{Enough, Accepted, Roomy, Struck, firsts}
use Rattle.settle.specs.Naming.{outdone}
use Rattle.settle.specs.Regions.{Lent, lent, regions, regions_of}
use Rattle.settle.specs.Settle.{mark_of, marks_of, range_count, settle_fails, Settled}
use Rattle.numbers.proofs.Answers.{one_passes, one_fails}
use Rattle.numbers.proofs.Cases.{by_lt, clash, or-false}
use Rattle.settle.proofs.Marking.{firsts_length, marks_length, mark_at}
use Rattle.settle.proofs.Namesakes.{renamed_is}
use Rattle.settle.proofs.Reading.{length_of}
use Rattle.settle.proofs.Refusing.{passed, short, own_short, short_passes, own_short_passes}

pub accepted : (us un : Lent) (marks scratch : ℕ) → settle_fails us un marks scratch ≡ false → Accepted us un marks scratch
unfolding settle_fails
accepted us un marks scratch e =
    let a = or-false _ _ e in
    let b = or-false _ _ a.0 in
    let c = or-false _ _ b.0 in
    let d = or-false _ _ c.0 in
    record {
      ours = (passed false us d.0).0;
      theirs = (passed true un d.1).0;
      names = short us d.0;
      own_names = own_short un d.1;
      few = ltb-false 65536 (range_count us + range_count un) c.1;
      room = ltb-false marks us.count b.1;
      space = ltb-false scratch (16 * (range_count us + range_count un)) a.1;
    }

-- and the other way round
pub accepts : (us un : Lent) (marks scratch : ℕ) → Accepted us un marks scratch → settle_fails us un marks scratch ≡ false
unfolding settle_fails
accepts us un marks scratch a =
    simp (
      short_passes us a.ours a.names,
      own_short_passes un a.theirs a.own_names,
      le-ltb _ _ a.few,
      le-ltb _ _ a.room,
      le-ltb _ _ a.space,
    )

-- lists of no records
pub none_enough : (seqs counts ranges lens names : List ℕ) → is_odd ranges ≡ false → Enough (lent 0 seqs counts ranges lens names)
unfolding sum
none_enough seqs counts ranges lens names e =
    record { few = omega arith; seqs = omega arith; counts = omega arith; lens = omega arith; names = omega arith; even = e; ranges = omega arith }

pub none_regions : (seqs counts ranges lens names : List ℕ) → regions_of (lent 0 seqs counts ranges lens names) ≡ []
unfolding regions
none_regions seqs counts ranges lens names = refl

-- the arrays counted by records are long enough
pub array_room : {A : Type 0} (z : A) (g : Lent) → Enough g → g.count ≤ length (replicate 1024 z)
array_room z g e = let r = length-replicate 1024 z in omega (arith, e.few)

-- ---- the counts, as the code takes them

module _ {us un : Lent} {marks scratch : ℕ} (g : Accepted us un marks scratch) (a b : ℕ) (d : a ≡ stop (range_count us)) (e : b ≡ stop (range_count un)) where
  pub count_few : a + b ≤ 65536
  count_few = omega (arith, g.few)

  pub count_space : 4 * (a + b) ≤ scratch
  count_space = omega (arith, g.few, g.space)

  -- the part of scratch that is lent on
  pub roomy : (s : List ℕ) → length s ≡ scratch → Roomy us un (length (take (4 * (a + b) - 0) s))
  roomy s l =
      record {
        few = g.few;
        space = length-take-le (4 * (a + b) - 0) s (omega (arith, count_space)) ∙ omega (arith, g.few);
      }

-- ---- the marks

firsts_at : (f : ℕ → ℕ) (n i : ℕ) → i < n → get_or (firsts f n) i 0 ≡ f i
unfolding firsts
firsts_at f zero i h = absurd (not-suc-le-zero h)
firsts_at f (suc n) i h =
    let l = firsts_length f n in
    by_lt i n (λ k. get_or-append (firsts f n) (f n ∷ []) 0 i (omega arith) ∙ firsts_at f n i k)
    (λ k. let e : n ≡ i = omega arith in get_or_at (firsts f n) (f n) [] 0 i (l ∙ e) ∙ ap f e)

module _ (us un : Lent) {marks scratch : ℕ} (g : Accepted us un marks scratch) (over under : List Bool) (s : Struck us un over under) where
  abbrev pub found : ℕ → ℕ
  found i = mark_of (get_or over i false) (outdone us un i) (get_or under i false)

  marks_found : firsts found us.count ≡ marks_of (regions_of us) (regions_of un)
  marks_found =
      let l = length_of us in
      let f = firsts_length found us.count in
      let m = marks_length (regions_of us) (regions_of un) in
      ext_get_or 0 (firsts found us.count) (marks_of (regions_of us) (regions_of un)) (omega arith) (λ i h. at i (omega arith))
    where
      at : (i : ℕ) → i < us.count → get_or (firsts found us.count) i 0 ≡ get_or (marks_of (regions_of us) (regions_of un)) i 0
      at i h =
          let l = length_of us in
          firsts_at found us.count i h
          ∙ rw (s.overlap i h, s.supersede i h, renamed_is us un g.ours g.theirs g.names g.own_names i h) refl
          ∙ sym (mark_at (regions_of us) (regions_of un) i (omega arith))

-- ---- the promise

module _ (us un : Lent) (m₀ s₀ : List ℕ) where
  pub settled_refused : settle_fails us un (length m₀) (length s₀) ≡ true → Settled us un m₀ m₀ s₀ s₀ (refused 1)
  settled_refused e = record { refusal = sym (one_fails 1 _ tt (omega arith) e); slots = simp e; kept = λ f. refl }

  module _ (g : Accepted us un (length m₀) (length s₀)) (over under : List Bool) (t : Struck us un over under) where
    pub settled_marked : (m s : List ℕ) → m ≡ written (firsts (found us un g over under t) us.count) m₀ → Settled us un m₀ m s₀ s (accepted_of tt)
    settled_marked m s w =
        let e = accepts us un (length m₀) (length s₀) g in
        record {
          refusal = sym (one_passes 1 _ tt e);
          slots = simp e (w ∙ ap (λ (l : List ℕ). written l m₀) (marks_found us un g over under t));
          kept = λ f. clash f e;
        }
