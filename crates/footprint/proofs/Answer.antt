-- What the check answers, from the tests that it makes and the scratch that it fills.
use Rattle.std.specs.Prelude.{Option, Some, None, Ok, Err}
use Prim.Native.Nat.{ℕ, suc, ◌+◌, ◌-◌, ◌*◌, ◌≤◌, ◌<◌}
use mathlib.Core.Bool.{Bool, true, false}
use mathlib.Core.List.{List, [], ◌∷◌, ◌++◌}
use mathlib.Core.Logic.{⊎_elim}
use mathlib.Core.Path.{◌≡◌, ap, sym, ◌∙◌}
use native.Mathlib.Omega.{arith}
use lib.ListN.{length, take, drop, get_or, drop_of_length-le}
use lib.Pow.{pow_pos}
use lib.Seq.{drop-cons, length-take-le, take_at}
use borrow.Author.Tests.{ne_eqb}
use Rattle.footprint.specs.Footprint.{outside, answer_of, Checked, committed, ranges, footprint_of, overlaps, entry_tests, header_tests, extent_tests, overlap_tests, refusal_of, Filled}
use Rattle.footprint.specs.Inner.{before_last, neighbours_meet, LaidOut}
use Rattle.footprint.specs.declared.Entry.{Entry}
use Rattle.footprint.specs.declared.Header.{Header}
use Rattle.footprint.specs.declared.Limits.{Limits}
use Rattle.numbers.specs.Lists.{All, written}
use Rattle.numbers.specs.Pairs.{pairs, flat}
use Rattle.numbers.specs.Range.{Range, range, blank}
use Rattle.numbers.specs.Refusals.{first, refuse, accepted, refused, refusal_number}
use Rattle.numbers.specs.declared.refusal.Refusal.{Refusal}
use Rattle.numbers.specs.declared.refusal.Refusal.TheVariants.{Overlaps}
use Rattle.footprint.specs.declared.Extent.{Extent}
use Rattle.numbers.specs.Sums.{top}
use Rattle.footprint.proofs.Overlap.{Solid, neighbours_decide, overlaps_sorted}
use Rattle.footprint.proofs.Passed.{Passed, Inside, all_pass}
use Rattle.numbers.proofs.Answers.{answer_value, answer_number, not_both}
use Rattle.numbers.proofs.Cases.{by_eq}
use Rattle.numbers.proofs.Lists.{all_both}
use Rattle.numbers.proofs.Pairs.{length_flat, pair_at, pair_in}
use Rattle.numbers.proofs.Refusals.{reason_above, first_one, first_go, first_stop, first_parts, first_low, refuse_none, refuse_low, each_low}
use Rattle.sort.proofs.Laws.{all_sorted, sorted_ascending, sorted_length}

module _ (lim : Limits) (id : ℕ) (e : Entry) (h : Header) (xs : List ℕ) (places : ℕ) where
  abbrev before : List ℕ
  before = entry_tests lim e h xs places ++ header_tests id e h ++ extent_tests lim e (committed e xs)

  -- a refusal before the last is the refusal, and is not 13
  pub early : (before_last lim id e h xs places ≡ 0 → ⊥) → refusal_of lim id e h xs places ≡ before_last lim id e h xs places
  unfolding refusal_of before_last
  early d = first_stop before _ d

  pub late : before_last lim id e h xs places ≡ 0 → refusal_of lim id e h xs places ≡ refuse 13 (overlaps (ranges lim e xs))
  unfolding refusal_of before_last
  late z = first_go before (overlap_tests (ranges lim e xs)) z ∙ first_one (refuse 13 (overlaps (ranges lim e xs)))

  pub not_last : before_last lim id e h xs places < 13
  unfolding before_last
  not_last =
      first_low 13 before (omega arith) (
        refuse_low 13 1 _ (omega arith),
        (
          refuse_low 13 2 _ (omega arith),
          (
            refuse_low 13 4 _ (omega arith),
            (
              refuse_low 13 5 _ (omega arith),
              (
                refuse_low 13 6 _ (omega arith),
                (
                  refuse_low 13 7 _ (omega arith),
                  (
                    refuse_low 13 8 _ (omega arith),
                    (
                      refuse_low 13 9 _ (omega arith),
                      (
                        refuse_low 13 10 _ (omega arith),
                        (each_low (outside lim e) 0 (committed e xs), (refuse_low 13 12 _ (omega arith), tt)),
                      ),
                    ),
                  ),
                ),
              ),
            ),
          ),
        ),
      )

  pub refusal_most : refusal_of lim id e h xs places ≤ 13
  refusal_most =
      by_eq (before_last lim id e h xs places) 0
      (λ z. let k = refuse_low 14 13 (overlaps (ranges lim e xs)) (omega arith) in omega (arith, late z))
      (λ d. omega (arith, early d, not_last))

  -- of an accepted region no test failed
  pub none_failed : refusal_of lim id e h xs places ≡ 0 → (first before ≡ 0) × (first (overlap_tests (ranges lim e xs)) ≡ 0)
  unfolding refusal_of
  none_failed z = first_parts before (overlap_tests (ranges lim e xs)) z

  pub accepted_passed : refusal_of lim id e h xs places ≡ 0 → Passed lim e h xs places
  unfolding before_last
  accepted_passed z = all_pass lim id e h xs places (none_failed z).0

  pub accepted_apart : refusal_of lim id e h xs places ≡ 0 → overlaps (ranges lim e xs) ≡ false
  accepted_apart z = refuse_none 13 (overlaps (ranges lim e xs)) (omega arith) (sym (first_one _) ∙ (none_failed z).1)

module _ {lim : Limits} {e : Entry} {h : Header} {xs : List ℕ} {places : ℕ} (p : Passed lim e h xs places) where
  -- what is laid out has bytes, and ends below 2^64
  solid : e.span_end ≤ top → All Solid (ranges lim e xs)
  solid t =
      let a = p.entry.a in
      let b = p.entry.b in
      let k = pow_pos lim.log2_block in (
        record { some = k; ends = omega (arith, a.upto) },
        (record { some = k; ends = omega (arith, b.upto) }, committed_solid),
      )
    where
      committed_solid : All Solid (committed e xs)
      committed_solid = all_both (Inside lim e) (λ (x : Range). 0 < x.len) Solid (λ x i s. record { some = s; ends = i.ends }) (committed e xs) p.inside p.entry.some

  -- the neighbours in the sorted footprint decide whether it overlaps itself
  pub decided : e.span_end ≤ top → neighbours_meet (footprint_of lim e xs) ≡ overlaps (ranges lim e xs)
  decided t =
      neighbours_decide (footprint_of lim e xs) (sorted_ascending (ranges lim e xs)) (all_sorted Solid (ranges lim e xs) (solid t))
      ∙ overlaps_sorted (ranges lim e xs)

  pub all_listed : e.extent_count ≤ length (pairs xs)
  all_listed = ⊎_elim (λ c. omega (arith, c, p.lists.listed)) (λ c. omega (arith, c, p.lists.listed)) p.count

  pub footprint_length : length (flat (footprint_of lim e xs)) ≡ 2 * (e.extent_count + 2)
  footprint_length =
      let a = length_flat (footprint_of lim e xs) in
      let b = sorted_length (ranges lim e xs) in
      let c = length-take-le e.extent_count (pairs xs) all_listed in
      omega arith

  -- the header lists no more than the entry, or one more
  pub no_extra : h.extent_count ≤ e.extent_count → drop e.extent_count (pairs xs) ≡ []
  no_extra l = drop_of_length-le (pairs xs) {i = e.extent_count} (omega (arith, p.lists.listed))

  pub extra_in : e.extent_count < h.extent_count → 2 * e.extent_count + 1 < length xs
  extra_in l = pair_in xs e.extent_count (omega (arith, p.lists.listed))

  pub one_extra : e.extent_count < h.extent_count → drop e.extent_count (pairs xs) ≡ range (get_or xs (2 * e.extent_count) 0) (get_or xs (2 * e.extent_count + 1) 0) ∷ []
  one_extra l =
      let n = e.extent_count in
      let c : h.extent_count ≡ n + 1 = ⊎_elim (λ z. absurd (omega arith)) (λ z. z) p.count in
      let i = p.lists.listed in
      drop-cons (pairs xs) n blank (omega arith) ∙ rw (pair_at xs n (extra_in l), drop_of_length-le (pairs xs) {i = suc n} (omega arith))

-- ---- the four answers

module _ (lim : Limits) (id : ℕ) (e : Entry) (h : Header) (xs s : List ℕ) where
  pub refused_early : (r : Refusal) → refusal_number r ≡ before_last lim id e h xs (length s) → Filled lim id e h xs s s (answer_of (Err r))
  refused_early r' b =
      let r = refusal_number r' in
      let d : r ≡ 0 → ⊥ = λ z. let k = reason_above r' in absurd (omega arith) in
      let n : refusal_of lim id e h xs (length s) ≡ r = early lim id e h xs (length s) (λ z. d (b ∙ z)) ∙ sym b in
      let l = not_last lim id e h xs (length s) in
      let f : r ≡ 13 → ⊥ = λ z. absurd (omega arith) in
      record { answer = sym (rw n (answer_number r _ d)); slots = simp (n, ne_eqb _ _ d, ne_eqb _ _ f) }

  module _ (b : before_last lim id e h xs (length s) ≡ 0) (t : e.span_end ≤ top) {m : Bool} {ys : List ℕ} (o : LaidOut lim e xs ys m) where
    pub passed : Passed lim e h xs (length s)
    passed = all_pass lim id e h xs (length s) b

    number : refusal_of lim id e h xs (length s) ≡ refuse 13 m
    number = late lim id e h xs (length s) b ∙ ap (refuse 13) (sym (o.answer ∙ decided passed t))

    kept : ys ++ drop (2 * e.extent_count + 4 - 0) s ≡ written (flat (footprint_of lim e xs)) s
    kept =
        let l = footprint_length passed in
        let k : 2 * e.extent_count + 4 - 0 ≡ length (flat (footprint_of lim e xs)) = omega arith in
        rw (o.slots, k)

    pub refused_last : m ≡ true → Filled lim id e h xs s (ys ++ drop (2 * e.extent_count + 4 - 0) s) (answer_of (Err Overlaps))
    unfolding refuse
    refused_last w =
        let n : refusal_of lim id e h xs (length s) ≡ 13 = number ∙ ap (refuse 13) w in
        record { answer = sym (rw n (answer_number 13 _ (λ z. omega arith))); slots = kept ∙ simp n }

    module _ (w : m ≡ false) where
      none : refusal_of lim id e h xs (length s) ≡ 0
      unfolding refuse
      none = number ∙ ap (refuse 13) w

      pub usable : h.extent_count ≤ e.extent_count → Filled lim id e h xs s (ys ++ drop (2 * e.extent_count + 4 - 0) s) (answer_of (Ok None))
      usable l = record { answer = sym (answer_value _ _ none ∙ ap accepted (no_extra passed l)); slots = kept ∙ simp none }

      pub ahead : e.extent_count < h.extent_count → Filled lim id e h xs s (ys ++ drop (2 * e.extent_count + 4 - 0) s)
          (answer_of (Ok (Some (record { offset = get_or xs (2 * e.extent_count) 0; len = get_or xs (2 * e.extent_count + 1) 0 }))))
      ahead l = record { answer = sym (answer_value _ _ none ∙ ap accepted (one_extra passed l)); slots = kept ∙ simp none }

-- ---- the part that is handed back

not_refused : (x : Option Extent) (n : ℕ) → answer_of (Ok x) ≡ refused n → ⊥
not_refused None n e = not_both _ n e
not_refused (Some x) n e = not_both _ n e

module _ (lim : Limits) (id : ℕ) (e : Entry) (h : Header) (xs s : List ℕ) (x : Option Extent) {t : List ℕ} (f : Filled lim id e h xs s t (answer_of (Ok x))) where
  no_refusal : refusal_of lim id e h xs (length s) ≡ 0
  no_refusal = by_eq (refusal_of lim id e h xs (length s)) 0 (λ z. z) (λ d. absurd (not_refused x _ (f.answer ∙ answer_number _ _ d)))

  pub room : 2 * e.extent_count + 4 ≤ length s
  room = let p = (accepted_passed lim id e h xs (length s) no_refusal).lists.room in omega arith

  pub part : Checked lim id e h xs s (take (2 * e.extent_count + 4 - 0) t) (answer_of (Ok x))
  part =
      let l = footprint_length (accepted_passed lim id e h xs (length s) no_refusal) in
      record {
        answer = f.answer;
        filled = rw (f.slots, no_refusal) (take_at (flat (footprint_of lim e xs)) (drop (length (flat (footprint_of lim e xs))) s) (2 * e.extent_count + 4 - 0) (omega arith));
      }
