-- The gaps that a record counts in a list, as the calls take them.
use Rattle.std.proofs.lemmas.List.{take-map}
use Rattle.std.proofs.Common.{◌≡◌, ℕ, ◌+◌, ◌-◌, ◌/◌, ◌<◌, ◌≤◌, true, false, List, length, take, ap, sym, ◌∙◌, arith, lt-ltb, le-ltb}
use Rattle.freemap.specs.Bytes.{free_of}
use Rattle.freemap.specs.Fit.{fit_refusal, fit_of, first_fit}
use Rattle.freemap.specs.Gaps.{gaps_in, too_few}
use Rattle.freemap.specs.declared.FreeMap.{FreeMap}
use Rattle.numbers.specs.Pairs.{pairs, ranges_in, chunk_range}
use Rattle.numbers.specs.Powers.{is_power_of_two}
use Rattle.numbers.specs.Range.{total}
use Rattle.numbers.specs.Refusals.{accepted, refused, answer, first, refuse}
use Rattle.numbers.specs.Sums.{stop}
use Rattle.align.proofs.Least.{power_pos}
use Rattle.numbers.proofs.Chunks.{chunk_pairs, length_ranges}
use Rattle.std.specs.Simd.{first_chunks}
use Rattle.std.specs.Prelude.{Option}

-- align by its mask
pub unmasked : (align : ℕ) → is_power_of_two align ≡ true → align - 1 + 1 ≡ align
unmasked align p = let h = power_pos 64 align p in omega arith

module _ (m : FreeMap) (gs : List ℕ) where
  -- the gaps that the record counts
  module _ (cs : List (List ℕ)) (e : cs ≡ first_chunks 2 (length gs / 2) gs) where
    many : length (pairs gs) ≡ length cs
    many = ap length (sym (ap ranges_in e ∙ chunk_pairs gs)) ∙ length_ranges cs

    pub counted_few : length cs < m.count → too_few m gs ≡ true
    unfolding too_few
    counted_few h = rw many (lt-ltb _ _ h)

    pub counted_in : m.count ≤ length cs → too_few m gs ≡ false
    unfolding too_few
    counted_in h = rw many (le-ltb _ _ h)

    pub part : ranges_in (take m.count cs) ≡ gaps_in m gs
    part = sym (take-map chunk_range m.count cs) ∙ ap (take m.count) (ap ranges_in e ∙ chunk_pairs gs)

  pub bytes_refused : too_few m gs ≡ true → refused 1 ≡ free_of m gs
  unfolding answer refuse
  bytes_refused e = simp e

  pub bytes_summed : too_few m gs ≡ false → (n : ℕ) → n ≡ stop (total (gaps_in m gs)) → accepted n ≡ free_of m gs
  unfolding answer refuse
  bytes_summed e n h = simp e (ap accepted h)

  module _ (len align skew : ℕ) where
    pub fit_few : too_few m gs ≡ true → refused 1 ≡ fit_of m gs len align skew
    unfolding answer fit_refusal first refuse
    fit_few e = simp e

    pub fit_no_power : too_few m gs ≡ false → is_power_of_two align ≡ false → refused 2 ≡ fit_of m gs len align skew
    unfolding answer fit_refusal first refuse
    fit_no_power e p = simp (e, p)

    pub fit_searched : too_few m gs ≡ false → is_power_of_two align ≡ true → (r : Option ℕ) → r ≡ first_fit len (align - 1 + 1) skew (gaps_in m gs) → accepted r ≡ fit_of m gs len align skew
    unfolding answer fit_refusal first refuse
    fit_searched e p r h =
        let q : r ≡ first_fit len align skew (gaps_in m gs) = rw (unmasked align p) at h in
        simp (e, p) (ap accepted q)
