-- The search for room: among all gaps, where too few bytes are free, and in two parts.
use Rattle.std.proofs.Common.{◌≡◌, ℕ, ◌+◌, ◌-◌, ◌<◌, ◌≤◌, true, false, List, length, take, drop, refl, sym, subst, ap, ◌∙◌, Ok, Err, Result, arith, le-ltb, ltb-true, Option, None, Some, ◌*◌, ◌%◌, ◌++◌, pow_pos, length-take-le, length-drop, take_all, drop_at}
use Rattle.freemap.specs.Fit.{first_fit, fit_of}
use Rattle.freemap.specs.Gaps.{complement_fails, Complemented, gaps_of}
use Rattle.freemap.specs.declared.FreeMap.{FreeMap}
use Rattle.numbers.specs.Pairs.{pairs}
use Rattle.numbers.specs.Powers.{is_power_of_two}
use Rattle.numbers.specs.Range.{Range}
use Rattle.numbers.specs.Refusals.{accepted, told, refusal_number}
use Rattle.numbers.specs.Sums.{top}
use Rattle.numbers.specs.declared.refusal.Refusal.{Refusal}
use Rattle.plan_record.specs.Inner.{Asked, Sought, crowded}
use Rattle.sort.specs.Part.{PartedAt}
use Rattle.freemap.proofs.Parts.{Parted, parted, gaps_parted, bounds, below, above, front_found, front_none, no_room}
use Rattle.freemap.proofs.Words.{gaps_read, read_fit}
use Rattle.numbers.proofs.Answers.{not_both, one_passes, same_value}
use Rattle.numbers.proofs.Disjoint.{disjoint_left, disjoint_right}
use Rattle.numbers.proofs.Lists.{all_left, all_right}
use Rattle.numbers.proofs.Pairs.{length_pairs, pairs_take, pairs_drop, even_list}
use Rattle.numbers.proofs.Powers.{power_true}

power_some : (b : ℕ) → is_power_of_two b ≡ true → 0 < b
power_some b e = let p = power_true 64 b e in let q = pow_pos p.log in omega (arith, p.is)

-- A list whose gaps have room in one of w numbers.
abbrev pub Fine : ℕ → List ℕ → Type 0
Fine w s = (length s % 2 ≡ 0) × (length s + 2 ≤ w)

-- ---- the two parts of a list as the code lends them: the first n numbers are 2 * k

module _ (s : List ℕ) (k n : ℕ) (n-is : n ≡ 2 * k) (inside : k ≤ length (pairs s)) where
  pub room : 2 * k ≤ length s
  room = omega (arith, length_pairs s)

  pub front_pairs : pairs (take n s) ≡ take k (pairs s)
  front_pairs = rw n-is (pairs_take k s)

  pub rest_pairs : pairs (take (length s - 2 * k) (drop (2 * k) s)) ≡ drop k (pairs s)
  rest_pairs = let d = length-drop (2 * k) s in ap pairs (take_all (length s - 2 * k) (drop (2 * k) s) (omega arith)) ∙ pairs_drop k s

  -- a call has left ys of the front
  pub left_pairs : (ys : List ℕ) → length ys ≡ length (take n s) → pairs (take (length (ys ++ drop n s) - 2 * k) (drop (2 * k) (ys ++ drop n s))) ≡ drop k (pairs s)
  left_pairs ys long =
      let h = room in
      let l = length-take-le n s (omega arith) in
      let e = drop_at ys (drop n s) (2 * k) (omega arith) in
      let d = length-drop (2 * k) (ys ++ drop n s) in
      ap pairs (take_all (length (ys ++ drop n s) - 2 * k) (drop (2 * k) (ys ++ drop n s)) (omega arith) ∙ e) ∙ rw n-is (pairs_drop k s)

module _ (lo hi n block : ℕ) where
  -- ---- among all gaps

  module _ (s rs gs₀ gs : List ℕ) (g : Fine (length gs₀) s) where
    fine : complement_fails s gs₀ ≡ false
    unfolding complement_fails
    fine =
        let e = g.0 in
        let a = length_pairs s in
        let b = length_pairs gs₀ in
        simp (even_list s e, le-ltb (length (pairs gs₀)) (length (pairs s) + 1) (omega (arith, g.1)))

    -- `complement` is not refused
    pub all_taken : (r : Result FreeMap Refusal) (m : Refusal) (f : Result (Option ℕ) Refusal) → Complemented lo hi s rs gs₀ gs r → r ≡ Err m → Sought lo hi n block (pairs s) f
    all_taken r m f d e =
        let c = subst (λ (r : Result FreeMap Refusal). Complemented lo hi s rs gs₀ gs r) e d in
        absurd (not_both _ (refusal_number m) (sym (one_passes 1 _ _ fine) ∙ sym c.answer))

    pub all_told : (r : Result FreeMap Refusal) (m : FreeMap) (f : Result (Option ℕ) Refusal) → Complemented lo hi s rs gs₀ gs r → r ≡ Ok m
        → told f ≡ fit_of m gs n block 0 → Sought lo hi n block (pairs s) f
    all_told r m f d e w =
        let c = subst (λ (r : Result FreeMap Refusal). Complemented lo hi s rs gs₀ gs r) e d in
        record { told = λ a. w ∙ read_fit (gaps_read lo hi s rs gs₀ gs m c) n block 0 a.power }

-- ---- where too few bytes are free

none_told : (lo hi n block : ℕ) (l : List Range) → crowded lo hi n l ≡ true → Sought lo hi n block l (Ok None)
unfolding crowded
none_told lo hi n block l e =
    record {
      told = λ a.
          let h = ltb-true _ _ e in
          ap accepted (sym (no_room n block lo hi l a.bytes (power_some block a.power) (omega (arith, a.sums)) a.inside a.apart (omega arith)));
    }

-- ---- in two parts

module _ (lo hi n block : ℕ) (l : List Range) where
  -- what a search among all may take as given, one of either part may
  module _ (m : List Range) (mid k : ℕ) (c : PartedAt l m mid k) (a : Asked lo hi n block l) where
    apart : Parted lo mid hi (take k m) (drop k m)
    apart = parted lo mid hi k l m c a.inside a.some a.apart

    sums : hi + (block - 1) ≤ top
    sums = omega (arith, a.sums)

    front_asked : Asked lo mid n block (take k m)
    front_asked =
        let g = apart in
        let h = (bounds n block lo mid hi a.bytes (power_some block a.power) sums _ _ g).1 in
        record {
          bytes = a.bytes;
          power = a.power;
          sums = omega (arith, a.sums);
          inside = below n block lo mid hi a.bytes (power_some block a.power) sums _ _ g;
          some = all_left (λ (r : Range). 0 < r.len) (take k m) (drop k m) g.some;
          apart = disjoint_left (take k m) (drop k m) g.apart;
        }

    back_asked : Asked mid hi n block (drop k m)
    back_asked =
        let g = apart in
        record {
          bytes = a.bytes;
          power = a.power;
          sums = a.sums;
          inside = above n block lo mid hi a.bytes (power_some block a.power) sums _ _ g;
          some = all_right (λ (r : Range). 0 < r.len) (take k m) (drop k m) g.some;
          apart = disjoint_right (take k m) (drop k m) g.apart;
        }

  module _ (s : List ℕ) (mid k : ℕ) (c : PartedAt l (pairs s) mid k) where
    abbrev m : List Range
    m = pairs s

    -- as the code has it
    abbrev j : ℕ
    j = 2 * k - 0

    j-is : j ≡ 2 * k
    j-is = omega arith

    -- a search has answered r of the front
    module _ (r : Result (Option ℕ) Refusal) (f : Sought lo mid n block (pairs (take j s)) r) where
      front : Asked lo hi n block l → told r ≡ accepted (first_fit n block 0 (gaps_of lo mid (take k m)))
      front a =
          let g = subst (λ (rs : List Range). Sought lo mid n block rs r) (front_pairs s k j j-is c.inside) f in
          g.told (front_asked m mid k c a)

      pub found_told : (at : ℕ) → r ≡ Ok (Some at) → Sought lo hi n block l (Ok (Some at))
      found_told at e =
          record {
            told = λ a.
                let q = same_value _ _ (ap told (sym e) ∙ front a) in
                ap accepted
                (sym (ap (first_fit n block 0) (gaps_parted lo mid hi k l m c)
                ∙ front_found n block lo mid hi a.bytes (power_some block a.power) (sums m mid k c a) _ _ (apart m mid k c a) at (sym q)));
          }

      -- no search is refused
      pub refused_told : (e : Refusal) → r ≡ Err e → (q : Result (Option ℕ) Refusal) → Sought lo hi n block l q
      refused_told e w q = record { told = λ a. absurd (not_both _ (refusal_number e) (sym (front a) ∙ ap told w)) }

      -- it goes on behind, in a list t
      behind : r ≡ Ok None → (t : List ℕ) → pairs t ≡ drop k m → (q : Result (Option ℕ) Refusal) → Sought mid hi n block (pairs t) q → Sought lo hi n block l q
      behind e t d q w =
          let g = subst (λ (rs : List Range). Sought mid hi n block rs q) d w in
          record {
            told = λ a.
                let z = same_value _ _ (ap told (sym e) ∙ front a) in
                g.told (back_asked m mid k c a)
                ∙ ap accepted
                (sym (ap (first_fit n block 0) (gaps_parted lo mid hi k l m c)
                ∙ front_none n block lo mid hi a.bytes (power_some block a.power) (sums m mid k c a) _ _ (apart m mid k c a) (sym z)));
          }

      pub behind_told : r ≡ Ok None → (ys : List ℕ) → length ys ≡ length (take j s) → (q : Result (Option ℕ) Refusal)
          → Sought mid hi n block (pairs (take (length (ys ++ drop j s) - 2 * k) (drop (2 * k) (ys ++ drop j s)))) q → Sought lo hi n block l q
      behind_told e ys long = behind e _ (left_pairs s k j j-is c.inside ys long)

    -- too few bytes are free in the front
    pub passed_told : crowded lo mid n (pairs (take j s)) ≡ true → (q : Result (Option ℕ) Refusal)
        → Sought mid hi n block (pairs (take (length s - 2 * k) (drop (2 * k) s))) q → Sought lo hi n block l q
    passed_told e = behind (Ok None) (none_told lo mid n block _ e) refl _ (rest_pairs s k j j-is c.inside)
