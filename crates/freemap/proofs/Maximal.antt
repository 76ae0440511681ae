-- The maximal ranges of bytes that pass a test: which bytes they have, that they stand apart, how they begin, and their length together.
use Rattle.std.proofs.Common.{◌≡◌, ℕ, zero, suc, ◌+◌, ◌<◌, ◌≤◌, Bool, true, false, ◌⊎◌, List, [], ◌∷◌, sym, refl, ap, ◌∙◌, inl, inr, ⊎_elim, arith, eq-eqb, ne_eqb}
use Rattle.freemap.specs.Bytes.{counted}
use Rattle.freemap.specs.Gaps.{Covered, ahead, maximal}
use Rattle.numbers.specs.Lists.{All}
use Rattle.numbers.specs.Range.{Range, range, end_of, Has, total}
use Rattle.numbers.specs.Sums.{top, sum}
use Rattle.numbers.proofs.Cases.{cases, by_eq}
use Rattle.numbers.proofs.Ranges.{end_le}

-- In order from low on, none empty, and a byte at least between two of them.
abbrev pub Apart : ℕ → List Range → Type 0
Apart low [] = Unit {0}
Apart low (g ∷ gs) = (low ≤ g.offset) × (0 < g.len) × Apart (suc (g.offset + g.len)) gs

-- ---- a byte in front

-- it joins what begins right behind it, and nothing else
ahead_joins : (b : ℕ) (g : Range) (gs : List Range) → g.offset ≡ suc b → ahead b (g ∷ gs) ≡ range b (suc g.len) ∷ gs
unfolding ahead
ahead_joins b g gs e = simp (eq-eqb _ _ e)

ahead_alone : (b low : ℕ) (gs : List Range) → suc b < low → Apart low gs → ahead b gs ≡ range b 1 ∷ gs
unfolding ahead
ahead_alone b low [] h a = refl
ahead_alone b low (g ∷ gs) h a =
    let l = a.0 in
    let d : g.offset ≡ suc b → ⊥ = λ e. absurd (omega arith) in
    simp (ne_eqb _ _ d)

-- the gaps behind b stay apart
apart_low : (low m : ℕ) (gs : List Range) → m ≤ low → Apart low gs → Apart m gs
apart_low low m [] h a = tt
apart_low low m (g ∷ gs) h a = let l = a.0 in (omega arith, a.1, a.2)

ahead_apart : (b : ℕ) (gs : List Range) → Apart (suc b) gs → Apart b (ahead b gs)
unfolding ahead
ahead_apart b [] a = (omega arith, omega arith, tt)
ahead_apart b (g ∷ gs) a =
    let l = a.0 in
    by_eq g.offset (suc b)
    (λ e.
    simp (eq-eqb _ _ e)
    (omega arith, omega arith, apart_low (suc (g.offset + g.len)) (suc (b + suc g.len)) gs (omega arith) a.2))
    (λ d. simp (ne_eqb _ _ d) (omega arith, omega arith, (omega arith, a.1, a.2)))

-- and end where they ended
ahead_ends : (b c : ℕ) (gs : List Range) → b < c → All (λ (g : Range). g.offset + g.len ≤ c) gs → All (λ (g : Range). g.offset + g.len ≤ c) (ahead b gs)
unfolding ahead
ahead_ends b c [] h a = (omega arith, tt)
ahead_ends b c (g ∷ gs) h a =
    let l = a.0 in
    by_eq g.offset (suc b) (λ e. simp (eq-eqb _ _ e) (omega arith, a.1)) (λ d. simp (ne_eqb _ _ d) (omega arith, a))

-- a byte of the ranges is b or one of those behind it, and they have all of these
alone_of : (b x : ℕ) → Has (range b 1) x → x ≡ b
alone_of b x h = let e = end_le (range b 1) in omega arith

joined_upto : (b x : ℕ) (g : Range) → g.offset ≡ suc b → x < end_of (range b (suc g.len)) → x < end_of g
unfolding end_of
joined_upto b x g e h = omega arith

ahead_of : (b x : ℕ) (gs : List Range) → Covered (ahead b gs) x → (x ≡ b) ⊎ Covered gs x
unfolding ahead
ahead_of b x [] (inl h) = inl (alone_of b x h)
ahead_of b x [] (inr h) = absurd h
ahead_of b x (g ∷ gs) h =
    by_eq g.offset (suc b)
    (λ e.
    let k : Has (range b (suc g.len)) x ⊎ Covered gs x = simp (eq-eqb _ _ e) at h in
    ⊎_elim
    (λ p. by_eq x b (λ q. inl q) (λ d. inr (inl (record { from = omega arith; upto = joined_upto b x g e p.upto }))))
    (λ r. inr (inr r)) k)
    (λ d.
    let k : Has (range b 1) x ⊎ Covered (g ∷ gs) x = simp (ne_eqb _ _ d) at h in
    ⊎_elim (λ p. inl (alone_of b x p)) (λ r. inr r) k)

ahead_first : (b : ℕ) (gs : List Range) → b < top → Covered (ahead b gs) b
unfolding ahead end_of
ahead_first b [] h = inl (record { from = omega arith; upto = omega arith })
ahead_first b (g ∷ gs) h =
    by_eq g.offset (suc b) (λ e. simp (eq-eqb _ _ e) (inl (record { from = omega arith; upto = omega arith })))
    (λ d. simp (ne_eqb _ _ d) (inl (record { from = omega arith; upto = omega arith })))

ahead_rest : (b x : ℕ) (gs : List Range) → Covered gs x → Covered (ahead b gs) x
unfolding ahead end_of
ahead_rest b x [] h = absurd h
ahead_rest b x (g ∷ gs) h =
    by_eq g.offset (suc b)
    (λ e. simp (eq-eqb _ _ e) (⊎_elim (λ (p : Has g x). inl (record { from = omega arith; upto = omega arith })) (λ r. inr r) h))
    (λ d. simp (ne_eqb _ _ d) (inr h))

ahead_total : (b : ℕ) (gs : List Range) → total (ahead b gs) ≡ suc (total gs)
unfolding ahead sum
ahead_total b [] = refl
ahead_total b (g ∷ gs) = by_eq g.offset (suc b) (λ e. simp (eq-eqb _ _ e) (omega arith)) (λ d. simp (ne_eqb _ _ d) (omega arith))

-- ---- the ranges

module _ (f : ℕ → Bool) where
  pub max_apart : (b n : ℕ) → Apart b (maximal f b n)
  unfolding maximal
  max_apart b zero = tt
  max_apart b (suc n) =
      let r = max_apart (suc b) n in
      cases (f b) (λ e. simp e (ahead_apart b (maximal f (suc b) n) r)) (λ e. simp e (apart_low (suc b) b (maximal f (suc b) n) (omega arith) r))

  pub max_ends : (b n c : ℕ) → b + n ≤ c → All (λ (g : Range). g.offset + g.len ≤ c) (maximal f b n)
  unfolding maximal
  max_ends b zero c h = tt
  max_ends b (suc n) c h =
      let r = max_ends (suc b) n c (omega arith) in
      cases (f b) (λ e. simp e (ahead_ends b c (maximal f (suc b) n) (omega arith) r)) (λ e. simp e r)

  -- they have the bytes that pass, and no others
  pub max_has : (b n x : ℕ) → b + n ≤ top → b ≤ x → x < b + n → f x ≡ true → Covered (maximal f b n) x
  unfolding maximal
  max_has b zero x t l u p = absurd (omega arith)
  max_has b (suc n) x t l u p =
      by_eq x b (λ e. rw e (simp (ap f (sym e) ∙ p) (ahead_first b (maximal f (suc b) n) (omega arith))))
      (λ d.
      let r = max_has (suc b) n x (omega arith) (omega arith) (omega arith) p in
      cases (f b) (λ e. simp e (ahead_rest b x (maximal f (suc b) n) r)) (λ e. simp e r))

  pub max_of : (b n x : ℕ) → Covered (maximal f b n) x → (b ≤ x) × (x < b + n) × (f x ≡ true)
  unfolding maximal
  max_of b zero x h = absurd h
  max_of b (suc n) x h =
      cases (f b)
      (λ e.
      let k : Covered (ahead b (maximal f (suc b) n)) x = simp e at h in
      ⊎_elim (λ q. (omega arith, omega arith, ap f q ∙ e))
      (λ r. let i = max_of (suc b) n x r in let l = i.0 in let u = i.1 in (omega arith, omega arith, i.2))
      (ahead_of b x (maximal f (suc b) n) k))
      (λ e.
      let k : Covered (maximal f (suc b) n) x = simp e at h in
      let i = max_of (suc b) n x k in let l = i.0 in let u = i.1 in (omega arith, omega arith, i.2))

  -- as many bytes as pass
  pub max_total : (b n : ℕ) → total (maximal f b n) ≡ counted f b n
  unfolding maximal counted sum
  max_total b zero = refl
  max_total b (suc n) =
      let r = max_total (suc b) n in
      cases (f b) (λ e. simp e (ahead_total b (maximal f (suc b) n) ∙ ap suc r)) (λ e. simp e r)

  -- bytes that fail are passed over
  pub max_skip : (b c k m n : ℕ) → m ≡ k + n → c ≡ b + k → ((x : ℕ) → b ≤ x → x < c → f x ≡ false) → maximal f b m ≡ maximal f c n
  unfolding maximal
  max_skip b c zero m n e d h =
      let p : m ≡ n = omega arith in
      let q : b ≡ c = omega arith in
      ap (maximal f b) p ∙ ap (λ (y : ℕ). maximal f y n) q
  max_skip b c (suc k) zero n e d h = absurd (omega arith)
  max_skip b c (suc k) (suc m) n e d h =
      simp (h b (omega arith) (omega arith)) (max_skip (suc b) c k m n (omega arith) (omega arith) (λ x l u. h x (omega arith) u))

  begins_later : (b c n : ℕ) → suc b ≡ c → (n ≡ 0) ⊎ (f c ≡ false) → ahead b (maximal f c n) ≡ range b 1 ∷ maximal f c n
  unfolding maximal ahead
  begins_later b c zero e s = refl
  begins_later b c (suc n) e (inl z) = absurd (omega arith)
  begins_later b c (suc n) e (inr z) = simp z (ahead_alone b (suc c) (maximal f (suc c) n) (omega arith) (max_apart (suc c) n))

  -- bytes that pass up to one that fails, or to the end, are a range
  pub max_take : (b c k m n : ℕ) → 0 < k → m ≡ k + n → c ≡ b + k → ((x : ℕ) → b ≤ x → x < c → f x ≡ true) → (n ≡ 0) ⊎ (f c ≡ false) → maximal f b m ≡ range b k ∷ maximal f c n
  unfolding maximal
  max_take b c zero m n p e d h s = absurd (omega arith)
  max_take b c (suc k) zero n p e d h s = absurd (omega arith)
  max_take b c (suc zero) (suc m) n p e d h s =
      let q : suc b ≡ c = omega arith in
      let r : m ≡ n = omega arith in
      simp (h b (omega arith) (omega arith)) (ap (λ (y : ℕ). ahead b (maximal f y m)) q ∙ ap (λ (y : ℕ). ahead b (maximal f c y)) r ∙ begins_later b c n q s)
  max_take b c (suc (suc k)) (suc m) n p e d h s =
      let r = max_take (suc b) c (suc k) m n (omega arith) (omega arith) (omega arith) (λ x l u. h x (omega arith) u) s in
      simp (h b (omega arith) (omega arith)) (ap (ahead b) r ∙ ahead_joins b (range (suc b) (suc k)) (maximal f c n) refl)

-- a test that agrees on all the bytes
pub max_same : (f g : ℕ → Bool) (b n : ℕ) → ((x : ℕ) → b ≤ x → x < b + n → f x ≡ g x) → maximal f b n ≡ maximal g b n
unfolding maximal
max_same f g b zero h = refl
max_same f g b (suc n) h =
    let r = max_same f g (suc b) n (λ x l u. h x (omega arith) (omega arith)) in
    let e : f b ≡ g b = h b (omega arith) (omega arith) in
    cases (g b) (λ t. simp (e, t) (ap (ahead b) r)) (λ t. simp (e, t) r)
