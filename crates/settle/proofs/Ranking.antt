-- Ranks: the keys of all records, and what the walk over the sorted keys assigns.
use Prim.Native.Nat.{ℕ, ◌+◌, ◌-◌, ◌*◌, ◌≤◌, ◌<◌}
use mathlib.Core.Bool.{true, false}
use mathlib.Core.List.{List, ◌++◌}
use mathlib.Core.Path.{◌≡◌, refl, ap, sym, ◌∙◌}
use native.Mathlib.Omega.{arith}
use lib.Dec.{ltb, leb}
use lib.ListN.{length, get_or, set, take, replicate, length-set, length-append, length-replicate, get_or-append}
use lib.Seq.{get_or-take, length-take-le, get_or-append-add}
use borrow.Author.Tests.{lt-ltb, le-ltb, ltb-true, lt-leb, le-leb}
use Rattle.numbers.specs.Lists.{All, Any}
use Rattle.numbers.specs.Pairs.{is_odd, pairs}
use Rattle.numbers.specs.Range.{Range, range, blank}
use Rattle.numbers.specs.Refusals.{Answer}
use Rattle.settle.specs.Inner.{Enough}
use Rattle.settle.specs.Ranking.{Keyed, Keys, below, Ranked, Ranks}
use Rattle.settle.specs.Regions.{Lent}
use Rattle.sort.specs.Sort.{Ascending, Sorted, sorted}
use Rattle.numbers.proofs.Cases.{by_eq, by_lt}
use Rattle.numbers.proofs.Lists.{all_at, all_of, all_imp, any_of, any_at, any_imp, stored_new, stored_old}
use Rattle.numbers.proofs.Order.{in_offset}
use Rattle.numbers.proofs.Pairs.{even_list, length_pairs, pairs_take, same_pairs}
use Rattle.numbers.proofs.Keeping.{keep_front, keep_most, keep_less, keep_all}
use Rattle.sort.proofs.Laws.{ascending_at, all_sorted, any_sorted, sorted_ascending, sorted_length, sorted_pairs}

-- ---- the keys, one by one

pub record Keying (seqs : List ℕ) (first : ℕ) (s₀ s : List ℕ) (i : ℕ) : Type 0 where
  pub room : first + length seqs ≤ length (pairs s₀)
  pub size : length s ≡ length s₀
  pub new : (j : ℕ) → j < i → get_or (pairs s) (first + j) blank ≡ range (get_or seqs j 0) (first + j)
  pub old : (j : ℕ) → j < first → get_or (pairs s) j blank ≡ get_or (pairs s₀) j blank

module _ {seqs : List ℕ} {first : ℕ} {s₀ s : List ℕ} {i : ℕ} (g : Keying seqs first s₀ s i) where
  pub keying_in : i < length seqs → first + i < length (pairs s)
  keying_in h = let e = same_pairs s s₀ g.size in omega (arith, g.room)

  pub keying_on : (s' : List ℕ) → i < length seqs → pairs s' ≡ set (pairs s) (first + i) (range (get_or seqs i 0) (first + i)) → length s' ≡ length s → Keying seqs first s₀ s' (i + 1)
  keying_on s' h e l =
      record {
        room = g.room;
        size = l ∙ g.size;
        new = λ j b. by_eq j i
            (λ q. stored_new (pairs s) (pairs s') (first + i) (first + j) (range (get_or seqs i 0) (first + i)) blank e (keying_in h) (omega arith)
            ∙ ap (λ (k : ℕ). range (get_or seqs k 0) (first + k)) (sym q))
            (λ n. stored_old (pairs s) (pairs s') (first + i) (first + j) (range (get_or seqs i 0) (first + i)) blank e (λ q. n (omega arith))
            ∙ g.new j (omega (arith, n)));
        old = λ j b. stored_old (pairs s) (pairs s') (first + i) j (range (get_or seqs i 0) (first + i)) blank e (λ q. omega arith) ∙ g.old j b;
      }

-- ---- the walk over the sorted keys

-- of the first t keys, those from rank on have the number of the key at rank, those in front a lower one
pub record Walking (keys : List Range) (m : ℕ) (ranks : List ℕ) (rank t : ℕ) : Type 0 where
  pub size : length ranks ≡ m
  pub upto : t ≤ length keys
  pub behind : rank ≤ t
  pub lower : (s : ℕ) → s < rank → (get_or keys s blank).offset < (get_or keys rank blank).offset
  pub equal : (s : ℕ) → rank ≤ s → s < t → (get_or keys s blank).offset ≡ (get_or keys rank blank).offset
  pub ranked : (s : ℕ) → s < t → get_or ranks (get_or keys s blank).len 0 ≡ below keys (get_or keys s blank).offset

module _ {keys : List Range} {ranks : List ℕ} {m rank t : ℕ} (o : Ascending keys) (k : Keys keys m) (g : Walking keys m ranks rank t) where
  abbrev number : ℕ → ℕ
  number s = (get_or keys s blank).offset

  rising : (s r : ℕ) → s ≤ r → r < length keys → number s ≤ number r
  rising s r h i =
      by_eq s r (λ e. let a = ap number e in omega arith)
      (λ n. in_offset (get_or keys s blank) (get_or keys r blank) (ascending_at keys s r o (omega (arith, n)) i))

  steady : (s r : ℕ) → s < length keys → r < length keys → (get_or keys s blank).len ≡ (get_or keys r blank).len → number s ≡ number r
  steady s r a b =
      all_at (λ (q : Range). (get_or keys s blank).len ≡ q.len → number s ≡ q.offset) keys r blank
      (all_at (λ (p : Range). All (λ (q : Range). p.len ≡ q.len → p.offset ≡ q.offset) keys) keys s blank k.steady a) b

  module _ (h : t < length keys) where
    pub walking_place : (p : Range) → p ≡ get_or keys t blank → p.len < length ranks
    walking_place p e = let q = all_at (λ (q : Range). q.len < m) keys t blank k.places h in let f = ap (λ (q : Range). q.len) e in omega (arith, g.size)

    -- the rank that the key t gets, whichever it is
    on : (r : ℕ) → r ≤ t
        → ((s : ℕ) → s < r → number s < number r)
        → ((s : ℕ) → r ≤ s → s < t + 1 → number s ≡ number r)
        → Walking keys m (set ranks (get_or keys t blank).len r) r (t + 1)
    unfolding below
    on r b lo eq =
        let count : below keys (number t) ≡ r = counted in
        record {
          size = length-set ranks (get_or keys t blank).len r ∙ g.size;
          upto = omega arith;
          behind = omega arith;
          lower = lo;
          equal = eq;
          ranked = λ s i. by_eq (get_or keys s blank).len (get_or keys t blank).len
              (λ e. stored_new ranks (set ranks (get_or keys t blank).len r) (get_or keys t blank).len (get_or keys s blank).len r 0 refl (walking_place (get_or keys t blank) refl) e
              ∙ sym count ∙ ap (below keys) (steady t s h (omega arith) (sym e)))
              (λ n. stored_old ranks (set ranks (get_or keys t blank).len r) (get_or keys t blank).len (get_or keys s blank).len r 0 refl n
              ∙ g.ranked s (by_eq s t (λ e. absurd (n (ap (λ (j : ℕ). (get_or keys j blank).len) e))) (λ d. omega (arith, d))));
        }
      where
        counted : below keys (number t) ≡ r
        counted =
            let e : number t ≡ number r = eq t b (omega arith) in
            keep_front (λ (p : Range). ltb p.offset (number t)) keys blank r (omega arith)
            (λ s i. let l = lo s i in lt-ltb (number s) (number t) (omega arith))
            (λ s i j. let l = rising r s i j in le-ltb (number s) (number t) (omega arith))

    -- the key has the number of those before it, or a higher one
    same_number : number rank ≡ number t → Walking keys m (set ranks (get_or keys t blank).len rank) rank (t + 1)
    same_number e = on rank g.behind g.lower (λ s i j. by_eq s t (λ q. ap number q ∙ sym e) (λ n. g.equal s i (omega (arith, n))))

    next_number : (number rank ≡ number t → ⊥) → Walking keys m (set ranks (get_or keys t blank).len t) t (t + 1)
    next_number n =
        let w : number rank < number t = let l = rising rank t g.behind h in omega (arith, n) in
        on t (omega arith)
        (λ s i. by_lt s rank (λ a. let l = g.lower s a in omega arith) (λ a. let e = g.equal s a i in omega arith))
        (λ s i j. ap number (omega arith))

    module _ (p q : Range) (e : p ≡ get_or keys t blank) (f : q ≡ get_or keys rank blank) where
      pub walking_same : (r : ℕ) → r ≡ rank → q.offset ≡ p.offset → Walking keys m (set ranks p.len r) r (t + 1)
      walking_same r d o = rw (d, e) (same_number (ap (λ (x : Range). x.offset) (sym f) ∙ o ∙ ap (λ (x : Range). x.offset) e))

      pub walking_next : (r : ℕ) → r ≡ t → (q.offset ≡ p.offset → ⊥) → Walking keys m (set ranks p.len r) r (t + 1)
      walking_next r d n = rw (d, e) (next_number (λ o. n (ap (λ (x : Range). x.offset) f ∙ o ∙ ap (λ (x : Range). x.offset) (sym e))))

  pub walking_ends : length keys ≤ t → Ranked keys ranks
  walking_ends h = record { rank = λ s i. g.ranked s (omega arith) }

-- ---- ranks stand as the numbers do

abbrev Numbered : List Range → ℕ → Type 0
Numbered keys s = Any (λ (p : Range). p.offset ≡ s) keys

module _ (keys : List Range) where
  below_least : (s r : ℕ) → s ≤ r → below keys s ≤ below keys r
  unfolding below
  below_least s r h =
      keep_most (λ (p : Range). ltb p.offset s) (λ (p : Range). ltb p.offset r)
      (λ p e. let l = ltb-true p.offset s e in lt-ltb p.offset r (omega arith)) keys

  below_less : (s r : ℕ) → s < r → Numbered keys s → below keys s < below keys r
  unfolding below
  below_less s r h a =
      keep_less (λ (p : Range). ltb p.offset s) (λ (p : Range). ltb p.offset r)
      (λ p e. let l = ltb-true p.offset s e in lt-ltb p.offset r (omega arith)) keys
      (any_imp (λ (p : Range). p.offset ≡ s) (λ (p : Range). (ltb p.offset s ≡ false) × (ltb p.offset r ≡ true))
      (λ p e. (le-ltb p.offset s (omega arith), lt-ltb p.offset r (omega arith))) keys a)

  below_small : (s : ℕ) → Numbered keys s → below keys s < length keys
  unfolding below
  below_small s a =
      let e = ap length (keep_all keys) in
      let h = keep_less (λ (p : Range). ltb p.offset s) (λ (p : Range). true) (λ p e. refl) keys
      (any_imp (λ (p : Range). p.offset ≡ s) (λ (p : Range). (ltb p.offset s ≡ false) × (true ≡ true))
      (λ p d. (le-ltb p.offset s (omega arith), refl)) keys a) in
      omega arith

  -- numbers of the list stand as their ranks do
  below_order : (s r : ℕ) → Numbered keys s → Numbered keys r → leb (below keys s) (below keys r) ≡ leb s r
  below_order s r a b =
      by_lt r s (λ h. let l = below_less r s h b in lt-leb (below keys s) (below keys r) l ∙ sym (lt-leb s r h))
      (λ h. let l = below_least s r h in le-leb (below keys s) (below keys r) l ∙ sym (le-leb s r h))

-- ---- the keys of all records, and the ranks in the end

pub record KeysOf (all : List ℕ) (keys : List Range) : Type 0 where
  pub size : length keys ≡ length all
  pub at : (j : ℕ) → j < length all → get_or keys j blank ≡ range (get_or all j 0) j

pub keys_sorted : (l : List Range) (m : ℕ) → Keys l m → Keys (sorted l) m
keys_sorted l m k =
    record {
      places = all_sorted (λ (p : Range). p.len < m) l k.places;
      steady = all_sorted (Alone (sorted l)) l (all_imp (Alone l) (Alone (sorted l)) (λ p a. all_sorted (λ (q : Range). p.len ≡ q.len → p.offset ≡ q.offset) l a) l k.steady);
    }
  where
    Alone : List Range → Range → Type 0
    Alone keys p = All (λ (q : Range). p.len ≡ q.len → p.offset ≡ q.offset) keys

-- after the sort
module _ (k₀ k₁ : List ℕ) (n : Answer (Unit {0})) (h : Sorted k₀ k₁ n) (e : is_odd k₀ ≡ false) where
  pub keys_ready : (m : ℕ) → Keys (pairs k₀) m → Ascending (pairs k₁) × Keys (pairs k₁) m
  keys_ready m k = rw (sorted_pairs k₀ k₁ n h e) (sorted_ascending (pairs k₀), keys_sorted (pairs k₀) m k)

  pub keys_ranked : (ranks : List ℕ) → Ranked (pairs k₁) ranks → Ranked (sorted (pairs k₀)) ranks
  keys_ranked ranks r = rw (sym (sorted_pairs k₀ k₁ n h e)) r

module _ {all : List ℕ} {keys : List Range} (g : KeysOf all keys) where
  pub keys_of : (m : ℕ) → length all ≤ m → Keys keys m
  keys_of m h =
      record {
        places = all_of (λ (p : Range). p.len < m) keys blank (λ j i. let e = ap (λ (p : Range). p.len) (g.at j (omega (arith, g.size))) in omega (arith, g.size));
        steady = all_of (λ (p : Range). All (λ (q : Range). p.len ≡ q.len → p.offset ≡ q.offset) keys) keys blank
            (λ i a. all_of (λ (q : Range). (get_or keys i blank).len ≡ q.len → (get_or keys i blank).offset ≡ q.offset) keys blank (λ j b. alone i j a b));
      }
    where
      alone : (i j : ℕ) → i < length keys → j < length keys → (get_or keys i blank).len ≡ (get_or keys j blank).len → (get_or keys i blank).offset ≡ (get_or keys j blank).offset
      alone i j a b e =
          let p = g.at i (omega (arith, g.size)) in
          let q = g.at j (omega (arith, g.size)) in
          let r : i ≡ j = sym (ap (λ (x : Range). x.len) p) ∙ e ∙ ap (λ (x : Range). x.len) q in
          ap (λ (k : ℕ). (get_or keys k blank).offset) r

  -- each record's key is one of the sorted ones
  there : (a : ℕ) → a < length all → Any (λ (p : Range). p ≡ range (get_or all a 0) a) (sorted keys)
  there a h =
      any_sorted (λ (p : Range). p ≡ range (get_or all a 0) a) keys
      (any_of (λ (p : Range). p ≡ range (get_or all a 0) a) keys a blank (omega (arith, g.size)) (g.at a h))

  numbered : (a : ℕ) → a < length all → Numbered (sorted keys) (get_or all a 0)
  numbered a h =
      any_imp (λ (p : Range). p ≡ range (get_or all a 0) a) (λ (p : Range). p.offset ≡ get_or all a 0) (λ p e. ap (λ (q : Range). q.offset) e) (sorted keys) (there a h)

  module _ (ranks : List ℕ) (r : Ranked (sorted keys) ranks) where
    rank_of : (a : ℕ) → a < length all → get_or ranks a 0 ≡ below (sorted keys) (get_or all a 0)
    rank_of a h =
        let t = any_at (λ (p : Range). p ≡ range (get_or all a 0) a) (sorted keys) blank (there a h) in
        let e = t.2 in
        ap (λ (p : Range). get_or ranks p.len 0) (sym e) ∙ r.rank t.0 t.1 ∙ ap (λ (p : Range). below (sorted keys) p.offset) e

    pub ranks_of : Ranks all ranks
    ranks_of =
        record {
          order = λ a b h i. rw (rank_of a h, rank_of b i) (below_order (sorted keys) (get_or all a 0) (get_or all b 0) (numbered a h) (numbered b i));
          small = λ a h. rw (rank_of a h) (let l = below_small (sorted keys) (get_or all a 0) (numbered a h) in let e = sorted_length keys in omega (arith, g.size));
        }

module _ (a b : List ℕ) (u : ℕ) (k₀ k₁ k₂ : List ℕ) (e : u ≡ length a) (f : Keyed a 0 k₀ k₁) (g : Keyed b u k₁ k₂) where
  pub both_at : (j : ℕ) → j < length (a ++ b) → get_or (pairs k₂) j blank ≡ range (get_or (a ++ b) j 0) j
  both_at j h =
      let l = length-append a b in
      by_lt j u
      (λ i. g.old j i ∙ ap (λ (n : ℕ). get_or (pairs k₁) n blank) (omega arith) ∙ f.new j (omega arith) ∙ ap (λ (n : ℕ). range (get_or a j 0) n)
      (omega arith) ∙ ap (λ (n : ℕ). range n j) (sym (get_or-append a b 0 j (omega arith))))
      (λ i.
      let d : j ≡ length a + (j - u) = omega arith in
      let q : get_or (a ++ b) j 0 ≡ get_or b (j - u) 0 = ap (λ (n : ℕ). get_or (a ++ b) n 0) d ∙ get_or-append-add a b (j - u) 0 in
      ap (λ (n : ℕ). get_or (pairs k₂) n blank) (omega arith) ∙ g.new (j - u) (omega arith)
      ∙ ap (λ (n : ℕ). range (get_or b (j - u) 0) n) (omega arith) ∙ ap (λ (n : ℕ). range n j) (sym q))

  pub both_keys : (m : ℕ) → m ≡ 2 * length (a ++ b) → m ≤ length k₀ → KeysOf (a ++ b) (pairs (take m k₂))
  both_keys m d h =
      let p : pairs (take m k₂) ≡ take (length (a ++ b)) (pairs k₂) = ap (λ (n : ℕ). pairs (take n k₂)) d ∙ pairs_take (length (a ++ b)) k₂ in
      let l = length_pairs k₂ in
      let s = g.size in
      let t = f.size in
      record {
        size = ap length p ∙ length-take-le (length (a ++ b)) (pairs k₂) (omega arith);
        at = λ j i. ap (λ (q : List Range). get_or q j blank) p ∙ get_or-take (length (a ++ b)) (pairs k₂) j blank i ∙ both_at j i;
      }

-- the numbers of one kind, as the code cuts them
abbrev pub seqs_of : Lent → List ℕ
seqs_of rs = take rs.count rs.seqs

-- the array of keys has room for both kinds
module _ (us un : Lent) (z : Enough us) (z' : Enough un) where
  ours : length (seqs_of us) ≡ us.count
  ours = length-take-le us.count us.seqs z.seqs

  theirs : length (seqs_of un) ≡ un.count
  theirs = length-take-le un.count un.seqs z'.seqs

  pub keys_room : 0 + length (seqs_of us) ≤ length (pairs (replicate 4096 0))
  keys_room =
      let e = length_pairs (replicate 4096 0) in
      let f = length-replicate {A = ℕ} 4096 0 in
      omega (arith, ours, z.few)

  pub keys_more : (k : List ℕ) → length k ≡ length {A = ℕ} (replicate 4096 0) → us.count + length (seqs_of un) ≤ length (pairs k)
  keys_more k e =
      let l = length_pairs k in
      let r = length-replicate {A = ℕ} 4096 0 in
      omega (arith, theirs, z.few, z'.few)

  -- the part that is ranked, as the code cuts it
  module _ (k₁ k₂ : List ℕ) (f : Keyed (seqs_of us) 0 (replicate 4096 0) k₁) (g : Keyed (seqs_of un) us.count k₁ k₂) where
    abbrev part : List ℕ
    part = take (2 * (us.count + un.count) - 0) k₂

    sizes : length (seqs_of us ++ seqs_of un) ≡ us.count + un.count
    sizes = length-append (seqs_of us) (seqs_of un) ∙ omega (arith, ours, theirs)

    pub all_keys : KeysOf (seqs_of us ++ seqs_of un) (pairs part)
    all_keys =
        let s = sizes in
        let r = length-replicate {A = ℕ} 4096 0 in
        both_keys (seqs_of us) (seqs_of un) us.count (replicate 4096 0) k₁ k₂ (sym ours) f g (2 * (us.count + un.count) - 0) (omega arith) (omega (arith, z.few, z'.few))

    pub all_ready : (n : ℕ) → n ≡ 2048 → (is_odd part ≡ false) × Keys (pairs part) n
    all_ready n e =
        let s = sizes in
        let r = length-replicate {A = ℕ} 4096 0 in
        let l : length part ≡ 2 * (us.count + un.count) - 0 = length-take-le (2 * (us.count + un.count) - 0) k₂ (omega (arith, g.size, f.size, z.few, z'.few)) in
        (even_list part (omega arith), keys_of all_keys n (omega (arith, z.few, z'.few)))
