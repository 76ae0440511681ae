-- Names: their hashes, their comparison, and which of the records are renamed.
use Prim.Native.Nat.{ℕ, zero, suc, ◌+◌, ◌-◌, ◌*◌, ◌%◌, ◌≤◌, ◌<◌}
use mathlib.Core.Bool.{Bool, true, false, not, ◌&&◌, and-false, or-true as or_right}
use mathlib.Core.List.{List, ◌∷◌}
use mathlib.Core.Logic.{⊎_elim}
use mathlib.Core.Path.{◌≡◌, refl, ap, sym, ◌∙◌}
use native.Mathlib.Numerals.{add-one}
use native.Mathlib.Omega.{arith}
use lib.Dec.{eqb, leb}
use lib.ListN.{length, get_or, take, drop, set, length-set, length-take, length-drop, drop_of_length-le}
use lib.Seq.{drop-cons, get_or-set_same, get_or-set_other, get_or-take, get_or-drop}
use borrow.Author.Count.{below_more}
use borrow.Author.Tests.{eqb-true, eq-eqb, ne_eqb, le-leb, lt-leb}
use Rattle.numbers.specs.Lists.{same}
use Rattle.std.specs.List.{count_by}
use Rattle.settle.specs.Naming.{name_at, hash_from, hash_of, Hashed, Listed, rivals, any_below}
use Rattle.settle.specs.Regions.{Lent}
use Rattle.settle.proofs.Chains.{none_counted}
use Rattle.numbers.proofs.Cases.{cases, by_eq, by_lt, clash, and-true, or-true}
use Rattle.numbers.proofs.Lists.{same_true}

-- ---- the hash of a name, byte by byte

pub record Mixed (name : List ℕ) (i hash : ℕ) : Type 0 where
  pub small : hash < 2147483647
  pub inside : i ≤ length name
  pub rest : hash_from hash (drop i name) ≡ hash_of name

module _ {name : List ℕ} {i hash : ℕ} (g : Mixed name i hash) where
  pub mix_on : i < length name → Mixed name (i + 1) ((hash * 33 + get_or name i 0) % 2147483647)
  unfolding hash_from
  mix_on h =
      let e : drop i name ≡ get_or name i 0 ∷ drop (i + 1) name = rw (add-one, drop-cons name i 0) in
      record { small = omega arith; inside = omega arith; rest = rw e at g.rest }

  pub mix_ends : length name ≤ i → hash ≡ hash_of name
  unfolding hash_from
  mix_ends h = rw (drop_of_length-le name {i = i} h) at g.rest

-- ---- the hashes of all names

-- the part that is lent for a name
abbrev part_at : Lent → ℕ → List ℕ
part_at rs i = take (24 * i + get_or rs.lens i 0 - 24 * i) (drop (24 * i) rs.names)

pub part_name : (rs : Lent) (i : ℕ) → part_at rs i ≡ name_at rs i
part_name rs i = let e : 24 * i + get_or rs.lens i 0 - 24 * i ≡ get_or rs.lens i 0 = omega arith in rw e

pub record Hashing (rs : Lent) (hashes₀ hashes : List ℕ) (i : ℕ) : Type 0 where
  pub long : length hashes ≡ length hashes₀
  pub so_far : Hashed rs i hashes

module _ {rs : Lent} {hashes₀ hashes : List ℕ} {i : ℕ} (g : Hashing rs hashes₀ hashes i) where
  pub hash_skip : (get_or rs.lens i 0 ≤ 24 → ⊥) → Hashing rs hashes₀ hashes (i + 1)
  hash_skip n = record { long = g.long; so_far = below_more _ i g.so_far (λ s. absurd (n s)) }

  pub hash_on : i < length hashes → (hash : ℕ) → hash ≡ hash_of (part_at rs i) → Hashing rs hashes₀ (set hashes i hash) (i + 1)
  hash_on h hash e =
      record {
        long = length-set hashes i hash ∙ g.long;
        so_far = below_more _ i
            (λ j l s. get_or-set_other hashes i j hash 0 (λ q. omega arith) ∙ g.so_far j l s)
            (λ s. get_or-set_same hashes i hash 0 h ∙ e ∙ ap hash_of (part_name rs i));
      }

-- ---- a record of the same name and no lower number

module _ (rs : Lent) (skip seq : ℕ) (name : List ℕ) (j : ℕ) where
  pub rival_itself : j ≡ skip → rivals rs skip seq name j ≡ false
  unfolding rivals
  rival_itself e = simp (eq-eqb j skip e)

  pub rival_lower : get_or rs.seqs j 0 < seq → rivals rs skip seq name j ≡ false
  unfolding rivals
  rival_lower l = simp (lt-leb seq (get_or rs.seqs j 0) l, and-false)

  pub rival_longer : (get_or rs.lens j 0 ≡ length name → ⊥) → rivals rs skip seq name j ≡ false
  unfolding rivals
  rival_longer d = simp (ne_eqb (get_or rs.lens j 0) (length name) d, and-false)

  pub rival_same : (j ≡ skip → ⊥) → seq ≤ get_or rs.seqs j 0 → get_or rs.lens j 0 ≡ length name → same (part_at rs j) name ≡ rivals rs skip seq name j
  unfolding rivals
  rival_same d l e =
      rw part_name
      (simp (ne_eqb j skip d, le-leb seq (get_or rs.seqs j 0) l, eq-eqb (get_or rs.lens j 0) (length name) e))

  -- it has the hash of the name
  rival_hash : (hashes : List ℕ) → Listed rs hashes → j < rs.count → length name ≤ 24 → rivals rs skip seq name j ≡ true → get_or hashes j 0 ≡ hash_of name
  unfolding rivals
  rival_hash hashes g h s e =
      let p = and-true (not (eqb j skip) && leb seq (get_or rs.seqs j 0) && eqb (get_or rs.lens j 0) (length name)) (same (name_at rs j) name) e in
      let q = and-true (not (eqb j skip) && leb seq (get_or rs.seqs j 0)) (eqb (get_or rs.lens j 0) (length name)) p.0 in
      let n : get_or rs.lens j 0 ≡ length name = eqb-true (get_or rs.lens j 0) (length name) q.1 in
      g.hashed j h (omega arith) ∙ ap hash_of (same_true (name_at rs j) name p.1)

-- ---- the search

pub below_of : (f : ℕ → Bool) (n j : ℕ) → j < n → f j ≡ true → any_below f n ≡ true
unfolding any_below
below_of f zero j h e = absurd (omega arith)
below_of f (suc n) j h e =
    by_eq j n (λ q. simp (sym (ap f q) ∙ e, or_right)) (λ d. simp (below_of f n j (omega arith) e))

pub below_true : (f : ℕ → Bool) (n : ℕ) → any_below f n ≡ true → (j : ℕ) × (j < n) × (f j ≡ true)
unfolding any_below
below_true f zero e = clash {b = false} e refl
below_true f (suc n) e =
    ⊎_elim (λ a. let r = below_true f n a in let h = r.1 in (r.0, omega arith, r.2)) (λ b. (n, omega arith, b)) (or-true (any_below f n) (f n) e)

-- ---- hashes counted

abbrev pub is : ℕ → ℕ → Bool
is hash other = eqb other hash

-- no other record has the hash, so none is one
pub alone_none : (rs : Lent) (skip seq : ℕ) (name : List ℕ) (hash behind : ℕ) (hashes : List ℕ) → Listed rs hashes → length name ≤ 24 → hash ≡ hash_of name → skip ≤ rs.count
    → count_by (is hash) (take skip hashes) ≡ 0 → behind ≤ skip + 1 → count_by (is hash) (take (rs.count - behind) (drop behind hashes)) ≡ 0
    → any_below (rivals rs skip seq name) rs.count ≡ false
alone_none rs skip seq name hash behind hashes g s t m z k w =
    cases (any_below (rivals rs skip seq name) rs.count)
    (λ e.
    let r = below_true (rivals rs skip seq name) rs.count e in
    let h = r.1 in
    let q : get_or hashes r.0 0 ≡ hash = rival_hash rs skip seq name r.0 hashes g h s r.2 ∙ sym t in
    let l = g.hashes_in in
    by_lt r.0 skip
    (λ i. absurd (none_counted (is hash) (take skip hashes) z r.0 (rw length-take (omega arith)) (rw (get_or-take skip hashes r.0 0 i) (eq-eqb _ hash q))))
    (λ i. by_eq r.0 skip (λ e. clash r.2 (rival_itself rs skip seq name r.0 e))
    (λ d.
    let p : behind + (r.0 - behind) ≡ r.0 = omega (arith, d) in
    absurd (none_counted (is hash) (take (rs.count - behind) (drop behind hashes)) w (r.0 - behind) (rw (length-take, length-drop) (omega (arith, d)))
    (rw (get_or-take (rs.count - behind) (drop behind hashes) (r.0 - behind) 0 (omega (arith, d)), get_or-drop behind hashes (r.0 - behind) 0, p) (eq-eqb _ hash q))))))
    (λ e. e)

-- ---- the records one by one

-- no record in front of j is one
pub record Sought (rs : Lent) (skip seq : ℕ) (name : List ℕ) (j : ℕ) : Type 0 where
  pub inside : j ≤ rs.count
  pub none : any_below (rivals rs skip seq name) j ≡ false

pub seek_begins : (rs : Lent) (skip seq : ℕ) (name : List ℕ) → Sought rs skip seq name 0
unfolding any_below
seek_begins rs skip seq name = record { inside = omega arith; none = refl }

module _ {rs : Lent} {skip seq : ℕ} {name : List ℕ} {j : ℕ} (g : Sought rs skip seq name j) where
  pub seek_ends : rs.count ≤ j → any_below (rivals rs skip seq name) rs.count ≡ false
  seek_ends h = let e : rs.count ≡ j = omega (arith, g.inside) in ap (any_below (rivals rs skip seq name)) e ∙ g.none

  module _ (h : j < rs.count) where
    pub seek_found : rivals rs skip seq name j ≡ true → any_below (rivals rs skip seq name) rs.count ≡ true
    seek_found e = below_of (rivals rs skip seq name) rs.count j h e

    pub seek_on : rivals rs skip seq name j ≡ false → Sought rs skip seq name (j + 1)
    unfolding any_below
    seek_on e = record { inside = omega arith; none = rw add-one (simp (g.none, e)) }

    pub seek_past : (hashes : List ℕ) → Listed rs hashes → length name ≤ 24 → (get_or hashes j 0 ≡ hash_of name → ⊥) → Sought rs skip seq name (j + 1)
    seek_past hashes l s d =
        seek_on
        (cases (rivals rs skip seq name j)
        (λ e. absurd (d (rival_hash rs skip seq name j hashes l h s e)))
        (λ e. e))
