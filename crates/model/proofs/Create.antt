-- An accepted create keeps a world sound.
use Prim.Native.Nat.{ℕ, ◌+◌, ◌*◌, ◌^◌, ◌≤◌, ◌<◌}
use mathlib.Core.Bool.{false}
use mathlib.Core.List.{List, [], ◌∷◌, ◌++◌}
use mathlib.Core.Logic.{inr}
use mathlib.Core.Path.{◌≡◌, refl, subst, ◌∙◌}
use native.Mathlib.Nat.{add-mod_right, zero-mod}
use native.Mathlib.Omega.{arith}
use lib.Dec.{leb}
use lib.ListN.{length, length-append}
use borrow.Author.Tests.{ltb-false, leb-false, eqb-false}
use Rattle.model.specs.Calls.{known, named, tag_full, cap_fails, header_len, create_tests, created, created_at}
use Rattle.model.specs.Region.{Region, footprint, footprints, id_of}
use Rattle.model.specs.Span.{FreeSpan}
use Rattle.model.specs.World.{World, TagRow, tag_of, block, held_ranges, row_of, with_tag}
use Rattle.numbers.specs.Keyed.{HasKey}
use Rattle.numbers.specs.Lists.{All, same}
use Rattle.numbers.specs.Range.{Range, range, Meet, Disjoint}
use Rattle.numbers.specs.Refusals.{first}
use Rattle.numbers.specs.Sums.{top}
use Rattle.model.proofs.Regions.{footprints_append, distinct_behind}
use Rattle.model.proofs.Rows.{row_tag, with_own, put_few, put_ordered, put_tagged}
use Rattle.model.proofs.Sound.{Regular, Sound}
use Rattle.numbers.proofs.Cases.{clash, or-false}
use Rattle.numbers.proofs.Disjoint.{MeetsNone, none_sym, disjoint_append}
use Rattle.numbers.proofs.Keyed.{key_false}
use Rattle.numbers.proofs.Lists.{all_append, all_imp, all_both, any_false, true_same}
use Rattle.numbers.proofs.Ranges.{apart, end_exact, end_le}
use Rattle.numbers.proofs.Refusals.{first_none, refuse_none}

-- What it means that no test before that of room failed.
pub record Creates (w : World) (id tag : ℕ) (name : List ℕ) : Type 0 where
  pub short : length name ≤ 24
  pub new : known w id ≡ false
  pub unnamed : named w name ≡ false
  pub region : length w.regions < 64
  pub row : tag_full w tag ≡ false
  pub number : w.last ≡ top → ⊥
  pub within : cap_fails w tag (header_len w) ≡ false

pub creates : (w : World) (id tag : ℕ) (name : List ℕ) → first (create_tests w id tag name) ≡ 0 → Creates w id tag name
creates w id tag name z =
    let t1 = first_none _ _ z in
    let t14 = first_none _ _ t1.1 in
    let t18 = first_none _ _ t14.1 in
    let t19 = first_none _ _ t18.1 in
    let t20 = first_none _ _ t19.1 in
    let t21 = first_none _ _ t20.1 in
    let full = or-false (leb 64 (length w.regions)) (tag_full w tag) (refuse_none 19 _ (omega arith) t19.0) in
    record {
      short = ltb-false _ _ (refuse_none 1 _ (omega arith) t1.0);
      new = refuse_none 14 _ (omega arith) t14.0;
      unnamed = refuse_none 18 _ (omega arith) t18.0;
      region = leb-false _ _ full.0;
      row = full.1;
      number = eqb-false _ _ (refuse_none 20 _ (omega arith) t20.0);
      within = refuse_none 21 _ (omega arith) t21.0;
    }

module _ (w : World) (s : Sound w) (id tag : ℕ) (name : List ℕ) (c : Creates w id tag name) (a : ℕ) (f : FreeSpan w (header_len w) a) where
  abbrev r : Region
  r = created w id tag name a

  pub created_regular : Regular w.limits r
  created_regular =
      record {
        name = c.short;
        count = omega arith;
        log = inr refl;
        first = f.multiple;
        second = add-mod_right a (block w) ∙ f.multiple;
        table = f.from;
        file = f.upto;
        inside =
            (record { from = omega arith; upto = omega arith }, (record { from = omega arith; upto = omega arith }, tt));
        some = tt;
        size = omega arith;
        multiple = zero-mod (2 ^ w.limits.log2_block);
      }

  -- both header blocks lie in the free span
  apart_from : (k : ℕ) → k + block w ≤ 2 * block w → MeetsNone (range (a + k) (block w)) (held_ranges w)
  apart_from k l =
      all_imp (λ (q : Range). Meet (range a (header_len w)) q → ⊥) (λ (q : Range). Meet (range (a + k) (block w)) q → ⊥)
      (λ q n m.
      let b = m.left.from in
      let u = m.left.upto in
      let e = end_le (range (a + k) (block w)) in
      let g = end_exact (range a (header_len w)) (omega (arith, f.upto, s.container.file)) in
      n (record { byte = m.byte; left = record { from = omega arith; upto = omega arith }; right = m.right }))
      (held_ranges w) f.apart

  -- no region has its number, none its name
  new_number : All (λ (q : Region). q.number ≡ id → ⊥) w.regions
  unfolding known
  new_number = key_false id_of id w.regions c.new

  new_name : All (λ (q : Region). q.name ≡ name → ⊥) w.regions
  unfolding named
  new_name =
      all_imp (λ (q : Region). same q.name name ≡ false) (λ (q : Region). q.name ≡ name → ⊥) (λ q e n. clash (true_same _ _ n) e) w.regions
      (any_false (λ (q : Region). same q.name name) w.regions c.unnamed)

  new_apart : Disjoint (footprints w.limits (w.regions ++ (r ∷ [])))
  unfolding footprints
  new_apart =
      let g = end_exact (range a (block w)) (omega (arith, f.upto, s.container.file)) in
      let z : a + 0 ≡ a = omega arith in
      rw (footprints_append w.limits w.regions (r ∷ []))
      (disjoint_append (held_ranges w) (footprint w.limits r) s.apart ((apart (range a (block w)) (range (a + block w) (block w)) (omega arith), tt), (tt, tt))
      (all_both (λ (q : Range). Meet (range a (block w)) q → ⊥) (λ (q : Range). Meet (range (a + block w) (block w)) q → ⊥) (λ (q : Range). MeetsNone q (footprint w.limits r))
      (λ q m n. (none_sym _ _ m, (none_sym _ _ n, tt))) (held_ranges w)
      (subst (λ (k : ℕ). MeetsNone (range k (block w)) (held_ranges w)) z (apart_from 0 (omega arith)))
      (apart_from (block w) (omega arith))))

  pub created_sound : Sound (created_at w id tag name a)
  created_sound =
      let t : TagRow = row_of tag w.rows in
      let e = row_tag tag w.rows in
      record {
        container = s.container;
        few = let n = length-append w.regions (r ∷ []) in omega (arith, n, c.region);
        regular = all_append (Regular w.limits) w.regions (r ∷ []) s.regular (created_regular, tt);
        numbers = distinct_behind (λ (q : Region). q.number) r w.regions s.numbers new_number;
        names = distinct_behind (λ (q : Region). q.name) r w.regions s.names new_name;
        apart = new_apart;
        tagged = all_append (λ (q : Region). HasKey tag_of q.tag (with_tag tag w.rows)) w.regions (r ∷ []) (put_tagged w s t) (with_own tag w.rows, tt);
        rows_few = put_few w s t (rw e c.row);
        order = put_ordered w s t;
        seqs =
            all_append (λ (q : Region). q.seq ≤ w.last + 1) w.regions (r ∷ [])
            (all_imp (λ (q : Region). q.seq ≤ w.last) (λ (q : Region). q.seq ≤ w.last + 1) (λ q l. omega arith) w.regions s.seqs)
            (omega arith, tt);
      }
