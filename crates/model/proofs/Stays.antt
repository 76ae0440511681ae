-- No call moves a published byte, but an accepted drop of its region.
use Prim.Native.Nat.{ℕ, ◌≤◌}
use mathlib.Core.List.{List, [], ◌∷◌, ◌++◌, append-nil}
use mathlib.Core.Path.{◌≡◌, refl, ap, sym, subst, ◌∙◌}
use native.Mathlib.Omega.{arith}
use Rattle.model.specs.Calls.{Call, create, grow, publish, drop, cap, locate, region_in, grown, published_to, refusal_to, accept, next, world_after}
use Rattle.model.specs.Demand.{Published, byte_at, Keeps}
use Rattle.model.specs.Region.{Region, id_of, region_of, on_region}
use Rattle.model.specs.World.{World}
use Rattle.numbers.specs.Keyed.{HasKey}
use Rattle.numbers.specs.Range.{Range, range}
use Rattle.runs.specs.Runs.{byte_of}
use Rattle.model.proofs.Located.{region_regular}
use Rattle.model.proofs.Regions.{known_true, true_known, region_on, other_on, has_on, other_without, has_without, region_behind, has_behind}
use Rattle.model.proofs.Sound.{Sound}
use Rattle.model.proofs.Steps.{next_cases, next_sound}
use Rattle.numbers.proofs.Cases.{by_eq}
use Rattle.runs.proofs.Bytes.{byte_behind}

-- A region later on: extents may have come behind, and more may be published.
pub record Later (r q : Region) : Type 0 where
  pub more : List Range
  pub extents : q.extents ≡ r.extents ++ more
  pub published : r.published ≤ q.published

pub later_same : (r : Region) → Later r r
later_same r = record { more = []; extents = sym (append-nil r.extents); published = omega arith }

later_is : (r q : Region) → q ≡ r → Later r q
later_is r q e = subst (Later r) (sym e) (later_same r)

-- The region id is there, and is the later one of r.
pub record Still (id : ℕ) (r : Region) (rs : List Region) : Type 0 where
  pub known : HasKey id_of id rs
  pub later : Later r (region_of id rs)

module _ (id : ℕ) (rs : List Region) (k : HasKey id_of id rs) where
  still_same : Still id (region_of id rs) rs
  still_same = record { known = k; later = later_same (region_of id rs) }

  -- one region was changed
  still_on : (jd : ℕ) (f : Region → Region) → ((r : Region) → (f r).number ≡ r.number) → ((r : Region) → Later r (f r))
      → Still id (region_of id rs) (on_region jd f rs)
  still_on jd f keeps g =
      record {
        known = has_on jd f keeps id rs k;
        later =
            by_eq id jd
            (λ e. subst (λ (n : ℕ). HasKey id_of n rs → Later (region_of n rs) (region_of n (on_region jd f rs))) (sym e) itself k)
            (λ d. later_is _ _ (other_on jd f keeps id d rs));
      }
    where
      itself : HasKey id_of jd rs → Later (region_of jd rs) (region_of jd (on_region jd f rs))
      itself h = subst (Later (region_of jd rs)) (sym (region_on jd f keeps rs h)) (g (region_of jd rs))

-- ---- one call

-- an extent more, or more published
grown_later : (a n : ℕ) (r : Region) → Later r (grown a n r)
grown_later a n r = record { more = range a n ∷ []; extents = refl; published = omega arith }

published_later : (len : ℕ) (r : Region) → Later r (published_to len r)
published_later len r = record { more = []; extents = sym (append-nil r.extents); published = omega arith }

accept_keeps : (w : World) (id : ℕ) → HasKey id_of id w.regions → (c : Call) → (c ≡ drop id → ⊥)
    → Still id (region_in w id) (accept w c).regions
unfolding accept
accept_keeps w id k (create jd tag name) d = record { known = has_behind id _ w.regions k; later = later_is _ _ (region_behind id _ w.regions k) }
accept_keeps w id k (grow jd) d = still_on id w.regions k jd (grown _ _) (λ r. refl) (grown_later _ _)
accept_keeps w id k (publish jd len) d = still_on id w.regions k jd (published_to len) (λ r. refl) (published_later len)
accept_keeps w id k (drop jd) d =
    let n : id ≡ jd → ⊥ = λ e. d (ap drop (sym e)) in
    record { known = has_without jd id n w.regions k; later = later_is _ _ (other_without jd id n w.regions) }
accept_keeps w id k (cap tag limit) d = still_same id w.regions k
accept_keeps w id k (locate jd pos n) d = still_same id w.regions k

pub next_keeps : (w : World) (id : ℕ) → HasKey id_of id w.regions → (c : Call) → (c ≡ drop id → refusal_to w c ≡ 0 → ⊥)
    → Still id (region_in w id) (next w c).regions
next_keeps w id k c d =
    next_cases w c (λ (v : World). Still id (region_in w id) v.regions) (λ z. accept_keeps w id k c (λ e. d e z)) (λ n. still_same id w.regions k)

-- ---- every list of calls

module _ (id p : ℕ) where
  next_byte : (w : World) → Sound w → Published w id p → (c : Call) → (c ≡ drop id → refusal_to w c ≡ 0 → ⊥)
      → Published (next w c) id p × (byte_at (next w c) id p ≡ byte_at w id p)
  next_byte w s b c d =
      let k = known_true w id b.region in
      let t = next_keeps w id k c d in
      let l = t.later in
      let q = (region_regular w s id k).size in (
        record { region = true_known (next w c) id t.known; below = omega (arith, b.below, l.published) },
        ap (λ (xs : List Range). byte_of xs p) l.extents ∙ byte_behind (region_in w id).extents l.more p (omega (arith, b.below, q)),
      )

  pub byte_stays : (w : World) → Sound w → (cs : List Call) → Published w id p → Keeps w id cs
      → Published (world_after w cs) id p × (byte_at (world_after w cs) id p ≡ byte_at w id p)
  unfolding world_after
  byte_stays w s [] b d = (b, refl)
  byte_stays w s (c ∷ cs) b d =
      let n = next_byte w s b c d.0 in
      let r = byte_stays (next w c) (next_sound w s c) cs n.0 d.1 in
      (r.0, r.1 ∙ n.1)
