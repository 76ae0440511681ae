-- Lists turned into others item by item.
use Prim.Native.Nat.{ℕ, ◌<◌, ◌≤◌}
use mathlib.Core.List.{List, [], ◌∷◌, map}
use mathlib.Core.Path.{◌≡◌, refl, ◌∙◌, sym, ap}
use native.Mathlib.Omega.{arith}
use lib.ListN.{length, get_or, take, get_or-map, length-take}
use Rattle.std.proofs.lemmas.List.{ext_get_or, length-map, get_or-take}
use lib.Seq.{take-length}
use Rattle.accounting.specs.Table.{accounts_of}
use Rattle.plan_record.specs.Plan.{blank_plan}
use Rattle.flat_plan.specs.Lent.{Turned}

module _ {A B : Type 0} (G : A → B → Type 0) (xs : List A) (ys₀ : List B) where
  -- the first n items are turned
  pub record Turning (ys : List B) (n : ℕ) : Type 0 where
    pub long : length ys ≡ length ys₀
    pub at : (i : ℕ) (x : A) (y : B) → i < n → i < length ys → G (get_or xs i x) (get_or ys i y)

-- where each is h of its item, the front of the list is the other mapped
pub turned_front : {A B : Type 0} {G : A → B → Type 0} (h : A → B) (xs : List A) (ys₀ ys : List B) → Turned G xs ys₀ ys → length xs ≤ length ys₀
    → ((x : A) (y : B) → G x y → y ≡ h x) → take (length xs) ys ≡ map h xs
turned_front h [] ys₀ ys t l k = refl
turned_front {A} {B} h (x ∷ xs) ys₀ ys t l k =
    let all = x ∷ xs in
    let e : length (take (length all) ys) ≡ length (map h all) = simp (length-take, length-map) (omega (arith, t.long, l)) in
    ext_get_or (h x) (take (length all) ys) (map h all) e
    (λ i b.
    let m : i < length all = omega (arith, b, length-take (length all) ys) in
    get_or-take (length all) ys i (h x) m ∙ k _ _ (t.at i x (h x) m (omega (arith, m, t.long, l))) ∙ sym (get_or-map h all i x))

-- and the whole list, where it is as long
pub turned_map : {A B : Type 0} {G : A → B → Type 0} (h : A → B) (xs : List A) (ys₀ ys : List B) → Turned G xs ys₀ ys → length xs ≡ length ys₀
    → ((x : A) (y : B) → G x y → y ≡ h x) → ys ≡ map h xs
turned_map h xs ys₀ ys t l k =
    let e : length ys ≡ length xs = t.long ∙ sym l in
    sym (take-length ys) ∙ ap (λ n. take n ys) e ∙ turned_front h xs ys₀ ys t (omega (arith, l)) k

-- the accounts of a blank plan are full
pub blank_rows : length blank_plan.accounts.rows ≡ 96
unfolding accounts_of
blank_rows = refl
