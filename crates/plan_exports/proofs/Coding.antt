-- A call by its code.
use Prim.Native.Nat.{ℕ}
use mathlib.Core.Bool.{false}
use mathlib.Core.List.{List}
use mathlib.Core.Path.{◌≡◌, refl}
use lib.Dec.{eqb}
use Rattle.plan.specs.Calls.{Changes, Leaves, Grows}
use Rattle.plan_exports.specs.Each.{Calls}
use Rattle.plan_record.specs.declared.Outcome.{Outcome}
use Rattle.plan_record.specs.declared.Plan.{Plan}
use Rattle.numbers.proofs.Cases.{clash}
use Rattle.model.specs.Calls as model

module _ {code id number tag : ℕ} {name : List ℕ} {p : Plan} {xs₀ ss₀ fs₀ xs ss fs : List ℕ} {r : Outcome} where
  pub by_create : code ≡ 0 → Leaves p (model.create id tag name) xs₀ ss₀ fs₀ xs ss fs r
      → Calls code id number tag name p xs₀ ss₀ fs₀ xs ss fs r
  by_create z h = record { created = λ e. h; grown = λ e. clash e (rw z refl); published = λ e. clash e (rw z refl); dropped = λ e. clash (rw z refl) e }

  pub by_grow : code ≡ 1 → Grows p (model.grow id) id xs₀ ss₀ fs₀ xs ss fs r → Calls code id number tag name p xs₀ ss₀ fs₀ xs ss fs r
  by_grow z h = record { created = λ e. clash e (rw z refl); grown = λ e. h; published = λ e. clash e (rw z refl); dropped = λ e. clash (rw z refl) e }

  pub by_drop : eqb code 0 ≡ false → eqb code 1 ≡ false → eqb code 2 ≡ false → Leaves p (model.drop id) xs₀ ss₀ fs₀ xs ss fs r
      → Calls code id number tag name p xs₀ ss₀ fs₀ xs ss fs r
  by_drop a b c h = record { created = λ e. clash e a; grown = λ e. clash e b; published = λ e. clash e c; dropped = λ e. h }

module _ {code id number tag : ℕ} {name : List ℕ} {p : Plan} {xs ss fs : List ℕ} {r : Outcome} where
  pub by_publish : code ≡ 2 → Changes p (model.publish id number) r → Calls code id number tag name p xs ss fs xs ss fs r
  by_publish z h = record { created = λ e. clash e (rw z refl); grown = λ e. clash e (rw z refl); published = λ e. (h, refl, refl, refl); dropped = λ e. clash (rw z refl) e }
