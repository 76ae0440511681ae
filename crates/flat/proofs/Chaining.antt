-- Calls one after another, as a loop makes them.
use Prim.Native.Nat.{◌≤◌}
use mathlib.Core.Bool.{Bool, cond}
use mathlib.Core.List.{List, [], ◌∷◌}
use mathlib.Core.Path.{◌≡◌, refl, sym, subst}
use native.Mathlib.Omega.{arith}
use Rattle.flat.specs.Chain.{Chain}
use Rattle.numbers.proofs.Cases.{cases}
use mir.Val.{bool_byte}

-- whatever leads from s over the rest to t leads from s₀ over all to it
pub record Going {X S : Type 0} (R : X → S → S → Type 0) (all : List X) (s₀ : S) (rest : List X) (s : S) : Type 0 where
  pub go : (t : S) → Chain R rest s t → Chain R all s₀ t

module _ {X S : Type 0} (R : X → S → S → Type 0) (all : List X) (s₀ : S) where
  pub going_begins : (rest : List X) → all ≡ rest → Going R all s₀ rest s₀
  going_begins rest e = record { go = λ t c. subst (λ (l : List X). Chain R l s₀ t) (sym e) c }

  pub going_on : {rest next : List X} {x : X} {s u : S} → Going R all s₀ rest s → rest ≡ x ∷ next → R x s u → Going R all s₀ next u
  going_on {rest} {next} {x} {s} {u} g e r = record { go = λ t c. g.go t (subst (λ (l : List X). Chain R l s t) (sym e) (u, r, c)) }

  pub going_ends : {rest : List X} {s : S} → Going R all s₀ rest s → rest ≡ [] → Chain R all s₀ s
  going_ends {rest} {s} g e = g.go s (subst (λ (l : List X). Chain R l s s) (sym e) refl)

-- a test counted as a number
pub bit_is : (b : Bool) → bool_byte b ≡ cond b 1 0
bit_is b = cases b (λ e. rw e refl) (λ e. rw e refl)

pub bit_low : (b : Bool) → bool_byte b ≤ 1
bit_low b = cases b (λ e. rw e (omega arith)) (λ e. rw e (omega arith))
