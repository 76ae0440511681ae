-- Calls one after another.
use Rattle.std.specs.Prelude.{List, [], ◌∷◌, ◌≡◌}

-- Each x leads from the state that the last one left to the next.
abbrev pub Chain : {X S : Type 0} → (X → S → S → Type 0) → List X → S → S → Type 0
Chain R [] s t = s ≡ t
Chain {S = S} R (x ∷ xs) s t = (u : S) × R x s u × Chain R xs u t
