-- What the loops ask for, from i on.
use Prim.Native.Nat.{ℕ, ◌+◌, ◌<◌, ◌≤◌}
use mathlib.Core.List.{List, [], ◌∷◌}
use mathlib.Core.Path.{◌≡◌}
use lib.ListN.{length, get_or, drop, drop_of_length-le}
use lib.Seq.{drop-drop}
use Rattle.plan_exports.specs.Each.{askeds, codeds}
use Rattle.numbers.proofs.Lists.{at_front, from_here}

module _ (is ns : List ℕ) (i : ℕ) where
  pub askeds_next : i < length is → askeds (drop i is) (drop i ns) ≡ record { id = get_or is i 0; number = get_or ns i 0 } ∷ askeds (drop (i + 1) is) (drop (i + 1) ns)
  unfolding askeds
  askeds_next h = rw (from_here is i 0 h, at_front ns i 0, drop-drop 1 i ns)

  pub askeds_end : length is ≤ i → askeds (drop i is) (drop i ns) ≡ []
  unfolding askeds
  askeds_end h = rw (drop_of_length-le is h)

module _ (cs is ns : List ℕ) (i : ℕ) where
  pub codeds_next : i < length cs
      → codeds (drop i cs) (drop i is) (drop i ns)
      ≡ record { code = get_or cs i 0; id = get_or is i 0; number = get_or ns i 0 } ∷ codeds (drop (i + 1) cs) (drop (i + 1) is) (drop (i + 1) ns)
  unfolding codeds
  codeds_next h = rw (from_here cs i 0 h, at_front is i 0, at_front ns i 0, drop-drop 1 i is, drop-drop 1 i ns)

  pub codeds_end : length cs ≤ i → codeds (drop i cs) (drop i is) (drop i ns) ≡ []
  unfolding codeds
  codeds_end h = rw (drop_of_length-le cs h)
