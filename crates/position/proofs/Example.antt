-- The example's opening is the model's.
use Prim.Native.Nat.{ℕ}
use mathlib.Core.Path.{◌≡◌, ap, ◌∙◌}
use lib.ListN.{replicate}
use Rattle.model.specs.Open.{Opening, open_refusal}
use Rattle.model.specs.Opens.{two}
use Rattle.plan_open.specs.Open.{least_of}
use Rattle.position.specs.Example.{arguments, scratch, lists, Example}
use Rattle.position.specs.Runs.{opening_with}
use Rattle.model.proofs.Opens.{opens}
use Rattle.numbers.proofs.Pairs.{length_pairs}

-- the model's example with so many places
abbrev placed : ℕ → Opening
placed n = record { limits = two.limits; records = two.records; extents = two.extents; scratch = 128; places = n }

says : opening_with arguments scratch lists ≡ two
says = ap (λ (n : ℕ). placed (least_of n 3840 3840)) (length_pairs (replicate 7680 0))

pub example : Example
example = record { opening = says; accepted = ap open_refusal says ∙ opens.0.number }
