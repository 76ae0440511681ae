-- Names at the front of 24 bytes.
use lib.Dec.{eqb}
use lib.Pointwise.{pointwise}
use Rattle.std.specs.List.{list_any}
use Prim.Native.Nat.{ℕ, ◌≤◌}
use mathlib.Core.Bool.{false, Bool}
use mathlib.Core.List.{List}
use mathlib.Core.Path.{◌≡◌, ap, sym, ◌∙◌}
use native.Mathlib.Omega.{arith}
use lib.ListN.{length, take, replicate, length-take, length-append, length-replicate}
use lib.Seq.{take-append-le}
use Rattle.numbers.specs.Lists.{any, same}
use Rattle.plan_record.specs.Inner.{has_name}
use Rattle.plan_record.specs.Promises.{Named}
use Rattle.plan_record.specs.Plan.{regions_of}
use Rattle.plan_record.specs.Record.{name_of}
use Rattle.plan_record.specs.declared.Plan.{Plan}
use Rattle.numbers.proofs.Cases.{never}
use Rattle.plan_record.proofs.Counted.{counted_are}
use Rattle.numbers.proofs.Lists.{same_true, list_any_is, pointwise_same, same_swap}

module _ (bytes : List ℕ) (n : ℕ) where
  pub name_front : n ≤ length bytes → name_of bytes n ≡ take n bytes
  name_front h = take-append-le n bytes (replicate n 0) h

  pub name-length : length (name_of bytes n) ≡ n
  name-length = simp (length-take, length-append, length-replicate) (omega arith)

-- ---- two names compared

-- names of different lengths differ
pub other_length : (bytes : List ℕ) (n : ℕ) (name : List ℕ) → (n ≡ length name → ⊥) → same (name_of bytes n) name ≡ false
other_length bytes n name d = never _ (λ t. d (sym (name-length bytes n) ∙ ap length (same_true _ _ t)))

-- one of the same length is the front of the bytes
pub same_length : (bytes : List ℕ) (n : ℕ) (name : List ℕ) → length bytes ≡ 24 → length name ≤ 24 → n ≡ length name
    → pointwise eqb name (take (length name) bytes) ≡ same (name_of bytes n) name
same_length bytes n name full h e =
    pointwise_same name (take (length name) bytes) ∙ same_swap name (take (length name) bytes)
    ∙ ap (λ (l : List ℕ). same l name) (ap (λ (k : ℕ). take k bytes) (sym e) ∙ sym (name_front bytes n (omega arith)))

pub named_told : (p : Plan) (name : List ℕ) (n : ℕ) (b : Bool) → n ≡ length (regions_of p) → b ≡ list_any (has_name name) (take n p.regions) → length name ≤ 24 → Named p name b
named_told p name n b m e h =
    record { long = λ l. absurd (omega arith); told = λ l. e ∙ list_any_is (has_name name) (take n p.regions) ∙ ap (any (has_name name)) (counted_are p n m) }
