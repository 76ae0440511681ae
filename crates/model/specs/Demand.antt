-- Document 01, "Demand 3 is one claim about the list", of the model: what is claimed of the world after every list of calls on an
-- opened plan. `demand` (proofs/Demand) proves it.
use Rattle.std.specs.Prelude.{ℕ, ◌+◌, ◌-◌, ◌≤◌, ◌<◌, true, false, List, [], ◌∷◌, ◌≡◌, Some}
use Rattle.model.specs.Calls.{Call, create, grow, drop, locate, known, region_in, header_len, create_tests, step_len, grow_tests, refusal_to, answer_to, next, world_after}
use Rattle.model.specs.Span.{FreeSpan, LeastFree}
use Rattle.model.specs.World.{World, held, free, physical, logical}
use Rattle.numbers.specs.Refusals.{accepted, refused, first}
use Rattle.numbers.specs.Sums.{top}
use Rattle.runs.specs.Runs.{byte_of}

-- Position p of the region id is published.
pub record Published (w : World) (id p : ℕ) : Type 0 where
  pub region : known w id ≡ true
  pub below : p < (region_in w id).published

-- Its byte: that of the region's own extents laid end to end.
abbrev pub byte_at : World → ℕ → ℕ → ℕ
byte_at w id p = byte_of (region_in w id).extents p

-- No call of a list is an accepted drop of the region id.
abbrev pub Keeps : World → ℕ → List Call → Type 0
Keeps w id [] = Unit {0}
Keeps w id (c ∷ cs) = (c ≡ drop id → refusal_to w c ≡ 0 → ⊥) × Keeps (next w c) id cs

-- A call that wants n bytes, and the tests before that of room: where they pass, it is refused for room where no span is free, and
-- nowhere else; where one is free, it takes the lowest.
pub record Room (w : World) (tests : List ℕ) (n : ℕ) (c : Call) : Type 0 where
  pub full : first tests ≡ 0 → ((p : ℕ) → FreeSpan w n p → ⊥) → answer_to w c ≡ refused 22
  pub only_full : answer_to w c ≡ refused 22 → (p : ℕ) → FreeSpan w n p → ⊥
  pub placed : first tests ≡ 0 → (p : ℕ) → FreeSpan w n p → (a : ℕ) × LeastFree w n a × (answer_to w c ≡ accepted (Some a))

pub record Demand (w : World) : Type 0 where
  -- every published position is located, at the byte of the region's own extents laid end to end
  pub located : (id p : ℕ) → Published w id p → answer_to w (locate id p 1) ≡ accepted (Some (byte_at w id p))
  -- different pairs of region and position have different bytes
  pub own : (id p jd q : ℕ) → Published w id p → Published w jd q → byte_at w id p ≡ byte_at w jd q → (id ≡ jd) × (p ≡ q)
  -- such a byte stays until an accepted drop of the region
  pub stays : (id p : ℕ) (cs : List Call) → Published w id p → Keeps w id cs
      → Published (world_after w cs) id p × (byte_at (world_after w cs) id p ≡ byte_at w id p)
  -- a dropped region is unknown, so that one created again under its number is another
  pub forgets : (id : ℕ) → known (next w (drop id)) id ≡ false
  -- held and free make up the container behind its table
  pub figures : held w + free w ≡ w.limits.file_len - w.limits.table_end
  -- no tag's total passes 2^64 - 1, so that the accounts, whose sums stop there, can tell it
  pub totals : (tag : ℕ) → (physical w tag ≤ top) × (logical w tag ≤ top)
  -- room is refused exactly when no span is free
  pub create_room : (id tag : ℕ) (name : List ℕ) → Room w (create_tests w id tag name) (header_len w) (create id tag name)
  pub grow_room : (id : ℕ) → Room w (grow_tests w id) (step_len w (region_in w id)) (grow id)
