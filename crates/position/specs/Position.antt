-- THE POSITION THEOREM. Document 01, "Demand 3 is one claim about the list, not one for each call."
--
-- Of every call of open that the model accepts, and every list of calls on the plan that it handed back, refused ones included. On one
-- side stand the model's regions, tags, extents, footprints, published lengths and held bytes, which follow "from open's arguments and the
-- calls alone, not from the plan's record or answers"; on the other the plan's own answers, its figures for held and free, and its tag
-- totals, as its functions return them. `position` (proofs/Position) proves it.
use Rattle.std.specs.Prelude.{ℕ, ◌+◌, ◌-◌, false, List, [], ◌∷◌, ◌≡◌, Option, Some, Ok, None}
use Rattle.model.specs.Calls.{Call, create, grow, publish, drop, cap, locate, known, region_in, header_len, step_len, create_tests, grow_tests, next, world_after, answers_along}
use Rattle.model.specs.Demand.{Published, byte_at, Keeps}
use Rattle.model.specs.Open.{open_refusal, opened}
use Rattle.model.specs.Span.{FreeSpan, LeastFree}
use Rattle.model.specs.World.{World, held, free, physical, logical}
use Rattle.numbers.specs.Refusals.{Answer, accepted, refused, first}
use Rattle.plan.proofs.cap.Statement as cap_code
use Rattle.plan.proofs.create.Statement as create_code
use Rattle.plan.proofs.drop.Statement as drop_code
use Rattle.plan.proofs.grow.Statement as grow_code
use Rattle.plan.proofs.locate.Statement as locate_code
use Rattle.plan.proofs.publish.Statement as publish_code
use Rattle.plan_open.proofs.open.Statement as open_code
use Rattle.plan_record.proofs.Plan.free.Statement as free_code
use Rattle.plan_record.proofs.Plan.held.Statement as held_code
use Rattle.plan_record.proofs.Plan.logical.Statement as logical_code
use Rattle.plan_record.proofs.Plan.physical.Statement as physical_code
use Rattle.plan_record.specs.Plan.{reply_of, Reply}
use Rattle.plan_record.specs.declared.Outcome.{Outcome}
use Rattle.position.specs.Runs.{Whole, Loan, Loans, Arguments, OpensWith, opening_with, with_plan, Run, Locates, TellsHeld, TellsFree, TellsPhysical, TellsLogical}

-- ---- room

-- Room is refused exactly when no span is free: of a call that wants n bytes, with the tests before that of room, in the world just
-- before it, and the plan's answer to it.
pub record TellsRoom (w : World) (tests : List ℕ) (n : ℕ) (a : Answer (Option ℕ)) : Type 0 where
  -- it passes every earlier check, and no span is free: refused for room
  pub full : first tests ≡ 0 → ((p : ℕ) → FreeSpan w n p → ⊥) → a ≡ refused 22
  -- refused for room: no span is free
  pub only_full : a ≡ refused 22 → (p : ℕ) → FreeSpan w n p → ⊥
  -- it passes every earlier check, and some span is free: it is placed at the lowest
  pub placed : first tests ≡ 0 → (p : ℕ) → FreeSpan w n p → (b : ℕ) × LeastFree w n b × (a ≡ accepted (Some b))

-- Of each create and grow in a list, with the answers to the list.
abbrev pub RoomFor : World → Call → Answer (Option ℕ) → Type 0
RoomFor w (create id tag name) a = TellsRoom w (create_tests w id tag name) (header_len w) a
RoomFor w (grow id) a = TellsRoom w (grow_tests w id) (step_len w (region_in w id)) a
RoomFor w (publish id len) a = Unit {0}
RoomFor w (drop id) a = Unit {0}
RoomFor w (cap tag limit) a = Unit {0}
RoomFor w (locate id pos n) a = Unit {0}

abbrev pub Rooms : World → List Call → List (Answer (Option ℕ)) → Type 0
Rooms w [] ns = Unit {0}
Rooms w (c ∷ cs) [] = ⊥
Rooms w (c ∷ cs) (a ∷ ns) = RoomFor w c a × Rooms (next w c) cs ns

-- ---- after a list of calls

-- The list cs, answered by ns, began in the world w₀ and left the plan h; w is the model's world after it.
pub record After (w₀ : World) (cs : List Call) (ns : List (Answer (Option ℕ))) (h : Whole) (w : World) : Type 0 where
  -- every answer of the list is the one defined
  pub answers : ns ≡ answers_along w₀ cs
  -- 1. every published position is located, at the byte of the region's own extents laid end to end
  pub located : (l : Loans) (id p : ℕ) (r : Reply) → Published w id p → Locates l h id p 1 r → reply_of r ≡ accepted (Some (byte_at w id p))
  -- 2. different pairs, different bytes: of region and published position
  pub own : (l m : Loans) (id p jd q : ℕ) (r s : Reply) → Published w id p → Published w jd q → Locates l h id p 1 r → Locates m h jd q 1 s
      → reply_of r ≡ reply_of s → (id ≡ jd) × (p ≡ q)
  -- 3. such a byte stays until an accepted drop: over every later list without an accepted drop of the region, the position stays
  -- published and locate gives the same byte
  pub stays : (l m : Loans) (id p : ℕ) (r s : Reply) (ds : List Call) (ms : List (Answer (Option ℕ))) (k : Whole) → Run h ds ms k → Keeps w id ds
      → Published w id p → Locates l h id p 1 r → Locates m k id p 1 s → Published (world_after w ds) id p × (reply_of s ≡ reply_of r)
  -- a dropped number is unknown, so that one created again is another region
  pub forgets : (id : ℕ) → known (next w (drop id)) id ≡ false
  -- 4. held + free = length - table end: the plan's held is the sum of footprints, its free that of the gaps
  pub held_is : (l : Loan) (r : ℕ) → TellsHeld l h r → r ≡ held w
  pub free_is : (l : Loan) (r : ℕ) → TellsFree l h r → r ≡ free w
  pub figures : (l m : Loan) (r s : ℕ) → TellsHeld l h r → TellsFree m h s → r + s ≡ w.limits.file_len - w.limits.table_end
  -- 5. tag totals, of every tag, one without a row included: "physical totals count footprints, logical ones published lengths"
  pub physical_is : (l : Loan) (tag r : ℕ) → TellsPhysical l h tag r → r ≡ physical w tag
  pub logical_is : (l : Loan) (tag r : ℕ) → TellsLogical l h tag r → r ≡ logical w tag
  -- 6. a create or grow that passes every earlier check is refused for room exactly when no span is free, just before it
  pub rooms : Rooms w₀ cs ns

-- ---- the theorem

-- Of open's call: l, q, a and b say how the plan's lists, the records, the listed extents and scratch were lent (specs/Runs); o is
-- its arguments, s and t scratch before and after, h and k the plan with its lists before and after, r what it answered. Of the list:
-- cs and ns are the calls and their answers, j what they leave.
pub record Position : Type 2 where
  -- The code meets the contracts that the calls are told by: a `statement` is the type of a function's own theorem. `Statement`, `Reads`
  -- and `specs.declared` are made from src/ by the check.
  pub opens : {M : Type 1} → open_code.statement M
  pub creates : {M : Type 1} → create_code.statement M
  pub grows : {M : Type 1} → grow_code.statement M
  pub publishes : {M : Type 1} → publish_code.statement M
  pub drops : {M : Type 1} → drop_code.statement M
  pub caps : {M : Type 1} → cap_code.statement M
  pub locates : {M : Type 1} → locate_code.statement M
  pub tells_held : {M : Type 1} → held_code.statement M
  pub tells_free : {M : Type 1} → free_code.statement M
  pub tells_physical : {M : Type 1} → physical_code.statement M
  pub tells_logical : {M : Type 1} → logical_code.statement M
  -- open accepts where the model accepts its arguments, and only there
  pub accepts : (l : Loans) (q a b : Loan) (o : Arguments) (s t : List ℕ) (h k : Whole) (r : Outcome) → OpensWith l q a b o s h r t k
      → open_refusal (opening_with o s h) ≡ 0 → r.reply ≡ Ok None
  pub only_then : (l : Loans) (q a b : Loan) (o : Arguments) (s t : List ℕ) (h k : Whole) (r : Outcome) → OpensWith l q a b o s h r t k
      → r.reply ≡ Ok None → open_refusal (opening_with o s h) ≡ 0
  -- the claim about the list
  pub claim : (l : Loans) (q a b : Loan) (o : Arguments) (s t : List ℕ) (h k : Whole) (r : Outcome) → OpensWith l q a b o s h r t k
      → open_refusal (opening_with o s h) ≡ 0
      → (cs : List Call) (ns : List (Answer (Option ℕ))) (j : Whole) → Run (with_plan k r.plan) cs ns j
      → After (opened (opening_with o s h)) cs ns j (world_after (opened (opening_with o s h)) cs)
