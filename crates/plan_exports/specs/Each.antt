-- Calls one after another, each with the promise of the single call: what the loops for the benchmark do.
use Rattle.plan_record.specs.Plan.{Reply}
use Rattle.std.specs.Prelude.{ℕ, ◌+◌, Bool, true, false, ◌||◌, cond, List, [], ◌∷◌, ◌≡◌, ltb, eqb, length, get_or, set, drop, is_ok, Ok, None}
use Rattle.flat.specs.Chain.{Chain}
use Rattle.flat_plan.specs.Plan.{plan_from, flat_plan, flat_reply}
use Rattle.flat_plan.specs.declared.FlatPlan.{FlatPlan}
use Rattle.plan.specs.Calls.{Changes, Leaves, Grows, Locates}
use Rattle.plan_exports.specs.declared.each.FlatEach.{FlatEach}
use Rattle.plan_record.specs.declared.Outcome.{Outcome}
use Rattle.plan_record.specs.declared.Plan.{Plan}
use Rattle.model.specs.Calls as model

-- A region, and a number: a position of it, or a length.
pub record Asked : Type 0 where
  pub id : ℕ
  pub number : ℕ

-- A number for each region of a list.
unfoldable pub askeds : List ℕ → List ℕ → List Asked
askeds [] ns = []
askeds (i ∷ is) ns = record { id = i; number = get_or ns 0 0 } ∷ askeds is (drop 1 ns)

-- ---- calls that may change the plan

-- A call's code, its region and its number.
pub record Coded : Type 0 where
  pub code : ℕ
  pub id : ℕ
  pub number : ℕ

unfoldable pub codeds : List ℕ → List ℕ → List ℕ → List Coded
codeds [] is ns = []
codeds (c ∷ cs) is ns = record { code = c; id = get_or is 0 0; number = get_or ns 0 0 } ∷ codeds cs (drop 1 is) (drop 1 ns)

-- What a call promises by its code: 0 is create, 1 grow, 2 publish, any other drop.
pub record Calls (code id number tag : ℕ) (name : List ℕ) (p : Plan) (xs₀ ss₀ fs₀ xs ss fs : List ℕ) (r : Outcome) : Type 0 where
  pub created : eqb code 0 ≡ true → Leaves p (model.create id tag name) xs₀ ss₀ fs₀ xs ss fs r
  pub grown : eqb code 1 ≡ true → Grows p (model.grow id) id xs₀ ss₀ fs₀ xs ss fs r
  pub published : eqb code 2 ≡ true → Changes p (model.publish id number) r × (xs ≡ xs₀) × (ss ≡ ss₀) × (fs ≡ fs₀)
  pub dropped : (eqb code 0 || eqb code 1 || eqb code 2) ≡ false → Leaves p (model.drop id) xs₀ ss₀ fs₀ xs ss fs r

-- A plan with its lists, how many calls were accepted, and what the last one answered.
pub record Calling : Type 0 where
  pub plan : Plan
  pub extents : List ℕ
  pub starts : List ℕ
  pub files : List ℕ
  pub accepted : ℕ
  pub last : Reply

abbrev pub calling : Plan → (xs ss fs : List ℕ) → ℕ → Reply → Calling
calling p xs ss fs k r = record { plan = p; extents = xs; starts = ss; files = fs; accepted = k; last = r }

-- One call, on the plan and the lists that the last one left.
pub record Called (tag : ℕ) (name : List ℕ) (x : Coded) (s t : Calling) : Type 0 where
  pub outcome : Outcome
  pub promise : Calls x.code x.id x.number tag name s.plan s.extents s.starts s.files t.extents t.starts t.files outcome
  pub plan : t.plan ≡ outcome.plan
  pub count : t.accepted ≡ s.accepted + cond (is_ok outcome.reply) 1 0
  pub last : t.last ≡ outcome.reply

-- None is made where there are fewer regions or numbers than codes.
abbrev pub too_few : (cs is ns : List ℕ) → Bool
too_few cs is ns = ltb (length is) (length cs) || ltb (length ns) (length cs)

pub record CallsEach (tag : ℕ) (name cs is ns : List ℕ) (flat : FlatPlan) (xs₀ ss₀ fs₀ xs ss fs : List ℕ) (r : FlatEach) : Type 0 where
  pub short : too_few cs is ns ≡ true → (r ≡ record { accepted = 0; last = flat_reply (Ok None); plan = flat }) × (xs ≡ xs₀) × (ss ≡ ss₀) × (fs ≡ fs₀)
  pub each : too_few cs is ns ≡ false
      → (p : Plan) × (a : Reply) × Chain (Called tag name) (codeds cs is ns) (calling (plan_from flat) xs₀ ss₀ fs₀ 0 (Ok None)) (calling p xs ss fs r.accepted a)
      × (r.plan ≡ flat_plan p) × (r.last ≡ flat_reply a)

-- ---- locate

-- The values told, how many positions were asked for, and how many were located.
pub record Locating : Type 0 where
  pub bytes : List ℕ
  pub asked : ℕ
  pub located : ℕ

abbrev pub locating : List ℕ → ℕ → ℕ → Locating
locating bs i k = record { bytes = bs; asked = i; located = k }

-- One call of `locate`, of length n.
pub record Locate (p : Plan) (ss fs : List ℕ) (n : ℕ) (x : Asked) (s t : Locating) : Type 0 where
  pub reply : Reply
  pub promise : Locates p x.id x.number n ss fs reply
  pub bytes : t.bytes ≡ set s.bytes s.asked (flat_reply reply).value
  pub next : t.asked ≡ s.asked + 1
  pub count : t.located ≡ s.located + cond (eqb (flat_reply reply).kind 1) 1 0

-- Nothing is asked where there are fewer positions, or places for bytes, than regions.
pub record LocatesEach (p : Plan) (ss fs : List ℕ) (n : ℕ) (is ps bs₀ bs : List ℕ) (r : ℕ) : Type 0 where
  pub short : too_few is ps bs₀ ≡ true → (r ≡ 0) × (bs ≡ bs₀)
  pub each : too_few is ps bs₀ ≡ false
      → Chain (Locate p ss fs n) (askeds is ps) (locating bs₀ 0 0) (locating bs (length is) r)
