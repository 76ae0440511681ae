-- Calls one after another, each with the promise of the single call: what the loops for the benchmark do.
use Rattle.std.specs.Prelude.{ℕ, ◌+◌, max, Bool, true, false, cond, List, [], ◌∷◌, ◌≡◌, ltb, length, get_or, drop, set, Result, Ok, Err, is_ok}
use Rattle.std.specs.Option.{unwrap_or}
use Rattle.align.specs.Align.{align_up}
use Rattle.accounting.specs.declared.entries.Usage.{Usage}
use Rattle.accounting.specs.Table.{Posts, Asks, Allows, on_row}
use Rattle.accounting.specs.declared.Accounting.{Accounting}
use Rattle.accounting.specs.declared.Asked.{Asked}
use Rattle.accounting.specs.declared.Posted.{Posted}
use Rattle.exports.specs.Accounts.{flat_posted, fits_in}
use Rattle.exports.specs.Flat.{Flattened}
use Rattle.exports.specs.declared.accounts.FlatPosted.{FlatPosted}
use Rattle.flat.specs.Chain.{Chain}
use Rattle.flat.specs.declared.FlatAnswer.{FlatAnswer}
use Rattle.flat.specs.declared.FlatAccounting.{FlatAccounting}
use Rattle.numbers.specs.Range.{Range}
use Rattle.numbers.specs.Refusals.{value_or, told, refusal_in}
use Rattle.numbers.specs.declared.refusal.Refusal.{Refusal}
use Rattle.regionmap.specs.Map.{Published, Extended, Answered}
use Rattle.regionmap.specs.RunRecords.{AnsweredAmong}
use Rattle.regionmap.specs.declared.RegionMap.{RegionMap}
use Rattle.runs.specs.declared.Run.{Run}
use Rattle.tagspace.specs.Row.{add_usage, remove_usage}
use Rattle.tagspace.specs.declared.TagSpace.{TagSpace}

-- ---- places

-- One place of a value and its align; where it has none the greatest so far stays.
abbrev pub AlignUp : Range → ℕ → ℕ → Type 0
AlignUp r s t = t ≡ max s (unwrap_or (align_up r.offset r.len) 0)

-- ---- the region map

-- A map with its lists, and how many calls were accepted.
pub record Extending : Type 0 where
  pub map : RegionMap
  pub starts : List ℕ
  pub files : List ℕ
  pub accepted : ℕ

abbrev pub extending : RegionMap → List ℕ → List ℕ → ℕ → Extending
extending m ss fs k = record { map = m; starts = ss; files = fs; accepted = k }

-- One call of `extend`; where it is refused the map stays.
pub record Extend (x : Range) (s t : Extending) : Type 0 where
  pub answer : Result RegionMap Refusal
  pub promise : Extended s.map x.offset x.len s.starts t.starts s.files t.files answer
  pub map : t.map ≡ value_or s.map (told answer)
  pub count : t.accepted ≡ s.accepted + cond (is_ok answer) 1 0

pub record Publishing : Type 0 where
  pub map : RegionMap
  pub accepted : ℕ

abbrev pub publishing : RegionMap → ℕ → Publishing
publishing m k = record { map = m; accepted = k }

-- One call of `publish_len`.
pub record Publish (n : ℕ) (s t : Publishing) : Type 0 where
  pub answer : Result RegionMap Refusal
  pub promise : Published s.map n answer
  pub map : t.map ≡ value_or s.map (told answer)
  pub count : t.accepted ≡ s.accepted + cond (is_ok answer) 1 0

-- The bytes found, how many positions were asked for, and how many were located.
pub record Locating : Type 0 where
  pub bytes : List ℕ
  pub asked : ℕ
  pub located : ℕ

abbrev pub locating : List ℕ → ℕ → ℕ → Locating
locating bs i k = record { bytes = bs; asked = i; located = k }

-- A byte goes to its place in the list, a refusal leaves it.
abbrev pub noted : Result ℕ Refusal → ℕ → List ℕ → List ℕ
noted (Ok b) i bs = set bs i b
noted (Err e) i bs = bs

-- One lookup of a position p, whose answer P promises.
pub record Locate (P : ℕ → Result ℕ Refusal → Type 0) (p : ℕ) (s t : Locating) : Type 0 where
  pub place : Result ℕ Refusal
  pub promise : P p place
  pub bytes : t.bytes ≡ noted place s.asked s.bytes
  pub next : t.asked ≡ s.asked + 1
  pub count : t.located ≡ s.located + cond (is_ok place) 1 0

-- Nothing is asked where there are fewer places for bytes than positions.
pub record LocatedEach (P : ℕ → Result ℕ Refusal → Type 0) (ps bs₀ bs : List ℕ) (r : ℕ) : Type 0 where
  pub short : ltb (length bs₀) (length ps) ≡ true → (r ≡ 0) × (bs ≡ bs₀)
  pub each : ltb (length bs₀) (length ps) ≡ false → Chain (Locate P) ps (locating bs₀ 0 0) (locating bs (length ps) r)

-- The promise of each lookup, on a map with its lists and among run records.
abbrev pub on_map : RegionMap → List ℕ → List ℕ → ℕ → ℕ → Result ℕ Refusal → Type 0
on_map m ss fs n p r = Answered m p n ss fs r

abbrev pub among_runs : List Run → ℕ → ℕ → ℕ → Result ℕ Refusal → Type 0
among_runs rs len n p r = AnsweredAmong rs len p n r

-- ---- the accounts

-- A usage added, or removed.
abbrev pub rule_of : Bool → Usage → TagSpace → TagSpace
rule_of true u = remove_usage u.logical u.physical
rule_of false u = add_usage u.logical u.physical

-- No posting yet.
abbrev pub unposted : Accounting → Posted
unposted a = record { answer = Ok tt; accounts = a }

-- One posting, on the accounts that the last one handed back.
abbrev pub Post : Bool → Usage → Posted → Posted → Type 0
Post remove u s t = Posts s.accounts (on_row u.tag (rule_of remove u)) t

-- 1 and the accounts as they came where the lists differ in length, else what the last posting hands back, 0 and the accounts where
-- there is none.
pub record PostsEach (bad remove : Bool) (us : List Usage) (flat : FlatAccounting) (a : Accounting) (r : FlatPosted) : Type 0 where
  pub refused : bad ≡ true → r ≡ record { refusal = 1; accounts = flat }
  pub each : bad ≡ false → Flattened flat_posted (Chain (Post remove) us (unposted a)) r

-- One usage more, its data bytes and those that it occupies, on a row by itself.
abbrev pub CountRow : Range → TagSpace → TagSpace → Type 0
CountRow u s t = t ≡ add_usage u.offset u.len s

-- A tag, and what is asked for.
pub record Question : Type 0 where
  pub tag : ℕ
  pub extra : ℕ

unfoldable pub questions : List ℕ → List ℕ → List Question
questions [] es = []
questions (t ∷ ts) es = record { tag = t; extra = get_or es 0 0 } ∷ questions ts (drop 1 es)

-- What the last question was answered, and how many fit.
pub record Asking : Type 0 where
  pub asked : Asked
  pub fit : ℕ

abbrev pub asking : Asked → ℕ → Asking
asking r k = record { asked = r; fit = k }

-- No question yet.
abbrev pub unasked : Accounting → Asked
unasked a = record { answer = Ok false; accounts = a }

-- One question.
pub record Ask (q : Question) (s t : Asking) : Type 0 where
  pub promise : Asks s.asked.accounts q.tag q.extra t.asked
  pub count : t.fit ≡ s.fit + cond (fits_in t.asked) 1 0

-- 1 and 0 where the lists differ in length, else the last refusal and how many fit.
pub record AsksEach (bad : Bool) (qs : List Question) (a : Accounting) (r : FlatAnswer) : Type 0 where
  pub refused : bad ≡ true → r ≡ record { refusal = 1; value = 0 }
  pub each : bad ≡ false → (t : Asking) × Chain Ask qs (asking (unasked a) 0) t × (r ≡ record { refusal = refusal_in t.asked.answer; value = t.fit })

-- One question of accounts that stay as they are, by how many were answered yes.
pub record Allow (a : Accounting) (q : Question) (s t : ℕ) : Type 0 where
  pub answer : Result Bool Refusal
  pub promise : Allows a q.tag q.extra answer
  pub count : t ≡ s + cond (value_or false (told answer)) 1 0

-- 0 where the lists differ in length, else how many questions are answered yes.
pub record AllowsEach (bad : Bool) (qs : List Question) (a : Accounting) (r : ℕ) : Type 0 where
  pub refused : bad ≡ true → r ≡ 0
  pub each : bad ≡ false → Chain (Allow a) qs 0 r
