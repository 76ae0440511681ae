-- What the steps of the calls do; no public call promises anything by these.
use Rattle.std.specs.Prelude.{ℕ, zero, suc, ◌+◌, ◌-◌, ◌≤◌, ◌<◌, cond, List, [], ◌∷◌, ◌++◌, ◌≡◌, ltb, eqb, get_or, take, drop, Option, Result, Ok, Err}
use Rattle.numbers.specs.declared.refusal.Refusal.TheVariants.{Lists, Full}
use Rattle.tagspace.specs.Row.{blank}
use Rattle.accounting.specs.Table.{Valid, table_of}
use Rattle.accounting.specs.declared.Accounting.{Accounting}
use Rattle.accounting.specs.declared.Posted.{Posted}
use Rattle.accounting.specs.declared.entries.Usage.{Usage}
use Rattle.std.specs.Option.{option_to_list}
use Rattle.tagspace.specs.declared.TagSpace.{TagSpace}
use Rattle.numbers.specs.Lists.{All}

-- A rule leaves a row's tag as it is.
abbrev pub KeepsTag : (TagSpace → TagSpace) → Type 0
KeepsTag rule = (r : TagSpace) → (rule r).tag ≡ r.tag

-- The usages of n places from i on, of those that have one.
abbrev pub gathered : (ℕ → Option Usage) → ℕ → ℕ → List Usage
gathered us i zero = []
gathered us i (suc n) = option_to_list (us i) ++ gathered us (i + 1) n

-- All tags are lower than one, or higher.
abbrev pub Lower : ℕ → List TagSpace → Type 0
Lower tag rs = All (λ (q : TagSpace). q.tag < tag) rs

abbrev pub Higher : ℕ → List TagSpace → Type 0
Higher tag rs = All (λ (q : TagSpace). tag < q.tag) rs

-- A tag's row is at a place.
pub record Known (a : Accounting) (tag at : ℕ) : Type 0 where
  pub few : a.count ≤ 96
  pub inside : at < a.count
  pub own : (get_or a.rows at (blank 0)).tag ≡ tag

-- No row has the tag, and it belongs at a place.
pub record Belongs (a : Accounting) (tag at : ℕ) : Type 0 where
  pub inside : at ≤ a.count
  pub lower : Valid a → Lower tag (take at (table_of a).rows)
  pub higher : Valid a → Higher tag (drop at (table_of a).rows)

-- What the search for a tag finds.
abbrev pub Sought : Accounting → ℕ → Result ℕ ℕ → Type 0
Sought a tag (Ok at) = Known a tag at
Sought a tag (Err at) = Belongs a tag at

-- The array of rows with x behind the first k of its n, and those from k on one place further.
unfoldable pub shifted : ℕ → ℕ → TagSpace → List TagSpace → List TagSpace
shifted k n x rs = take k rs ++ (x ∷ (take (n - k) (drop k rs) ++ drop (suc n) rs))

-- A record with one row more, where there is room.
unfoldable pub inserted : ℕ → TagSpace → Accounting → Posted
inserted k x a =
    cond (ltb 96 a.count) (record { answer = Err Lists; accounts = a })
    (cond (eqb a.count 96) (record { answer = Err Full; accounts = a })
    (record { answer = Ok tt; accounts = record { rows = shifted k a.count x a.rows; count = a.count + 1; reserved = a.reserved } }))
