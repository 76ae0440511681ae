-- Document 01, space.rs's `from_usage` and `from_entries`: the accounts of a region table.
use Rattle.std.specs.Prelude.{ℕ, Bool, cond, not, ◌||◌, List, [], ◌∷◌, ◌≡◌, eqb, length, get_or, drop, Option, None, Some, Err}
use Rattle.numbers.specs.declared.refusal.Refusal.TheVariants.{Lists}
use Rattle.tagspace.specs.Row.{add_usage}
use Rattle.accounting.specs.Table.{Table, Valid, accounts_of, on_row, handed}
use Rattle.accounting.specs.declared.Posted.{Posted}
pub use Rattle.accounting.specs.declared.entries.Usage.{Usage}
use Rattle.numbers.specs.Sums.{top}
use Rattle.tagspace.specs.Extent.{extent_len}

-- A number, or another one where there is none.
abbrev pub or_else : ℕ → Option ℕ → ℕ
or_else other None = other
or_else other (Some n) = n

-- "`add` counts 2^64 - 1 where it has none"
abbrev pub added_len : ℕ → ℕ → ℕ
added_len size block = or_else top (extent_len size block)

-- "`remove` counts 0"
abbrev pub removed_len : ℕ → ℕ → ℕ
removed_len size block = or_else 0 (extent_len size block)

-- One region's usage.
abbrev pub usage : ℕ → ℕ → ℕ → Usage
usage tag logical physical = record { tag = tag; logical = logical; physical = physical }

-- The usages whose parts stand in three lists.
unfoldable pub usages : List ℕ → List ℕ → List ℕ → List Usage
usages [] ls ps = []
usages (t ∷ ts) ls ps = usage t (get_or ls 0 0) (get_or ps 0 0) ∷ usages ts (drop 1 ls) (drop 1 ps)

-- The usages of the Ready entries, state 1, of a region table whose fields stand in three lists.
unfoldable pub ready_usages : ℕ → List ℕ → List ℕ → List ℕ → List Usage
ready_usages block ss [] ns = []
ready_usages block ss (t ∷ ts) ns =
    cond (eqb (get_or ss 0 0) 1) (usage t (get_or ns 0 0) (added_len (get_or ns 0 0) block) ∷ ready_usages block (drop 1 ss) ts (drop 1 ns))
    (ready_usages block (drop 1 ss) ts (drop 1 ns))

-- A table with each usage added in turn; `usage_row` (proofs/Words) says what each tag's row is then, from no tags on.
unfoldable pub add_all : List Usage → Table → Table
add_all [] t = t
add_all (u ∷ us) t = add_all us (on_row u.tag (add_usage u.logical u.physical) t)

-- The usages of one tag.
unfoldable pub of_tag : ℕ → List Usage → List Usage
of_tag tag [] = []
of_tag tag (u ∷ us) = cond (eqb u.tag tag) (u ∷ of_tag tag us) (of_tag tag us)

-- The accounts of no tag.
abbrev pub no_tags : Table
no_tags = record { rows = []; total = 0 }

-- 1. "A lent slice is too short": of three lists that are lent together, each has the length of the others.
unfoldable pub differ : List ℕ → List ℕ → List ℕ → Bool
differ xs ys zs = not (eqb (length xs) (length ys)) || not (eqb (length xs) (length zs))

-- What is handed back of usages: 1 where the lists differ in length, 19 for a 97th tag; a refused call hands back no tags.
pub record Counts (bad : Bool) (us : List Usage) (r : Posted) : Type 0 where
  pub answer : r ≡ cond bad (record { answer = Err Lists; accounts = accounts_of no_tags }) (handed no_tags (add_all us no_tags))
  pub valid : Valid r.accounts
