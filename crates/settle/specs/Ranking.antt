-- Ranks of sequence numbers, by keys: a key is the pair (number, place of its record). `settle` promises nothing by these.
use Rattle.std.specs.Prelude.{ℕ, ◌+◌, ◌<◌, List, ◌≡◌, ltb, leb, length, get_or}
use Rattle.numbers.specs.Lists.{All, keep}
use Rattle.numbers.specs.Pairs.{pairs}
use Rattle.numbers.specs.Range.{Range, range, blank}

-- The pairs of s from first on are the numbers with their places; those in front are kept.
pub record Keyed (seqs : List ℕ) (first : ℕ) (s₀ s : List ℕ) : Type 0 where
  pub size : length s ≡ length s₀
  pub new : (i : ℕ) → i < length seqs → get_or (pairs s) (first + i) blank ≡ range (get_or seqs i 0) (first + i)
  pub old : (j : ℕ) → j < first → get_or (pairs s) j blank ≡ get_or (pairs s₀) j blank

-- How many keys have a lower number.
unfoldable pub below : List Range → ℕ → ℕ
below keys s = length (keep (λ (p : Range). ltb p.offset s) keys)

-- Each place occurs with one number alone.
abbrev pub Steady : List Range → Type 0
Steady keys = All (λ (p : Range). All (λ (q : Range). p.len ≡ q.len → p.offset ≡ q.offset) keys) keys

-- Keys whose places are below m.
pub record Keys (keys : List Range) (m : ℕ) : Type 0 where
  pub places : All (λ (p : Range). p.len < m) keys
  pub steady : Steady keys

-- The places of all keys have the ranks of their numbers.
pub record Ranked (keys : List Range) (ranks : List ℕ) : Type 0 where
  pub rank : (s : ℕ) → s < length keys → get_or ranks (get_or keys s blank).len 0 ≡ below keys (get_or keys s blank).offset

-- Ranks stand in the order of the numbers.
pub record Ranks (seqs ranks : List ℕ) : Type 0 where
  pub order : (a b : ℕ) → a < length seqs → b < length seqs → leb (get_or ranks a 0) (get_or ranks b 0) ≡ leb (get_or seqs a 0) (get_or seqs b 0)
  pub small : (a : ℕ) → a < length seqs → get_or ranks a 0 < length seqs
