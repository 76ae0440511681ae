-- What the steps of `settle` do; it promises nothing by these.
use Rattle.std.specs.Prelude.{ℕ, zero, suc, ◌+◌, ◌*◌, ◌/◌, ◌≤◌, ◌<◌, Bool, false, ◌&&◌, ◌||◌, List, [], ◌∷◌, ◌++◌, ◌⊎◌, ◌≡◌, ltb, leb, length, get_or, take, drop}
use Rattle.numbers.specs.Lists.{All, any}
use Rattle.numbers.specs.Pairs.{is_odd, pairs}
use Rattle.settle.specs.Regions.{Lent, Region, regions_of}
use Rattle.settle.specs.Settle.{range_count, overlapped, superseded}

-- A tree of greatest numbers: the leaf of rank k stands at 4,096 + k, and the node n, from 1, above the nodes 16n to
-- 16n + 15. None of them holds more than n, and one holds as much. What stands past the end of t counts as 0.
pub record Tree (t : List ℕ) : Type 0 where
  pub size : length t ≡ 6144
  pub under : (c : ℕ) → 16 ≤ c → get_or t c 0 ≤ get_or t (c / 16) 0
  pub some : (n : ℕ) → 1 ≤ n → n < 4096 → (c : ℕ) × (c / 16 ≡ n) × (get_or t n 0 ≤ get_or t c 0)

-- Some leaf from rank k on holds more than x.
unfoldable pub reach : List ℕ → ℕ → ℕ → Bool
reach t k x = any (ltb x) (drop (4096 + k) t)

-- t after value was put in at a rank.
abbrev pub Raised : (t₀ t : List ℕ) (rank value : ℕ) → Type 0
Raised t₀ t rank value = (k x : ℕ) → reach t k x ≡ (reach t₀ k x || (leb k rank && ltb x value))

-- What it means of a kind's lists that 1 does not apply.
pub record Enough (g : Lent) : Type 0 where
  pub few : g.count ≤ 1024
  pub seqs : g.count ≤ length g.seqs
  pub counts : g.count ≤ length g.counts
  pub lens : g.count ≤ length g.lens
  pub names : 24 * g.count ≤ length g.names
  pub even : is_odd g.ranges ≡ false
  pub ranges : range_count g ≤ length (pairs g.ranges)

-- Each name's length is at most 24; of an unavailable record it may be 255.
abbrev pub Short : Lent → Type 0
Short g = All (λ (n : ℕ). n ≤ 24) (take g.count g.lens)

abbrev pub OwnShort : Lent → Type 0
OwnShort g = All (λ (n : ℕ). (n ≤ 24) ⊎ (n ≡ 255)) (take g.count g.lens)

-- What a list of regions reads past its end.
abbrev pub no_region : Region
no_region = record { seq = 0; ranges = []; named = false; name = [] }

-- What it means that 1 does not apply at all.
pub record Accepted (us un : Lent) (marks scratch : ℕ) : Type 0 where
  pub ours : Enough us
  pub theirs : Enough un
  pub names : Short us
  pub own_names : OwnShort un
  pub few : range_count us + range_count un ≤ 65536
  pub room : us.count ≤ marks
  pub space : 16 * (range_count us + range_count un) ≤ scratch

-- What the passes over the ranges ask: few ranges, and four numbers in s for each.
pub record Roomy (us un : Lent) (s : ℕ) : Type 0 where
  pub few : range_count us + range_count un ≤ 65536
  pub space : s ≡ 4 * (range_count us + range_count un)

-- What they find: which usable regions are overlapped, and which superseded.
pub record Struck (us un : Lent) (over under : List Bool) : Type 0 where
  pub overlap : (i : ℕ) → i < us.count → get_or over i false ≡ overlapped (regions_of us) i
  pub supersede : (i : ℕ) → i < us.count → get_or under i false ≡ superseded (regions_of us) (regions_of un) i

-- f of the first n numbers.
unfoldable pub firsts : (ℕ → ℕ) → ℕ → List ℕ
firsts f zero = []
firsts f (suc n) = firsts f n ++ (f n ∷ [])
