-- The ranges in the order of their starts, and which of them a later one strikes; `settle` promises nothing by these.
use Rattle.std.specs.Prelude.{ℕ, ◌+◌, ◌-◌, ◌≤◌, ◌<◌, Bool, true, false, cond, ◌&&◌, ◌||◌, List, [], ◌∷◌, map, reverse, ◌≡◌, ltb, leb, eqb, length, get_or}
use Rattle.numbers.specs.Lists.{All, any}
use Rattle.numbers.specs.Range.{Range, blank}
use Rattle.numbers.specs.Sums.{top}
use Rattle.settle.specs.Inner.{reach}
use Rattle.settle.specs.declared.sweep.Item.{Item}

abbrev pub item_of : ℕ → ℕ → ℕ → Item
item_of s e w = record { start = s; end = e; owner = w }

abbrev pub no_item : Item
no_item = item_of 0 0 0

-- The ranges in an order: a pair of it is a start and the place of its range's end and owner among the facts.
abbrev pub item_at : List Range → Range → Item
item_at facts p = item_of p.offset (get_or facts p.len blank).offset (get_or facts p.len blank).len

abbrev pub items_of : List Range → List Range → List Item
items_of order facts = map (item_at facts) order

-- The same range where the byte b counts as 2^64 - 1 - b.
abbrev pub mirror : Item → Item
mirror x = item_of (top - x.end) (top - x.start) x.owner

-- The ranges on the way, forward or back.
unfoldable pub walk : Bool → List Item → List Item
walk back l = cond back (reverse (map mirror l)) l

-- y, not empty, arrives before x, not empty, ends.
abbrev pub within : Item → Item → Bool
within y x = ltb y.start y.end && ltb x.start x.end && ltb y.start x.end

-- x is usable, of equal or higher rank than y.
abbrev pub usable_over : List ℕ → ℕ → Item → Item → Bool
usable_over ranks u y x = ltb x.owner u && leb (get_or ranks y.owner 0) (get_or ranks x.owner 0)

-- x is unavailable, of higher rank than y.
abbrev pub own_over : List ℕ → ℕ → Item → Item → Bool
own_over ranks u y x = leb u x.owner && ltb (get_or ranks y.owner 0) (get_or ranks x.owner 0)

-- y, a range of the region i, starts within an x that counts.
abbrev pub struck : (Item → Item → Bool) → ℕ → Item → Item → Bool
struck counts i y x = eqb y.owner i && counts y x && within y x

-- f holds of some element of a list and of one in front of it.
unfoldable pub behind : {A : Type 0} → (A → A → Bool) → List A → Bool
behind f [] = false
behind {A} f (x ∷ xs) = any (λ (y : A). f y x) xs || behind f xs

-- x, not empty, may strike what arrives before v: it is of a kind, of rank k or above, and ends behind v.
abbrev pub strikes : Bool → ℕ → ℕ → ℕ → Item → Bool
strikes kind rank k v x = ltb x.start x.end && kind && leb k rank && ltb v x.end

-- The tables and marks after x arrived.
pub record Arrived (x : Item) (u rank : ℕ) (held₀ held own₀ own : List ℕ) (over₀ over under₀ under : List Bool) : Type 0 where
  pub held_reach : (k v : ℕ) → reach held k v ≡ (reach held₀ k v || strikes (ltb x.owner u) rank k v x)
  pub own_reach : (k v : ℕ) → reach own k v ≡ (reach own₀ k v || strikes (leb u x.owner) rank k v x)
  pub over_size : length over ≡ length over₀
  pub over_marks : (i : ℕ) → i < u → get_or over i false ≡ (get_or over₀ i false || (eqb x.owner i && ltb x.start x.end && reach held₀ rank x.start))
  pub under_size : length under ≡ length under₀
  pub under_marks : (i : ℕ) → i < u → get_or under i false ≡ (get_or under₀ i false || (eqb x.owner i && ltb x.start x.end && reach own₀ (rank + 1) x.start))

-- What a pass asks: owners and ranks are inside, and every usable region has its mark.
pub record Ready (order facts : List Range) (u : ℕ) (ranks : List ℕ) : Type 0 where
  pub owners : All (λ (x : Item). (x.owner < length ranks) × (get_or ranks x.owner 0 < 2048)) (items_of order facts)
  pub room : u ≤ 1024

-- The marks after a pass over the ranges l.
pub record Swept (l : List Item) (u : ℕ) (ranks : List ℕ) (over₀ over under₀ under : List Bool) : Type 0 where
  pub over_size : length over ≡ length over₀
  pub over_marks : (i : ℕ) → i < u → get_or over i false ≡ (get_or over₀ i false || behind (struck (usable_over ranks u) i) l)
  pub under_size : length under ≡ length under₀
  pub under_marks : (i : ℕ) → i < u → get_or under i false ≡ (get_or under₀ i false || behind (struck (own_over ranks u) i) l)

-- The marks after a pass forward and one back.
pub record SweptBoth (l : List Item) (u : ℕ) (ranks : List ℕ) (over₀ over under₀ under : List Bool) : Type 0 where
  pub over_size : length over ≡ length over₀
  pub over_marks : (i : ℕ) → i < u → get_or over i false ≡ (get_or over₀ i false || (behind (struck (usable_over ranks u) i) (walk false l) || behind (struck (usable_over ranks u) i) (walk true l)))
  pub under_size : length under ≡ length under₀
  pub under_marks : (i : ℕ) → i < u → get_or under i false ≡ (get_or under₀ i false || (behind (struck (own_over ranks u) i) (walk false l) || behind (struck (own_over ranks u) i) (walk true l)))
