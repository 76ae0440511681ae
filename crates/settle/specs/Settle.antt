-- Document 01, "`settle`": which usable regions are overlapped, renamed or superseded, and what is refused.
use Rattle.std.specs.Prelude.{ℕ, suc, ◌+◌, ◌*◌, max, Bool, true, false, cond, not, ◌&&◌, ◌||◌, List, [], ◌∷◌, ◌++◌, ◌≡◌, eqb, ltb, leb, length, take}
use Rattle.numbers.specs.Lists.{any, keep, same, written}
use Rattle.numbers.specs.Pairs.{is_odd, pairs}
use Rattle.numbers.specs.Range.{meets}
use Rattle.numbers.specs.Refusals.{refuse, Answer, answer}
use Rattle.numbers.specs.Sums.{sum}
use Rattle.settle.specs.Regions.{Lent, Region, regions_of, Piece, pieces}

-- f holds of some element of a list and of another one, at another place: the first with one behind it, in either role, or
-- two of those behind it. `other_places` and `places_other` (proofs/Others) say it with places.
unfoldable pub any_other : {A : Type 0} → (A → A → Bool) → List A → Bool
any_other f [] = false
any_other {A} f (x ∷ xs) = any (f x) xs || any (λ (y : A). f y x) xs || any_other f xs

-- "Overlapped: a range of the region meets another range in the usable list, its own region's included, of equal or higher
-- sequence number."
unfoldable pub overlapped : List Region → ℕ → Bool
overlapped us i = any_other (λ (x y : Piece). eqb x.region i && leb x.seq y.seq && meets x.range y.range) (pieces us)

-- "Superseded: a range meets an unavailable record's own range of strictly higher number."
unfoldable pub superseded : List Region → List Region → ℕ → Bool
superseded us un i =
    any (λ (x : Piece). any (λ (y : Piece). eqb x.region i && ltb x.seq y.seq && meets x.range y.range) (pieces un)) (pieces us)

-- "usable or named unavailable record of the same name", the region itself among them.
abbrev pub namesakes : List Region → List Region → Region → List Region
namesakes us un r = keep (λ (q : Region). same q.name r.name) (us ++ keep (λ (q : Region). q.named) un)

-- The highest number of a list of regions.
unfoldable pub highest : List Region → ℕ
highest [] = 0
highest (r ∷ rs) = max r.seq (highest rs)

-- "Renamed: some usable or named unavailable record of the same name has a higher number, or two share that name's highest."
unfoldable pub renamed : List Region → List Region → Region → Bool
renamed us un r =
    any (λ (q : Region). ltb r.seq q.seq) (namesakes us un r)
    || ltb 1 (length (keep (λ (q : Region). eqb q.seq (highest (namesakes us un r))) (namesakes us un r)))

-- A mark as a number: 1 for overlapped, 2 for renamed, 4 for superseded. `mark_at` (proofs/Marking) says which mark stands at
-- a place, `marks_none` and `none_marks` (proofs/Unmarked) when all are 0, with no unavailable regions.
abbrev pub mark_of : Bool → Bool → Bool → ℕ
mark_of o r s = cond o 1 0 + cond r 2 0 + cond s 4 0

-- The marks of the regions rs, whose first one has the place i in the usable list.
unfoldable pub marks_from : List Region → List Region → ℕ → List Region → List ℕ
marks_from us un i [] = []
marks_from us un i (r ∷ rs) = mark_of (overlapped us i) (renamed us un r) (superseded us un i) ∷ marks_from us un (suc i) rs

abbrev pub marks_of : List Region → List Region → List ℕ
marks_of us un = marks_from us un 0 us

-- How many ranges the records have.
abbrev pub range_count : Lent → ℕ
range_count g = sum (take g.count g.counts)

-- "names of 0 to 24 bytes"; where a record may have no name, the length 255 says so.
unfoldable pub too_long : Bool → ℕ → Bool
too_long unnamed n = ltb 24 n && not (unnamed && eqb n 255)

-- 1. "A lent slice is too short, a list of pairs is odd .. or a count is over its limit": of the lists of one kind.
-- "At most 1,024 usable and 1,024 unavailable records"
unfoldable pub lent_fails : Bool → Lent → Bool
lent_fails unnamed g =
    ltb 1024 g.count
    || ltb (length g.seqs) g.count
    || ltb (length g.counts) g.count
    || ltb (length g.lens) g.count
    || ltb (length g.names) (24 * g.count)
    || is_odd g.ranges
    || ltb (length (pairs g.ranges)) (range_count g)
    || any (too_long unnamed) (take g.count g.lens)

-- The other counts and slices: "65,536 ranges in all", "usable records for marks", "16 numbers a range for scratch of `settle`".
unfoldable pub settle_fails : Lent → Lent → ℕ → ℕ → Bool
settle_fails us un marks scratch =
    lent_fails false us
    || lent_fails true un
    || ltb 65536 (range_count us + range_count un)
    || ltb marks us.count
    || ltb scratch (16 * (range_count us + range_count un))

-- What `settle` promises: the refusal, every mark and, where it refuses, every slot of scratch.
pub record Settled (us un : Lent) (marks₀ marks scratch₀ scratch : List ℕ) (given : Answer (Unit {0})) : Type 0 where
  pub refusal : given ≡ answer (refuse 1 (settle_fails us un (length marks₀) (length scratch₀))) tt
  pub slots : marks ≡ cond (settle_fails us un (length marks₀) (length scratch₀)) marks₀ (written (marks_of (regions_of us) (regions_of un)) marks₀)
  pub kept : settle_fails us un (length marks₀) (length scratch₀) ≡ true → scratch ≡ scratch₀
