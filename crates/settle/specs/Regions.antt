-- The records that `settle` is lent, one list a field, as regions with their ranges and names.
use Rattle.std.specs.Prelude.{ℕ, zero, suc, Bool, not, List, [], ◌∷◌, ◌++◌, map, eqb, get_or, take, drop}
use Rattle.numbers.specs.Pairs.{pairs}
use Rattle.numbers.specs.Range.{Range}
use Rattle.settle.specs.declared.records.Records.{Records}

-- How the records of one kind are lent: how many they are, and of each its sequence number, how many ranges it has, those
-- ranges as pairs, record by record, the length of its name, and 24 bytes, of which the first are its name.
pub record Lent : Type 0 where
  pub count : ℕ
  pub seqs : List ℕ
  pub counts : List ℕ
  pub ranges : List ℕ
  pub lens : List ℕ
  pub names : List ℕ

abbrev pub lent : ℕ → (seqs counts ranges lens names : List ℕ) → Lent
lent n seqs counts ranges lens names = record { count = n; seqs = seqs; counts = counts; ranges = ranges; lens = lens; names = names }

-- The same of the records as the code has them.
abbrev pub lent_of : Records → Lent
lent_of r = lent r.count r.seqs.now r.counts.now r.ranges.now r.lens.now r.names.now

-- A record: "A region's sequence number is its entry's `footprint_seq`"; an unavailable one may have no name.
pub record Region : Type 0 where
  pub seq : ℕ
  pub ranges : List Range
  pub named : Bool
  pub name : List ℕ

-- The first n records of the lists: the first one takes the first of each list, as many ranges as its count says and the first 24
-- bytes, the others what stands behind. The length 255 says that there is no name.
unfoldable pub regions : ℕ → (seqs counts : List ℕ) → List Range → (lens names : List ℕ) → List Region
regions zero seqs counts rs lens names = []
regions (suc n) seqs counts rs lens names =
    record {
      seq = get_or seqs 0 0;
      ranges = take (get_or counts 0 0) rs;
      named = not (eqb (get_or lens 0 0) 255);
      name = take (get_or lens 0 0) names;
    } ∷ regions n (drop 1 seqs) (drop 1 counts) (drop (get_or counts 0 0) rs) (drop 1 lens) (drop 24 names)

abbrev pub regions_of : Lent → List Region
regions_of g = regions g.count g.seqs g.counts (pairs g.ranges) g.lens g.names

-- A range of a region, with the region's place in the list and its sequence number.
pub record Piece : Type 0 where
  pub region : ℕ
  pub seq : ℕ
  pub range : Range

abbrev pub piece : ℕ → ℕ → Range → Piece
piece i s x = record { region = i; seq = s; range = x }

-- The ranges of all regions of a list, whose first one has the place i.
unfoldable pub pieces_from : ℕ → List Region → List Piece
pieces_from i [] = []
pieces_from i (r ∷ rs) = map (λ (x : Range). piece i r.seq x) r.ranges ++ pieces_from (suc i) rs

abbrev pub pieces : List Region → List Piece
pieces rs = pieces_from 0 rs
