-- Document 01, "Marks on the tape": P1 to P12, each of the definition by which a call promises its answer.
use Rattle.std.specs.Prelude.{ℕ, ◌-◌, ◌^◌, false, List, [], ◌∷◌, ◌++◌, ◌≡◌, replicate, None, Some, Ok}
use Rattle.align.specs.Align.{align_up}
use Rattle.runs.specs.Runs.{run, runs_of, runs_answer}
use Rattle.freemap.specs.Fit.{fit_of}
use Rattle.freemap.specs.Gaps.{gaps_of, tail_of, Complemented}
use Rattle.freemap.specs.declared.FreeMap.{FreeMap}
use Rattle.numbers.specs.Pairs.{pairs}
use Rattle.numbers.specs.Range.{range}
use Rattle.numbers.specs.Refusals.{accepted, refused}
use Rattle.regionmap.specs.Map.{placement_of, Made, locate_of}
use Rattle.regionmap.specs.declared.RegionMap.{RegionMap}
use Rattle.settle.specs.Regions.{Lent, lent, regions_of}
use Rattle.settle.specs.Settle.{marks_of, settle_fails}

-- ---- "Container 100 to 1000 with (200,50) (250,0) (240,60) (900,500)"

abbrev pub allocated : List ℕ
allocated = 200 ∷ 50 ∷ 250 ∷ 0 ∷ 240 ∷ 60 ∷ 900 ∷ 500 ∷ []

abbrev pub free_map : FreeMap
free_map = record { count = 2; tail = 1400 }

abbrev pub gaps : List ℕ
gaps = 100 ∷ 100 ∷ 300 ∷ 600 ∷ 0 ∷ 0 ∷ 0 ∷ 0 ∷ 0 ∷ 0 ∷ []

-- ---- "Regions of different names"

-- Two usable regions of one range each, of the names "a" and "b", and no unavailable ones.
abbrev pub usable : (seqs ranges : List ℕ) → Lent
usable seqs ranges = lent 2 seqs (1 ∷ 1 ∷ []) ranges (1 ∷ 1 ∷ []) ((97 ∷ replicate 23 0) ++ (98 ∷ replicate 23 0))

abbrev pub unavailable : Lent
unavailable = lent 0 [] [] [] [] []

-- Their marks: 1 for overlapped, 2 for renamed and 4 for superseded, added.
abbrev pub settled : (seqs ranges : List ℕ) → List ℕ
settled seqs ranges = marks_of (regions_of (usable seqs ranges)) (regions_of unavailable)

-- ---- "Extents (100,10) (110,5) (200,0) (115,5) (300,1), data 21"

abbrev pub extents : List ℕ
extents = 100 ∷ 10 ∷ 110 ∷ 5 ∷ 200 ∷ 0 ∷ 115 ∷ 5 ∷ 300 ∷ 1 ∷ []

abbrev pub region : RegionMap
region = record { first = 100; len = 21; capacity = 21; count = 1; room = 1 }

abbrev pub starts : List ℕ
starts = 20 ∷ 0 ∷ 0 ∷ 0 ∷ 0 ∷ []

abbrev pub files : List ℕ
files = 300 ∷ 0 ∷ 0 ∷ 0 ∷ 0 ∷ []

-- ---- the marks

pub record Marks : Type 0 where
  -- P1 "align_up(4097, 4096) = 8192"
  pub p1 : align_up 4097 4096 ≡ Some 8192
  -- P2 "align_up(2^64 - 1, 2): none"
  pub p2 : align_up (2 ^ 64 - 1) 2 ≡ None
  -- P3 "gaps 100-200 and 300-900, tail 1400"
  pub p3 : (gaps_of 100 1000 (pairs allocated) ≡ range 100 100 ∷ range 300 600 ∷ []) × (tail_of 100 (pairs allocated) ≡ 1400)
  -- `complement`, lent ten zeros for the gaps, hands back `free_map` and leaves `gaps`.
  pub complemented : Complemented 100 1000 allocated (200 ∷ 50 ∷ 240 ∷ 60 ∷ 250 ∷ 0 ∷ 900 ∷ 500 ∷ []) (replicate 10 0) gaps (Ok free_map)
  -- P4 "fit(64,64,0) = 128"
  pub p4 : fit_of free_map gaps 64 64 0 ≡ accepted (Some 128)
  -- P5 "fit(64,64,8) = 120"
  pub p5 : fit_of free_map gaps 64 64 8 ≡ accepted (Some 120)
  -- P6 "fit(601,1,0): none"
  pub p6 : fit_of free_map gaps 601 1 0 ≡ accepted None
  -- `settle`, lent two marks and 32 numbers of scratch, refuses none of the regions below.
  pub settles : (s t a m b n : ℕ) → settle_fails (usable (s ∷ t ∷ []) (a ∷ m ∷ b ∷ n ∷ [])) unavailable 2 32 ≡ false
  -- P7 "(0,10) number 5 and (10,5) number 7: unmarked"
  pub p7 : settled (5 ∷ 7 ∷ []) (0 ∷ 10 ∷ 10 ∷ 5 ∷ []) ≡ 0 ∷ 0 ∷ []
  -- P8 "(0,10) number 5, (9,5) number 7: the first only"
  pub p8 : settled (5 ∷ 7 ∷ []) (0 ∷ 10 ∷ 9 ∷ 5 ∷ []) ≡ 1 ∷ 0 ∷ []
  -- P9 "both 5: both"
  pub p9 : settled (5 ∷ 5 ∷ []) (0 ∷ 10 ∷ 9 ∷ 5 ∷ []) ≡ 1 ∷ 1 ∷ []
  -- P10 "runs 100+20, 300+1"
  pub p10 : (runs_answer extents 5 5 5 ≡ accepted 2) × (runs_of (pairs extents) ≡ run 0 100 20 ∷ run 20 300 1 ∷ [])
  -- `from_extents`, lent five zeros for each list, hands back `region`, which is valid, and leaves `starts` and `files`.
  pub made : Made extents 21 (replicate 5 0) starts (replicate 5 0) files (Ok region)
  -- P11 "pos 19 is 119, pos 20 is 300"
  pub p11 : (locate_of (placement_of region starts files) 19 1 starts files ≡ accepted 119) × (locate_of (placement_of region starts files) 20 1 starts files ≡ accepted 300)
  -- P12 "range 19+2: 24"
  pub p12 : locate_of (placement_of region starts files) 19 2 starts files ≡ refused 24
