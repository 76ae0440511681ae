-- Both passes over the laid ranges mark the overlapped and the superseded regions.
use Prim.Native.Nat.{ℕ, ◌+◌, ◌-◌, ◌*◌, ◌≤◌, ◌<◌}
use mathlib.Core.Bool.{Bool, false, ◌||◌}
use mathlib.Core.List.{List, ◌++◌}
use mathlib.Core.Path.{◌≡◌, ap, ◌∙◌}
use native.Mathlib.Omega.{arith}
use lib.ListN.{length, get_or, take, drop, replicate, length-drop, get_or-replicate}
use lib.Seq.{take_all}
use Rattle.numbers.specs.Pairs.{pairs}
use Rattle.settle.specs.Inner.{Enough, Struck}
use Rattle.settle.specs.Laying.{Ordered}
use Rattle.settle.specs.Ranking.{Ranks}
use Rattle.settle.specs.Regions.{Lent, pieces, pieces_from, regions_of}
use Rattle.settle.specs.Sweeping.{Ready, SweptBoth, items_of}
use Rattle.settle.specs.declared.sweep.Item.{Item}
use Rattle.numbers.proofs.Lists.{all_imp}
use Rattle.numbers.proofs.Pairs.{pairs_take, pairs_drop}
use Rattle.settle.proofs.Meeting.{all_seqs, items_owner, swept_overlapped, swept_superseded}

-- the two parts of scratch, as the code cuts them
module _ (s : List ℕ) (n : ℕ) where
  abbrev pub order_part : List ℕ
  order_part = take (2 * n - 0) s

  abbrev pub facts_part : List ℕ
  facts_part = take (length s - 2 * n) (drop (2 * n) s)

  order-part : pairs order_part ≡ take n (pairs s)
  order-part = let e : 2 * n - 0 ≡ 2 * n = omega arith in ap (λ (m : ℕ). pairs (take m s)) e ∙ pairs_take n s

  facts-part : pairs facts_part ≡ drop n (pairs s)
  facts-part = let d = length-drop (2 * n) s in ap pairs (take_all (length s - 2 * n) (drop (2 * n) s) (omega arith)) ∙ pairs_drop n s

-- the marks begin unset
first_mark : (m₀ : List Bool) (i : ℕ) {m x y : Bool} → m₀ ≡ replicate 1024 false → i < 1024 → x ≡ y → m ≡ (get_or m₀ i false || x) → m ≡ y
first_mark m₀ i {x = x} a h d e =
    let u : get_or m₀ i false ≡ false = ap (λ (l : List Bool). get_or l i false) a ∙ get_or-replicate 1024 i false false h in
    e ∙ ap (λ (c : Bool). c || x) u ∙ d

module _ (us un : Lent) (y : Enough us) (y' : Enough un) (s : List ℕ) (n : ℕ) (ranks : List ℕ)
    (o : Ordered (pieces (regions_of us) ++ pieces_from us.count (regions_of un)) (take n (pairs s)) (drop n (pairs s)))
    (r : Ranks (take us.count us.seqs ++ take un.count un.seqs) ranks) where
  e : us.count ≤ length us.seqs
  e = y.seqs

  e' : un.count ≤ length un.seqs
  e' = y'.seqs

  o' : Ordered (pieces (regions_of us) ++ pieces_from us.count (regions_of un)) (pairs (order_part s n)) (pairs (facts_part s n))
  o' = rw (order-part s n, facts-part s n) o

  pub strike_ready : length ranks ≡ 2048
      → Ready (pairs (order_part s n)) (pairs (facts_part s n)) us.count ranks
  strike_ready k =
      let q = all_seqs us un e e' (pairs (order_part s n)) (pairs (facts_part s n)) ranks o' r in
      record {
        owners = all_imp (λ (x : Item). x.owner < us.count + un.count) (λ (x : Item). (x.owner < length ranks) × (get_or ranks x.owner 0 < 2048))
            (λ x i. (omega (arith, y.few, y'.few), let j = r.small x.owner (omega arith) in omega (arith, y.few, y'.few)))
            (items_of (pairs (order_part s n)) (pairs (facts_part s n))) (items_owner us un e e' (pairs (order_part s n)) (pairs (facts_part s n)) ranks o' r);
        room = y.few;
      }

  pub strike_marks : {over₀ over under₀ under : List Bool} → over₀ ≡ replicate 1024 false → under₀ ≡ replicate 1024 false
      → SweptBoth (items_of (pairs (order_part s n)) (pairs (facts_part s n))) us.count ranks over₀ over under₀ under → Struck us un over under
  strike_marks {over₀} {over} {under₀} {under} a b g =
      record {
        overlap = λ i h. first_mark over₀ i a (omega (arith, y.few)) (swept_overlapped us un e e' (pairs (order_part s n)) (pairs (facts_part s n)) ranks o' r i h) (g.over_marks i h);
        supersede = λ i h. first_mark under₀ i b (omega (arith, y.few)) (swept_superseded us un e e' (pairs (order_part s n)) (pairs (facts_part s n)) ranks o' r i h) (g.under_marks i h);
      }
