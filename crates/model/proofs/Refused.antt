-- Open: which number it gives where it refuses, in 01's order.
use Prim.Native.Nat.{ℕ, ◌+◌, ◌*◌, ◌≤◌, ◌<◌}
use mathlib.Core.Bool.{Bool, true, false}
use mathlib.Core.List.{List, [], ◌∷◌, map}
use mathlib.Core.Logic.{inl, inr, ⊎_elim}
use mathlib.Core.Path.{◌≡◌, ap, sym, ◌∙◌}
use native.Mathlib.Omega.{arith}
use lib.ListN.{length, get_or, take, drop, length-drop}
use lib.Seq.{length-take-le}
use Rattle.footprint.specs.Footprint.{max_extents, lists_fail}
use Rattle.footprint.specs.declared.Limits.{Limits}
use Rattle.model.specs.Open.{Record, Opening, each_record, regions_from, lists_fail_in, logs_fail_in, length_fails, record_refusal, shared, marked, open_refusal}
use Rattle.numbers.specs.Lists.{All}
use Rattle.numbers.specs.Pairs.{pairs}
use Rattle.numbers.specs.Refusals.{first, refuse}
use Rattle.numbers.specs.Sums.{sum}
use Rattle.footprint.proofs.Accepted.{sixty_within}
use Rattle.footprint.proofs.Answer.{refusal_most}
use Rattle.footprint.proofs.Regular.{refused_later, lists_fine as own_lists_fine}
use Rattle.model.proofs.Opening.{count_of, listed_by, each_both, ListsIn, lists_pass, logs_pass, log_fails, own_logs, checks}
use Rattle.numbers.proofs.Cases.{cases, by_eq, never}
use Rattle.numbers.proofs.Lists.{all_at, all_imp}
use Rattle.numbers.proofs.Pairs.{length_pairs, even_list, pairs_take, pairs_drop}
use Rattle.numbers.proofs.Refusals.{NoneBelow, first_one, first_stop, first_go, none_first, first_high, pass_none, refuse_high, FirstAt, first_at, at_first, first_all}

-- ---- a record's own number is between 4 and 13 once 1 and 2 passed over all

-- 1 of one record
abbrev pub own_fails : Limits → Record → List ℕ → Bool
own_fails lim r xs = lists_fail lim r.entry r.header xs (2 * (count_of r + 2))

module _ (lim : Limits) where
  own_right : (r : Record) (l : List ℕ) → listed_by r ≤ length (pairs l) → count_of r ≤ 60 → listed_by r ≤ max_extents lim.log2_block
      → own_fails lim r (take (2 * listed_by r) l) ≡ false
  own_right r l e c h =
      let p = length_pairs l in
      let k = length-take-le (2 * listed_by r) l (omega arith) in
      own_lists_fine lim r.entry r.header _ _
      (record {
        even = even_list (take (2 * listed_by r) l) (omega arith);
        listed = ap length (pairs_take (listed_by r) l) ∙ length-take-le (listed_by r) (pairs l) e;
        few = omega (arith, sixty_within lim.log2_block);
        header_few = h;
        room = omega arith;
      })

  own_all : (rs : List Record) (l : List ℕ) → length (pairs l) ≡ sum (map listed_by rs) → All (λ (r : Record). count_of r ≤ 60) rs
      → All (λ (r : Record). listed_by r ≤ max_extents lim.log2_block) rs → All (λ (b : Bool). b ≡ false) (each_record (own_fails lim) rs l)
  unfolding each_record sum
  own_all [] l e c h = tt
  own_all (r ∷ rs) l e c h =
      let n = ap length (pairs_drop (listed_by r) l) ∙ length-drop (listed_by r) (pairs l) in
      (own_right r l (omega arith) c.0 h.0, own_all rs (drop (2 * listed_by r) l) (omega arith) c.1 h.1)

-- its own lists are right once those over all are
pub own_lists : (o : Opening) → ListsIn o → All (λ (b : Bool). b ≡ false) (each_record (own_fails o.limits) o.records o.extents)
own_lists o l = own_all o.limits o.records o.extents l.listed l.counts l.headers

-- 0, or between 4 and 13
abbrev pub OfRecord : ℕ → Type 0
OfRecord n = NoneBelow 4 n × (n ≤ 13)

pub checks_between : (o : Opening) → lists_fail_in o ≡ false → logs_fail_in o ≡ false → All OfRecord (checks o)
checks_between o f g =
    each_both (own_fails o.limits) (record_refusal o.limits) (λ (r : Record). log_fails o r ≡ false) (λ (b : Bool). b ≡ false) OfRecord
    (λ r xs a b.
    (refused_later o.limits r.number r.entry r.header xs _ b a, refusal_most o.limits r.number r.entry r.header xs _))
    o.records
    o.extents
    (own_logs o (logs_pass o g))
    (own_lists o (lists_pass o f))

-- ---- "1, 2 and 3 are tested over all, each record is then checked in order .., then 14, then all are settled"

-- 1 to 3 passed
pub record Past (o : Opening) : Type 0 where
  pub lists : lists_fail_in o ≡ false
  pub logs : logs_fail_in o ≡ false
  pub size : length_fails o.limits ≡ false

not_below : {P : Type 0} (m n : ℕ) → NoneBelow m n → 0 < n → n < m → P
not_below m n b l u = ⊎_elim (λ z. absurd (omega arith)) (λ h. absurd (omega arith)) b

module _ (o : Opening) where
  past : lists_fail_in o ≡ false → logs_fail_in o ≡ false → length_fails o.limits ≡ false → Past o
  past f g h = record { lists = f; logs = g; size = h }

  abbrev pub shared_in : Bool
  shared_in = shared (map (λ (r : Record). r.number) o.records)

  abbrev pub marked_in : Bool
  marked_in = marked o.limits (regions_from o)

  -- ---- the number where a test fails, whatever fails behind it

  pub open_1 : lists_fail_in o ≡ true → open_refusal o ≡ 1
  unfolding open_refusal first refuse
  open_1 t = simp t

  pub open_2 : lists_fail_in o ≡ false → logs_fail_in o ≡ true → open_refusal o ≡ 2
  unfolding open_refusal first refuse
  open_2 f t = simp (f, t)

  pub open_3 : lists_fail_in o ≡ false → logs_fail_in o ≡ false → length_fails o.limits ≡ true → open_refusal o ≡ 3
  unfolding open_refusal first refuse
  open_3 f g t = simp (f, g, t)

  later : Past o → open_refusal o ≡ first (first (checks o) ∷ refuse 14 shared_in ∷ refuse 15 marked_in ∷ [])
  unfolding open_refusal
  later p =
      first_go (refuse 1 (lists_fail_in o) ∷ refuse 2 (logs_fail_in o) ∷ refuse 3 (length_fails o.limits) ∷ []) _
      (none_first _ (pass_none 1 _ p.lists, (pass_none 2 _ p.logs, (pass_none 3 _ p.size, tt))))

  -- "the first record that fails gives its lowest number"
  pub open_record : Past o → (i : ℕ) → FirstAt (checks o) i → open_refusal o ≡ get_or (checks o) i 0
  open_record p i a =
      later p ∙ first_stop (first (checks o) ∷ []) _ (λ z. a.here (sym (first_at (checks o) i a) ∙ sym (first_one _) ∙ z))
      ∙ first_one _ ∙ first_at (checks o) i a

  pub record_between : Past o → (i : ℕ) → FirstAt (checks o) i → (4 ≤ open_refusal o) × (open_refusal o ≤ 13)
  record_between p i a =
      let b = all_at OfRecord (checks o) i 0 (checks_between o p.lists p.logs) a.inside in
      rw (open_record p i a) (⊎_elim (λ z. absurd (a.here z)) (λ h. h) b.0, b.1)

  module _ (p : Past o) (c : All (λ (n : ℕ). n ≡ 0) (checks o)) where
    last_two : open_refusal o ≡ first (refuse 14 shared_in ∷ refuse 15 marked_in ∷ [])
    last_two = later p ∙ first_go (first (checks o) ∷ []) _ (first_one _ ∙ none_first (checks o) c)

    pub open_14 : shared_in ≡ true → open_refusal o ≡ 14
    unfolding first refuse
    open_14 t = last_two ∙ simp t

    open_last : shared_in ≡ false → open_refusal o ≡ refuse 15 marked_in
    open_last f = last_two ∙ first_go (refuse 14 shared_in ∷ []) _ (first_one _ ∙ pass_none 14 _ f) ∙ first_one _

    pub open_15 : shared_in ≡ false → marked_in ≡ true → open_refusal o ≡ 15
    unfolding refuse
    open_15 f t = open_last f ∙ ap (refuse 15) t

    high_14 : NoneBelow 14 (open_refusal o)
    high_14 = rw last_two (first_high 14 _ (refuse_high 14 14 _ (omega arith), (refuse_high 14 15 _ (omega arith), tt)))

    high_15 : shared_in ≡ false → NoneBelow 15 (open_refusal o)
    high_15 f = rw (open_last f) (refuse_high 15 15 _ (omega arith))

  -- ---- a number is given only there

  high_4 : Past o → NoneBelow 4 (open_refusal o)
  high_4 p =
      rw (later p)
      (first_high 4 _ (
        first_high 4 (checks o) (all_imp OfRecord (NoneBelow 4) (λ n b. b.0) (checks o) (checks_between o p.lists p.logs)),
        (refuse_high 4 14 _ (omega arith), (refuse_high 4 15 _ (omega arith), tt)),
      ))

  high_3 : lists_fail_in o ≡ false → logs_fail_in o ≡ false → NoneBelow 3 (open_refusal o)
  high_3 f g =
      cases (length_fails o.limits) (λ t. inr (omega (arith, open_3 f g t)))
      (λ h. ⊎_elim (λ z. inl z) (λ l. inr (omega arith)) (high_4 (past f g h)))

  high_2 : lists_fail_in o ≡ false → NoneBelow 2 (open_refusal o)
  high_2 f = cases (logs_fail_in o) (λ t. inr (omega (arith, open_2 f t))) (λ g. ⊎_elim (λ z. inl z) (λ l. inr (omega arith)) (high_3 f g))

  passed_1 : 1 < open_refusal o → lists_fail_in o ≡ false
  passed_1 h = never (lists_fail_in o) (λ t. omega (arith, open_1 t))

  passed_2 : 2 < open_refusal o → logs_fail_in o ≡ false
  passed_2 h = let f = passed_1 (omega arith) in never (logs_fail_in o) (λ t. omega (arith, open_2 f t))

  pub passed_3 : 3 < open_refusal o → Past o
  passed_3 h =
      let f = passed_1 (omega arith) in
      let g = passed_2 (omega arith) in
      past f g (never (length_fails o.limits) (λ t. omega (arith, open_3 f g t)))

  pub passed_13 : 13 < open_refusal o → All (λ (n : ℕ). n ≡ 0) (checks o)
  passed_13 h =
      by_eq (first (checks o)) 0 (first_all (checks o))
      (λ d. let q = at_first (checks o) d in let b = record_between (passed_3 (omega arith)) q.0 q.1 in absurd (omega arith))

  pub is_1 : open_refusal o ≡ 1 → lists_fail_in o ≡ true
  is_1 z = cases (lists_fail_in o) (λ t. t) (λ f. not_below 2 _ (high_2 f) (omega arith) (omega arith))

  pub is_2 : open_refusal o ≡ 2 → (lists_fail_in o ≡ false) × (logs_fail_in o ≡ true)
  is_2 z =
      let f = passed_1 (omega arith) in
      (f, cases (logs_fail_in o) (λ t. t) (λ g. not_below 3 _ (high_3 f g) (omega arith) (omega arith)))

  pub is_3 : open_refusal o ≡ 3 → (lists_fail_in o ≡ false) × (logs_fail_in o ≡ false) × (length_fails o.limits ≡ true)
  is_3 z =
      let f = passed_1 (omega arith) in
      let g = passed_2 (omega arith) in
      (f, g, cases (length_fails o.limits) (λ t. t) (λ h. not_below 4 _ (high_4 (past f g h)) (omega arith) (omega arith)))

  pub is_record : 3 < open_refusal o → open_refusal o < 14 → Past o × ((i : ℕ) × FirstAt (checks o) i)
  is_record h l =
      let p = passed_3 h in
      (p, at_first (checks o) (λ z. not_below 14 _ (high_14 p (first_all (checks o) z)) (omega arith) l))

  pub is_14 : open_refusal o ≡ 14 → Past o × All (λ (n : ℕ). n ≡ 0) (checks o) × (shared_in ≡ true)
  is_14 z =
      let p = passed_3 (omega arith) in
      let c = passed_13 (omega arith) in
      (p, c, cases shared_in (λ t. t) (λ f. not_below 15 _ (high_15 p c f) (omega arith) (omega arith)))

  pub is_15 : open_refusal o ≡ 15 → Past o × All (λ (n : ℕ). n ≡ 0) (checks o) × (shared_in ≡ false) × (marked_in ≡ true)
  is_15 z =
      let p = passed_3 (omega arith) in
      let c = passed_13 (omega arith) in
      let f = never shared_in (λ t. omega (arith, open_14 p c t)) in
      (p, c, f, cases marked_in (λ t. t) (λ g. absurd (omega (arith, open_last p c f, pass_none 15 marked_in g))))
