-- What each return of `locate` promises.
use mathlib.Core.Logic.{◌⊎◌, ⊎_elim}
use Rattle.plan_record.proofs.Places.{found_is}
use Rattle.numbers.specs.declared.refusal.Refusal.TheVariants.{Unknown, Lists}
use Rattle.numbers.specs.declared.refusal.Refusal.{Refusal}
use Prim.Native.Nat.{ℕ, ◌+◌, ◌-◌, ◌*◌, ◌≤◌, ◌<◌, min}
use mathlib.Core.Bool.{false, ◌||◌}
use mathlib.Core.List.{List}
use Rattle.std.specs.Prelude.{Option, Some, Ok, Err, None, Result}
use mathlib.Core.Path.{◌≡◌, refl, ap, sym, ◌∙◌, subst}
use native.Mathlib.Omega.{arith}
use lib.Dec.{eqb, ltb}
use lib.ListN.{length}
use borrow.Author.Tests.{le-ltb}
use borrow.Rule.Slice.PartMut.{mid_of}
use Rattle.model.specs.Calls.{locate, refusal_to, byte_for}
use Rattle.numbers.specs.Refusals.{Answer, accepted, refused, answer, first, refuse, told}
use Rattle.plan_record.specs.Plan.{places, row_in, world_of, place_in, reply_of}
use Rattle.plan_record.specs.declared.Plan.{Plan}
use Rattle.plan.specs.Calls.{Locates}
use Rattle.numbers.proofs.Answers.{answer_number}
use Rattle.numbers.proofs.Cases.{cases, clash}
use Rattle.plan_record.proofs.Known.{region_at, known_here, known_not, region_is, mapped_is, row_is}
use Rattle.plan_record.proofs.Rows.{row_length, row_held}
use Rattle.plan.proofs.Slots.{few_not}
use Rattle.regionmap.proofs.ByExtents.{locate_by_extents}
use Rattle.regionmap.specs.Map as regionmap

-- ---- a map's answer as the plan's

abbrev with_some : Answer ℕ → Answer (Option ℕ)
with_some (accepted b) = accepted (Some b)
with_some (refused n) = refused n

abbrev pub some_in : Result ℕ Refusal → Result (Option ℕ) Refusal
some_in (Ok b) = Ok (Some b)
some_in (Err n) = Err n

told_is : (r : Result ℕ Refusal) → reply_of (some_in r) ≡ with_some (told r)
told_is (Ok b) = refl
told_is (Err n) = refl

answer_some : (n b : ℕ) → with_some (answer n b) ≡ answer n (Some b)
unfolding answer
answer_some n b = cases (eqb n 0) (λ e. simp e) (λ e. simp e)

-- ---- the returns

module _ (p : Plan) (id pos n : ℕ) (ss fs : List ℕ) where
  pub locate_short : (length ss < places) ⊎ (length fs < places) → Locates p id pos n ss fs (Err Lists)
  locate_short l = record { answer = λ xs v. absurd (⊎_elim (λ h. omega (arith, v.starts)) (λ h. omega (arith, v.files)) l); short = λ e. refl }

  module _ (long : places ≤ length ss) (longer : places ≤ length fs) where
    enough : (ltb (length ss) places || ltb (length fs) places) ≡ false
    enough = simp (le-ltb _ _ long, le-ltb _ _ longer)

    pub locate_unknown : place_in p id ≡ None → Locates p id pos n ss fs (Err Unknown)
    unfolding refusal_to first refuse
    locate_unknown e =
        record {
          answer = λ xs v.
              let k = known_not p xs id e in
              let q : refusal_to (world_of p xs) (locate id pos n) ≡ 16 = simp k in
              sym (rw q (answer_number 16 _ (λ z. omega arith)));
          short = λ s. clash s enough;
        }

    -- in the row j, as the code computes it
    pub locate_told : (i : ℕ) → place_in p id ≡ Some i → (j : ℕ) (r : Result ℕ Refusal) → j ≡ min (region_at p i).row 63
        → regionmap.Answered (region_at p i).map pos n (mid_of (60 * j) (60 * j + 60 - 60 * j) ss) (mid_of (60 * j) (60 * j + 60 - 60 * j) fs) r
        → (t : Result ℕ Refusal) → r ≡ t → Locates p id pos n ss fs (some_in t)
    unfolding refusal_to byte_for first refuse
    locate_told i f₀ j r b g r' e₀ =
        subst (λ (q : Result ℕ Refusal). Locates p id pos n ss fs (some_in q)) e₀ (record {
          answer = λ xs v.
              let e = (found_is p id i f₀).0 in
              let h = (found_is p id i f₀).1 in
              let t = mapped_is p xs ss fs v i h in
              let w = row_is p xs ss fs v i h in
              let row = (region_at p i).row in
              let k = known_here p xs id i f₀ in
              let s = few_not (region_at p i).map.room (row_in row ss) (row_in row fs)
              (omega (arith, t.room, row_length ss row w long)) (omega (arith, t.room, row_length fs row w longer)) in
              let u : regionmap.Answered (region_at p i).map pos n (row_in row ss) (row_in row fs) r = rw (row_held ss row j b w, row_held fs row j b w) at g in
              told_is r
              ∙ ap with_some (u.answer t.valid ∙ locate_by_extents _ _ t.lays pos n (row_in row ss) (row_in row fs) s)
              ∙ answer_some _ _
              ∙ rw (region_is p xs i h id e) (simp k);
          short = λ s. clash s enough;
        })
