-- Every call keeps a sound world sound, refused ones included, and so does every list of calls.
use Prim.Native.Nat.{ℕ}
use mathlib.Core.Bool.{true, false}
use mathlib.Core.List.{List, [], ◌∷◌, ◌++◌}
use Rattle.std.specs.Prelude.{Option, None, Some}
use mathlib.Core.Path.{◌≡◌, refl, ap, sym, subst, ◌∙◌}
use native.Mathlib.Omega.{arith}
use borrow.Author.Tests.{eq-eqb, ne_eqb, not-false}
use Rattle.model.specs.Calls.{Call, create, grow, publish, drop, cap, locate, room_fails, header_len, create_tests, grow_tests, step_len, region_in, created_at, refusal_to, byte_for, answer_to, accept, next, world_after, worlds_along, grown_at}
use Rattle.model.specs.Span.{LeastFree, least_free, is_none, or_zero}
use Rattle.model.specs.World.{World}
use Rattle.numbers.specs.Lists.{All}
use Rattle.numbers.specs.Refusals.{accepted, refuse, first}
use Rattle.model.proofs.Change.{grows, grown_sound, publishes, published_sound, dropped_sound, capped_sound, step_len_some}
use Rattle.model.proofs.Create.{creates, created_sound}
use Rattle.model.proofs.Regions.{known_true}
use Rattle.model.proofs.Sound.{Sound}
use Rattle.model.proofs.Spans.{least_found}
use Rattle.numbers.proofs.Answers.{answer_value}
use Rattle.numbers.proofs.Cases.{by_eq, clash}
use Rattle.numbers.proofs.Refusals.{first_none, first_parts, first_go, first_stop, none_first, pass_none, refuse_none}

-- ---- accepted and refused

module _ (w : World) (c : Call) where
  pub next_accepted : refusal_to w c ≡ 0 → next w c ≡ accept w c
  unfolding next
  next_accepted z = simp (eq-eqb _ _ z)

  -- "A refused call .. changes nothing"
  pub next_refused : (refusal_to w c ≡ 0 → ⊥) → next w c ≡ w
  unfolding next
  next_refused d = simp (ne_eqb _ _ d)

  pub next_cases : (P : World → Type 0) → (refusal_to w c ≡ 0 → P (accept w c)) → ((refusal_to w c ≡ 0 → ⊥) → P w) → P (next w c)
  next_cases P f g = by_eq (refusal_to w c) 0 (λ z. subst P (sym (next_accepted z)) (f z)) (λ d. subst P (sym (next_refused d)) (g d))

-- ---- room

-- The place of an accepted piece.
pub record Placed (w : World) (n : ℕ) : Type 0 where
  pub at : ℕ
  pub is : least_free w n ≡ Some at
  pub least : LeastFree w n at

room_of : (w : World) (n : ℕ) (o : Option ℕ) → least_free w n ≡ o → is_none o ≡ false → Placed w n
room_of w n None e f = clash {b = true} refl f
room_of w n (Some a) e f = record { at = a; is = e; least = least_found w n a e }

pub room_there : (w : World) (n : ℕ) → room_fails w n ≡ false → Placed w n
unfolding room_fails
room_there w n f = room_of w n (least_free w n) refl f

-- what passes all tests has passed those before room, and has room
pub with_room : (w : World) (tests : List ℕ) (n : ℕ) → first (tests ++ (refuse 22 (room_fails w n) ∷ [])) ≡ 0 → (first tests ≡ 0) × Placed w n
with_room w tests n z =
    let p = first_parts tests (refuse 22 (room_fails w n) ∷ []) z in
    (p.0, room_there w n (refuse_none 22 _ (omega arith) (first_none _ _ p.1).0))

-- ---- every call

pub accept_sound : (w : World) → Sound w → (c : Call) → refusal_to w c ≡ 0 → Sound (accept w c)
unfolding refusal_to byte_for accept
accept_sound w s (create id tag name) z =
    let p = with_room w (create_tests w id tag name) (header_len w) z in
    let r = p.1 in
    rw r.is (created_sound w s id tag name (creates w id tag name p.0) r.at r.least.free)
accept_sound w s (grow id) z =
    let n : ℕ = step_len w (region_in w id) in
    let p = with_room w (grow_tests w id) n z in
    let r = p.1 in
    rw r.is (grown_sound w s id (grows w id p.0) r.at n (step_len_some w (region_in w id)) r.least.free)
accept_sound w s (publish id len) z = published_sound w s id len (publishes w id len z)
accept_sound w s (drop id) z = dropped_sound w s id (known_true w id (not-false _ (refuse_none 16 _ (omega arith) (first_none _ _ z).0)))
accept_sound w s (cap tag limit) z = capped_sound w s tag limit (refuse_none 19 _ (omega arith) (first_none _ _ z).0)
accept_sound w s (locate id pos n) z = s

pub next_sound : (w : World) → Sound w → (c : Call) → Sound (next w c)
next_sound w s c = next_cases w c Sound (accept_sound w s c) (λ d. s)

-- ---- every list of calls

pub after_sound : (w : World) → Sound w → (cs : List Call) → Sound (world_after w cs)
unfolding world_after
after_sound w s [] = s
after_sound w s (c ∷ cs) = after_sound (next w c) (next_sound w s c) cs

pub along_sound : (w : World) → Sound w → (cs : List Call) → All Sound (worlds_along w cs)
unfolding worlds_along
along_sound w s [] = (s, tt)
along_sound w s (c ∷ cs) = (s, along_sound (next w c) (next_sound w s c) cs)

-- ---- create and grow where a span is free

-- the tests before that of room decide
pub room_left : (w : World) (tests : List ℕ) (n a : ℕ) → least_free w n ≡ Some a → first (tests ++ (refuse 22 (room_fails w n) ∷ [])) ≡ first tests
unfolding room_fails
room_left w tests n a e =
    let q = none_first (refuse 22 (room_fails w n) ∷ []) (pass_none 22 (room_fails w n) (rw e), tt) in
    by_eq (first tests) 0 (λ z. first_go tests _ z ∙ q ∙ sym z) (first_stop tests _)

pub created_next : (w : World) (id tag : ℕ) (name : List ℕ) (a : ℕ) → first (create_tests w id tag name) ≡ 0 → least_free w (header_len w) ≡ Some a
    → (answer_to w (create id tag name) ≡ accepted (Some a)) × (next w (create id tag name) ≡ created_at w id tag name a)
unfolding refusal_to byte_for accept
created_next w id tag name a z e =
    let r = room_left w (create_tests w id tag name) (header_len w) a e ∙ z in
    (answer_value _ _ r ∙ ap accepted e, next_accepted w (create id tag name) r ∙ ap (λ (o : Option ℕ). created_at w id tag name (or_zero o)) e)

pub grown_next : (w : World) (id a : ℕ) → first (grow_tests w id) ≡ 0 → least_free w (step_len w (region_in w id)) ≡ Some a
    → (answer_to w (grow id) ≡ accepted (Some a)) × (next w (grow id) ≡ grown_at w id a)
unfolding refusal_to byte_for accept
grown_next w id a z e =
    let n : ℕ = step_len w (region_in w id) in
    let r = room_left w (grow_tests w id) n a e ∙ z in
    (answer_value _ _ r ∙ ap accepted e, next_accepted w (grow id) r ∙ ap (λ (o : Option ℕ). grown_at w id (or_zero o)) e)
