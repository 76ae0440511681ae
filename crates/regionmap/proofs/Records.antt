-- Answers: a refusal alone, or a record that keeps what the call does not change.
use Rattle.numbers.proofs.Refusals.{reason_above}
use Rattle.numbers.specs.declared.refusal.Refusal.TheVariants.{Lists, Past}
use Rattle.numbers.specs.declared.refusal.Refusal.{Refusal}
use Rattle.std.specs.Prelude.{Ok, Err}
use Prim.Native.Nat.{ℕ, ◌≤◌, ◌<◌, max}
use mathlib.Core.List.{List}
use mathlib.Core.Path.{◌≡◌, ap, sym, ◌∙◌}
use native.Mathlib.Omega.{arith}
use borrow.Author.Tests.{lt-ltb, le-ltb}
use Rattle.numbers.specs.Refusals.{refuse, accepted, answer, refusal_number}
use Rattle.regionmap.specs.Map.{Placement, placement_of, limit, outcome_of, room_refusal, with_room, Roomed, published, Published}
use Rattle.regionmap.specs.declared.RegionMap.{RegionMap}
use Rattle.numbers.proofs.Answers.{answer_value, answer_number}

pub refuses : (r : Refusal) (k : ℕ) (p : Placement) (ss fs : List ℕ) → refusal_number r ≡ k → outcome_of (Err r) ss fs ≡ answer k p
refuses r k p ss fs e = rw (← e) (sym (answer_number (refusal_number r) p (λ z. let h = reason_above r in absurd (omega arith))))

pub accepts : (k : ℕ) (p q : Placement) → k ≡ 0 → p ≡ q → accepted p ≡ answer k q
accepts k p q e h = ap accepted h ∙ sym (answer_value k q e)

-- a room n or more
module _ (m : RegionMap) (n : ℕ) (ss fs : List ℕ) where
  pub room_refused : room_refusal (placement_of m ss fs) n ss fs ≡ 1 → Roomed m n ss fs (Err Lists)
  room_refused e = record { answer = refuses Lists _ (with_room (placement_of m ss fs) n) ss fs (sym e); valid = λ v. tt }

  pub room_given : room_refusal (placement_of m ss fs) n ss fs ≡ 0 → n ≤ limit → (k : ℕ) → k ≡ max m.room n → Roomed m n ss fs
      (Ok (record { first = m.first; len = m.len; capacity = m.capacity; count = m.count; room = k }))
  room_given e l k h =
      record {
        answer = accepts _ _ (with_room (placement_of m ss fs) n) e (rw h);
        valid = λ v.
            record {
              starts = v.starts;
              files = v.files;
              sound =
                  record {
                    laid = v.sound.laid;
                    inside = v.sound.inside;
                    whole = v.sound.whole;
                    fits = v.sound.fits;
                    counted = omega (arith, v.sound.counted, h);
                    limited = omega (arith, v.sound.limited, h);
                  };
            };
      }

-- a length n or more
module _ (m : RegionMap) (n : ℕ) where
  pub publish_refused : m.capacity < n → Published m n (Err Past)
  unfolding refuse
  publish_refused h =
      record {
        answer = λ ss fs. refuses Past _ (published (placement_of m ss fs) n) ss fs (simp (lt-ltb _ _ h));
        valid = λ ss fs v. tt;
      }

  pub publish_given : n ≤ m.capacity → (k : ℕ) → k ≡ max m.len n → Published m n (Ok (record { first = m.first; len = k; capacity = m.capacity; count = m.count; room = m.room }))
  unfolding refuse
  publish_given l k h =
      record {
        answer = λ ss fs. accepts _ _ (published (placement_of m ss fs) n) (simp (le-ltb _ _ l)) (rw h);
        valid = λ ss fs v.
            record {
              starts = v.starts;
              files = v.files;
              sound =
                  record {
                    laid = v.sound.laid;
                    inside = v.sound.inside;
                    whole = v.sound.whole;
                    fits = omega (arith, v.sound.fits, h, l);
                    counted = v.sound.counted;
                    limited = v.sound.limited;
                  };
            };
      }
