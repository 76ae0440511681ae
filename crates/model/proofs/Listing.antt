-- 01's listing, each answer line from the definitions.
use Prim.Native.Nat.{ℕ, ◌+◌, ◌-◌}
use mathlib.Core.List.{List, [], ◌∷◌}
use Rattle.std.specs.Prelude.{Option, None, Some}
use mathlib.Core.Path.{◌≡◌, refl, subst}
use native.Mathlib.Omega.{arith}
use Rattle.align.specs.Align.{up_to}
use Rattle.footprint.specs.Footprint.{kind_code}
use Rattle.freemap.specs.Fit.{first_fit, allows, skipped, place_in}
use Rattle.freemap.specs.Inner.{swept}
use Rattle.model.specs.Calls.{Call, create, grow, publish, locate, known, named, tag_full, cap_fails, created_at, step, refusal_to, byte_for, answer_to, accept, next, refusal_shown, at_shown, grown_at, published_at}
use Rattle.model.specs.Listing.{line, Line, lines_of, opening, main_a, Listing}
use Rattle.model.specs.Open.{lists_fail_in, logs_fail_in, length_fails, each_record, marked, open_refusal, opened, highest, rows_for}
use Rattle.model.specs.Region.{footprints, on_region}
use Rattle.model.specs.Span.{least_free}
use Rattle.model.specs.World.{World, held, free, has_row}
use Rattle.numbers.specs.Keyed.{has_key, keyed, put_keyed}
use Rattle.numbers.specs.Lists.{any, any_two, keep}
use Rattle.numbers.specs.Order.{precedes}
use Rattle.numbers.specs.Pairs.{pairs}
use Rattle.numbers.specs.Range.{end_of}
use Rattle.numbers.specs.Refusals.{Answer, accepted, refused, answer, first, refuse}
use Rattle.numbers.specs.Sums.{sum}
use Rattle.regionmap.specs.Map.{last_at}
use Rattle.runs.specs.Runs.{not_empty, joined_to, joined, runs_from}
use Rattle.settle.specs.Settle.{marks_from}
use Rattle.sort.specs.Sort.{sorted, insert}
use Rattle.tagspace.specs.Row.{fits, allows as cap_allows}
use Rattle.model.proofs.Figures.{held_and_free}
use Rattle.model.proofs.Opening.{opened_sound}
use Rattle.model.proofs.Sound.{Sound}
use Rattle.model.proofs.Spans.{least_swept}
use Rattle.model.proofs.Steps.{next_sound, created_next, grown_next}

-- one line, where the call leads to v
line_is : (w v : World) (c : Call) (cs : List Call) (a : Answer (Option ℕ)) (h f : ℕ) (ls : List Line)
    → answer_to w c ≡ a → next w c ≡ v → held v ≡ h → free v ≡ f → lines_of v cs ≡ ls → lines_of w (c ∷ cs) ≡ line (refusal_shown a) (at_shown a) h f ∷ ls
unfolding lines_of
line_is w v c cs a h f ls ea ev eh ef el = rw (ea, ev, eh, ef, el)

-- free bytes from those that are held
free_is : (w : World) → Sound w → (f : ℕ) → w.limits.file_len - w.limits.table_end ≡ held w + f → free w ≡ f
free_is w s f e = let h = held_and_free w s in omega arith

-- ---- the worlds of the listing

abbrev w0 : World
w0 = opened opening

abbrev w1 : World
w1 = created_at w0 1 7 main_a 8192

abbrev w2 : World
w2 = grown_at w1 1 16384

abbrev w3 : World
w3 = published_at w2 1 65536

opens : open_refusal opening ≡ 0
unfolding open_refusal lists_fail_in logs_fail_in length_fails marked marks_from first refuse any any_two pairs sum each_record
opens = refl

s0 : Sound w0
s0 = opened_sound opening opens

place0 : least_free w0 8192 ≡ Some 8192
unfolding each_record footprints sorted insert precedes swept first_fit allows skipped place_in up_to end_of
place0 = least_swept w0 s0 8192 (omega arith)

step1 : (answer_to w0 (create 1 7 main_a) ≡ accepted (Some 8192)) × (next w0 (create 1 7 main_a) ≡ w1)
unfolding first refuse known has_key named tag_full cap_fails has_row rows_for each_record any highest fits cap_allows keyed
step1 = created_next w0 1 7 main_a 8192 refl place0

s1 : Sound w1
s1 = subst Sound step1.1 (next_sound w0 s0 (create 1 7 main_a))

place1 : least_free w1 65536 ≡ Some 16384
unfolding each_record footprints sorted insert precedes swept first_fit allows skipped place_in up_to end_of
place1 = least_swept w1 s1 65536 (omega arith)

step2 : (answer_to w1 (grow 1) ≡ accepted (Some 16384)) × (next w1 (grow 1) ≡ w2)
unfolding first refuse known has_key cap_fails rows_for each_record any fits cap_allows keyed put_keyed kind_code step keep sum
step2 = grown_next w1 1 16384 refl place1

s2 : Sound w2
s2 = subst Sound step2.1 (next_sound w1 s1 (grow 1))

step3 : (answer_to w2 (publish 1 65536) ≡ accepted None) × (next w2 (publish 1 65536) ≡ w3)
unfolding answer refusal_to byte_for next accept first refuse known has_key each_record any on_region keyed step sum
step3 = (refl, refl)

s3 : Sound w3
s3 = subst Sound step3.1 (next_sound w2 s2 (publish 1 65536))

step4 : (answer_to w3 (locate 1 65535 1) ≡ accepted (Some 81919)) × (next w3 (locate 1 65535 1) ≡ w3)
unfolding answer refusal_to byte_for next accept first refuse known has_key each_record any on_region keyed step not_empty joined_to joined runs_from last_at
step4 = (refl, refl)

step5 : (answer_to w3 (locate 1 65535 2) ≡ refused 23) × (next w3 (locate 1 65535 2) ≡ w3)
unfolding answer refusal_to byte_for next accept first refuse known has_key each_record any on_region keyed step not_empty joined_to joined runs_from last_at
step5 = (refl, refl)

abbrev located : List Call
located = locate 1 65535 1 ∷ locate 1 65535 2 ∷ []

pub listing : Listing
unfolding sum each_record on_region keyed step lines_of
listing =
    record {
      open-refusal = opens;
      open_held = refl;
      open_free = free_is w0 s0 98304 refl;
      lines =
          line_is w0 w1 _ (grow 1 ∷ publish 1 65536 ∷ located) _ 8192 90112 _ step1.0 step1.1 refl (free_is w1 s1 90112 refl)
          (line_is w1 w2 _ (publish 1 65536 ∷ located) _ 73728 24576 _ step2.0 step2.1 refl (free_is w2 s2 24576 refl)
          (line_is w2 w3 _ located _ 73728 24576 _ step3.0 step3.1 refl (free_is w3 s3 24576 refl)
          (line_is w3 w3 _ (locate 1 65535 2 ∷ []) _ 73728 24576 _ step4.0 step4.1 refl (free_is w3 s3 24576 refl)
          (line_is w3 w3 _ [] _ 73728 24576 [] step5.0 step5.1 refl (free_is w3 s3 24576 refl) refl))));
    }
