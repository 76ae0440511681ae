-- What is taken of some bytes, and what it makes of the state.
use Rattle.std.proofs.Common.{◌≡◌, ℕ, ◌+◌, List, ◌++◌, length, take, refl, sym, ap, ◌∙◌, arith, append-nil, None, Some}
use Rattle.line.specs.Answer.{answer_text}
use Rattle.line.specs.Reading.{command_in}
use Rattle.line.specs.declared.answer.Answer.{Answer}
use Rattle.listing.proofs.Cutting.{Inside, EndAt, line_taken, end_taken, end_inside, ended_none, begun_none, ended_one, begun_one, command_kept}
use Rattle.listing.specs.Feeding.{Kept, world_in, begun_in, Ready, Ends, Takes}
use Rattle.listing.specs.Program.{line_for, after, texts, after_lines}
use Rattle.listing.specs.Session.{Answers}
use Rattle.listing.specs.declared.listing.Listing.{Listing}
use Rattle.listing.specs.declared.session.Session.{Session}
use Rattle.numbers.specs.Lists.{All}
use Rattle.std.proofs.lemmas.List.{take_all}

module _ (l : Listing) (more : List ℕ) where
  -- the line's bytes were put together
  pub ends : {t : List ℕ} {n : ℕ} {s : Session} {a : Answer} → Kept l.begun l.len more t n → Answers l.session (take n t) s a
      → Ends l more (record { session = s; begun = t; len = 0 }) a
  ends k h =
      let same : Ready l → command_in (take _ _) ≡ command_in (begun_in l ++ more) = λ r. ap command_in (k.line ∙ ap (λ i. take i (begun_in l ++ more)) r.places) ∙ command_kept (begun_in l ++ more) in
      record {
        ready = λ r. record { session = h.ready r.session; places = k.places ∙ r.places };
        told = λ r. h.told r.session ∙ ap (line_for (world_in l)) (same r);
        world = λ r. h.world r.session ∙ ap (after (world_in l)) (same r);
        begun = refl;
      }

  -- there were none before
  pub ends_at_once : {s : Session} {a : Answer} → l.len ≡ 0 → Answers l.session more s a → Ends l more (record { session = s; begun = l.begun; len = l.len }) a
  ends_at_once z h =
      record {
        ready = λ r. record { session = h.ready r.session; places = r.places };
        told = λ r. rw z (h.told r.session);
        world = λ r. rw z (h.world r.session);
        begun = rw z refl;
      }

module _ (l : Listing) (rest : List ℕ) where
  pub takes_all : {t : List ℕ} {n : ℕ} → All Inside rest → Kept l.begun l.len rest t n
      → Takes l rest (record { session = l.session; begun = t; len = n }) (record { bytes = length rest; answer = None })
  unfolding texts after_lines
  takes_all i k =
      record {
        within = omega arith;
        some = λ h. h;
        fed =
            record {
              ready = λ r. record { session = r.session; places = k.places ∙ r.places };
              world = λ r. rw (take_all (length rest) rest (omega arith), ended_none (begun_in l) rest i) refl;
              begun = λ r. rw (take_all (length rest) rest (omega arith), begun_none (begun_in l) rest i) (k.line ∙ ap (λ j. take j (begun_in l ++ rest)) r.places);
            };
        told = λ r. rw (take_all (length rest) rest (omega arith), ended_none (begun_in l) rest i) refl;
      }

  pub takes_line : {i : ℕ} {m : Listing} {a : Answer} → EndAt rest 0 i → Ends l (take i rest) m a → Takes l rest m (record { bytes = i + 1; answer = Some a })
  unfolding texts after_lines
  takes_line e h =
      let f = end_taken e in
      let g = line_taken e in
      record {
        within = let b = end_inside e in omega (arith, b);
        some = λ h. omega arith;
        fed =
            record {
              ready = h.ready;
              world = λ r. rw (f, ended_one (begun_in l) e.before e.inside) (h.world r ∙ ap (λ x. after (world_in l) (command_in (begun_in l ++ x))) g);
              begun = λ r. rw (f, begun_one (begun_in l) e.before e.inside) h.begun;
            };
        told = λ r.
            rw (f, ended_one (begun_in l) e.before e.inside)
            (ap answer_text (h.told r ∙ ap (λ x. line_for (world_in l) (command_in (begun_in l ++ x))) g)
            ∙ sym (append-nil (answer_text (line_for (world_in l) (command_in (begun_in l ++ e.before))))));
      }
