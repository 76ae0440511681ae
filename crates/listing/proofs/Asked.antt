-- What the calls on an open plan, and the lines that are none, do to a session.
use Rattle.std.proofs.Common.{◌≡◌, ℕ, true, false, List, length, refl, ap, ◌∙◌, eqb, Option, None, Some, Err}
use Rattle.line.specs.Command.{Command, opening, calling}
use Rattle.line.specs.Meaning.{command_of}
use Rattle.line.specs.declared.command.Command as code
use Rattle.line.specs.declared.command.Command.TheVariants.{Open, Create, Grow, Publish, Drop, Cap, Locate}
use Rattle.listing.specs.Program.{answer_in, after}
use Rattle.listing.specs.Session.{Asks, world_in}
use Rattle.listing.specs.declared.session.Session.{Session}
use Rattle.footprint.specs.declared.Limits.{Limits}
use Rattle.model.specs.Calls.{Call, locate, refusal_to, accept, next}
use Rattle.numbers.proofs.Cases.{cases}
use Rattle.numbers.specs.Refusals.{refused}
use Rattle.numbers.specs.declared.refusal.Refusal.TheVariants.{Malformed}
use Rattle.plan.specs.Calls.{Called, Leaves, Locates, left}
use Rattle.plan_record.specs.Plan.{world_of, Reply}
use Rattle.plan_record.specs.declared.Outcome.{Outcome}
use Rattle.plan_record.specs.declared.Plan.{Plan}

-- A session whose plan is another, with lists as long.
module _ (s : Session) (p : Plan) (xs ss fs : List ℕ) (c : Call) (r : Reply) (o : s.opened ≡ true) where
  abbrev pub state : Session
  state = record { plan = p; opened = s.opened; extents = xs; starts = ss; files = fs }

  -- Of a locate it is to be shown that it leaves the session.
  pub called_asks : length xs ≡ length s.extents → length ss ≡ length s.starts → length fs ≡ length s.files
      → Called s.plan c s.extents s.starts s.files xs ss fs (left r p) → ((id pos n : ℕ) → c ≡ locate id pos n → state ≡ s)
      → Asks s (Some (calling c)) state r
  unfolding answer_in after
  called_asks lx ls lf h l =
      record {
        ready = λ d. record { extents = lx ∙ d.extents; starts = ls ∙ d.starts; files = lf ∙ d.files; valid = λ t. h.valid (d.valid o) };
        told = λ d. rw o (h.answer (d.valid o));
        world = λ d. rw o (ap Some (h.world (d.valid o)));
        refused = λ n e. let q = h.refused n e in rw (q.0, q.1, q.2, q.3) refl;
        located = λ id pos n e. l id pos n cc;
      }

-- A call that leaves the lists.
pub leaves_called : {p : Plan} {c : Call} {xs₀ ss₀ fs₀ xs ss fs : List ℕ} {r : Outcome} → Leaves p c xs₀ ss₀ fs₀ xs ss fs r → Called p c xs₀ ss₀ fs₀ xs ss fs r
leaves_called {p = p} {c = c} {xs₀ = xs₀} {ss₀ = ss₀} {fs₀ = fs₀} {r = r} h = rw (h.extents, h.starts, h.files) h.called

-- A locate is a call that changes nothing.
pub locates_called : (p : Plan) (id pos n : ℕ) (xs ss fs : List ℕ) (r : Reply) → Locates p id pos n ss fs r → Called p (locate id pos n) xs ss fs xs ss fs (left r p)
unfolding next accept
locates_called p id pos n xs ss fs r h =
    record {
      answer = λ v. h.answer xs v;
      valid = λ v. v;
      world = λ v. cases (eqb (refusal_to (world_of p xs) (locate id pos n)) 0) (λ t. rw t refl) (λ f. rw f refl);
      refused = λ k e. (refl, refl, refl, refl);
    }

-- ---- lines that are refused as such

-- The session is left.
left_asks : (s : Session) (c : Option Command) → refused 25 ≡ answer_in (world_in s) c → world_in s ≡ after (world_in s) c → Asks s c s (Err Malformed)
left_asks s c a w = record { ready = λ d. d; told = λ d. a; world = λ d. w; refused = λ n e. refl; located = λ id pos n e. refl }

pub none_asks : (s : Session) → Asks s None s (Err Malformed)
unfolding answer_in after
none_asks s = left_asks s None refl refl

pub again_asks : (s : Session) (lim : Limits) → s.opened ≡ true → Asks s (Some (opening lim)) s (Err Malformed)
unfolding answer_in after
again_asks s lim e = left_asks s (Some (opening lim)) (rw e refl) (rw e refl)

early_call : (s : Session) (c : Call) → s.opened ≡ false → Asks s (Some (calling c)) s (Err Malformed)
unfolding answer_in after
early_call s c e = left_asks s (Some (calling c)) (rw e refl) (rw e refl)

pub early_asks : (s : Session) (k : code.Command) → ((lim : Limits) → k ≡ Open lim → ⊥) → s.opened ≡ false → Asks s (Some (command_of k)) s (Err Malformed)
early_asks s (Open lim) f e = absurd (f lim refl)
early_asks s (Create id tag name) f e = early_call s _ e
early_asks s (Grow id) f e = early_call s _ e
early_asks s (Publish id len) f e = early_call s _ e
early_asks s (Drop id) f e = early_call s _ e
early_asks s (Cap tag limit) f e = early_call s _ e
early_asks s (Locate id pos n) f e = early_call s _ e
