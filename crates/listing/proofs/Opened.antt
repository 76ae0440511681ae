-- What the program's open does: 01's open of no records.
use Rattle.std.proofs.Common.{◌≡◌, ℕ, Bool, true, false, List, [], length, refl, sym, ap, ◌∙◌, Option, None, Some, Ok, Err, subst}
use borrow.Author.Tests.{eq-eqb, ne_eqb}
use Rattle.footprint.specs.declared.Limits.{Limits}
use Rattle.line.specs.Command.{opening}
use Rattle.listing.specs.Program.{bare, answer_in, after}
use Rattle.listing.specs.Session.{Ready, Asks}
use Rattle.listing.specs.declared.session.Session.{Session}
use Rattle.model.specs.Open.{open_refusal, opened}
use Rattle.numbers.proofs.Answers.{accepted_is, refused_is, no_error}
use Rattle.numbers.proofs.Cases.{clash}
use Rattle.numbers.proofs.Pairs.{length_pairs}
use Rattle.numbers.specs.Refusals.{answer, refusal_number}
use Rattle.numbers.specs.declared.refusal.Refusal.{Refusal}
use Rattle.plan_checks.specs.Opening.{opening_of}
use Rattle.plan_open.specs.Open.{Opens, places_of}
use Rattle.plan_record.specs.Plan.{reply_of, Reply}
use Rattle.plan_record.specs.declared.Outcome.{Outcome}
use Rattle.std.specs.Result.{is_ok}

-- A session's new state.
abbrev at : (s : Session) → Outcome → Bool → (xs ss fs : List ℕ) → Session
at s o true xs ss fs = record { plan = o.plan; opened = true; extents = xs; starts = ss; files = fs }
at s o false xs ss fs = record { plan = s.plan; opened = s.opened; extents = xs; starts = ss; files = fs }

module _ (s : Session) (lim : Limits) (xs ss fs : List ℕ) (o : Outcome)
    (h : Opens (opening_of lim [] [] 0 (places_of s.extents s.starts s.files)) s.extents xs s.starts ss s.files fs o)
    (lx : length xs ≡ length s.extents) (ls : length ss ≡ length s.starts) (lf : length fs ≡ length s.files)
    (closed : s.opened ≡ false) where
  -- 64 rows, as the model's open is lent
  rows : Ready s → opening_of lim [] [] 0 (places_of s.extents s.starts s.files) ≡ bare lim
  rows r = rw (length_pairs s.extents, r.extents, r.starts, r.files) refl

  told : Ready s → reply_of o.reply ≡ answer (open_refusal (bare lim)) None
  told r = h.answer ∙ ap (λ q. answer {A = Option ℕ} (open_refusal q) None) (rows r)

  opened_asks : (v : Option ℕ) → o.reply ≡ Ok v → Asks s (Some (opening lim)) (at s o true xs ss fs) o.reply
  unfolding answer_in after
  opened_asks v e =
      let k : o.reply ≡ Ok None = e ∙ ap Ok (sym (accepted_is _ None v (sym h.answer ∙ rw e refl)).1) in
      record {
        ready = λ r. record { extents = lx ∙ r.extents; starts = ls ∙ r.starts; files = lf ∙ r.files; valid = λ t. h.valid k };
        told = λ r. rw closed (told r);
        world = λ r.
            let z : open_refusal (bare lim) ≡ 0 = (accepted_is _ None v (sym (told r) ∙ rw e refl)).0 in
            rw (closed, eq-eqb _ _ z) (ap Some (h.world k ∙ ap opened (rows r)));
        refused = λ n f. absurd (no_error v n (sym e ∙ f));
        located = λ id pos n f. cc;
      }

  refused_asks : (n : Refusal) → o.reply ≡ Err n → Asks s (Some (opening lim)) (at s o false xs ss fs) o.reply
  unfolding answer_in after
  refused_asks n e =
      record {
        ready = λ r. record { extents = lx ∙ r.extents; starts = ls ∙ r.starts; files = lf ∙ r.files; valid = λ t. clash t closed };
        told = λ r. rw closed (told r);
        world = λ r.
            let z = refused_is _ None (refusal_number n) (sym (told r) ∙ rw e refl) in
            rw (closed, ne_eqb _ _ (λ k. z.1 (sym z.0 ∙ k))) refl;
        refused = λ k f. let q = h.kept n e in rw (q.1, q.2, q.3) refl;
        located = λ id pos n f. cc;
      }

  pub open_asks : (b : Bool) → b ≡ is_ok o.reply → Asks s (Some (opening lim)) (at s o b xs ss fs) o.reply
  open_asks b e = subst (λ b. Asks s (Some (opening lim)) (at s o b xs ss fs) o.reply) (sym e) (by_reply o.reply refl)
    where
      by_reply : (q : Reply) → o.reply ≡ q → Asks s (Some (opening lim)) (at s o (is_ok o.reply) xs ss fs) o.reply
      by_reply (Ok v) q = subst (λ b. Asks s (Some (opening lim)) (at s o b xs ss fs) o.reply) (sym (ap is_ok q)) (opened_asks v q)
      by_reply (Err n) q = subst (λ b. Asks s (Some (opening lim)) (at s o b xs ss fs) o.reply) (sym (ap is_ok q)) (refused_asks n q)
