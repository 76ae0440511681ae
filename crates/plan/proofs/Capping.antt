-- What each return of `cap` promises.
use Rattle.numbers.proofs.Answers.{no_error}
use Rattle.numbers.specs.declared.refusal.Refusal.TheVariants.{Full}
use Rattle.numbers.specs.declared.refusal.Refusal.{Refusal}
use Rattle.std.specs.Prelude.{Option, Ok, Err, None}
use Prim.Native.Nat.{ℕ}
use mathlib.Core.Bool.{true, false}
use mathlib.Core.List.{List, map}
use mathlib.Core.Path.{◌≡◌, refl, ap, sym, ◌∙◌}
use Rattle.accounting.specs.declared.Accounting.{Accounting}
use Rattle.accounting.specs.declared.Posted.{Posted}
use Rattle.model.specs.Calls.{cap, refusal_to, byte_for, accept, tag_full, capped}
use Rattle.numbers.specs.Refusals.{refuse, first}
use Rattle.plan_record.specs.Plan.{rows_of, cap_of, world_of, Valid}
use Rattle.plan_record.specs.declared.Plan.{Plan}
use Rattle.plan.specs.Calls.{Changes}
use Rattle.plan.specs.Inner.{refusing}
use Rattle.tagspace.specs.Row.{set_cap}
use Rattle.model.proofs.Sound.{Sound}
use Rattle.numbers.proofs.Cases.{cases}
use Rattle.plan_record.proofs.Tags.{table_in, Taken, posting_taken, posting_refused, posted_rows, row_tag, accounted_on}
use Rattle.plan.proofs.Refusing.{called_refused, called_accepted, Accepts}
use Rattle.accounting.specs.Table as accounting
use Rattle.model.specs.World as model

abbrev pub with_accounts : Plan → Accounting → Plan
with_accounts p a = record { limits = p.limits; last = p.last; count = p.count; regions = p.regions; accounts = a }

-- other accounts: the regions and their rows stay
pub accounts_valid : (p : Plan) (xs ss fs : List ℕ) → Valid p xs ss fs → (a : Accounting) → accounting.Valid a
    → ((tag : ℕ) → accounting.row_of tag (rows_of (with_accounts p a)) ≡ model.account_of (world_of (with_accounts p a) xs) tag)
    → Sound (world_of (with_accounts p a) xs) → Valid (with_accounts p a) xs ss fs
accounts_valid p xs ss fs v a av ac so =
    record {
      full = v.full;
      few = v.few;
      extents = v.extents;
      starts = v.starts;
      files = v.files;
      rows = v.rows;
      inside = v.inside;
      mapped = v.mapped;
      accounts = av;
      accounted = ac;
      sound = so;
    }

module _ (p : Plan) (tag : ℕ) (limit : Option ℕ) (q : Posted) (o : accounting.Posts p.accounts (accounting.on_row tag (set_cap limit)) q) where
  module _ (xs ss fs : List ℕ) (v : Valid p xs ss fs) where
    abbrev w : model.World
    w = world_of p xs

    taken : tag_full w tag ≡ false → Taken p xs ss fs v tag (set_cap limit) (λ r. refl) q
    taken f = posting_taken p xs ss fs v tag (set_cap limit) (λ r. refl) q o f

    full_is : tag_full w tag ≡ true → q.answer ≡ Err Full
    full_is f = posting_refused p xs ss fs v tag (set_cap limit) (λ r. refl) q o f

  pub cap_refused : (n : Refusal) → q.answer ≡ Err n → Changes p (cap tag limit) (refusing p n)
  unfolding refusal_to first refuse
  cap_refused n e =
      record {
        called = λ xs ss fs.
            called_refused p (cap tag limit) xs ss fs n
            (λ v.
            cases (tag_full (world_of p xs) tag)
            (λ f. let h : n ≡ Full = let y = sym e ∙ full_is xs ss fs v f in cc in rw h (simp f))
            (λ f. absurd (no_error tt n (sym (taken xs ss fs v f).number ∙ e))));
      }

  module _ (z : q.answer ≡ Ok tt) (xs ss fs : List ℕ) (v : Valid p xs ss fs) where
    abbrev p' : Plan
    p' = with_accounts p q.accounts

    not_full : tag_full (world_of p xs) tag ≡ false
    not_full = cases (tag_full (world_of p xs) tag) (λ f. absurd (no_error tt Full (sym z ∙ full_is xs ss fs v f))) (λ f. f)

    rows_next : map cap_of (accounting.table_of q.accounts).rows ≡ model.put_row (model.tag_row tag limit) (map cap_of (rows_of p))
    rows_next =
        ap (λ (t : accounting.Table). map cap_of t.rows) (taken xs ss fs v not_full).table
        ∙ posted_rows tag (set_cap limit) (table_in p)
        ∙ ap (λ (n : ℕ). model.put_row (model.tag_row n limit) (map cap_of (rows_of p))) (row_tag tag (rows_of p))

    world_next : world_of p' xs ≡ capped (world_of p xs) tag limit
    unfolding world_of
    world_next = rw rows_next

    accounted_next : (t : ℕ) → accounting.row_of t (rows_of p') ≡ model.account_of (world_of p' xs) t
    unfolding world_of
    accounted_next =
        accounted_on p xs ss fs v tag (set_cap limit) (λ r. refl) p' xs (ap (λ (t : accounting.Table). t.rows) (taken xs ss fs v not_full).table)
        refl refl refl (λ t d. (refl, refl))

    accepts : Accepts p (cap tag limit) xs ss fs xs ss fs None p' v
    unfolding refusal_to first refuse byte_for accept
    accepts =
        record {
          passes = simp not_full;
          byte = refl;
          world = world_next;
          valid = accounts_valid p xs ss fs v q.accounts (taken xs ss fs v not_full).valid accounted_next;
        }

  pub cap_done : q.answer ≡ Ok tt → Changes p (cap tag limit) (record { reply = Ok None; plan = with_accounts p q.accounts })
  cap_done z =
      record { called = λ xs ss fs. called_accepted p (cap tag limit) xs ss fs xs ss fs None (with_accounts p q.accounts) (accepts z xs ss fs) }
