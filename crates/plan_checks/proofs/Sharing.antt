-- 14: the search for a number among the later records.
use Rattle.std.proofs.Common.{ℕ, ◌-◌, ◌≤◌, ◌<◌, Bool, false, ◌||◌, List, [], ◌∷◌, length, get_or, drop, take, eqb, ◌≡◌, refl, ap, sym, ◌∙◌, arith}
use lib.Seq.{take_all}
use Rattle.std.specs.List.{list_any}
use Rattle.numbers.specs.Lists.{any, any_two}
use Rattle.plan_checks.specs.Opening.{numbers_of}
use Rattle.plan_record.specs.declared.Record.{Record}
use Rattle.model.specs.Open.{shared}

has_number : (x : ℕ) (rs : List Record) → list_any (λ (r : Record). eqb x r.number) rs ≡ any (eqb x) (numbers_of rs)
unfolding any
has_number x [] = refl
has_number x (r ∷ rs) = ap (λ (b : Bool). eqb x r.number || b) (has_number x rs)

-- those behind the first, as the code takes them
abbrev pub behind : List Record → List Record
behind rs = take (length rs - 1) (drop 1 rs)

-- whether a number comes twice, by what the search for the first record's answers
pub shared_next : (rs : List Record) (d : Record) → 1 ≤ length rs → (b v : Bool)
    → b ≡ list_any (λ (r : Record). eqb (get_or rs 0 d).number r.number) (behind rs) → b ≡ v
    → shared (numbers_of rs) ≡ (v || shared (numbers_of (behind rs)))
unfolding any_two
shared_next [] d h b v e t = absurd (omega arith)
shared_next (r ∷ rs) d h b v e t =
    let all : behind (r ∷ rs) ≡ rs = take_all (length (r ∷ rs) - 1) rs (omega arith) in
    let found : any (eqb r.number) (numbers_of rs) ≡ v =
    sym (has_number r.number rs) ∙ ap (list_any (λ (q : Record). eqb r.number q.number)) (sym all) ∙ sym e ∙ t in
    rw (all, found) refl

pub shared_none : (rs : List Record) → length rs < 1 → shared (numbers_of rs) ≡ false
unfolding any_two
shared_none [] h = refl
shared_none (r ∷ rs) h = absurd (omega arith)
