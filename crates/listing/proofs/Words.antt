-- What the definitions say in document 01's words: which lines an input has, and that their answers are the model's.
use Rattle.std.proofs.Common.{◌≡◌, ℕ, List, [], ◌∷◌, ◌++◌, refl, sym, ap, ◌∙◌, eqb, Some, map, append_assoc, append-nil}
use borrow.Author.Tests.{eqb-true}
use Rattle.line.proofs.Grammar.{taken, said_by}
use Rattle.line.specs.Answer.{answer_text}
use Rattle.line.specs.Command.{calling, line_of, Fits}
use Rattle.listing.proofs.Cutting.{Inside}
use Rattle.listing.specs.Lines.{ended, begun}
use Rattle.listing.specs.Program.{line_for, texts, answer_in, after}
use Rattle.model.specs.Calls.{Call, next}
use Rattle.model.specs.Listing as model
use Rattle.model.specs.World.{World}
use Rattle.numbers.proofs.Cases.{cases}
use Rattle.numbers.specs.Lists.{All}

-- ---- the lines of an input

-- Lines, each with its line end.
unfoldable pub with_ends : List (List ℕ) → List ℕ
with_ends [] = []
with_ends (l ∷ ls) = l ++ (10 ∷ []) ++ with_ends ls

-- They are the whole input, with what has come of the next line behind them ..
pub whole : (c bs : List ℕ) → c ++ bs ≡ with_ends (ended c bs) ++ begun c bs
unfolding ended begun with_ends
whole c [] = append-nil c
whole c (b ∷ bs) =
    cases (eqb b 10)
    (λ t. simp t (rw (eqb-true _ _ t) (sym (append_assoc c (10 ∷ []) bs)) ∙ ap (λ l. c ++ (10 ∷ []) ++ l) (whole [] bs) ∙ simp append_assoc))
    (λ f. simp f (sym (append_assoc c (b ∷ []) bs) ∙ whole (c ++ (b ∷ [])) bs))

-- .. and none of them has a line end inside, so that there is no other way to cut it.
inside_more : (c : List ℕ) (b : ℕ) → All Inside c → Inside b → All Inside (c ++ (b ∷ []))
inside_more [] b h i = (i, tt)
inside_more (x ∷ c) b h i = (h.0, inside_more c b h.1 i)

pub inside_ended : (c bs : List ℕ) → All Inside c → All (All Inside) (ended c bs)
unfolding ended
inside_ended c [] h = tt
inside_ended c (b ∷ bs) h = cases (eqb b 10) (λ t. simp t (h, inside_ended [] bs tt)) (λ f. simp f (inside_ended (c ++ (b ∷ [])) bs (inside_more c b h f)))

pub inside_begun : (c bs : List ℕ) → All Inside c → All Inside (begun c bs)
unfolding begun
inside_begun c [] h = h
inside_begun c (b ∷ bs) h = cases (eqb b 10) (λ t. simp t (inside_begun [] bs tt)) (λ f. simp f (inside_begun (c ++ (b ∷ [])) bs (inside_more c b h f)))

-- ---- the answers

-- Answer lines one behind the other.
unfoldable pub spelled : List model.Line → List ℕ
spelled [] = []
spelled (a ∷ more) = answer_text a ++ spelled more

-- Lines that are calls, behind an accepted open: what the model answers to a list of calls.
pub model_texts : (w : World) (cs : List Call) → All (λ (c : Call). Fits (calling c)) cs → texts (Some w) (map (λ (c : Call). line_of (calling c)) cs) ≡ spelled (model.lines_of w cs)
unfolding texts spelled model.lines_of answer_in after
model_texts w [] h = refl
model_texts w (c ∷ cs) h = rw (taken (line_of (calling c)) (calling c) (said_by (calling c) h.0)) (ap (λ t. answer_text (line_for (Some w) (Some (calling c))) ++ t) (model_texts (next w c) cs h.1))
