-- The cases that a list of numbers holds, one behind another.
use Rattle.std.specs.Prelude.{ℕ, List, [], Option, ◌≡◌, eqb, length, get_or, drop, MatchOption}
use Rattle.sample.specs.declared.cases.Case.{Case}
use Rattle.sample.specs.Words.{list_of, past_list}

-- What a case says of the list that w begins with: the first of its numbers, those behind it, and whether it has as many as it says.
pub record Says (w : List ℕ) (case : Case) : Type 0 where
  pub kind : case.kind ≡ get_or (list_of w) 0 0
  pub call : case.call.now ≡ drop 1 (list_of w)
  pub whole : case.whole ≡ eqb (length (list_of w)) (get_or w 0 0)

-- The list that w begins with is handed out, and what follows it is left; nothing where w is empty.
abbrev pub HandsOut : List ℕ → Option Case → List ℕ → Type 0
HandsOut w next left = MatchOption next (w ≡ []) (λ case. Says w case × (left ≡ past_list w))
