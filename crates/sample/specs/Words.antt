-- Lists of numbers that may be shorter than they say: their parts, and two lists compared.
use Rattle.std.specs.Prelude.{ℕ, zero, suc, Bool, ◌&&◌, List, ltb, leb, length, get_or, take, drop}
use Rattle.std.specs.List.{list_all}
use Rattle.numbers.specs.Lists.{same}

-- The list that w begins with: its length, and so many numbers.
abbrev pub list_of : List ℕ → List ℕ
list_of w = take (get_or w 0 0) (drop 1 w)

-- What follows it.
abbrev pub past_list : List ℕ → List ℕ
past_list w = drop (get_or w 0 0) (drop 1 w)

-- What follows the n lists that w begins with.
unfoldable pub past_lists : ℕ → List ℕ → List ℕ
past_lists zero w = w
past_lists (suc n) w = past_list (past_lists n w)

-- Each number is at most top.
abbrev pub up_to : ℕ → List ℕ → Bool
up_to top numbers = list_all (λ (n : ℕ). leb n top) numbers

-- The list that w begins with is whole, all its numbers following its length, and has at most so many, each at most top.
abbrev pub is_whole : ℕ → ℕ → List ℕ → Bool
is_whole most top w = ltb (get_or w 0 0) (length w) && leb (get_or w 0 0) most && up_to top (list_of w)

-- Two lists are the same but for the slots from `from` up to `to`.
abbrev pub same_outside : ℕ → ℕ → List ℕ → List ℕ → Bool
same_outside from to a b = same (take from a) (take from b) && same (drop to a) (drop to b)
