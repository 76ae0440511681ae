-- Document 01, "The listing program": what is written for an input.
use Rattle.std.specs.Prelude.{ℕ, cond, List, [], ◌∷◌, ◌++◌, eqb, Option, None, Some}
use Rattle.footprint.specs.declared.Limits.{Limits}
use Rattle.line.specs.Answer.{answer_text}
use Rattle.line.specs.Command.{Command, opening, calling}
use Rattle.line.specs.Reading.{command_in}
use Rattle.listing.specs.Lines.{lines_of}
use Rattle.model.specs.Calls.{answer_to, refusal_shown, at_shown, next}
use Rattle.model.specs.Listing.{Line, line}
use Rattle.model.specs.Open.{Opening, open_refusal, opened}
use Rattle.model.specs.World.{World, held, free}
use Rattle.numbers.specs.Refusals.{Answer, answer, refused}

-- "The program's open brings no records", and lends what the plan needs.
abbrev pub bare : Limits → Opening
bare lim = record { limits = lim; records = []; extents = []; scratch = 0; places = 64 }

-- What a line is answered. There is a world from an accepted open on; a line is a command, or none where it is malformed. "25. A program
-- line is malformed, comes before an accepted open or opens after one (tested first; ..)"
unfoldable pub answer_in : Option World → Option Command → Answer (Option ℕ)
answer_in s None = refused 25
answer_in None (Some (opening lim)) = answer (open_refusal (bare lim)) None
answer_in (Some w) (Some (opening lim)) = refused 25
answer_in None (Some (calling c)) = refused 25
answer_in (Some w) (Some (calling c)) = answer_to w c

-- "A refused call .. changes nothing."
unfoldable pub after : Option World → Option Command → Option World
after s None = s
after None (Some (opening lim)) = cond (eqb (open_refusal (bare lim)) 0) (Some (opened (bare lim))) None
after (Some w) (Some (opening lim)) = Some w
after None (Some (calling c)) = None
after (Some w) (Some (calling c)) = Some (next w c)

-- "until an accepted open the figures are 0"
abbrev pub held_in : Option World → ℕ
held_in None = 0
held_in (Some w) = held w

abbrev pub free_in : Option World → ℕ
free_in None = 0
free_in (Some w) = free w

-- "Each line is answered by: refusal (0 if accepted), at (byte placed or located, else 0), held, free."
abbrev pub line_for : Option World → Option Command → Line
line_for s c = line (refusal_shown (answer_in s c)) (at_shown (answer_in s c)) (held_in (after s c)) (free_in (after s c))

-- The answers to lines, one behind the other, and the world after them.
unfoldable pub texts : Option World → List (List ℕ) → List ℕ
texts s [] = []
texts s (l ∷ ls) = answer_text (line_for s (command_in l)) ++ texts (after s (command_in l)) ls

unfoldable pub after_lines : Option World → List (List ℕ) → Option World
after_lines s [] = s
after_lines s (l ∷ ls) = after_lines (after s (command_in l)) ls

-- What the program writes.
abbrev pub output : List ℕ → List ℕ
output input = texts None (lines_of input)
