-- Document 01's listing: the lines that a list of calls is answered by, and the one that 01 shows.
use Rattle.std.specs.Prelude.{ℕ, List, [], ◌∷◌, ◌≡◌}
use Rattle.model.specs.Calls.{Call, create, grow, publish, locate, answer_to, refusal_shown, at_shown, next}
use Rattle.model.specs.Open.{Opening, open_refusal, opened}
use Rattle.model.specs.World.{World, held, free}

-- "Each line is answered by: refusal (0 if accepted), at (byte placed or located, else 0), held, free."
pub record Line : Type 0 where
  pub refusal : ℕ
  pub at : ℕ
  pub held : ℕ
  pub free : ℕ

abbrev pub line : (refusal at held free : ℕ) → Line
line n a h f = record { refusal = n; at = a; held = h; free = f }

unfoldable pub lines_of : World → List Call → List Line
lines_of w [] = []
lines_of w (c ∷ cs) = line (refusal_shown (answer_to w c)) (at_shown (answer_to w c)) (held (next w c)) (free (next w c)) ∷ lines_of (next w c) cs

-- "call=open table_end=8192 len=106496 log2=12"; "The program's open brings no records", and lends what is needed.
abbrev pub opening : Opening
opening = record { limits = record { log2_block = 12; table_end = 8192; file_len = 106496 }; records = []; extents = []; scratch = 0; places = 64 }

-- "mainA"
abbrev pub main_a : List ℕ
main_a = 109 ∷ 97 ∷ 105 ∷ 110 ∷ 65 ∷ []

abbrev pub calls : List Call
calls = create 1 7 main_a ∷ grow 1 ∷ publish 1 65536 ∷ locate 1 65535 1 ∷ locate 1 65535 2 ∷ []

pub record Listing : Type 0 where
  -- "refusal=0 at=0 held=0 free=98304"
  pub open-refusal : open_refusal opening ≡ 0
  pub open_held : held (opened opening) ≡ 0
  pub open_free : free (opened opening) ≡ 98304
  pub lines : lines_of (opened opening) calls
      ≡ line 0 8192 8192 90112
      ∷ line 0 16384 73728 24576
      ∷ line 0 0 73728 24576
      ∷ line 0 81919 73728 24576
      ∷ line 23 0 73728 24576
      ∷ []
