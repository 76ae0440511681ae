-- What is promised of bytes that are written and read.
use Rattle.std.specs.Prelude.{ℕ, List, [], ◌++◌, ◌≡◌, Option, Result, OnOk}
use Rattle.std.specs.Io.KnownBytes.{Appends}

-- A text is written whole, or only a front part of it where a write failed.
pub record Sent {T E : Type 0} (old new : Option (List ℕ)) (text : List ℕ) (r : Result T E) : Type 0 where
  pub sent : List ℕ
  pub rest : List ℕ
  pub parts : text ≡ sent ++ rest
  pub wrote : Appends old new sent
  pub whole : OnOk r (rest ≡ [])
