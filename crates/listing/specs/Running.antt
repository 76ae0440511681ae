-- What is promised of the program's run.
use Rattle.std.specs.Prelude.{ℕ, List, ◌++◌, ◌≡◌, Option, Result, OnOk}
use Rattle.listing.specs.Feeding.{world_in, begun_in, Ready, Fed}
use Rattle.listing.specs.Lines.{ended, begun, last_line}
use Rattle.listing.specs.Program.{texts, output}
use Rattle.listing.specs.declared.listing.Listing.{Listing}
use Rattle.std.specs.Io.KnownBytes.{Consumes, IsAtEnd}
use Rattle.streams.specs.Streams.{Sent}

-- A block: the answers of the lines that it ends are written.
pub record Passes {T E : Type 0} (l : Listing) (block : List ℕ) (m : Listing) (old new : Option (List ℕ)) (r : Result T E) : Type 0 where
  pub fed : OnOk r (Fed l block m)
  pub text : List ℕ
  pub told : Ready l → text ≡ texts (world_in l) (ended (begun_in l) block)
  pub sent : Sent old new text r

-- The end: "a last line may lack its line end".
pub record Finishes {T E : Type 0} (l : Listing) (old new : Option (List ℕ)) (r : Result T E) : Type 0 where
  pub text : List ℕ
  pub told : Ready l → text ≡ texts (world_in l) (last_line (begun_in l))
  pub sent : Sent old new text r

-- The input from here on, to its end: all that the reader gives is answered, or a front part of that is written where a read or a
-- write failed.
pub record Drives {T E : Type 0} (l : Listing) (in₀ in₁ out₀ out₁ : Option (List ℕ)) (r : Result T E) : Type 0 where
  -- the bytes that were read
  pub read : List ℕ
  pub took : Consumes in₀ in₁ read
  pub end : OnOk r (IsAtEnd in₁)
  pub text : List ℕ
  pub told : Ready l → text ≡ texts (world_in l) (ended (begun_in l) read ++ last_line (begun (begun_in l) read))
  pub sent : Sent out₀ out₁ text r

-- The whole run. For a reader whose bytes are known these are all of them, where the run succeeds.
pub record Runs {T E : Type 0} (in₀ in₁ out₀ out₁ : Option (List ℕ)) (r : Result T E) : Type 0 where
  pub read : List ℕ
  pub took : Consumes in₀ in₁ read
  pub end : OnOk r (IsAtEnd in₁)
  pub sent : Sent out₀ out₁ (output read) r
