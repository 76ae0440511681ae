-- Each record with the extents that its header lists.
use Rattle.std.specs.Prelude.{ℕ, ◌*◌, List, [], ◌∷◌, Option, ◌≡◌, take, drop, MatchOption}
use Rattle.std.specs.Borrow.{Bor}
use Rattle.plan_record.specs.declared.Record.{Record}

-- Of the records rs and the extents l, the first record has its own extents, and the others are left with theirs.
pub record Handed (rs : List Record) (l : List ℕ) (one : Record) (own : List ℕ) (rs' : List Record) (l' : List ℕ) : Type 0 where
  pub first : rs ≡ one ∷ rs'
  pub extents : own ≡ take (2 * one.header.extent_count) l
  pub others : l' ≡ drop (2 * one.header.extent_count) l

-- Nothing is handed out where no record is left.
abbrev pub HandsOut : List Record → List ℕ → Option (Bor Record × Bor (List ℕ)) → List Record → List ℕ → Type 0
HandsOut rs l next rs' l' = MatchOption next (rs ≡ []) (λ item. Handed rs l item.0.now item.1.now rs' l')
