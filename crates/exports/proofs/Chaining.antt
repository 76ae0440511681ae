-- Calls one after another, as a loop makes them.
use Rattle.std.proofs.Common.{ℕ, ◌+◌, ◌<◌, ◌≤◌, List, [], ◌∷◌, ◌≡◌, length, get_or, drop, ap, ◌∙◌}
use lib.ListN.{drop_of_length-le}
use lib.Seq.{drop-drop}
use Rattle.std.specs.Prelude.{Result}
use Rattle.exports.specs.Each.{Locating, Locate, LocatedEach, questions}
use Rattle.flat.specs.Chain.{Chain}
use Rattle.numbers.specs.declared.refusal.Refusal.{Refusal}
use Rattle.numbers.specs.Pairs.{chunk_range, ranges_in}
use Rattle.numbers.specs.Range.{Range, blank}
use Rattle.numbers.proofs.Chunks.{chunk_at, length_ranges}
use Rattle.numbers.proofs.Lists.{at_front, from_here}

-- ---- questions from i on

module _ (ts es : List ℕ) (i : ℕ) where
  pub questions_next : i < length ts
      → questions (drop i ts) (drop i es) ≡ record { tag = get_or ts i 0; extra = get_or es i 0 } ∷ questions (drop (i + 1) ts) (drop (i + 1) es)
  unfolding questions
  questions_next h = rw (from_here ts i 0 h, at_front es i 0, drop-drop 1 i es)

  pub questions_end : length ts ≤ i → questions (drop i ts) (drop i es) ≡ []
  unfolding questions
  questions_end h = rw (drop_of_length-le ts h)

-- ---- pairs from i on

module _ (cs : List (List ℕ)) (i : ℕ) where
  pub chunk_next : i < length cs → drop i (ranges_in cs) ≡ chunk_range (get_or cs i []) ∷ drop (i + 1) (ranges_in cs)
  chunk_next h =
      from_here (ranges_in cs) i blank (rw (length_ranges cs) h) ∙ ap (λ (x : Range). x ∷ drop (i + 1) (ranges_in cs)) (chunk_at cs i)

  pub chunks_end : length cs ≤ i → drop i (ranges_in cs) ≡ []
  chunks_end h = drop_of_length-le (ranges_in cs) {i = i} (rw (length_ranges cs) h)

-- ---- a weaker promise

module _ (P Q : ℕ → Result ℕ Refusal → Type 0) (f : (p : ℕ) (r : Result ℕ Refusal) → P p r → Q p r) where
  chain_as : (ps : List ℕ) (s t : Locating) → Chain (Locate P) ps s t → Chain (Locate Q) ps s t
  chain_as [] s t e = e
  chain_as (p ∷ ps) s t c =
      let l = c.1 in
      (c.0, record { place = l.place; promise = f p l.place l.promise; bytes = l.bytes; next = l.next; count = l.count }, chain_as ps c.0 t c.2)

  pub located_as : (ps bs₀ bs : List ℕ) (r : ℕ) → LocatedEach P ps bs₀ bs r → LocatedEach Q ps bs₀ bs r
  located_as ps bs₀ bs r l = record { short = l.short; each = λ e. chain_as ps _ _ (l.each e) }
