-- How long the text of an answer is.
use Rattle.std.proofs.Common.{◌≡◌, ℕ, ◌-◌, ◌^◌, ◌≤◌, ◌<◌, List, length, take, drop, arith, length-take, length-drop, length-set, length-append, drop-cons, drop_of_length-le, suc, set, ◌∙◌, le-leb, ◌+◌, append_assoc, ◌++◌, ◌∷◌, [], codes}
use Rattle.std.proofs.lemmas.Fmt.{length-decimal-le}
use borrow.Author.Tests.{lt-leb}
use lib.Seq.{drop-drop}
use Rattle.std.proofs.lemmas.List.{get_or-set_same}
use borrow.Rule.Slice.PartMut.{put_mid}
use Rattle.line.specs.Answer.{answer_text, over, Put}
use Rattle.model.specs.Listing.{line}
use Rattle.std.specs.Fmt.{decimal}

-- No number of 64 bits has more than 20 digits.
pub few_digits : (n : ℕ) → n < 2 ^ 64 → length (decimal n) ≤ 20
few_digits n h = length-decimal-le 20 n (omega arith) (omega (arith, h)) h

-- The n places of a list that end at b.
pub part_len : (s : List ℕ) (b n : ℕ) → n ≤ b → b ≤ length s → length (take (b - (b - n)) (drop (b - n) s)) ≡ n
part_len s b n h k = simp (length-take, length-drop) (omega (arith, h, k))

-- The fields one in front of the other.
pub spelled : (r a h f : ℕ) (d₀ d₁ d₂ d₃ d₄ : List ℕ) → d₀ ≡ codes "\n" → d₁ ≡ codes " free=" ++ decimal f ++ d₀ → d₂ ≡ codes " held=" ++ decimal h ++ d₁
    → d₃ ≡ codes " at=" ++ decimal a ++ d₂ → d₄ ≡ codes "refusal=" ++ decimal r ++ d₃ → d₄ ≡ answer_text (line r a h f)
unfolding answer_text
spelled r a h f d₀ d₁ d₂ d₃ d₄ e₀ e₁ e₂ e₃ e₄ = rw (e₄, e₃, e₂, e₁, e₀) (simp append_assoc)

-- There is no room.
pub not_put : (at : ℕ) (text s : List ℕ) → length s < at + length text → Put at text s s at
not_put at text s h = let e = lt-leb _ _ h in record { slots = simp e; place = simp e }

-- There is.
pub is_put : (at : ℕ) (text s : List ℕ) → at + length text ≤ length s → Put at text s (put_mid at (at + length text - at) s text) (at + length text)
unfolding over
is_put at text s h =
    let f = le-leb _ _ h in
    let m : at + length text - at ≡ length text = omega arith in
    let d : drop (length text) (drop at s) ≡ drop (at + length text) s = drop-drop (length text) at s in
    record { slots = simp (f, m, d, append_assoc); place = simp f }

-- The last place of a list, where something was stored.
pub last_stored : (s : List ℕ) (i v : ℕ) → length s ≡ suc i → drop i (set s i v) ≡ v ∷ []
last_stored s i v e =
    let n : length (set s i v) ≡ suc i = length-set s i v ∙ e in
    drop-cons (set s i v) i 0 (omega (arith, n)) ∙ simp (get_or-set_same s i v 0 (omega (arith, e)), drop_of_length-le (set s i v) {i = suc i} (omega (arith, n)))

-- No answer is longer.
pub answer_short : (r a h f : ℕ) → r < 2 ^ 64 → a < 2 ^ 64 → h < 2 ^ 64 → f < 2 ^ 64 → length (answer_text (line r a h f)) ≤ 105
unfolding answer_text
answer_short r a h f i j k l =
    let r' = few_digits r i in
    let a' = few_digits a j in
    let h' = few_digits h k in
    let f' = few_digits f l in
    simp length-append (omega (arith, r', a', h', f'))
