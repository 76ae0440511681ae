-- A key and its number, read and written.
use Rattle.std.proofs.Common.{◌≡◌, ℕ, ◌^◌, ◌≤◌, ◌<◌, List, [], ◌∷◌, ◌++◌, length, drop, refl, sym, ap, ◌∙◌, arith, Option, None, Some, append-nil, append_assoc, subst}
use lib.ListN.{take-append-drop}
use borrow.Author.Tests.{eqb-true}
use lib.Seq.{drop-append_seam, take-append_seam}
use Rattle.line.specs.Reading.{◌>>=◌, behind, digit_count, number_in, field_in, last_in}
use Rattle.line.proofs.Digits.{own, front_digits, count_digits, kept, said_takes, said_again}
use Rattle.numbers.proofs.Cases.{none_some, same_some}
use Rattle.numbers.proofs.Lists.{same_true, true_same}
use Rattle.std.proofs.lemmas.Fmt.{digits_decimal}
use Rattle.std.specs.Fmt.{decimal}

pub bound : {A B : Type 0} {o : Option A} {f : A → Option B} {y : B} → (o >>= f) ≡ Some y → (x : A) × (o ≡ Some x) × (f x ≡ Some y)
bound {o = None} e = absurd (none_some e)
bound {o = Some x} e = (x, refl, e)

pub behind_takes : (word text rest : List ℕ) → behind word text ≡ Some rest → text ≡ word ++ rest
unfolding behind
behind_takes word text rest e =
    let k = kept e in
    sym (take-append-drop (length word) text) ∙ ap (λ l. l ++ drop (length word) text) (same_true _ _ k.0) ∙ ap (λ l. word ++ l) k.1

pub behind_again : (word rest : List ℕ) → behind word (word ++ rest) ≡ Some rest
unfolding behind
behind_again word rest = simp (take-append_seam word rest, drop-append_seam word rest, true_same word word refl)

-- A text that begins with a key and a number up to most, and goes on behind its digits.
pub record Field (most : ℕ) (key text : List ℕ) (x : ℕ × List ℕ) : Type 0 where
  pub whole : text ≡ key ++ decimal x.0 ++ x.1
  pub fits : x.0 ≤ most

pub field_takes : (most : ℕ) (key text : List ℕ) (x : ℕ × List ℕ) → most < 2 ^ 64 → field_in most key text ≡ Some x → Field most key text x
unfolding field_in number_in
field_takes most key text x w e =
    let b = bound e in
    let n = bound b.2 in
    let s = said_takes most n.0 _ w (front_digits b.0) n.1 in
    let v = same_some n.2 in
    record {
      whole =
          behind_takes key text b.0 b.1
          ∙ ap (λ l. key ++ l) (sym (take-append-drop (digit_count b.0) b.0) ∙ ap (λ l. l ++ drop (digit_count b.0) b.0) s.0)
          ∙ sym (append_assoc key (decimal n.0) (drop (digit_count b.0) b.0))
          ∙ ap (λ (p : ℕ × List ℕ). key ++ decimal p.0 ++ p.1) v;
      fits = subst (λ (p : ℕ × List ℕ). p.0 ≤ most) v s.1;
    }

pub field_again : (most n : ℕ) (key rest : List ℕ) → most < 2 ^ 64 → n ≤ most → digit_count rest ≡ 0 → field_in most key (key ++ decimal n ++ rest) ≡ Some (n, rest)
unfolding field_in number_in
field_again most n key rest w h z =
    let c : digit_count (decimal n ++ rest) ≡ length (decimal n) = count_digits (decimal n) rest (digits_decimal own n (omega (arith, w, h))) z in
    rw (append_assoc key (decimal n) rest, behind_again key (decimal n ++ rest), c, take-append_seam (decimal n) rest, drop-append_seam (decimal n) rest, said_again most n w h) refl

pub last_takes : (most : ℕ) (key text : List ℕ) (n : ℕ) → most < 2 ^ 64 → last_in most key text ≡ Some n → (text ≡ key ++ decimal n) × (n ≤ most)
unfolding last_in
last_takes most key text n w e =
    let b = bound e in
    let k = kept b.2 in
    let f = field_takes most key text b.0 w b.1 in
    (f.whole ∙ ap (λ l. key ++ decimal b.0.0 ++ l) (nothing b.0.1 (eqb-true _ _ k.0)) ∙ append-nil (key ++ decimal b.0.0) ∙ ap (λ m. key ++ decimal m) k.1, subst (λ m. m ≤ most) k.1 f.fits)
  where
    nothing : (l : List ℕ) → length l ≡ 0 → l ≡ []
    nothing [] z = refl
    nothing (x ∷ xs) z = absurd (omega (arith, z))

pub last_again : (most n : ℕ) (key : List ℕ) → most < 2 ^ 64 → n ≤ most → last_in most key (key ++ decimal n) ≡ Some n
unfolding last_in digit_count
last_again most n key w h = rw (sym (append-nil (key ++ decimal n)), field_again most n key [] w h refl) refl

-- Behind one field, or two, a text ends with a key and its value.
pub one_then : {m : ℕ} {k line : List ℕ} {x : ℕ × List ℕ} (b d : List ℕ) → Field m k line x → x.1 ≡ b ++ d → line ≡ k ++ decimal x.0 ++ b ++ d
one_then {k = k} {x = x} b d f e = f.whole ∙ ap (λ l. k ++ decimal x.0 ++ l) e ∙ sym (append_assoc (k ++ decimal x.0) b d)

pub two_then : {m n : ℕ} {k j line : List ℕ} {x y : ℕ × List ℕ} (b d : List ℕ) → Field m k line x → Field n j x.1 y → y.1 ≡ b ++ d
    → line ≡ k ++ decimal x.0 ++ j ++ decimal y.0 ++ b ++ d
two_then {k = k} {j = j} {x = x} {y = y} b d f g e =
    one_then (j ++ decimal y.0 ++ b) d f (one_then b d g e) ∙ simp append_assoc

-- ---- and written

pub field_then : {B : Type 0} (most n : ℕ) (key rest : List ℕ) (f : ℕ × List ℕ → Option B) → most < 2 ^ 64 → n ≤ most → digit_count rest ≡ 0
    → (field_in most key (key ++ decimal n ++ rest) >>= f) ≡ f (n, rest)
field_then most n key rest f w h z = ap (λ o. o >>= f) (field_again most n key rest w h z)

pub last_then : {B : Type 0} (most n : ℕ) (key : List ℕ) (f : ℕ → Option B) → most < 2 ^ 64 → n ≤ most → (last_in most key (key ++ decimal n) >>= f) ≡ f n
last_then most n key f w h = ap (λ o. o >>= f) (last_again most n key w h)
