-- What is kept of a line.
use Rattle.std.proofs.Common.{◌≡◌, ℕ, ◌+◌, ◌-◌, min, List, ◌++◌, length, take, drop, sym, ap, ◌∙◌, arith, append_assoc, length-append, length-take, length-drop}
use borrow.Rule.Slice.PartMut.{put_mid, same_len_mid}
use lib.Seq.{length-take-le, take-append-add, take-append_seam}
use Rattle.listing.specs.Feeding.{Kept}
use Rattle.std.proofs.lemmas.List.{take_min}

pub front : (n : ℕ) (xs ys : List ℕ) → n ≡ length xs → take n (xs ++ ys) ≡ xs
front n xs ys e = ap (λ k. take k (xs ++ ys)) e ∙ take-append_seam xs ys

-- As many as there are, up to n.
upto : (n k : ℕ) (s : List ℕ) → k ≡ min n (length s) → take k s ≡ take n s
upto n k s e = ap (λ k. take k s) e ∙ take_min n s

pub keeps : (s more ys : List ℕ) (n l k : ℕ) → l ≡ min n (length s) → k ≡ min (length more) (length s - l) → ys ≡ take k more → Kept s n more (put_mid l (l + k - l) s ys) (l + k)
keeps s more ys n l k e f g =
    let a : length (take l s) ≡ l = length-take-le l s (omega (arith, e)) in
    let b : length ys ≡ k = ap length g ∙ length-take-le k more (omega (arith, f)) in
    let c : l + k - l ≡ k = omega arith in
    let m : length s ≡ length (take l s) + (length s - l) = omega (arith, a, e) in
    let q = same_len_mid l (l + k - l) s ys (simp (length-take, length-drop) (omega (arith, b, e, f))) in
    record {
      line =
          ap (take (l + k)) (sym (append_assoc (take l s) ys (drop (l + k - l) (drop l s))))
          ∙ front (l + k) (take l s ++ ys) (drop (l + k - l) (drop l s)) (let d = length-append (take l s) ys in omega (arith, a, b, d))
          ∙ ap (λ l'. take l s ++ l') (g ∙ upto (length s - l) k more (omega (arith, f)))
          ∙ sym (take-append-add (take l s) more (length s - l))
          ∙ ap (λ i. take i (take l s ++ more)) (sym m)
          ∙ ap (λ xs. take (length s) (xs ++ more)) (upto n l s e);
      places = q;
      within = omega (arith, q, e, f);
    }
