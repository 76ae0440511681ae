-- A row put among others: those behind it move one place further, from the last on.
use Rattle.std.proofs.lemmas.List.Edits.{take-paste, drop-paste}
use Rattle.std.specs.List.{copy_within}
use Prim.Native.Nat.{ℕ, suc, ◌+◌, ◌-◌, ◌≤◌, ◌<◌}
use mathlib.Core.List.{List, ◌∷◌, ◌++◌, append_assoc}
use mathlib.Core.Path.{◌≡◌, ap, sym, ◌∙◌}
use native.Mathlib.Omega.{arith}
use lib.ListN.{length, get_or, take, drop, set, replicate, take-append-drop, length-drop}
use lib.Seq.{length-take-le, take-suc, append_snoc, set_at, take_at, take-append-le, drop-append-le, drop-append-add}
use Rattle.accounting.specs.Inner.{shifted}
use Rattle.tagspace.specs.declared.TagSpace.{TagSpace}

-- a store at the end of a front part
set_front : {A : Type 0} (l more : List A) (i : ℕ) (v : A) → i < length l → set (take (suc i) l ++ more) i v ≡ take i l ++ (v ∷ more)
set_front {A} l more i v h =
    ap (λ (t : List A). set (t ++ more) i v) (take-suc l i v h)
    ∙ ap (λ (t : List A). set t i v) (append_snoc (take i l) (get_or l i v) more)
    ∙ set_at (take i l) (get_or l i v) more v i (length-take-le i l (omega arith))

-- those from k on moved one place further, and x in front of them
pub rows_shifted : (rs : List TagSpace) (n k : ℕ) (x : TagSpace) → k ≤ n → n < length rs → set (copy_within rs k n (k + 1)) k x ≡ shifted k n x rs
unfolding shifted
rows_shifted rs n k x h l =
    let m = length-drop k rs in
    let e : k + 1 + (n - k) ≡ suc n = omega arith in
    let s : suc k ≡ k + 1 = omega arith in
    let c : copy_within rs k n (k + 1) ≡ take (suc k) rs ++ (take (n - k) (drop k rs) ++ drop (suc n) rs) =
    sym (take-append-drop (k + 1 + (n - k)) (copy_within rs k n (k + 1)))
    ∙ rw (take-paste rs (k + 1) (drop k rs) (n - k) (omega arith) (omega arith), drop-paste rs (k + 1) (drop k rs) (n - k) (omega arith) (omega arith), e, s)
    (append_assoc (take (k + 1) rs) (take (n - k) (drop k rs)) (drop (suc n) rs)) in
    ap (λ (t : List TagSpace). set t k x) c ∙ set_front rs (take (n - k) (drop k rs) ++ drop (suc n) rs) k x (omega arith)

-- of rows with blank ones behind them
pub shifted_blanks : (xs : List TagSpace) (b x : TagSpace) (k m : ℕ) → k ≤ length xs → shifted k (length xs) x (xs ++ replicate (suc m) b) ≡ (take k xs ++ (x ∷ drop k xs)) ++ replicate m b
unfolding shifted
shifted_blanks xs b x k m h =
    let l : length (drop k xs) ≡ length xs - k = length-drop k xs in
    let d : drop k (xs ++ replicate (suc m) b) ≡ drop k xs ++ replicate (suc m) b = drop-append-le k xs (replicate (suc m) b) h in
    let n : suc (length xs) ≡ length xs + 1 = omega arith in
    let e : drop (suc (length xs)) (xs ++ replicate (suc m) b) ≡ replicate m b = ap (λ (k : ℕ). drop k (xs ++ replicate (suc m) b)) n ∙ drop-append-add xs (replicate (suc m) b) 1 in
    ap (λ (t : List TagSpace). t ++ (x ∷ (take (length xs - k) (drop k (xs ++ replicate (suc m) b)) ++ drop (suc (length xs))
    (xs ++ replicate (suc m) b)))) (take-append-le k xs (replicate (suc m) b) h)
    ∙ ap (λ (t : List TagSpace). take k xs ++ (x ∷ (take (length xs - k) t ++ drop (suc (length xs)) (xs ++ replicate (suc m) b)))) d
    ∙ ap (λ (t : List TagSpace). take k xs ++ (x ∷ (t ++ drop (suc (length xs)) (xs ++ replicate (suc m) b)))) (take_at (drop k xs) (replicate (suc m) b) (length xs - k) l)
    ∙ ap (λ (t : List TagSpace). take k xs ++ (x ∷ (drop k xs ++ t))) e
    ∙ sym (append_assoc (take k xs) (x ∷ drop k xs) (replicate m b))
