-- Reading a text byte by byte: what is left to be done stays the same.
use Prim.Native.Nat.{ℕ, zero, suc, ◌+◌, ◌-◌, ◌≤◌, ◌<◌, min}
use mathlib.Core.Bool.{Bool, true, false, ◌&&◌}
use mathlib.Core.List.{List, [], ◌∷◌, ◌++◌, append_assoc}
use mathlib.Core.Path.{◌≡◌, refl, sym, ◌∙◌}
use native.Mathlib.Nat.{add-zero, zero-add}
use native.Mathlib.Numerals.{add-one}
use native.Mathlib.Omega.{arith}
use lib.Dec.{leb}
use lib.ListN.{length, get_or, take, drop, set, length-set, length-append, take-append-drop, drop_of_length-le}
use lib.Seq.{drop-cons, take-suc-set, drop-set-lt}
use borrow.Author.Tests.{lt-ltb, le-ltb, leb-true}
use Rattle.sample.specs.Inner.{fill, Reads}
use Rattle.sample.specs.Sample.{is_digit, with_digit, finished, numbers_from, numbers_in, Filled}
use Rattle.std.specs.Option.{unwrap_or}
use Rattle.std.proofs.Common.{ap, Option, None, Some}
use Rattle.numbers.proofs.Cases.{by_lt}
use Rattle.sample.specs.declared.Reading.{Reading}

-- ---- a digit is not below '0'

and_left : (a b : Bool) → (a && b) ≡ true → a ≡ true
and_left true b e = refl
and_left false b e = e

pub digit_low : (b : ℕ) → is_digit b ≡ true → 48 ≤ b
digit_low b e = leb-true 48 b (and_left (leb 48 b) (leb b 57) e)

-- ---- the slots

fill_full : (out : List ℕ) (c : ℕ) (ns : List ℕ) → length out ≤ c → fill out c ns ≡ out
unfolding fill
fill_full out c [] h = refl
fill_full out c (n ∷ ns) h = simp (le-ltb _ _ h)

-- nothing was put in
none_put : (ns out : List ℕ) (c : ℕ) → out ≡ take c out ++ (take 0 ns ++ drop (c + 0) out)
none_put ns out c = rw (add-zero c) (sym (take-append-drop c out))

fill_is :
    (ns out : List ℕ) (c m : ℕ) → m ≡ min (length ns) (length out - c) → fill out c ns ≡ take c out ++ (take m ns ++ drop (c + m) out)
unfolding fill
fill_is [] out c m e = let z : m ≡ 0 = omega arith in rw z (none_put [] out c)
fill_is (n ∷ ns) out c zero e = let h : length out ≤ c = omega arith in simp (le-ltb _ _ h) (none_put (n ∷ ns) out c)
fill_is (n ∷ ns) out c (suc k) e =
    let h : c < length out = omega arith in
    let w : length (set out c n) ≡ length out = length-set out c n in
    let r : fill (set out c n) (c + 1) ns ≡ take (c + 1) (set out c n) ++ (take k ns ++ drop (c + 1 + k) (set out c n)) = fill_is ns (set out c n) (c + 1) k (omega arith) in
    let t : take (c + 1) (set out c n) ≡ take c out ++ (n ∷ []) = rw add-one (take-suc-set out c n h) in
    let z : c + 1 + k ≡ c + suc k = omega arith in
    let d : drop (c + 1 + k) (set out c n) ≡ drop (c + suc k) out = drop-set-lt (c + 1 + k) out c n (omega arith) ∙ rw z in
    simp (lt-ltb _ _ h) (r ∙ rw (t, d) (append_assoc (take c out) (n ∷ []) (take k ns ++ drop (c + suc k) out)))

-- a number that has ended goes to its place first
fill_finished :
    (out : List ℕ) (c : ℕ) (o : Option ℕ) (ns : List ℕ) → c ≤ length out → fill out c (finished o ++ ns) ≡ fill (fill out c (finished o)) (min (c + length (finished o)) (length out)) ns
unfolding fill
fill_finished out c None ns h = let e : min (c + 0) (length out) ≡ c = omega arith in rw e
fill_finished out c (Some v) ns h =
    by_lt c (length out)
    (λ l. let e : min (c + 1) (length out) ≡ c + 1 = omega arith in simp (lt-ltb _ _ l, e))
    (λ l. let e : min (c + 1) (length out) ≡ length out = omega arith in simp (le-ltb _ _ l, e) (sym (fill_full out (length out) ns (omega arith))))

length_fill : (ns out : List ℕ) (c : ℕ) → length (fill out c ns) ≡ length out
unfolding fill
length_fill [] out c = refl
length_fill (n ∷ ns) out c =
    by_lt c (length out)
    (λ l. simp (lt-ltb _ _ l) (length_fill ns (set out c n) (c + 1) ∙ length-set out c n))
    (λ l. simp (le-ltb _ _ l))

-- ---- one byte

module _ (b : ℕ) (r : Reading) (out : List ℕ) (in-out : r.count ≤ length out) where
  pub digit : (v : ℕ) → is_digit b ≡ true → v ≡ with_digit (unwrap_or r.begun 0) (b - 48) → Reads b r out (record { count = r.count; begun = Some v }) out
  unfolding numbers_from
  digit v e q = record { long = refl; inside = in-out; slots = λ bs. simp e (rw q); count = λ bs. simp e (rw q) }

  pub no_digit : (q : Reading) (out' : List ℕ) → is_digit b ≡ false → out' ≡ fill out r.count (finished r.begun) → q.count ≡ min
      (r.count + length (finished r.begun)) (length out) → q.begun ≡ None → Reads b r out q out'
  unfolding numbers_from
  no_digit q out' e s n z =
      let l : length out' ≡ length out = ap length s ∙ length_fill (finished r.begun) out r.count in
      record {
        long = l;
        inside = omega arith;
        slots = λ bs. simp (e, z, n, s) (fill_finished out r.count r.begun (numbers_from None bs) in-out);
        count = λ bs. simp (e, z, n, length-append) (omega arith);
      }

-- ---- the loop

pub record Going (text out₀ out : List ℕ) (r : Reading) (i : ℕ) : Type 0 where
  pub long : length out ≡ length out₀
  pub inside : r.count ≤ length out
  pub slots : fill out₀ 0 (numbers_in text) ≡ fill out r.count (numbers_from r.begun (drop i text))
  pub count : min (length (numbers_in text)) (length out) ≡ min (r.count + length (numbers_from r.begun (drop i text))) (length out)

pub begins : (text out : List ℕ) → Going text out out (record { count = 0; begun = None }) 0
begins text out = record { long = refl; inside = omega arith; slots = refl; count = omega arith }

module _ (text out₀ out : List ℕ) (r : Reading) (i : ℕ) (g : Going text out₀ out r i) where
  pub turns : (out' : List ℕ) (q : Reading) → i < length text → Reads (get_or text i 0) r out q out' → Going text out₀ out' q (i + 1)
  turns out' q h s =
      let d : drop i text ≡ get_or text i 0 ∷ drop (i + 1) text = rw add-one (drop-cons text i 0 h) in
      let a = rw d at g.slots in
      let c = rw d at g.count in
      let e = s.count (drop (i + 1) text) in
      let n = s.long in
      record {
        long = n ∙ g.long;
        inside = s.inside;
        slots = a ∙ s.slots (drop (i + 1) text);
        count = omega arith;
      }

  -- the number that the end of the text ends is put too
  pub ends : (out' : List ℕ) (n : ℕ) → length text ≤ i → out' ≡ fill out r.count (finished r.begun) → n ≡ min (r.count + length (finished r.begun)) (length out) → Filled text out₀ out' n
  unfolding numbers_from
  ends out' n h s m =
      let d : drop i text ≡ [] = drop_of_length-le text h in
      let p : fill out₀ 0 (numbers_in text) ≡ out' = rw d at g.slots ∙ sym s in
      let c = rw d at g.count in
      let l = g.long in
      let l' : length out' ≡ length out = ap length s ∙ length_fill (finished r.begun) out r.count in
      let whole : n ≡ min (length (numbers_in text)) (length out₀) = omega arith in
      let f : fill out₀ 0 (numbers_in text) ≡ take n (numbers_in text) ++ drop (0 + n) out₀ = fill_is (numbers_in text) out₀ 0 n (omega arith) in
      record { count = whole; slots = sym p ∙ f ∙ rw (zero-add n); inside = omega arith }
