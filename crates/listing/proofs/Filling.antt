-- Bytes behind one another, and answers behind one another.
use Rattle.std.proofs.Common.{◌≡◌, ℕ, ◌+◌, ◌-◌, ◌≤◌, ◌<◌, List, [], ◌++◌, length, take, drop, leb, refl, sym, ap, ◌∙◌, arith, append-nil, length-append, length-take, length-drop, le-leb, Bool, true, false, cond, subst}
use lib.ListN.{take-append-drop}
use lib.Seq.{drop-drop, drop-append_seam, length-take-le, take-add}
use native.Mathlib.Nat.{add-zero}
use Rattle.line.specs.Answer.{over, Put}
use Rattle.listing.proofs.Cutting.{ended_append, begun_append, texts_append, after_append, begun_kept, texts_ended, after_ended}
use Rattle.listing.proofs.Keeping.{front}
use Rattle.listing.specs.Feeding.{world_in, begun_in, kept, Ready, Fed, Takes, text_in, Front}
use Rattle.listing.specs.Lines.{ended, begun}
use Rattle.listing.specs.Program.{texts, after_lines}
use Rattle.listing.specs.declared.listing.Listing.{Listing}
use Rattle.listing.specs.declared.listing.Next.{Next}
use Rattle.std.proofs.lemmas.List.{take_all}

-- ---- the state

pub fed_start : (l : Listing) → Fed l [] l
unfolding ended begun after_lines
fed_start l =
    record {
      ready = λ r. r;
      world = λ r. refl;
      begun = λ r. sym (take_all 129 (begun_in l) (let e = length-take l.len l.begun in let p = r.places in omega (arith, e, p)));
    }

module _ {l m : Listing} {x : List ℕ} (f : Fed l x m) where
  pub fed_on : {n : Listing} {y : List ℕ} → Fed m y n → Fed l (x ++ y) n
  fed_on {y = y} g =
      let w = world_in l in
      let c = begun_in l in
      record {
        ready = λ r. g.ready (f.ready r);
        world = λ r.
            g.world (f.ready r)
            ∙ rw (f.world r, f.begun r) (after_ended (after_lines w (ended c x)) (begun c x) y)
            ∙ sym (ap (after_lines w) (ended_append c x y) ∙ after_append w (ended c x) (ended (begun c x) y));
        begun = λ r. g.begun (f.ready r) ∙ rw (f.begun r) (begun_kept (begun c x) y) ∙ sym (ap kept (begun_append c x y));
      }

  pub told_on : (y a b : List ℕ) → Ready l → a ≡ texts (world_in l) (ended (begun_in l) x) → b ≡ texts (world_in m) (ended (begun_in m) y)
      → a ++ b ≡ texts (world_in l) (ended (begun_in l) (x ++ y))
  told_on y a b r e g =
      let w = world_in l in
      let c = begun_in l in
      rw (e, g, f.world r, f.begun r)
      (ap (λ t. texts w (ended c x) ++ t) (texts_ended (after_lines w (ended c x)) (begun c x) y)
      ∙ sym (ap (texts w) (ended_append c x y) ∙ texts_append w (ended c x) (ended (begun c x) y)))

-- ---- the list for the answers

either_way : {A : Type 0} (b : Bool) (x y : A) → y ≡ x → x ≡ cond b y x
either_way true x y e = sym e
either_way false x y e = refl

pub put_none : (at : ℕ) (s : List ℕ) → Put at [] s s at
unfolding over
put_none at s =
    let e : take at s ++ [] ++ drop (at + 0) s ≡ s = rw (append-nil (take at s), add-zero at) (take-append-drop at s) in
    let b = leb (at + 0) (length s) in
    record { slots = either_way b s (over at [] s) e; place = either_way b at (at + 0) (add-zero at) }

-- A text that has room stands behind what stood there, and no other slot has changed.
module _ {at end : ℕ} {text s t : List ℕ} (p : Put at text s t end) (room : at + length text ≤ length s) where
  put_end : end ≡ at + length text
  put_end = p.place ∙ rw (le-leb _ _ room) refl

  put_is : t ≡ take at s ++ text ++ drop (at + length text) s
  unfolding over
  put_is = p.slots ∙ rw (le-leb _ _ room) refl

  put_len : length (take at s ++ text) ≡ end
  put_len = let a = length-take-le at s (omega (arith, room)) in let b = length-append (take at s) text in let e = put_end in omega (arith, a, b, e)

  pub put_front : take end t ≡ take at s ++ text
  put_front = ap (take end) put_is ∙ front end (take at s ++ text) (drop (at + length text) s) (sym put_len)

  pub put_behind : drop end t ≡ drop end s
  put_behind =
      ap (drop end) put_is
      ∙ ap (λ n. drop n (take at s ++ text ++ drop (at + length text) s)) (sym put_len)
      ∙ drop-append_seam (take at s ++ text) (drop (at + length text) s)
      ∙ ap (λ n. drop n s) (sym put_end)

  pub put_places : length t ≡ length s
  put_places =
      ap length put_is
      ∙ length-append (take at s ++ text) (drop (at + length text) s)
      ∙ (let a = put_len in let b = put_end in let c = length-drop (at + length text) s in omega (arith, a, b, c, room))

-- ---- turns

module _ (l : Listing) (block out₀ : List ℕ) where
  pub front_start : Front l block out₀ l out₀ 0 0
  unfolding ended texts
  front_start = record { within = omega arith; none = λ z. refl; fed = fed_start l; told = λ r. refl; places = refl; upto = omega arith; behind = refl }

  pub front_on : {m n : Listing} {out ys : List ℕ} {b t e : ℕ} {x : Next} → Front l block out₀ m out b t → Takes m (take (length block - b) (drop b block)) n x
      → Put t (text_in x.answer) out ys e → length (text_in x.answer) ≤ 105 → 105 ≤ length out - t → b < length block → Front l block out₀ n ys (b + x.bytes) e
  front_on {m = m} {n = n} {out = out} {ys = ys} {b = b} {t = t} {e = e} {x = x} f k₀ p h g i =
      let k = subst (λ y. Takes m y n x) (take_all (length block - b) (drop b block) (let d = length-drop b block in omega (arith, d))) k₀ in
      let room : t + length (text_in x.answer) ≤ length out = let u = f.upto in omega (arith, h, g, u) in
      let s : take (b + x.bytes) block ≡ take b block ++ take x.bytes (drop b block) = take-add b x.bytes block in
      let q = put_end p room in
      let c = put_places p room in
      record {
        within = let a = k.within in let d = length-drop b block in let w = f.within in omega (arith, a, d, w);
        none = λ z. let d = length-drop b block in let s = k.some (omega (arith, d, i)) in absurd (omega (arith, s, z));
        fed = subst (λ y. Fed l y n) (sym s) (fed_on f.fed k.fed);
        told = λ r. put_front p room ∙ told_on f.fed (take x.bytes (drop b block)) _ _ r (f.told r) (k.told (f.fed.ready r)) ∙ ap (λ y. texts (world_in l) (ended (begun_in l) y)) (sym s);
        places = c ∙ f.places;
        upto = omega (arith, q, c, room);
        behind =
            put_behind p room
            ∙ ap (λ i. drop i out) q
            ∙ sym (drop-drop (length (text_in x.answer)) t out)
            ∙ ap (drop (length (text_in x.answer))) f.behind
            ∙ drop-drop (length (text_in x.answer)) t out₀
            ∙ ap (λ i. drop i out₀) (sym q);
      }
