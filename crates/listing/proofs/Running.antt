-- The program's run: blocks, and the end.
use Rattle.std.proofs.Common.{◌≡◌, ℕ, ◌+◌, ◌-◌, ◌≤◌, ◌<◌, List, [], ◌∷◌, ◌++◌, length, take, drop, refl, sym, ap, ◌∙◌, arith, append-nil, length-take, length-drop, Option, None, Some, Result, Ok, Err, OnOk, subst}
use lib.ListN.{take-append-drop}
use lib.Seq.{take-add}
use Rattle.line.specs.Answer.{answer_text, Put}
use Rattle.line.specs.Reading.{command_in}
use Rattle.line.specs.declared.answer.Answer.{Answer}
use Rattle.listing.proofs.Cutting.{ended_append, texts_append, last_kept}
use Rattle.listing.proofs.Filling.{fed_start, fed_on, told_on, put_front}
use Rattle.listing.specs.Feeding.{world_in, begun_in, Ready, Fed, Ends, Lasts, Fills, text_in}
use Rattle.listing.specs.Lines.{ended, begun, last_line}
use Rattle.listing.specs.Program.{line_for, texts, after_lines}
use Rattle.listing.specs.Running.{Passes, Finishes, Drives}
use Rattle.listing.specs.declared.listing.Filled.{Filled}
use Rattle.listing.specs.declared.listing.Listing.{Listing}
use Rattle.std.proofs.lemmas.List.{take_all}
use Rattle.std.specs.Io.KnownBytes.{Appends, Consumes, Keeps, IsAtEnd}
use Rattle.streams.proofs.Known.{appends_none, appends_on, consumes_none, consumes_on, consumes_keeps, sent_then, sent_short, sent_front, sent_whole}
use Rattle.streams.specs.Streams.{Sent}

-- ---- the end

pub lasts_none : (l : Listing) → l.len ≡ 0 → Lasts l None
unfolding texts
lasts_none l z = record { told = λ r. rw z refl }

pub lasts_some : {l m : Listing} {a : Answer} → (l.len ≡ 0 → ⊥) → Ends l [] m a → Lasts l (Some a)
unfolding texts
lasts_some {l = l} d h =
    record {
      told = λ r.
          ap answer_text (h.told r ∙ ap (λ x. line_for (world_in l) (command_in x)) (append-nil (begun_in l)))
          ∙ sym (append-nil (answer_text (line_for (world_in l) (command_in (begun_in l)))))
          ∙ ap (texts (world_in l)) (sym (is_line (begun_in l) (let e = length-take l.len l.begun in let p = r.places in omega (arith, e, p, d))));
    }
  where
    is_line : (x : List ℕ) → 0 < length x → last_line x ≡ x ∷ []
    is_line [] p = absurd (omega (arith, p))
    is_line (b ∷ x) p = refl

pub finishes : {T E : Type 0} {l : Listing} {a b : Option (List ℕ)} {q : Option Answer} {s t : List ℕ} {n : ℕ} {r : Result T E}
    → Lasts l q → Put 0 (text_in q) s t n → length (text_in q) ≤ 105 → 105 ≤ length s → Sent a b (take n t) r → Finishes l a b r
finishes {a = a} {b = b} {q = q} {r = r} h p k g s =
    record { text = text_in q; told = h.told; sent = subst (λ x. Sent a b x r) (put_front p (omega (arith, k, g))) s }

-- ---- a block, from its first byte to the one at a place

pub record Passing (l : Listing) (block : List ℕ) (m : Listing) (a b : Option (List ℕ)) (at : ℕ) : Type 0 where
  pub within : at ≤ length block
  pub fed : Fed l (take at block) m
  pub text : List ℕ
  pub told : Ready l → text ≡ texts (world_in l) (ended (begun_in l) (take at block))
  pub wrote : Appends a b text

module _ (l : Listing) (block : List ℕ) (a : Option (List ℕ)) where
  pub passing_start : Passing l block l a a 0
  unfolding ended texts
  passing_start = record { within = omega arith; fed = fed_start l; text = []; told = λ r. refl; wrote = appends_none a }

  -- The texts of the first n bytes are a front of all.
  texts_front : (n : ℕ) → texts (world_in l) (ended (begun_in l) block)
      ≡ texts (world_in l) (ended (begun_in l) (take n block))
      ++ texts (after_lines (world_in l) (ended (begun_in l) (take n block))) (ended (begun (begun_in l) (take n block)) (drop n block))
  texts_front n =
      ap (λ x. texts (world_in l) (ended (begun_in l) x)) (sym (take-append-drop n block))
      ∙ ap (texts (world_in l)) (ended_append (begun_in l) (take n block) (drop n block))
      ∙ texts_append (world_in l) (ended (begun_in l) (take n block)) (ended (begun (begun_in l) (take n block)) (drop n block))

  module _ {m n : Listing} {b : Option (List ℕ)} {at : ℕ} {s t : List ℕ} {x : Filled}
      (p : Passing l block m a b at) (f : Fills m (take (length block - at) (drop at block)) s n t x) where
    front_is : take (at + x.bytes) block ≡ take at block ++ take x.bytes (take (length block - at) (drop at block))
    front_is = take-add at x.bytes block ∙ ap (λ y. take at block ++ take x.bytes y) (sym (take_all (length block - at) (drop at block) (let d = length-drop at block in omega (arith, d))))

    told_so : Ready l → p.text ++ take x.text t ≡ texts (world_in l) (ended (begun_in l) (take (at + x.bytes) block))
    told_so r =
        told_on p.fed (take x.bytes (take (length block - at) (drop at block))) _ _ r (p.told r) (f.front.told (p.fed.ready r))
        ∙ ap (λ y. texts (world_in l) (ended (begun_in l) y)) (sym front_is)

    pub passing_on : {T E : Type 0} {c : Option (List ℕ)} (r : Result T E) (v : T) → r ≡ Ok v → Sent {T = T} {E = E} b c (take x.text t) r → Passing l block n a c (at + x.bytes)
    passing_on {T = T} {E = E} {c = c} r v ok q₀ =
        let q = subst (λ r. Sent {T = T} {E = E} b c (take x.text t) r) ok q₀ in
        let w = f.front.within in
        let e = length-take (length block - at) (drop at block) in
        let i = p.within in
        record {
          within = omega (arith, w, e, i);
          fed = subst (λ y. Fed l y n) (sym front_is) (fed_on p.fed f.front.fed);
          text = p.text ++ take x.text t;
          told = told_so;
          wrote = appends_on a b c p.text (take x.text t) p.wrote (sent_whole b c (take x.text t) v q);
        }

    pub passes_failed : {T E F : Type 0} {c : Option (List ℕ)} (r : Result T E) (e : E) (k : Listing) (d : F) → r ≡ Err e → Sent {T = T} {E = E} b c
        (take x.text t) r → Passes {T = T} {E = F} l block k a c (Err d)
    passes_failed {T = T} {E = E} {c = c} r e k d err q₀ =
        let q = subst (λ r. Sent {T = T} {E = E} b c (take x.text t) r) err q₀ in
        let i = at + x.bytes in
        let more = texts (after_lines (world_in l) (ended (begun_in l) (take i block))) (ended (begun (begun_in l) (take i block)) (drop i block)) in
        record {
          fed = tt;
          text = p.text ++ take x.text t ++ more;
          told = λ r. ap (λ y. y ++ more) (told_so r) ∙ sym (texts_front i);
          sent = sent_short a c (p.text ++ take x.text t) more e d (sent_then a b c p.text (take x.text t) p.wrote q);
        }

  pub passes : {T E : Type 0} {m : Listing} {b : Option (List ℕ)} {at : ℕ} (v : T) → Passing l block m a b at → length block ≤ at → Passes {T = T} {E = E} l block m a b (Ok v)
  passes {m = m} v p h =
      let e = take_all _ block h in
      record {
        fed = subst (λ y. Fed l y m) e p.fed;
        text = p.text;
        told = λ r. p.told r ∙ ap (λ y. texts (world_in l) (ended (begun_in l) y)) e;
        sent = record { sent = p.text; rest = []; parts = sym (append-nil p.text); wrote = p.wrote; whole = refl };
      }

-- ---- blocks, up to some read

pub record Driving (l m : Listing) (in₀ in₁ out₀ out₁ : Option (List ℕ)) : Type 0 where
  pub read : List ℕ
  pub took : Consumes in₀ in₁ read
  pub fed : Fed l read m
  pub text : List ℕ
  pub told : Ready l → text ≡ texts (world_in l) (ended (begun_in l) read)
  pub wrote : Appends out₀ out₁ text

pub driving_start : (l : Listing) (a b : Option (List ℕ)) → Driving l l a a b b
unfolding ended texts
driving_start l a b = record { read = []; took = consumes_none a; fed = fed_start l; text = []; told = λ r. refl; wrote = appends_none b }

ok_anyway : {T E P : Type 0} (r : Result T E) → P → OnOk r P
ok_anyway (Ok v) p = p
ok_anyway (Err e) p = tt

-- What the last line is answered, if the input ends behind these bytes.
abbrev last_text : Listing → List ℕ → List ℕ
last_text l read = texts (after_lines (world_in l) (ended (begun_in l) read)) (last_line (begun (begun_in l) read))

told_whole : (l : Listing) (read text : List ℕ) → text ≡ texts (world_in l) (ended (begun_in l) read)
    → text ++ last_text l read ≡ texts (world_in l) (ended (begun_in l) read ++ last_line (begun (begun_in l) read))
told_whole l read text e = ap (λ t. t ++ last_text l read) e ∙ sym (texts_append (world_in l) (ended (begun_in l) read) (last_line (begun (begun_in l) read)))

module _ {l m : Listing} {in₀ in₁ out₀ out₁ : Option (List ℕ)} (d : Driving l m in₀ in₁ out₀ out₁) where
  -- no more can be read
  pub drives_short : {T E : Type 0} (in₂ : Option (List ℕ)) (e : E) → Keeps in₁ in₂ → Drives {T = T} {E = E} l in₀ in₂ out₀ out₁ (Err e)
  drives_short in₂ e k =
      record {
        read = d.read;
        took = consumes_keeps in₀ in₁ in₂ d.read d.took k;
        end = tt;
        text = d.text ++ last_text l d.read;
        told = λ r. told_whole l d.read d.text (d.told r);
        sent = sent_front out₀ out₁ d.text (last_text l d.read) e d.wrote;
      }

  -- there is no more
  pub drives_end : {T E : Type 0} {r : Result T E} {in₂ out₂ : Option (List ℕ)} → Keeps in₁ in₂ → IsAtEnd in₂ → Finishes m out₁ out₂ r → Drives l in₀ in₂ out₀ out₂ r
  drives_end {r = r} {in₂ = in₂} {out₂ = out₂} k e f =
      record {
        read = d.read;
        took = consumes_keeps in₀ in₁ in₂ d.read d.took k;
        end = ok_anyway r e;
        text = d.text ++ f.text;
        told = λ h.
            ap (λ t. d.text ++ t)
            (f.told (d.fed.ready h)
            ∙ rw (d.fed.world h, d.fed.begun h) (last_kept (after_lines (world_in l) (ended (begun_in l) d.read)) (begun (begun_in l) d.read)))
            ∙ told_whole l d.read d.text (d.told h);
        sent = sent_then out₀ out₁ out₂ d.text f.text d.wrote f.sent;
      }

  module _ {block : List ℕ} {k : Listing} {in₂ out₂ : Option (List ℕ)} (c : Consumes in₁ in₂ block) where
    pub driving_on : {T E : Type 0} (r : Result T E) (v : T) → r ≡ Ok v → Passes m block k out₁ out₂ r → Driving l k in₀ in₂ out₀ out₂
    driving_on {T = T} {E = E} r v e p₀ =
        let p = subst (λ r. Passes {T = T} {E = E} m block k out₁ out₂ r) e p₀ in
        record {
          read = d.read ++ block;
          took = consumes_on in₀ in₁ in₂ d.read block d.took c;
          fed = fed_on d.fed p.fed;
          text = d.text ++ p.text;
          told = λ h. told_on d.fed block d.text p.text h (d.told h) (p.told (d.fed.ready h));
          wrote = appends_on out₀ out₁ out₂ d.text p.text d.wrote (sent_whole out₁ out₂ p.text v p.sent);
        }

    pub drives_failed : {T E U F : Type 0} (r : Result T E) (e : E) (f : F) → r ≡ Err e → Passes m block k out₁ out₂ r → Drives {T = U} {E = F} l in₀ in₂ out₀ out₂ (Err f)
    drives_failed {T = T} {E = E} r e f g p₀ =
        let p = subst (λ r. Passes {T = T} {E = E} m block k out₁ out₂ r) g p₀ in
        record {
          read = d.read ++ block;
          took = consumes_on in₀ in₁ in₂ d.read block d.took c;
          end = tt;
          text = d.text ++ p.text ++ last_text l (d.read ++ block);
          told = λ h. told_whole l (d.read ++ block) (d.text ++ p.text) (told_on d.fed block d.text p.text h (d.told h) (p.told (d.fed.ready h)));
          sent = sent_short out₀ out₂ (d.text ++ p.text) (last_text l (d.read ++ block)) e f (sent_then out₀ out₁ out₂ d.text p.text d.wrote p.sent);
        }
