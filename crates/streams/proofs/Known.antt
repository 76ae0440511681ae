-- What several reads and writes one after another do to the bytes that are known.
use Rattle.std.proofs.Common.{◌≡◌, ℕ, ◌+◌, ◌-◌, ◌≤◌, List, [], ◌++◌, length, take, drop, refl, sym, ap, ◌∙◌, arith, append_assoc, append-nil, length-drop, length-take, Option, None, Some, Result, Ok, Err, subst}
use lib.ListN.{take-append-drop}
use lib.Seq.{take-add}
use Rattle.std.proofs.lemmas.List.{take_all}
use Rattle.std.specs.Io.KnownBytes.{Keeps, Appends, Consumes, ReadConsumes}
use Rattle.streams.specs.Streams.{Sent}

pub keeps_same : (a : Option (List ℕ)) → Keeps a a
keeps_same None = tt
keeps_same (Some x) = refl

pub keeps_on : (a b c : Option (List ℕ)) → Keeps a b → Keeps b c → Keeps a c
keeps_on None b c h k = tt
keeps_on (Some u) None c h k = absurd h
keeps_on (Some u) (Some v) None h k = absurd k
keeps_on (Some x) (Some y) (Some z) h k = k ∙ h

pub appends_none : (a : Option (List ℕ)) → Appends a a []
appends_none None = tt
appends_none (Some x) = sym (append-nil x)

pub appends_on : (a b c : Option (List ℕ)) (x y : List ℕ) → Appends a b x → Appends b c y → Appends a c (x ++ y)
appends_on None b c x y h k = tt
appends_on (Some u) None c x y h k = absurd h
appends_on (Some u) (Some v) None x y h k = absurd k
appends_on (Some u) (Some v) (Some w) x y h k = k ∙ ap (λ l. l ++ y) h ∙ append_assoc u x y

pub appends_keeps : (a b c : Option (List ℕ)) (x : List ℕ) → Appends a b x → Keeps b c → Appends a c x
appends_keeps None b c x h k = tt
appends_keeps (Some u) None c x h k = absurd h
appends_keeps (Some u) (Some v) None x h k = absurd k
appends_keeps (Some u) (Some v) (Some w) x h k = k ∙ h

pub consumes_none : (a : Option (List ℕ)) → Consumes a a []
consumes_none None = tt
consumes_none (Some x) = refl

pub consumes_on : (a b c : Option (List ℕ)) (x y : List ℕ) → Consumes a b x → Consumes b c y → Consumes a c (x ++ y)
consumes_on None b c x y h k = tt
consumes_on (Some u) None c x y h k = absurd h
consumes_on (Some u) (Some v) None x y h k = absurd k
consumes_on (Some u) (Some v) (Some w) x y h k = h ∙ ap (λ l. x ++ l) k ∙ sym (append_assoc x y w)

pub keeps_consumes : (a b c : Option (List ℕ)) (x : List ℕ) → Keeps a b → Consumes b c x → Consumes a c x
keeps_consumes None b c x h k = tt
keeps_consumes (Some u) None c x h k = absurd h
keeps_consumes (Some u) (Some v) None x h k = absurd k
keeps_consumes (Some u) (Some v) (Some w) x h k = sym h ∙ k

pub keeps_read : {E : Type 0} (a b c : Option (List ℕ)) (r : Result ℕ E) (s : List ℕ) → Keeps a b → ReadConsumes b c r s → ReadConsumes a c r s
keeps_read a b c (Ok n) s h k = (keeps_consumes a b c (take n s) h k.0, k.1)
keeps_read a b c (Err e) s h k = keeps_on a b c h k

-- ---- what is sent

module _ {T E : Type 0} (a b : Option (List ℕ)) (text : List ℕ) (at : ℕ) where
  -- all of it
  pub sent_all : (v : T) → length text ≤ at → Appends a b (take at text) → Sent {T = T} {E = E} a b text (Ok v)
  sent_all v h w = record { sent = take at text; rest = []; parts = sym (take_all at text h) ∙ sym (append-nil (take at text)); wrote = w; whole = refl }

  -- a part
  pub sent_part : (e : E) → Appends a b (take at text) → Sent {T = T} {E = E} a b text (Err e)
  sent_part e w = record { sent = take at text; rest = drop at text; parts = sym (take-append-drop at text); wrote = w; whole = tt }

pub sent_more : (a b c : Option (List ℕ)) (text : List ℕ) (at n : ℕ) → Appends a b (take at text) → Appends b c (take n (take (length text - at) (drop at text))) → Appends a c (take (at + n) text)
sent_more a b c text at n h k =
    subst (Appends a c) (sym (take-add at n text)) (appends_on a b c (take at text) (take n (drop at text)) h
    (subst (λ l. Appends b c (take n l)) (take_all (length text - at) (drop at text) (let d = length-drop at text in omega (arith, d))) k))

pub part_within : (text : List ℕ) (at n : ℕ) → at ≤ length text → n ≤ length (take (length text - at) (drop at text)) → at + n ≤ length text
part_within text at n h k = let e = length-take (length text - at) (drop at text) in omega (arith, h, k, e)

-- ---- one text behind another

pub sent_then : {T E : Type 0} {r : Result T E} (a b c : Option (List ℕ)) (x y : List ℕ) → Appends a b x → Sent b c y r → Sent a c (x ++ y) r
sent_then a b c x y w s =
    record {
      sent = x ++ s.sent;
      rest = s.rest;
      parts = ap (λ l. x ++ l) s.parts ∙ sym (append_assoc x s.sent s.rest);
      wrote = appends_on a b c x s.sent w s.wrote;
      whole = s.whole;
    }

-- What follows a text that was not written whole is not written.
pub sent_short : {T E U F : Type 0} (a b : Option (List ℕ)) (x z : List ℕ) (e : E) (d : F) → Sent {T = T} {E = E} a b x (Err e) → Sent {T = U} {E = F} a b (x ++ z) (Err d)
sent_short a b x z e d s =
    record { sent = s.sent; rest = s.rest ++ z; parts = ap (λ l. l ++ z) s.parts ∙ append_assoc s.sent s.rest z; wrote = s.wrote; whole = tt }

pub sent_front : {T E : Type 0} (a b : Option (List ℕ)) (x z : List ℕ) (e : E) → Appends a b x → Sent {T = T} {E = E} a b (x ++ z) (Err e)
sent_front a b x z e w = record { sent = x; rest = z; parts = refl; wrote = w; whole = tt }

-- A text that was sent is written.
pub sent_whole : {T E : Type 0} (a b : Option (List ℕ)) (x : List ℕ) (v : T) → Sent {T = T} {E = E} a b x (Ok v) → Appends a b x
sent_whole a b x v s = subst (Appends a b) (sym (s.parts ∙ ap (λ l. s.sent ++ l) s.whole ∙ append-nil s.sent)) s.wrote

pub consumes_keeps : (a b c : Option (List ℕ)) (x : List ℕ) → Consumes a b x → Keeps b c → Consumes a c x
consumes_keeps None b c x h k = tt
consumes_keeps (Some u) None c x h k = absurd h
consumes_keeps (Some u) (Some v) None x h k = absurd k
consumes_keeps (Some u) (Some v) (Some w) x h k = h ∙ ap (λ l. x ++ l) (sym k)

-- No bytes were read.
pub nothing_read : (a b : Option (List ℕ)) (n : ℕ) (s : List ℕ) → n ≡ 0 → Consumes a b (take n s) → Keeps a b
nothing_read None b n s z h = tt
nothing_read (Some u) None n s z h = absurd h
nothing_read (Some u) (Some v) n s z h = sym (h ∙ ap (λ k. take k s ++ v) z)
