-- What is read is what document 01's grammar says: `command_in` reads a line that is a command's (`taken`), and no other (`reads`).
use Rattle.std.proofs.Common.{◌≡◌, ℕ, ◌^◌, ◌≤◌, ◌<◌, Bool, true, false, List, ◌++◌, ◌⊎◌, inl, inr, ⊎_elim, length, drop, refl, sym, ap, ◌∙◌, arith, eqb, leb, cond, not, ◌||◌, ◌&&◌, Option, None, Some, append_assoc, subst, codes, le-leb, length-append}
use borrow.Author.Tests.{leb-true, eq-eqb, not-true, ne_eqb}
use Rattle.line.proofs.Digits.{Digits, own, kept}
use Rattle.line.proofs.Fields.{bound, behind_takes, behind_again, field_takes, one_then, two_then, last_takes, field_then, last_then}
use Rattle.line.specs.Command.{Command, opening, calling, limit_text, line_of, Fits, LimitFits, NameByte, Says}
use Rattle.line.specs.Reading.{◌>>=◌, u8, u32, u64, is_digit, digit_count, behind, field_in, last_in, is_name, name_in, limit_in, open_in, create_in, grow_in, publish_in, drop_in, cap_in, locate_in, command_in}
use Rattle.model.specs.Calls as model
use Rattle.numbers.proofs.Cases.{cases, clash, and-true, or-false, none_some, same_some}
use Rattle.numbers.proofs.Lists.{all_imp, any_false, of_none, same_true}
use Rattle.numbers.specs.Lists.{All, any, same}
use Rattle.line.proofs.Writing.{few_digits}
use Rattle.std.proofs.lemmas.Fmt.{digits_decimal, length-decimal-le}
use Rattle.std.specs.Fmt.{decimal}
use Rattle.std.specs.Option.{option_or}

-- The line of a command, and what it says fits.
abbrev Of : List ℕ → Command → Type 0
Of line c = (line ≡ line_of c) × Fits c

locate_takes : (line : List ℕ) (c : Command) → locate_in line ≡ Some c → Of line c
unfolding locate_in
locate_takes line c e =
    let i = bound e in
    let p = bound i.2 in
    let n = bound p.2 in
    let a = field_takes u64 (codes "call=locate id=") line i.0 (omega arith) i.1 in
    let b = field_takes u64 (codes " pos=") i.0.1 p.0 (omega arith) p.1 in
    let d = last_takes u64 (codes " n=") p.0.1 n.0 (omega arith) n.1 in
    subst (Of line) (same_some n.2)
    (two_then (codes " n=") (decimal n.0) a b d.0, (omega (arith, a.fits), omega (arith, b.fits), omega (arith, d.1)))

publish_takes : (line : List ℕ) (c : Command) → publish_in line ≡ Some c → Of line c
unfolding publish_in
publish_takes line c e =
    let i = bound e in
    let n = bound i.2 in
    let a = field_takes u64 (codes "call=publish id=") line i.0 (omega arith) i.1 in
    let d = last_takes u64 (codes " len=") i.0.1 n.0 (omega arith) n.1 in
    subst (Of line) (same_some n.2) (one_then (codes " len=") (decimal n.0) a d.0, (omega (arith, a.fits), omega (arith, d.1)))

open_takes : (line : List ℕ) (c : Command) → open_in line ≡ Some c → Of line c
unfolding open_in
open_takes line c e =
    let t = bound e in
    let l = bound t.2 in
    let n = bound l.2 in
    let a = field_takes u64 (codes "call=open table_end=") line t.0 (omega arith) t.1 in
    let b = field_takes u64 (codes " len=") t.0.1 l.0 (omega arith) l.1 in
    let d = last_takes u8 (codes " log2=") l.0.1 n.0 (omega arith) n.1 in
    subst (Of line) (same_some n.2)
    (two_then (codes " log2=") (decimal n.0) a b d.0, (omega (arith, a.fits), omega (arith, b.fits), omega (arith, d.1)))

grow_takes : (line : List ℕ) (c : Command) → grow_in line ≡ Some c → Of line c
unfolding grow_in
grow_takes line c e =
    let n = bound e in
    let d = last_takes u64 (codes "call=grow id=") line n.0 (omega arith) n.1 in
    subst (Of line) (same_some n.2) (d.0, omega (arith, d.1))

drop_takes : (line : List ℕ) (c : Command) → drop_in line ≡ Some c → Of line c
unfolding drop_in
drop_takes line c e =
    let n = bound e in
    let d = last_takes u64 (codes "call=drop id=") line n.0 (omega arith) n.1 in
    subst (Of line) (same_some n.2) (d.0, omega (arith, d.1))

limit_takes : (text : List ℕ) (m : Option ℕ) → limit_in text ≡ Some m → (text ≡ codes " max=" ++ limit_text m) × LimitFits m
unfolding limit_in
limit_takes text m e =
    cases (same text (codes " max=none"))
    (λ t. subst (λ m. (text ≡ codes " max=" ++ limit_text m) × LimitFits m) (same_some (simp t at e)) (same_true _ _ t, tt))
    (λ f.
    let n = bound (simp f at e) in
    let d = last_takes u64 (codes " max=") text n.0 (omega arith) n.1 in
    subst (λ m. (text ≡ codes " max=" ++ limit_text m) × LimitFits m) (same_some n.2) (d.0, omega (arith, d.1)))

cap_takes : (line : List ℕ) (c : Command) → cap_in line ≡ Some c → Of line c
unfolding cap_in
cap_takes line c e =
    let t = bound e in
    let m = bound t.2 in
    let a = field_takes u32 (codes "call=cap tag=") line t.0 (omega arith) t.1 in
    let d = limit_takes t.0.1 m.0 m.1 in
    subst (Of line) (same_some m.2) (one_then (codes " max=") (limit_text m.0) a d.0, (omega (arith, a.fits), d.1))

name_byte : (b : ℕ) → (eqb b 32 || eqb b 10) ≡ false → NameByte b
name_byte b f = let p = or-false _ _ f in (λ e. clash (eq-eqb _ _ e) p.0, λ e. clash (eq-eqb _ _ e) p.1)

name_takes : (text name : List ℕ) → name_in text ≡ Some name → (text ≡ codes " name=" ++ name) × (length name ≤ 24) × All NameByte name
unfolding name_in is_name
name_takes text name e =
    let b = bound e in
    let k = kept b.2 in
    let p = and-true _ _ k.0 in
    subst (λ n. (text ≡ codes " name=" ++ n) × (length n ≤ 24) × All NameByte n) k.1
    (behind_takes (codes " name=") text b.0 b.1, leb-true _ _ p.0, all_imp _ NameByte name_byte b.0 (any_false _ b.0 (not-true _ p.1)))

create_takes : (line : List ℕ) (c : Command) → create_in line ≡ Some c → Of line c
unfolding create_in
create_takes line c e =
    let i = bound e in
    let t = bound i.2 in
    let n = bound t.2 in
    let a = field_takes u64 (codes "call=create id=") line i.0 (omega arith) i.1 in
    let b = field_takes u32 (codes " tag=") i.0.1 t.0 (omega arith) t.1 in
    let d = name_takes t.0.1 n.0 n.1 in
    subst (Of line) (same_some n.2)
    (two_then (codes " name=") n.0 a b d.0, (omega (arith, a.fits), omega (arith, b.fits), d.1, d.2))

either : {a b : Option Command} {c : Command} → option_or a b ≡ Some c → (a ≡ Some c) ⊎ (b ≡ Some c)
either {a = None} e = inr e
either {a = Some x} e = inl e

-- What a line is read as, its line is.
pub reads : (line : List ℕ) (c : Command) → command_in line ≡ Some c → Says line c
unfolding command_in
reads line c e =
    let k = within_line (leb (length line) 128) e in
    let f = named (either k.1) in
    record { text = f.0; fits = f.1; short = leb-true _ _ k.0 }
  where
    within_line : (b : Bool) {o : Option Command} → cond b o None ≡ Some c → (b ≡ true) × (o ≡ Some c)
    within_line true e = (refl, e)
    within_line false e = absurd (none_some e)

    named : (option_or (option_or (option_or (option_or (option_or (locate_in line) (grow_in line)) (publish_in line)) (create_in line))
        (drop_in line)) (cap_in line) ≡ Some c) ⊎ (open_in line ≡ Some c) → Of line c
    named d =
        ⊎_elim (λ d. ⊎_elim (λ d. ⊎_elim (λ d. ⊎_elim (λ d. ⊎_elim (λ d. ⊎_elim
        (locate_takes line c) (grow_takes line c) (either d)) (publish_takes line c) (either d)) (create_takes line c) (either d))
        (drop_takes line c) (either d)) (cap_takes line c) (either d)) (open_takes line c) d

-- ---- and the other way round

two : (k d j e : List ℕ) → k ++ d ++ j ++ e ≡ k ++ d ++ (j ++ e)
two k d j e = append_assoc (k ++ d) j e

three : (k d j e l f : List ℕ) → k ++ d ++ j ++ e ++ l ++ f ≡ k ++ d ++ (j ++ e ++ (l ++ f))
three k d j e l f = simp append_assoc

locate_again : (i p n : ℕ) → i < 2 ^ 64 → p < 2 ^ 64 → n < 2 ^ 64 → locate_in (line_of (calling (model.locate i p n))) ≡ Some (calling (model.locate i p n))
unfolding locate_in digit_count
locate_again i p n a b d =
    ap locate_in (three (codes "call=locate id=") (decimal i) (codes " pos=") (decimal p) (codes " n=") (decimal n))
    ∙ field_then u64 i (codes "call=locate id=") (codes " pos=" ++ decimal p ++ (codes " n=" ++ decimal n)) _ (omega arith) (omega (arith, a)) refl
    ∙ field_then u64 p (codes " pos=") (codes " n=" ++ decimal n) _ (omega arith) (omega (arith, b)) refl
    ∙ last_then u64 n (codes " n=") _ (omega arith) (omega (arith, d))

publish_again : (i n : ℕ) → i < 2 ^ 64 → n < 2 ^ 64 → publish_in (line_of (calling (model.publish i n))) ≡ Some (calling (model.publish i n))
unfolding publish_in digit_count
publish_again i n a d =
    ap publish_in (two (codes "call=publish id=") (decimal i) (codes " len=") (decimal n))
    ∙ field_then u64 i (codes "call=publish id=") (codes " len=" ++ decimal n) _ (omega arith) (omega (arith, a)) refl
    ∙ last_then u64 n (codes " len=") _ (omega arith) (omega (arith, d))

open_again : (t l n : ℕ) → t < 2 ^ 64 → l < 2 ^ 64 → n < 2 ^ 8
    → open_in (line_of (opening (record { log2_block = n; table_end = t; file_len = l }))) ≡ Some (opening (record { log2_block = n; table_end = t; file_len = l }))
unfolding open_in digit_count
open_again t l n a b d =
    ap open_in (three (codes "call=open table_end=") (decimal t) (codes " len=") (decimal l) (codes " log2=") (decimal n))
    ∙ field_then u64 t (codes "call=open table_end=") (codes " len=" ++ decimal l ++ (codes " log2=" ++ decimal n)) _ (omega arith) (omega (arith, a)) refl
    ∙ field_then u64 l (codes " len=") (codes " log2=" ++ decimal n) _ (omega arith) (omega (arith, b)) refl
    ∙ last_then u8 n (codes " log2=") _ (omega arith) (omega (arith, d))

grow_again : (n : ℕ) → n < 2 ^ 64 → grow_in (line_of (calling (model.grow n))) ≡ Some (calling (model.grow n))
unfolding grow_in
grow_again n d = last_then u64 n (codes "call=grow id=") _ (omega arith) (omega (arith, d))

drop_again : (n : ℕ) → n < 2 ^ 64 → drop_in (line_of (calling (model.drop n))) ≡ Some (calling (model.drop n))
unfolding drop_in
drop_again n d = last_then u64 n (codes "call=drop id=") _ (omega arith) (omega (arith, d))

limit_again : (m : Option ℕ) → LimitFits m → limit_in (codes " max=" ++ limit_text m) ≡ Some m
unfolding limit_in same
limit_again None d = refl
limit_again (Some n) d =
    cases (same (codes " max=" ++ decimal n) (codes " max=none"))
    (λ t.
    let s : codes " max=" ++ decimal n ≡ codes " max=none" = same_true _ _ t in
    let e : decimal n ≡ codes "none" = ap (drop 5) s in
    let h : Digits (codes "none") = subst Digits e (digits_decimal own n d) in
    clash {b = is_digit 110} h.0 refl)
    (λ f. simp f (last_then u64 n (codes " max=") (λ n. Some (Some n)) (omega arith) (omega (arith, d))))

cap_again : (t : ℕ) (m : Option ℕ) → t < 2 ^ 32 → LimitFits m → cap_in (line_of (calling (model.cap t m))) ≡ Some (calling (model.cap t m))
unfolding cap_in digit_count
cap_again t m a d =
    ap cap_in (two (codes "call=cap tag=") (decimal t) (codes " max=") (limit_text m))
    ∙ field_then u32 t (codes "call=cap tag=") (codes " max=" ++ limit_text m) _ (omega arith) (omega (arith, a)) refl
    ∙ ap (λ o. o >>= λ m. Some (calling (model.cap t m))) (limit_again m d)

byte_name : (b : ℕ) → NameByte b → (eqb b 32 || eqb b 10) ≡ false
byte_name b h = rw (ne_eqb b 32 h.0, ne_eqb b 10 h.1) refl

name_again : (name : List ℕ) → length name ≤ 24 → All NameByte name → name_in (codes " name=" ++ name) ≡ Some name
unfolding name_in is_name
name_again name l h =
    let f : any (λ b. eqb b 32 || eqb b 10) name ≡ false = of_none _ name (all_imp _ (λ b. (eqb b 32 || eqb b 10) ≡ false) byte_name name h) in
    ap (λ o. o >>= λ n. cond (leb (length n) 24 && not (any (λ b. eqb b 32 || eqb b 10) n)) (Some n) None) (behind_again (codes " name=") name) ∙ simp (le-leb _ _ l, f)

create_again : (i t : ℕ) (name : List ℕ) → i < 2 ^ 64 → t < 2 ^ 32 → length name ≤ 24 → All NameByte name
    → create_in (line_of (calling (model.create i t name))) ≡ Some (calling (model.create i t name))
unfolding create_in digit_count
create_again i t name a b l h =
    ap create_in (three (codes "call=create id=") (decimal i) (codes " tag=") (decimal t) (codes " name=") name)
    ∙ field_then u64 i (codes "call=create id=") (codes " tag=" ++ decimal t ++ (codes " name=" ++ name)) _ (omega arith) (omega (arith, a)) refl
    ∙ field_then u32 t (codes " tag=") (codes " name=" ++ name) _ (omega arith) (omega (arith, b)) refl
    ∙ ap (λ o. o >>= λ n. Some (calling (model.create i t n))) (name_again name l h)

-- Of the calls in front of the right one each begins with another name.
named_again : (c : Command) → Fits c
    → option_or (option_or (option_or (option_or (option_or (option_or (locate_in (line_of c)) (grow_in (line_of c))) (publish_in (line_of c)))
    (create_in (line_of c))) (drop_in (line_of c))) (cap_in (line_of c))) (open_in (line_of c)) ≡ Some c
unfolding locate_in grow_in publish_in create_in drop_in cap_in last_in field_in behind same
named_again (opening lim) f = open_again lim.table_end lim.file_len lim.log2_block f.0 f.1 f.2
named_again (calling (model.create id tag name)) f = rw (create_again id tag name f.0 f.1 f.2 f.3) refl
named_again (calling (model.grow id)) f = rw (grow_again id f) refl
named_again (calling (model.publish id len)) f = rw (publish_again id len f.0 f.1) refl
named_again (calling (model.drop id)) f = rw (drop_again id f) refl
named_again (calling (model.cap tag limit)) f = rw (cap_again tag limit f.0 f.1) refl
named_again (calling (model.locate id pos n)) f = rw (locate_again id pos n f.0 f.1 f.2) refl

-- The line of a command that fits is read as that command.
pub taken : (line : List ℕ) (c : Command) → Says line c → command_in line ≡ Some c
unfolding command_in
taken line c s = subst (λ l. command_in l ≡ Some c) (sym s.text) (rw (le-leb _ _ (subst (λ l. length l ≤ 128) s.text s.short)) (named_again c s.fits))

-- ---- lengths

limit_short : (m : Option ℕ) → LimitFits m → length (limit_text m) ≤ 20
limit_short None f = omega arith
limit_short (Some n) f = few_digits n f

-- No command's line comes near 128 bytes: the longest has 83. So that bound turns down no line that the grammar takes.
pub short_line : (c : Command) → Fits c → length (line_of c) ≤ 83
short_line (opening lim) f =
    let a = few_digits lim.table_end f.0 in
    let b = few_digits lim.file_len f.1 in
    let d = length-decimal-le 3 lim.log2_block (omega arith) (let h = f.2 in omega (arith, h)) (let h = f.2 in omega (arith, h)) in
    simp length-append (omega (arith, a, b, d))
short_line (calling (model.create id tag name)) f =
    let a = few_digits id f.0 in
    let b = length-decimal-le 10 tag (omega arith) (let h = f.1 in omega (arith, h)) (let h = f.1 in omega (arith, h)) in
    let d = f.2 in
    simp length-append (omega (arith, a, b, d))
short_line (calling (model.grow id)) f = let a = few_digits id f in simp length-append (omega (arith, a))
short_line (calling (model.publish id len)) f = let a = few_digits id f.0 in let b = few_digits len f.1 in simp length-append (omega (arith, a, b))
short_line (calling (model.drop id)) f = let a = few_digits id f in simp length-append (omega (arith, a))
short_line (calling (model.cap tag limit)) f =
    let a = length-decimal-le 10 tag (omega arith) (let h = f.0 in omega (arith, h)) (let h = f.0 in omega (arith, h)) in
    let b = limit_short limit f.1 in
    simp length-append (omega (arith, a, b))
short_line (calling (model.locate id pos n)) f =
    let a = few_digits id f.0 in
    let b = few_digits pos f.1 in
    let d = few_digits n f.2 in
    simp length-append (omega (arith, a, b, d))

-- So the line of every command that fits is one that it says.
pub said_by : (c : Command) → Fits c → Says (line_of c) c
said_by c f = record { text = refl; fits = f; short = let h = short_line c f in omega (arith, h) }
