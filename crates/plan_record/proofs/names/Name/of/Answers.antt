-- The name stands at the front of 24 bytes.
use Rattle.std.proofs.Common.{◌≡◌, ◌≤◌, length, take, replicate, ap, ◌∙◌, arith}
use Rattle.std.proofs.lemmas.List.{take-append-le}
use Rattle.numbers.proofs.Copying.{copied_front}
use Rattle.plan_record.proofs.names.Name.of.Goals as goal

pub returns : goal.returns
returns c h =
    let xs = c.args.name.now in
    let ys = c.copy.new.to in
    let e : c.min-len.result ≡ length xs = omega (arith, h, c.min-len.ensures) in
    let k : c.min-len.result ≤ length ys = omega (arith, e, h, c.copy.auto.to) in
    take-append-le _ ys _ k ∙ ap (λ n. take n ys) e ∙ ap (λ l. take (length xs) l) c.copy.ensures ∙ copied_front xs (replicate 24 0) h
