use Rattle.std.proofs.Common.{◌≡◌, ◌∙◌, arith, length, length-set}
use Rattle.requests.proofs.Decimals.{found_digit, line_written}
use Rattle.requests.proofs.write_line.Goals as goal

pub returns-clause-text : goal.returns-clause-text
returns-clause-text c =
    let long : length c.digits-value.new.out ≡ 24 = c.digits-value.auto.out ∙ rw length-set c.requires in
    line_written c.args.answer c.args.out.now c.digits-value.new.out c.digits.new.out c.digits-value.result c.digits.result _
    c.requires long (omega (arith, c.digits-value.ensures.start)) (omega (arith, c.digits-value.ensures.start)) c.digits.ensures.start.0
    (rw c.from.ensures (found_digit c.args.answer.found)) c.digits-value.ensures.text c.digits.ensures.text
