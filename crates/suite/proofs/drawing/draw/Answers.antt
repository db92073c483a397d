use Rattle.std.proofs.Common.{◌≡◌, ℕ, ◌≤◌, List, length, take, ap, ◌∙◌, ap₂, arith}
use Rattle.std.proofs.lemmas.Grind.{common_steps}
use Rattle.std.proofs.lemmas.List.{length-take-le}
use Rattle.field.specs.Coding.{reads}
use Rattle.suite.specs.Sifted.{sifted}
use Rattle.suite.proofs.Draws.{short, done}
use Rattle.suite.proofs.drawing.draw.Goals as goal

pub returns-then-sift-count : goal.returns-then-sift-count
returns-then-sift-count g c =
    let n : ℕ = c.args.count in
    let xs : List ℕ = c.args.buffer.now in
    let h : reads n ≤ length xs = omega arith in
    let m : length (take c.drawing_len-2.result xs) ≡ reads n = omega (arith, length-take-le c.drawing_len-2.result xs (omega arith)) in
    let same = ap₂ (λ (q b : ℕ). sifted q b c.stream.new.out) c.encoding.ensures.order c.encoding.ensures.bits in
    let d = short g.F.Field.coding (g.S.Suite.meaning c.args.suite.now) c.args.label c.args.seed.now n (length xs) _ m h c.stream.new.out c.in_ok-stream.ensures.answer c.stream.ensures.bytes c.sift.result _ (c.sift.ensures.count ∙ ap length same) c.if-sift-count.true in
    record { answer = d.answer; front = d.holds; rest = grind (arith, common_steps); law = d.law }

pub returns : goal.returns
returns g c =
    let n : ℕ = c.args.count in
    let xs : List ℕ = c.args.buffer.now in
    let h : reads n ≤ length xs = omega arith in
    let m : length (take c.drawing_len-2.result xs) ≡ reads n = omega (arith, length-take-le c.drawing_len-2.result xs (omega arith)) in
    let same = ap₂ (λ (q b : ℕ). sifted q b c.stream.new.out) c.encoding.ensures.order c.encoding.ensures.bits in
    let d = done g.F.Field.coding (g.S.Suite.meaning c.args.suite.now) c.args.label c.args.seed.now n (length xs) _ m h c.stream.new.out c.in_ok-stream.ensures.answer c.stream.ensures.bytes c.sift.result c.sift.new.part _ (c.sift.ensures.count ∙ ap length same) c.if-sift-count.false (c.sift.ensures.front ∙ same) in
    record { answer = d.answer; front = d.holds; rest = grind (arith, common_steps); law = d.law }
