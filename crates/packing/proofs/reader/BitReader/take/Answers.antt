use Rattle.std.proofs.Common.{◌≡◌, ℕ, ◌*◌, ◌%◌, ◌^◌, ◌<◌, ◌∙◌, ap, arith}
use Rattle.std.proofs.lemmas.Nat.{shl_whole}
use Rattle.packing.specs.Unread.{Unread}
use Rattle.packing.proofs.Faults.{masked}
use Rattle.packing.proofs.Packing.{or_above}
use Rattle.packing.proofs.Taking.{Held, next_byte, byte_more, value_is, number_is, small_is}
use Rattle.packing.proofs.reader.BitReader.take.Goals as goal
use Rattle.packing.proofs.reader.BitReader.take.Goals.{Joined-self-n, then-self-n, else-self-n}

held : (c : Joined-self-n) → Held c.args.n c.args.self.now.number c.if-self-n.self-inside.held c.if-self-n.self-inside.bits c.if-self-n.self-inside.bytes.now
held c =
    let whole = ap (λ (u : Unread). u.number) c.self.view_is in
    elim c.if-self-n.branch [
      | then-self-n w ↦
          let x : ℕ = w.from.result in
          let l : x < 256 = omega arith in
          let shl : (x * 2 ^ c.self.inside.bits) % 2 ^ 32 ≡ x * 2 ^ c.self.inside.bits = shl_whole x 8 c.self.inside.bits 32 l (omega arith) in
          let or = or_above c.self.inside.held x c.self.inside.bits c.self.invariant.0 in
          rw (w.self-inside-is, shl, or) (byte_more c.args.n c.args.self.now.number c.self.inside.held c.self.inside.bits x c.self.inside.bytes.now _ c.requires.few w.if-self-n.true l (next_byte c.self.inside.bytes.now x (omega (arith, ap (λ (u : Unread). u.left) c.self.view_is, c.requires.enough, w.if-self-n.true)) w.from.ensures) c.self.invariant.0 whole)
      | else-self-n w ↦ rw w.self-inside-is (record { some = w.if-self-n.false; few = omega (arith, c.self.invariant.1); small = c.self.invariant.0; whole = whole })
    ]

pub invariant_of-self : goal.invariant_of-self
invariant_of-self c =
    let h = held (goal.at.invariant_of-self c).Joined-self-n in
    (small_is h, omega (arith, h.few, h.some))

pub returns-clause-value : goal.returns-clause-value
returns-clause-value c =
    let h = held (goal.at.returns-clause-value c).Joined-self-n in
    masked c.if-self-n.self-inside.held c.args.n c.requires.few ∙ value_is h

pub returns-clause-number : goal.returns-clause-number
returns-clause-number c = number_is (held (goal.at.returns-clause-number c).Joined-self-n)
