-- Each turn writes one block; what is left past the last of them is at most a block.
use Rattle.std.proofs.Common.{◌≡◌, ℕ, ◌+◌, ◌-◌, ◌*◌, ◌/◌, ◌<◌, ◌≤◌, length, sym, ap, ◌∙◌, subst, add-mul, arith}
use Rattle.std.proofs.lemmas.Nat.{div-add-mod', mod_below}
use Rattle.std.proofs.lemmas.List.FromFn.{fill_by_all}
use Rattle.keccak.specs.Rounds.{keccak_f}
use Rattle.sha3.specs.Sponge.{later, squeezed_byte}
use Rattle.sha3.proofs.Sponge.{later_none, later_more, blocks_more}
use Rattle.sha3.proofs.squeeze.squeeze.Goals as goal

-- past the last of them at most a block is left
left : (n rate : ℕ) → 0 < rate → n ≤ (n - 1) / rate * rate + rate
left n rate h = omega (arith, div-add-mod' (n - 1) rate, mod_below (n - 1) rate h)

starts : (n rate : ℕ) → (n - 1) / rate * rate ≤ n
starts n rate = omega (arith, div-add-mod' (n - 1) rate)

pub loop-i-init : goal.loop-i-init
loop-i-init c = (sym (later_none c.args.start), λ k h. absurd (omega arith))

pub loop-i-preserved : goal.loop-i-preserved
loop-i-preserved c = (
  c.permute-next.ensures.lanes ∙ ap keccak_f c.loop-i.invariant.0 ∙ sym (later_more c.args.start c.loop-i.i),
  λ k h.
      blocks_more c.args.function.rate c.loop-i.i c.args.function.rate c.loop-i.s c.args.start c.loop-i.out c.put_lanes.new.out c.loop-i.invariant.0 (omega arith)
      c.loop-i.invariant.1 c.put_lanes.ensures.before (λ j l. c.put_lanes.ensures.bytes j (omega (arith, c.args.function.whole))) k
      (omega (arith, h, add-mul c.loop-i.i 1 c.args.function.rate)),
)

pub returns : goal.returns
returns c =
    let e : c.loop-i.i ≡ (length c.args.out.now - 1) / c.args.function.rate = omega (arith, c.loop-i-test.false, c.loop-i.auto.i-end) in
    fill_by_all (squeezed_byte c.args.function.rate c.args.start) c.put_rest.new.out (length c.args.out.now) 0 (c.put_rest.auto.out ∙ c.loop-i.auto.out)
    (λ k h.
    blocks_more c.args.function.rate ((length c.args.out.now - 1) / c.args.function.rate) (length c.args.out.now - (length c.args.out.now - 1) / c.args.function.rate * c.args.function.rate)
    c.loop-i.s c.args.start c.loop-i.out c.put_rest.new.out
    (c.loop-i.invariant.0 ∙ ap (λ (i : ℕ). later i c.args.start) e)
    (omega (arith, left (length c.args.out.now) c.args.function.rate (omega (arith, c.args.function.low))))
    (λ j l. c.loop-i.invariant.1 j (subst (λ (i : ℕ). j < i * c.args.function.rate) (sym e) l))
    c.put_rest.ensures.before
    (λ j l. c.put_rest.ensures.bytes j (omega (arith, l, c.loop-i.auto.out)))
    k (omega (arith, h, starts (length c.args.out.now) c.args.function.rate)))
