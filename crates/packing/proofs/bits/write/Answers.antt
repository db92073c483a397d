use Rattle.std.proofs.Common.{◌≡◌, ℕ, ◌+◌, ◌*◌, ◌%◌, ◌^◌, ◌<◌, ◌≤◌, List, length, get_or, arith}
use Rattle.std.proofs.ByRecursion.{All-get_or}
use Rattle.std.proofs.lemmas.Nat.{shl_whole, and_mask}
use Rattle.packing.specs.Packed.{first_not}
use Rattle.packing.proofs.Firsts.{codes_from}
use Rattle.packing.proofs.Packing.{or_above, pack_in, pack_on, pack_out, pack_last, pack_done}
use Rattle.packing.proofs.bits.write.Goals as goal
use Rattle.packing.proofs.bits.write.Goals.{Then-bits-ge8, then-bits-ge8, else-bits-ge8}

-- an entry is below 2^b
code : (q b : ℕ) (v : List ℕ) (i x : ℕ) → first_not q v ≡ length v → q ≤ 2 ^ b → i < length v → x ≡ get_or v i 0 → x < 2 ^ b
code q b v i x none fits h e =
    let l : get_or v i 0 < q = All-get_or (λ y. y < q) v i 0 h (codes_from q v none) in
    omega arith

inside : (c : Then-bits-ge8) → c.loop-x.j < length c.loop-x.out
inside c =
    let x : ℕ = c.from.result in
    let e : x ≡ get_or c.args.v.now c.loop-x.x-index 0 = c.from.ensures in
    let l : x < 2 ^ c.args.encoding.bits = code c.args.encoding.order _ c.args.v.now c.loop-x.x-index x c.requires.codes c.args.encoding.fits c.loop-x-test.true e in
    pack_in c.args.encoding.few c.loop-x.invariant x c.loop-x-test.true e l c.if-bits-ge8.true

pub bounds-out-j : goal.bounds-out-j
bounds-out-j c = inside c

pub overflow_add-j : goal.overflow_add-j
overflow_add-j c = omega (arith, inside c)

pub loop-x-preserved : goal.loop-x-preserved
loop-x-preserved c =
    let h : c.loop-x.x-index < length c.args.v.now = omega arith in
    let b : ℕ = c.args.encoding.bits in
    let x : ℕ = c.from.result in
    let e : x ≡ get_or c.args.v.now c.loop-x.x-index 0 = c.from.ensures in
    let l : x < 2 ^ b = code c.args.encoding.order b c.args.v.now c.loop-x.x-index x c.requires.codes c.args.encoding.fits h e in
    let shl : (x * 2 ^ c.loop-x.bits) % 2 ^ 32 ≡ x * 2 ^ c.loop-x.bits = shl_whole x b c.loop-x.bits 32 l (omega (arith, c.loop-x.invariant.few, c.args.encoding.few)) in
    let or = or_above c.loop-x.held x c.loop-x.bits c.loop-x.invariant.small in
    elim c.if-bits-ge8.branch [
      | then-bits-ge8 w ↦ rw (w.out-is, w.j-is, w.held-is, w.bits-is, shl, or, and_mask (c.loop-x.held + x * 2 ^ c.loop-x.bits) 8) (pack_out c.args.encoding.few c.loop-x.invariant x h e l w.if-bits-ge8.true)
      | else-bits-ge8 w ↦ rw (w.out-is, w.j-is, w.held-is, w.bits-is, shl, or) (pack_on c.args.encoding.few c.loop-x.invariant x h e l w.if-bits-ge8.false)
    ]

pub returns-then-bits-gt0 : goal.returns-then-bits-gt0
returns-then-bits-gt0 c = pack_last c.loop-x.invariant c.loop-x-test.false c.if-bits-gt0.true

pub returns-else-bits-gt0 : goal.returns-else-bits-gt0
returns-else-bits-gt0 c = pack_done c.loop-x.invariant c.loop-x-test.false c.if-bits-gt0.false
