-- Each lane is that of ρ, and so the bits are.
use Rattle.std.proofs.Common.{◌≡◌, ℕ, ◌-◌, ◌*◌, ◌/◌, ◌%◌, ◌^◌, ◌<◌, sym, refl, ap, ◌∙◌, subst, rules, arith}
use lib.Bits.{bit_or}
use Rattle.keccak.specs.State.{Rows, lane, rows, Lanes64}
use Rattle.keccak.specs.Lanes.{rotated, offset, rho_of}
use Rattle.keccak.specs.declared.steps.TheConstants.{OFFSETS}
use Rattle.keccak.specs.Bits.{RhoBits}
use Rattle.keccak.proofs.BitByBit.{rows_at, rows_same, rho_bits}
use Rattle.keccak.proofs.steps.rho.Goals as goal

-- the code's table has the offsets modulo 64
table : (x y : ℕ) → x < 5 → y < 5 → lane OFFSETS x y ≡ offset x y % 64
table x y h k =
    let e : OFFSETS ≡ rows (λ x y. offset x y % 64) = refl in
    ap (λ (r : Rows). lane r x y) e ∙ rows_at (λ x y. offset x y % 64) x y h k

turned : (v k n : ℕ) → k ≡ n % 64 → rotated v k ≡ rotated v n
turned v k n e =
    ap (λ (m : ℕ). bit_or ((v * 2 ^ m) % 2 ^ 64) (v / 2 ^ ((64 - m) % 64))) (let f : k % 64 ≡ n % 64 = omega arith in f)

same : (c : goal.After-rows) → c.rows.result ≡ rho_of c.args.a
same c =
    c.rows.ensures.whole
    ∙ rows_same (λ x y. lane c.rows.result x y) (λ x y. rotated (lane c.args.a x y) (offset x y))
    (λ x y h k.
    let e = c.rows.ensures.lanes x y h k in
    let r : lane c.rows.result x y ≡ rotated (lane c.args.a x y) (lane OFFSETS x y) = search rules in
    r ∙ turned (lane c.args.a x y) (lane OFFSETS x y) (offset x y) (table x y h k))

small : (c : goal.After-rows) → Lanes64 c.args.a
small c y k x h = let e = c.rows.ensures.lanes x y h k in search rules

pub returns : goal.returns
returns c = record { lanes = same c; bits = subst (λ (r : Rows). RhoBits c.args.a r) (sym (same c)) (rho_bits c.args.a (small c)) }
