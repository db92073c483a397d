use Rattle.std.proofs.Common.{◌≡◌, ℕ, ◌/◌, ◌%◌, [], ◌∷◌, length, ap, ◌∙◌, ap₂, ◌++◌, arith}
use borrow.Rule.Slice.PartMut.{put_mid}
use Rattle.vectors.proofs.Stored.{two_parts}
use Rattle.std.proofs.Common.{List, ◌-◌, length-append}
use Rattle.signing.proofs.pool.numbered.Goals as goal

pub returns : goal.returns
returns c =
    let long : length c.copy_from_slice.new.self ≡ 32 = omega arith in
    let out : List ℕ = c.copy_from_slice.new.self ++ (0 ∷ (0 ∷ [])) in
    let room : 2 ≡ length out - 32 = omega (arith, length-append c.copy_from_slice.new.self (0 ∷ (0 ∷ []))) in
    let high : c.args.round / 256 % 256 ≡ c.args.round / 256 = omega arith in
    ap (λ (k : ℕ). put_mid 32 k out c.copy_from_slice-2.new.self) room
    ∙ two_parts c.copy_from_slice.new.self _ c.copy_from_slice-2.new.self 32 long
    ∙ ap₂ ◌++◌ c.copy_from_slice.ensures.after (c.copy_from_slice-2.ensures.after ∙ c.to_le_bytes.ensures ∙ ap (λ (b : ℕ). c.args.round % 256 ∷ (b ∷ [])) high)
