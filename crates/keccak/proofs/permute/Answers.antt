-- The fold over the 24 numbers makes 24 rounds.
use Rattle.std.proofs.Common.{◌≡◌, sym, ap, ◌∙◌, refl, rules}
use Rattle.keccak.specs.State.{Rows}
use Rattle.keccak.specs.Bits.{RoundBits, RoundsBits}
use Rattle.keccak.specs.Rounds.{rounds, round_of}
use Rattle.keccak.proofs.Count.{fold_count}
use Rattle.keccak.proofs.Rounds.{rounds_none, rounds_more, bits_none, bits_more}
use Rattle.keccak.proofs.permute.Goals as goal

pub returns : goal.returns
returns c =
    let made =
    fold_count _ (λ n s. (s ≡ rounds n c.args.a) × RoundsBits n c.args.a s) _
    (λ i s r f call. refl)
    (λ i s r f done call.
    let lanes : r ≡ round_of s i = search rules in
    let bits : RoundBits s i r = search rules in
    (lanes ∙ ap (λ (t : Rows). round_of t i) done.0 ∙ sym (rounds_more c.args.a i), bits_more c.args.a s r i done.1 bits))
    24 c.args.a c.fold.result (sym (rounds_none c.args.a), bits_none c.args.a) c.fold.ensures.ran in
    record { lanes = made.0; bits = made.1 }
