use Rattle.std.proofs.Common.{◌≡◌, length, sym, ◌∙◌}
use Rattle.packing.specs.Packed.{width}
use Rattle.packing.proofs.Faults.{codes_ok}
use Rattle.packing.proofs.Outcomes.{wrote}
use Rattle.packing.proofs.pack.Goals as goal

pub write-requires : goal.write-requires
write-requires c = record {
  codes = codes_ok _ _ _ (sym c.in_ok-check_codes.ensures);
  room = c.if-out-width.false ∙ c.width.ensures.value;
}

pub returns : goal.returns
returns c =
    let long : length c.args.out.now ≡ width c.args.encoding.bits (length c.args.v.now) = sym c.fill.ensures.len ∙ c.if-out-width.false ∙ c.width.ensures.value in
    let none = codes_ok _ _ _ (sym c.in_ok-check_codes.ensures) in
    let w = wrote c.args.encoding.order c.args.encoding.bits c.args.v.now (length c.args.out.now) c.write.new.out c.args.encoding.some c.args.encoding.fits long none c.write.ensures in
    record { answer = w.answer; bytes = w.bytes; law = λ _. w.law }
