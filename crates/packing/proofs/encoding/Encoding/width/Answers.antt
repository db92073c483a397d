use Rattle.packing.proofs.Widths.{width_few, width_eights}
use Rattle.packing.proofs.encoding.Encoding.width.Goals as goal

pub returns : goal.returns
returns c = record {
  value = width_eights c.args.self.bits c.args.k;
  few = width_few c.args.self.bits c.args.k c.args.self.few;
}
