use Rattle.packing.proofs.Widths.{byte_few, byte_eights}
use Rattle.packing.proofs.encoding.Encoding.byte_of.Goals as goal

pub returns : goal.returns
returns c = record {
  value = byte_eights c.args.self.bits c.args.i;
  few = byte_few c.args.self.bits c.args.i c.args.self.few;
}
