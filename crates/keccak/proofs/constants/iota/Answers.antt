-- The bits of the constant are those of the standard's.
use Rattle.keccak.proofs.BitByBit.{iota_bits}
use Rattle.keccak.proofs.constants.iota.Goals as goal

pub returns-clause-bits : goal.returns-clause-bits
returns-clause-bits c = iota_bits c.args.a c.args.i c.constant.result c.constant.ensures.bits
