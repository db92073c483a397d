-- The constant is the table's.
use Rattle.keccak.proofs.RoundConstants.{table_lane, table_bit}
use Rattle.keccak.proofs.constants.constant.Goals as goal

pub returns : goal.returns
returns c = record { value = table_lane c.args.i c.requires; bits = table_bit c.args.i c.requires }
