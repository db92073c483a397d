use Rattle.std.proofs.Common.{refl}
use Rattle.algebra.specs.Quad.{F, G, vadd, vsub, scale, eqn, sum_to, row}
use Rattle.suite_bench.specs.Sums.{bench_d}
use Rattle.scheme.specs.Rounds.{rounds, each, taken}
use Rattle.scheme.specs.Signing.{c0, c1, first_answer, pool, list, answers, responses, others, σ0, α_of, σ1, bit_of_round, signature}
use Rattle.scheme.specs.Verifying.{opening0, opening1, recomputed, commitment, commitments, listed}
use Rattle.table.proofs.cases_stand.Goals as goal

pub returns : goal.returns
unfolding bench_d F G vadd vsub scale eqn sum_to row rounds each taken c0 c1 first_answer pool list answers responses others σ0 α_of σ1 bit_of_round signature opening0 opening1 recomputed commitment commitments listed
returns c = record {
  pair = refl;
  element = refl;
  pad = refl;
  coefficients = refl;
  drawing = refl;
  key = refl;
  signature = refl;
  barren = refl;
  map = refl;
  secret = refl;
  value = refl;
  public = refl;
  round = refl;
  challenge = refl;
  bit = refl;
  signed = refl;
  accepted = refl;
}
