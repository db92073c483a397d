-- A round is its five steps, one after another.
use Rattle.std.proofs.Common.{ap, ◌∙◌}
use Rattle.keccak.specs.State.{Rows}
use Rattle.keccak.specs.Lanes.{rho_of, pi_of, chi_of}
use Rattle.keccak.specs.Constants.{iota_of}
use Rattle.keccak.specs.Rounds.{round_of}
use Rattle.keccak.proofs.round.Goals as goal

pub returns : goal.returns
unfolding round_of
returns c =
    record {
      lanes =
          c.iota.ensures.lanes
          ∙ ap (λ (a : Rows). iota_of a c.args.i)
          (c.chi.ensures.lanes ∙ ap chi_of (c.pi.ensures.lanes ∙ ap pi_of (c.rho.ensures.lanes ∙ ap rho_of c.theta.ensures.lanes)));
      bits =
          record {
            t = c.theta.result;
            u = c.rho.result;
            v = c.pi.result;
            w = c.chi.result;
            theta = c.theta.ensures.bits;
            rho = c.rho.ensures.bits;
            pi = c.pi.ensures.bits;
            chi = c.chi.ensures.bits;
            iota = c.iota.ensures.bits;
          };
    }
