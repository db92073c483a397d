use Rattle.std.proofs.Common.{refl}
use Rattle.scheme.proofs.Fitting as fitting
use Rattle.scheme.proofs.Verdict as verdicts
use Rattle.scheme.proofs.scheme_fits.Goals as goal

pub returns : goal.returns
returns g c = record {
  fits = λ set message map list key sig. fitting.fits _ _ g.met.F.Field.coded (g.met.S.Suite.lawful c.args.suite.now) set message map list key sig;
  verdict = λ set message map list key sig. verdicts.verdict _ _ g.met.F.Field.coded set message map list key sig _ refl;
}
