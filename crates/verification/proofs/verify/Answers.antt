use Rattle.std.proofs.Common.{◌≡◌, ℕ, List, Result, length, ◌∙◌, arith}
use Rattle.std.proofs.lemmas.Grind.{common_steps}
use Rattle.refusal.specs.declared.Refusal.{Refusal}
use Rattle.field.specs.Coding.{Coding, Coded}
use Rattle.params.specs.declared.Set.{Set}
use Rattle.suite.specs.Meaning.{Meaning, Lawful}
use Rattle.scheme.specs.Verifying.{verify_of, Verifies}
use Rattle.scheme.specs.Fits.{Fits}
use Rattle.scheme.proofs.Fitting.{fits}
use Rattle.scheme.proofs.Verdict.{verdict}
use Rattle.verification.proofs.verify.Goals as goal

-- what is known of the call's answer, once it is the one that the scheme gives
both : (C : Coding) (M : Meaning) → Coded C → Lawful M → (set : Set) (message : List ℕ) (map list : ℕ) (key sig : List ℕ) (r : Result (Unit {0}) Refusal)
    → r ≡ verify_of C M set message map list key sig → Verifies C M set message map list key sig r × Fits C M set message map list key sig r
both C M K L set message map list key sig r e = (verdict C M K set message map list key sig r e, λ s h l. e ∙ fits C M K L set message map list key sig s h l)

pub returns-in_err-signature : goal.returns-in_err-signature
returns-in_err-signature g c =
    let M : Meaning = g.S.Suite.meaning c.args.suite.now in
    let e : c.from_residual.result ≡ verify_of g.F.Field.coding M c.args.set c.args.message.now (length c.args.map.now) (length c.args.list.now) c.args.key.now c.args.signature.now = grind (arith, common_steps) in
    let known = both g.F.Field.coding M g.met.F.Field.coded (g.met.S.Suite.lawful c.args.suite.now) c.args.set c.args.message.now (length c.args.map.now) (length c.args.list.now) c.args.key.now c.args.signature.now c.from_residual.result e in
    record { answer = e; accepts = known.0; signed = known.1 }

pub returns : goal.returns
returns g c =
    let M : Meaning = g.S.Suite.meaning c.args.suite.now in
    let e : c.decide.result ≡ verify_of g.F.Field.coding M c.args.set c.args.message.now (length c.args.map.now) (length c.args.list.now) c.args.key.now c.args.signature.now = grind (arith, common_steps) in
    let known = both g.F.Field.coding M g.met.F.Field.coded (g.met.S.Suite.lawful c.args.suite.now) c.args.set c.args.message.now (length c.args.map.now) (length c.args.list.now) c.args.key.now c.args.signature.now c.decide.result e in
    record { answer = e; accepts = known.0; signed = known.1 }
