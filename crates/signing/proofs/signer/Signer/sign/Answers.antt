use Rattle.std.proofs.Common.{ℕ, List, length, Ok, sym, refl, ap, ◌∙◌}
use Rattle.std.proofs.lemmas.Result.{err_from_is_err_and}
use Rattle.field.specs.Coding.{Coding}
use Rattle.params.specs.declared.Set.{Set}
use Rattle.suite.specs.Meaning.{Meaning}
use Rattle.signing.specs.Steps.{rounds_of}
use Rattle.signing.proofs.Stepwise.{comes_refused, comes_made, base_is, h1_is, alphas_stop, rounds_made}
use Rattle.signing.proofs.signer.Signer.sign.Goals as goal

pub returns-in_err-draw_into : goal.returns-in_err-draw_into
returns-in_err-draw_into g c =
    let C : Coding = g.F.Field.coding in
    let M : Meaning = g.S.Suite.meaning c.args.self.now.instance.suite.now in
    let set : Set = c.args.self.now.instance.set.set in
    let cs : List ℕ = c.args.self.now.instance.map.cs.now in
    let s : List ℕ = c.args.self.now.s.now in
    let K : List ℕ = c.args.self.now.k.now in
    let R : List ℕ = c.args.self.now.randomizer.now in
    let D : List ℕ = c.args.self.now.d.now in
    let p = err_from_is_err_and c.from_residual-in_err-draw_into.result c.from_residual-in_err-draw_into.ensures.1 in
    let b = base_is C M set cs s K R D c.commit.new.list c.digest_within-base.result (c.in_ok-commit.ensures.list refl) c.digest_within-base.ensures in
    let o = alphas_stop C M set cs s K R D c.digest_within-base.result c.digest_within-h1.result b c.digest_within-h1.ensures _ c.in_ok-commit.ensures.answer c.in_err-draw_into.ensures.answer in
    let w = comes_refused _ (length c.args.answer.now) _ c.args.answer.now o c.requires.zeros in
    rw (p.1, p.2) (record { answer = w.answer; bytes = w.held })

pub finish-requires-clause-base : goal.finish-requires-clause-base
finish-requires-clause-base g c = base_is _ _ _ _ _ _ c.args.self.now.randomizer.now _ _ _ (c.in_ok-commit.ensures.list refl) c.digest_within-base.ensures

pub finish-requires-clause-h1 : goal.finish-requires-clause-h1
finish-requires-clause-h1 g c = h1_is _ _ _ _ _ _ c.args.self.now.randomizer.now _ _ _ (base_is _ _ _ _ _ _ c.args.self.now.randomizer.now _ _ _ (c.in_ok-commit.ensures.list refl) c.digest_within-base.ensures) c.digest_within-h1.ensures

pub returns : goal.returns
returns g c =
    let C : Coding = g.F.Field.coding in
    let M : Meaning = g.S.Suite.meaning c.args.self.now.instance.suite.now in
    let set : Set = c.args.self.now.instance.set.set in
    let cs : List ℕ = c.args.self.now.instance.map.cs.now in
    let s : List ℕ = c.args.self.now.s.now in
    let K : List ℕ = c.args.self.now.k.now in
    let R : List ℕ = c.args.self.now.randomizer.now in
    let D : List ℕ = c.args.self.now.d.now in
    let b = base_is C M set cs s K R D c.commit.new.list c.digest_within-base.result (c.in_ok-commit.ensures.list refl) c.digest_within-base.ensures in
    let o = rounds_made C M set cs s K R D c.digest_within-base.result c.digest_within-h1.result b c.digest_within-h1.ensures c.in_ok-commit.ensures.answer c.in_ok-draw_into.ensures.answer in
    let w = comes_made (rounds_of C M set cs s K R D) (length c.args.answer.now) c.finish.new.answer (o ∙ ap Ok (sym c.finish.ensures)) in
    record { answer = w.answer; bytes = w.held }
