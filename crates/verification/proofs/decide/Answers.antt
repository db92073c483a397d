use Rattle.std.proofs.Common.{◌≡◌, ℕ, ◌-◌, ◌≤◌, List, length, take, drop, replicate, refl, ap, ◌∙◌}
use Rattle.std.proofs.lemmas.List.{take_rest}
use Rattle.field.specs.Coding.{Coding}
use Rattle.packing.specs.Packed.{elements}
use Rattle.params.proofs.Bounds.{bounds}
use Rattle.suite.specs.Meaning.{Meaning}
use Rattle.keys.specs.Keys.{vector_of}
use Rattle.scheme.proofs.Lawfuls.{key_codes}
use Rattle.verification.proofs.Loaded.{front_is, front_long, loaded}
use Rattle.verification.proofs.Heard.{decided}
use Rattle.verification.proofs.decide.Goals as goal

-- the key's vector, as it is loaded from what follows the seed
key_vector : (b m : ℕ) (out key : List ℕ) → m ≤ 64 → out ≡ elements b (length (take (m - 0) (replicate {A = ℕ} 64 0))) (take (length key - 32) (drop 32 key)) → out ≡ elements b m (vector_of key)
key_vector b m out key h e =
    e
    ∙ ap (λ (k : ℕ). elements b k (take (length key - 32) (drop 32 key))) (front_long m (replicate {A = ℕ} 64 0) h)
    ∙ ap (elements b m) (take_rest key 32)

pub new-instance-requires : goal.new-instance-requires
new-instance-requires g c =
    let drawn = c.in_ok-draw_into.ensures.elements refl in
    rw (front_is c.coefficients-count.result c.draw_into.new.buffer)
    (record { long = drawn.long ∙ c.coefficients-count.ensures.value; codes = drawn.codes })

pub decide_drawn-requires-clause-v : goal.decide_drawn-requires-clause-v
decide_drawn-requires-clause-v g c =
    let C : Coding = g.F.Field.coding in
    let set = c.args.signature.now.set in
    let key : List ℕ = c.args.key.now in
    rw c.new-instance.ensures.set
    (loaded C.q C.bits set.set.m c.load.new.out (vector_of key) (key_vector C.bits set.set.m c.load.new.out key (bounds set.set set.good).few_m c.load.ensures) (key_codes C.q C.bits set.set key c.requires.key))

pub returns : goal.returns
returns g c =
    let C : Coding = g.F.Field.coding in
    let M : Meaning = g.S.Suite.meaning c.args.suite.now in
    let set = c.args.signature.now.set in
    let count : ℕ = c.coefficients-count.result in
    let key : List ℕ = c.args.key.now in
    let seed = rw c.unwrap-seed.ensures at c.first_chunk.ensures.cases in
    decided C M set.set c.args.message.now c.args.signature.now.bytes.now key c.decide_drawn.result c.unwrap-seed.result.now (take (count - 0) c.draw_into.new.buffer) c.load.new.out count
    seed.same c.coefficients-count.ensures.value c.in_ok-draw_into.ensures.answer
    (front_is count c.draw_into.new.buffer ∙ c.in_ok-draw_into.ensures.front refl)
    (key_vector C.bits set.set.m c.load.new.out key (bounds set.set set.good).few_m c.load.ensures)
    (c.decide_drawn.ensures ∙ rw (c.new-instance.ensures.set, c.new-instance.ensures.suite, c.new-instance.ensures.cs))
