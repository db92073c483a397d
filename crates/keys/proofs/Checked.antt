-- What the check of a public key comes to where set and length are right.
use Rattle.std.proofs.Common.{◌≡◌, ℕ, ◌-◌, List, length, take, drop, Ok, Result, sym, ap, ◌∙◌, subst, ap₂}
use Rattle.std.proofs.lemmas.List.{take_rest}
use Rattle.std.proofs.lemmas.Bool.{eq-eqb}
use Rattle.refusal.specs.declared.Refusal.{Refusal}
use Rattle.packing.specs.Packed.{fault, refusing, key_refusal_of}
use Rattle.packing.specs.Laws.{Judges}
use Rattle.packing.proofs.Earliest.{judged_key}
use Rattle.params.specs.declared.Set.{Set}
use Rattle.params.specs.Sets.{set_of}
use Rattle.params.specs.Sizes.{key_length}
use Rattle.keys.specs.Keys.{key_of, vector_of, KeyFaulty}

module _ (q b : ℕ) (s : Set) (key : List ℕ) (g : set_of s ≡ Ok tt) (l : length key ≡ key_length b s) where
  abbrev verdict : ℕ → ℕ → List ℕ → Result (Unit {0}) Refusal
  verdict q' b' v = refusing (key_refusal_of s.m) (fault q' b' s.m v)

  decides : key_of q b s key ≡ verdict q b (vector_of key)
  decides = rw (g, eq-eqb (length key) (key_length b s) l)

  pub record Checked (r : Result (Unit {0}) Refusal) : Type 0 where
    pub answer : r ≡ key_of q b s key
    pub judged : Judges (KeyFaulty q b s key) r

  -- the verdict as a program comes to it, by its own numbers of order and bits, on the part behind the seed
  pub checked : (q' b' : ℕ) (r : Result (Unit {0}) Refusal) → q' ≡ q → b' ≡ b → r ≡ verdict q' b' (take (length key - 32) (drop 32 key)) → Checked r
  checked q' b' r eq eb e =
      let f : r ≡ verdict q b (vector_of key) = e ∙ ap (verdict q' b') (take_rest key 32) ∙ ap₂ (λ (x y : ℕ). verdict x y (vector_of key)) eq eb in
      record {
        answer = f ∙ sym decides;
        judged = subst (Judges (KeyFaulty q b s key)) (sym f) (judged_key q b s.m (vector_of key));
      }
