-- What is known of a key that was made and of a signature that was given: all drawings gave enough, and what both are.
use Rattle.std.proofs.Common.{◌≡◌, ℕ, ◌<◌, ◌≤◌, true, List, ◌++◌, length, Ok, Result, ◌∙◌, ap₂, arith}
use Rattle.std.proofs.lemmas.List.{length-drop}
use Rattle.std.proofs.lemmas.Bool.{leb-true, eqb-true}
use Rattle.refusal.specs.declared.Refusal.{Refusal}
use Rattle.refusal.specs.declared.Refusal.TheVariants.{BadSet, MessageTooLong, KeyLength}
use Rattle.refusal.specs.Outcome.{told}
use Rattle.field.specs.Coding.{Coding}
use Rattle.packing.specs.Packed.{packed}
use Rattle.params.specs.declared.Set.{Set}
use Rattle.params.specs.Sets.{good, set_of}
use Rattle.params.specs.Sizes.{coefficients_of}
use Rattle.suite.specs.Meaning.{Meaning}
use Rattle.suite.specs.Drawn.{candidates, drawn}
use Rattle.algebra.specs.Quad.{F}
use Rattle.keys.specs.Keys.{K_of, S_of, length_of, buffers_of, make_of}
use Rattle.scheme.specs.Challenges.{h1_of}
use Rattle.scheme.specs.Signing.{round_seed, pool_size, pools_of, σ0, coefficients, secret_vector, D, signature, message_of, sign_buffers_of, sign_of}
use Rattle.scheme.proofs.Outcomes.{then_both, then_parts, unless_ok}
use Rattle.scheme.proofs.Each.{each_all}
use Rattle.scheme.proofs.Draws.{drawn_is, drawn_enough}

-- of a signature, by the two seeds of the secret key
pub record Given (C : Coding) (M : Meaning) (set : Set) (message K S sig : List ℕ) : Type 0 where
  pub set_good : good set ≡ true
  pub message_short : length message ≤ 65536
  pub seed_long : length S ≡ 32
  pub secret_drawn : set.n ≤ length (candidates C M 9 K set.n)
  pub map_drawn : coefficients_of set ≤ length (candidates C M 8 S (coefficients_of set))
  pub pools_drawn : (i : ℕ) → i < set.r → pool_size set ≤ length (candidates C M 10 (round_seed M K (D C M set K S message) i) (pool_size set))
  pub challenges_drawn : set.r
      ≤ length (candidates C M 11 (h1_of M (D C M set K S message) (σ0 C M set (coefficients C M set K S message) (secret_vector C M set K S message) K (D C M set K S message))) set.r)
  pub sig_is : sig ≡ signature C M set K S message

module _ (C : Coding) (M : Meaning) (set : Set) (message : List ℕ) where
  pub given : (map list room answer : ℕ) (secret sig : List ℕ) → sign_of C M set message map list room answer secret ≡ Ok sig → Given C M set message (K_of secret) (S_of secret) sig
  given map list room answer secret sig h =
      let K : List ℕ = K_of secret in
      let S : List ℕ = S_of secret in
      let D' : List ℕ = D C M set K S message in
      let h1 : List ℕ = h1_of M D' (σ0 C M set (coefficients C M set K S message) (secret_vector C M set K S message) K D') in
      let p1 = then_parts (set_of set) _ sig h in
      let p2 = then_parts (message_of message) _ sig p1.1 in
      let p3 = then_parts (sign_buffers_of C.bits set map list room answer) _ sig p2.1 in
      let p4 = then_parts (length_of 64 secret) _ sig p3.1 in
      let p5 = then_parts (told (drawn C M 9 K set.n)) _ sig p4.1 in
      let p6 = then_parts (told (drawn C M 8 S (coefficients_of set))) _ sig p5.1 in
      let p7 = then_parts (pools_of C M set K D') _ sig p6.1 in
      let p8 = then_parts (told (drawn C M 11 h1 set.r)) _ sig p7.1 in
      let is : ◌≡◌ {A = Result (List ℕ) Refusal} (Ok (signature C M set K S message)) (Ok sig) = p8.1 in
      let long : length secret ≡ 64 = eqb-true (length secret) 64 (unless_ok _ KeyLength p4.0) in
      record {
        set_good = unless_ok (good set) BadSet p1.0;
        message_short = leb-true (length message) 65536 (unless_ok _ MessageTooLong p2.0);
        seed_long = length-drop 32 secret ∙ omega arith;
        secret_drawn = drawn_enough C M 9 K set.n p5.0;
        map_drawn = drawn_enough C M 8 S (coefficients_of set) p6.0;
        pools_drawn = λ i l. drawn_enough C M 10 (round_seed M K D' i) (pool_size set) (each_all (λ i. told (drawn C M 10 (round_seed M K D' i) (pool_size set))) set.r p7.0 i l);
        challenges_drawn = drawn_enough C M 11 h1 set.r p8.0;
        sig_is = cc;
      }

  -- a key that was made: the seed S and the packed F(s)
  pub made_is : (map room answer : ℕ) (secret key : List ℕ) → make_of C M set map room answer secret ≡ Ok key
      → key ≡ S_of secret ++ packed C.bits (F C.ops set.m set.n (coefficients C M set (K_of secret) (S_of secret) message) (secret_vector C M set (K_of secret) (S_of secret) message))
  made_is map room answer secret key h =
      let K : List ℕ = K_of secret in
      let S : List ℕ = S_of secret in
      let p1 = then_parts (set_of set) _ key h in
      let p2 = then_parts (buffers_of C.bits set map room answer) _ key p1.1 in
      let p3 = then_parts (length_of 64 secret) _ key p2.1 in
      let p4 = then_both (drawn C M 9 K set.n) _ key p3.1 in
      let p5 = then_both (drawn C M 8 S (coefficients_of set)) _ key p4.1.1 in
      let s-is = drawn_is C M 9 K set.n p4.0 p4.1.0 in
      let cs-is = drawn_is C M 8 S (coefficients_of set) p5.0 p5.1.0 in
      let is : ◌≡◌ {A = Result (List ℕ) Refusal} (Ok (S ++ packed C.bits (F C.ops set.m set.n p5.0 p4.0))) (Ok key) = p5.1.1 in
      let e : key ≡ S ++ packed C.bits (F C.ops set.m set.n p5.0 p4.0) = cc in
      e ∙ ap₂ (λ (cs s : List ℕ). S ++ packed C.bits (F C.ops set.m set.n cs s)) cs-is s-is
