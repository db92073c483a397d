-- Where no vector is faulty, the elements of every vector are codes.
use Rattle.std.proofs.Common.{◌≡◌, ℕ, ◌+◌, ◌^◌, ◌<◌, ◌≤◌, true, List, length, get_or, Ok, Result, refl, subst, inl, inr, arith}
use Rattle.std.proofs.lemmas.Bool.{cases_lt}
use Rattle.refusal.specs.declared.Refusal.{Refusal}
use Rattle.refusal.specs.Outcome.{and_then}
use Rattle.field.specs.Codes.{Codes}
use Rattle.packing.specs.Numeral.{amount}
use Rattle.packing.specs.Packed.{elements, byte_of, fault, refusing, key_refusal_of}
use Rattle.packing.specs.Laws.{Judges}
use Rattle.packing.proofs.Numerals.{length_digits}
use Rattle.packing.proofs.Earliest.{judged_key}
use Rattle.params.specs.declared.Set.{Set}
use Rattle.params.specs.Sets.{good, set_of}
use Rattle.params.specs.Sizes.{key_length}
use Rattle.params.proofs.Bounds.{bounds}
use Rattle.wire.specs.Layout.{t1_at, e1_at, response_at, Faulty, scanned}
use Rattle.wire.proofs.Everywhere.{judged_whole}
use Rattle.keys.specs.Keys.{length_of, vector_of, KeyFaulty, key_of}
use Rattle.scheme.proofs.Outcomes.{then_parts}
use Rattle.scheme.specs.Verifying.{t1_in, e1_in, response_in}

-- where nothing is refused, nothing is wrong
pub none_wrong : (W : ℕ → ℕ → Type 0) (r : Result (Unit {0}) Refusal) → r ≡ Ok tt → Judges W r → (number place : ℕ) → W number place → ⊥
none_wrong W r e j = subst (Judges W) e j

-- elements of which none is q or more
codes_in : (q b k : ℕ) (bytes : List ℕ) → ((i : ℕ) → i < k → q ≤ get_or (elements b k bytes) i 0 → ⊥) → Codes q (elements b k bytes)
codes_in q b k bytes h i l =
    let long : length (elements b k bytes) ≡ k = length_digits (2 ^ b) k (amount 256 bytes) in
    elim (cases_lt (get_or (elements b k bytes) i 0) q) [
      | inl lt ↦ lt
      | inr ge ↦ absurd (h i (omega arith) ge)
    ]

-- the vectors of round i
pub record RoundCodes (q b : ℕ) (set : Set) (sig : List ℕ) (i : ℕ) : Type 0 where
  pub t : Codes q (t1_in b set sig i)
  pub e : Codes q (e1_in b set sig i)
  pub r : Codes q (response_in b set sig i)

module _ (q b : ℕ) (set : Set) (sig : List ℕ) where
  pub vectors_codes : ((number place : ℕ) → Faulty q b set sig number place → ⊥) → (i : ℕ) → i < set.r → RoundCodes q b set sig i
  vectors_codes h i l = record {
    t = codes_in q b set.n _ (λ k m w. h 10 (t1_at b set i + byte_of b k) (i, l, inl (inl (refl, (k, m, w, refl)))));
    e = codes_in q b set.m _ (λ k m w. h 10 (e1_at b set i + byte_of b k) (i, l, inr (inl (inl (refl, (k, m, w, refl))))));
    r = codes_in q b set.n _ (λ k m w. h 10 (response_at b set i + byte_of b k) (i, l, inr (inr (inl (refl, (k, m, w, refl))))));
  }

  pub scanned_codes : good set ≡ true → 1 ≤ b → scanned q b set sig ≡ Ok tt → (i : ℕ) → i < set.r → RoundCodes q b set sig i
  scanned_codes g some e =
      let k = bounds set g in
      vectors_codes (none_wrong (Faulty q b set sig) (scanned q b set sig) e (judged_whole q b set sig some k.some_n k.some_m))

-- and those of a key
module _ (q b : ℕ) (set : Set) (key : List ℕ) where
  pub key_lawful_codes : ((number place : ℕ) → KeyFaulty q b set key number place → ⊥) → Codes q (elements b set.m (vector_of key))
  key_lawful_codes h = codes_in q b set.m (vector_of key) (λ k m w. h 8 k (refl, inl (m, w)))

  -- where the key's vector is not refused
  pub fault_codes : refusing (key_refusal_of set.m) (fault q b set.m (vector_of key)) ≡ Ok tt → Codes q (elements b set.m (vector_of key))
  fault_codes e = key_lawful_codes (none_wrong (KeyFaulty q b set key) _ e (judged_key q b set.m (vector_of key)))

  pub key_codes : key_of q b set key ≡ Ok tt → Codes q (elements b set.m (vector_of key))
  key_codes e =
      let verdict : Result (Unit {0}) Refusal = refusing (key_refusal_of set.m) (fault q b set.m (vector_of key)) in
      let p = then_parts (set_of set) (λ _. and_then (length_of (key_length b set) key) (λ _. verdict)) tt e in
      fault_codes (then_parts (length_of (key_length b set) key) (λ _. verdict) tt p.1).1
