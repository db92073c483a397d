-- Verification: the parts of a signature, what its responses open, the list, and what the call comes to.
use Rattle.std.specs.Prelude.{◌≡◌, ℕ, ◌+◌, ◌*◌, ◌≤◌, true, cond, List, ◌++◌, length, take, Ok, Result, ◌==◌, nat_le}
use Rattle.std.specs.Str.{bytes_eq}
use Rattle.refusal.specs.declared.Buffer.TheVariants.{Map, List as ListBuffer}
use Rattle.refusal.specs.declared.Layer.TheVariants.{Signature}
use Rattle.refusal.specs.declared.Refusal.{Refusal}
use Rattle.refusal.specs.declared.Refusal.TheVariants.{BufferLength, NotAccepted}
use Rattle.refusal.specs.Outcome.{and_then, unless, told}
use Rattle.field.specs.Coding.{Coding, reads}
use Rattle.packing.specs.Packed.{width, elements}
use Rattle.params.specs.declared.Set.{Set}
use Rattle.params.specs.Sets.{good, set_of}
use Rattle.params.specs.Sizes.{coefficients_of, key_length, signature_length}
use Rattle.wire.specs.Layout.{part, t1_at, e1_at, response_at, Faulty, vectors_of}
use Rattle.suite.specs.Meaning.{Meaning}
use Rattle.suite.specs.Drawn.{candidates, drawn}
use Rattle.algebra.specs.Quad.{F, G, vsub, scale}
use Rattle.keys.specs.Keys.{key_of, KeyFaulty, vector_of}
use Rattle.scheme.specs.Rounds.{rounds, taken, chosen_by_bit}
use Rattle.scheme.specs.Challenges.{D_of, h1_of, h2_of, bit_of, alpha_of}
use Rattle.scheme.specs.Signing.{X0, X1, message_of}

-- the parts of a signature with elements of b bits: R, σ0, σ1, and for round i t1, e1, the response and the other side's commitment
abbrev pub R_in : List ℕ → List ℕ
R_in sig = part sig 0 32

abbrev pub σ0_in : List ℕ → List ℕ
σ0_in sig = part sig 32 32

module _ (b : ℕ) (set : Set) where
  abbrev pub answers_length : ℕ
  answers_length = set.r * (width b set.n + width b set.m)

  -- where the commitment that round i carries begins
  abbrev pub other_at : ℕ → ℕ
  other_at i = response_at b set set.r + i * 32

  abbrev pub σ1_in : List ℕ → List ℕ
  σ1_in sig = part sig 64 answers_length

  abbrev pub t1_in : List ℕ → ℕ → List ℕ
  t1_in sig i = elements b set.n (part sig (t1_at b set i) (width b set.n))

  abbrev pub e1_in : List ℕ → ℕ → List ℕ
  e1_in sig i = elements b set.m (part sig (e1_at b set i) (width b set.m))

  abbrev pub response_in : List ℕ → ℕ → List ℕ
  response_in sig i = elements b set.n (part sig (response_at b set i) (width b set.n))

  abbrev pub other_in : List ℕ → ℕ → List ℕ
  other_in sig i = part sig (other_at i) 32

-- what a response r opens, by the challenge α, the answers t and e, the map's coefficients cs and the key's vector v
module _ (C : Coding) (set : Set) (cs v : List ℕ) (α : ℕ) (t e r : List ℕ) where
  -- bit 0: r, α·r - t, α·F(r) - e
  unfoldable pub opening0 : List ℕ
  opening0 =
      X0 C.bits r (vsub C.ops set.n (scale C.ops set.n α r) t)
      (vsub C.ops set.m (scale C.ops set.m α (F C.ops set.m set.n cs r)) e)

  -- bit 1: r, α(v - F(r)) - G(t, r) - e
  unfoldable pub opening1 : List ℕ
  opening1 =
      X1 C.bits r
      (vsub C.ops set.m
      (vsub C.ops set.m (scale C.ops set.m α (vsub C.ops set.m v (F C.ops set.m set.n cs r))) (G C.ops set.m set.n cs t r)) e)

  abbrev pub opened : ℕ → List ℕ
  opened bit = chosen_by_bit bit opening0 opening1

-- commitment `side` of a round: what was recomputed where the bit is that side, else what the signature carries
abbrev pub commitment_of : ℕ → ℕ → List ℕ → List ℕ → List ℕ
commitment_of bit side recomputed carried = cond (bit == side) recomputed carried

-- a signature under the challenges α and bits, with the map's coefficients cs and the key's vector v
module _ (C : Coding) (M : Meaning) (set : Set) (cs v sig : List ℕ) (α bit : ℕ → ℕ) where
  -- the commitment of round i that the response opens
  unfoldable pub recomputed : ℕ → List ℕ
  recomputed i = M.d (bit i) (opened C set cs v (α i) (t1_in C.bits set sig i) (e1_in C.bits set sig i) (response_in C.bits set sig i) (bit i))

  unfoldable pub commitment : ℕ → ℕ → List ℕ
  commitment i side = commitment_of (bit i) side (recomputed i) (other_in C.bits set sig i)

  -- the list of all rounds
  unfoldable pub commitments : List ℕ
  commitments = rounds set.r (λ i. commitment i 0 ++ commitment i 1)

-- a message and its signature under a public key S ‖ v
module _ (C : Coding) (M : Meaning) (set : Set) (key message sig : List ℕ) where
  abbrev pub seed : List ℕ
  seed = take 32 key

  abbrev pub v : List ℕ
  v = elements C.bits set.m (vector_of key)

  abbrev pub D : List ℕ
  D = D_of M (R_in sig) message

  abbrev pub h1 : List ℕ
  h1 = h1_of M D (σ0_in sig)

  -- the list that verification works out
  unfoldable pub listed : List ℕ
  listed =
      commitments C M set (taken C M 8 seed (coefficients_of set)) v sig (alpha_of C M set.r h1)
      (bit_of M (h2_of M D (σ0_in sig) (σ1_in C.bits set sig)))

  -- the drawings, in their order, and then the digest of the list
  abbrev pub decided_of : Result (Unit {0}) Refusal
  decided_of =
      and_then (told (drawn C M 8 seed (coefficients_of set))) (λ _.
      and_then (told (drawn C M 11 h1 set.r)) (λ _.
      unless (bytes_eq (M.d 2 listed) (σ0_in sig)) NotAccepted))

-- the lengths of map and list, of which the smallest wrong place is told
abbrev pub verify_buffers_of : Set → ℕ → ℕ → Result (Unit {0}) Refusal
verify_buffers_of set map list =
    and_then (unless (nat_le (reads (coefficients_of set)) map) (BufferLength Signature Map)) (λ _.
    unless (nat_le (64 * set.r) list) (BufferLength Signature ListBuffer))

-- accepted, or the first refusal: set, message, buffers, the key's length and elements, the signature's length and vectors, the
-- drawings, the digest of the list; map and list are the buffers' lengths
abbrev pub verify_of : Coding → Meaning → Set → List ℕ → ℕ → ℕ → List ℕ → List ℕ → Result (Unit {0}) Refusal
verify_of C M set message map list key sig =
    and_then (set_of set) (λ _.
    and_then (message_of message) (λ _.
    and_then (verify_buffers_of set map list) (λ _.
    and_then (key_of C.q C.bits set key) (λ _.
    and_then (vectors_of C.q C.bits set sig) (λ _.
    decided_of C M set key message sig)))))

-- What verification accepts: a lawful call; a key and a signature of their lengths in which no vector of any round is faulty; a map
-- and challenges that can be drawn; and σ0 is the digest of the list of all rounds.
pub record Accepts (C : Coding) (M : Meaning) (set : Set) (message : List ℕ) (map list : ℕ) (key sig : List ℕ) : Type 0 where
  pub set_good : good set ≡ true
  pub message_short : length message ≤ 65536
  pub map_fits : reads (coefficients_of set) ≤ map
  pub list_fits : 64 * set.r ≤ list
  pub key_long : length key ≡ key_length C.bits set
  pub key_lawful : (number place : ℕ) → KeyFaulty C.q C.bits set key number place → ⊥
  pub long : length sig ≡ signature_length C.bits set
  pub lawful : (number place : ℕ) → Faulty C.q C.bits set sig number place → ⊥
  pub map_drawn : coefficients_of set ≤ length (candidates C M 8 (seed C M set key message sig) (coefficients_of set))
  pub challenges_drawn : set.r ≤ length (candidates C M 11 (h1 C M set key message sig) set.r)
  pub digest : M.d 2 (listed C M set key message sig) ≡ σ0_in sig

-- accepted exactly then
pub record Verifies (C : Coding) (M : Meaning) (set : Set) (message : List ℕ) (map list : ℕ) (key sig : List ℕ) (r : Result (Unit {0}) Refusal) : Type 0 where
  pub sound : r ≡ Ok tt → Accepts C M set message map list key sig
  pub complete : Accepts C M set message map list key sig → r ≡ Ok tt
